-- A get and a scan among the puts of a key.
use Rattle.kw_model.specs.Map.{value_of}
use Rattle.std.proofs.Common.{ℕ, ◌≡◌, ◌+◌, ◌<◌, ◌≤◌, ◌⊎◌, inl, inr, List, Option, Some, None, true, false, arith, sym, ◌∙◌, ap, subst, refl}
use Rattle.std.proofs.lemmas.Bool.{cases_lt}
use Rattle.std.proofs.lemmas.Option.{same_Some}
use Rattle.kw_core.specs.History.{History, attempt, called, Call, Get, Scan, Pin, Reply, Pairs, NoRows, Spent, Stopped}
use Rattle.kw_core.specs.declared.history.End.{End}
use Rattle.kw_core.specs.declared.history.Drawn.{Drawn}
use Rattle.kw_core.specs.HistoryLaws.{IsPutOf, StandsBefore, StandsUpTo, shows, IsGapOf, HasVersionUpTo, HistoryLaws, EndsWith, Scanned, ScanKey, Attempted, DrawLogged, answer_of, Answers}
use Rattle.kw_order.specs.Order.{IsPoint, IsGap, Rank, Below, HasRank, of_put, behind, at_first, of_scan, of_pin, of_first, StandsFirst, put_rank, Separates, IsTop}
use Rattle.kw_order.proofs.PutPoints.{times, point_order, draw_above, draw_below, load_before_draw}
use Rattle.kw_order.proofs.Keys.{StandsAtMost, upto_gives, past_gap, point_of}
use Rattle.kw_order.proofs.Calls.{get_no_put, scan_no_put, point_not_first, point_at_most, GapFacts, gap_facts}

-- a get ended once
pub same_get : (h : History) (x key key' at at' : ℕ) (r r' : Reply) → EndsWith h x (Get key) at r → EndsWith h x (Get key') at' r' → (key' ≡ key) × (at' ≡ at) × (r' ≡ r)
same_get h x key key' at at' r r' e f = let c : Get key' ≡ Get key = sym f.0 ∙ e.0 in let d : End = record { at = at; reply = r } in
    let g = same_Some _ _ (sym f.1 ∙ e.1) in (cc, ap (λ (q : End). q.at) g, ap (λ (q : End). q.reply) g)

-- and was not refused
pub get_not_first : (h : History) → HistoryLaws h → (x key at : ℕ) (r : Reply) → EndsWith h x (Get key) at r → StandsFirst (Get key) r → ⊥
get_not_first h l x key at r e i = which r i (subst (λ c. Answers c (called h x).put r) e.0 (l.ends x _ e.1).1)
  where
    which : (r : Reply) → StandsFirst (Get key) r → Answers (Get key) (called h x).put r → ⊥
    which NoRows i a = a
    which Spent i a = a
    which Stopped i a = a
    which _ i a = i

-- a call ended once, so it stands at its first event by any of its ends
pub first_moved : (h : History) (x at at' : ℕ) (c c' : Call) (r r' : Reply) → EndsWith h x c at r → EndsWith h x c' at' r' → StandsFirst c r → StandsFirst c' r'
first_moved h x at at' c c' r r' e f i =
    let s = same_Some _ _ (sym e.1 ∙ f.1) in
    subst (λ q. StandsFirst q r') (sym e.0 ∙ f.0) (subst (StandsFirst c) (ap (λ (q : End). q.reply) s) i)

-- ranks that rise by their second part, and by their third
pub rises_by_add : (a b m n t u : ℕ) → a ≤ b → m < n → Below (record { at = a; add = m; tail = t }) (record { at = b; add = n; tail = u })
rises_by_add a b m n t u x y = which (cases_lt a b)
  where
    which : (a < b) ⊎ (b ≤ a) → Below (record { at = a; add = m; tail = t }) (record { at = b; add = n; tail = u })
    which (inl z) = inl z
    which (inr z) = inr (inl (omega arith, y))

-- by their last number
pub rises_by_tail : (a b m n t u : ℕ) → a ≤ b → m ≤ n → t < u → Below (record { at = a; add = m; tail = t }) (record { at = b; add = n; tail = u })
rises_by_tail a b m n t u x y w = which (cases_lt a b) (cases_lt m n)
  where
    which : (a < b) ⊎ (b ≤ a) → (m < n) ⊎ (n ≤ m) → Below (record { at = a; add = m; tail = t }) (record { at = b; add = n; tail = u })
    which (inl z) _ = inl z
    which (inr z) (inl v) = inr (inl (omega arith, v))
    which (inr z) (inr v) = inr (inr (omega arith, omega arith, w))

-- a get behind the put p of its gap
behind_separates : (h : History) → HistoryLaws h → (key p a n : ℕ) → IsPutOf h key p → IsPoint h p a → Separates h key (Some p) (record { at = a; add = (attempt h p).add; tail = n + 1 })
behind_separates h l key p a n s i = record { below = λ q b t j u. below q b t j (upto_gives h p q u); above = λ q b t j u. above q b t j (past_gap h l p q s.is_put t.is_put u) }
  where
    below : (q b : ℕ) → IsPutOf h key q → IsPoint h q b → StandsAtMost h q p → Below (put_rank h q b) (record { at = a; add = (attempt h p).add; tail = n + 1 })
    below q b t j (inl u) = inl ((point_order h l q p b a t.is_put s.is_put (t.key ∙ sym s.key) (inl u) j i).1 u)
    below q b t j (inr u) = rises_by_tail b a _ _ 0 (n + 1) (point_at_most h l q p b a t.is_put s.is_put (t.key ∙ sym s.key) (inr u) j i) u.1 (omega arith)

    above : (q b : ℕ) → IsPutOf h key q → IsPoint h q b → StandsBefore h p q → Below (record { at = a; add = (attempt h p).add; tail = n + 1 }) (put_rank h q b)
    above q b t j (inl u) = inl ((point_order h l p q a b s.is_put t.is_put (s.key ∙ sym t.key) (inl u) i j).1 u)
    above q b t j (inr u) = rises_by_add a b _ _ (n + 1) 0 (point_order h l p q a b s.is_put t.is_put (s.key ∙ sym t.key) (inr u) i j).0 u.1

-- a get that stands at its first event
first_separates : (h : History) → HistoryLaws h → (x key at : ℕ) (reply : Reply) (o : Option ℕ) → EndsWith h x (Get key) at reply → GapFacts h x key at reply o →
    ((p a : ℕ) → o ≡ Some p → IsPoint h p a → a ≤ (called h x).first) → Separates h key o (record { at = (called h x).first; add = 0; tail = (called h x).first + 1 })
first_separates h l x key at reply o e f w = record { below = λ q b t j u. below q b t j o refl u; above = λ q b t j n. inl (f.clears q b (record { put = t; after = n }) j) }
  where
    below : (q b : ℕ) → IsPutOf h key q → IsPoint h q b → (g : Option ℕ) → o ≡ g → StandsUpTo h g q → Below (put_rank h q b) (record { at = (called h x).first; add = 0; tail = (called h x).first + 1 })
    below q b t j None g u = absurd u
    below q b t j (Some p) g u = from (point_of h p s.is_put)
      where
        s : IsPutOf h key p
        s = subst (IsGapOf h key) g f.gap

        from : (a : ℕ) × IsPoint h p a → Below (put_rank h q b) (record { at = (called h x).first; add = 0; tail = (called h x).first + 1 })
        from (a, i) =
            let y = point_at_most h l q p b a t.is_put s.is_put (t.key ∙ sym s.key) (upto_gives h p q u) j i in
            let z = w p a g i in
            let n = point_not_first h l q b x _ t.is_put j e.1 in
            inl (omega (arith, y, z, n))

-- a get among the puts of its key
pub get_separates : (h : History) → HistoryLaws h → (x key at : ℕ) (reply : Reply) (r : Rank) → EndsWith h x (Get key) at reply → HasRank h x r →
    (g : Option ℕ) × (IsGap h x key reply g) × (IsGapOf h key g) × (reply ≡ answer_of (shows h g)) × Separates h key g r
get_separates h l x key at reply r e (of_put p a w i) = absurd (get_no_put h l x p key e.0 w)
get_separates h l x key at reply r e (behind key' at' reply' p a f g i y) =
    let s = same_get h x key key' at at' reply reply' e f in
    let g' : IsGap h x key reply (Some p) = subst (λ q. IsGap h x q reply (Some p)) s.0 (subst (λ q. IsGap h x key' q (Some p)) s.2 g) in
    let k = gap_facts h l x key at reply (Some p) e g' in
    (Some p, g', k.gap, k.reply, behind_separates h l key p a (called h x).first k.gap i)
get_separates h l x key at reply r e (at_first key' at' reply' o f g y) =
    let s = same_get h x key key' at at' reply reply' e f in
    let g' : IsGap h x key reply o = subst (λ q. IsGap h x q reply o) s.0 (subst (λ q. IsGap h x key' q o) s.2 g) in
    let k = gap_facts h l x key at reply o e g' in
    (o, g', k.gap, k.reply, first_separates h l x key at reply o e k y)
get_separates h l x key at reply r e (of_scan from to at' pairs d f g) = let c : Get key ≡ Scan from to = sym e.0 ∙ f.0 in cc
get_separates h l x key at reply r e (of_pin at' d f g) = let c : Get key ≡ Pin = sym e.0 ∙ f.0 in cc
get_separates h l x key at reply r e (of_first call at' reply' f i) = absurd (get_not_first h l x key at reply e (first_moved h x at' at call (Get key) reply' reply f e i))

-- a scan gives the values of the tops at its version
pub scan_top : (h : History) → HistoryLaws h → (x from to at : ℕ) (pairs : List (ℕ × ℕ)) (d : Drawn) → EndsWith h x (Scan from to) at (Pairs pairs) → (called h x).draw ≡ Some d →
    (key : ℕ) → from ≤ key → key ≤ to → (o : Option ℕ) × IsTop h key d.version o × (value_of key pairs ≡ shows h o)
scan_top h l x from to at pairs d e g key y z = (k.0, top k.0 k.1.gap (subst (HasVersionUpTo h k.0) version k.1.version) every, k.1.reply)
  where
    c : Scanned h x from to at pairs
    c = l.scanned x from to at pairs e

    same : c.draw ≡ d
    same = same_Some _ _ (sym c.drawn ∙ g)

    version : c.draw.version ≡ d.version
    version = ap (λ (q : Drawn). q.version) same

    k : (o : Option ℕ) × ScanKey h key c.draw.version c.draw.at pairs o
    k = c.keys key y z

    every : (q : ℕ) → IsPutOf h key q → (attempt h q).version ≤ d.version → StandsUpTo h k.0 q
    every q t v = known (k.1.early q (record { key = t.key; is_announced = w.is_announced t.is_put; before = omega (arith, w.load t.is_put, early, ap (λ (q : Drawn). q.at) same) }))
      where
        w : Attempted h q
        w = times h l q t.is_put

        early : (attempt h q).load < d.at
        early = load_before_draw h d (l.drawn x d g) (attempt h q).load (attempt h q).version (l.loaded q t.is_put) v

        known : ((attempt h q).is_lost ≡ true) ⊎ ((attempt h q).is_stamped ≡ true) × ((attempt h q).version ≤ c.draw.version → StandsUpTo h k.0 q) → StandsUpTo h k.0 q
        known (inl e) = let x : false ≡ true = sym (l.kept q t.is_put) ∙ e in absurd (cc)
        known (inr u) = u.1 (omega (arith, v, version))

    top : (o : Option ℕ) → IsGapOf h key o → HasVersionUpTo h o d.version → ((q : ℕ) → IsPutOf h key q → (attempt h q).version ≤ d.version → StandsUpTo h o q) → IsTop h key d.version o
    top None a b f = f
    top (Some p) a b f = (a, b, f)

-- a top is a gap of its key
top_gap : (h : History) (key v : ℕ) (o : Option ℕ) → IsTop h key v o → IsGapOf h key o
top_gap h key v None t = tt
top_gap h key v (Some p) t = t.0

-- what stands at a draw separates the puts of a key by version
top_separates : (h : History) → HistoryLaws h → (key n : ℕ) (d : Drawn) → DrawLogged h d → (o : Option ℕ) → IsTop h key d.version o → Separates h key o (record { at = d.at; add = 0; tail = n })
top_separates h l key n d g None k = record { below = λ q b t j u. absurd u; above = λ q b t j m. which q b t j (cases_lt d.version (attempt h q).version) }
  where
    which : (q b : ℕ) → IsPutOf h key q → IsPoint h q b → (d.version < (attempt h q).version) ⊎ ((attempt h q).version ≤ d.version) → Below (record { at = d.at; add = 0; tail = n }) (put_rank h q b)
    which q b t j (inl v) = inl (draw_below h l d g q b t.is_put j v)
    which q b t j (inr v) = absurd (k q t v)
top_separates h l key n d g (Some p) k = record { below = λ q b t j u. inl (draw_above h l d g q b t.is_put j (omega (arith, upto_gives h p q u, k.1))); above = λ q b t j m. which q b t j m (cases_lt d.version (attempt h q).version) }
  where
    which : (q b : ℕ) → IsPutOf h key q → IsPoint h q b → (StandsUpTo h (Some p) q → ⊥) → (d.version < (attempt h q).version) ⊎ ((attempt h q).version ≤ d.version) → Below (record { at = d.at; add = 0; tail = n }) (put_rank h q b)
    which q b t j m (inl v) = inl (draw_below h l d g q b t.is_put j v)
    which q b t j m (inr v) = absurd (m (k.2 q t v))

-- a scan among the puts of a key of its range
pub scan_separates : (h : History) → HistoryLaws h → (x from to at : ℕ) (pairs : List (ℕ × ℕ)) (r : Rank) → EndsWith h x (Scan from to) at (Pairs pairs) → HasRank h x r →
    (key : ℕ) → from ≤ key → key ≤ to → (o : Option ℕ) × (IsGapOf h key o) × (value_of key pairs ≡ shows h o) × Separates h key o r
scan_separates h l x from to at pairs r e (of_put p a w i) key y z = absurd (scan_no_put h l x p from to e.0 w)
scan_separates h l x from to at pairs r e (behind key' at' reply' p a f g i w) key y z = let c : Get key' ≡ Scan from to = sym f.0 ∙ e.0 in cc
scan_separates h l x from to at pairs r e (at_first key' at' reply' o f g w) key y z = let c : Get key' ≡ Scan from to = sym f.0 ∙ e.0 in cc
scan_separates h l x from to at pairs r e (of_pin at' d f g) key y z = let c : Pin ≡ Scan from to = sym f.0 ∙ e.0 in cc
scan_separates h l x from to at pairs r e (of_first call at' reply' f i) key y z = absurd (first_moved h x at' at call (Scan from to) reply' (Pairs pairs) f e i)
scan_separates h l x from to at pairs r e (of_scan from' to' at' pairs' d f g) key y z =
    let k = scan_top h l x from to at pairs d e g key y z in
    (k.0, top_gap h key d.version k.0 k.1, k.2, top_separates h l key ((called h x).first + 1) d (l.drawn x d g) k.0 k.1)
