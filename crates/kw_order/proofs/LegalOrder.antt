-- The order of a history is legal.
use Rattle.std.proofs.Common.{ℕ, suc, ◌≡◌, ◌≢◌, ◌≤◌, ◌⊎◌, inl, inr, Bool, true, false, not, ◌&&◌, Option, Some, None, List, [], ◌∷◌, refl, sym, ap, ◌∙◌, subst, arith, get_or, Contains, AllPairs, All}
use Rattle.std.proofs.lemmas.Bool.{false≢true}
use Rattle.std.proofs.lemmas.Bool.Decides.{nat_tests}
use Rattle.std.proofs.lemmas.List.Elements.{All-cons}
use Rattle.std.proofs.lemmas.Option.{slice_get-get_or, get_or_from_slice_get, slice_get_within}
use Rattle.kw_model.specs.Map.{Pairs as PairsOf, RisesFrom, found}
use Rattle.kw_model.specs.Legal.{may_refuse, is_update, shown}
use Rattle.kw_model.proofs.Pairs.{lower}
use Rattle.kw_order.specs.Served as served
use Rattle.kw_order.proofs.Legality.{legal_from}
use Rattle.kw_core.specs.History.{History, attempt, called, Call, Put, Del, Get, Scan, Pin, ScanAt, Unpin, Reply, Done, Pairs, NoRows, Spent, Stopped}
use Rattle.kw_core.specs.declared.history.End.{End}
use Rattle.kw_core.specs.HistoryLaws.{HistoryLaws, Makes, Answers, EndsWith, RisesWithin, answer_of}
use Rattle.kw_order.specs.Order.{Rank, Below, HasRank, IsPlaced, IsOrder, Updates, LastBelow, written, written_by}
use Rattle.kw_order.specs.OrderLaws.{OrderLaws}
use Rattle.kw_order.specs.Legal.{reply_or_done, reply_of, call_of, seat_of, IsLegalOrder}
use Rattle.kw_order.proofs.Calls.{call_makes, get_no_put, scan_no_put}
use Rattle.kw_order.proofs.Ranks.{below_not_above, below_chain}
use Rattle.kw_order.proofs.OrderProofs.{order_has_laws}

-- x stands before y, by their ranks
pub record Earlier (h : History) (x y : ℕ) : Type 0 where
  pub low : Rank
  pub high : Rank
  pub is_low : HasRank h x low
  pub is_high : HasRank h y high
  pub below : Below low high

-- what a call writes, and what a get answers, in the words of the map
written_is : (c : Call) → written c ≡ shown c
written_is (Put k v) = refl
written_is (Del k) = refl
written_is (Get k) = refl
written_is (Scan a b) = refl
written_is Pin = refl
written_is (ScanAt a b) = refl
written_is Unpin = refl

-- what a get answers
answer_is : (v : Option ℕ) → answer_of v ≡ found v
answer_is None = refl
answer_is (Some v) = refl

-- pairs that rise within bounds
rises_from : (from to : ℕ) (ps : PairsOf) → RisesWithin from to ps → RisesFrom from ps
rises_from from to [] r = tt
rises_from from to (p ∷ ps) r = (r.0, rises_from (suc p.0) to ps r.2)

-- and so lie within them
all_inside : (from low to : ℕ) (ps : PairsOf) → from ≤ low → RisesWithin low to ps → All (λ p. (from ≤ p.0) × (p.0 ≤ to)) ps
all_inside from low to [] h r = λ k d l. absurd (omega arith)
all_inside from low to (p ∷ ps) h r = All-cons (λ p. (from ≤ p.0) × (p.0 ≤ to)) p ps (omega arith, r.1) (all_inside from (suc p.0) to ps (omega arith) r.2)

-- no test is passed with false
never : (b : Bool) → (b && false) ≡ true → ⊥
never true e = false≢true e
never false e = false≢true e

-- a put or delete that was not refused has a put
has_update : (c : Call) (k : ℕ) (put : Option ℕ) (r : Reply) → is_update k c r ≡ true → Answers c put r → (p : ℕ) × (put ≡ Some p)
has_update (Put q v) k put Done u a = a
has_update (Put q v) k put NoRows u a = absurd (false≢true u)
has_update (Put q v) k put Spent u a = absurd (false≢true u)
has_update (Put q v) k put _ u a = absurd a
has_update (Del q) k put Done u a = a
has_update (Del q) k put NoRows u a = absurd (false≢true u)
has_update (Del q) k put Spent u a = absurd (false≢true u)
has_update (Del q) k put _ u a = absurd a
has_update (Get q) k put r u a = absurd (false≢true u)
has_update (Scan a b) k put r u an = absurd (never (not (may_refuse (Scan a b) r)) u)
has_update Pin k put r u an = absurd an
has_update (ScanAt a b) k put r u an = absurd an
has_update Unpin k put r u an = absurd an

-- the key of an update
key_of_update : (c : Call) (k key : ℕ) (v : Option ℕ) (r : Reply) → is_update k c r ≡ true → Makes c key v → key ≡ k
key_of_update (Put q w) k key v r u m = let e : key ≡ q = m.0 in grind (arith, nat_tests)
key_of_update (Del q) k key v r u m = let e : key ≡ q = m.0 in grind (arith, nat_tests)
key_of_update (Get q) k key v r u m = absurd m
key_of_update (Scan a b) k key v r u m = absurd m
key_of_update Pin k key v r u m = absurd m
key_of_update (ScanAt a b) k key v r u m = absurd m
key_of_update Unpin k key v r u m = absurd m

-- a call with a put was not refused, and updates the key of the put
makes_update : (c : Call) (k key : ℕ) (v : Option ℕ) (p : ℕ) (put : Option ℕ) (e : Option End) → put ≡ Some p → ((f : End) → e ≡ Some f → Answers c put f.reply) → Makes c key v → key ≡ k → is_update k c (reply_or_done e) ≡ true
makes_update (Put q w) k key v p put None i a m s = let e : key ≡ q = m.0 in grind (arith, nat_tests)
makes_update (Put q w) k key v p put (Some f) i a m s = at f.reply (a f refl)
  where
    at : (r : Reply) → Answers (Put q w) put r → is_update k (Put q w) r ≡ true
    at Done an = let e : key ≡ q = m.0 in grind (arith, nat_tests)
    at NoRows an = let n : put ≡ None = an in cc
    at Spent an = let n : put ≡ None = an in cc
    at _ an = absurd an
makes_update (Del q) k key v p put None i a m s = let e : key ≡ q = m.0 in grind (arith, nat_tests)
makes_update (Del q) k key v p put (Some f) i a m s = at f.reply (a f refl)
  where
    at : (r : Reply) → Answers (Del q) put r → is_update k (Del q) r ≡ true
    at Done an = let e : key ≡ q = m.0 in grind (arith, nat_tests)
    at NoRows an = let n : put ≡ None = an in cc
    at Spent an = let n : put ≡ None = an in cc
    at _ an = absurd an
makes_update (Get q) k key v p put e i a m s = absurd m
makes_update (Scan b d) k key v p put e i a m s = absurd m
makes_update Pin k key v p put e i a m s = absurd m
makes_update (ScanAt b d) k key v p put e i a m s = absurd m
makes_update Unpin k key v p put e i a m s = absurd m

-- what is not nothing is something
some_from : (o : Option ℕ) → o ≢ None → (p : ℕ) × (o ≡ Some p)
some_from None n = absurd (n refl)
some_from (Some p) n = (p, refl)

-- a put or delete that ended was refused, or is done
put_reply : (k v : ℕ) (put : Option ℕ) (r : Reply) → Answers (Put k v) put r → (may_refuse (Put k v) r ≡ true) ⊎ (r ≡ Done)
put_reply k v put Done a = inr refl
put_reply k v put NoRows a = inl refl
put_reply k v put Spent a = inl refl
put_reply k v put _ a = absurd a

-- the reply of a delete
delete_reply : (k : ℕ) (put : Option ℕ) (r : Reply) → Answers (Del k) put r → (may_refuse (Del k) r ≡ true) ⊎ (r ≡ Done)
delete_reply k put Done a = inr refl
delete_reply k put NoRows a = inl refl
delete_reply k put Spent a = inl refl
delete_reply k put _ a = absurd a

module _ (h : History) (l : HistoryLaws h) (xs : List ℕ) (o : IsOrder h xs) where
  -- the order keeps its laws
  laws : OrderLaws h xs
  laws = order_has_laws h l xs o

  -- the one is below the other by any of their ranks
  below_between : (x y : ℕ) (r s : Rank) → HasRank h x r → HasRank h y s → Earlier h x y → Below r s
  below_between x y r s i j e = subst (λ q. Below q s) (laws.one_rank x e.low r e.is_low i) (subst (Below e.low) (laws.one_rank y e.high s e.is_high j) e.below)

  -- not both ways
  not_later : (x y : ℕ) → Earlier h x y → Earlier h y x → ⊥
  not_later x y e f = below_not_above e.low e.high e.below (below_between y x e.high e.low e.is_high e.is_low f)

  -- and through a third
  earlier_chain : (x y z : ℕ) → Earlier h x y → Earlier h y z → Earlier h x z
  earlier_chain x y z e f = record { low = e.low; high = f.high; is_low = e.is_low; is_high = f.is_high; below = below_chain e.low e.high f.high e.below (below_between y z e.high f.high e.is_high f.is_high f) }

  -- members, by place
  pub place : (x : ℕ) → Contains xs x → IsPlaced h x
  place x c = o.placed c.0 x (slice_get-get_or xs c.0 x c.1 ∙ ap Some c.2)

  -- a call that has a place is in the order
  member : (x : ℕ) → IsPlaced h x → Contains xs x
  member x p = let e = o.every x p in (e.0, slice_get_within xs e.0 x e.1, get_or_from_slice_get xs e.0 x x e.1)

  -- the order rises
  in_order : AllPairs (Earlier h) xs
  in_order i j d w n =
      let x = get_or xs i d in
      let y = get_or xs j d in
      let a = slice_get-get_or xs i d (omega arith) in
      let b = slice_get-get_or xs j d n in
      let r = laws.ranked x (o.placed i x a) in
      let s = laws.ranked y (o.placed j y b) in
      record { low = r.0; high = s.0; is_low = r.1; is_high = s.1; below = o.rises i j x y r.0 s.0 w a b r.1 s.1 }

  -- a call of the order that has not ended has a put
  unended : (x : ℕ) → Contains xs x → (called h x).end ≡ None → (p : ℕ) × ((called h x).put ≡ Some p)
  unended x c e = which (place x c)
    where
      which : IsPlaced h x → (p : ℕ) × ((called h x).put ≡ Some p)
      which (inl n) = absurd (n e)
      which (inr n) = some_from (called h x).put n

  -- an update of the order is a put of that key, and the other way round
  update_from : (k x : ℕ) → Contains xs x → is_update k (call_of h x) (reply_of h x) ≡ true → Updates h k x
  update_from k x c u =
      let p = its (called h x).end refl u in
      record { put = p.0; is_its = p.1; of_key = record { is_put = (l.is_put x p.0 p.1).0; key = key_of_update (called h x).call k (attempt h p.0).key (attempt h p.0).value (reply_of h x) u (call_makes h l x p.0 p.1) } }
    where
      its : (e : Option End) → (called h x).end ≡ e → is_update k (called h x).call (reply_or_done e) ≡ true → (p : ℕ) × ((called h x).put ≡ Some p)
      its None e v = unended x c e
      its (Some f) e v = has_update (called h x).call k (called h x).put f.reply v (l.ends x f e).1

  -- a call with a put of the key updates it
  update_back : (k x : ℕ) → Updates h k x → is_update k (call_of h x) (reply_of h x) ≡ true
  update_back k x u = makes_update (called h x).call k (attempt h u.put).key (attempt h u.put).value u.put (called h x).put (called h x).end u.is_its (λ f e. (l.ends x f e).1) (call_makes h l x u.put u.is_its) u.of_key.key

  -- the last update before x
  abbrev IsLast : ℕ → ℕ → Option ℕ → Type 0
  IsLast k x y = served.IsLastUpdate (seat_of h) (call_of h) (reply_of h) (Earlier h) xs k x y

  -- is the last below its rank
  last_from : (k x : ℕ) (rank : Rank) (y : Option ℕ) → HasRank h x rank → LastBelow h k rank y → IsLast k x y
  last_from k x rank None i b = λ q c u e. b q e.low (update_from k q c u) e.is_low (below_between q x e.low rank e.is_low i e)
  last_from k x rank (Some y) i b = (
    member y (inr (λ n. let z : Some b.updates.put ≡ None = sym b.updates.is_its ∙ n in cc)),
    update_back k y b.updates,
    record { low = b.rank; high = rank; is_low = b.has_rank; is_high = i; below = b.below },
    λ q c u e. which q e.low e.is_low (b.last q e.low (update_from k q c u) e.is_low (below_between q x e.low rank e.is_low i e)),
  )
    where
      which : (q : ℕ) (s : Rank) → HasRank h q s → (q ≡ y) ⊎ Below s b.rank → (q ≡ y) ⊎ Earlier h q y
      which q s r (inl e) = inl e
      which q s r (inr w) = inr (record { low = s; high = b.rank; is_low = r; is_high = b.has_rank; below = w })

  -- what it writes
  writes : (y : Option ℕ) → written_by h y ≡ served.shows (seat_of h) (call_of h) (reply_of h) (Earlier h) y
  writes None = refl
  writes (Some y) = written_is (called h y).call

  -- a scan that ended
  ended_scan : (x : ℕ) → Contains xs x → (a b : ℕ) → (called h x).call ≡ Scan a b → (f : End) → (called h x).end ≡ Some f → (r : Reply) → f.reply ≡ r → Answers (Scan a b) (called h x).put r → served.IsServedAt (seat_of h) (call_of h) (reply_of h) (Earlier h) xs x (Scan a b)
  ended_scan x c a b e f s (Pairs ps) q an =
      let rank = laws.ranked x (place x c) in
      let ends : EndsWith h x (Scan a b) f.at (Pairs ps) = (e, s ∙ ap (λ r. Some (record { at = f.at; reply = r })) q) in
      let within = (l.scanned x a b f.at ps ends).rises in
      inr (record {
        pairs = ps;
        replied = ap reply_or_done s ∙ q;
        rising = lower 0 a ps (omega arith) (rises_from a b ps within);
        inside = all_inside a a b ps (omega arith) within;
        each = λ k v w. let g = laws.scan_gives x a b f.at ps rank.0 ends rank.1 k v w in (g.0, last_from k x rank.0 g.0 rank.1 g.1, g.2 ∙ writes g.0);
      })
  ended_scan x c a b e f s Spent q an = inl (rw (e, s, q) refl)
  ended_scan x c a b e f s Stopped q an = inl (rw (e, s, q) refl)
  ended_scan x c a b e f s _ q an = absurd an

  -- a call that ended
  ended : (x : ℕ) → Contains xs x → (w : Call) → (called h x).call ≡ w → (f : End) → (called h x).end ≡ Some f → Answers w (called h x).put f.reply → served.IsServedAt (seat_of h) (call_of h) (reply_of h) (Earlier h) xs x w
  ended x c (Put k v) e f s a = rw (e, s) (put_reply k v (called h x).put f.reply a)
  ended x c (Del k) e f s a = rw (e, s) (delete_reply k (called h x).put f.reply a)
  ended x c (Get k) e f s a =
      let rank = laws.ranked x (place x c) in
      let g = laws.get_answers x k f.at f.reply rank.0 (e, s) rank.1 in
      (g.0, last_from k x rank.0 g.0 rank.1 g.1, ap reply_or_done s ∙ g.2 ∙ answer_is (written_by h g.0) ∙ ap found (writes g.0))
  ended x c (Scan a b) e f s an = ended_scan x c a b e f s f.reply refl an
  ended x c Pin e f s an = absurd an
  ended x c (ScanAt a b) e f s an = absurd an
  ended x c Unpin e f s an = absurd an

  -- a call that makes no put has none
  none_made : (x p : ℕ) (w : Call) → (called h x).call ≡ w → (called h x).put ≡ Some p → ((k : ℕ) (v : Option ℕ) → Makes w k v → ⊥) → ⊥
  none_made x p w e i n = n (attempt h p).key (attempt h p).value (subst (λ q. Makes q (attempt h p).key (attempt h p).value) e (call_makes h l x p i))

  -- a call that has not
  not_ended : (x : ℕ) → Contains xs x → (w : Call) → (called h x).call ≡ w → (called h x).end ≡ None → served.IsServedAt (seat_of h) (call_of h) (reply_of h) (Earlier h) xs x w
  not_ended x c (Put k v) e s = inr (ap reply_or_done s)
  not_ended x c (Del k) e s = inr (ap reply_or_done s)
  not_ended x c (Get k) e s = let p = unended x c s in absurd (get_no_put h l x p.0 k e p.1)
  not_ended x c (Scan a b) e s = let p = unended x c s in absurd (scan_no_put h l x p.0 a b e p.1)
  not_ended x c Pin e s = let p = unended x c s in absurd (none_made x p.0 Pin e p.1 (λ k v m. m))
  not_ended x c (ScanAt a b) e s = let p = unended x c s in absurd (none_made x p.0 (ScanAt a b) e p.1 (λ k v m. m))
  not_ended x c Unpin e s = let p = unended x c s in absurd (none_made x p.0 Unpin e p.1 (λ k v m. m))

  -- each reply is served by the last updates before it
  serve : (x : ℕ) → Contains xs x → served.IsServedAt (seat_of h) (call_of h) (reply_of h) (Earlier h) xs x (call_of h x)
  serve x c = which (called h x).end refl
    where
      which : (e : Option End) → (called h x).end ≡ e → served.IsServedAt (seat_of h) (call_of h) (reply_of h) (Earlier h) xs x (called h x).call
      which None s = not_ended x c (called h x).call refl s
      which (Some f) s = ended x c (called h x).call refl f s (l.ends x f s).1

  -- so the order is legal
  pub order_is_legal : IsLegalOrder h xs
  order_is_legal = legal_from (seat_of h) (call_of h) (reply_of h) (Earlier h) not_later earlier_chain xs in_order serve
