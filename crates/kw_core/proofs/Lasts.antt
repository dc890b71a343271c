-- What a get answered, and what a scan gave, lasts.
use Rattle.std.proofs.Common.{ℕ, ◌≡◌, ◌≤◌, ◌⊎◌, inl, inr, List, Option, Some, None, true, arith, sym, ◌∙◌, ap, refl}
use Rattle.kw_core.specs.History.{History, attempt, Reply}
use Rattle.kw_core.specs.HistoryLaws.{IsPut, StandsBefore, StandsUpTo, IsGapOf, HasVersionUpTo, IsEarly, GetKey, ScanKey, shows, answer_of}
use Rattle.kw_core.specs.Grows.{AttemptGrows, Grows}
use Rattle.kw_core.proofs.Attempts.{in_range}

-- a put keeps all that is known of it
put_grows : (h h' : History) (now p : ℕ) → Grows h h' now → IsPut h p → AttemptGrows h h' now p
put_grows h h' now p g s = g.old p (in_range h p s)

-- a gap of a key stays one
gap_lasts : (h h' : History) (now k : ℕ) (o : Option ℕ) → Grows h h' now → IsGapOf h k o → IsGapOf h' k o
gap_lasts h h' now k None g s = tt
gap_lasts h h' now k (Some p) g s = let a = put_grows h h' now p g s.is_put in record { is_put = (a.stamped s.is_put).0; key = a.key ∙ s.key }

-- and shows what it did
shows_lasts : (h h' : History) (now k : ℕ) (o : Option ℕ) → Grows h h' now → IsGapOf h k o → shows h' o ≡ shows h o
shows_lasts h h' now k None g s = refl
shows_lasts h h' now k (Some p) g s = (put_grows h h' now p g s.is_put).value

-- and keeps its version
bound_lasts : (h h' : History) (now k v : ℕ) (o : Option ℕ) → Grows h h' now → IsGapOf h k o → HasVersionUpTo h o v → HasVersionUpTo h' o v
bound_lasts h h' now k v None g s u = tt
bound_lasts h h' now k v (Some p) g s u = omega (arith, u, ((put_grows h h' now p g s.is_put).stamped s.is_put).1)

-- what was up to a gap still is
upto_lasts : (h h' : History) (now k : ℕ) (o : Option ℕ) (q : ℕ) → Grows h h' now → IsGapOf h k o → IsPut h q → StandsUpTo h o q → StandsUpTo h' o q
upto_lasts h h' now k None q g s t u = u
upto_lasts h h' now k (Some p) q g s t (inl e) = inl e
upto_lasts h h' now k (Some p) q g s t (inr u) = inr (before u)
  where
    a : AttemptGrows h h' now p
    a = put_grows h h' now p g s.is_put

    b : AttemptGrows h h' now q
    b = put_grows h h' now q g t

    before : StandsBefore h q p → StandsBefore h' q p
    before (inl x) = inl (omega (arith, x, (a.stamped s.is_put).1, (b.stamped t).1))
    before (inr (x, y)) = inr (omega (arith, x, (a.stamped s.is_put).1, (b.stamped t).1), omega (arith, y, a.add, b.add))

-- what is early later, was early
early_was : (h h' : History) (now k f q : ℕ) → Grows h h' now → f ≤ now → IsEarly h' k f q → IsEarly h k f q × AttemptGrows h h' now q
early_was h h' now k f q g w e =
    let n = g.newly q e.is_announced (omega (arith, e.before, w)) in
    let a = g.old q n.0 in
    (record { key = sym a.key ∙ e.key; is_announced = n.1; before = omega (arith, e.before, (a.announced n.1).1) }, a)

-- what a get knows of its key lasts
pub get_lasts : (h h' : History) (now key f : ℕ) (x : Reply) (o : Option ℕ) → Grows h h' now → f ≤ now → GetKey h key f x o → GetKey h' key f x o
get_lasts h h' now key f x o g w k = record {
  gap = gap_lasts h h' now key o g k.gap;
  reply = k.reply ∙ ap answer_of (sym (shows_lasts h h' now key o g k.gap));
  early = λ q e. let n = early_was h h' now key f q g w e in which q n.1 (k.early q n.0);
}
  where
    which : (q : ℕ) → AttemptGrows h h' now q → ((attempt h q).is_lost ≡ true) ⊎ ((attempt h q).is_stamped ≡ true) × StandsUpTo h o q → ((attempt h' q).is_lost ≡ true) ⊎ ((attempt h' q).is_stamped ≡ true) × StandsUpTo h' o q
    which q a (inl l) = inl (a.lost l)
    which q a (inr s) = inr ((a.stamped s.0).0, upto_lasts h h' now key o q g k.gap s.0 s.1)

-- and what a scan knows of it
pub scan_lasts : (h h' : History) (now key v d : ℕ) (pairs : List (ℕ × ℕ)) (o : Option ℕ) → Grows h h' now → d ≤ now → ScanKey h key v d pairs o → ScanKey h' key v d pairs o
scan_lasts h h' now key v d pairs o g w k = record {
  gap = gap_lasts h h' now key o g k.gap;
  version = bound_lasts h h' now key v o g k.gap k.version;
  reply = k.reply ∙ sym (shows_lasts h h' now key o g k.gap);
  early = λ q e. let n = early_was h h' now key d q g w e in which q n.1 (k.early q n.0);
}
  where
    which : (q : ℕ) → AttemptGrows h h' now q → ((attempt h q).is_lost ≡ true) ⊎ ((attempt h q).is_stamped ≡ true) × ((attempt h q).version ≤ v → StandsUpTo h o q) →
        ((attempt h' q).is_lost ≡ true) ⊎ ((attempt h' q).is_stamped ≡ true) × ((attempt h' q).version ≤ v → StandsUpTo h' o q)
    which q a (inl l) = inl (a.lost l)
    which q a (inr s) = let t = a.stamped s.0 in inr (t.0, λ z. upto_lasts h h' now key o q g k.gap s.0 (s.1 (omega (arith, z, t.1))))
