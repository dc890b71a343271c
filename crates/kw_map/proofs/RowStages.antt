-- How the rows of a scan go by: what stays from row to row, that they come to an end, and what the
-- gatherer took by then.
use Rattle.std.proofs.Common.{ℕ, ◌≡◌, ◌<◌, ◌≤◌, ◌+◌, ◌-◌, ◌⊎◌, ◌++◌, suc, Bool, true, false, Option, Some, [], ◌∷◌, take, length, inl, inr, sym, ap, ◌∙◌, subst, arith}
use Rattle.std.specs.Prelude.{All}
use Rattle.std.proofs.lemmas.List.Elements.{All-tail}
use Rattle.std.proofs.Math.Seq.{take-append-add}
use Rattle.kw_model.specs.Counts.{CountRose}
use Rattle.kw_cells.specs.Cells.{pairs_of}
use Rattle.kw_model.specs.Map.{Pairs}
use Rattle.kw_model.specs.declared.call.Call.{Call}
use Rattle.kw_model.specs.declared.call.Call.TheVariants.{Scan}
use Rattle.kw_world.specs.declared.answer.Answer.TheVariants as answer
use Rattle.kw_world.specs.declared.activity.Activity.TheVariants as Activity
use Rattle.kw_world.specs.declared.local.Local.{Local}
use Rattle.kw_world.specs.declared.opening.Opening.{Opening}
use Rattle.kw_core.specs.Stages.{is_walking}
use Rattle.kw_world.specs.Sizes.{product}
use Rattle.kw_core.specs.Events.{local_of, world}
use Rattle.kw_core.specs.Run.{history}
use Rattle.kw_world.specs.Calls.{is_scan}
use Rattle.kw_world.specs.Calls as asked
use Rattle.kw_core.specs.Stages.{IsCovering, is_walking}
use Rattle.kw_laws.specs.Laws.{IsDrawnCover, KeepsLaws}
use Rattle.kw_laws.proofs.LawProofs.{laws_hold}
use Rattle.kw_table.specs.declared.pass.Pass.{Pass}
use Rattle.kw_table.specs.declared.shared.Shared.{Shared}
use Rattle.kw_table.specs.Passes.{view}
use Rattle.kw_table.specs.Views.{local_in}
use Rattle.kw_table.proofs.Prefixes.{prefix_trans}
use Rattle.kw_follow.specs.Calling.{KeepsCalls}
use Rattle.kw_follow.specs.Following.{Follows, GoesTo, held}
use Rattle.kw_follow.proofs.OneEvent.{same_activity}
use Rattle.kw_follow.proofs.Resting.{stands}
use Rattle.kw_live.specs.Reading.{GoesOn}
use Rattle.kw_map.specs.Gather.{last_key, IsBelow, Takes, TakesPrefix}
use Rattle.kw_follow.specs.OwnEvents.{knew}
use Rattle.kw_map.specs.Scanning.{IsBetween, StoppedAt}
use Rattle.kw_map.proofs.TakeLemmas.{IsBelow-le, Takes-append}

-- What the gatherer took.

-- a key above the last one and above those of some pairs is above the last one of them
pub last_below : (before : Option ℕ) (pairs : Pairs) (next : ℕ) → IsBelow before next → All (λ pair. pair.0 < next) pairs → IsBelow (last_key before pairs) next
last_below before [] next below all = below
last_below before (p ∷ ps) next below all =
    let here : p.0 < next = all 0 p (omega arith) in
    last_below (Some p.0) ps next (λ k e. let same : p.0 ≡ k = cc in omega arith) (All-tail (λ pair. pair.0 < next) p ps all)

-- after pairs, the first of further pairs
pub prefix_behind : {S : Type 0} (last : S → Option ℕ) (stands : S → Pairs → Type 0) (a b c : S) (ps qs : Pairs) → Takes last stands a ps b → TakesPrefix last stands b qs c → TakesPrefix last stands a (ps ++ qs) c
prefix_behind last stands a b c ps qs t u =
    (length ps + u.0, subst (λ (x : Pairs). Takes last stands a x c) (sym (take-append-add ps qs u.0)) (Takes-append last stands a b c ps (take u.0 qs) t u.1))

-- a count that rose later rose in all
pub rose_later : (a b c : ℕ) → a ≤ b → CountRose b c → CountRose a c
rose_later a b c le (inl lt) = inl (omega arith)
rose_later a b c le (inr is) = inr is

-- From row to row.

-- a gatherer's words: the last key that it took, what it stands for, and how often it stopped
pub record GathererWords (S : Type 0) : Type 1 where
  pub last : S → Option ℕ
  pub stands : S → Pairs → Type 0
  pub stops : S → ℕ

-- what stays while the rows of a scan are read
pub record IsGathering {S : Type 0} (w : GathererWords S) (s : Shared) (o p : Pass) (first l : Local) (old new : S) : Type 0 where
  pub goes : GoesTo s o p
  pub follows : Follows s p l
  pub asks : l.call ≡ first.call
  pub calls : KeepsCalls o p
  pub takes : Takes w.last w.stands old (held p) new
  pub counts : w.stops old ≤ w.stops new
  pub between : IsBetween w.last new l

-- how far the rows may go on
abbrev pub rows_ahead : Bool → ℕ → ℕ → ℕ
rows_ahead true want upto = suc (upto - want)
rows_ahead false want upto = 0

-- after a row the scan is between rows again
pub between_rows : {S : Type 0} (last : S → Option ℕ) (stands : S → Pairs → Type 0) (old new : S) (want upto version : ℕ) (m : Local) → IsBelow (last old) want → GoesOn want upto version m ⊎ (m.activity ≡ Activity.EndScan answer.Pairs) →
    Takes last stands old (pairs_of m.gathered want upto version) new → IsBetween last new m
between_rows last stands old new want upto version m above (inl g) t =
    let earlier : want ≤ m.want = omega (arith, g.rises) in
    inl (ap is_walking g.activity, subst (λ o. IsBelow o m.want) (sym t.last_is) (last_below (last old) (pairs_of m.gathered want upto version) m.want (IsBelow-le (last old) want m.want earlier above) g.above))
between_rows last stands old new want upto version m above (inr e) t = inr e

-- after a row fewer rows are ahead
pub fewer_rows : (low upto version : ℕ) (l m : Local) → is_walking l.activity ≡ true → l.want ≤ low → GoesOn low upto version m ⊎ (m.activity ≡ Activity.EndScan answer.Pairs) → rows_ahead (is_walking m.activity) m.want upto < rows_ahead (is_walking l.activity) l.want upto
fewer_rows low upto version l m walks rises (inl g) =
    let before : rows_ahead (is_walking l.activity) l.want upto ≡ suc (upto - l.want) = ap (λ b. rows_ahead b l.want upto) walks in
    let after : rows_ahead (is_walking m.activity) m.want upto ≡ suc (upto - m.want) = ap (λ b. rows_ahead b m.want upto) (ap is_walking g.activity) in
    omega (arith, before, after, rises, g.rises, g.within)
fewer_rows low upto version l m walks rises (inr e) =
    let before : rows_ahead (is_walking l.activity) l.want upto ≡ suc (upto - l.want) = ap (λ b. rows_ahead b l.want upto) walks in
    let after : rows_ahead (is_walking m.activity) m.want upto ≡ 0 = ap (λ b. rows_ahead b m.want upto) (ap is_walking e) in
    omega (arith, before, after)

-- Where the gatherer stopped.

-- what the seat knew when the pass had seen just this
knew_then : (s : Shared) (o r : Pass) → GoesTo s o r → knew o (view r).seen ≡ local_in (view r)
knew_then s o r goes =
    ap (λ n. local_of (world product (view o).opening (view r).seen) n) (sym goes.number)
    ∙ ap (λ (x : Opening). local_of (world product x (view r).seen) (view r).number) (sym goes.opening)

-- up to some key a scan between its rows has the pairs of its range at the version that it drew
covers_so_far : (s : Shared) (r : Pass) (l : Local) (want upto version : ℕ) (scan : (from : ℕ) × (l.call ≡ Some (Scan from upto))) → Follows s r l → GoesOn want upto version l ⊎ (l.activity ≡ Activity.EndScan answer.Pairs)
    → (bound : ℕ) × IsDrawnCover (history product (view r).opening (view r).seen) (view r).number (local_in (view r)) bound (held r)
covers_so_far s r l want upto version scan follows stage = at stage
  where
    laws : KeepsLaws product (history product (view r).opening (view r).seen)
    laws = laws_hold product (view r).opening r.known.opens (view r).seen r.known.valid

    is_a_scan : is_scan (local_in (view r)).call ≡ true
    is_a_scan = ap is_scan (sym (ap (λ (k : Local). k.call) follows.carries) ∙ scan.1)

    at : GoesOn want upto version l ⊎ (l.activity ≡ Activity.EndScan answer.Pairs) → (bound : ℕ) × IsDrawnCover (history product (view r).opening (view r).seen) (view r).number (local_in (view r)) bound (held r)
    at (inl g) = ((local_in (view r)).want, laws.covers (view r).number (local_in (view r)) (stands r) is_a_scan (subst IsCovering (sym (same_activity s r l follows ∙ g.activity)) tt))
    at (inr e) = (asked.last_key (local_in (view r)).call + 1, laws.covered (view r).number (local_in (view r)) (stands r) is_a_scan (same_activity s r l follows ∙ e))

-- a scan that stops where the gatherer did
pub stopped_here : (Took : Pairs → Type 0) (s : Shared) (o r q : Pass) (l : Local) (call : Option Call) (want upto version : ℕ) → GoesTo s o r → GoesTo s r q
    → Follows s r l → l.call ≡ call → (from : ℕ) × (l.call ≡ Some (Scan from upto)) → GoesOn want upto version l ⊎ (l.activity ≡ Activity.EndScan answer.Pairs) → (n : ℕ) × Took (take n (held r)) → StoppedAt Took o q call
stopped_here Took s o r q l call want upto version before after follows is scan stage took =
    let e = knew_then s o r before in
    let cover = covers_so_far s r l want upto version scan follows stage in
    record {
      bound = cover.0;
      covers = subst (λ (k : Local). IsDrawnCover (history product (view o).opening (view r).seen) (view o).number k cover.0 k.pairs) (sym e)
          (subst (λ n. IsDrawnCover (history product (view o).opening (view r).seen) n (local_in (view r)) cover.0 (held r)) before.number
          (subst (λ (x : Opening). IsDrawnCover (history product x (view r).seen) (view r).number (local_in (view r)) cover.0 (held r)) before.opening cover.1));
      front = (view r).seen;
      later = before.seen;
      here = after.seen;
      asks = ap (λ (k : Local). k.call) e ∙ (sym (ap (λ (k : Local). k.call) follows.carries) ∙ is);
      took = subst (λ (ps : Pairs). (n : ℕ) × Took (take n ps)) (sym (ap (λ (k : Local). k.pairs) e)) took;
    }

-- what happened in the middle happened in the whole
pub stopped_within : (Took : Pairs → Type 0) (s : Shared) (p q r t : Pass) (call : Option Call) → GoesTo s p q → GoesTo s r t → StoppedAt Took q r call → StoppedAt Took p t call
stopped_within Took s p q r t call before after stopped =
    let e : knew q stopped.front ≡ knew p stopped.front =
    ap (λ n. local_of (world product (view q).opening stopped.front) n) before.number
    ∙ ap (λ (x : Opening). local_of (world product x stopped.front) (view p).number) before.opening in
    record {
      front = stopped.front;
      later = prefix_trans _ _ _ before.seen stopped.later;
      here = prefix_trans _ _ _ stopped.here after.seen;
      asks = sym (ap (λ (k : Local). k.call) e) ∙ stopped.asks;
      bound = stopped.bound;
      covers = subst (λ (k : Local). IsDrawnCover (history product (view p).opening stopped.front) (view p).number k stopped.bound k.pairs) e
          (subst (λ n. IsDrawnCover (history product (view p).opening stopped.front) n (knew q stopped.front) stopped.bound (knew q stopped.front).pairs) before.number
          (subst (λ (x : Opening). IsDrawnCover (history product x stopped.front) (view q).number (knew q stopped.front) stopped.bound (knew q stopped.front).pairs) before.opening stopped.covers));
      took = subst (λ (ps : Pairs). (n : ℕ) × Took (take n ps)) (ap (λ (k : Local). k.pairs) e) stopped.took;
    }
