-- What a scan has of the rows that it read: those that it handed on cell by cell, one after the
-- other, and the last one.
use Rattle.std.proofs.Common.{ℕ, ◌≡◌, ◌≤◌, ◌⊎◌, ◌++◌, min, true, false, Option, Some, Ok, Err, Result, OnOk, OnErr, [], is_err, length, refl, sym, ap, ◌∙◌, subst, arith, append_assoc, append-nil}
use Rattle.std.proofs.lemmas.List.{take-append-le, take_min}
use Rattle.kw_cells.specs.Cells.{pairs_of}
use Rattle.kw_model.specs.Counts.{CountRose}
use Rattle.kw_model.specs.Map.{Pairs}
use Rattle.kw_model.specs.declared.call.Call.TheVariants.{Scan}
use Rattle.kw_world.specs.declared.answer.Answer.TheVariants as answer
use Rattle.kw_world.specs.declared.activity.Activity.TheVariants as Activity
use Rattle.kw_world.specs.declared.activity.look.Look.TheVariants as Look
use Rattle.kw_world.specs.declared.local.Local.{Local}
use Rattle.kw_table.specs.declared.pass.Pass.{Pass}
use Rattle.kw_table.specs.declared.shared.Shared.{Shared}
use Rattle.kw_follow.specs.Calling.{KeepsCalls}
use Rattle.kw_follow.specs.Following.{Follows, GoesTo, held}
use Rattle.kw_live.specs.Reading.{GoesOn, HasRead, HasReadAs, LooksOn}
use Rattle.kw_map.specs.Gather.{IsBelow, Takes, TakesPrefix}
use Rattle.kw_map.specs.Handing.{HandsOn}
use Rattle.kw_map.specs.Scanning.{ReadsRows}
use Rattle.kw_map.specs.declared.gather.Stop.{Stop}
use Rattle.kw_map.proofs.RowStages.{GathererWords, between_rows, prefix_behind, rose_later}
use Rattle.kw_map.proofs.TakeLemmas.{Takes-append, takes_nothing}

-- what follows from what holds of an answer holds of it
on_ok : {X E P Q : Type 0} (r : Result X E) → (P → Q) → OnOk r P → OnOk r Q
on_ok (Ok x) f p = f p
on_ok (Err e) f p = tt

-- what follows from what holds of an error holds of it
on_err : {X E P Q : Type 0} (r : Result X E) → (P → Q) → OnErr r P → OnErr r Q
on_err (Ok x) f p = tt
on_err (Err e) f p = f p

-- what holds unless there is an error holds where there is none
pub unless_err : {X E P : Type 0} (r : Result X E) → is_err r ≡ false → OnOk r P → P
unless_err (Ok x) fine p = p
unless_err (Err e) fine p = let x : true ≡ false = fine in absurd (cc)

-- the first of some pairs are the first of those and more
pub prefix_longer : {S : Type 0} (last : S → Option ℕ) (stands : S → Pairs → Type 0) (a b : S) (ps qs : Pairs) → TakesPrefix last stands a ps b → TakesPrefix last stands a (ps ++ qs) b
prefix_longer last stands a b ps qs t =
    let n : ℕ = min t.0 (length ps) in
    (n, subst (λ (x : Pairs). Takes last stands a x b) (sym (take-append-le n ps qs (omega arith) ∙ take_min t.0 ps)) t.1)

-- From row to row.

-- what a scan that hands on cell by cell has so far
abbrev pub Hands : {S : Type 0} → GathererWords S → Pass → Local → S → Pass → Local → S → Result Unit Stop → Type 0
Hands w p l a q m b ended = HandsOn w.last w.stands w.stops p l a q m b ended

-- what stays while rows are handed on cell by cell
pub record IsHandingRows {S : Type 0} (w : GathererWords S) (s : Shared) (p : Pass) (l : Local) (a : S) (q : Pass) (m : Local) (b : S) (ended : Result Unit Stop) : Type 0 where
  pub goes : GoesTo s p q
  pub follows : Follows s q m
  pub stage : m.activity ≡ Activity.Look (Look.Entry 0)
  pub hands : Hands w p l a q m b ended

-- at first a scan has no pairs more
pub hands_nothing : {S : Type 0} (w : GathererWords S) (p : Pass) (l : Local) (a : S) → IsBelow (w.last a) l.want → Hands w p l a p l a (Ok tt)
hands_nothing w p l a above = record {
  calls = refl;
  call = refl;
  version = refl;
  rises = omega arith;
  pairs = [];
  held = sym (append-nil (held p));
  all = takes_nothing w.last w.stands a;
  below = above;
  prefix = tt;
  stopped = tt;
  never_falls = omega arith;
}

-- a scan that goes on without pairs, and wants what it wanted, has then what it has had
pub hands_still : {S : Type 0} (w : GathererWords S) (p q r : Pass) (l m n : Local) (a b : S) (ended : Result Unit Stop) → Hands w p l a q m b ended → KeepsCalls q r → held r ≡ held q → LooksOn m n → Hands w p l a r n b ended
hands_still w p q r l m n a b ended h calls none on = record {
  calls = calls ∙ h.calls;
  call = on.call ∙ h.call;
  version = on.version ∙ h.version;
  rises = omega (arith, h.rises, on.want);
  pairs = h.pairs;
  held = none ∙ h.held;
  all = h.all;
  below = subst (λ want. OnOk ended (IsBelow (w.last b) want)) (sym on.want) h.below;
  prefix = h.prefix;
  stopped = h.stopped;
  never_falls = h.never_falls;
}

-- what a scan hands on once it has gone on without pairs it has handed on in all
pub still_hands : {S : Type 0} (w : GathererWords S) (p q r : Pass) (l m n : Local) (a b : S) (ended : Result Unit Stop) → KeepsCalls p q → held q ≡ held p → m.call ≡ l.call → m.want ≡ l.want → m.version ≡ l.version → Hands w q m a r n b ended → Hands w p l a r n b ended
still_hands w p q r l m n a b ended calls none call want version h = record {
  calls = h.calls ∙ calls;
  call = h.call ∙ call;
  version = h.version ∙ version;
  rises = omega (arith, h.rises, want);
  pairs = h.pairs;
  held = h.held ∙ ap (λ (ps : Pairs). ps ++ h.pairs) none;
  all = h.all;
  below = h.below;
  prefix = h.prefix;
  stopped = h.stopped;
  never_falls = h.never_falls;
}

-- a scan hands on pairs, all of which are taken, and then further ones
pub hands_behind : {S : Type 0} (w : GathererWords S) (p q r : Pass) (l m n : Local) (a b c : S) (so_far ended : Result Unit Stop) → is_err so_far ≡ false → Hands w p l a q m b so_far → Hands w q m b r n c ended → Hands w p l a r n c ended
hands_behind w p q r l m n a b c so_far ended fine h k =
    let taken : Takes w.last w.stands a h.pairs b = unless_err so_far fine h.all in
    record {
      calls = k.calls ∙ h.calls;
      call = k.call ∙ h.call;
      version = k.version ∙ h.version;
      rises = omega (arith, h.rises, k.rises);
      pairs = h.pairs ++ k.pairs;
      held = k.held ∙ ap (λ (ps : Pairs). ps ++ k.pairs) h.held ∙ append_assoc (held p) h.pairs k.pairs;
      all = on_ok ended (λ t. Takes-append w.last w.stands a b c h.pairs k.pairs taken t) k.all;
      below = k.below;
      prefix = on_err ended (λ t. prefix_behind w.last w.stands a b c h.pairs k.pairs taken t) k.prefix;
      stopped = on_err ended (λ t. rose_later (w.stops a) (w.stops b) (w.stops c) h.never_falls t) k.stopped;
      never_falls = omega (arith, h.never_falls, k.never_falls);
    }

-- The last row.

-- what a scan has read in its last row, where the version is that of its start
pub scan_read : (l m n : Local) (before after : Pairs) (upto : ℕ) → m.version ≡ l.version → (from : ℕ) × (m.call ≡ Some (Scan from upto)) → HasRead m n before after
    → (GoesOn m.want upto l.version n ⊎ (n.activity ≡ Activity.EndScan answer.Pairs)) × (after ≡ before ++ pairs_of n.gathered m.want upto l.version)
scan_read l m n before after upto version scan read =
    subst (λ v. HasReadAs (Some (Scan scan.0 upto)) m.want v n before after) version (subst (λ call. HasReadAs call m.want m.version n before after) scan.1 read)

-- the gatherer stopped in the rows before the last one
pub rows_stopped : {S : Type 0} (w : GathererWords S) (upto : ℕ) (p q r : Pass) (l m n : Local) (a b : S) (ended answered : Result Unit Stop) → is_err ended ≡ true → is_err answered ≡ true → Hands w p l a q m b ended
    → (from : ℕ) × (m.call ≡ Some (Scan from upto)) → HasRead m n (held q) (held r) → ReadsRows w.last w.stands w.stops upto p l a r n b answered
rows_stopped w upto p q r l m n a b (Ok x) answered is so h scan read = let x : false ≡ true = is in absurd (cc)
rows_stopped w upto p q r l m n a b (Err e) (Ok x) is so h scan read = let x : false ≡ true = so in absurd (cc)
rows_stopped w upto p q r l m n a b (Err e) (Err f) is so h scan read =
    let has = scan_read l m n (held q) (held r) upto h.version scan read in
    let more : Pairs = pairs_of n.gathered m.want upto l.version in
    record {
      low = m.want;
      rises = h.rises;
      stage = has.0;
      pairs = h.pairs ++ more;
      held = has.1 ∙ ap (λ (ps : Pairs). ps ++ more) h.held ∙ append_assoc (held p) h.pairs more;
      all = tt;
      between = tt;
      prefix = prefix_longer w.last w.stands a b h.pairs more h.prefix;
      stopped = h.stopped;
      never_falls = h.never_falls;
    }

-- the gatherer took all pairs of the rows before the last one, and of the last one all or the first
pub rows_taken : {S : Type 0} (w : GathererWords S) (upto : ℕ) (p q r : Pass) (l m n : Local) (a b c : S) (ended answered : Result Unit Stop) → is_err ended ≡ false → Hands w p l a q m b ended
    → (from : ℕ) × (m.call ≡ Some (Scan from upto)) → HasRead m n (held q) (held r) → n.version ≡ m.version
    → OnOk answered (Takes w.last w.stands b (pairs_of n.gathered m.want upto n.version) c) → OnErr answered (TakesPrefix w.last w.stands b (pairs_of n.gathered m.want upto n.version) c)
    → OnErr answered (CountRose (w.stops b) (w.stops c)) → w.stops b ≤ w.stops c → ReadsRows w.last w.stands w.stops upto p l a r n c answered
rows_taken w upto p q r l m n a b c ended answered fine h scan read version all prefix stopped counts =
    let has = scan_read l m n (held q) (held r) upto h.version scan read in
    let more : Pairs = pairs_of n.gathered m.want upto l.version in
    let same : pairs_of n.gathered m.want upto n.version ≡ more = ap (λ v. pairs_of n.gathered m.want upto v) (version ∙ h.version) in
    let taken : Takes w.last w.stands a h.pairs b = unless_err ended fine h.all in
    let all_more : OnOk answered (Takes w.last w.stands b more c) = subst (λ (ps : Pairs). OnOk answered (Takes w.last w.stands b ps c)) same all in
    let first_more : OnErr answered (TakesPrefix w.last w.stands b more c) = subst (λ (ps : Pairs). OnErr answered (TakesPrefix w.last w.stands b ps c)) same prefix in
    record {
      low = m.want;
      rises = h.rises;
      stage = has.0;
      pairs = h.pairs ++ more;
      held = has.1 ∙ ap (λ (ps : Pairs). ps ++ more) h.held ∙ append_assoc (held p) h.pairs more;
      all = on_ok answered (λ t. Takes-append w.last w.stands a b c h.pairs more taken t) all_more;
      between = on_ok answered (λ t. between_rows w.last w.stands b c m.want upto l.version n (unless_err ended fine h.below) has.0 t) all_more;
      prefix = on_err answered (λ t. prefix_behind w.last w.stands a b c h.pairs more taken t) first_more;
      stopped = on_err answered (λ t. rose_later (w.stops a) (w.stops b) (w.stops c) h.never_falls t) stopped;
      never_falls = omega (arith, h.never_falls, counts);
    }
