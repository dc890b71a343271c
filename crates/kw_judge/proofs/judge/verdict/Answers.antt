use Rattle.std.proofs.Common.{ℕ, List, ◌≡◌, ◌∙◌, sym, subst, Contains}
use Rattle.kw_judge.specs.declared.record.Name.{Name}
use Rattle.kw_judge.specs.Record.{names_of}
use Rattle.kw_judge.specs.Index.{AreNames, ArePlaces, StandInOrder}
use Rattle.kw_judge.specs.Verdict.{IsFirst, AllHold, IsNew, AllOnce, AllKnown, NoneMissing, AllInTime, IsMissing, IsVerdict}
use Rattle.kw_judge.proofs.Standing.{stand, known_from}
use Rattle.kw_judge.proofs.Verdicts.{are_names, named_lines, good}
use Rattle.kw_judge.specs.declared.verdict.Verdict.{Verdict}
use Rattle.kw_judge.proofs.judge.verdict.Goals as goal
use Rattle.kw_judge.proofs.judge.verdict.Goals.{in-Some-2, in-None}

pub new-requires-clause-fits : goal.new-requires-clause-fits
new-requires-clause-fits c = subst (λ (ns : List Name). AreNames ns) (sym (c.deref.ensures.value ∙ c.in_ok-names.ensures)) (named_lines c.args.written.now c.order.ensures.fits)

pub places-requires : goal.places-requires
places-requires c = subst (λ (ns : List Name). AreNames ns) (sym c.order-3.ensures.value) (are_names c.args.written.now.order c.order-3.ensures.fits.each_name)

pub first_missing-requires : goal.first_missing-requires
first_missing-requires c = subst (λ (ns : List Name). AreNames ns) (sym (c.deref-2.ensures.value ∙ c.in_ok-names.ensures)) (named_lines c.args.written.now c.order.ensures.fits)

pub returns-in-Some : goal.returns-in-Some
returns-in-Some c =
    let r = c.args.written.now in
    let fits = c.order.ensures.fits in
    let once : AllOnce r = subst (λ (os : List Name). AllHold (IsNew os) os) c.order.ensures.value (rw c.in-Ok.is at c.in_ok-order.ensures).1 in
    let lines : c.in_ok-lines.lines ≡ names_of r = c.in_ok-lines.ensures ∙ (c.deref.ensures.value ∙ c.in_ok-names.ensures) in
    let at_lines : ArePlaces c.in_ok-lines.lines c.order-3.result.now c.in-Ok-2.places.items = rw c.in-Ok-2.is at c.in_ok-places.ensures in
    let placed : ArePlaces (names_of r) r.order c.in-Ok-2.places.items = subst (λ (os : List Name). ArePlaces (names_of r) os c.in-Ok-2.places.items) c.order-3.ensures.value (subst (λ (ns : List Name). ArePlaces ns c.order-3.result.now c.in-Ok-2.places.items) lines at_lines) in
    let known : AllKnown r = known_from (names_of r) r.order c.in-Ok-2.places.items placed in
    let asked : c.in-Ok.order ≡ r.order = (rw c.in-Ok.is at c.in_ok-order.ensures).0 ∙ c.order.ensures.value in
    let names : c.deref-2.result.now ≡ names_of r = c.deref-2.ensures.value ∙ c.in_ok-names.ensures in
    let first : IsMissing r c.in-Some.name = subst (λ (os : List Name). IsFirst (λ (i : ℕ) (n : Name). Contains os n) (λ (i : ℕ) (n : Name). Contains os n → ⊥) (names_of r) c.in-Some.name) asked (subst (λ (ns : List Name). IsFirst (λ (i : ℕ) (n : Name). Contains c.in-Ok.order n) (λ (i : ℕ) (n : Name). Contains c.in-Ok.order n → ⊥) ns c.in-Some.name) names c.in-Some.ensures) in
    (once, known, first)

pub first_late-requires : goal.first_late-requires
first_late-requires c =
    let r = c.args.written.now in
    let fits = c.order.ensures.fits in
    let once : AllOnce r = subst (λ (os : List Name). AllHold (IsNew os) os) c.order.ensures.value (rw c.in-Ok.is at c.in_ok-order.ensures).1 in
    let lines : c.in_ok-lines.lines ≡ names_of r = c.in_ok-lines.ensures ∙ (c.deref.ensures.value ∙ c.in_ok-names.ensures) in
    let at_lines : ArePlaces c.in_ok-lines.lines c.order-3.result.now c.in-Ok-2.places.items = rw c.in-Ok-2.is at c.in_ok-places.ensures in
    let placed : ArePlaces (names_of r) r.order c.in-Ok-2.places.items = subst (λ (os : List Name). ArePlaces (names_of r) os c.in-Ok-2.places.items) c.order-3.ensures.value (subst (λ (ns : List Name). ArePlaces ns c.order-3.result.now c.in-Ok-2.places.items) lines at_lines) in
    subst (λ (ps : List ℕ). StandInOrder r ps) (sym c.deref-3.ensures.value) (stand r c.in-Ok-2.places.items fits.once placed)

pub returns-in-Some-first_late : goal.returns-in-Some-first_late
returns-in-Some-first_late c =
    let r = c.args.written.now in
    let fits = c.order.ensures.fits in
    let once : AllOnce r = subst (λ (os : List Name). AllHold (IsNew os) os) c.order.ensures.value (rw c.in-Ok.is at c.in_ok-order.ensures).1 in
    let lines : c.in_ok-lines.lines ≡ names_of r = c.in_ok-lines.ensures ∙ (c.deref.ensures.value ∙ c.in_ok-names.ensures) in
    let at_lines : ArePlaces c.in_ok-lines.lines c.order-3.result.now c.in-Ok-2.places.items = rw c.in-Ok-2.is at c.in_ok-places.ensures in
    let placed : ArePlaces (names_of r) r.order c.in-Ok-2.places.items = subst (λ (os : List Name). ArePlaces (names_of r) os c.in-Ok-2.places.items) c.order-3.ensures.value (subst (λ (ns : List Name). ArePlaces ns c.order-3.result.now c.in-Ok-2.places.items) lines at_lines) in
    let known : AllKnown r = known_from (names_of r) r.order c.in-Ok-2.places.items placed in
    let asked : c.in-Ok.order ≡ r.order = (rw c.in-Ok.is at c.in_ok-order.ensures).0 ∙ c.order.ensures.value in
    let names : c.deref-2.result.now ≡ names_of r = c.deref-2.ensures.value ∙ c.in_ok-names.ensures in
    let missing : NoneMissing r = subst (λ (os : List Name). AllHold (λ (i : ℕ) (n : Name). Contains os n) (names_of r)) asked (subst (λ (ns : List Name). AllHold (λ (i : ℕ) (n : Name). Contains c.in-Ok.order n) ns) names c.in_default.ensures) in
    (once, known, missing, c.in-Some-first_late.ensures)

pub first_wrong-requires : goal.first_wrong-requires
first_wrong-requires c =
    let r = c.args.written.now in
    let fits = c.order.ensures.fits in
    let once : AllOnce r = subst (λ (os : List Name). AllHold (IsNew os) os) c.order.ensures.value (rw c.in-Ok.is at c.in_ok-order.ensures).1 in
    let lines : c.in_ok-lines.lines ≡ names_of r = c.in_ok-lines.ensures ∙ (c.deref.ensures.value ∙ c.in_ok-names.ensures) in
    let at_lines : ArePlaces c.in_ok-lines.lines c.order-3.result.now c.in-Ok-2.places.items = rw c.in-Ok-2.is at c.in_ok-places.ensures in
    let placed : ArePlaces (names_of r) r.order c.in-Ok-2.places.items = subst (λ (os : List Name). ArePlaces (names_of r) os c.in-Ok-2.places.items) c.order-3.ensures.value (subst (λ (ns : List Name). ArePlaces ns c.order-3.result.now c.in-Ok-2.places.items) lines at_lines) in
    subst (λ (ps : List ℕ). StandInOrder r ps) (sym c.deref-4.ensures.value) (stand r c.in-Ok-2.places.items fits.once placed)

pub returns : goal.returns
returns c =
    let r = c.args.written.now in
    let fits = c.order.ensures.fits in
    let once : AllOnce r = subst (λ (os : List Name). AllHold (IsNew os) os) c.order.ensures.value (rw c.in-Ok.is at c.in_ok-order.ensures).1 in
    let lines : c.in_ok-lines.lines ≡ names_of r = c.in_ok-lines.ensures ∙ (c.deref.ensures.value ∙ c.in_ok-names.ensures) in
    let at_lines : ArePlaces c.in_ok-lines.lines c.order-3.result.now c.in-Ok-2.places.items = rw c.in-Ok-2.is at c.in_ok-places.ensures in
    let placed : ArePlaces (names_of r) r.order c.in-Ok-2.places.items = subst (λ (os : List Name). ArePlaces (names_of r) os c.in-Ok-2.places.items) c.order-3.ensures.value (subst (λ (ns : List Name). ArePlaces ns c.order-3.result.now c.in-Ok-2.places.items) lines at_lines) in
    let known : AllKnown r = known_from (names_of r) r.order c.in-Ok-2.places.items placed in
    let asked : c.in-Ok.order ≡ r.order = (rw c.in-Ok.is at c.in_ok-order.ensures).0 ∙ c.order.ensures.value in
    let names : c.deref-2.result.now ≡ names_of r = c.deref-2.ensures.value ∙ c.in_ok-names.ensures in
    let missing : NoneMissing r = subst (λ (os : List Name). AllHold (λ (i : ℕ) (n : Name). Contains os n) (names_of r)) asked (subst (λ (ns : List Name). AllHold (λ (i : ℕ) (n : Name). Contains c.in-Ok.order n) ns) names c.in_default.ensures) in
    let time : AllInTime r = c.in_default-first_late.ensures in
    elim c.match-branch-8.branch [
      | in-Some-2 w ↦ subst (λ (v : Verdict). IsVerdict r v) (sym w.result-is) (once, known, missing, time, rw w.in-Some-2.is at c.in_ok-name.ensures)
      | in-None w ↦ subst (λ (v : Verdict). IsVerdict r v) (sym w.result-is) (good r once known missing time (rw w.in-None.is at c.in_ok-name.ensures))
    ]
