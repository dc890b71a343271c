-- The index leads to the key's last entry; a key that it does not have has none.
use Rattle.std.proofs.Common.{◌≡◌, ◌↔◌, ◌⊎◌, ℕ, Option, Some, None, IsNone, sym, ap, ◌∙◌, subst, arith}
use Rattle.std.specs.Option.{option_copied}
use Rattle.kw_cells.specs.Plain.{Entries, last_of, flat, shown_last, index_of}
use Rattle.kw_cells.proofs.Entries.{last_of-no_place, last_of-place, shows_none}
use Rattle.kw_cells.proofs.Tree.{lookup_is}
use Rattle.kw_cells.proofs.plain.Plain.get.Goals as goal

absent : goal.returns-in_err-place-clause-value
absent c =
    let es = c.self.inside.entries.items in
    let none : index_of es c.args.key ≡ None = sym (c.self.invariant.places c.args.key) ∙ sym (lookup_is c.args.key c.self.inside.newest.entries) ∙ sym c.get.ensures.value ∙ ap option_copied c.in_err-place.was in
    c.from_residual.ensures ∙ sym (ap flat (last_of-no_place es c.args.key none)) ∙ ap (λ (l : Entries). shown_last l c.args.key) c.self.view_is

pub returns-in_err-place-clause-value : goal.returns-in_err-place-clause-value
returns-in_err-place-clause-value c = absent c

pub returns-in_err-place-clause-none : goal.returns-in_err-place-clause-none
returns-in_err-place-clause-none c = subst (λ (o : Option ℕ). IsNone o ↔ ((last_of c.args.self.now c.args.key ≡ None) ⊎ (last_of c.args.self.now c.args.key ≡ Some None))) (sym (absent c)) (shows_none c.args.self.now c.args.key)

pub index-requires : goal.index-requires
index-requires c =
    let es = c.self.inside.entries.items in
    let place : index_of es c.args.key ≡ Some c.in_ok-place.field-0.now = sym (c.self.invariant.places c.args.key) ∙ sym (lookup_is c.args.key c.self.inside.newest.entries) ∙ sym c.get.ensures.value ∙ ap option_copied c.in_ok-place.was in
    let last = last_of-place es c.args.key c.in_ok-place.field-0.now (0, None) place in
    let low = last.0 in
    omega arith

present : goal.returns-clause-value
present c =
    let es = c.self.inside.entries.items in
    let place : index_of es c.args.key ≡ Some c.in_ok-place.field-0.now = sym (c.self.invariant.places c.args.key) ∙ sym (lookup_is c.args.key c.self.inside.newest.entries) ∙ sym c.get.ensures.value ∙ ap option_copied c.in_ok-place.was in
    let last = last_of-place es c.args.key c.in_ok-place.field-0.now c.index.result.now place in
    ap (λ (e : ℕ × Option ℕ). e.1) c.index.ensures ∙ sym (ap flat last.1) ∙ ap (λ (l : Entries). shown_last l c.args.key) c.self.view_is

pub returns-clause-value : goal.returns-clause-value
returns-clause-value c = present c

pub returns-clause-none : goal.returns-clause-none
returns-clause-none c = subst (λ (o : Option ℕ). IsNone o ↔ ((last_of c.args.self.now c.args.key ≡ None) ⊎ (last_of c.args.self.now c.args.key ≡ Some None))) (sym (present c)) (shows_none c.args.self.now c.args.key)
