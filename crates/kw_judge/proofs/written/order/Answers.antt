use Rattle.std.proofs.Common.{◌∙◌, ◌++◌, ◌∷◌, ap, sym, map, codes, not, inl, inr, eqb}
use Rattle.std.proofs.lemmas.List.{append-nil}
use Rattle.kw_line.proofs.Texts.{not_same}
use Rattle.kw_judge.specs.Texts.{name_text}
use Rattle.kw_judge.proofs.LineTexts.{some_word, no_names, no_order, bad_name, order_read, pick}
use Rattle.kw_judge.proofs.written.order.Goals as goal

pub returns-then-is_same : goal.returns-then-is_same
returns-then-is_same c =
    let none = c.new-names.ensures.items in
    let line = c.is_same.ensures.0 c.if-is_same.true in
    rw none (tt, line ∙ sym no_names)

pub returns-in_default : goal.returns-in_default
returns-in_default c = λ names h e. some_word c.args.line.now (sym c.new-words.ensures ∙ (c.in_default.ensures {u = tt}).steps.0)

pub returns-then-not-is_same : goal.returns-then-not-is_same
returns-then-not-is_same c =
    let other = not_same c.is_same.ensures c.if-is_same.false in
    no_order c.args.line.now c.in-Some.first.now c.next.new.self other (sym c.new-words.ensures ∙ (c.in-Some.ensures {u = tt}).steps) (not_same c.is_same-2.ensures c.if-not-is_same.true)

pub returns-in_default-name : goal.returns-in_default-name
returns-in_default-name c =
    let other = not_same c.is_same.ensures c.if-is_same.false in
    let next = c.in-Some-word.ensures {u = tt} in
    bad_name c.args.line.now c.loop-word.names.items c.in-Some-word.word.now c.next-in-loop-word.new.self other (c.loop-word.invariant.texts ∙ ap (λ t. codes "order" ∷ (map name_text c.loop-word.names.items ++ t)) next.steps) (c.in_default-name.ensures {u = tt})

pub returns : goal.returns
returns c =
    let other = not_same c.is_same.ensures c.if-is_same.false in
    let last = c.in-None.ensures {u = tt} in
    let whole = c.loop-word.invariant.texts ∙ ap (λ t. codes "order" ∷ t) (ap (λ t. map name_text c.loop-word.names.items ++ t) last.steps.0 ∙ append-nil _) in
    rw c.then_some.ensures (pick (not c.is_empty.result) c.loop-word.names _ _ (elim (order_read c.args.line.now c.loop-word.names.items (not c.is_empty.result) c.loop-word.invariant.each other whole (ap not (c.is_empty.ensures ∙ ap (λ n. eqb n 0) c.loop-word.names.ok.0))) [ inl h ↦ inl (h.0, (c.loop-word.invariant.each, h.1)) | inr h ↦ inr h ]))
