use Rattle.std.proofs.Common.{arith, length, ap, subst, sym, ◌∙◌, List}
use Rattle.std.specs.Prelude.{slice_get, map}
use Rattle.kw_core.specs.History.{History}
use Rattle.kw_order.specs.declared.points.CallName.{CallName}
use Rattle.kw_sim.specs.declared.recording.LinePlace.{LinePlace}
use Rattle.kw_sim.specs.declared.recording.Section.TheVariants.{Done, Open}
use Rattle.kw_sim.specs.Printed.{judged}
use Rattle.kw_sim.specs.Sections.{ArePlaces}
use Rattle.kw_sim.proofs.Gathered.{text_built}
use Rattle.kw_sim.proofs.WholeRecords.{too_many, done_within, open_within, whole_record}
use Rattle.kw_sim.proofs.recording.record_of.Goals as goal

pub returns-then-len-gt-MOST_CALLS : goal.returns-then-len-gt-MOST_CALLS
returns-then-len-gt-MOST_CALLS c =
    let done = subst (λ (h : History). ArePlaces h Done c.in_ok-done.done.items) c.history-history.ensures.value c.in_ok-done.ensures in
    let open_calls = subst (λ (h : History). ArePlaces h Open c.in_ok-open_calls.open_calls.items) c.history-history.ensures.value c.in_ok-open_calls.ensures in
    too_many c.args.trace.now c.opening-opening.ensures.range c.events-events.ensures.valid c.in_ok-done.done.items c.in_ok-open_calls.open_calls.items done open_calls
    (omega (arith, c.if-len-gt-MOST_CALLS.true, c.len.ensures, c.len-2.ensures, c.in_ok-done.done.ok.0, c.in_ok-open_calls.open_calls.ok.0))

pub push_lines-requires : goal.push_lines-requires
push_lines-requires c =
    let done = subst (λ (h : History). ArePlaces h Done c.in_ok-done.done.items) c.history-history.ensures.value c.in_ok-done.ensures in
    let open_calls = subst (λ (h : History). ArePlaces h Open c.in_ok-open_calls.open_calls.items) c.history-history.ensures.value c.in_ok-open_calls.ensures in
    let within = done_within c.args.trace.now c.opening-opening.ensures.range c.events-events.ensures.valid c.in_ok-done.done.items c.in_ok-open_calls.open_calls.items done open_calls in
    λ i p e. omega (arith, within i p (ap (λ (xs : List LinePlace). slice_get xs i) (sym c.deref.ensures.value) ∙ e), ap (λ (h : History). length h.calls) c.history-history.ensures.value)

pub push_lines-requires-2 : goal.push_lines-requires-2
push_lines-requires-2 c =
    let done = subst (λ (h : History). ArePlaces h Done c.in_ok-done.done.items) c.history-history.ensures.value c.in_ok-done.ensures in
    let open_calls = subst (λ (h : History). ArePlaces h Open c.in_ok-open_calls.open_calls.items) c.history-history.ensures.value c.in_ok-open_calls.ensures in
    let within = open_within c.args.trace.now c.opening-opening.ensures.range c.events-events.ensures.valid c.in_ok-done.done.items c.in_ok-open_calls.open_calls.items done open_calls in
    λ i p e. omega (arith, within i p (ap (λ (xs : List LinePlace). slice_get xs i) (sym c.deref-2.ensures.value) ∙ e), ap (λ (h : History). length h.calls) c.history-history.ensures.value)

pub returns : goal.returns
returns c =
    let done = subst (λ (h : History). ArePlaces h Done c.in_ok-done.done.items) c.history-history.ensures.value c.in_ok-done.ensures in
    let open_calls = subst (λ (h : History). ArePlaces h Open c.in_ok-open_calls.open_calls.items) c.history-history.ensures.value c.in_ok-open_calls.ensures in
    let of_trace = c.in_ok-names.ensures in
    whole_record c.args.trace.now c.opening-opening.ensures.range c.events-events.ensures.valid c.in_ok-done.done.items c.in_ok-open_calls.open_calls.items done open_calls
    c.requires.seats c.requires.few (omega (arith, c.if-len-gt-MOST_CALLS.false, c.len.ensures, c.len-2.ensures, c.in_ok-done.done.ok.0, c.in_ok-open_calls.open_calls.ok.0))
    c.in_ok-names.names.items of_trace.names (λ xs is. of_trace.one xs of_trace.names.order is of_trace.names.is_order) (of_trace.laws of_trace.names.order of_trace.names.is_order) (of_trace.legal of_trace.names.order of_trace.names.is_order)
    c.push_order.new.out.items
    (text_built _ c.history-history.result.now c.in_ok-done.done.items c.deref.result.now c.in_ok-open_calls.open_calls.items c.deref-2.result.now c.deref-4.result.now c.in_ok-names.names.items c.new-text.result.items c.push_lines.new.out.items c.push_lines-2.new.out.items c.push_order.new.out.items
    c.new-text.ensures.items c.history-history.ensures.value c.deref.ensures.value c.deref-2.ensures.value c.in_ok-push_lines.ensures c.in_ok-push_lines-2.ensures c.in_ok-push_order.ensures
    (c.deref-4.ensures.value ∙ (c.in_ok-judged.ensures ∙ ap (λ (names : List CallName). map judged names) c.deref-3.ensures.value)))
