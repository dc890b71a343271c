use Rattle.std.proofs.Common.{◌≡◌, ◌≢◌, ◌≤◌, ◌++◌, ◌∙◌, [], length, drop, take, refl, sym, ap, subst, arith, length-append}
use Rattle.std.proofs.lemmas.List.{length-take-le}
use Rattle.std.proofs.lemmas.List.Elements.{All-nil}
use Rattle.kw_line.specs.declared.words.TheConstants.{LINE_FEED}
use Rattle.kw_line.proofs.Parts.{HasNo}
use Rattle.kiwid.specs.declared.request.TheConstants.{MOST_BYTES}
use Rattle.kiwid.specs.declared.session.SessionEnd.TheVariants.{Memory, ReadFault}
use Rattle.kiwid.proofs.Passes.{stays_idle, stays_trans}
use Rattle.kiwid.proofs.Coming.{at_first, ends_grow, grown, kept_all, more_answered_at, more_came, none_came, reads_on, session_ends, session_ends_at, session_last_at}
use Rattle.kiwid.proofs.Ways.{no_memory, read_failed}
use Rattle.kiwid.proofs.session.answer_reads.Goals as goal

pub loop-init : goal.loop-init
loop-init g c =
    let none = c.new-held.ensures.items in
    record {
      can_next = tt;
      is_finite = tt;
      stays = stays_idle _ _ c.requires.idle;
      sofar = at_first _ _ _ _ _ none c.new-replies.ensures;
      clean = subst (HasNo LINE_FEED) (sym none) (All-nil (λ byte. byte ≢ LINE_FEED));
      short = omega (arith, ap length none);
      few = omega (arith, c.new-replies.ensures);
      room = λ _. none;
      sources = omega arith;
      sinks = omega arith;
    }

pub returns-in_default-clause-served : goal.returns-in_default-clause-served
returns-in_default-clause-served g c =
    session_ends _ _ c.loop.held.items _ _ _ _ _ _ c.loop.replies.count ReadFault (kept_all _ _ _ c.loop.held.items _ _ _ _ c.loop.replies.count c.loop.invariant.sofar (rw c.in_default.is at c.read.ensures.kept)) (λ more. read_failed c.loop.replies.count _ _ (c.loop.held.items ++ more) c.loop.invariant.few)

pub returns-in_default-clause-reads_on : goal.returns-in_default-clause-reads_on
returns-in_default-clause-reads_on g c =
    reads_on _ _ c.loop.held.items _ _ _ _ _ c.loop.replies.count (kept_all _ _ _ c.loop.held.items _ _ _ _ c.loop.replies.count c.loop.invariant.sofar (rw c.in_default.is at c.read.ensures.kept)) (omega (arith, c.loop.invariant.short)) (omega arith)

pub returns-then-more-eq0-clause-served : goal.returns-then-more-eq0-clause-served
returns-then-more-eq0-clause-served g c =
    let piece = take c.in-Ok.more c.read.new.into in
    let held = c.loop.held.items in
    session_last_at _ _ held c.deref.result.now _ _ _ _ _ _ c.loop.replies.count c.last_line.result (more_came _ _ _ held piece held _ _ _ _ c.loop.replies.count c.loop.invariant.sofar c.in-Ok.ensures.taken (none_came held c.read.new.into c.in-Ok.more c.if-more-eq0.true)) (c.in-Ok.ensures.end c.if-more-eq0.true) c.deref.ensures.value c.last_line.ensures.ends

pub returns-then-more-eq0-clause-reads_on : goal.returns-then-more-eq0-clause-reads_on
returns-then-more-eq0-clause-reads_on g c =
    let piece = take c.in-Ok.more c.read.new.into in
    let held = c.loop.held.items in
    reads_on _ _ held _ _ _ _ _ c.loop.replies.count (more_came _ _ _ held piece held _ _ _ _ c.loop.replies.count c.loop.invariant.sofar c.in-Ok.ensures.taken (none_came held c.read.new.into c.in-Ok.more c.if-more-eq0.true)) (omega (arith, c.loop.invariant.short)) (ends_grow _ _ _ _ _ _ _ c.last_line.ensures.ends)

pub returns-then-more-eq0-clause-stays : goal.returns-then-more-eq0-clause-stays
returns-then-more-eq0-clause-stays g c = stays_trans _ _ _ _ c.loop.invariant.stays c.last_line.ensures.stays

pub returns-then-is_err-clause-served : goal.returns-then-is_err-clause-served
returns-then-is_err-clause-served g c =
    let piece = take c.in-Ok.more c.read.new.into in
    let held = c.loop.held.items in
    session_ends _ _ (held ++ piece) _ _ _ _ _ _ c.loop.replies.count Memory (more_came _ _ _ held piece (held ++ piece) _ _ _ _ c.loop.replies.count c.loop.invariant.sofar c.in-Ok.ensures.taken refl) (λ more. no_memory c.loop.replies.count _ _ ((held ++ piece) ++ more) c.loop.invariant.few)

pub returns-in-Err-clause-served : goal.returns-in-Err-clause-served
returns-in-Err-clause-served g c =
    let piece = take c.in-Ok.more c.read.new.into in
    let held = c.loop.held.items in
    let longer : c.extend_from_slice.new.self.items ≡ held ++ piece = grown c.extend_from_slice.result _ _ _ (sym c.is_err.ensures.value ∙ c.if-is_err.false) c.extend_from_slice.ensures.items in
    session_ends_at _ _ c.extend_from_slice.new.self.items c.deref-in-loop.result.now _ _ _ _ _ _ c.loop.replies.count c.in-Err.end (more_came _ _ _ held piece c.extend_from_slice.new.self.items _ _ _ _ c.loop.replies.count c.loop.invariant.sofar c.in-Ok.ensures.taken longer) c.deref-in-loop.ensures.value c.in-Err.ensures.ends

pub returns-in-Err-clause-stays : goal.returns-in-Err-clause-stays
returns-in-Err-clause-stays g c = stays_trans _ _ _ _ c.loop.invariant.stays c.whole_lines.ensures.stays

pub loop-preserved : goal.loop-preserved
loop-preserved g c =
    let piece = take c.in-Ok.more c.read.new.into in
    let held = c.loop.held.items in
    let longer : c.extend_from_slice.new.self.items ≡ held ++ piece = grown c.extend_from_slice.result _ _ _ (sym c.is_err.ensures.value ∙ c.if-is_err.false) c.extend_from_slice.ensures.items in
    let rest : c.drop_front.new.held.items ≡ drop c.in-Ok-whole_lines.at c.deref-in-loop.result.now = c.drop_front.ensures ∙ ap (drop c.in-Ok-whole_lines.at) (sym c.deref-in-loop.ensures.value) in
    record {
      can_next = tt;
      is_finite = tt;
      stays = stays_trans _ _ _ _ c.loop.invariant.stays c.whole_lines.ensures.stays;
      sofar = more_answered_at _ _ c.extend_from_slice.new.self.items c.deref-in-loop.result.now c.drop_front.new.held.items c.in-Ok-whole_lines.at _ _ _ _ _ _ c.loop.replies.count c.whole_lines.new.replies.count (more_came _ _ _ held piece c.extend_from_slice.new.self.items _ _ _ _ c.loop.replies.count c.loop.invariant.sofar c.in-Ok.ensures.taken longer) c.deref-in-loop.ensures.value rest c.in-Ok-whole_lines.ensures.answers.took;
      clean = subst (HasNo LINE_FEED) (sym rest) c.in-Ok-whole_lines.ensures.answers.one_line;
      short = subst (λ x. length x ≤ MOST_BYTES) (sym rest) c.in-Ok-whole_lines.ensures.answers.short;
      few = c.whole_lines.ensures.few;
      room = λ e. rest ∙ c.in-Ok-whole_lines.ensures.answers.room e;
      sources = omega (arith, c.loop.invariant.sources, c.read.ensures.never_falls);
      sinks = omega (arith, c.loop.invariant.sinks, c.whole_lines.ensures.never_falls);
    }

pub returns-then-is_err-clause-reads_on : goal.returns-then-is_err-clause-reads_on
returns-then-is_err-clause-reads_on g c =
    let piece = take c.in-Ok.more c.read.new.into in
    let held = c.loop.held.items in
    let whole = length-append held piece in
    let some = length-take-le c.in-Ok.more c.read.new.into c.in-Ok.ensures.bound in
    reads_on _ _ (held ++ piece) _ _ _ _ _ c.loop.replies.count (more_came _ _ _ held piece (held ++ piece) _ _ _ _ c.loop.replies.count c.loop.invariant.sofar c.in-Ok.ensures.taken refl) (omega (arith, whole, some, c.in-Ok.ensures.bound, c.loop.invariant.short)) (omega arith)

pub returns-in-Err-clause-reads_on : goal.returns-in-Err-clause-reads_on
returns-in-Err-clause-reads_on g c =
    let piece = take c.in-Ok.more c.read.new.into in
    let held = c.loop.held.items in
    let longer : c.extend_from_slice.new.self.items ≡ held ++ piece = grown c.extend_from_slice.result _ _ _ (sym c.is_err.ensures.value ∙ c.if-is_err.false) c.extend_from_slice.ensures.items in
    let whole = length-append held piece in
    let some = length-take-le c.in-Ok.more c.read.new.into c.in-Ok.ensures.bound in
    reads_on _ _ c.extend_from_slice.new.self.items _ _ _ _ _ c.loop.replies.count (more_came _ _ _ held piece c.extend_from_slice.new.self.items _ _ _ _ c.loop.replies.count c.loop.invariant.sofar c.in-Ok.ensures.taken longer) (omega (arith, ap length longer, whole, some, c.in-Ok.ensures.bound, c.loop.invariant.short)) (ends_grow _ _ _ _ _ _ _ (c.in-Err.ensures.ends []))
