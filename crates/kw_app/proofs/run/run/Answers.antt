-- Words mean one command, so what is said of it holds of each command that they mean.
use Rattle.std.proofs.Common.{◌≡◌, ℕ, List, Option, Some, None, refl, sym, ◌∙◌, subst}
use Rattle.std.specs.Prelude.{IfSome, MatchOption}
use Rattle.kw_command.specs.declared.command.Command.{Command}
use Rattle.kw_command.specs.Words.{AreInRange, Means}
use Rattle.kw_command.proofs.Commands.{at_command}
use Rattle.kw_app.specs.Completing.{HasDone}
use Rattle.kw_app.proofs.Completing.{has_done, memory_wanted, words_are_good}
use Rattle.kw_app.proofs.Ended.{memory_is_told}
use Rattle.kw_app.proofs.RunEnds.{no_text_is_written, no_text_was_read, only_judge, only_map, reads_for, silent_at_bad_words, silent_at_want, silent_writes, text_ends, text_is_written, text_was_read, unread_reads, writes_for}
use Rattle.kw_app.proofs.run.run.Goals as goal

-- the command that was found is one that the words mean
meant_of : (ws : List (List ℕ)) (o : Option Command) (c : Command) → o ≡ Some c → MatchOption o ((d : Command) → Means ws d → ⊥) (Means ws) → Means ws c
meant_of ws None c e h = absurd cc
meant_of ws (Some d) c e h =
    let same : d ≡ c = cc in
    subst (Means ws) same h

-- and its numbers are in range
in_range : (o : Option Command) (c : Command) → o ≡ Some c → IfSome o AreInRange → AreInRange c
in_range None c e h = absurd cc
in_range (Some d) c e h =
    let same : d ≡ c = cc in
    subst AreInRange same h

-- where none was found the words mean none
none_of : (ws : List (List ℕ)) (o : Option Command) → o ≡ None → MatchOption o ((d : Command) → Means ws d → ⊥) (Means ws) → (c : Command) → Means ws c → ⊥
none_of ws None e h = h
none_of ws (Some d) e h = absurd cc

-- each command that the words mean is the one that was found
only : (ws : List (List ℕ)) (c : Command) → Means ws c → (d : Command) → Means ws d → d ≡ c
only ws c one d other = at_command (λ (x : Command). x ≡ c) ws c d one other refl

pub returns-in-Ok-clause-writes : goal.returns-in-Ok-clause-writes
returns-in-Ok-clause-writes g c =
    let means = meant_of c.args.words.now c.in-Ok-Some.field-0 c.in-Ok-Some.command c.in-Ok-Some.field-0-is c.in-Ok-Some.ensures.meant in
    writes_for _ _ _ _ _ _ _ _ (only c.args.words.now c.in-Ok-Some.command means) (text_is_written _ _ _ _ c.in-Ok-Some.command c.in-Ok.printed _ _ _ _ _ c.in-Ok.ensures c.written.ensures)

pub returns-in-Ok-clause-reads : goal.returns-in-Ok-clause-reads
returns-in-Ok-clause-reads g c =
    let means = meant_of c.args.words.now c.in-Ok-Some.field-0 c.in-Ok-Some.command c.in-Ok-Some.field-0-is c.in-Ok-Some.ensures.meant in
    let range = in_range c.in-Ok-Some.field-0 c.in-Ok-Some.command c.in-Ok-Some.field-0-is c.in-Ok-Some.ensures.range in
    reads_for _ _ _ _ _ _ _ (only c.args.words.now c.in-Ok-Some.command means) (text_was_read _ _ _ _ c.in-Ok-Some.command c.in-Ok.printed _ _ _ _ _ range c.in-Ok.ensures c.written.ensures)

pub returns-in-Ok-clause-not_legal : goal.returns-in-Ok-clause-not_legal
returns-in-Ok-clause-not_legal g c = λ is.
    let means = meant_of c.args.words.now c.in-Ok-Some.field-0 c.in-Ok-Some.command c.in-Ok-Some.field-0-is c.in-Ok-Some.ensures.meant in
    subst (Means c.args.words.now) (only_judge _ _ c.in-Ok-Some.command c.in-Ok.printed _ _ _ c.in-Ok.ensures.ending c.written.ensures is) means

pub returns-in-Ok-clause-refused : goal.returns-in-Ok-clause-refused
returns-in-Ok-clause-refused g c = λ is.
    let means = meant_of c.args.words.now c.in-Ok-Some.field-0 c.in-Ok-Some.command c.in-Ok-Some.field-0-is c.in-Ok-Some.ensures.meant in
    (c.in-Ok-Some.command, means, only_map _ _ c.in-Ok-Some.command c.in-Ok.printed _ _ _ c.in-Ok.ensures.ending c.written.ensures is)

pub returns-in-Err-perform-clause-writes : goal.returns-in-Err-perform-clause-writes
returns-in-Err-perform-clause-writes g c = no_text_is_written _ _ _ _ c.in-Err-perform.error c.without_text.result _ c.without_text.ensures.status c.without_text.ensures.front

pub returns-in-Err-perform-clause-reads : goal.returns-in-Err-perform-clause-reads
returns-in-Err-perform-clause-reads g c =
    let means = meant_of c.args.words.now c.in-Ok-Some.field-0 c.in-Ok-Some.command c.in-Ok-Some.field-0-is c.in-Ok-Some.ensures.meant in
    reads_for _ _ _ _ _ _ _ (only c.args.words.now c.in-Ok-Some.command means)
    (no_text_was_read _ _ c.in-Ok-Some.command c.in-Err-perform.error c.without_text.result _ _ c.in-Err-perform.ensures c.without_text.ensures.status c.without_text.ensures.line)

pub returns-in-Ok-None-clause-writes : goal.returns-in-Ok-None-clause-writes
returns-in-Ok-None-clause-writes g c = silent_writes _ _ _ _ _ _ (silent_at_bad_words c.of.result c.of.ensures.status) c.of.ensures.front

pub returns-in-Ok-None-clause-reads : goal.returns-in-Ok-None-clause-reads
returns-in-Ok-None-clause-reads g c =
    let status = c.of.ensures.status in
    unread_reads _ _ _ _ _ (λ e. cc) (λ e. cc) c.of.ensures.line (λ other means. absurd (none_of c.args.words.now c.in-Ok-None.field-0 c.in-Ok-None.field-0-is c.in-Ok-None.ensures.meant other means))

pub returns-in-Err-clause-writes : goal.returns-in-Err-clause-writes
returns-in-Err-clause-writes g c = silent_writes _ _ _ _ _ _ (silent_at_want c.of-in-Err.result c.of-in-Err.ensures.status) c.of-in-Err.ensures.front

pub returns-in-Err-clause-reads : goal.returns-in-Err-clause-reads
returns-in-Err-clause-reads g c =
    let status = c.of-in-Err.ensures.status in
    unread_reads _ _ _ _ _ (λ e. cc) (λ e. cc) c.of-in-Err.ensures.line (λ other means. memory_is_told other _ c.of-in-Err.result status)

pub returns-in-Ok-clause-complete : goal.returns-in-Ok-clause-complete
returns-in-Ok-clause-complete g c = λ command meant few unfailed unbroken.
    let means = meant_of c.args.words.now c.in-Ok-Some.field-0 c.in-Ok-Some.command c.in-Ok-Some.field-0-is c.in-Ok-Some.ensures.meant in
    let range = in_range c.in-Ok-Some.field-0 c.in-Ok-Some.command c.in-Ok-Some.field-0-is c.in-Ok-Some.ensures.range in
    let ends = text_ends _ _ _ _ _ _ c.written.ensures in
    has_done _ _ _ _ (Means c.args.words.now) command _ _ _ _ _ (returns-in-Ok-clause-writes g c) (returns-in-Ok-clause-reads g c) ends.2 meant
    (subst AreInRange (sym (only c.args.words.now c.in-Ok-Some.command means command meant)) range) few unfailed unbroken

pub returns-in-Err-perform-clause-complete : goal.returns-in-Err-perform-clause-complete
returns-in-Err-perform-clause-complete g c = λ command meant few unfailed unbroken.
    let means = meant_of c.args.words.now c.in-Ok-Some.field-0 c.in-Ok-Some.command c.in-Ok-Some.field-0-is c.in-Ok-Some.ensures.meant in
    let range = in_range c.in-Ok-Some.field-0 c.in-Ok-Some.command c.in-Ok-Some.field-0-is c.in-Ok-Some.ensures.range in
    has_done _ _ _ _ (Means c.args.words.now) command _ _ _ _ _ (returns-in-Err-perform-clause-writes g c) (returns-in-Err-perform-clause-reads g c)
    (λ is. words_are_good c.in-Err-perform.error (sym c.without_text.ensures.status ∙ is)) meant
    (subst AreInRange (sym (only c.args.words.now c.in-Ok-Some.command means command meant)) range) few unfailed unbroken

pub returns-in-Ok-None-clause-complete : goal.returns-in-Ok-None-clause-complete
returns-in-Ok-None-clause-complete g c = λ command meant few unfailed unbroken. absurd (none_of c.args.words.now c.in-Ok-None.field-0 c.in-Ok-None.field-0-is c.in-Ok-None.ensures.meant command meant)

pub returns-in-Err-clause-complete : goal.returns-in-Err-clause-complete
returns-in-Err-clause-complete g c = λ command meant few unfailed unbroken. subst (HasDone command) (sym c.of-in-Err.ensures.status) (memory_wanted command)
