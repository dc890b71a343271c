use Rattle.std.proofs.Common.{refl, sym, ◌∙◌}
use Rattle.kw_live.proofs.Beginnings.{begins_here, own_begins, own_begun, start_is}
use Rattle.kw_live.proofs.inserting.begin_own.Goals as goal

pub begin_insert-requires : goal.begin_insert-requires
begin_insert-requires c = (c.args.local.now, begins_here c.args.local.now c.requires.follows (start_is _ (sym c.is_start.ensures ∙ c.if-is_start.true)) c.of-cursor.ensures refl c.requires.least)

pub returns-then-is_start : goal.returns-then-is_start
returns-then-is_start c = λ w other. own_begins c.of-cursor.ensures (c.begin_insert.ensures c.args.local.now (begins_here c.args.local.now c.requires.follows (start_is _ (sym c.is_start.ensures ∙ c.if-is_start.true)) c.of-cursor.ensures refl c.requires.least)) other

pub returns-else-is_start : goal.returns-else-is_start
returns-else-is_start c = λ w other. own_begun c.requires.follows c.requires.activity c.of-cursor.ensures other
