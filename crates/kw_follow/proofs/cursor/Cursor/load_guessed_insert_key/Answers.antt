use Rattle.std.proofs.Common.{refl}
use Rattle.kw_world.specs.declared.activity.Activity.TheVariants as Activity
use Rattle.kw_world.specs.declared.activity.insert.Insert.TheVariants as Insert
use Rattle.kw_follow.specs.Cursors.{with_cursor}
use Rattle.kw_follow.proofs.PutEvents.{asks_guessed_key}
use Rattle.kw_follow.proofs.cursor.Cursor.load_guessed_insert_key.Goals as goal

pub load_key-requires : goal.load_key-requires
load_key-requires c = asks_guessed_key _ _ (with_cursor (Activity.Insert Insert.Start) c.args.self c.requires.follows.0) (Activity.Insert Insert.Start) _ c.requires.follows.1 refl tt c.requires.follows.2 c.requires.cell
