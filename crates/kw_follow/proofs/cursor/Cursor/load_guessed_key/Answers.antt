use Rattle.std.proofs.Common.{refl}
use Rattle.kw_world.specs.declared.activity.Activity.TheVariants as Activity
use Rattle.kw_world.specs.declared.activity.read.Read.TheVariants as Read
use Rattle.kw_follow.specs.Cursors.{with_cursor}
use Rattle.kw_follow.proofs.PutEvents.{asks_guessed_key}
use Rattle.kw_follow.proofs.cursor.Cursor.load_guessed_key.Goals as goal

pub load_key-requires : goal.load_key-requires
load_key-requires c = asks_guessed_key _ _ (with_cursor (Activity.Read Read.Start) c.args.self c.requires.follows.0) (Activity.Read Read.Start) _ c.requires.follows.1 refl tt c.requires.follows.2 c.requires.cell
