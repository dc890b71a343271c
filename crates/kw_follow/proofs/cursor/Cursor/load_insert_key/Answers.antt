use Rattle.std.proofs.Common.{refl}
use Rattle.kw_world.specs.declared.activity.Activity.TheVariants as Activity
use Rattle.kw_world.specs.declared.activity.insert.Insert.TheVariants as Insert
use Rattle.kw_follow.specs.Cursors.{with_cursor}
use Rattle.kw_follow.proofs.PutEvents.{asks_at}
use Rattle.kw_follow.proofs.cursor.Cursor.load_insert_key.Goals as goal

pub load_key-requires : goal.load_key-requires
load_key-requires c = asks_at _ _ (with_cursor (Activity.Insert Insert.Key) c.args.self c.requires.0) (Activity.Insert Insert.Key) c.requires.1 refl tt
