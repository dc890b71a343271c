use Rattle.std.proofs.Common.{refl}
use Rattle.kw_world.specs.declared.activity.Activity.TheVariants as Activity
use Rattle.kw_world.specs.declared.activity.read.Read.TheVariants as Read
use Rattle.kw_follow.specs.Cursors.{with_cursor}
use Rattle.kw_follow.proofs.PutEvents.{asks_at}
use Rattle.kw_follow.proofs.ReadEvents.{reads_word}
use Rattle.kw_follow.proofs.cursor.Cursor.load_value.Goals as goal

pub load_value-requires : goal.load_value-requires
load_value-requires c = asks_at _ _ (with_cursor (Activity.Read Read.Value) c.args.self c.requires.0) (Activity.Read Read.Value) c.requires.1 refl tt

pub returns : goal.returns
returns c = λ l f. reads_word _ _ _ (with_cursor (Activity.Read Read.Value) c.args.self l) _ f c.load_value.ensures tt
