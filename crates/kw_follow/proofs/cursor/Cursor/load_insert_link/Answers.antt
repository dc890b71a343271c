use Rattle.kw_follow.specs.Cursors.{with_cursor}
use Rattle.kw_follow.proofs.PutEvents.{asks_link}
use Rattle.kw_follow.proofs.cursor.Cursor.load_insert_link.Goals as goal

pub load_after-requires : goal.load_after-requires
load_after-requires c = asks_link _ _ (with_cursor c.requires.0 c.args.self c.requires.1) _ c.requires.3 c.requires.2 c.link_name-link.ensures
