use Rattle.kw_follow.specs.Cursors.{with_cursor}
use Rattle.kw_follow.proofs.ReadEvents.{asks_list_link, link_taking, reads_word}
use Rattle.kw_follow.proofs.cursor.Cursor.load_cell_link.Goals as goal

pub load_after-requires : goal.load_after-requires
load_after-requires c = asks_list_link _ _ (with_cursor c.requires.0 c.args.self c.requires.1) _ c.requires.3 c.requires.2 c.link_name-link.ensures

pub returns : goal.returns
returns c = λ a l at f. reads_word _ _ _ (with_cursor a c.args.self l) _ f c.load_after.ensures (link_taking a at)
