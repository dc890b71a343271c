use Rattle.std.proofs.Common.{ap, refl}
use Rattle.kw_words.specs.declared.layout.Name.TheVariants.{Count, Least, Next, First}
use Rattle.kw_world.specs.declared.activity.rebalance.write.Write.TheVariants as Write
use Rattle.kw_follow.specs.BuildsOn.{at_entry, writing}
use Rattle.kw_follow.proofs.RowWriting.{asks_word, wrote}
use Rattle.kw_follow.proofs.row_writing.write_head.Goals as goal
use Rattle.kw_follow.proofs.Advancing.{advances_none}

pub count_word-count-requires : goal.count_word-count-requires
count_word-count-requires c = c.requires.ranges

pub least_word-least-requires : goal.least_word-least-requires
least_word-least-requires c = c.requires.ranges

pub next_word-next-requires : goal.next_word-next-requires
next_word-next-requires c = c.requires.ranges

pub first_word-first-requires : goal.first_word-first-requires
first_word-first-requires c = c.requires.ranges

pub store_infant-requires : goal.store_infant-requires
store_infant-requires c = asks_word c.args.local.now Write.Count c.requires.follows (ap Count c.infant-row.ensures) c.count_word-count.ensures refl

pub store_infant-requires-2 : goal.store_infant-requires-2
store_infant-requires-2 c =
    let counted = wrote c.args.local.now (writing Write.Least c.args.local.now) Write.Count (advances_none c.requires.follows) c.store_infant.ensures refl in
    asks_word c.args.local.now Write.Least counted.follows (ap Least c.infant-row.ensures) c.least_word-least.ensures refl

pub store_infant-requires-3 : goal.store_infant-requires-3
store_infant-requires-3 c =
    let counted = wrote c.args.local.now (writing Write.Least c.args.local.now) Write.Count (advances_none c.requires.follows) c.store_infant.ensures refl in
    let bounded = wrote c.args.local.now (writing Write.Next c.args.local.now) Write.Least counted c.store_infant-2.ensures refl in
    asks_word c.args.local.now Write.Next bounded.follows (ap Next c.infant-row.ensures) c.next_word-next.ensures refl

pub store_infant-requires-4 : goal.store_infant-requires-4
store_infant-requires-4 c =
    let counted = wrote c.args.local.now (writing Write.Least c.args.local.now) Write.Count (advances_none c.requires.follows) c.store_infant.ensures refl in
    let bounded = wrote c.args.local.now (writing Write.Next c.args.local.now) Write.Least counted c.store_infant-2.ensures refl in
    let linked = wrote c.args.local.now (writing Write.First c.args.local.now) Write.Next bounded c.store_infant-3.ensures refl in
    asks_word c.args.local.now Write.First linked.follows (ap First c.infant-row.ensures) c.first_word-first.ensures refl

pub returns : goal.returns
returns c =
    let counted = wrote c.args.local.now (writing Write.Least c.args.local.now) Write.Count (advances_none c.requires.follows) c.store_infant.ensures refl in
    let bounded = wrote c.args.local.now (writing Write.Next c.args.local.now) Write.Least counted c.store_infant-2.ensures refl in
    let linked = wrote c.args.local.now (writing Write.First c.args.local.now) Write.Next bounded c.store_infant-3.ensures refl in
    wrote c.args.local.now (at_entry 0 c.args.local.now) Write.First linked c.store_infant-4.ensures refl
