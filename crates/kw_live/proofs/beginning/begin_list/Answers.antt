use Rattle.std.proofs.Common.{◌<◌, ◌≡◌, true, false, nat_lt, arith, subst, sym}
use Rattle.std.proofs.lemmas.Bool.{lt-ltb}
use Rattle.std.proofs.lemmas.Bool.Decides.{nat_tests}
use Rattle.kw_words.specs.Plain.{key_of_word}
use Rattle.kw_live.specs.Beginning.{BeginsList}
use Rattle.kw_live.proofs.Beginnings.{built_few, list_begins, list_begins_none}
use Rattle.kw_live.proofs.beginning.begin_list.Goals as goal

pub cell_below-requires : goal.cell_below-requires
cell_below-requires c = built_few c.requires.1

pub returns-in_default : goal.returns-in_default
returns-in_default c = λ l b. list_begins_none b

pub load_guessed_key-requires-clause-cell : goal.load_guessed_key-requires-clause-cell
load_guessed_key-requires-clause-cell c = c.in-Some.ensures.1

pub load_guessed_key-requires-clause-follows : goal.load_guessed_key-requires-clause-follows
load_guessed_key-requires-clause-follows c = let b = c.requires.1 in let inside = c.in-Some.ensures.0 in (c.requires.0, b.follows, omega (arith, inside, b.counted))

pub returns-then-key-first : goal.returns-then-key-first
returns-then-key-first c = λ l b. subst (BeginsList _ _ l _ _) (sym c.behind.ensures) (list_begins _ c.in-Some.ensures.0 c.in-Some.ensures.1 true b c.load_guessed_key.ensures (lt-ltb _ _ (subst (λ n. n < c.args.first) c.unpack_key-key.ensures.value c.if-key-first.true)))

pub returns-else-key-first : goal.returns-else-key-first
returns-else-key-first c = λ l b. list_begins _ c.in-Some.ensures.0 c.in-Some.ensures.1 false b c.load_guessed_key.ensures (let at = c.unpack_key-key.ensures.value in let over = c.if-key-first.false in let e : nat_lt (key_of_word c.load_guessed_key.result) c.args.first ≡ false = grind (arith, nat_tests) in e)
