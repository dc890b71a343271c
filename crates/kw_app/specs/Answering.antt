-- What the answers to lines are worth: they are those of a run on the concurrent map.
use Rattle.std.specs.Prelude.{ℕ, Bool, ◌≡◌, List, Option, Some}
use Rattle.std.specs.List.{list_any}
use Rattle.kw_line.specs.declared.item.Item.{Item}
use Rattle.kw_line.specs.declared.answer.Answer.{Answer}
use Rattle.kw_world.specs.declared.opening.Opening.{Opening}
use Rattle.kw_table.specs.declared.pass.Pass.{Pass}
use Rattle.kw_table.specs.Passes.{view}
use Rattle.kw_map.specs.Kiwi.{IsOrdered}
use Rattle.kw_app.specs.Headline.{Headline}
use Rattle.kw_app.specs.Running.{Shows, is_refused}

-- what a run by this many workers on a map of this many rows begins with
abbrev pub opening : ℕ → ℕ → Opening
opening workers rows = record { rows = rows; seats = workers; clock = 1; epoch = 1 }

-- the answers are those of a run on the concurrent map, which this pass shows; its calls have one
-- legal order, and the answers are worth what one thread's are
pub record IsRun (o : Opening) (items : List Item) (answers : List Answer) (p : Pass) : Type 0 where
  pub shows : Shows o items answers (view p)
  pub ordered : IsOrdered (view p)
  pub headline : Headline o (view p).seen items answers

-- the answers to these items by this many workers on a map of this many rows: those of a run, and
-- the pass that shows it is at hand
pub record IsAnswered (workers rows : ℕ) (items : List Item) (answers : List Answer) (front : Option Pass) : Type 0 where
  pub pass : Pass
  pub front_is : front ≡ Some pass
  pub run : IsRun (opening workers rows) items answers pass

-- some answer is a refusal
abbrev pub some_refused : List Answer → Bool
some_refused answers = list_any is_refused answers
