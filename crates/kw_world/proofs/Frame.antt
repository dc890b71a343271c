-- What an event leaves as it was, and what it changes: one word, by its name, and what one seat
-- knows.
use Rattle.std.proofs.Common.{ℕ, ◌≡◌, ◌≢◌, ◌<◌, Some, slice_get, length, get_or-set_same, get_or-set_other}
use Rattle.std.proofs.lemmas.List.{set-get_or}
use Rattle.kw_words.specs.declared.layout.Name.{Name}
use Rattle.kw_words.specs.Layout.{IsWithin, place_of}
use Rattle.kw_words.proofs.Places.{same_name}
use Rattle.kw_world.specs.declared.operation.Action.TheVariants.{Load}
use Rattle.kw_world.specs.Operation.{word_after}
use Rattle.kw_world.specs.Sizes.{Sizes}
use Rattle.kw_world.specs.WorldView.{WorldView}
use Rattle.kw_world.specs.Transition.{Transition}
use Rattle.kw_world.specs.Step.{after, word, followed}
use Rattle.kw_world.proofs.Lists.{get-set_same, get-set_other}

-- the word of the line is what its action leaves
pub word-same : (z : Sizes) (w : WorldView) (s : ℕ) (r : Transition) → place_of z.seats z.cells r.operation.name < length w.words → word z (after z w s r) r.operation.name ≡ word_after r.operation.action (word z w r.operation.name)
unfolding word
word-same z w s r h = get_or-set_same w.words (place_of z.seats z.cells r.operation.name) _ 0 h

-- every other word is as it was
pub word-other : (z : Sizes) (w : WorldView) (s : ℕ) (r : Transition) (n : Name) → IsWithin z.seats z.cells w.rows n → IsWithin z.seats z.cells w.rows r.operation.name → n ≢ r.operation.name → word z (after z w s r) n ≡ word z w n
unfolding word
word-other z w s r n i o d = get_or-set_other w.words (place_of z.seats z.cells r.operation.name) (place_of z.seats z.cells n) _ 0 (λ e. d (same_name z.seats z.cells w.rows r.operation.name n o i e))

-- a load leaves every word as it was
pub word-loaded : (z : Sizes) (w : WorldView) (s : ℕ) (r : Transition) (n : Name) → r.operation.action ≡ Load → word z (after z w s r) n ≡ word z w n
unfolding word
word-loaded z w s r n e = rw e (rw (set-get_or w.words (place_of z.seats z.cells r.operation.name) 0))

-- the acting seat knows what follows from the line
pub local-same : (z : Sizes) (w : WorldView) (s : ℕ) (r : Transition) → s < length w.locals → slice_get (after z w s r).locals s ≡ Some (followed w.rows r (word z w r.operation.name)).local
local-same z w s r h = get-set_same w.locals s _ h

-- every other seat knows what it knew
pub local-other : (z : Sizes) (w : WorldView) (s t : ℕ) (r : Transition) → t ≢ s → slice_get (after z w s r).locals t ≡ slice_get w.locals t
local-other z w s t r d = get-set_other w.locals s t _ d
