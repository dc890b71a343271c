-- A row may hold the key of each attempt for which a cell of it stands: its own attempts were given
-- their cells for such keys, and a copy is listed, so that links lead to it from the row's first
-- one.
use Rattle.std.proofs.Common.{ℕ, zero, suc, ◌≡◌, ◌⊎◌, inl, inr, ◌+◌, ◌<◌, true, Option, Some, None, arith, sym, ◌∙◌, subst}
use Rattle.kw_words.specs.Plain.{cell_of_link_word}
use Rattle.kw_lists.specs.Rows.{IsBehind, IsSound, Stands}
use Rattle.kw_lists.specs.Walks.{IsWalking}
use Rattle.kw_lists.proofs.Inserting.{at_next, reached}
use Rattle.kw_lists.proofs.Walking.{walk_begins, walk_goes_on, walked_most}
use Rattle.kw_world.specs.ListTransitions.{link_name}
use Rattle.kw_world.specs.Sizes.{Sizes}
use Rattle.kw_world.specs.Step.{word}
use Rattle.kw_core.specs.History.{attempt}
use Rattle.kw_core.specs.Listed.{Listed}
use Rattle.kw_core.specs.Run.{Run}
use Rattle.kw_core.specs.Words.{Words}
use Rattle.kw_rows.specs.Rows.{WasLinked}
use Rattle.kw_shape.specs.Keyed.{Reaches, is_there, leads_on}
use Rattle.kw_shape.specs.Shape.{HoldsKey}
use Rattle.kw_puts.specs.Below.{Below}
use Rattle.kw_puts.specs.Lists.{list_in}
use Rattle.kw_puts.specs.Puts.{HasCell, IsCopyAt}
use Rattle.kw_puts.proofs.ListWords.{link_is}
use Rattle.kw_puts.proofs.Owners.{cell_here}

-- the link leads to a cell from which this one is reached
record LedTo (v : Words) (q : ℕ) (at : Option ℕ) (d : ℕ) : Type 0 where
  cell : ℕ
  leads : cell_of_link_word (v (link_name q at)) ≡ Some cell
  reaches : Reaches v q cell d

-- so it does to each listed cell behind it: a walk along the list comes to it
led_from : (n : ℕ) (v : Words) (f : Listed) (q : ℕ) → IsSound n (list_in v f q) → (d : ℕ) → f q d ≡ true → (steps : ℕ) (at : Option ℕ) (walked : ℕ) → n < walked + steps → IsWalking n (list_in v f q) at walked → IsBehind (list_in v f q) at d → LedTo v q at d
led_from n v f q s d e zero at walked w k b = absurd (omega (arith, w, walked_most n (list_in v f q) at walked k))
led_from n v f q s d e (suc steps) at walked w k b = which (λ c. led_from n v f q s d e steps (Some c) (walked + 1) (omega (arith, w))) (reached (list_in v f q) at ((list_in v f q).link at) (s.list at k.on) d e b)
  where
    which : ((c : ℕ) → IsWalking n (list_in v f q) (Some c) (walked + 1) → Stands (list_in v f q) c d → LedTo v q (Some c) d) → (c : ℕ) × ((list_in v f q).link at ≡ Some c) × ((d ≡ c) ⊎ Stands (list_in v f q) c d) → LedTo v q at d
    which on (c, g, inl m) = record { cell = c; leads = sym (link_is v q at) ∙ g; reaches = subst (Reaches v q c) (sym m) (is_there c) }
    which on (c, g, inr m) =
        let x = at_next (list_in v f q) at ((list_in v f q).link at) c (s.list at k.on) g in
        let y = on c (walk_goes_on n (list_in v f q) at walked c (s.below c x.listed) x.listed x.behind k) m in
        record { cell = c; leads = sym (link_is v q at) ∙ g; reaches = leads_on c y.cell d y.leads y.reaches }

led_to : (n : ℕ) (v : Words) (f : Listed) (q : ℕ) → IsSound n (list_in v f q) → (d : ℕ) → f q d ≡ true → LedTo v q None d
led_to n v f q s d e = led_from n v f q s d e (n + 1) None 0 (omega arith) (walk_begins n (list_in v f q)) tt

-- the row may hold the key
pub keyed : (z : Sizes) (r : Run) → Below z r → (q c p : ℕ) → WasLinked r.ledger.rows q → c < z.cells → r.origin q c ≡ Some p → HoldsKey (word z r.world) r.ledger.rows q (attempt r.history p).key
keyed z r k q c p m o e = which (k.puts.places.owner q c p m o e)
  where
    which : HasCell r.ledger.rows r.history q c p ⊎ IsCopyAt (word z r.world) r.ledger.rows r.history q c p → HoldsKey (word z r.world) r.ledger.rows q (attempt r.history p).key
    which (inl x) = subst (λ s. HoldsKey (word z r.world) r.ledger.rows s (attempt r.history p).key) x.row (k.puts.given p x.within (cell_here r.ledger.rows r.history q c p x)).holds
    which (inr x) =
        let t = led_to z.cells (word z r.world) r.listed q (k.lists.leads q m) c (k.lists.copied q c p m o e x.earlier) in
        let y = (k.shape.keyed q m).first t.cell t.leads c t.reaches in
        subst (λ s. HoldsKey (word z r.world) r.ledger.rows q s) x.key (record { from = y.from; below = y.below })
