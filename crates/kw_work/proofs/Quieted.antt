-- The blocks of lines are cut where the blocks of items are, and a line is as quiet as its item.
use Rattle.std.proofs.Common.{◌≡◌, ℕ, ◌+◌, List, [], ◌∷◌, map, refl, ap, sym, ◌∙◌}
use Rattle.std.specs.List.{flat_map, onto_first}
use Rattle.std.proofs.lemmas.List.Folds.{flat_map-map}
use Rattle.kw_line.specs.declared.item.Form.{Form}
use Rattle.kw_line.specs.declared.item.Item.{Item}
use Rattle.kw_line.specs.declared.item.Item.TheVariants as item
use Rattle.kw_line.specs.Line.{forms}
use Rattle.kw_line.specs.Quiet.{blocks, quiet}
use Rattle.kw_work.specs.declared.line.Line.{Line}
use Rattle.kw_work.specs.Dealing.{line_at, blocks_of}
use Rattle.kw_work.specs.Lines.{quiet_forms}

-- the forms of a block's lines
abbrev block_forms : List Line → List Form
block_forms b = map (λ (l : Line). l.form) b

-- a line before the first block's
forms-onto_first : (l : Line) (bs : List (List Line)) → map block_forms (onto_first l bs) ≡ onto_first l.form (map block_forms bs)
forms-onto_first l [] = refl
forms-onto_first l (b ∷ bs) = refl

-- an item with a call before the first block's
forms-onto_first_item : (i : Item) (f : Form) (bs : List (List Item)) → ((b : List Item) → forms (i ∷ b) ≡ f ∷ forms b) → map forms (onto_first i bs) ≡ onto_first f (map forms bs)
forms-onto_first_item i f [] is = ap (λ x. x ∷ []) (is [])
forms-onto_first_item i f (b ∷ bs) is = ap (λ x. x ∷ map forms bs) (is b)

-- the blocks are cut alike
pub forms-blocks_of : (n : ℕ) (is : List Item) → map block_forms (blocks_of n is) ≡ map forms (blocks is)
unfolding blocks_of
forms-blocks_of n [] = refl
forms-blocks_of n (item.Call c f ∷ is) =
    forms-onto_first (line_at n c f) (blocks_of (n + 1) is)
    ∙ (ap (onto_first f) (forms-blocks_of (n + 1) is) ∙ sym (forms-onto_first_item (item.Call c f) f (blocks is) (λ b. refl)))
forms-blocks_of n (item.Wait ∷ is) = ap (λ x. [] ∷ x) (forms-blocks_of (n + 1) is)

-- a line is as quiet as its item
pub quiet-blocks_of : (n : ℕ) (is : List Item) → flat_map (λ b. quiet_forms (block_forms b)) (blocks_of n is) ≡ quiet is
quiet-blocks_of n is =
    sym (flat_map-map quiet_forms block_forms (blocks_of n is)) ∙ (ap (flat_map quiet_forms) (forms-blocks_of n is) ∙ flat_map-map quiet_forms forms (blocks is))
