-- What a reader has gathered on its walk along a list stands before the cell in hand, in the order
-- of the list.
use Rattle.std.proofs.Common.{ℕ, zero, suc, ◌≡◌, inl, inr, true, Option, Some, None, List, [], ◌∷◌, arith, sym, ◌∙◌, subst, slice_get, All}
use Rattle.std.proofs.lemmas.Bool.Decides.{nat_tests}
use Rattle.std.proofs.lemmas.Option.{same_Some}
use Rattle.kw_cells.specs.declared.cell.Cell.{Cell}
use Rattle.kw_cells.specs.InOrder.{stands_before}
use Rattle.kw_lists.specs.Rows.{IsBehind, Row, Stands}
use Rattle.kw_lists.specs.Walks.{IsGoneBy}
use Rattle.kw_lists.proofs.Orders.{stands_trans}
use Rattle.kw_world.specs.declared.activity.Activity.TheVariants as Activity
use Rattle.kw_world.specs.declared.activity.read.Read.TheVariants as Read
use Rattle.kw_world.specs.declared.local.Local.{Local}
use Rattle.kw_world.specs.ReadTransitions.{cell_in_hand}
use Rattle.kw_world.specs.Sizes.{Sizes}
use Rattle.kw_world.specs.Step.{word}
use Rattle.kw_core.specs.History.{attempt}
use Rattle.kw_core.specs.Run.{Run}
use Rattle.kw_core.specs.Stages.{HasCellKey, HasPlace, HasVersion, IsAtListed, IsAtRow, IsListing, IsTaking}
use Rattle.kw_rows.specs.Rows.{WasLinked}
use Rattle.kw_shape.proofs.LinkedRows.{fresh_linked}
use Rattle.kw_puts.specs.Builds.{has_place}
use Rattle.kw_puts.specs.Lists.{list_in}
use Rattle.kw_puts.proofs.GatheredCells.{place_new, place_old}
use Rattle.kw_reads.specs.Inv.{Inv}
use Rattle.kw_reads.specs.Readers.{Apart, AreCopies, HasReachedCell, Reads}
use Rattle.kw_reads.proofs.WalksKeep.{has_reached}

-- the key and the version of the cell are those that its place has in the row
abbrev IsCellIn : Row → Cell → Type 0
IsCellIn row c = (row.key c.place ≡ c.key) × (row.version c.place ≡ c.version)

-- of two such cells the first stands before the second, where its place does so in the row
before_in : (row : Row) (c d : Cell) → IsCellIn row c → IsCellIn row d → Stands row c.place d.place → stands_before c d ≡ true
before_in row c d x y s = grind (arith, nat_tests)

-- what a walk has gone by stands before a cell behind its link
gone_by_before : (row : Row) (at : Option ℕ) (c d : ℕ) → IsGoneBy row at c → IsBehind row at d → Stands row c d
gone_by_before row None c d p b = absurd p
gone_by_before row (Some a) c d (inl e) b = subst (λ x. Stands row x d) (sym e) b
gone_by_before row (Some a) c d (inr s) b = stands_trans row c a d s b

module _ (z : Sizes) (r : Run) (i : Inv z r) (q : ℕ) (linked : WasLinked r.ledger.rows q) where
  -- a listed cell that has the key and the version of the attempt for which its place stands is
  -- such a cell
  listed_in : (c : Cell) (p : ℕ) → r.listed q c.place ≡ true → r.origin q c.place ≡ Some p → (attempt r.history p).key ≡ c.key → (attempt r.history p).version ≡ c.version → IsCellIn (list_in (word z r.world) r.listed q) c
  listed_in c p n o k v =
      let x = i.lists.cells q c.place linked n in
      let e = same_Some x.put p (sym x.origin ∙ o) in
      (x.key ∙ subst (λ y. (attempt r.history y).key ≡ c.key) (sym e) k, x.version ∙ subst (λ y. (attempt r.history y).version ≡ c.version) (sym e) v)

  -- gathered cells whose places are listed and stand before that of such a cell stand before this
  copies_before : (d : Cell) → IsCellIn (list_in (word z r.world) r.listed q) d → (l : Local) (cells : List Cell) (ids : List ℕ) → AreCopies r.history r.origin q l.call cells ids →
      ((n : ℕ) → has_place n cells ≡ true → (r.listed q n ≡ true) × Stands (list_in (word z r.world) r.listed q) n d.place) → All (λ c. stands_before c d ≡ true) cells
  copies_before d y l [] ids x f k e u = absurd (omega arith)
  copies_before d y l (c ∷ cells) [] x f k e u = absurd x
  copies_before d y l (c ∷ cells) (p ∷ ids) x f zero e u = let s = f c.place (place_new c cells 0) in before_in (list_in (word z r.world) r.listed q) c d (listed_in c p s.0 x.0.origin x.0.key x.0.version) y s.1
  copies_before d y l (c ∷ cells) (p ∷ ids) x f (suc k) e u = copies_before d y l cells ids x.1 (λ n g. f n (place_old c cells 0 n g)) k e (omega arith)

-- a reader that is to gather the cell in hand has gathered cells alone that stand before it
pub gathered_before : (z : Sizes) (r : Run) → Inv z r → (t : ℕ) (l : Local) → slice_get r.world.locals t ≡ Some l → l.activity ≡ Activity.Read Read.Value → (value : Option ℕ) → All (λ c. stands_before c (cell_in_hand value l) ≡ true) l.gathered
gathered_before z r i t l g a value =
    let hand = reads.hand (subst HasPlace (sym a) tt) in
    copies_before z r i l.row linked (cell_in_hand value l) (listed_in z r i l.row linked (cell_in_hand value l) hand.put saw.walks.on hand.origin (hand.key (subst HasCellKey (sym a) tt)) (hand.version (subst HasVersion (sym a) tt)))
    l l.gathered (r.seats t).ids ((i.readers.gathers t l g).taking taking) (λ n e. (apart.listed listing n e, gone_by_before row l.link n l.place (apart.gone_by listing n e) saw.behind))
  where
    row : Row
    row = list_in (word z r.world) r.listed l.row

    taking : IsTaking l.activity
    taking = subst IsTaking (sym a) tt

    listing : IsListing l.activity
    listing = subst IsListing (sym a) tt

    linked : WasLinked r.ledger.rows l.row
    linked = fresh_linked r.ledger.rows t l.row ((i.shape.walks t l g).at (subst IsAtRow (sym a) tt)).fresh

    apart : Apart z row l.activity l
    apart = i.readers.apart t l g taking

    reads : Reads row r.history r.origin l.activity l (r.seats t)
    reads = i.readers.reads t l g taking

    saw : HasReachedCell z.cells row l
    saw = has_reached z.cells row l.activity l (subst IsAtListed (sym a) tt) (i.readers.walks t l g)
