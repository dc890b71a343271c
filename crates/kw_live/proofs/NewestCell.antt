-- The one cell that a get keeps of those that it gathers, and how a get that leaves its local at
-- rest goes along the list of its row.
use Rattle.std.proofs.Common.{◌≡◌, ℕ, ◌+◌, ◌<◌, ◌≤◌, Bool, true, false, nat_lt, if◌then◌else◌, Option, Some, None, List, [], ◌∷◌, All, length, min, unwrap_or, arith, refl, sym, ◌∙◌, ap, subst}
use Rattle.std.proofs.lemmas.Bool.Decides.{nat_tests}
use Rattle.kw_words.specs.Plain.{cell_of_link_word, key_of_word, value_of_word, version_of_word}
use Rattle.kw_words.specs.declared.sizes.TheConstants.{CELLS}
use Rattle.kw_cells.specs.declared.cell.Cell.{Cell}
use Rattle.kw_cells.specs.Cells.{best_of, fits, shown_at, value_in}
use Rattle.kw_cells.specs.InOrder.{AreInOrder, stands_before, with_cell}
use Rattle.kw_cells.proofs.FirstFit.{first_is_best}
use Rattle.kw_cells.proofs.InOrder.{before_apart, in_order_head, length-with_cell, with_cell-all, with_cell-in_order}
use Rattle.kw_model.specs.declared.call.Call.TheVariants.{Get}
use Rattle.kw_world.specs.declared.activity.Activity.{Activity}
use Rattle.kw_world.specs.declared.activity.read.Read.TheVariants as Read
use Rattle.kw_world.specs.declared.limits.TheConstants.{NEWEST}
use Rattle.kw_world.specs.declared.local.Local.{Local}
use Rattle.kw_world.specs.Answers.{answer_found}
use Rattle.kw_world.specs.Local.{without_rows}
use Rattle.kw_world.specs.Sane.{IsCopy}
use Rattle.kw_table.specs.declared.pass.Pass.{Pass}
use Rattle.kw_table.specs.declared.shared.Shared.{Shared}
use Rattle.kw_follow.specs.declared.cursor.Cursor.{Cursor}
use Rattle.kw_follow.specs.declared.way.Way.{Way}
use Rattle.kw_follow.specs.Cursors.{ReadsWord, cell_at, first_of, past, reached, with_cursor}
use Rattle.kw_follow.specs.Following.{Follows}
use Rattle.kw_follow.specs.Ways.{on_way}
use Rattle.kw_follow.proofs.OneEvent.{follows_ranges}
use Rattle.kw_follow.specs.Reaching.{Reaches}
use Rattle.kw_live.specs.Getting.{HasFound, newer_of}
use Rattle.kw_live.specs.Reading.{ReadsOn, reads_ahead}
use Rattle.kw_core.specs.Stages.{IsAtReadLink}
use Rattle.kw_live.specs.Beginning.{BeginsAt, BeginsList}
use Rattle.kw_live.proofs.CursorEvents.{cell_above, cell_counts, cell_gone_by, cell_within, link_ahead, link_ended, link_led, value_told, version_told}
use Rattle.kw_follow.proofs.Reaching.{reaches_trans}
use Rattle.kw_live.proofs.ReadEvent.{reads_trans}

-- The newest cell.

-- the first of these cells
abbrev pub first_cell : List Cell → Option Cell
first_cell [] = None
first_cell (c ∷ cells) = Some c

-- the cells are those of this key, in the order of the list, and this is the first of them
pub record IsNewest (key : ℕ) (cells : List Cell) (newest : Option Cell) : Type 0 where
  pub in_order : AreInOrder cells
  pub of_key : All (λ (c : Cell). c.key ≡ key) cells
  pub first : newest ≡ first_cell cells

-- with a cell more, the newer of it and the newest is the first
first_with : (c : Cell) (cells : List Cell) → first_cell (with_cell c cells) ≡ Some (newer_of c (first_cell cells))
first_with c [] = refl
first_with c (d ∷ cells) = which (stands_before d c) (stands_before c d) (before_apart d c)
  where
    which : (x y : Bool) → (x ≡ true → y ≡ false) → first_cell (if x then d ∷ with_cell c cells else if y then c ∷ d ∷ cells else d ∷ cells) ≡ Some (if y then c else d)
    which true y apart = ap (λ (b : Bool). Some (if b then c else d)) (sym (apart refl))
    which false true apart = refl
    which false false apart = refl

newest_with : (key : ℕ) (cells : List Cell) (newest : Option Cell) (c : Cell) → c.key ≡ key → IsNewest key cells newest → IsNewest key (with_cell c cells) (Some (newer_of c newest))
newest_with key cells newest c keyed is = record {
  in_order = with_cell-in_order c cells is.in_order;
  of_key = with_cell-all (λ (d : Cell). d.key ≡ key) c cells keyed is.of_key;
  first = sym (first_with c cells ∙ ap (λ (o : Option Cell). Some (newer_of c o)) (sym is.first));
}

-- it is what the cells show at the greatest version
newest_shows : (key : ℕ) (cells : List Cell) (newest : Option Cell) → All IsCopy cells → IsNewest key cells newest → value_in newest ≡ shown_at cells NEWEST key
unfolding best_of
newest_shows key [] newest copies is = ap value_in is.first
newest_shows key (c ∷ cells) newest copies is =
    let same : c.key ≡ key = is.of_key 0 c (omega arith) in
    let below = (copies 0 c (omega arith)).1 in
    let fit : fits key NEWEST c ≡ true = grind (arith, nat_tests) in
    ap value_in is.first ∙ sym (ap value_in (first_is_best c cells key NEWEST (in_order_head c cells is.in_order) fit))

-- The walk along the list.

-- the local of a get that has gathered these cells
abbrev pub reading : Way → List Cell → Local
reading w cells = record (on_way (Activity.Read Read.Link) w) { gathered = cells }

-- what stays while a get goes along the list
pub record KeepsNewest (s : Shared) (o : Pass) (way : Way) (p : Pass) (w : Cursor) (newest : Option Cell) : Type 0 where
  pub cells : List Cell
  pub activity : Activity
  pub loads : IsAtReadLink activity
  pub gets : Reaches s o p (with_cursor activity w (reading way cells))
  pub keeps : IsNewest way.key cells newest
  pub few : length cells ≤ w.walked

-- a get that is to begin
pub newest_at : {s : Shared} {p : Pass} (way : Way) (w : Cursor) → w ≡ first_of way.row → Follows s p (on_way (Activity.Read Read.Start) way) → BeginsAt s p (Activity.Read Read.Start) (reading way []) w way.built way.key
newest_at {s} {p} way w is f = record { follows = subst (λ (x : Cursor). Follows s p (with_cursor (Activity.Read Read.Start) x (reading way []))) (sym is) f; counted = refl; least = refl }

-- it has begun
pub newest_begins : {s : Shared} {p q : Pass} (way : Way) (w x : Cursor) → BeginsList s p (reading way []) w q x → KeepsNewest s p way q x None
newest_begins {s} {p} {q} way w x b = record {
  cells = [];
  activity = b.activity;
  loads = b.loads;
  gets = record { goes = b.goes; follows = b.follows; calls = b.calls };
  keeps = record { in_order = λ i j d u v. absurd (omega arith); of_key = λ k d u. absurd (omega arith); first = refl };
  few = omega arith;
}

module _ {s : Shared} {o p q : Pass} {way : Way} {w : Cursor} {newest : Option Cell} {link : ℕ} (before : KeepsNewest s o way p w newest) (first : (a : Activity) (l : Local) → IsAtReadLink a → Follows s p (with_cursor a w l) → ReadsWord s p (with_cursor a w l) link q) where
  abbrev l : Local
  l = reading way before.cells

  f : Follows s p (with_cursor before.activity w l)
  f = before.gets.follows

  -- what a reading adds
  further : {r : Pass} {m : Local} → ReadsOn s p (with_cursor before.activity w l) r m → Reaches s o r m
  further on = reaches_trans before.gets (record { goes = on.goes; follows = on.follows; calls = on.calls })

  -- it has found what the newest cell shows
  found_by : {r : Pass} {m : Local} (value : Option ℕ) → value ≡ value_in newest → m.activity ≡ Activity.Leave (answer_found (shown_at before.cells NEWEST way.key)) → ReadsOn s p (with_cursor before.activity w l) r m → HasFound s o r value
  found_by {r} {m} value is leaves on = record {
    local = m;
    gets = further on;
    leaves = leaves ∙ ap (λ (x : Option ℕ). Activity.Leave (answer_found x)) (sym (is ∙ newest_shows way.key before.cells newest (follows_ranges s p _ f).copies before.keeps));
  }

  -- the list is at its end
  pub newest_ends : (value : Option ℕ) → value ≡ value_in newest → cell_of_link_word link ≡ None → HasFound s o q value
  newest_ends value is none =
      let k : Local = with_cursor (Activity.Read Read.Link) w l in
      found_by value is refl (link_ended l w before.activity before.loads k (record (without_rows k) { activity = Activity.Leave (answer_found (shown_at before.cells NEWEST way.key)) }) refl none (record { carries = λ begun added. refl; number = refl; pairs = refl }) f (first before.activity l before.loads f))

  -- a link leads to a cell
  module _ (x : Cursor) (cell : ℕ) (is : x ≡ reached cell w) (leads : cell_of_link_word link ≡ Some cell) where
    -- of which there are more than the get has reached
    pub newest_counts : w.walked < CELLS
    newest_counts = cell_counts l w before.activity before.loads cell leads (first before.activity l before.loads f)

    pub newest_led : Follows s q (with_cursor (Activity.Read Read.Key) x l)
    newest_led = (link_led l w before.activity before.loads x l cell is refl leads f (first before.activity l before.loads f)).follows

    module _ {r : Pass} {word : ℕ} (key : ℕ) (keyed : key ≡ key_of_word word) (second : (m : Local) → Follows s q (with_cursor (Activity.Read Read.Key) x m) → ReadsWord s q (with_cursor (Activity.Read Read.Key) x m) word r) where
      -- its key is below the own: it is gone by
      module _ (y : Cursor) (passes : y ≡ past x) (below : key < way.key) where
        passing : ReadsOn s p (with_cursor before.activity w l) r (with_cursor (Activity.Read Read.Link) y l)
        passing = cell_gone_by l l w x before.activity before.loads cell is refl leads f (first before.activity l before.loads) (second l) y key way.key (Some (Get way.key)) passes keyed refl refl below

        pub newest_goes_by : KeepsNewest s o way r y newest
        newest_goes_by =
            let on : y.walked ≡ min (w.walked + 1) CELLS = ap (λ (z : Cursor). z.walked) (passes ∙ ap past is) in
            let few = before.few in
            record { cells = before.cells; activity = Activity.Read Read.Link; loads = tt; gets = further passing; keeps = before.keeps; few = omega (arith, on, few, newest_counts) }

        pub newest_goes_by_fewer : reads_ahead (with_cursor (Activity.Read Read.Link) y (reading way [])) < reads_ahead (with_cursor (Activity.Read Read.Link) w (reading way []))
        newest_goes_by_fewer = subst (λ k. reads_ahead (with_cursor (Activity.Read Read.Link) y (reading way [])) < k) (link_ahead before.activity w.walked 0 before.loads) passing.fewer

      -- it is above it: the walk is over
      pub newest_above : (value : Option ℕ) → value ≡ value_in newest → way.key < key → HasFound s o r value
      newest_above value shows above =
          let k : Local = with_cursor (Activity.Read Read.Key) x l in
          let within : way.key ≤ key = omega (arith, above) in
          found_by value shows refl
          (cell_above l l w x before.activity before.loads cell is refl leads f (first before.activity l before.loads) (second l) k (record (without_rows k) { activity = Activity.Leave (answer_found (shown_at before.cells NEWEST way.key)) }) key way.key way.key (Some (Get way.key)) refl keyed refl refl refl within above (record { carries = λ begun added. refl; number = refl; pairs = refl }))

      -- it is the own key
      module _ (y : Cursor) (ranged : y ≡ record x { key = key }) (from : way.key ≤ key) (upto : key ≤ way.key) where
        within : ReadsOn s p (with_cursor before.activity w l) r (with_cursor (Activity.Read Read.Version) y l)
        within = cell_within l l w x before.activity before.loads cell is refl leads f (first before.activity l before.loads) (second l) y key way.key way.key (Some (Get way.key)) ranged keyed refl refl refl from upto

        pub newest_ranged : Follows s r (with_cursor (Activity.Read Read.Version) y l)
        newest_ranged = within.follows

        module _ {t : Pass} {version : ℕ} (z : Cursor) (versioned : z ≡ record y { version = unwrap_or (version_of_word version) 1 }) (third : (m : Local) → Follows s r (with_cursor (Activity.Read Read.Version) y m) → ReadsWord s r (with_cursor (Activity.Read Read.Version) y m) version t) where
          told : ReadsOn s r (with_cursor (Activity.Read Read.Version) y l) t (with_cursor (Activity.Read Read.Value) z l)
          told = version_told l y z versioned within.follows (third l within.follows)

          pub newest_versioned : Follows s t (with_cursor (Activity.Read Read.Value) z l)
          newest_versioned = told.follows

          module _ {u : Pass} {value : ℕ} (last : Cursor) (cell_read : Cell) (passes : last ≡ past z) (read : cell_read ≡ cell_at z (value_of_word value)) (fourth : (m : Local) → Follows s t (with_cursor (Activity.Read Read.Value) z m) → ReadsWord s t (with_cursor (Activity.Read Read.Value) z m) value u) where
            few : length before.cells < CELLS
            few = let old = before.few in omega (arith, old, newest_counts)

            -- it is gathered
            gathered : reading way (with_cell cell_read before.cells) ≡ reading way (if nat_lt (length before.cells) CELLS then with_cell (cell_at z (value_of_word value)) before.cells else before.cells)
            gathered =
                let room : nat_lt (length before.cells) CELLS ≡ true = let below = few in grind (arith, nat_tests) in
                ap (λ (c : Cell). reading way (with_cell c before.cells)) read
                ∙ ap (λ (b : Bool). reading way (if b then with_cell (cell_at z (value_of_word value)) before.cells else before.cells)) (sym room)

            gathering : ReadsOn s p (with_cursor before.activity w l) u (with_cursor (Activity.Read Read.Link) last (reading way (with_cell cell_read before.cells)))
            gathering =
                reads_trans s p t u _ _ _ refl (reads_trans s p r t _ _ _ refl within told)
                (value_told l z last (reading way (with_cell cell_read before.cells)) passes gathered told.follows (fourth l told.follows))

            pub newest_gathers : (kept : Option Cell) → kept ≡ Some (newer_of cell_read newest) → KeepsNewest s o way u last kept
            newest_gathers kept new =
                let same : cell_read.key ≡ way.key =
                let keyed_so : cell_read.key ≡ key = ap (λ (c : Cell). c.key) read ∙ ap (λ (v : Cursor). v.key) (versioned ∙ ap (λ (v : Cursor). record v { version = unwrap_or (version_of_word version) 1 }) ranged) in
                omega (arith, keyed_so, from, upto) in
                let on : last.walked ≡ min (w.walked + 1) CELLS =
                ap (λ (v : Cursor). v.walked) passes ∙ (ap (λ (v : Cursor). v.walked) versioned ∙ (ap (λ (v : Cursor). v.walked) ranged ∙ ap (λ (v : Cursor). v.walked) is)) in
                let more = length-with_cell cell_read before.cells in
                let old = before.few in
                record {
                  cells = with_cell cell_read before.cells;
                  activity = Activity.Read Read.Link;
                  loads = tt;
                  gets = further gathering;
                  keeps = subst (IsNewest way.key (with_cell cell_read before.cells)) (sym new) (newest_with way.key before.cells newest cell_read same before.keeps);
                  few = omega (arith, on, more, old, newest_counts);
                }

            pub newest_gathers_fewer : reads_ahead (with_cursor (Activity.Read Read.Link) last (reading way [])) < reads_ahead (with_cursor (Activity.Read Read.Link) w (reading way []))
            newest_gathers_fewer = subst (λ k. reads_ahead (with_cursor (Activity.Read Read.Link) last (reading way [])) < k) (link_ahead before.activity w.walked 0 before.loads) gathering.fewer
