-- How a scan goes on along the list of its row where code holds none of the cells that it has
-- gathered.
use Rattle.std.proofs.Common.{◌≡◌, ◌⊎◌, ℕ, ◌<◌, ◌≤◌, Bool, true, false, nat_lt, if◌then◌else◌, Option, Some, None, List, [], ◌∷◌, ◌++◌, All, length, suc, unwrap_or, arith, refl, sym, ◌∙◌, ap, subst, inl, inr}
use Rattle.std.proofs.lemmas.Bool.Decides.{nat_tests}
use Rattle.std.proofs.lemmas.List.Elements.{All-pop, All-tail}
use Rattle.kw_words.specs.Plain.{cell_of_link_word, key_of_word, value_of_word, version_of_word}
use Rattle.kw_words.proofs.PlainWords.{number_of_word-number_word}
use Rattle.kw_words.specs.declared.layout.Name.TheVariants as name
use Rattle.kw_words.specs.declared.sizes.TheConstants.{CELLS}
use Rattle.kw_cells.specs.declared.cell.Cell.{Cell}
use Rattle.kw_cells.specs.InOrder.{AreInOrder, stands_before, with_cell}
use Rattle.kw_cells.proofs.InOrder.{length-with_cell, with_cell-in_order}
use Rattle.kw_model.specs.declared.call.Call.{Call}
use Rattle.kw_model.specs.declared.call.Call.TheVariants.{Put, Del, Get, Scan, Pin, ScanAt, Unpin}
use Rattle.kw_world.specs.declared.activity.Activity.{Activity}
use Rattle.kw_world.specs.declared.activity.read.Read.TheVariants as Read
use Rattle.kw_world.specs.declared.activity.walk.Walk.TheVariants as Walk
use Rattle.kw_world.specs.declared.answer.Answer.TheVariants.{Pairs}
use Rattle.kw_world.specs.declared.event.Choice.TheVariants.{Go}
use Rattle.kw_world.specs.declared.local.Local.{Local}
use Rattle.kw_world.specs.declared.marks.Mark.{Mark}
use Rattle.kw_world.specs.Marks.{least_mark, unmarked}
use Rattle.kw_world.specs.ReadTransitions.{cell_in_hand, left_over_of, row_read, scan_ended, scan_on, to_left_over, with_pairs}
use Rattle.kw_world.specs.Calls.{first_key, is_scan, last_key}
use Rattle.kw_world.specs.Sane.{IsCopy}
use Rattle.kw_world.specs.Sizes.{product}
use Rattle.kw_world.specs.Step.{word as word_in}
use Rattle.kw_world.specs.Transition.{Outcome, to}
use Rattle.kw_core.specs.Run.{Run, history}
use Rattle.kw_core.specs.Stages.{IsAtReadLink}
use Rattle.kw_reads.proofs.Keeps.{inv_holds}
use Rattle.kw_table.specs.declared.pass.Pass.{Pass}
use Rattle.kw_table.specs.declared.shared.Shared.{Shared}
use Rattle.kw_table.specs.Passes.{view}
use Rattle.kw_follow.specs.declared.cursor.Cursor.{Cursor}
use Rattle.kw_follow.specs.Cursors.{ReadsWord, cell_at, forgetting, gathering_at, past, reached, with_cursor}
use Rattle.kw_follow.specs.Following.{CarriesOn, Follows, GoesTo, carried, held, known}
use Rattle.kw_follow.specs.OwnEvents.{Saw}
use Rattle.kw_follow.proofs.Fronts.{local_at, saw_local, saw_told, saw_valid}
use Rattle.kw_follow.proofs.OneEvent.{follows_ranges}
use Rattle.kw_live.specs.Reading.{GoesOn, HasReadAs, ReadsOn, is_reading_list}
use Rattle.kw_live.specs.Streaming.{EndsRow, LeadsOn, ReadsCell, Streams}
use Rattle.kw_live.proofs.CursorEvents.{cell_counts, cell_within, link_ended, link_led, value_told, version_told}
use Rattle.kw_live.proofs.GatheredBefore.{gathered_before}
use Rattle.kw_live.proofs.ReachedCells.{reached_version, reached_within}
use Rattle.kw_live.proofs.ReadEvent.{reads_trans}

-- The end of the row.

-- the local of a scan that goes on with this row
abbrev going_on : ℕ → ℕ → Local → Outcome
going_on r upto y = to (Activity.Walk Walk.Next) (record (with_pairs upto y) { row = r; lower = y.upper; built = 0; want = y.upper; next = None; upper = 0 })

-- the call is one, of its first key to its last one
scan_is : (c : Option Call) → is_scan c ≡ true → c ≡ Some (Scan (first_key c) (last_key c))
scan_is (Some (Scan first upto)) is = refl
scan_is (Some (Put key value)) is = absurd (cc)
scan_is (Some (Del key)) is = absurd (cc)
scan_is (Some (Get key)) is = absurd (cc)
scan_is (Some Pin) is = absurd (cc)
scan_is (Some (ScanAt from upto)) is = absurd (cc)
scan_is (Some Unpin) is = absurd (cc)
scan_is None is = absurd (cc)

-- a scan whose row leads on goes on with the next row
leads_to : (y : Local) (leads : LeadsOn y) → to_left_over y ≡ going_on leads.next (last_key y.call) y
leads_to y leads =
    let upto : ℕ = last_key y.call in
    let within : y.upper ≤ upto = leads.within in
    let not_above : nat_lt upto y.upper ≡ false = grind (arith, nat_tests) in
    ap (λ (ms : List Mark). left_over_of (least_mark ms) y) leads.unmarked
    ∙ (ap (λ (c : Option Call). row_read c y) (scan_is y.call leads.scan)
    ∙ (ap (λ (o : Option ℕ). scan_on o upto (with_pairs upto y)) leads.after
    ∙ ap (λ (b : Bool). let o : Outcome = if b then scan_ended (with_pairs upto y) else going_on leads.next upto y in o) not_above))

-- so does one that has counted otherwise, and has other pairs and cells
abbrev leads_still : (y : Local) (begun : ℕ) (added : List (ℕ × ℕ)) (cells : List Cell) → LeadsOn y → LeadsOn (record y { number = begun; pairs = added; gathered = cells })
leads_still y begun added cells leads = record { scan = leads.scan; unmarked = leads.unmarked; next = leads.next; after = leads.after; from = leads.from; within = leads.within }

-- so does one whose seat has gathered more than code holds
carries_more : (y m : Local) (cells : List Cell) → LeadsOn y → CarriesOn to_left_over y m → CarriesOn to_left_over (record y { gathered = cells }) (record m { gathered = cells })
carries_more y m cells leads on = record {
  carries = λ begun added.
      ap (λ (n : Local). record n { gathered = cells }) (on.carries begun added ∙ ap (λ (o : Outcome). carried o.local) (leads_to (record y { number = begun; pairs = added }) (leads_still y begun added y.gathered leads)))
      ∙ sym (ap (λ (o : Outcome). carried o.local) (leads_to (record y { gathered = cells; number = begun; pairs = added }) (leads_still y begun added cells leads)));
  number = on.number;
  pairs = on.pairs;
}

-- it then walks
walks_on : (y m : Local) → LeadsOn y → CarriesOn to_left_over y m → m.activity ≡ Activity.Walk Walk.Next
walks_on y m leads on =
    ap (λ (n : Local). n.activity) (on.carries 0 []) ∙ ap (λ (o : Outcome). o.local.activity) (leads_to (record y { number = 0; pairs = [] }) (leads_still y 0 [] y.gathered leads))

-- Cells behind all others.

-- a cell behind all of these is put at their end
pub with_cell_behind : (c : Cell) (cells : List Cell) → All (λ d. stands_before d c ≡ true) cells → with_cell c cells ≡ cells ++ c ∷ []
with_cell_behind c [] a = refl
with_cell_behind c (d ∷ cells) a =
    let before : stands_before d c ≡ true = a 0 d (omega arith) in
    ap (λ (b : Bool). if b then d ∷ with_cell c cells else if stands_before c d then c ∷ d ∷ cells else d ∷ cells) before
    ∙ ap (λ (ds : List Cell). d ∷ ds) (with_cell_behind c cells (All-tail (λ (e : Cell). stands_before e c ≡ true) d cells a))

-- what the seat has gathered stands before the cell whose value it is told
seat_before : (s : Shared) (t u : Pass) (k : Local) (told : ℕ) (value : Option ℕ) → GoesTo s t u → k.activity ≡ Activity.Read Read.Value → ReadsWord s t k told u → All (λ c. stands_before c (cell_in_hand value k) ≡ true) k.gathered
seat_before s t u k told value goes at word =
    let x : Saw t u k.activity Go told = word.saw.saw in
    let valid = saw_valid s t u k.activity Go told goes x in
    let found = gathered_before product (history product (view t).opening x.front) (inv_holds product (view t).opening t.known.opens x.front valid) (view t).number (local_at t x.front) (saw_local t u k.activity Go told x) (x.activity ∙ at) value in
    subst (λ (n : Local). All (λ c. stands_before c (cell_in_hand value n) ≡ true) n.gathered) word.saw.knew found

-- the key of the cell that it has reached is in the range of its call
reached_in_range : (s : Shared) (t u : Pass) (k : Local) (told : ℕ) → GoesTo s t u → k.activity ≡ Activity.Read Read.Key → ReadsWord s t k told u → LeadsOn k → (first_key k.call ≤ key_of_word told) × (key_of_word told ≤ last_key k.call)
reached_in_range s t u k told goes at word leads =
    let x : Saw t u k.activity Go told = word.saw.saw in
    let here : Saw t u (Activity.Read Read.Key) Go told = record { front = x.front; later = x.later; here = x.here; activity = x.activity ∙ at; tells = x.tells } in
    let valid = saw_valid s t u k.activity Go told goes x in
    let m : Local = local_at t x.front in
    let knows : known m ≡ known k = word.saw.knew in
    let r : Run = history product (view t).opening x.front in
    let within = reached_within product r (inv_holds product (view t).opening t.known.opens x.front valid) (view t).number m (saw_local t u k.activity Go told x) (x.activity ∙ at) leads.next (ap (λ (n : Local). n.next) knows ∙ leads.after) in
    let found : told ≡ word_in product r.world (name.Key m.row m.place) = saw_told t u (Activity.Read Read.Key) Go told here _ refl in
    let keyed : key_of_word told ≡ key_of_word (word_in product r.world (name.Key m.row m.place)) = ap key_of_word found in
    let lower : m.lower ≡ k.lower = ap (λ (n : Local). n.lower) knows in
    let upper : m.upper ≡ k.upper = ap (λ (n : Local). n.upper) knows in
    let from = within.0 in
    let below = within.1 in
    let begins = leads.from in
    let ends = leads.within in
    (omega (arith, keyed, lower, from, begins), omega (arith, keyed, upper, below, ends))

-- and so its version is read as it stands there
reached_versioned : (s : Shared) (t u : Pass) (k : Local) (told : ℕ) → GoesTo s t u → k.activity ≡ Activity.Read Read.Version → ReadsWord s t k told u → unwrap_or (version_of_word told) 1 ≡ told
reached_versioned s t u k told goes at word =
    let x : Saw t u k.activity Go told = word.saw.saw in
    let here : Saw t u (Activity.Read Read.Version) Go told = record { front = x.front; later = x.later; here = x.here; activity = x.activity ∙ at; tells = x.tells } in
    let valid = saw_valid s t u k.activity Go told goes x in
    let m : Local = local_at t x.front in
    let r : Run = history product (view t).opening x.front in
    let from = reached_version product r (inv_holds product (view t).opening t.known.opens x.front valid) (view t).number m (saw_local t u k.activity Go told x) (x.activity ∙ at) in
    let found : told ≡ word_in product r.world (name.Version m.row m.place) = saw_told t u (Activity.Read Read.Version) Go told here _ refl in
    ap (λ (o : Option ℕ). unwrap_or o 1) (number_of_word-number_word (Some told) (omega (arith, found, from)))

-- The walk.

-- nothing is remembered, so a cell that is reached need not be forgotten
unmarked_so : (k : Local) (cell : ℕ) → k.remembered ≡ [] → k ≡ forgetting cell k
unmarked_so k cell none =
    let same : unmarked cell k.remembered ≡ k.remembered = ap (unmarked cell) none ∙ sym none in
    ap (λ (ms : List Mark). record k { remembered = ms }) (sym same)

-- what leads on still does so at another cursor
abbrev leads_at : (l : Local) (a : Activity) (w : Cursor) (cells : List Cell) → LeadsOn l → LeadsOn (with_cursor a w (record l { gathered = cells }))
leads_at l a w cells leads = record { scan = leads.scan; unmarked = leads.unmarked; next = leads.next; after = leads.after; from = leads.from; within = leads.within }

module _ {s : Shared} {p q : Pass} {l : Local} {w : Cursor} {link : ℕ} (leads : LeadsOn l) (cells : List Cell) (before : Streams s p l w cells) (load : (a : Activity) (k : Local) → IsAtReadLink a → Follows s p (with_cursor a w k) → ReadsWord s p (with_cursor a w k) link q) where
  abbrev k : Local
  k = record l { gathered = cells }

  abbrev a : Activity
  a = before.activity

  at : IsAtReadLink a
  at = before.loads

  f : Follows s p (with_cursor a w k)
  f = before.follows

  -- the row is at its end
  ended : (m : Local) → m.activity ≡ Activity.Walk Walk.Next → ReadsOn s p (with_cursor a w k) q (record m { gathered = cells }) → EndsRow s p l cells q m
  ended m walks read =
      let upto : ℕ = last_key l.call in
      let has : HasReadAs (Some (Scan (first_key l.call) upto)) l.want l.version (record m { gathered = cells }) (held p) (held q) =
      subst (λ (c : Option Call). HasReadAs c l.want l.version (record m { gathered = cells }) (held p) (held q)) (scan_is l.call leads.scan) (read.ends (ap is_reading_list walks)) in
      record {
        goes = read.goes;
        calls = read.calls;
        follows = read.follows;
        call = read.call;
        version = read.version;
        held = has.1;
        goes_on = going has.0;
      }
    where
      going : GoesOn l.want (last_key l.call) l.version (record m { gathered = cells }) ⊎ (m.activity ≡ Activity.EndScan Pairs) → GoesOn l.want (last_key l.call) l.version (record m { gathered = cells })
      going (inl g) = g
      going (inr e) = let same : (Activity.EndScan Pairs) ≡ (Activity.Walk Walk.Next) = sym e ∙ walks in absurd (cc)

  -- since its list is
  pub stream_ends : (m written : Local) → written ≡ with_cursor (Activity.Read Read.Link) w l → cell_of_link_word link ≡ None → CarriesOn to_left_over written m → EndsRow s p l cells q m
  stream_ends m written is none on =
      let own : CarriesOn to_left_over (with_cursor (Activity.Read Read.Link) w l) m = subst (λ (y : Local). CarriesOn to_left_over y m) is on in
      let lead : LeadsOn (with_cursor (Activity.Read Read.Link) w l) = leads_at l (Activity.Read Read.Link) w l.gathered leads in
      ended m (walks_on (with_cursor (Activity.Read Read.Link) w l) m lead own)
      (link_ended k w a at (with_cursor (Activity.Read Read.Link) w k) (record m { gathered = cells }) refl none (carries_more (with_cursor (Activity.Read Read.Link) w l) m cells lead own) f (load a k at f))

  -- a link leads to a cell
  module _ (saw : Cursor) (cell : ℕ) (is : saw ≡ reached cell w) (led : cell_of_link_word link ≡ Some cell) where
    -- of which there are more than the scan has reached
    pub stream_counts : w.walked < CELLS
    stream_counts = cell_counts k w a at cell led (load a k at f)

    -- and one more is reached now
    one_more : saw.walked ≡ suc w.walked
    one_more = let fewer = stream_counts in ap (λ (y : Cursor). y.walked) is ∙ omega (arith, fewer)

    reached_one : ReadsOn s p (with_cursor a w k) q (with_cursor (Activity.Read Read.Key) saw k)
    reached_one = link_led k w a at saw k cell is (unmarked_so k cell leads.unmarked) led f (load a k at f)

    pub stream_led : Follows s q (with_cursor (Activity.Read Read.Key) saw k)
    stream_led = reached_one.follows

    -- its key is in the range: the cell is read
    module _ {r : Pass} {found : ℕ} (y : Cursor) (key : ℕ) (keyed : key ≡ key_of_word found) (second : (n : Local) → Follows s q (with_cursor (Activity.Read Read.Key) saw n) → ReadsWord s q (with_cursor (Activity.Read Read.Key) saw n) found r) (ranged : y ≡ record saw { key = key }) where
      ranges : (first_key l.call ≤ key) × (key ≤ last_key l.call)
      ranges =
          let word : ReadsWord s q (with_cursor (Activity.Read Read.Key) saw k) found r = second k stream_led in
          subst (λ n. (first_key l.call ≤ n) × (n ≤ last_key l.call)) (sym keyed) (reached_in_range s q r (with_cursor (Activity.Read Read.Key) saw k) found word.goes refl word (leads_at l (Activity.Read Read.Key) saw cells leads))

      in_range : ReadsOn s p (with_cursor a w k) r (with_cursor (Activity.Read Read.Version) y k)
      in_range = cell_within k k w saw a at cell is (unmarked_so k cell leads.unmarked) led f (load a k at) (second k) y key (first_key l.call) (last_key l.call) l.call ranged keyed refl refl refl ranges.0 ranges.1

      pub stream_ranged : Follows s r (with_cursor (Activity.Read Read.Version) y k)
      stream_ranged = in_range.follows

      module _ {t : Pass} {version : ℕ} (z : Cursor) (versioned : z ≡ record y { version = version }) (third : (n : Local) → Follows s r (with_cursor (Activity.Read Read.Version) y n) → ReadsWord s r (with_cursor (Activity.Read Read.Version) y n) version t) where
        told : ReadsOn s r (with_cursor (Activity.Read Read.Version) y k) t (with_cursor (Activity.Read Read.Value) z k)
        told =
            let word : ReadsWord s r (with_cursor (Activity.Read Read.Version) y k) version t = third k in_range.follows in
            let read : z ≡ record y { version = unwrap_or (version_of_word version) 1 } = versioned ∙ ap (λ n. record y { version = n }) (sym (reached_versioned s r t (with_cursor (Activity.Read Read.Version) y k) version word.goes refl word)) in
            version_told k y z read in_range.follows word

        pub stream_versioned : Follows s t (with_cursor (Activity.Read Read.Value) z k)
        stream_versioned = told.follows

        module _ {u : Pass} {value : ℕ} (last : Cursor) (read : Cell) (passes : last ≡ past z) (reads : read ≡ cell_at z (value_of_word value)) (fourth : (n : Local) → Follows s t (with_cursor (Activity.Read Read.Value) z n) → ReadsWord s t (with_cursor (Activity.Read Read.Value) z n) value u) where
          word : ReadsWord s t (with_cursor (Activity.Read Read.Value) z k) value u
          word = fourth k told.follows

          behind : All (λ d. stands_before d read ≡ true) cells
          behind = subst (λ (c : Cell). All (λ d. stands_before d c ≡ true) cells) (sym reads) (seat_before s t u (with_cursor (Activity.Read Read.Value) z k) value (value_of_word value) word.goes refl word)

          -- what is gathered grows by the cell at its end
          grown : record l { gathered = cells ++ read ∷ [] } ≡ gathering_at z (value_of_word value) k
          grown =
              let few = before.few in
              let less = stream_counts in
              let room : nat_lt (length cells) CELLS ≡ true = grind (arith, nat_tests) in
              ap (λ (cs : List Cell). record l { gathered = cs })
              (sym (with_cell_behind read cells behind) ∙ (ap (λ (c : Cell). with_cell c cells) reads ∙ ap (λ (b : Bool). if b then with_cell (cell_at z (value_of_word value)) cells else cells) (sym room)))

          gathers : ReadsOn s p (with_cursor a w k) u (with_cursor (Activity.Read Read.Link) last (record l { gathered = cells ++ read ∷ [] }))
          gathers =
              reads_trans s p t u _ _ _ refl (reads_trans s p r t _ _ _ refl in_range told)
              (value_told k z last (record l { gathered = cells ++ read ∷ [] }) passes grown told.follows word)

          walked_one : last.walked ≡ suc w.walked
          walked_one = ap (λ (v : Cursor). v.walked) passes ∙ (ap (λ (v : Cursor). v.walked) versioned ∙ (ap (λ (v : Cursor). v.walked) ranged ∙ one_more))

          keyed_so : read.key ≡ key
          keyed_so = ap (λ (c : Cell). c.key) reads ∙ ap (λ (v : Cursor). v.key) (versioned ∙ ap (λ (v : Cursor). record v { version = version }) ranged)

          pub stream_reads : ReadsCell s p l w cells u read last
          stream_reads =
              let one = walked_one in
              let less = stream_counts in
              let few = before.few in
              let same = keyed_so in
              let from = ranges.0 in
              let within = ranges.1 in
              let on = gathers.on refl in
              let more = length-with_cell read cells in
              let put : with_cell read cells ≡ cells ++ read ∷ [] = with_cell_behind read cells behind in
              let longer : length (cells ++ read ∷ []) ≤ suc (length cells) = subst (λ (cs : List Cell). length cs ≤ suc (length cells)) put more in
              record {
                goes = gathers.goes;
                calls = gathers.calls;
                held = on.1;
                streams = record {
                  activity = Activity.Read Read.Link;
                  loads = tt;
                  follows = gathers.follows;
                  in_order = subst AreInOrder put (with_cell-in_order read cells before.in_order);
                  few = omega (arith, one, few, longer);
                  within = omega (arith, one, less);
                };
                behind = behind;
                from = omega (arith, same, from);
                upto = omega (arith, same, within);
                value = (All-pop IsCopy (cells ++ read ∷ []) cells (Some read) refl (follows_ranges s u _ gathers.follows).copies).1.2;
                further = omega (arith, one);
              }

-- where it begins its walk, it has gathered nothing
pub stream_begins : {s : Shared} {p : Pass} {l : Local} {w : Cursor} → Follows s p l → l.activity ≡ Activity.Read Read.Start → l.gathered ≡ [] → with_cursor l.activity w l ≡ l → Streams s p l w []
stream_begins {s} {p} {l} {w} f at none own = record {
  activity = Activity.Read Read.Start;
  loads = tt;
  follows =
      let here : Follows s p (with_cursor l.activity w l) = subst (λ (k : Local). Follows s p k) (sym own) f in
      let started : Follows s p (with_cursor (Activity.Read Read.Start) w l) = subst (λ (a : Activity). Follows s p (with_cursor a w l)) at here in
      subst (λ (cells : List Cell). Follows s p (with_cursor (Activity.Read Read.Start) w (record l { gathered = cells }))) none started;
  in_order = λ i j d u v. absurd (omega arith);
  few = omega arith;
  within =
      let most = (follows_ranges s p l f).walked in
      let same : w.walked ≡ l.walked = ap (λ (k : Local). k.walked) own in
      omega (arith, same, most);
}
