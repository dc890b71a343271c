-- The ways that the events of a rebalance may go by which new rows are taken, written, linked in
-- place of the group and made normal, and its rows are retired, or by which what was taken is given
-- back.
--
-- As in `Arrow` there is one constructor for each way, and it carries what the event found: whether
-- a row was free or retired, which epoch a seat announces, whether a guess served, what a link
-- leads to, and whether that is marked. What has no event of its own has a type in `NextBuilt`.
use Rattle.std.proofs.Common.{ℕ, ◌≡◌, ◌≢◌, ◌⊎◌, inl, inr, ◌+◌, ◌<◌, ◌≤◌, ◌==◌, Option, Some, None, Bool, true, false, nat_lt, nat_le, length, arith, refl, sym, ◌∙◌, ap, subst, if◌then◌else◌}
use Rattle.std.proofs.lemmas.Bool.Decides.{nat_tests}
use Rattle.kw_words.specs.declared.layout.Name.TheVariants as name
use Rattle.kw_words.specs.declared.link.Link.{Link}
use Rattle.kw_words.specs.declared.state.State.{State}
use Rattle.kw_words.specs.declared.state.State.TheVariants.{Free, Infant, Normal, Leader, Follower, Retired}
use Rattle.kw_words.specs.Link.{link_of}
use Rattle.kw_words.specs.Plain.{pass_of_word}
use Rattle.kw_words.specs.State.{state_of, state_word}
use Rattle.kw_world.specs.declared.activity.Activity.{Activity}
use Rattle.kw_world.specs.declared.activity.rebalance.Rebalance.TheVariants as Rebalance
use Rattle.kw_world.specs.declared.activity.rebalance.replace.Replace.TheVariants as Replace
use Rattle.kw_world.specs.declared.activity.rebalance.seek.Seek.TheVariants as Seek
use Rattle.kw_world.specs.declared.activity.rebalance.write.Write.TheVariants as Write
use Rattle.kw_world.specs.declared.event.Choice.{Choice}
use Rattle.kw_world.specs.declared.event.Choice.TheVariants.{Begin, Go, Guess, Stop}
use Rattle.kw_world.specs.declared.local.Local.{Local}
use Rattle.kw_world.specs.declared.rebalance.Afterwards.TheVariants.{TryAgain, MoveLeft}
use Rattle.kw_world.specs.Local.{without_rows, without_rebalance}
use Rattle.kw_world.specs.declared.answer.Answer.TheVariants.{Done}
use Rattle.kw_world.specs.GroupPlaces.{at_first_row, at_last_row}
use Rattle.kw_world.specs.ReplaceTransitions.{at_before, before_transition, guess_before, link_before, replaced, replaced_link, retired, row_before, row_replaced}
use Rattle.kw_world.specs.SeekTransitions.{at_infant, give_back, given_back, has_more, numbered, pass_seen, seek_first_transition, seek_seen, seeking, take_row, to_pass, to_seek, with_row}
use Rattle.kw_world.specs.Sizes.{Sizes}
use Rattle.kw_world.specs.Step.{followed}
use Rattle.kw_world.specs.Table.{transition}
use Rattle.kw_world.specs.Transition.{Outcome, row_linked, row_or_first, to}
use Rattle.kw_world.specs.WriteTransitions.{infant_cells, to_write_cell, unmarked_link}
use Rattle.kw_core.specs.Words.{Words, least_in, next_in}
use Rattle.kw_core.proofs.NextBuilt.{begun_anew, over, GivenBack, NextBack, NextBefore, NextNewCell, NextNewEntry, NextPass, NextSeek, NextTaken, next_back, next_before, next_given, next_new_cell, next_new_entry, next_pass, next_seek, next_taken}

-- the activity is one of these
abbrev pub IsBuilding : Activity → Type 0
IsBuilding (Activity.Rebalance (Rebalance.Seek _)) = Unit {0}
IsBuilding (Activity.Rebalance (Rebalance.Write _)) = Unit {0}
IsBuilding (Activity.Rebalance (Rebalance.Replace _)) = Unit {0}
IsBuilding _ = ⊥

-- a link to this row that is marked
abbrev pub marked_link : Option ℕ → Link
marked_link q = record { row = q; marked = true }

-- no epoch is announced, or one above the number
abbrev pub IsYoung : ℕ → Option ℕ → Type 0
IsYoung m (Some epoch) = m < epoch
IsYoung m None = Unit {0}

-- from such an activity to what the seat knows next
pub data Building (z : Sizes) (v : Words) (choice : Choice) (l : Local) : Activity → Local → Type 0 where
  -- free rows are sought and taken. A search begins at the row that the seat guesses, or else where
  -- it stands
  first_is_free : (q : ℕ) → (choice ≡ Guess q) ⊎ (q ≡ l.rebalance.sought) → state_of (v (name.State q)) ≡ Some Free → Building z v choice l (Activity.Rebalance (Rebalance.Seek Seek.First)) (record (seeking q l) { activity = Activity.Rebalance (Rebalance.Seek Seek.Take) })
  first_is_taken : (q rows : ℕ) (next : Local) → (choice ≡ Guess q) ⊎ (q ≡ l.rebalance.sought) → state_of (v (name.State q)) ≢ Some Free → NextSeek rows (seeking q l) next → Building z v choice l (Activity.Rebalance (Rebalance.Seek Seek.First)) next
  sought_is_free : state_of (v (name.State l.rebalance.sought)) ≡ Some Free → Building z v choice l (Activity.Rebalance (Rebalance.Seek Seek.Next)) (record l { activity = Activity.Rebalance (Rebalance.Seek Seek.Take) })
  sought_is_taken : (rows : ℕ) (next : Local) → state_of (v (name.State l.rebalance.sought)) ≢ Some Free → NextSeek rows l next → Building z v choice l (Activity.Rebalance (Rebalance.Seek Seek.Next)) next
  -- at a retired one the visits of all seats are looked at, and then it is freed, or was not as it
  -- was found. It is tried then
  first_is_retired : (q m : ℕ) → (choice ≡ Guess q) ⊎ (q ≡ l.rebalance.sought) → state_of (v (name.State q)) ≡ Some (Retired m) → Building z v choice l (Activity.Rebalance (Rebalance.Seek Seek.First)) (record (numbered m (seeking q l)) { activity = Activity.Rebalance (Rebalance.Seek (Seek.Pass 0)) })
  sought_is_retired : (m : ℕ) → state_of (v (name.State l.rebalance.sought)) ≡ Some (Retired m) → Building z v choice l (Activity.Rebalance (Rebalance.Seek Seek.Next)) (record (numbered m l) { activity = Activity.Rebalance (Rebalance.Seek (Seek.Pass 0)) })
  pass_is_old : (i epoch rows : ℕ) (next : Local) → pass_of_word (v (name.Pass i)) ≡ Some epoch → epoch ≤ l.rebalance.number → NextSeek rows l next → Building z v choice l (Activity.Rebalance (Rebalance.Seek (Seek.Pass i))) next
  pass_is_young : (i : ℕ) (next : Local) → IsYoung l.rebalance.number (pass_of_word (v (name.Pass i))) → NextPass z (i + 1) l next → Building z v choice l (Activity.Rebalance (Rebalance.Seek (Seek.Pass i))) next
  frees_row : Building z v choice l (Activity.Rebalance (Rebalance.Seek Seek.Reclaim)) (record l { activity = Activity.Rebalance (Rebalance.Seek Seek.Take) })
  -- it is taken, or given back
  takes_row : (rows : ℕ) (next : Local) → v (name.State l.rebalance.sought) ≡ state_word Free → NextTaken rows (with_row l) next → Building z v choice l (Activity.Rebalance (Rebalance.Seek Seek.Take)) next
  loses_row : (rows : ℕ) (next : Local) → v (name.State l.rebalance.sought) ≢ state_word Free → NextSeek rows l next → Building z v choice l (Activity.Rebalance (Rebalance.Seek Seek.Take)) next
  gives_one_back : l.rebalance.at + 1 < length l.rebalance.taken → Building z v choice l (Activity.Rebalance (Rebalance.Seek Seek.GiveBack)) (record (at_infant (l.rebalance.at + 1) l) { activity = Activity.Rebalance (Rebalance.Seek Seek.GiveBack) })
  gives_last_back : (next : Local) → length l.rebalance.taken ≤ l.rebalance.at + 1 → GivenBack l l.rebalance.afterwards next → Building z v choice l (Activity.Rebalance (Rebalance.Seek Seek.GiveBack)) next
  -- they are written
  writes_count : Building z v choice l (Activity.Rebalance (Rebalance.Write Write.Count)) (record l { activity = Activity.Rebalance (Rebalance.Write Write.Least) })
  writes_least : Building z v choice l (Activity.Rebalance (Rebalance.Write Write.Least)) (record l { activity = Activity.Rebalance (Rebalance.Write Write.Next) })
  writes_link : Building z v choice l (Activity.Rebalance (Rebalance.Write Write.Next)) (record l { activity = Activity.Rebalance (Rebalance.Write Write.First) })
  writes_first : (next : Local) → NextNewEntry z 0 l next → Building z v choice l (Activity.Rebalance (Rebalance.Write Write.First)) next
  writes_entry : (i : ℕ) (next : Local) → NextNewEntry z (i + 1) l next → Building z v choice l (Activity.Rebalance (Rebalance.Write (Write.Entry i))) next
  writes_key : (j : ℕ) → Building z v choice l (Activity.Rebalance (Rebalance.Write (Write.Key j))) (record l { activity = Activity.Rebalance (Rebalance.Write (Write.Value j)) })
  writes_value : (j : ℕ) → Building z v choice l (Activity.Rebalance (Rebalance.Write (Write.Value j))) (record l { activity = Activity.Rebalance (Rebalance.Write (Write.Version j)) })
  writes_version : (j : ℕ) → j < length (infant_cells l) → Building z v choice l (Activity.Rebalance (Rebalance.Write (Write.Version j))) (record l { activity = Activity.Rebalance (Rebalance.Write (Write.After j)) })
  writes_no_cell : (j : ℕ) (next : Local) → length (infant_cells l) ≤ j → NextNewCell z (j + 1) l next → Building z v choice l (Activity.Rebalance (Rebalance.Write (Write.Version j))) next
  writes_after : (j : ℕ) (next : Local) → NextNewCell z (j + 1) l next → Building z v choice l (Activity.Rebalance (Rebalance.Write (Write.After j))) next
  -- the row before the full one is found
  begins_before : (next : Local) → NextBefore (row_or_first (row_linked (link_of (v name.Head)))) l next → Building z v choice l (Activity.Rebalance (Rebalance.Replace Replace.Start)) next
  guesses_before : (q : ℕ) → choice ≡ Guess q → state_of (v (name.State q)) ≡ Some Normal → Building z v choice l (Activity.Rebalance (Rebalance.Replace Replace.Start)) (record l { rebalance = record l.rebalance { before = Some q }; activity = Activity.Rebalance (Rebalance.Replace Replace.GuessedLeast) })
  guess_before_fails : Building z v choice l (Activity.Rebalance (Rebalance.Replace Replace.Start)) (record l { activity = Activity.Rebalance (Rebalance.Replace Replace.First) })
  before_serves : least_in v (row_or_first l.rebalance.before) < l.lower → Building z v choice l (Activity.Rebalance (Rebalance.Replace Replace.GuessedLeast)) (record l { rebalance = record l.rebalance { least = least_in v (row_or_first l.rebalance.before) }; activity = Activity.Rebalance (Rebalance.Replace Replace.Next) })
  before_is_above : l.lower ≤ least_in v (row_or_first l.rebalance.before) → Building z v choice l (Activity.Rebalance (Rebalance.Replace Replace.GuessedLeast)) (record l { rebalance = record l.rebalance { before = None }; activity = Activity.Rebalance (Rebalance.Replace Replace.First) })
  takes_head_before : (next : Local) → NextBefore (row_or_first (row_linked (link_of (v name.Head)))) l next → Building z v choice l (Activity.Rebalance (Rebalance.Replace Replace.First)) next
  leads_to_full : link_of (v (name.Next (row_or_first l.rebalance.before))) ≡ Some (unmarked_link (Some l.row)) → Building z v choice l (Activity.Rebalance (Rebalance.Replace Replace.Next)) (record l { activity = Activity.Rebalance (Rebalance.Replace Replace.Exchange) })
  leads_on_marked : (next : Local) → link_of (v (name.Next (row_or_first l.rebalance.before))) ≡ Some (marked_link (Some l.row)) → NextBack MoveLeft l next → Building z v choice l (Activity.Rebalance (Rebalance.Replace Replace.Next)) next
  leads_to_other : (q : ℕ) → next_in v (row_or_first l.rebalance.before) ≡ Some q → q ≢ l.row → Building z v choice l (Activity.Rebalance (Rebalance.Replace Replace.Next)) (record l { candidate = q; activity = Activity.Rebalance (Rebalance.Replace Replace.NextLeast) })
  leads_nowhere : (next : Local) → next_in v (row_or_first l.rebalance.before) ≡ None → NextBack TryAgain l next → Building z v choice l (Activity.Rebalance (Rebalance.Replace Replace.Next)) next
  walks_before : least_in v l.candidate < l.lower → Building z v choice l (Activity.Rebalance (Rebalance.Replace Replace.NextLeast)) (record (at_before (Some l.candidate) (least_in v l.candidate) l) { activity = Activity.Rebalance (Rebalance.Replace Replace.Next) })
  walks_past : (next : Local) → l.lower ≤ least_in v l.candidate → NextBack TryAgain l next → Building z v choice l (Activity.Rebalance (Rebalance.Replace Replace.NextLeast)) next
  -- the new rows are linked in place of the group, whose rows are to be retired
  replaces_row : link_of (v (replaced_link l.rebalance.before)) ≡ Some (unmarked_link (Some l.row)) → Building z v choice l (Activity.Rebalance (Rebalance.Replace Replace.Exchange)) (record (at_infant 0 l) { activity = Activity.Rebalance (Rebalance.Replace Replace.Normalise) })
  is_marked_before : (next : Local) → link_of (v (replaced_link l.rebalance.before)) ≡ Some (marked_link (Some l.row)) → NextBack MoveLeft l next → Building z v choice l (Activity.Rebalance (Rebalance.Replace Replace.Exchange)) next
  is_replaced : (next : Local) → row_linked (link_of (v (replaced_link l.rebalance.before))) ≢ Some l.row → NextBack TryAgain l next → Building z v choice l (Activity.Rebalance (Rebalance.Replace Replace.Exchange)) next
  makes_normal : l.rebalance.at + 1 < length l.rebalance.taken → Building z v choice l (Activity.Rebalance (Rebalance.Replace Replace.Normalise)) (record (at_infant (l.rebalance.at + 1) l) { activity = Activity.Rebalance (Rebalance.Replace Replace.Normalise) })
  makes_last_normal : length l.rebalance.taken ≤ l.rebalance.at + 1 → Building z v choice l (Activity.Rebalance (Rebalance.Replace Replace.Normalise)) (record (at_first_row l) { activity = Activity.Rebalance (Rebalance.Replace Replace.Number) })
  draws_number : Building z v choice l (Activity.Rebalance (Rebalance.Replace Replace.Number)) (record l { rebalance = record l.rebalance { number = v name.Epoch }; activity = Activity.Rebalance (Rebalance.Replace Replace.Retire) })
  retires_ahead : (r : ℕ) → l.rebalance.ahead ≡ Some r → Building z v choice l (Activity.Rebalance (Rebalance.Replace Replace.Retire)) (record (at_last_row r l) { activity = Activity.Rebalance (Rebalance.Replace Replace.Number) })
  retires_row : l.rebalance.ahead ≡ None → l.tidies ≡ false → Building z v choice l (Activity.Rebalance (Rebalance.Replace Replace.Retire)) (begun_anew l).local
  retires_and_leaves : l.rebalance.ahead ≡ None → l.tidies ≡ true → Building z v choice l (Activity.Rebalance (Rebalance.Replace Replace.Retire)) (over l).local

-- Tests of the table.

eq_from : (x y : ℕ) → (x == y) ≡ true → x ≡ y
eq_from x y e = grind (arith, nat_tests)

eq_not : (x y : ℕ) → (x == y) ≡ false → x ≢ y
eq_not x y f e = grind (arith, nat_tests)

below : (x y : ℕ) → nat_lt x y ≡ true → x < y
below x y e = grind (arith, nat_tests)

not_below : (x y : ℕ) → nat_lt x y ≡ false → y ≤ x
not_below x y e = grind (arith, nat_tests)

-- The table goes one of these ways.

module _ (z : Sizes) (rows : ℕ) (v : Words) (s : ℕ) (choice : Choice) (l : Local) where
  -- a search at the row q, whose state is seen
  seek_arrow : (q : ℕ) (a : Activity) (x : Option State) (k : Local) → state_of (v (name.State q)) ≡ x → (state_of (v (name.State q)) ≡ Some Free → Building z v choice l a (record k { activity = Activity.Rebalance (Rebalance.Seek Seek.Take) })) →
      ((m : ℕ) → state_of (v (name.State q)) ≡ Some (Retired m) → Building z v choice l a (record (numbered m k) { activity = Activity.Rebalance (Rebalance.Seek (Seek.Pass 0)) })) →
      ((next : Local) → state_of (v (name.State q)) ≢ Some Free → NextSeek rows k next → Building z v choice l a next) → Building z v choice l a (seek_seen rows x k).local
  seek_arrow q a (Some Free) k e free retired taken = free e
  seek_arrow q a (Some (Infant seat)) k e free retired taken = taken _ (λ c. let y : Some (Infant seat) ≡ Some Free = sym e ∙ c in cc) (next_seek rows k)
  seek_arrow q a (Some Normal) k e free retired taken = taken _ (λ c. let y : Some Normal ≡ Some Free = sym e ∙ c in cc) (next_seek rows k)
  seek_arrow q a (Some (Leader count)) k e free retired taken = taken _ (λ c. let y : Some (Leader count) ≡ Some Free = sym e ∙ c in cc) (next_seek rows k)
  seek_arrow q a (Some (Follower leader)) k e free retired taken = taken _ (λ c. let y : Some (Follower leader) ≡ Some Free = sym e ∙ c in cc) (next_seek rows k)
  seek_arrow q a (Some (Retired number)) k e free retired taken = retired number e
  seek_arrow q a None k e free retired taken = taken _ (λ c. let y : None ≡ Some Free = sym e ∙ c in cc) (next_seek rows k)

  first_arrow : (q : ℕ) → (choice ≡ Guess q) ⊎ (q ≡ l.rebalance.sought) → Building z v choice l (Activity.Rebalance (Rebalance.Seek Seek.First)) (seek_seen rows (state_of (v (name.State q))) (seeking q l)).local
  first_arrow q c = seek_arrow q (Activity.Rebalance (Rebalance.Seek Seek.First)) (state_of (v (name.State q))) (seeking q l) refl (first_is_free q c) (λ m e. first_is_retired q m c e) (λ next n k. first_is_taken q rows next c n k)

  seek_first_arrow : (c : Choice) → choice ≡ c → Building z v choice l (Activity.Rebalance (Rebalance.Seek Seek.First)) (followed rows (seek_first_transition c l) (v (seek_first_transition c l).operation.name)).local
  seek_first_arrow (Begin call) e = first_arrow l.rebalance.sought (inr refl)
  seek_first_arrow Go e = first_arrow l.rebalance.sought (inr refl)
  seek_first_arrow (Guess r) e = first_arrow r (inl e)
  seek_first_arrow Stop e = first_arrow l.rebalance.sought (inr refl)

  -- what a visit is found to be
  pass_arrow : (i : ℕ) (x : Option ℕ) → pass_of_word (v (name.Pass i)) ≡ x → Building z v choice l (Activity.Rebalance (Rebalance.Seek (Seek.Pass i))) (pass_seen z i rows x l).local
  pass_arrow i (Some epoch) e = saw (nat_le epoch l.rebalance.number) refl
    where
      saw : (b : Bool) → nat_le epoch l.rebalance.number ≡ b → Building z v choice l (Activity.Rebalance (Rebalance.Seek (Seek.Pass i))) (let x : Outcome = if b then to_seek rows l else to_pass z (i + 1) l in x).local
      saw true f = pass_is_old i epoch rows _ e (grind (arith, nat_tests)) (next_seek rows l)
      saw false f =
          let o : l.rebalance.number < epoch = grind (arith, nat_tests) in
          pass_is_young i _ (subst (IsYoung l.rebalance.number) (sym e) o) (next_pass z (i + 1) l)
  pass_arrow i None e = pass_is_young i _ (subst (IsYoung l.rebalance.number) (sym e) tt) (next_pass z (i + 1) l)

  guess_before_arrow : (r : ℕ) (x : Option State) → choice ≡ Guess r → state_of (v (name.State r)) ≡ x → Building z v choice l (Activity.Rebalance (Rebalance.Replace Replace.Start)) (guess_before r x l).local
  guess_before_arrow r (Some Free) c e = guess_before_fails
  guess_before_arrow r (Some (Infant seat)) c e = guess_before_fails
  guess_before_arrow r (Some Normal) c e = guesses_before r c e
  guess_before_arrow r (Some (Leader count)) c e = guess_before_fails
  guess_before_arrow r (Some (Follower leader)) c e = guess_before_fails
  guess_before_arrow r (Some (Retired number)) c e = guess_before_fails
  guess_before_arrow r None c e = guess_before_fails

  before_arrow : (c : Choice) → choice ≡ c → Building z v choice l (Activity.Rebalance (Rebalance.Replace Replace.Start)) (followed rows (before_transition c l) (v (before_transition c l).operation.name)).local
  before_arrow (Begin call) e = begins_before _ (next_before _ l)
  before_arrow Go e = begins_before _ (next_before _ l)
  before_arrow (Guess r) e = guess_before_arrow r (state_of (v (name.State r))) e refl
  before_arrow Stop e = begins_before _ (next_before _ l)

  -- what the link of the row before is found to lead to
  before_link_arrow : (x : Option Link) → link_of (v (name.Next (row_or_first l.rebalance.before))) ≡ x → Building z v choice l (Activity.Rebalance (Rebalance.Replace Replace.Next)) (link_before x l).local
  before_link_arrow (Some link) e = saw link.row link.marked e
    where
      saw : (y : Option ℕ) (marked : Bool) → link_of (v (name.Next (row_or_first l.rebalance.before))) ≡ Some (record { row = y; marked = marked }) → Building z v choice l (Activity.Rebalance (Rebalance.Replace Replace.Next)) (row_before y marked l).local
      saw (Some r) marked h = here (r == l.row) marked refl h
        where
          here : (b c : Bool) → (r == l.row) ≡ b → link_of (v (name.Next (row_or_first l.rebalance.before))) ≡ Some (record { row = Some r; marked = c }) →
              Building z v choice l (Activity.Rebalance (Rebalance.Replace Replace.Next)) (let x : Outcome = if b then (if c then give_back MoveLeft l else to (Activity.Rebalance (Rebalance.Replace Replace.Exchange)) l) else to (Activity.Rebalance (Rebalance.Replace Replace.NextLeast)) (record l { candidate = r }) in x).local
          here true true i k = leads_on_marked _ (k ∙ ap (λ (x : ℕ). Some (marked_link (Some x))) (eq_from r l.row i)) (next_back MoveLeft l)
          here true false i k = leads_to_full (k ∙ ap (λ (x : ℕ). Some (unmarked_link (Some x))) (eq_from r l.row i))
          here false c i k = leads_to_other r (ap row_linked k) (eq_not r l.row i)
      saw None marked h = leads_nowhere _ (ap row_linked h) (next_back TryAgain l)
  before_link_arrow None e = leads_nowhere _ (ap row_linked e) (next_back TryAgain l)

  -- what the link that is exchanged is found to lead to
  replace_arrow : (x : Option Link) → link_of (v (replaced_link l.rebalance.before)) ≡ x → Building z v choice l (Activity.Rebalance (Rebalance.Replace Replace.Exchange)) (replaced x l).local
  replace_arrow (Some link) e = saw link.row link.marked e
    where
      saw : (y : Option ℕ) (marked : Bool) → link_of (v (replaced_link l.rebalance.before)) ≡ Some (record { row = y; marked = marked }) → Building z v choice l (Activity.Rebalance (Rebalance.Replace Replace.Exchange)) (row_replaced y marked l).local
      saw (Some r) marked h = here (r == l.row) marked refl h
        where
          here : (b c : Bool) → (r == l.row) ≡ b → link_of (v (replaced_link l.rebalance.before)) ≡ Some (record { row = Some r; marked = c }) →
              Building z v choice l (Activity.Rebalance (Rebalance.Replace Replace.Exchange)) (let x : Outcome = if b then (if c then give_back MoveLeft l else to (Activity.Rebalance (Rebalance.Replace Replace.Normalise)) (at_infant 0 l)) else give_back TryAgain l in x).local
          here true true i k = is_marked_before _ (k ∙ ap (λ (x : ℕ). Some (marked_link (Some x))) (eq_from r l.row i)) (next_back MoveLeft l)
          here true false i k = replaces_row (k ∙ ap (λ (x : ℕ). Some (unmarked_link (Some x))) (eq_from r l.row i))
          here false c i k = is_replaced _ (λ q. let y : Some r ≡ Some l.row = sym (ap row_linked k) ∙ q in eq_not r l.row i (cc)) (next_back TryAgain l)
      saw None marked h = is_replaced _ (λ q. let y : None ≡ Some l.row = sym (ap row_linked h) ∙ q in cc) (next_back TryAgain l)
  replace_arrow None e = is_replaced _ (λ q. let y : None ≡ Some l.row = sym (ap row_linked e) ∙ q in cc) (next_back TryAgain l)

  -- so each event of these does
  pub building : (a : Activity) → IsBuilding a → Building z v choice l a (followed rows (transition z a s choice l) (v (transition z a s choice l).operation.name)).local
  building (Activity.Rebalance (Rebalance.Seek Seek.First)) o = seek_first_arrow choice refl
  building (Activity.Rebalance (Rebalance.Seek Seek.Next)) o = seek_arrow l.rebalance.sought (Activity.Rebalance (Rebalance.Seek Seek.Next)) (state_of (v (name.State l.rebalance.sought))) l refl sought_is_free sought_is_retired (λ next n k. sought_is_taken rows next n k)
  building (Activity.Rebalance (Rebalance.Seek (Seek.Pass i))) o = pass_arrow i (pass_of_word (v (name.Pass i))) refl
  building (Activity.Rebalance (Rebalance.Seek Seek.Reclaim)) o = frees_row
  building (Activity.Rebalance (Rebalance.Seek Seek.Take)) o = saw (v (name.State l.rebalance.sought) == state_word Free) refl
    where
      saw : (b : Bool) → (v (name.State l.rebalance.sought) == state_word Free) ≡ b → Building z v choice l (Activity.Rebalance (Rebalance.Seek Seek.Take)) (take_row rows b l).local
      saw true e = takes_row rows _ (eq_from _ _ e) (next_taken rows (with_row l))
      saw false e = loses_row rows _ (eq_not _ _ e) (next_seek rows l)
  building (Activity.Rebalance (Rebalance.Seek Seek.GiveBack)) o = saw (has_more l) refl
    where
      saw : (b : Bool) → has_more l ≡ b → Building z v choice l (Activity.Rebalance (Rebalance.Seek Seek.GiveBack)) (let x : Outcome = if b then to (Activity.Rebalance (Rebalance.Seek Seek.GiveBack)) (at_infant (l.rebalance.at + 1) l) else given_back l.rebalance.afterwards l in x).local
      saw true e = gives_one_back (below _ _ e)
      saw false e = gives_last_back _ (not_below _ _ e) (next_given l)
  building (Activity.Rebalance (Rebalance.Write Write.Count)) o = writes_count
  building (Activity.Rebalance (Rebalance.Write Write.Least)) o = writes_least
  building (Activity.Rebalance (Rebalance.Write Write.Next)) o = writes_link
  building (Activity.Rebalance (Rebalance.Write Write.First)) o = writes_first _ (next_new_entry z 0 l)
  building (Activity.Rebalance (Rebalance.Write (Write.Entry i))) o = writes_entry i _ (next_new_entry z (i + 1) l)
  building (Activity.Rebalance (Rebalance.Write (Write.Key j))) o = writes_key j
  building (Activity.Rebalance (Rebalance.Write (Write.Value j))) o = writes_value j
  building (Activity.Rebalance (Rebalance.Write (Write.Version j))) o = saw (nat_lt j (length (infant_cells l))) refl
    where
      saw : (b : Bool) → nat_lt j (length (infant_cells l)) ≡ b → Building z v choice l (Activity.Rebalance (Rebalance.Write (Write.Version j))) (let x : Outcome = if b then to (Activity.Rebalance (Rebalance.Write (Write.After j))) l else to_write_cell z (j + 1) l in x).local
      saw true e = writes_version j (below _ _ e)
      saw false e = writes_no_cell j _ (not_below _ _ e) (next_new_cell z (j + 1) l)
  building (Activity.Rebalance (Rebalance.Write (Write.After j))) o = writes_after j _ (next_new_cell z (j + 1) l)
  building (Activity.Rebalance (Rebalance.Replace Replace.Start)) o = before_arrow choice refl
  building (Activity.Rebalance (Rebalance.Replace Replace.GuessedLeast)) o = saw (nat_lt (least_in v (row_or_first l.rebalance.before)) l.lower) refl
    where
      saw : (b : Bool) → nat_lt (least_in v (row_or_first l.rebalance.before)) l.lower ≡ b →
          Building z v choice l (Activity.Rebalance (Rebalance.Replace Replace.GuessedLeast)) (let x : Outcome = if b then to (Activity.Rebalance (Rebalance.Replace Replace.Next)) (record l { rebalance = record l.rebalance { least = least_in v (row_or_first l.rebalance.before) } }) else to (Activity.Rebalance (Rebalance.Replace Replace.First)) (record l { rebalance = record l.rebalance { before = None } }) in x).local
      saw true e = before_serves (below _ _ e)
      saw false e = before_is_above (not_below _ _ e)
  building (Activity.Rebalance (Rebalance.Replace Replace.First)) o = takes_head_before _ (next_before _ l)
  building (Activity.Rebalance (Rebalance.Replace Replace.Next)) o = before_link_arrow (link_of (v (name.Next (row_or_first l.rebalance.before)))) refl
  building (Activity.Rebalance (Rebalance.Replace Replace.NextLeast)) o = saw (nat_lt (least_in v l.candidate) l.lower) refl
    where
      saw : (b : Bool) → nat_lt (least_in v l.candidate) l.lower ≡ b → Building z v choice l (Activity.Rebalance (Rebalance.Replace Replace.NextLeast)) (let x : Outcome = if b then to (Activity.Rebalance (Rebalance.Replace Replace.Next)) (at_before (Some l.candidate) (least_in v l.candidate) l) else give_back TryAgain l in x).local
      saw true e = walks_before (below _ _ e)
      saw false e = walks_past _ (not_below _ _ e) (next_back TryAgain l)
  building (Activity.Rebalance (Rebalance.Replace Replace.Exchange)) o = replace_arrow (link_of (v (replaced_link l.rebalance.before))) refl
  building (Activity.Rebalance (Rebalance.Replace Replace.Normalise)) o = saw (has_more l) refl
    where
      saw : (b : Bool) → has_more l ≡ b → Building z v choice l (Activity.Rebalance (Rebalance.Replace Replace.Normalise)) (let x : Outcome = if b then to (Activity.Rebalance (Rebalance.Replace Replace.Normalise)) (at_infant (l.rebalance.at + 1) l) else to (Activity.Rebalance (Rebalance.Replace Replace.Number)) (at_first_row l) in x).local
      saw true e = makes_normal (below _ _ e)
      saw false e = makes_last_normal (not_below _ _ e)
  building (Activity.Rebalance (Rebalance.Replace Replace.Number)) o = draws_number
  building (Activity.Rebalance (Rebalance.Replace Replace.Retire)) o = saw l.rebalance.ahead refl
    where
      ends : (b : Bool) → l.rebalance.ahead ≡ None → l.tidies ≡ b → Building z v choice l (Activity.Rebalance (Rebalance.Replace Replace.Retire)) (to (if b then (Activity.Leave Done) else Activity.Retry) (without_rows (without_rebalance l))).local
      ends true n e = retires_and_leaves n e
      ends false n e = retires_row n e

      saw : (x : Option ℕ) → l.rebalance.ahead ≡ x → Building z v choice l (Activity.Rebalance (Rebalance.Replace Replace.Retire)) (retired x l).local
      saw (Some r) e = retires_ahead r e
      saw None e = ends l.tidies e refl
  building _ o = absurd o
