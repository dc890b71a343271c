-- That the record says of draws and answers what the events say, kept along a list: beside the
-- mirror, where each scan drew and settled, and of each busy seat where it read the cells that it
-- has gathered.
use Rattle.std.proofs.Common.{ℕ, ◌≡◌, ◌⊎◌, inl, inr, ◌<◌, ◌==◌, Bool, true, false, Option, Some, None, List, [], ◌∷◌, ◌++◌, arith, refl, sym, ◌∙◌, ap, subst, length, slice_get, if◌then◌else◌, unwrap_or, Contains}
use Rattle.std.specs.Prelude.{insert, take}
use Rattle.std.proofs.lemmas.List.{take_at, take-append-le}
use Rattle.kw_core.proofs.Marks.{contains_back}
use Rattle.std.proofs.lemmas.Option.{same_Some}
use Rattle.kw_words.specs.declared.kind.Kind.TheVariants as kind
use Rattle.kw_words.specs.declared.layout.Name.TheVariants as name
use Rattle.kw_cells.specs.declared.cell.Cell as kw_cell
use Rattle.kw_cells.specs.Cells.{best_of}
use Rattle.kw_model.specs.declared.call.Call.{Call}
use Rattle.kw_model.specs.declared.call.Call.TheVariants.{Put, Del, Get, Scan, Pin, ScanAt, Unpin}
use Rattle.kw_world.specs.declared.answer.Answer.{Answer}
use Rattle.kw_model.specs.declared.call.Reply.TheVariants as reply
use Rattle.kw_world.specs.declared.answer.Answer.TheVariants.{Done, Value, Absent, Pairs, NoRows, Spent, Stopped, Held, NotPinned}
use Rattle.kw_world.specs.declared.activity.Activity.{Activity}
use Rattle.kw_world.specs.declared.activity.draw.Draw.TheVariants as Draw
use Rattle.kw_world.specs.declared.activity.look.Look.TheVariants as Look
use Rattle.kw_world.specs.declared.activity.put.Put.TheVariants as Put
use Rattle.kw_world.specs.declared.activity.read.Read.TheVariants as Read
use Rattle.kw_world.specs.declared.activity.rebalance.engage.Engage.TheVariants as Engage
use Rattle.kw_world.specs.declared.activity.enter.Enter.TheVariants as Enter
use Rattle.kw_world.specs.declared.activity.rebalance.freeze.Freeze.TheVariants as Freeze
use Rattle.kw_world.specs.declared.activity.rebalance.gather.Gather.TheVariants as Gather
use Rattle.kw_world.specs.declared.activity.insert.Insert.TheVariants as Insert
use Rattle.kw_world.specs.declared.activity.rebalance.Rebalance.TheVariants as Rebalance
use Rattle.kw_world.specs.declared.activity.rebalance.replace.Replace.TheVariants as Replace
use Rattle.kw_world.specs.declared.activity.rebalance.seek.Seek.TheVariants as Seek
use Rattle.kw_world.specs.declared.activity.walk.Walk.TheVariants as Walk
use Rattle.kw_world.specs.declared.activity.rebalance.write.Write.TheVariants as Write
use Rattle.kw_world.specs.declared.event.Choice.{Choice}
use Rattle.kw_world.specs.declared.event.Choice.TheVariants.{Begin, Go, Guess, Stop}
use Rattle.kw_world.specs.declared.event.Event.{Event}
use Rattle.kw_world.specs.declared.limits.TheConstants.{NEWEST}
use Rattle.kw_world.specs.declared.local.Local.{Local}
use Rattle.kw_world.specs.declared.opening.Opening.{Opening}
use Rattle.kw_world.specs.declared.operation.Action.TheVariants.{Load}
use Rattle.kw_world.specs.Calls.{is_scan}
use Rattle.kw_world.specs.PutTransitions.{has_room}
use Rattle.kw_world.specs.WalkTransitions.{offered}
use Rattle.kw_world.specs.Sizes.{Sizes}
use Rattle.kw_world.specs.Step.{word, is_skipped}
use Rattle.kw_words.specs.Count.{count_of}
use Rattle.kw_core.specs.declared.history.CallLog.{CallLog}
use Rattle.kw_core.specs.declared.history.Drawn as drawn
use Rattle.kw_core.specs.declared.seat_log.SeatLog.{SeatLog}
use Rattle.kw_core.specs.History.{History, attempt, called}
use Rattle.kw_core.specs.Run.{Run, Origins, seat_after, is_at_cell, log_gathered, index_gathered, id_at, id_of, answering, drawing}
use Rattle.kw_core.specs.Stages.{IsBusy, IsUnderway, IsTaking, HasDrawn, HasPlace}
use Rattle.kw_core.proofs.Changes.{made}
use Rattle.kw_core.proofs.Happens.{Happens, each_seat}
use Rattle.kw_shape.specs.Shape.{IsKind, IsAnswerOf}
use Rattle.kw_puts.specs.Positions.{Calling}
use Rattle.kw_core.proofs.SeatLogs.{settled_same}
use Rattle.kw_puts.proofs.Rely.{GoesOn}
use Rattle.kw_reads.specs.Inv.{Inv, lower}
use Rattle.kw_reads.specs.Readers.{IsInHand}
use Rattle.kw_reads.proofs.HistoryKeeps.{history_step}
use Rattle.kw_reads.proofs.Relying.{goes_on_by}
use Rattle.kw_laws.specs.Mirror.{Acts, operation}
use Rattle.kw_laws.specs.MirrorReads.{HasSettled, IsLoadingValue, HasRead, MirrorsReads}
use Rattle.kw_laws.proofs.Mirroring.{Kept, acts_here}
use Rattle.kw_laws.proofs.MirrorScans.{KeptScans, settled_lasts, scans_keep, scans_start}
use Rattle.kw_laws.proofs.Occurs.{occurs_within, acts_lasts}
use Rattle.kw_laws.proofs.Over.{CallOver, goes_on, is_ended, IsCallNow, call_over, call_was}
use Rattle.std.proofs.Common.{suc}
use Rattle.kw_core.specs.Words.{Words}
use Rattle.kw_core.specs.Step.{Step}
use Rattle.kw_core.specs.Run.{start, history}
use Rattle.kw_core.proofs.Building.{IsBuilding}
use Rattle.kw_core.proofs.Arrows.{builds, Arrow, begins, leaves}
use Rattle.kw_core.proofs.Happens.{found_at, log_entry}
use Rattle.kw_puts.proofs.OwnScans.{call_first}
use Rattle.kw_core.proofs.Runs.{history-nil}
use Rattle.kw_core.proofs.Steps.{stamped_within}
use Rattle.kw_rows.specs.Ledger.{Ledger}
use Rattle.kw_reads.proofs.ApartKeeps.{place_below}
use Rattle.kw_reads.proofs.BuiltReads.{taking_reads}
use Rattle.kw_reads.proofs.WalksKeep.{row_linked}
use Rattle.kw_reads.proofs.CellsKeep.{cells_before, value_stands}
use Rattle.kw_shape.proofs.ShapeOpens.{all_resting}
use Rattle.std.proofs.Common.{length-append, ◌≤◌}
use Rattle.kw_core.specs.declared.history.End.{End}
use Rattle.kw_core.specs.HistoryLaws.{HistoryLaws, Got, shows, answer_of}
use Rattle.kw_laws.specs.MirrorReads.{AnswersFrom, GetsRead}

-- the run is that of the list; the draws and the answers of the record; the draws and the settles
-- of the scans; and of a busy seat the loads of the values that it has gathered
pub record KeptReads (z : Sizes) (o : Opening) (es : List Event) (r : Run) : Type 0 where
  pub led : history z o es ≡ r
  pub mirrors : MirrorsReads z o es r.history
  pub scans : KeptScans z o es r
  pub reads : (t : ℕ) (l : Local) → slice_get r.world.locals t ≡ Some l → IsBusy l.activity → (p : ℕ) → Contains (r.seats t).ids p → HasRead z o es r.history t (called r.history (r.seats t).call).first (length es) p

-- What lasts.

read_lasts : (z : Sizes) (o : Opening) (es : List Event) (e : Event) (h h' : History) (og og' : Origins) (y : Ledger) (s first last till p : ℕ) → last ≤ till → GoesOn h h' og og' y → HasRead z o es h s first last p → HasRead z o (es ++ e ∷ []) h' s first till p
read_lasts z o es e h h' og og' y s first last till p w g t =
    let i : t.at ≤ length es = omega (arith, occurs_within z o es t.at t.acts.before _ t.acts.occurs) in
    record {
      within = omega (arith, t.within, g.more_attempts);
      at = t.at;
      after = t.after;
      before = omega (arith, t.before, w);
      found = t.found;
      activity = t.activity;
      loads = t.loads;
      row = t.row;
      cell = t.cell;
      origin = ap (λ xs. (history z o xs).origin t.row t.cell) (take-append-le t.at es (e ∷ []) i) ∙ t.origin;
      acts = acts_lasts z o es e t.at s _ _ _ t.acts;
      value = t.value ∙ sym (g.attempts p t.within).value;
    }

-- The attempts beside gathered cells.

-- the attempt beside the best cell is one of those that were gathered
id_among : (place : ℕ) (cells : List kw_cell.Cell) (ids : List ℕ) (p : ℕ) → id_at place cells ids ≡ Some p → Contains ids p
id_among place [] ids p e = let x : None ≡ Some p = e in absurd (cc)
id_among place (c ∷ cells) [] p e = let x : None ≡ Some p = e in absurd (cc)
id_among place (c ∷ cells) (q ∷ ids) p e = which (c.place == place) (λ f. id_among place cells ids p f) e
  where
    further : Contains ids p → Contains (q ∷ ids) p
    further b = (suc b.0, omega (arith, b.1), b.2)

    which : (b : Bool) → (id_at place cells ids ≡ Some p → Contains ids p) → (if b then Some q else id_at place cells ids) ≡ Some p → Contains (q ∷ ids) p
    which true go f = (0, omega arith, same_Some q p f)
    which false go f = further (go f)

best_among : (c : Option kw_cell.Cell) (cells : List kw_cell.Cell) (ids : List ℕ) (p : ℕ) → id_of c cells ids ≡ Some p → Contains ids p
best_among (Some c) cells ids p e = id_among c.place cells ids p e
best_among None cells ids p e = let x : None ≡ Some p = e in absurd (cc)

-- what a call answers is one of them
answer_among : (c : Option Call) (l : Local) (g : SeatLog) (p : ℕ) → answering c l g ≡ Some p → Contains g.ids p
answer_among (Some (Put key value)) l g p e = let x : None ≡ Some p = e in absurd (cc)
answer_among (Some (Del key)) l g p e = let x : None ≡ Some p = e in absurd (cc)
answer_among (Some (Get key)) l g p e = best_among (best_of l.gathered key NEWEST) l.gathered g.ids p e
answer_among (Some (Scan from upto)) l g p e = let x : None ≡ Some p = e in absurd (cc)
answer_among (Some Pin) l g p e = let x : None ≡ Some p = e in absurd (cc)
answer_among (Some (ScanAt from upto)) l g p e = let x : None ≡ Some p = e in absurd (cc)
answer_among (Some Unpin) l g p e = let x : None ≡ Some p = e in absurd (cc)
answer_among None l g p e = let x : None ≡ Some p = e in absurd (cc)

-- a log with these attempts, or with none of them
left : (ids : List ℕ) (b : Bool) (x y : SeatLog) → x.ids ≡ ids → y.ids ≡ ids → (let k : SeatLog = if b then x else y in k).ids ≡ ids
left ids true x y p q = p
left ids false x y p q = q

-- what an event leaves of them: none where a call begins or a row is looked at anew, all of them,
-- or one more, at its place, where the value of a cell is loaded
module _ (z : Sizes) (choice : Choice) (l : Local) (found : ℕ) (next : Activity) (g : SeatLog) (o : Origins) (h : History) (settled : ℕ) where
  abbrev after : Activity → SeatLog
  after a = seat_after z a choice l found next g o h settled

  abbrev Ids : Activity → Type 0
  Ids a = ((after a).ids ≡ []) ⊎ (IsBusy a × ((after a).ids ≡ g.ids)) ⊎ IsLoadingValue a × ((after a).ids ≡ insert g.ids (index_gathered l found) (unwrap_or (o l.row l.place) 0))

  ids_after : (a : Activity) → is_skipped a choice ≡ false → Ids a
  ids_after Activity.Idle m = begun choice m
    where
      begun : (c : Choice) → is_skipped Activity.Idle c ≡ false → ((seat_after z Activity.Idle c l found next g o h settled).ids ≡ []) ⊎ (⊥ × ((seat_after z Activity.Idle c l found next g o h settled).ids ≡ g.ids)) ⊎ ⊥ × ((seat_after z Activity.Idle c l found next g o h settled).ids ≡ insert g.ids (index_gathered l found) (unwrap_or (o l.row l.place) 0))
      begun (Begin call) n = inl refl
      begun Go n = let x : true ≡ false = n in absurd (cc)
      begun (Guess q) n = let x : true ≡ false = n in absurd (cc)
      begun Stop n = let x : true ≡ false = n in absurd (cc)
  ids_after (Activity.Look (Look.Entry i)) m = looked (i == 0)
    where
      looked : (b : Bool) → ((let k : SeatLog = if b then record g { looked = length h.log; ids = []; read = None } else g in k).ids ≡ []) ⊎ (Unit {0} × ((let k : SeatLog = if b then record g { looked = length h.log; ids = []; read = None } else g in k).ids ≡ g.ids)) ⊎ ⊥ × ((let k : SeatLog = if b then record g { looked = length h.log; ids = []; read = None } else g in k).ids ≡ insert g.ids (index_gathered l found) (unwrap_or (o l.row l.place) 0))
      looked true = inl refl
      looked false = inr (inl (tt, refl))
  ids_after (Activity.Read Read.Start) m = inr (inl (tt, left g.ids (is_at_cell next) g (record g { read = Some l.row }) refl refl))
  ids_after (Activity.Read Read.Link) m = inr (inl (tt, left g.ids (is_at_cell next) g (record g { read = Some l.row }) refl refl))
  ids_after (Activity.Read Read.Key) m = inr (inl (tt, left g.ids (is_at_cell next) g (record g { read = Some l.row }) refl refl))
  ids_after (Activity.Read Read.Value) m = inr (inr (tt, refl))
  ids_after (Activity.Read Read.LeftOverKey) m = inr (inl (tt, left g.ids (is_at_cell next) g (record g { read = Some l.row }) refl refl))
  ids_after (Activity.Read Read.LeftOverValue) m = let k = log_gathered (o l.row l.place) (index_gathered l found) g in inr (inr (tt, left k.ids (is_at_cell next) k (record k { read = Some l.row }) refl refl))
  ids_after (Activity.Draw Draw.Settle) m = inr (inl (tt, settled_same (λ (q : SeatLog). q.ids) l.waiting found settled g refl))
  ids_after (Activity.Put Put.Add) m = inr (inl (tt, left g.ids (has_room z (count_of found)) (record g { own = length h.attempts }) g refl refl))
  ids_after (Activity.Enter Enter.Announce) m = inr (inl (tt, refl))
  ids_after (Activity.Walk Walk.First) m = inr (inl (tt, refl))
  ids_after (Activity.Insert Insert.Link) m = inr (inl (tt, refl))
  ids_after (Activity.Rebalance (Rebalance.Engage Engage.Clock)) m = inr (inl (tt, refl))
  ids_after (Activity.Rebalance (Rebalance.Freeze Freeze.Count)) m = inr (inl (tt, refl))
  ids_after (Activity.Rebalance (Rebalance.Gather Gather.Link)) m = inr (inl (tt, refl))
  ids_after (Activity.Rebalance (Rebalance.Seek Seek.Next)) m = inr (inl (tt, refl))
  ids_after (Activity.Rebalance (Rebalance.Write Write.Count)) m = inr (inl (tt, refl))
  ids_after (Activity.Rebalance (Rebalance.Replace Replace.First)) m = inr (inl (tt, refl))
  ids_after _ m = inr (inl (tt, refl))

-- a seat that builds rows is in its call
building_underway : (a : Activity) → IsBuilding a → IsUnderway a
building_underway Activity.Idle y = absurd y
building_underway (Activity.Leave answer) y = absurd y
building_underway _ y = tt

-- a seat that makes a call before and after its event is in it
stays_busy : (z : Sizes) (v : Words) (s : ℕ) (choice : Choice) (l : Local) (a : Activity) (k : Local) → Arrow z v s choice l a k → IsBusy a → IsBusy k.activity → IsUnderway a
stays_busy z v s choice l a k (builds act next y t) b c = building_underway act y
stays_busy z v s choice l a k (begins call e m) b c = absurd b
stays_busy z v s choice l a k (leaves answer) b c = absurd c
stays_busy z v s choice l a k _ b c = tt

-- pairs are the answer of a scan
pairs_of_scan : (c : Option Call) → IsAnswerOf c Pairs → is_scan c ≡ true
pairs_of_scan (Some (Put key value)) h = absurd h
pairs_of_scan (Some (Del key)) h = absurd h
pairs_of_scan (Some (Get key)) h = absurd h
pairs_of_scan (Some (Scan from upto)) h = refl
pairs_of_scan (Some Pin) h = absurd h
pairs_of_scan (Some (ScanAt from upto)) h = absurd h
pairs_of_scan (Some Unpin) h = absurd h
pairs_of_scan None h = absurd h

-- a reader that loads a value is in its call
loading_calls : (a : Activity) → IsLoadingValue a → IsBusy a × IsUnderway a
loading_calls (Activity.Read Read.Value) x = (tt, tt)
loading_calls (Activity.Read Read.LeftOverValue) x = (tt, tt)
loading_calls _ x = absurd x

-- and has a cell in hand
loading_takes : (a : Activity) → IsLoadingValue a → IsTaking a
loading_takes (Activity.Read Read.Value) x = tt
loading_takes (Activity.Read Read.LeftOverValue) x = tt
loading_takes _ x = absurd x

loading_place : (a : Activity) → IsLoadingValue a → HasPlace a
loading_place (Activity.Read Read.Value) x = tt
loading_place (Activity.Read Read.LeftOverValue) x = tt
loading_place _ x = absurd x

-- One more event.

module _ (z : Sizes) (o : Opening) (es : List Event) (e : Event) (r r' : Run) (l l' : Local) (a : Activity) (h : Happens z r r' e.seat (offered r.world.rows e.choice) l l' a) (i : Inv z r) (k : Kept z o es r) (n : KeptReads z o es r) where
  step : Step r.history r'.history (log_entry z r a e.seat (offered r.world.rows e.choice) l)
  step = history_step z r r' e.seat (offered r.world.rows e.choice) l a l' h i

  goes : GoesOn r.history r'.history r.origin r'.origin r.ledger.rows
  goes = goes_on_by z r r' e.seat (offered r.world.rows e.choice) l a l' h i

  -- the list is longer
  longer : length es ≤ length (es ++ e ∷ [])
  longer = omega (arith, length-append es (e ∷ []))

  -- The loads of values.

  -- those of the acting seat that were there
  read_before : IsUnderway a → IsBusy a → (p : ℕ) → Contains (r.seats e.seat).ids p → HasRead z o (es ++ e ∷ []) r'.history e.seat (called r'.history (r'.seats e.seat).call).first (length (es ++ e ∷ [])) p
  read_before u b p c =
      rw (call_first z r r' e.seat (offered r.world.rows e.choice) l a l' h.arrow h (lower i) step u)
      (read_lasts z o es e r.history r'.history r.origin r'.origin r.ledger.rows e.seat _ _ _ p longer goes (n.reads e.seat l h.knows (subst IsBusy (sym h.activity) b) p c))

  -- the one that it makes now
  read_now : (is : IsLoadingValue a) (p : ℕ) → unwrap_or (r.origin l.row l.place) 0 ≡ p → HasRead z o (es ++ e ∷ []) r'.history e.seat (called r'.history (r'.seats e.seat).call).first (length (es ++ e ∷ [])) p
  read_now is p q = subst (HasRead z o (es ++ e ∷ []) r'.history e.seat (called r'.history (r'.seats e.seat).call).first (length (es ++ e ∷ []))) (sym (ap (λ x. unwrap_or x 0) hand.origin) ∙ q) (record {
    within = omega (arith, within, goes.more_attempts);
    at = length r.history.log;
    after = omega (arith, call_first z r r' e.seat (offered r.world.rows e.choice) l a l' h.arrow h (lower i) step (loading_calls a is).1, i.history.past.first (r.seats e.seat).call calling.within);
    before = omega (arith, k.mirrors.events, length-append es (e ∷ []));
    found = word z r.world (name.Value l.row l.place);
    activity = a;
    loads = is;
    row = l.row;
    cell = l.place;
    origin = ap (λ xs. (history z o xs).origin l.row l.place) before_here ∙ ap (λ (x : Run). x.origin l.row l.place) n.led ∙ hand.origin;
    acts = acts_loading a is h;
    value = value_stands (lower i) l.row l.place hand.put (row_linked h i (taking_reads a (loading_takes a is))) (place_below h i) hand.origin hand.stamped ∙ sym (goes.attempts hand.put within).value;
  })
    where
      hand : IsInHand r.history r.origin a l
      hand = (cells_before h i (loading_takes a is)).hand (loading_place a is)

      acts_loading : (b : Activity) → IsLoadingValue b → Happens z r r' e.seat (offered r.world.rows e.choice) l l' b → Acts z o (es ++ e ∷ []) (length r.history.log) e.seat b (operation kind.LoadValue (name.Value l.row l.place) Load) (word z r.world (name.Value l.row l.place))
      acts_loading (Activity.Read Read.Value) x g = acts_here z o es e r r' l l' (Activity.Read Read.Value) g k (Activity.Read Read.Value) (operation kind.LoadValue (name.Value l.row l.place) Load) (word z r.world (name.Value l.row l.place)) refl refl refl
      acts_loading (Activity.Read Read.LeftOverValue) x g = acts_here z o es e r r' l l' (Activity.Read Read.LeftOverValue) g k (Activity.Read Read.LeftOverValue) (operation kind.LoadValue (name.Value l.row l.place) Load) (word z r.world (name.Value l.row l.place)) refl refl refl
      acts_loading _ x g = absurd x

      -- the list up to the event
      before_here : take (length r.history.log) (es ++ e ∷ []) ≡ es
      before_here = take_at es (e ∷ []) (length r.history.log) (sym k.mirrors.events)

      within : hand.put < length r.history.attempts
      within = stamped_within r.history hand.put hand.stamped

      calling : Calling r.history e.seat l.activity l (r.seats e.seat)
      calling = i.positions.calling e.seat l h.knows (subst IsBusy (sym h.activity) (loading_calls a is).0)

  reads_own : IsBusy l'.activity → (p : ℕ) → Contains (r'.seats e.seat).ids p → HasRead z o (es ++ e ∷ []) r'.history e.seat (called r'.history (r'.seats e.seat).call).first (length (es ++ e ∷ [])) p
  reads_own b p c = which (ids_after z (offered r.world.rows e.choice) l (found_at z (word z r.world) a e.seat (offered r.world.rows e.choice) l) l'.activity (r.seats e.seat) r.origin r.history (r.settled e.seat) a h.moves)
    where
      has : Contains (seat_after z a (offered r.world.rows e.choice) l (found_at z (word z r.world) a e.seat (offered r.world.rows e.choice) l) l'.activity (r.seats e.seat) r.origin r.history (r.settled e.seat)).ids p
      has = subst (λ (g : SeatLog). Contains g.ids p) h.log c

      cases : IsLoadingValue a → (unwrap_or (r.origin l.row l.place) 0 ≡ p) ⊎ Contains (r.seats e.seat).ids p → HasRead z o (es ++ e ∷ []) r'.history e.seat (called r'.history (r'.seats e.seat).call).first (length (es ++ e ∷ [])) p
      cases is (inr x) = read_before (loading_calls a is).1 (loading_calls a is).0 p x
      cases is (inl x) = read_now is p x

      which : Ids z (offered r.world.rows e.choice) l (found_at z (word z r.world) a e.seat (offered r.world.rows e.choice) l) l'.activity (r.seats e.seat) r.origin r.history (r.settled e.seat) a → HasRead z o (es ++ e ∷ []) r'.history e.seat (called r'.history (r'.seats e.seat).call).first (length (es ++ e ∷ [])) p
      which (inl f) = let x = subst (λ ids. Contains ids p) f has in absurd (omega (arith, x.1))
      which (inr (inl f)) = read_before (stays_busy z (word z r.world) e.seat (offered r.world.rows e.choice) l a l' h.arrow f.0 b) f.0 p (subst (λ ids. Contains ids p) f.1 has)
      which (inr (inr f)) = cases f.0 (contains_back (r.seats e.seat).ids _ (unwrap_or (r.origin l.row l.place) 0) p (subst (λ ids. Contains ids p) f.1 has))

  pub reads_keep : (t : ℕ) (m : Local) → slice_get r'.world.locals t ≡ Some m → IsBusy m.activity → (p : ℕ) → Contains (r'.seats t).ids p → HasRead z o (es ++ e ∷ []) r'.history t (called r'.history (r'.seats t).call).first (length (es ++ e ∷ [])) p
  reads_keep = each_seat h (λ t m. IsBusy m.activity → (p : ℕ) → Contains (r'.seats t).ids p → HasRead z o (es ++ e ∷ []) r'.history t (called r'.history (r'.seats t).call).first (length (es ++ e ∷ [])) p) reads_own
      (λ t m d g b p c.
      let first = (goes.calls (r.seats t).call (i.positions.calling t m g b).within).first in
      rw (h.logs t d, first) (read_lasts z o es e r.history r'.history r.origin r'.origin r.ledger.rows t _ _ _ p longer goes (n.reads t m g b p (subst (λ (q : SeatLog). Contains q.ids p) (h.logs t d) c))))

  -- The record.

  over : (x : ℕ) → x < length r.history.calls → CallOver r.history r'.history l (r.seats e.seat) a x
  over x w = call_over r.history r'.history _ z (word z r.world) e.seat (offered r.world.rows e.choice) l (r.seats e.seat) r.origin a _ (made z (word z r.world) e.seat (offered r.world.rows e.choice) l (r.seats e.seat) r.origin a) h.history x w

  was : (x : ℕ) → x < length r'.history.calls → (x < length r.history.calls) ⊎ IsCallNow r.history r'.history e.seat (offered r.world.rows e.choice) l a x
  was x w = call_was r.history r'.history _ z (word z r.world) e.seat (offered r.world.rows e.choice) l (r.seats e.seat) r.origin a _ (made z (word z r.world) e.seat (offered r.world.rows e.choice) l (r.seats e.seat) r.origin a) h.history x w

  -- the seat of a call that ends
  ending_seat : (x : ℕ) (answer : Answer) → a ≡ Activity.Leave answer → x ≡ (r.seats e.seat).call → (called r.history x).seat ≡ e.seat
  ending_seat x answer is at = ap (λ y. (called r.history y).seat) at ∙ (i.positions.calling e.seat l h.knows (subst IsBusy (sym (h.activity ∙ is)) tt)).seat

  -- where a scan that ends drew and settled
  drew_at_end : (answer : Answer) (d : drawn.Drawn) → a ≡ Activity.Leave answer → drawing answer l (r.seats e.seat) ≡ Some d → HasSettled z o (es ++ e ∷ []) e.seat d.at d.version
  drew_at_end Pairs d is g =
      let kind : IsAnswerOf l.call Pairs = subst (λ q. IsKind q l) (h.activity ∙ is) (i.shape.kinds e.seat l h.knows).kind in
      subst (λ (q : drawn.Drawn). HasSettled z o (es ++ e ∷ []) e.seat q.at q.version) (same_Some _ d g)
      (settled_lasts z o es e e.seat _ _ (n.scans.settled e.seat l h.knows (pairs_of_scan l.call kind) (subst HasDrawn (sym (h.activity ∙ is)) tt)))
  drew_at_end Done d is g = let x : None ≡ Some d = g in absurd (cc)
  drew_at_end (Value v) d is g = let x : None ≡ Some d = g in absurd (cc)
  drew_at_end Absent d is g = let x : None ≡ Some d = g in absurd (cc)
  drew_at_end NoRows d is g = let x : None ≡ Some d = g in absurd (cc)
  drew_at_end Spent d is g = let x : None ≡ Some d = g in absurd (cc)
  drew_at_end Stopped d is g = let x : None ≡ Some d = g in absurd (cc)
  drew_at_end Held d is g = let x : None ≡ Some d = g in absurd (cc)
  drew_at_end NotPinned d is g = let x : None ≡ Some d = g in absurd (cc)

  pub draws_keep : (x : ℕ) (d : drawn.Drawn) → x < length r'.history.calls → (called r'.history x).draw ≡ Some d → HasSettled z o (es ++ e ∷ []) (called r'.history x).seat d.at d.version
  draws_keep x d w g = which (was x w)
    where
      old : x < length r.history.calls → CallOver r.history r'.history l (r.seats e.seat) a x → HasSettled z o (es ++ e ∷ []) (called r'.history x).seat d.at d.version
      old v (goes_on t) = rw t.seat (settled_lasts z o es e _ _ _ (n.mirrors.draws x d v (sym t.draw ∙ g)))
      old v (is_ended answer is at f) = rw (ap (λ (c : CallLog). c.seat) f, ending_seat x answer is at) (drew_at_end answer d is (sym (ap (λ (c : CallLog). c.draw) f) ∙ g))

      which : (x < length r.history.calls) ⊎ IsCallNow r.history r'.history e.seat (offered r.world.rows e.choice) l a x → HasSettled z o (es ++ e ∷ []) (called r'.history x).seat d.at d.version
      which (inl v) = old v (over x v)
      which (inr c) = let y : None ≡ Some d = sym (ap (λ (q : CallLog). q.draw) c.is) ∙ g in absurd (cc)

  pub answers_keep : (x p : ℕ) (d : End) → x < length r'.history.calls → (called r'.history x).end ≡ Some d → (called r'.history x).answer ≡ Some p → HasRead z o (es ++ e ∷ []) r'.history (called r'.history x).seat (called r'.history x).first d.at p
  answers_keep x p d w y g = which (was x w)
    where
      old : x < length r.history.calls → CallOver r.history r'.history l (r.seats e.seat) a x → HasRead z o (es ++ e ∷ []) r'.history (called r'.history x).seat (called r'.history x).first d.at p
      old v (goes_on t) =
          let same : d.at ≤ d.at = omega arith in
          rw (t.seat, t.first) (read_lasts z o es e r.history r'.history r.origin r'.origin r.ledger.rows _ _ _ _ p same goes (n.mirrors.answers x p d v (sym t.end ∙ y) (sym t.answer ∙ g)))
      old v (is_ended answer is at f) =
          let c = answer_among l.call l (r.seats e.seat) p (sym (ap (λ (c : CallLog). c.answer) f) ∙ g) in
          let now : length r.history.log ≡ d.at = ap (λ (q : End). q.at) (same_Some _ d (sym (ap (λ (c : CallLog). c.end) f) ∙ y)) in
          let last : length es ≤ d.at = omega (arith, now, k.mirrors.events) in
          rw (ap (λ (c : CallLog). c.seat) f, ap (λ (c : CallLog). c.first) f, ending_seat x answer is at, at)
          (read_lasts z o es e r.history r'.history r.origin r'.origin r.ledger.rows e.seat _ _ _ p last goes (n.reads e.seat l h.knows (subst IsBusy (sym (h.activity ∙ is)) tt) p c))

      which : (x < length r.history.calls) ⊎ IsCallNow r.history r'.history e.seat (offered r.world.rows e.choice) l a x → HasRead z o (es ++ e ∷ []) r'.history (called r'.history x).seat (called r'.history x).first d.at p
      which (inl v) = old v (over x v)
      which (inr c) = let u : None ≡ Some p = sym (ap (λ (q : CallLog). q.answer) c.is) ∙ g in absurd (cc)

  -- All of it.

  pub kept_reads : history z o (es ++ e ∷ []) ≡ r' → KeptReads z o (es ++ e ∷ []) r'
  kept_reads f = record { led = f; mirrors = record { draws = draws_keep; answers = answers_keep }; scans = scans_keep z o es e r r' l l' a h i k n.scans; reads = reads_keep }

-- no event
pub reads_start : (z : Sizes) (o : Opening) → KeptReads z o [] (start z o)
reads_start z o = record {
  led = history-nil z o;
  mirrors = record { draws = λ x d w. absurd (omega (arith, w)); answers = λ x p d w. absurd (omega (arith, w)) };
  scans = scans_start z o;
  reads = λ t l g u. absurd (subst (λ (m : Local). IsBusy m.activity) (all_resting o.seats t l g) u);
}

-- A get that answered a value: its gap is behind a put, which its answer names, and which shows the
-- value.
pub gets_read : (z : Sizes) (o : Opening) (es : List Event) (h : History) → HistoryLaws h → MirrorsReads z o es h → GetsRead z o es h
gets_read z o es h laws m x key at v w ends = which got.gap (got.answer v refl) got.knows.reply
  where
    got : Got h x key at (reply.Value v)
    got = laws.got x key at (reply.Value v) ends

    shown : (p : ℕ) (value : Option ℕ) → (attempt h p).value ≡ value → reply.Value v ≡ answer_of value → (attempt h p).value ≡ Some v
    shown p (Some u) f g = f ∙ ap Some (let y : reply.Value v ≡ reply.Value u = g in cc)
    shown p None f g = let y : reply.Value v ≡ reply.Absent = g in absurd (cc)

    which : (gap : Option ℕ) → (called h x).answer ≡ gap → reply.Value v ≡ answer_of (shows h gap) → AnswersFrom z o es h x at v
    which (Some p) f g = record { put = p; answer = f; shown = shown p (attempt h p).value refl g; reads = m.answers x p _ w ends.1 f }
    which None f g = let y : reply.Value v ≡ reply.Absent = g in absurd (cc)
