-- How a scan hands on the pairs of its row cell by cell: what stays from cell to cell, and what it
-- comes to at the end of the row.
use Rattle.std.proofs.Common.{ℕ, ◌≡◌, ◌⊎◌, inl, inr, ◌<◌, ◌≤◌, ◌++◌, ◌&&◌, nat_le, if◌then◌else◌, suc, Bool, true, false, Option, Some, None, Result, Ok, Err, OnOk, OnErr, is_ok, List, [], ◌∷◌, All, take, length, take_all, refl, sym, ap, ◌∙◌, subst, arith}
use Rattle.std.proofs.lemmas.Bool.{cases_lt}
use Rattle.std.proofs.lemmas.Bool.Decides.{nat_tests}
use Rattle.std.proofs.lemmas.List.{take-append-le}
use Rattle.std.proofs.Math.Seq.{take-length}
use Rattle.kw_cells.specs.declared.cell.Cell.{Cell}
use Rattle.kw_cells.specs.Cells.{pairs_of}
use Rattle.kw_model.specs.Counts.{CountRose}
use Rattle.kw_model.specs.Map.{Pairs}
use Rattle.kw_world.specs.Calls.{last_key}
use Rattle.kw_world.specs.declared.activity.Activity.{Activity}
use Rattle.kw_world.specs.declared.activity.read.Read.TheVariants as Read
use Rattle.kw_world.specs.declared.local.Local.{Local}
use Rattle.kw_table.specs.declared.pass.Pass.{Pass}
use Rattle.kw_table.specs.declared.shared.Shared.{Shared}
use Rattle.kw_follow.specs.Calling.{KeepsCalls}
use Rattle.kw_follow.specs.Cursors.{with_cursor}
use Rattle.kw_follow.specs.Following.{Follows, GoesTo, held}
use Rattle.kw_follow.specs.declared.cursor.Cursor.{Cursor}
use Rattle.kw_follow.proofs.OwnEvents.{goes_trans}
use Rattle.kw_follow.proofs.Reaching.{reaches_none}
use Rattle.kw_live.specs.Streaming.{EndsRow, ReadsCell, Streams}
use Rattle.kw_live.specs.Walking.{WalksFurther}
use Rattle.kw_live.proofs.CellStream.{stream_begins}
use Rattle.kw_map.specs.Gather.{IsBelow, StandsAsBefore, Takes, TakesPrefix, last_key as last_taken}
use Rattle.kw_map.specs.Handing.{HandsOn, IsSettled, more_of, next_low, pair_with}
use Rattle.kw_map.specs.declared.gather.Stop.{Stop}
use Rattle.kw_map.proofs.HandedCells.{none_shown, pairs_on, settled_begins, settled_on}
use Rattle.kw_map.proofs.RowStages.{GathererWords, last_below, rose_later}
use Rattle.kw_map.proofs.TakeLemmas.{IsBelow-le, Takes-append, Takes-kept, takes_nothing}

-- What the gatherer took.

-- it took all pairs, which are below this key, or the first of them, and stopped
pub record HasTaken {S : Type 0} (g : GathererWords S) (old : S) (pairs : Pairs) (low : ℕ) (ended : Result Unit Stop) (new : S) : Type 0 where
  pub below : OnOk ended (IsBelow (g.last new) low)
  pub all : OnOk ended (Takes g.last g.stands old pairs new)
  pub prefix : OnErr ended (TakesPrefix g.last g.stands old pairs new)
  pub stopped : OnErr ended (CountRose (g.stops old) (g.stops new))
  pub never_falls : g.stops old ≤ g.stops new

-- what follows where it did not stop
on_ok : {X E P Q : Type 0} (r : Result X E) → (P → Q) → OnOk r P → OnOk r Q
on_ok (Ok x) f p = f p
on_ok (Err e) f p = tt

-- the pair that a cell adds is below the keys that are not settled then
more_below : (before : Option ℕ) (low version : ℕ) (c : Cell) → IsBelow before low → IsBelow (last_taken before (more_of low version c)) (next_low low version c)
more_below before low version c below = which (nat_le low c.key && nat_le c.version version) refl
  where
    with_value : low ≤ c.key → (value : Option ℕ) → IsBelow (last_taken before (pair_with c.key value)) (suc c.key)
    with_value above None = IsBelow-le before low (suc c.key) (omega (arith, above)) below
    with_value above (Some value) = λ x e. let it : c.key ≡ x = cc in omega arith

    which : (n : Bool) → nat_le low c.key && nat_le c.version version ≡ n → IsBelow (last_taken before (if n then pair_with c.key c.value else [])) (if n then suc c.key else low)
    which false n = below
    which true n = with_value (grind (arith, nat_tests)) c.value

-- the first of some pairs are the first of more
prefix_of_more : {S : Type 0} (last : S → Option ℕ) (stands : S → Pairs → Type 0) (a b : S) (ps qs : Pairs) → TakesPrefix last stands a ps b → TakesPrefix last stands a (ps ++ qs) b
prefix_of_more last stands a b ps qs (n, t) = which (cases_lt n (length ps))
  where
    which : (n < length ps) ⊎ (length ps ≤ n) → TakesPrefix last stands a (ps ++ qs) b
    which (inl u) =
        let same : take n ps ≡ take n (ps ++ qs) = sym (take-append-le n ps qs (omega (arith, u))) in
        (n, subst (λ (x : Pairs). Takes last stands a x b) same t)
    which (inr u) =
        let same : take n ps ≡ take (length ps) (ps ++ qs) = take_all n ps u ∙ sym (take-append-le (length ps) ps qs (omega arith) ∙ take-length ps) in
        (length ps, subst (λ (x : Pairs). Takes last stands a x b) same t)

-- all of some pairs are the first of more
all_of_more : {S : Type 0} (last : S → Option ℕ) (stands : S → Pairs → Type 0) (a b : S) (ps qs : Pairs) → Takes last stands a ps b → TakesPrefix last stands a (ps ++ qs) b
all_of_more last stands a b ps qs t =
    prefix_of_more last stands a b ps qs (length ps, subst (λ (x : Pairs). Takes last stands a x b) (sym (take-length ps)) t)

-- one cell more was handed on, or none any more
pub taken_on : {S : Type 0} (g : GathererWords S) (old mid new : S) (pairs : Pairs) (low version : ℕ) (c : Cell) (ended result : Result Unit Stop) → HasTaken g old pairs low ended mid
    → OnOk result (Takes g.last g.stands mid (more_of low version c) new) → OnErr result (StandsAsBefore g.last g.stands mid new) → OnErr ended (is_ok result ≡ false)
    → OnOk ended (OnErr result (CountRose (g.stops mid) (g.stops new))) → OnErr ended (g.stops new ≡ g.stops mid) → g.stops mid ≤ g.stops new
    → HasTaken g old (pairs ++ more_of low version c) (next_low low version c) result new
taken_on g old mid new pairs low version c (Ok x) (Ok y) h all kept stays stopped still never = record {
  below = subst (λ (o : Option ℕ). IsBelow o (next_low low version c)) (sym all.last_is) (more_below (g.last mid) low version c h.below);
  all = Takes-append g.last g.stands old mid new pairs (more_of low version c) h.all all;
  prefix = tt;
  stopped = tt;
  never_falls = let before = h.never_falls in omega (arith, before, never);
}
taken_on g old mid new pairs low version c (Ok x) (Err e) h all kept stays stopped still never = record {
  below = tt;
  all = tt;
  prefix = all_of_more g.last g.stands old new pairs (more_of low version c) (Takes-kept g.last g.stands old mid new pairs h.all kept);
  stopped = rose_later (g.stops old) (g.stops mid) (g.stops new) h.never_falls stopped;
  never_falls = let before = h.never_falls in omega (arith, before, never);
}
taken_on g old mid new pairs low version c (Err e) (Ok y) h all kept stays stopped still never = absurd (cc)
taken_on g old mid new pairs low version c (Err e) (Err f) h all kept stays stopped still never = record {
  below = tt;
  all = tt;
  prefix =
      let taken = h.prefix in
      prefix_of_more g.last g.stands old new pairs (more_of low version c) (taken.0, Takes-kept g.last g.stands old mid new (take taken.0 pairs) taken.1 kept);
  stopped = subst (λ n. CountRose (g.stops old) n) (sym still) h.stopped;
  never_falls = let before = h.never_falls in omega (arith, before, never);
}

-- Along the list.

-- what stays while the cells of a row are handed on
pub record IsHandingOn {S : Type 0} (g : GathererWords S) (s : Shared) (o : Pass) (l : Local) (old : S) (p : Pass) (k : Local) (w : Cursor) (low : ℕ) (ended : Result Unit Stop) (new : S) : Type 0 where
  pub cells : List Cell
  pub same : k ≡ l
  pub goes : GoesTo s o p
  pub calls : KeepsCalls o p
  pub held : held p ≡ held o
  pub streams : Streams s p k w cells
  pub settled : IsSettled cells l.want l.version low
  pub took : HasTaken g old (pairs_of cells l.want (last_key l.call) l.version) low ended new

-- at first no cell was read
pub handed_begins : {S : Type 0} (g : GathererWords S) (s : Shared) (p : Pass) (l : Local) (into : S) (w : Cursor) (low : ℕ) → Follows s p l → l.activity ≡ Activity.Read Read.Start → l.gathered ≡ [] → with_cursor l.activity w l ≡ l → low ≡ l.want → IsBelow (g.last into) l.want → IsHandingOn g s p l into p l w low (Ok tt) into
handed_begins g s p l into w low f at none own wanted above = record {
  cells = [];
  same = refl;
  goes = (reaches_none f).goes;
  calls = refl;
  held = refl;
  streams = stream_begins f at none own;
  settled = subst (IsSettled [] l.want l.version) (sym wanted) (settled_begins l.want (last_key l.call) l.version);
  took = record {
    below = subst (IsBelow (g.last into)) (sym wanted) above;
    all = subst (λ (ps : Pairs). Takes g.last g.stands into ps into) (sym (none_shown l.want (last_key l.call) l.version)) (takes_nothing g.last g.stands into);
    prefix = tt;
    stopped = tt;
    never_falls = omega arith;
  };
}

module _ {S : Type 0} (g : GathererWords S) {s : Shared} {o p q : Pass} {l k n : Local} {old mid : S} {w : Cursor} {low : ℕ} {ended : Result Unit Stop} (i : IsHandingOn g s o l old p k w low ended mid) where
  -- a cell more was read, and its pair handed on
  pub handed_on : (new : S) (c : Cell) (x : Cursor) (next version : ℕ) (result : Result Unit Stop) → (n ≡ k) × ReadsCell s p k w i.cells q c x → version ≡ l.version → next ≡ next_low low version c
      → OnOk result (Takes g.last g.stands mid (more_of low version c) new) → OnErr result (StandsAsBefore g.last g.stands mid new) → OnErr ended (is_ok result ≡ false)
      → OnOk ended (OnErr result (CountRose (g.stops mid) (g.stops new))) → OnErr ended (g.stops new ≡ g.stops mid) → g.stops mid ≤ g.stops new
      → IsHandingOn g s o l old q n x next result new
  handed_on new c x next version result (stays, read) drawn lower all kept ends stopped still never =
      let within : c.key ≤ last_key l.call = subst (λ (m : Local). c.key ≤ last_key m.call) i.same read.upto in
      let at : next ≡ next_low low l.version c = lower ∙ ap (λ v. next_low low v c) drawn in
      let longer : pairs_of (i.cells ++ c ∷ []) l.want (last_key l.call) l.version ≡ pairs_of i.cells l.want (last_key l.call) l.version ++ more_of low l.version c = pairs_on c i.cells l.want (last_key l.call) l.version low read.behind within i.settled in
      record {
        cells = i.cells ++ c ∷ [];
        same = stays ∙ i.same;
        goes = goes_trans _ _ _ _ i.goes read.goes;
        calls = read.calls ∙ i.calls;
        held = read.held ∙ i.held;
        streams = subst (λ (m : Local). Streams s q m x (i.cells ++ c ∷ [])) (sym stays) read.streams;
        settled = subst (λ m. IsSettled (i.cells ++ c ∷ []) l.want l.version m) (sym at) (settled_on c i.cells l.want l.version low read.behind i.settled);
        took = subst (λ m. HasTaken g old (pairs_of (i.cells ++ c ∷ []) l.want (last_key l.call) l.version) m result new) (sym at)
            (subst (λ (ps : Pairs). HasTaken g old ps (next_low low l.version c) result new) (sym longer)
            (taken_on g old mid new (pairs_of i.cells l.want (last_key l.call) l.version) low l.version c ended result i.took (subst (λ v. OnOk result (Takes g.last g.stands mid (more_of low v c) new)) drawn all) kept ends stopped still never));
      }

  -- the row was read, and the scan walked to the next one
  pub handed_ends : {r : Pass} {m : Local} → EndsRow s p k i.cells q n → WalksFurther s q n r m → IsBelow (g.last old) l.want → HandsOn g.last g.stands g.stops o l old r m mid ended
  handed_ends {r} {m} ends on above =
      let wanted : k.want ≡ l.want = ap (λ (x : Local). x.want) i.same in
      let pairs_same : pairs_of i.cells k.want (last_key k.call) k.version ≡ pairs_of i.cells l.want (last_key l.call) l.version = ap (λ (x : Local). pairs_of i.cells x.want (last_key x.call) x.version) i.same in
      let rises : l.want ≤ m.want = omega (arith, wanted, ends.goes_on.rises, on.walks.want) in
      let under : All (λ pair. pair.0 < m.want) (pairs_of i.cells l.want (last_key l.call) l.version) =
      subst (λ (ps : Pairs). All (λ pair. pair.0 < m.want) ps) pairs_same (subst (λ v. All (λ pair. pair.0 < v) (pairs_of i.cells k.want (last_key k.call) k.version)) (sym on.walks.want) ends.goes_on.above) in
      record {
        calls = on.calls ∙ (ends.calls ∙ i.calls);
        call = on.walks.call ∙ (ends.call ∙ ap (λ (x : Local). x.call) i.same);
        version = on.walks.version ∙ (ends.version ∙ ap (λ (x : Local). x.version) i.same);
        rises = rises;
        pairs = pairs_of i.cells l.want (last_key l.call) l.version;
        held = on.held ∙ (ends.held ∙ (ap (λ (ps : Pairs). ps ++ pairs_of i.cells k.want (last_key k.call) k.version) i.held ∙ ap (λ (ps : Pairs). held o ++ ps) pairs_same));
        all = i.took.all;
        below = on_ok ended (λ t. subst (λ (x : Option ℕ). IsBelow x m.want) (sym t.last_is) (last_below (g.last old) (pairs_of i.cells l.want (last_key l.call) l.version) m.want (IsBelow-le (g.last old) l.want m.want rises above) under)) i.took.all;
        prefix = i.took.prefix;
        stopped = i.took.stopped;
        never_falls = i.took.never_falls;
      }
