-- The events of a reader whose cursor goes along the list of its row: what follows it after each,
-- and what they come to.
use Rattle.std.proofs.Common.{arith, ◌≡◌, ℕ, ◌<◌, ◌≤◌, Some, unwrap_or, Bool, true, false, nat_lt, nat_le, if◌then◌else◌, Option, None, List, refl, sym, ◌∙◌, ap, subst, length}
use Rattle.kw_model.specs.declared.call.Call.{Call}
use Rattle.kw_words.specs.Plain.{key_of_word, value_of_word, version_of_word, cell_of_link_word}
use Rattle.kw_words.specs.declared.sizes.TheConstants.{CELLS}
use Rattle.kw_world.specs.declared.activity.Activity.{Activity}
use Rattle.kw_world.specs.declared.activity.read.Read.TheVariants as Read
use Rattle.kw_world.specs.declared.local.Local.{Local}
use Rattle.kw_world.specs.Calls.{first_key, last_key}
use Rattle.kw_world.specs.ReadTransitions.{list_key, list_reached, list_past, to_left_over}
use Rattle.kw_world.specs.Sizes.{product}
use Rattle.kw_world.specs.Transition.{Outcome, to}
use Rattle.kw_core.specs.Stages.{IsAtReadLink}
use Rattle.kw_table.specs.declared.pass.Pass.{Pass}
use Rattle.kw_table.specs.declared.shared.Shared.{Shared}
use Rattle.kw_follow.specs.declared.cursor.Cursor.{Cursor}
use Rattle.kw_follow.specs.Calling.{KeepsCalls}
use Rattle.kw_follow.specs.Cursors.{ReadsWord, forgetting, gathering_at, past, reached, with_cursor}
use Rattle.kw_follow.specs.Following.{CarriesOn, Follows, GoesTo, carried, held}
use Rattle.kw_table.specs.Passes.{view}
use Rattle.kw_follow.proofs.OwnEvents.{goes_trans}
use Rattle.kw_follow.proofs.ReadEvents.{gone_by_on, link_line, read_follows}
use Rattle.kw_live.specs.Beginning.{BeginsList}
use Rattle.kw_live.specs.Reading.{ReadsOn, is_reading_list, read_ahead, reads_ahead}
use Rattle.kw_live.proofs.AfterList.{left_over_any}
use Rattle.kw_live.proofs.ReadEvent.{link_counts, reads, reads_on, reads_trans}

-- One event.

module _ {s : Shared} {p q : Pass} {l m : Local} {told : ℕ} where
  -- it is a reading
  pub one_word : Follows s p l → ReadsWord s p l told q → Follows s q m → is_reading_list l.activity ≡ true → ReadsOn s p l q m
  one_word f word after reading =
      let read = reads s p q l m told f word.goes after word.seat word.saw reading in
      record {
        goes = word.goes;
        follows = after;
        calls = word.calls;
        call = read.call;
        version = read.version;
        on = read.on;
        ends = read.ends;
        fewer = read.fewer;
      }

-- at a link it reads the row
link_reading : (a : Activity) → IsAtReadLink a → is_reading_list a ≡ true
link_reading (Activity.Read _) at = refl
link_reading _ at = absurd at

module _ {s : Shared} {p q : Pass} {told : ℕ} (l : Local) (w : Cursor) (a : Activity) (at : IsAtReadLink a) where
  -- a walk that is led to a cell has reached fewer cells than there are
  pub cell_counts : (cell : ℕ) → cell_of_link_word told ≡ Some cell → ReadsWord s p (with_cursor a w l) told q → w.walked < CELLS
  cell_counts cell leads word = link_counts s p q (with_cursor a w l) told word.goes word.saw at cell leads

  -- the link led to a cell
  pub link_led : (x : Cursor) (m : Local) (cell : ℕ) → x ≡ reached cell w → m ≡ forgetting cell l → cell_of_link_word told ≡ Some cell → Follows s p (with_cursor a w l) → ReadsWord s p (with_cursor a w l) told q → ReadsOn s p (with_cursor a w l) q (with_cursor (Activity.Read Read.Key) x m)
  link_led x m cell is left leads f word =
      let k : ℕ → List (ℕ × ℕ) → Local = λ begun added. record (with_cursor a w l) { number = begun; pairs = added } in
      let after : Follows s q (with_cursor (Activity.Read Read.Key) (reached cell w) (forgetting cell l)) =
      read_follows s p q (with_cursor a w l) (with_cursor (Activity.Read Read.Key) (reached cell w) (forgetting cell l)) told a f word.makes refl (record {
        carries = λ begun added. ap (λ o. carried (list_reached product o (k begun added)).local) (sym leads) ∙ ap (λ (o : Outcome). carried o.local) (sym (link_line a (k begun added) (view p).opening.rows told at));
        number = refl;
        pairs = refl;
      })
      in
      subst (λ (y : Cursor). ReadsOn s p (with_cursor a w l) q (with_cursor (Activity.Read Read.Key) y m)) (sym is)
      (subst (λ (n : Local). ReadsOn s p (with_cursor a w l) q (with_cursor (Activity.Read Read.Key) (reached cell w) n)) (sym left) (one_word f word after (link_reading a at)))

  -- it led to none: the walk is over
  pub link_ended : (k m : Local) → k ≡ with_cursor (Activity.Read Read.Link) w l → cell_of_link_word told ≡ None → CarriesOn to_left_over k m → Follows s p (with_cursor a w l) → ReadsWord s p (with_cursor a w l) told q → ReadsOn s p (with_cursor a w l) q m
  link_ended k m written none on f word =
      let x : ℕ → List (ℕ × ℕ) → Local = λ begun added. record (with_cursor a w l) { number = begun; pairs = added } in
      let own : CarriesOn to_left_over (with_cursor (Activity.Read Read.Link) w l) m = subst (λ (n : Local). CarriesOn to_left_over n m) written on in
      let after : Follows s q m =
      read_follows s p q (with_cursor a w l) m told a f word.makes refl (record {
        carries = λ begun added.
            own.carries begun added
            ∙ (ap (λ (o : Outcome). carried o.local) (left_over_any (Activity.Read Read.Link) (x begun added))
            ∙ (ap (λ o. carried (list_reached product o (x begun added)).local) (sym none)
            ∙ ap (λ (o : Outcome). carried o.local) (sym (link_line a (x begun added) (view p).opening.rows told at))));
        number = own.number;
        pairs = own.pairs;
      })
      in
      one_word f word after (link_reading a at)

module _ {s : Shared} {p q : Pass} {told : ℕ} (l : Local) (w : Cursor) where
  -- the key of the cell is below the range: it is gone by
  pub key_below : (x : Cursor) → x ≡ past w → key_of_word told < first_key l.call → Follows s p (with_cursor (Activity.Read Read.Key) w l) → ReadsWord s p (with_cursor (Activity.Read Read.Key) w l) told q → ReadsOn s p (with_cursor (Activity.Read Read.Key) w l) q (with_cursor (Activity.Read Read.Link) x l)
  key_below x is below f word =
      let after : Follows s q (with_cursor (Activity.Read Read.Link) (past w) l) =
      read_follows s p q (with_cursor (Activity.Read Read.Key) w l) (with_cursor (Activity.Read Read.Link) (past w) l) told (Activity.Read Read.Key) f word.makes refl
      (gone_by_on (key_of_word told) (with_cursor (Activity.Read Read.Key) w l) (with_cursor (Activity.Read Read.Link) (past w) l) below (record { carries = λ begun added. refl; number = refl; pairs = refl }))
      in
      subst (λ (y : Cursor). ReadsOn s p (with_cursor (Activity.Read Read.Key) w l) q (with_cursor (Activity.Read Read.Link) y l)) (sym is) (one_word f word after refl)

  -- it is in the range: the cell is read on
  pub key_within : (x : Cursor) (key : ℕ) → x ≡ record w { key = key } → key ≡ key_of_word told → first_key l.call ≤ key → key ≤ last_key l.call → Follows s p (with_cursor (Activity.Read Read.Key) w l) → ReadsWord s p (with_cursor (Activity.Read Read.Key) w l) told q → ReadsOn s p (with_cursor (Activity.Read Read.Key) w l) q (with_cursor (Activity.Read Read.Version) x l)
  key_within x key is keyed from upto f word =
      let k : ℕ → List (ℕ × ℕ) → Local = λ begun added. record (with_cursor (Activity.Read Read.Key) w l) { number = begun; pairs = added } in
      let above : nat_lt key (first_key l.call) ≡ false = grind (arith) in
      let within : nat_le key (last_key l.call) ≡ true = grind (arith) in
      let after : Follows s q (with_cursor (Activity.Read Read.Version) (record w { key = key }) l) =
      read_follows s p q (with_cursor (Activity.Read Read.Key) w l) (with_cursor (Activity.Read Read.Version) (record w { key = key }) l) told (Activity.Read Read.Key) f word.makes refl (record {
        carries = λ begun added.
            ap (λ (b : Bool). carried (if b then to (Activity.Read Read.Version) (record (k begun added) { place_key = key }) else to_left_over (k begun added)).local) (sym within)
            ∙ (ap (λ (b : Bool). carried (if b then list_past (k begun added) else if nat_le key (last_key l.call) then to (Activity.Read Read.Version) (record (k begun added) { place_key = key }) else to_left_over (k begun added)).local) (sym above)
            ∙ ap (λ n. carried (list_key n (k begun added)).local) keyed);
        number = refl;
        pairs = refl;
      })
      in
      subst (λ (y : Cursor). ReadsOn s p (with_cursor (Activity.Read Read.Key) w l) q (with_cursor (Activity.Read Read.Version) y l)) (sym is) (one_word f word after refl)

  -- it is above the range: the walk is over
  pub key_above : (k m : Local) (key : ℕ) → k ≡ with_cursor (Activity.Read Read.Key) w l → key ≡ key_of_word told → first_key l.call ≤ key → last_key l.call < key → CarriesOn to_left_over k m → Follows s p (with_cursor (Activity.Read Read.Key) w l) → ReadsWord s p (with_cursor (Activity.Read Read.Key) w l) told q → ReadsOn s p (with_cursor (Activity.Read Read.Key) w l) q m
  key_above k m key written keyed from upto on f word =
      let x : ℕ → List (ℕ × ℕ) → Local = λ begun added. record (with_cursor (Activity.Read Read.Key) w l) { number = begun; pairs = added } in
      let own : CarriesOn to_left_over (with_cursor (Activity.Read Read.Key) w l) m = subst (λ (n : Local). CarriesOn to_left_over n m) written on in
      let above : nat_lt key (first_key l.call) ≡ false = grind (arith) in
      let beyond : nat_le key (last_key l.call) ≡ false = grind (arith) in
      let after : Follows s q m =
      read_follows s p q (with_cursor (Activity.Read Read.Key) w l) m told (Activity.Read Read.Key) f word.makes refl (record {
        carries = λ begun added.
            own.carries begun added
            ∙ (ap (λ (b : Bool). carried (if b then to (Activity.Read Read.Version) (record (x begun added) { place_key = key }) else to_left_over (x begun added)).local) (sym beyond)
            ∙ (ap (λ (b : Bool). carried (if b then list_past (x begun added) else if nat_le key (last_key l.call) then to (Activity.Read Read.Version) (record (x begun added) { place_key = key }) else to_left_over (x begun added)).local) (sym above)
            ∙ ap (λ n. carried (list_key n (x begun added)).local) keyed));
        number = own.number;
        pairs = own.pairs;
      })
      in
      one_word f word after refl

  -- its version was told
  pub version_told : (x : Cursor) → x ≡ record w { version = unwrap_or (version_of_word told) 1 } → Follows s p (with_cursor (Activity.Read Read.Version) w l) → ReadsWord s p (with_cursor (Activity.Read Read.Version) w l) told q → ReadsOn s p (with_cursor (Activity.Read Read.Version) w l) q (with_cursor (Activity.Read Read.Value) x l)
  version_told x is f word =
      let after : Follows s q (with_cursor (Activity.Read Read.Value) (record w { version = unwrap_or (version_of_word told) 1 }) l) =
      read_follows s p q (with_cursor (Activity.Read Read.Version) w l) _ told (Activity.Read Read.Version) f word.makes refl (record { carries = λ begun added. refl; number = refl; pairs = refl })
      in
      subst (λ (y : Cursor). ReadsOn s p (with_cursor (Activity.Read Read.Version) w l) q (with_cursor (Activity.Read Read.Value) y l)) (sym is) (one_word f word after refl)

  -- its value was told: the cell is gathered, and gone by
  pub value_told : (x : Cursor) (m : Local) → x ≡ past w → m ≡ gathering_at w (value_of_word told) l → Follows s p (with_cursor (Activity.Read Read.Value) w l) → ReadsWord s p (with_cursor (Activity.Read Read.Value) w l) told q → ReadsOn s p (with_cursor (Activity.Read Read.Value) w l) q (with_cursor (Activity.Read Read.Link) x m)
  value_told x m is put f word =
      let after : Follows s q (with_cursor (Activity.Read Read.Link) (past w) (gathering_at w (value_of_word told) l)) =
      read_follows s p q (with_cursor (Activity.Read Read.Value) w l) _ told (Activity.Read Read.Value) f word.makes refl (record { carries = λ begun added. refl; number = refl; pairs = refl })
      in
      subst (λ (y : Cursor). ReadsOn s p (with_cursor (Activity.Read Read.Value) w l) q (with_cursor (Activity.Read Read.Link) y m)) (sym is)
      (subst (λ (n : Local). ReadsOn s p (with_cursor (Activity.Read Read.Value) w l) q (with_cursor (Activity.Read Read.Link) (past w) n)) (sym put) (one_word f word after refl))

-- Both events of a reader that reaches a cell.

module _ {s : Shared} {p q r : Pass} {link word : ℕ} (l m : Local) (w x : Cursor) (a : Activity) (at : IsAtReadLink a) (cell : ℕ) (is : x ≡ reached cell w) (left : m ≡ forgetting cell l) (leads : cell_of_link_word link ≡ Some cell) (f : Follows s p (with_cursor a w l)) (first : Follows s p (with_cursor a w l) → ReadsWord s p (with_cursor a w l) link q) (second : Follows s q (with_cursor (Activity.Read Read.Key) x m) → ReadsWord s q (with_cursor (Activity.Read Read.Key) x m) word r) where
  led : ReadsOn s p (with_cursor a w l) q (with_cursor (Activity.Read Read.Key) x m)
  led = link_led l w a at x m cell is left leads f (first f)

  -- the bounds of the call stay
  bound_stays : (bound_of : Option Call → ℕ) (bound : ℕ) (call : Option Call) → bound ≡ bound_of call → l.call ≡ call → bound ≡ bound_of m.call
  bound_stays bound_of bound call has same = has ∙ ap bound_of (sym (ap (λ (k : Local). k.call) left ∙ same))

  pub cell_gone_by : (y : Cursor) (key from : ℕ) (call : Option Call) → y ≡ past x → key ≡ key_of_word word → from ≡ first_key call → l.call ≡ call → key < from → ReadsOn s p (with_cursor a w l) r (with_cursor (Activity.Read Read.Link) y m)
  cell_gone_by y key from call passes keyed has same below =
      let under : key_of_word word < first_key m.call = subst (λ n. n < first_key m.call) keyed (subst (λ n. key < n) (bound_stays first_key from call has same) below) in
      reads_trans s p q r _ _ _ refl led (key_below m x y passes under led.follows (second led.follows))

  pub cell_within : (y : Cursor) (key from upto : ℕ) (call : Option Call) → y ≡ record x { key = key } → key ≡ key_of_word word → from ≡ first_key call → upto ≡ last_key call → l.call ≡ call → from ≤ key → key ≤ upto → ReadsOn s p (with_cursor a w l) r (with_cursor (Activity.Read Read.Version) y m)
  cell_within y key from upto call holds keyed begins ends same above below =
      let over : first_key m.call ≤ key = subst (λ n. n ≤ key) (bound_stays first_key from call begins same) above in
      let under : key ≤ last_key m.call = subst (λ n. key ≤ n) (bound_stays last_key upto call ends same) below in
      reads_trans s p q r _ _ _ refl led (key_within m x y key holds keyed over under led.follows (second led.follows))

  pub cell_above : (k n : Local) (key from upto : ℕ) (call : Option Call) → k ≡ with_cursor (Activity.Read Read.Key) x m → key ≡ key_of_word word → from ≡ first_key call → upto ≡ last_key call → l.call ≡ call → from ≤ key → upto < key → CarriesOn to_left_over k n → ReadsOn s p (with_cursor a w l) r n
  cell_above k n key from upto call written keyed begins ends same above beyond on =
      let over : first_key m.call ≤ key = subst (λ n. n ≤ key) (bound_stays first_key from call begins same) above in
      let under : last_key m.call < key = subst (λ n. n < key) (bound_stays last_key upto call ends same) beyond in
      reads_trans s p q r _ _ _ refl led (key_above m x k n key written keyed over under on led.follows (second led.follows))

-- how many events are ahead is the same where the walk begins as at its link
pub link_ahead : (a : Activity) (walked marks : ℕ) → IsAtReadLink a → read_ahead product a walked marks ≡ read_ahead product (Activity.Read Read.Link) walked marks
link_ahead (Activity.Read Read.Start) walked marks at = refl
link_ahead (Activity.Read Read.Link) walked marks at = refl
link_ahead _ walked marks at = absurd at

-- What stays while a cursor goes along the list.

pub record IsListing (s : Shared) (o : Pass) (l : Local) (p : Pass) (m : Local) : Type 0 where
  pub goes : GoesTo s o p
  pub follows : Follows s p m
  pub calls : KeepsCalls o p
  pub call : m.call ≡ l.call
  pub version : m.version ≡ l.version
  pub want : m.want ≡ l.want
  pub held : held p ≡ held o
  pub fewer : reads_ahead m ≤ reads_ahead l

module _ {s : Shared} {o p q : Pass} {l m n : Local} (before : IsListing s o l p m) (more : ReadsOn s p m q n) where
  -- one reading more, after which the cursor is still in the list
  pub lists_on : is_reading_list n.activity ≡ true → IsListing s o l q n
  lists_on reading =
      let on = more.on reading in
      record {
        goes = goes_trans s o p q before.goes more.goes;
        follows = more.follows;
        calls = more.calls ∙ before.calls;
        call = more.call ∙ before.call;
        version = more.version ∙ before.version;
        want = on.0 ∙ before.want;
        held = on.1 ∙ before.held;
        fewer = omega (arith, before.fewer, more.fewer);
      }

  -- one reading more, with which the walk is over
  pub lists_to : ReadsOn s o l q n
  lists_to = record {
    goes = goes_trans s o p q before.goes more.goes;
    follows = more.follows;
    calls = more.calls ∙ before.calls;
    call = more.call ∙ before.call;
    version = more.version ∙ before.version;
    on = λ e. let on = more.on e in (on.0 ∙ before.want, on.1 ∙ before.held);
    ends = λ e. reads_on l m n _ _ _ before.call before.version before.want before.held (more.ends e);
    fewer = omega (arith, before.fewer, more.fewer);
  }

-- a reader that begins a walk along the list, or has begun it, with its cursor here
pub record IsAlong (s : Shared) (o : Pass) (l : Local) (p : Pass) (w : Cursor) (m : Local) : Type 0 where
  pub activity : Activity
  pub loads : IsAtReadLink activity
  pub lists : IsListing s o l p (with_cursor activity w m)

-- as it is once the walk has begun
pub begins_along : {s : Shared} {p q : Pass} {l : Local} {w x : Cursor} → Follows s p l → l.activity ≡ Activity.Read Read.Start → with_cursor l.activity w l ≡ l → BeginsList s p l w q x → IsAlong s p l q x l
begins_along {s} {p} {q} {l} {w} {x} f is own b = record {
  activity = b.activity;
  loads = b.loads;
  lists = record {
    goes = b.goes;
    follows = b.follows;
    calls = b.calls;
    call = refl;
    version = refl;
    want = refl;
    held = b.held;
    fewer =
        let walked : x.walked ≡ l.walked = b.walked ∙ ap (λ (k : Local). k.walked) own in
        let ahead : reads_ahead (with_cursor b.activity x l) ≡ reads_ahead l = link_ahead b.activity x.walked (length l.remembered) b.loads ∙ (ap (λ n. read_ahead product (Activity.Read Read.Link) n (length l.remembered)) walked ∙ ap (λ (a : Activity). read_ahead product a l.walked (length l.remembered)) (sym is)) in
        omega (arith, ahead);
  };
}

module _ {s : Shared} {o p q : Pass} {l m : Local} (n : Local) {w x : Cursor} (before : IsAlong s o l p w m) (more : ReadsOn s p (with_cursor before.activity w m) q (with_cursor (Activity.Read Read.Link) x n)) where
  -- the walk is further
  pub along_on : IsAlong s o l q x n
  along_on = record { activity = Activity.Read Read.Link; loads = tt; lists = lists_on before.lists more refl }

  -- and has fewer events ahead
  pub along_fewer : reads_ahead (with_cursor (Activity.Read Read.Link) x n) < reads_ahead (with_cursor (Activity.Read Read.Link) w m)
  along_fewer = subst (λ k. reads_ahead (with_cursor (Activity.Read Read.Link) x n) < k) (link_ahead before.activity w.walked (length m.remembered) before.loads) more.fewer
