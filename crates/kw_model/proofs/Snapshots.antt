-- What calls leave of the map and of the snapshots: the map goes as without snapshots, and what a
-- seat holds is decided by its last pin or unpin that was accepted.
use Rattle.std.proofs.Common.{ℕ, Bool, true, false, ◌≡◌, ◌≢◌, Option, Some, None, refl, sym, ap, ◌∙◌, cond, eqb, ◌&&◌, arith}
use Rattle.std.proofs.lemmas.Bool.Decides.{nat_tests}
use Rattle.std.specs.Ordering.{nat_cmp, eq_by_cmp}
use Rattle.std.specs.Cmp.{nat_cmp_total}
use Rattle.std.specs.FinMap as seats
use Rattle.kw_model.specs.Map.{Pairs, after}
use Rattle.kw_model.specs.Legal.{may_refuse, went}
use Rattle.kw_model.specs.Snapshots.{State, empty, snapshot_of, pinned, pin_answer, unpin_answer, state_after}
use Rattle.kw_model.specs.LegalFor.{IsRightFor, state_went, is_change, is_pin}
use Rattle.kw_model.specs.declared.call.Call.{Call}
use Rattle.kw_model.specs.declared.call.Call.TheVariants.{Put, Del, Get, Scan, Pin, ScanAt, Unpin}
use Rattle.kw_model.specs.declared.call.Reply.{Reply}
use Rattle.kw_model.specs.declared.call.Reply.TheVariants as reply

-- a pin leaves the map
map-pinned : (s : ℕ) (t : State) (o : Option Pairs) → (pinned s t o).map ≡ t.map
map-pinned s t None = refl
map-pinned s t (Some m) = refl

-- the map after a call is that of the map alone
pub map-after : (t : State) (s : ℕ) (c : Call) → (state_after t s c).map ≡ after t.map c
map-after t s (Put k v) = refl
map-after t s (Del k) = refl
map-after t s (Get k) = refl
map-after t s (Scan a b) = refl
map-after t s Pin = map-pinned s t (snapshot_of s t)
map-after t s (ScanAt a b) = refl
map-after t s Unpin = refl

-- also with its reply, which may be a refusal
pub map-went : (t : State) (s : ℕ) (c : Call) (r : Reply) → (state_went t s c r).map ≡ went t.map c r
map-went t s c r = go (may_refuse c r)
  where
    go : (b : Bool) → (cond b t (state_after t s c)).map ≡ cond b t.map (after t.map c)
    go true = refl
    go false = map-after t s c

-- whether a seat is another one, as seats are looked up
seat_test : (q s : ℕ) → eq_by_cmp nat_cmp q s ≡ eqb s q
seat_test q s = grind (arith, nat_tests)

-- what seats hold after one of them pinned the map and held nothing
snapshot-pinned : (s q : ℕ) (t : State) → snapshot_of q (pinned s t None) ≡ cond (eqb s q) (Some t.map) (snapshot_of q t)
snapshot-pinned s q t = seats.get-insert nat_cmp_total t.pins s t.map q ∙ ap (λ b. cond b (Some t.map) (snapshot_of q t)) (seat_test q s)

-- what seats hold after one of them gave its snapshot back
snapshot-unpinned : (s q : ℕ) (t : State) → snapshot_of q (state_after t s Unpin) ≡ cond (eqb s q) None (snapshot_of q t)
snapshot-unpinned s q t = seats.get-remove nat_cmp_total t.pins s q ∙ ap (λ b. cond b None (snapshot_of q t)) (seat_test q s)

-- what a call leaves to a seat: the map as it stands where it is a pin that was accepted
abbrev pub left_by : State → Call → Option Pairs
left_by t c = cond (is_pin c) (Some t.map) None

-- a pin that was not accepted leaves what seats hold
not_pinned : (s q : ℕ) (t : State) (r : Reply) (o : Option Pairs) → r ≢ reply.Done → r ≡ pin_answer o → snapshot_of q (pinned s t o) ≡ snapshot_of q t
not_pinned s q t r None n e = absurd (n e)
not_pinned s q t r (Some m) n e = refl

-- one that was accepted found nothing held
was_pinned : (s q : ℕ) (t : State) (o : Option Pairs) → reply.Done ≡ pin_answer o → snapshot_of q (pinned s t o) ≡ cond (eqb s q) (Some t.map) (snapshot_of q t)
was_pinned s q t None e = snapshot-pinned s q t
was_pinned s q t (Some m) e = cc

-- an unpin that was not accepted found nothing held, and leaves that
not_unpinned : (s q : ℕ) (t : State) (r : Reply) → r ≢ reply.Done → r ≡ unpin_answer (snapshot_of s t) → snapshot_of q (state_after t s Unpin) ≡ snapshot_of q t
not_unpinned s q t r n e = snapshot-unpinned s q t ∙ go (snapshot_of s t) refl e
  where
    go : (o : Option Pairs) → snapshot_of s t ≡ o → r ≡ unpin_answer o → cond (eqb s q) None (snapshot_of q t) ≡ snapshot_of q t
    go None held e = at (eqb s q) refl
      where
        at : (b : Bool) → eqb s q ≡ b → cond b None (snapshot_of q t) ≡ snapshot_of q t
        at true i = let same : s ≡ q = grind (arith, nat_tests) in sym held ∙ ap (λ p. snapshot_of p t) same
        at false i = refl
    go (Some m) held e = absurd (n e)

-- what a seat holds after a call with its right reply
pub snapshot-went : (q : ℕ) (t : State) (s : ℕ) (c : Call) (r : Reply) → IsRightFor t s c r → snapshot_of q (state_went t s c r) ≡ cond (is_change c r && eqb s q) (left_by t c) (snapshot_of q t)
snapshot-went q t s (Put k v) r h = go (may_refuse (Put k v) r)
  where
    go : (b : Bool) → snapshot_of q (cond b t (state_after t s (Put k v))) ≡ snapshot_of q t
    go true = refl
    go false = refl
snapshot-went q t s (Del k) r h = go (may_refuse (Del k) r)
  where
    go : (b : Bool) → snapshot_of q (cond b t (state_after t s (Del k))) ≡ snapshot_of q t
    go true = refl
    go false = refl
snapshot-went q t s (Get k) r h = refl
snapshot-went q t s (Scan a b) r h = go (may_refuse (Scan a b) r)
  where
    go : (b : Bool) → snapshot_of q (cond b t t) ≡ snapshot_of q t
    go true = refl
    go false = refl
snapshot-went q t s Pin reply.Done h = was_pinned s q t (snapshot_of s t) h
snapshot-went q t s Pin reply.Spent h = refl
snapshot-went q t s Pin (reply.Value v) h = not_pinned s q t (reply.Value v) (snapshot_of s t) (λ e. cc) h
snapshot-went q t s Pin reply.Absent h = not_pinned s q t reply.Absent (snapshot_of s t) (λ e. cc) h
snapshot-went q t s Pin (reply.Pairs m) h = not_pinned s q t (reply.Pairs m) (snapshot_of s t) (λ e. cc) h
snapshot-went q t s Pin reply.NoRows h = not_pinned s q t reply.NoRows (snapshot_of s t) (λ e. cc) h
snapshot-went q t s Pin reply.Stopped h = not_pinned s q t reply.Stopped (snapshot_of s t) (λ e. cc) h
snapshot-went q t s Pin reply.Held h = not_pinned s q t reply.Held (snapshot_of s t) (λ e. cc) h
snapshot-went q t s Pin reply.NotPinned h = not_pinned s q t reply.NotPinned (snapshot_of s t) (λ e. cc) h
snapshot-went q t s (ScanAt a b) r h = go (may_refuse (ScanAt a b) r)
  where
    go : (b : Bool) → snapshot_of q (cond b t t) ≡ snapshot_of q t
    go true = refl
    go false = refl
snapshot-went q t s Unpin reply.Done h = snapshot-unpinned s q t
snapshot-went q t s Unpin reply.Spent h = not_unpinned s q t reply.Spent (λ e. cc) h
snapshot-went q t s Unpin (reply.Value v) h = not_unpinned s q t (reply.Value v) (λ e. cc) h
snapshot-went q t s Unpin reply.Absent h = not_unpinned s q t reply.Absent (λ e. cc) h
snapshot-went q t s Unpin (reply.Pairs m) h = not_unpinned s q t (reply.Pairs m) (λ e. cc) h
snapshot-went q t s Unpin reply.NoRows h = not_unpinned s q t reply.NoRows (λ e. cc) h
snapshot-went q t s Unpin reply.Stopped h = not_unpinned s q t reply.Stopped (λ e. cc) h
snapshot-went q t s Unpin reply.Held h = not_unpinned s q t reply.Held (λ e. cc) h
snapshot-went q t s Unpin reply.NotPinned h = not_unpinned s q t reply.NotPinned (λ e. cc) h

-- nobody holds a snapshot at the start
pub snapshot-empty : (q : ℕ) → snapshot_of q empty ≡ None
snapshot-empty q = seats.get-empty nat_cmp q
