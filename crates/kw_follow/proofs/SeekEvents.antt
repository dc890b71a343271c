-- The events of a search that goes by over rows in use: what each asks for, and what follows.
use Rattle.std.proofs.Common.{arith, ◌≡◌, ◌∙◌, ◌<◌, ℕ, Bool, true, false, nat_lt, if◌then◌else◌, Option, Some, None, refl, sym, ap, subst}
use Rattle.std.proofs.lemmas.Bool.Decides.{nat_tests}
use Rattle.kw_words.specs.declared.state.State.{State}
use Rattle.kw_words.specs.declared.state.State.TheVariants.{Free, Infant, Normal, Leader, Follower, Retired}
use Rattle.kw_words.specs.State.{state_of}
use Rattle.kw_words.specs.declared.sizes.TheConstants.{MOST_SEATS, SEATS}
use Rattle.kw_world.specs.declared.activity.Activity.{Activity}
use Rattle.kw_world.specs.declared.activity.rebalance.Rebalance.TheVariants as Rebalance
use Rattle.kw_world.specs.declared.activity.rebalance.seek.Seek.TheVariants as Seek
use Rattle.kw_world.specs.declared.event.Choice.TheVariants.{Go}
use Rattle.kw_world.specs.declared.local.Local.{Local}
use Rattle.kw_world.specs.declared.rebalance.Afterwards.TheVariants.{Refuse}
use Rattle.kw_world.specs.SeekTransitions.{give_back, seek_seen, to_pass, to_seek}
use Rattle.kw_world.specs.Sizes.{product}
use Rattle.kw_world.specs.Transition.{Outcome, to}
use Rattle.kw_table.specs.declared.pass.Pass.{Pass}
use Rattle.kw_table.specs.declared.shared.Shared.{Shared}
use Rattle.kw_table.specs.Passes.{view, Makes}
use Rattle.kw_follow.specs.declared.seeking.Search.{Search}
use Rattle.kw_follow.specs.Following.{Follows}
use Rattle.kw_follow.specs.Searches.{behind, is_in_use, seeking_at, with_search}
use Rattle.kw_follow.specs.Reaching.{Advances}
use Rattle.kw_follow.proofs.Fronts.{seat_within}
use Rattle.kw_follow.proofs.Advancing.{advances_by}

-- a row in use is gone by
in_use_passed : (rows : ℕ) (x : Option State) (l : Local) → is_in_use x ≡ true → seek_seen rows x l ≡ to_seek rows l
in_use_passed rows (Some Free) l e = let x : false ≡ true = e in absurd (cc)
in_use_passed rows (Some (Infant seat)) l e = refl
in_use_passed rows (Some Normal) l e = refl
in_use_passed rows (Some (Leader count)) l e = refl
in_use_passed rows (Some (Follower leader)) l e = refl
in_use_passed rows (Some (Retired number)) l e = let x : false ≡ true = e in absurd (cc)
in_use_passed rows None l e = refl

-- the next row is asked, where not all were
asks_next : (rows : ℕ) (x : Search) (l : Local) → x.asked < rows → (to_seek rows (seeking_at x l)).local ≡ seeking_at (behind rows x) l
asks_next rows x l few =
    let more : nat_lt x.asked rows ≡ true = grind (arith, nat_tests) in
    ap (λ (b : Bool). let o : Outcome = if b then to (Activity.Rebalance (Rebalance.Seek Seek.Next)) (seeking_at (behind rows x) l) else give_back Refuse (seeking_at x l) in o.local) more

-- the search goes on past a row in use
pub passed : {s : Shared} {p q : Pass} {told : ℕ} (l : Local) (x y : Search) → y ≡ behind s.opening.rows x → x.asked < s.opening.rows → is_in_use (state_of told) ≡ true → Follows s p (seeking_at x l) → Makes s p Go told q → Advances s p q (seeking_at y l)
passed {s} {p} {q} {told} l x y is few used f makes =
    advances_by (Activity.Rebalance (Rebalance.Seek Seek.Next)) (seeking_at x l) (seeking_at y l) f refl tt makes
    (ap (λ (z : Search). seeking_at z l) is
    ∙ (sym (asks_next s.opening.rows x l few)
    ∙ ap (λ (o : Outcome). o.local) (sym (in_use_passed s.opening.rows (state_of told) (seeking_at x l) used))))

-- the search begins where the local has it
pub begins_search : {s : Shared} {p : Pass} (x : Search) (l : Local) → with_search x l ≡ l → l.activity ≡ Activity.Rebalance (Rebalance.Seek Seek.Next) → Follows s p l → Follows s p (seeking_at x l)
begins_search {s} {p} x l is at f =
    let here : Follows s p (record l { activity = Activity.Rebalance (Rebalance.Seek Seek.Next) }) = subst (λ (a : Activity). Follows s p (record l { activity = a })) at f in
    subst (λ (k : Local). Follows s p (record k { activity = Activity.Rebalance (Rebalance.Seek Seek.Next) })) (sym is) here

-- the number of a pass's seat has a state of an infant
pub seat_fits : (p : Pass) (n : ℕ) → n ≡ (view p).number → n < MOST_SEATS
seat_fits p n is = omega (arith, is, seat_within p, p.known.opens.few_seats)

-- the pass of the next seat is asked for, where there is one
pub pass_next : (i : ℕ) (l : Local) → i < SEATS → to_pass product i l ≡ to (Activity.Rebalance (Rebalance.Seek (Seek.Pass i))) l
pass_next i l below =
    let is : nat_lt i product.seats ≡ true = grind (arith, nat_tests) in
    ap (λ (b : Bool). if b then to (Activity.Rebalance (Rebalance.Seek (Seek.Pass i))) l else to (Activity.Rebalance (Rebalance.Seek Seek.Reclaim)) l) is
