-- What the replacing event finds and leaves, drawn from what holds of all rows before it.
use Rattle.std.proofs.Common.{ℕ, suc, ◌≡◌, ◌⊎◌, inl, inr, ◌<◌, true, false, Option, Some, None, List, ◌∷◌, arith, sym, ◌∙◌, ap, subst}
use Rattle.kw_rows.specs.Ledger.{Ledger, Fate, IsLive, IsDead, IsFresh, IsHeld}
use Rattle.kw_rows.specs.Rows.{Rows, Chain, Closed, Follows, leads}
use Rattle.kw_rows.specs.States.{States, Marks}
use Rattle.kw_rows.specs.Group.{View, Group, Named, Pairs}
use Rattle.kw_rows.specs.Events.{IsIn, Links, Holds, rest_of, IsOpenLink, Replaces}
use Rattle.kw_rows.specs.Structure.{Structure}
use Rattle.kw_rows.proofs.Lists.{in_or_not}
use Rattle.kw_rows.proofs.Statuses.{not_dead}
use Rattle.kw_rows.proofs.Chains.{IsLink, leads_live}
use Rattle.kw_rows.proofs.Swaps.{Swaps}
use Rattle.kw_rows.proofs.Swapped.{chain_kept, closed_kept, follow_kept, fresh_kept}
use Rattle.kw_rows.proofs.Won.{Wins, IsOf, IsUnmarked, states_won, marks_won, group_won, pairs_won}

-- an unmarked row that is held is live
open_live : (w : Rows) (ledger : Ledger) (p : ℕ) → Marks w ledger p → IsHeld ledger p → w.marked p ≡ false → IsLive ledger p
open_live w ledger p m (inl a) f = a
open_live w ledger p m (inr h) f = let x : true ≡ false = sym (m.buried h.1.dead).0 ∙ f in absurd (cc)

-- so the link that is exchanged is the head's or a live row's
open_link : (w : Rows) (ledger : Ledger) (p : Option ℕ) → ((x : ℕ) → Marks w ledger x) → IsOpenLink w ledger p → IsLink ledger p
open_link w ledger None m o = tt
open_link w ledger (Some p) m o = open_live w ledger p (m p) o.0 o.1

-- and it leads to the first row of the group, unmarked
open_unmarked : (w : Rows) (ledger : Ledger) (p : Option ℕ) (r : ℕ) → ((x : ℕ) → Marks w ledger x) → IsOpenLink w ledger p → leads w p ≡ Some r → IsUnmarked w ledger p r
open_unmarked w ledger None r m o f = tt
open_unmarked w ledger (Some p) r m o f = (open_live w ledger p (m p) o.0 o.1, o.1, f)

-- the rows of the group lead from one to the next
group_links : (w : Rows) (ledger : Ledger) (r : ℕ) (c after : Option ℕ) → Holds w ledger r c after → Links w.next r (rest_of c) after
group_links w ledger r None after h = h.0.next
group_links w ledger r (Some c) after h = (h.0.next, h.1.next)

-- the rows of a group, as a list
in_group : (r : ℕ) (c : Option ℕ) (x : ℕ) → IsOf r c x → IsIn (r ∷ rest_of c) x
in_group r None x e = inl e
in_group r (Some c) x (inl e) = inl e
in_group r (Some c) x (inr e) = inr (inl e)

-- and back
of_group : (r : ℕ) (c : Option ℕ) (x : ℕ) → IsIn (r ∷ rest_of c) x → IsOf r c x
of_group r None x (inl e) = e
of_group r None x (inr e) = absurd e
of_group r (Some c) x (inl e) = inl e
of_group r (Some c) x (inr (inl e)) = inr e
of_group r (Some c) x (inr (inr e)) = absurd e

module _ (w w' : Rows) (ledger ledger' : Ledger) (now : ℕ) (p : Option ℕ) (r : ℕ) (c after : Option ℕ) (n : ℕ) (more : List ℕ) (s : Structure w ledger now) (e : Replaces w w' ledger ledger' now p r c after n more) where
  -- the first row of the group is live
  live : IsLive ledger r
  live = leads_live w ledger s.chain p r (open_link w ledger p s.marks e.link) e.found

  -- a row that neither went nor came has the fate that it had
  fate : {A : Type 0} (f : Fate → A) (x : ℕ) → (IsIn (r ∷ rest_of c) x → ⊥) → (IsIn (n ∷ more) x → ⊥) → f (ledger'.fates x) ≡ f (ledger.fates x)
  fate f x d k = ap f (e.fates x d k)

  -- a fate's part that a row of the group keeps is kept by all but the new rows
  part : {A : Type 0} (f : Fate → A) → ((x : ℕ) → IsIn (r ∷ rest_of c) x → f (ledger'.fates x) ≡ f (ledger.fates x)) → (x : ℕ) → (IsIn (n ∷ more) x → ⊥) → f (ledger'.fates x) ≡ f (ledger.fates x)
  part f g x k = which (in_or_not (r ∷ rest_of c) x)
    where
      which : IsIn (r ∷ rest_of c) x ⊎ (IsIn (r ∷ rest_of c) x → ⊥) → f (ledger'.fates x) ≡ f (ledger.fates x)
      which (inl i) = g x i
      which (inr d) = fate f x d k

  -- what the list sees of the event
  swaps : Swaps w w' ledger ledger' now p r (rest_of c) after n more
  swaps = record {
    link = open_link w ledger p s.marks e.link;
    found = e.found;
    group = group_links w ledger r c after e.holds;
    new = e.new;
    infants = e.infants;
    least = e.least;
    rises = e.rises;
    below = e.below;
    past = s.past.gone;
    begun = s.past.begun;
    leads_on = e.leads_on;
    others = e.others;
    leasts = e.leasts;
    visits = e.visits.visits;
    gone_dead = e.gone_dead;
    gone_now = e.gone_now;
    come = e.come;
    come_born = e.come_born;
    come_upper = e.come_upper;
    born = part (λ (f : Fate). f.born) e.gone_born;
    status = fate (λ (f : Fate). f.status);
    gone = fate (λ (f : Fate). f.gone);
    upper = part (λ (f : Fate). f.upper) e.gone_upper;
  }

  -- what states and groups see of it
  wins : Wins w w' ledger ledger' now p r c after (n ∷ more)
  wins = record {
    live = live;
    holds = e.holds;
    link = open_unmarked w ledger p r s.marks e.link e.found;
    full = λ x i. e.full x (in_group r c x i);
    infants = e.infants;
    unmarked = e.unmarked;
    unfrozen = e.unfrozen;
    state = e.states;
    marked = e.marked;
    frozen = e.frozen;
    next = λ y d. e.others (Some y) d;
    leads_on = λ y q. (n, subst (λ x. leads w' x ≡ Some n) (sym q) e.leads_on);
    visits = e.visits.visits;
    numbered = e.visits.numbered;
    went = λ x i. (e.gone_dead x (in_group r c x i), e.gone_now x (in_group r c x i));
    come = e.come;
    owner = e.come_owner;
    fates = λ x d k. e.fates x (λ i. d (of_group r c x i)) k;
  }

  -- so the event keeps each of them
  pub replaced_chain : Chain w' ledger'
  replaced_chain = chain_kept w w' ledger ledger' now p r (rest_of c) after n more s.chain swaps

  -- held rows lead to held rows
  pub replaced_closed : Closed w' ledger'
  replaced_closed = closed_kept w w' ledger ledger' now p r (rest_of c) after n more s.chain swaps s.closed

  -- rows that share a key follow one another
  pub replaced_follows : Follows w' ledger'
  replaced_follows = follow_kept w w' ledger ledger' now p r (rest_of c) after n more s.chain swaps s.closed s.follows

  -- what a seat may name it may name still
  pub replaced_fresh : (t since x : ℕ) → ledger.visits t ≡ Some since → IsFresh ledger t x → IsFresh ledger' t x
  replaced_fresh t since x = fresh_kept w w' ledger ledger' now p r (rest_of c) after n more s.chain swaps t x since

  -- states go with fates
  pub replaced_states : States w' ledger'
  replaced_states = states_won w w' ledger ledger' now p r c after (n ∷ more) s.chain s.states s.marks s.pairs wins

  -- and marks
  pub replaced_marks : (x : ℕ) → Marks w' ledger' x
  replaced_marks = marks_won w w' ledger ledger' now p r c after (n ∷ more) s.chain s.states s.marks s.pairs wins

  -- and what pairs of rows say
  pub replaced_pairs : (x : ℕ) → Pairs w' ledger' x
  replaced_pairs = pairs_won w w' ledger ledger' now p r c after (n ∷ more) s.chain s.states s.marks s.pairs wins

  -- other seats know their groups still
  pub replaced_group : (t : ℕ) (v : View) → Named ledger t v → Group w ledger v → Group w' ledger' v
  replaced_group = group_won w w' ledger ledger' now p r c after (n ∷ more) s.chain s.states s.marks s.pairs wins

  -- a dead row went now, or before
  pub replaced_gone : (x : ℕ) → IsDead ledger' x → (ledger'.fates x).gone < suc now
  replaced_gone x d = which (in_or_not (r ∷ rest_of c) x) (in_or_not (n ∷ more) x)
    where
      which : IsIn (r ∷ rest_of c) x ⊎ (IsIn (r ∷ rest_of c) x → ⊥) → IsIn (n ∷ more) x ⊎ (IsIn (n ∷ more) x → ⊥) → (ledger'.fates x).gone < suc now
      which (inl i) k = omega (arith, e.gone_now x i)
      which (inr f) (inl i) = not_dead (ledger'.fates x).status (e.come x i) d
      which (inr f) (inr k) = omega (arith, fate (λ (t : Fate). t.gone) x f k, s.past.gone x (sym (fate (λ (t : Fate). t.status) x f k) ∙ d))
