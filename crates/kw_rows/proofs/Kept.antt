-- Every event keeps what holds of the rows: one case an event.
use Rattle.std.proofs.Common.{ℕ, suc, ◌≡◌, ◌<◌, Some, None, arith}
use Rattle.std.proofs.lemmas.Option.{same_Some}
use Rattle.kw_rows.specs.Ledger.{Ledger, IsFresh, Past}
use Rattle.kw_rows.specs.Rows.{Rows, Chain, Closed, Follows}
use Rattle.kw_rows.specs.States.{States, Marks}
use Rattle.kw_rows.specs.Group.{View, Group, Named, Pairs}
use Rattle.kw_rows.specs.Events.{Event, takes, gives_back, fills, reclaims, engages, marks, decides, engages_next, normalises, freezes, numbers, retires, begins, ends, rests, replaces}
use Rattle.kw_rows.specs.Structure.{Structure}
use Rattle.kw_rows.proofs.Frames.{Frames, was, chain_framed, closed_framed, follows_framed, fresh_framed, past_framed}
use Rattle.kw_rows.proofs.Framed.{still, links_still, taken, given_back, reclaimed, filled, numbered, begun, ended, visits_past, numbers_past, number_past, visit_past}
use Rattle.kw_rows.proofs.Sets.{engaged, decided, followed, normalised, retired}
use Rattle.kw_rows.proofs.Sets as sets
use Rattle.kw_rows.proofs.Calm.{Stays, group_calm, pairs_calm, takes_stay, gives_back_stay, fills_stay, reclaims_stay, marks_stay, freezes_stay, numbers_stay, visits_stay, rests_stay}
use Rattle.kw_rows.proofs.Replaced.{replaced_chain, replaced_closed, replaced_follows, replaced_fresh, replaced_states, replaced_marks, replaced_group, replaced_pairs, replaced_gone}

module _ (w w' : Rows) (ledger ledger' : Ledger) (now : ℕ) (s : Structure w ledger now) where
  -- all that an event keeps
  pub record All : Type 0 where
    pub chain : Chain w' ledger'
    pub closed : Closed w' ledger'
    pub states : States w' ledger'
    pub marks : (x : ℕ) → Marks w' ledger' x
    pub pairs : (x : ℕ) → Pairs w' ledger' x
    pub follows : Follows w' ledger'
    pub past : Past ledger' (suc now)
    pub fresh : (t since x : ℕ) → ledger.visits t ≡ Some since → ledger'.visits t ≡ Some since → IsFresh ledger t x → IsFresh ledger' t x
    pub group : (t : ℕ) (v : View) → Named ledger t v → Group w ledger v → Group w' ledger' v

  -- what an event leaves that is no replacing one
  framed : Frames w w' ledger ledger' → States w' ledger' → ((x : ℕ) → Marks w' ledger' x) → ((x : ℕ) → Pairs w' ledger' x) → ((t : ℕ) (v : View) → Named ledger t v → Group w ledger v → Group w' ledger' v) → ((t since : ℕ) → ledger'.visits t ≡ Some since → since < suc now) → ((m at : ℕ) → ledger'.numbered m ≡ Some at → at < suc now) → All
  framed f state mark pair group visits drawn = record {
    chain = chain_framed w w' ledger ledger' f s.chain;
    closed = closed_framed w w' ledger ledger' f s.closed;
    states = state;
    marks = mark;
    pairs = pair;
    follows = follows_framed w w' ledger ledger' f s.follows;
    past = past_framed w w' ledger ledger' f now s.past visits drawn;
    fresh = fresh_framed w w' ledger ledger' f;
    group = group;
  }

  -- it changes no state of a held row
  calm : Frames w w' ledger ledger' → Stays w w' ledger ledger' → ((t since : ℕ) → ledger'.visits t ≡ Some since → since < suc now) → ((m at : ℕ) → ledger'.numbered m ≡ Some at → at < suc now) → All
  calm f k visits drawn = framed f k.states k.marks (pairs_calm w w' ledger ledger' k.calm s.chain s.closed (was w w' ledger ledger' f) s.pairs) (λ t v n g. group_calm w w' ledger ledger' k.calm s.chain s.closed t v n g) visits drawn

  -- and no visit or number
  quiet : Frames w w' ledger ledger' → Stays w w' ledger ledger' → ((t : ℕ) → ledger'.visits t ≡ ledger.visits t) → ((m : ℕ) → ledger'.numbered m ≡ ledger.numbered m) → All
  quiet f k p n = calm f k (visits_past w w' ledger ledger' now s.past p) (numbers_past w w' ledger ledger' now s.past n)

  -- it exchanges one state
  set : Frames w w' ledger ledger' → sets.Kept w w' ledger ledger' → ((t : ℕ) → ledger'.visits t ≡ ledger.visits t) → ((m : ℕ) → ledger'.numbered m ≡ ledger.numbered m) → All
  set f k p n = framed f k.states k.marks k.pairs (λ t v i g. k.group v g) (visits_past w w' ledger ledger' now s.past p) (numbers_past w w' ledger ledger' now s.past n)

  -- each event keeps all of it
  pub kept : Event w w' ledger ledger' now → All
  kept (takes x t e) = quiet (taken w w' ledger ledger' x t e) (takes_stay w w' ledger ledger' s.states s.marks x t e) e.turns.others.visits e.turns.others.numbered
  kept (gives_back x e) = quiet (given_back w w' ledger ledger' x e) (gives_back_stay w w' ledger ledger' s.states s.marks x e) e.turns.others.visits e.turns.others.numbered
  kept (fills x e) = quiet (filled w w' ledger ledger' x e) (fills_stay w w' ledger ledger' s.states s.marks x e) e.ledger.others.visits e.ledger.others.numbered
  kept (reclaims x m e) = quiet (reclaimed w w' ledger ledger' x m s.states e) (reclaims_stay w w' ledger ledger' s.states s.marks x m e) e.turns.others.visits e.turns.others.numbered
  kept (engages x e) = set (links_still w w' ledger ledger' e.sets.links e.ledger) (engaged w w' ledger ledger' s.chain s.states s.marks s.pairs x e) e.ledger.others.visits e.ledger.others.numbered
  kept (marks x e) = quiet (still w w' ledger ledger' e.head e.next e.least e.ledger) (marks_stay w w' ledger ledger' s.states s.marks x e) e.ledger.others.visits e.ledger.others.numbered
  kept (decides r n e) = set (links_still w w' ledger ledger' e.sets.links e.ledger) (decided w w' ledger ledger' s.chain s.states s.marks s.pairs r n e) e.ledger.others.visits e.ledger.others.numbered
  kept (engages_next r c e) = set (links_still w w' ledger ledger' e.sets.links e.ledger) (followed w w' ledger ledger' s.chain s.states s.marks s.pairs r c e) e.ledger.others.visits e.ledger.others.numbered
  kept (normalises x t e) = set (links_still w w' ledger ledger' e.sets.links e.ledger) (normalised w w' ledger ledger' s.chain s.states s.marks s.pairs x t e) e.ledger.others.visits e.ledger.others.numbered
  kept (freezes x e) = quiet (still w w' ledger ledger' e.head e.next e.least e.ledger) (freezes_stay w w' ledger ledger' s.states s.marks x e) e.ledger.others.visits e.ledger.others.numbered
  kept (numbers m e) = calm (numbered w w' ledger ledger' now m e) (numbers_stay w w' ledger ledger' s.states s.marks now m e) (visits_past w w' ledger ledger' now s.past e.visits) (number_past w w' ledger ledger' now m s.past e)
  kept (retires x m e) = set (links_still w w' ledger ledger' e.sets.links e.ledger) (retired w w' ledger ledger' s.chain s.states s.marks s.pairs x m e) e.ledger.others.visits e.ledger.others.numbered
  kept (begins t e) = calm (begun w w' ledger ledger' t now s.past e) (visits_stay w w' ledger ledger' s.states s.marks t (Some now) e) (visit_past w w' ledger ledger' now t (Some now) (λ since q. omega (arith, same_Some now since q)) s.past e) (numbers_past w w' ledger ledger' now s.past e.numbered)
  kept (ends t e) = calm (ended w w' ledger ledger' t e) (visits_stay w w' ledger ledger' s.states s.marks t None e) (visit_past w w' ledger ledger' now t None (λ since q. no_none since q) s.past e) (numbers_past w w' ledger ledger' now s.past e.numbered)
    where
      no_none : {A : Type 0} (since : ℕ) → None ≡ Some since → A
      no_none since q = absurd (cc)
  kept (rests e) = quiet (links_still w w' ledger ledger' e.links e.ledger) (rests_stay w w' ledger ledger' s.states s.marks e) e.ledger.others.visits e.ledger.others.numbered
  kept (replaces p r c after n more e) = record {
    chain = replaced_chain w w' ledger ledger' now p r c after n more s e;
    closed = replaced_closed w w' ledger ledger' now p r c after n more s e;
    states = replaced_states w w' ledger ledger' now p r c after n more s e;
    marks = replaced_marks w w' ledger ledger' now p r c after n more s e;
    pairs = replaced_pairs w w' ledger ledger' now p r c after n more s e;
    follows = replaced_follows w w' ledger ledger' now p r c after n more s e;
    past = record {
      gone = replaced_gone w w' ledger ledger' now p r c after n more s e;
      begun = visits_past w w' ledger ledger' now s.past e.visits.visits;
      drawn = numbers_past w w' ledger ledger' now s.past e.visits.numbered;
    };
    fresh = λ t since x q u. replaced_fresh w w' ledger ledger' now p r c after n more s e t since x q;
    group = replaced_group w w' ledger ledger' now p r c after n more s e;
  }
