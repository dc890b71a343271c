-- A seat that is about to replace a row of the list finds the link to it, and one that has sought
-- the row before its own in vain has lost its own, by induction over the events.
--
-- The link that leads to a row of the list leads there until that row goes: others mark it at most.
-- And where the walk to the row before reaches the end of the list, or goes by the full row, that
-- row is in the list no more.
use Rattle.std.proofs.Common.{ℕ, ◌≡◌, ◌⊎◌, inl, inr, ◌<◌, true, Option, None, Some, List, [], ◌∷◌, ◌++◌, refl, sym, ◌∙◌, ap, subst, slice_get, eq-eqb, bit_or}
use Rattle.std.proofs.lemmas.Bool.{cases_eq}
use Rattle.std.proofs.lemmas.Option.{same_Some}
use Rattle.kw_words.specs.declared.layout.Name.TheVariants as name
use Rattle.kw_words.specs.declared.link.Link.{Link}
use Rattle.kw_words.specs.declared.sizes.TheConstants.{MARK_BIT}
use Rattle.kw_words.specs.Link.{link_of, link_word}
use Rattle.kw_words.proofs.LinkWords.{link_of_marked}
use Rattle.kw_rows.specs.Ledger.{Dead, IsDead, IsLive, Live}
use Rattle.kw_rows.specs.Rows.{WasLinked}
use Rattle.kw_world.specs.declared.activity.Activity.{Activity}
use Rattle.kw_world.specs.declared.activity.rebalance.claim.Claim.TheVariants as Claim
use Rattle.kw_world.specs.declared.activity.rebalance.engage.Engage.TheVariants as Engage
use Rattle.kw_world.specs.declared.activity.rebalance.Rebalance.TheVariants as Rebalance
use Rattle.kw_world.specs.declared.activity.rebalance.replace.Replace.TheVariants as Replace
use Rattle.kw_world.specs.declared.activity.rebalance.seek.Seek.TheVariants as Seek
use Rattle.kw_world.specs.declared.activity.rebalance.write.Write.TheVariants as Write
use Rattle.kw_world.specs.declared.event.Choice.{Choice}
use Rattle.kw_world.specs.declared.event.Event.{Event}
use Rattle.kw_world.specs.declared.local.Local.{Local}
use Rattle.kw_world.specs.declared.opening.Opening.{Opening}
use Rattle.kw_world.specs.declared.rebalance.Afterwards.TheVariants.{TryAgain}
use Rattle.kw_world.specs.ClaimTransitions.{row_after}
use Rattle.kw_world.specs.Opening.{IsOpening, opened}
use Rattle.kw_world.specs.ReplaceTransitions.{replaced_link}
use Rattle.kw_world.specs.Sizes.{Sizes}
use Rattle.kw_world.specs.Step.{word}
use Rattle.kw_world.specs.Transition.{row_linked, row_or_first}
use Rattle.kw_world.specs.WalkTransitions.{offered}
use Rattle.kw_world.specs.WriteTransitions.{unmarked_link}
use Rattle.kw_core.specs.Events.{is_valid, may_step, world}
use Rattle.kw_core.specs.Ledger.{ledger_at_first}
use Rattle.kw_core.specs.Ledger as core
use Rattle.kw_core.specs.Run as run
use Rattle.kw_core.specs.Run.{Run, history, noted_by, start}
use Rattle.kw_core.specs.Stages.{IsBalancing}
use Rattle.kw_core.proofs.Building.{IsBuilding}
use Rattle.kw_core.proofs.Events.{may_come, valid-nil, valid-snoc}
use Rattle.kw_core.proofs.Happens.{Happens, each_seat, happens, not_exchanged}
use Rattle.kw_core.proofs.InfantFrames.{ChangesHead, head_stays, next_stays}
use Rattle.kw_core.proofs.Runs.{goes_on-moved, history-nil, history-snoc, history-world}
use Rattle.kw_shape.specs.ReachedRows.{IsReached}
use Rattle.kw_shape.specs.Search.{HasBefore, IsSearching}
use Rattle.kw_shape.specs.Shape.{Shape}
use Rattle.kw_shape.proofs.AfterBuilding.{built_balancing}
use Rattle.kw_shape.proofs.Comings.{Comes, comes, goes_on, seeks, stays_out}
use Rattle.kw_shape.proofs.LinkedRows.{found_open, fresh_linked, live_reached, not_hand, reached_live, search_at, was_below}
use Rattle.kw_shape.proofs.ShapeOpens.{each_rests}
use Rattle.kw_reads.specs.Inv.{Inv, lower}
use Rattle.kw_reads.proofs.Keeps.{inv_goes_on}
use Rattle.kw_reads.proofs.KeptKeeps.{live_was}
use Rattle.kw_reads.proofs.Opens.{inv_start}
use Rattle.kw_laws.specs.Laws.{IsLeavingBefore, IsReachingNext}
use Rattle.kw_laws.proofs.Along.{holds_along}
use Rattle.kw_laws.proofs.BeforeRows.{EndsBefore, GoesByFull, ends_before_holds, goes_by_full_holds}
use Rattle.kw_counts.specs.Links.{KeepsLinks}
use Rattle.kw_counts.proofs.BeforeSteps.{seeking_builds}
use Rattle.kw_counts.proofs.LinkSteps.{IsAtHead, IsExchange, IsGivingUp, IsTryAgain, ToExchange, ToGiveUp, exchange_seeks, giving_up_seeks, goes_on_giving, is_the_first, leads_there, list_ended, to_exchange, to_give_up, walked_past, was_replaced}

-- What is kept.

record Linked (z : Sizes) (r : Run) : Type 0 where
  leads : (t : ℕ) (k : Local) → slice_get r.world.locals t ≡ Some k → IsExchange k.activity → IsLive r.ledger.rows k.row → row_linked (link_of (word z r.world (replaced_link k.rebalance.before))) ≡ Some k.row
  gone : (t : ℕ) (k : Local) → slice_get r.world.locals t ≡ Some k → IsGivingUp k.activity k → IsLive r.ledger.rows k.row → ⊥

exchange_balances : (a : Activity) → IsExchange a → IsBalancing a
exchange_balances (Activity.Rebalance (Rebalance.Replace Replace.Exchange)) x = tt
exchange_balances _ x = absurd x

giving_up_balances : (a : Activity) (l : Local) → IsGivingUp a l → IsBalancing a
giving_up_balances (Activity.Rebalance (Rebalance.Seek Seek.GiveBack)) l x = tt
giving_up_balances _ l x = absurd x

exchange_searches : (a : Activity) (l : Local) → IsExchange a → IsSearching a l
exchange_searches (Activity.Rebalance (Rebalance.Replace Replace.Exchange)) l x = tt
exchange_searches _ l x = absurd x

-- the link to the first row is not written where it is loaded
head_unchanged : (a : Activity) (s : ℕ) (l : Local) → IsAtHead a → ChangesHead a s l → ⊥
head_unchanged (Activity.Rebalance (Rebalance.Replace Replace.Start)) s l x y = y
head_unchanged (Activity.Rebalance (Rebalance.Replace Replace.First)) s l x y = y
head_unchanged _ s l x y = x

-- a link that is marked leads where it led
marked_leads : (w q : ℕ) (x : Option Link) → link_of w ≡ x → row_linked x ≡ Some q → row_linked (link_of (bit_or w MARK_BIT)) ≡ Some q
marked_leads w q (Some link) e f = ap row_linked (link_of_marked w link e) ∙ f
marked_leads w q None e f = let y : None ≡ Some q = f in absurd (cc)

-- One event.

module _ (z : Sizes) (r r' : Run) (s : ℕ) (choice : Choice) (l l' : Local) (a : Activity) (h : Happens z r r' s choice l l' a) (v : Inv z r) where
  i : Shape z r
  i = v.shape

  -- a link led, or leads, to this row
  abbrev Led : Option ℕ → ℕ → Type 0
  Led b q = row_linked (link_of (word z r.world (replaced_link b))) ≡ Some q

  abbrev Leads : Option ℕ → ℕ → Type 0
  Leads b q = row_linked (link_of (word z r'.world (replaced_link b))) ≡ Some q

  kept : (b : Option ℕ) (q : ℕ) → word z r'.world (replaced_link b) ≡ word z r.world (replaced_link b) → Led b q → Leads b q
  kept b q e was = ap (λ w. row_linked (link_of w)) e ∙ was

  -- a row that is replaced is in the list no more
  goes : Happens z r r' s choice l l' (Activity.Rebalance (Rebalance.Replace Replace.Exchange)) → word z r.world (replaced_link l.rebalance.before) ≡ link_word (unmarked_link (Some l.row)) → IsDead r'.ledger.rows l.row
  goes g w = ap (λ (x : core.Ledger). (x.rows.fates l.row).status) g.ledger ∙ rw (eq-eqb (word z r.world (replaced_link l.rebalance.before)) (link_word (unmarked_link (Some l.row))) w, eq-eqb l.row l.row refl) refl

  -- an exchange of that link leaves it as it is, or the row goes
  exchange_lasts : Happens z r r' s choice l l' (Activity.Rebalance (Rebalance.Replace Replace.Exchange)) → (b : Option ℕ) → l.rebalance.before ≡ b → (q : ℕ) → IsLive r'.ledger.rows q → Led b q → Leads b q
  exchange_lasts g b e q live was = which (cases_eq (word z r.world (replaced_link l.rebalance.before)) (link_word (unmarked_link (Some l.row))))
    where
      which : (word z r.world (replaced_link l.rebalance.before) ≡ link_word (unmarked_link (Some l.row))) ⊎ (word z r.world (replaced_link l.rebalance.before) ≡ link_word (unmarked_link (Some l.row)) → ⊥) → Leads b q
      which (inl w) =
          let same : Some l.row ≡ Some q = sym (ap row_linked (found_open g i w)) ∙ subst (λ o. Led o q) (sym e) was in
          let dead : Live ≡ Dead = sym live ∙ ap (λ x. (r'.ledger.rows.fates x).status) (sym (same_Some l.row q same)) ∙ goes g w in
          absurd (cc)
      which (inr d) = subst (λ o. Leads o q) e (kept l.rebalance.before q (not_exchanged _ _ _ _ g.changed.same d) (subst (λ o. Led o q) (sym e) was))

  -- a link that leads to a row leads there as long as that row is in the list
  link_lasts : (b : Option ℕ) (q : ℕ) → ((p : ℕ) → b ≡ Some p → WasLinked r.ledger.rows p) → IsLive r'.ledger.rows q → Led b q → Leads b q
  link_lasts None q linked live was = by a h
    where
      by : (c : Activity) → Happens z r r' s choice l l' c → Leads None q
      by (Activity.Rebalance (Rebalance.Replace Replace.Exchange)) g = which l.rebalance.before refl
        where
          which : (o : Option ℕ) → l.rebalance.before ≡ o → Leads None q
          which None e = exchange_lasts g None e q live was
          which (Some p) e = kept None q (head_stays _ g (λ u. let y : Some p ≡ None = sym e ∙ u in cc)) was
      by c g = kept None q (head_stays c g (λ u. u)) was
  link_lasts (Some p) q linked live was = by a h
    where
      below : p < r.world.rows
      below = was_below z r i p (linked p refl)

      marks : (x : ℕ) → word z r'.world (name.Next x) ≡ bit_or (word z r.world (name.Next x)) MARK_BIT → p ≡ x → Leads (Some p) q
      marks x m e = ap (λ y. row_linked (link_of (word z r'.world (name.Next y)))) e ∙ ap (λ w. row_linked (link_of w)) m ∙ marked_leads (word z r.world (name.Next x)) q _ refl (ap (λ y. row_linked (link_of (word z r.world (name.Next y)))) (sym e) ∙ was)

      by : (c : Activity) → Happens z r r' s choice l l' c → Leads (Some p) q
      by (Activity.Rebalance (Rebalance.Engage (Engage.MarkLink count))) g = which (cases_eq p l.row)
        where
          which : (p ≡ l.row) ⊎ (p ≡ l.row → ⊥) → Leads (Some p) q
          which (inl e) = marks l.row g.changed.same e
          which (inr d) = kept (Some p) q (next_stays _ g p below d) was
      by (Activity.Rebalance (Rebalance.Claim Claim.MarkLink)) g = which (cases_eq p (row_after l))
        where
          which : (p ≡ row_after l) ⊎ (p ≡ row_after l → ⊥) → Leads (Some p) q
          which (inl e) = marks (row_after l) g.changed.same e
          which (inr d) = kept (Some p) q (next_stays _ g p below d) was
      by (Activity.Rebalance (Rebalance.Write Write.Next)) g = kept (Some p) q (next_stays _ g p below (not_hand _ g i tt p (linked p refl))) was
      by (Activity.Rebalance (Rebalance.Replace Replace.Exchange)) g = which l.rebalance.before refl
        where
          which : (o : Option ℕ) → l.rebalance.before ≡ o → Leads (Some p) q
          which None e = kept (Some p) q (next_stays _ g p below (λ u. let y : None ≡ Some p = sym e ∙ u in cc)) was
          which (Some n) e = here (cases_eq n p)
            where
              here : (n ≡ p) ⊎ (n ≡ p → ⊥) → Leads (Some p) q
              here (inl f) = exchange_lasts g (Some p) (e ∙ ap Some f) q live was
              here (inr d) = kept (Some p) q (next_stays _ g p below (λ u. d (same_Some n p (sym e ∙ u)))) was
      by c g = kept (Some p) q (next_stays c g p below (λ u. u)) was

  -- a row of the list that a seat rebalances was in the list
  was_live : (t : ℕ) (k : Local) → slice_get r.world.locals t ≡ Some k → IsBalancing k.activity → IsLive r'.ledger.rows k.row → IsLive r.ledger.rows k.row
  was_live t k g b live = live_was a h (lower v) k.row (fresh_linked r.ledger.rows t k.row ((i.balances t k g).fresh b)) live

  module _ (x : Linked z r) (ends : EndsBefore z r) (passes : GoesByFull z r) where
    own_leads : IsExchange l'.activity → IsLive r'.ledger.rows l'.row → Leads l'.rebalance.before l'.row
    own_leads y live = which (comes z (word z r.world) s choice l a l' h.arrow)
      where
        by : ToExchange (word z r.world) l a l' → Leads l'.rebalance.before l'.row
        by (is_the_first b e n same) =
            let first : i.rows.chain.first ≡ l'.row = sym (ap row_or_first i.rows.chain.leads) ∙ e ∙ sym same in
            subst (λ o. Leads o l'.row) (sym n) (kept None l'.row (head_stays a h (head_unchanged a s l b)) (i.rows.chain.leads ∙ ap Some first))
        by (leads_there is e n same) =
            let p = (search_at a h i).some (subst (λ b. HasBefore b l) (sym is) tt) in
            let g = subst (Happens z r r' s choice l l') is h in
            let led : Led (Some p.0) l'.row = ap (λ o. row_linked (link_of (word z r.world (name.Next (row_or_first o))))) (sym p.1) ∙ ap row_linked e ∙ ap Some (sym same) in
            subst (λ o. Leads o l'.row) (sym (n ∙ p.1)) (kept (Some p.0) l'.row (g.changed.loaded refl (name.Next p.0)) led)

        which : Comes z (word z r.world) choice l a l' → Leads l'.rebalance.before l'.row
        which (stays_out n) = absurd (n (seeking_builds l'.activity l' (exchange_seeks l'.activity l' y)))
        which (seeks e f) = absurd (subst IsExchange e y)
        which (goes_on o t) = by (to_exchange z (word z r.world) choice l a l' t y)

    own_gone : IsGivingUp l'.activity l' → IsLive r'.ledger.rows l'.row → ⊥
    own_gone y live = which (comes z (word z r.world) s choice l a l' h.arrow)
      where
        by : IsBuilding a → ToGiveUp (word z r.world) l a l' → ⊥
        by o u = here u
          where
            before : l'.row ≡ l.row → IsLive r.ledger.rows l.row
            before same = was_live s l h.knows (subst IsBalancing (sym h.activity) (built_balancing a o)) (subst (IsLive r'.ledger.rows) same live)

            reached : l'.row ≡ l.row → IsReached (word z r.world) l.row
            reached same = live_reached (word z r.world) r.ledger.rows i.rows.chain l.row (before same)

            here : ToGiveUp (word z r.world) l a l' → ⊥
            here (goes_on_giving b same) = x.gone s l h.knows (subst (λ c. IsGivingUp c l) (sym h.activity) b) (before same)
            here (list_ended is e same) = ends s l h.knows (subst IsLeavingBefore (sym (h.activity ∙ is)) tt) e (reached same)
            here (walked_past is e same) = passes s l h.knows (subst IsReachingNext (sym (h.activity ∙ is)) tt) e (reached same)
            here (was_replaced is d same) = d (x.leads s l h.knows (subst IsExchange (sym (h.activity ∙ is)) tt) (before same))

        which : Comes z (word z r.world) choice l a l' → ⊥
        which (stays_out n) = n (seeking_builds l'.activity l' (giving_up_seeks l'.activity l' y))
        which (seeks e f) = subst (λ b. IsGivingUp b l') e y
        which (goes_on o t) = by o (to_give_up z (word z r.world) choice l a l' t y)

    linked_keeps : Linked z r'
    linked_keeps = record {
      leads = each_seat h (λ t k. IsExchange k.activity → IsLive r'.ledger.rows k.row → Leads k.rebalance.before k.row) own_leads (λ t k d g y live.
          let was = was_live t k g (exchange_balances k.activity y) live in
          link_lasts k.rebalance.before k.row (λ p e. fresh_linked r.ledger.rows t p ((i.search t k g).fresh p (exchange_searches k.activity k y) e)) live (x.leads t k g y was));
      gone = each_seat h (λ t k. IsGivingUp k.activity k → IsLive r'.ledger.rows k.row → ⊥) own_gone (λ t k d g y live. x.gone t k g y (was_live t k g (giving_up_balances k.activity k y) live));
    }

-- All of it holds of every list.

record Linking (z : Sizes) (o : Opening) (es : List Event) (r : Run) : Type 0 where
  valid : is_valid z o es ≡ true
  led : history z o es ≡ r
  inv : Inv z r
  links : Linked z r

linking_on : (z : Sizes) (o : Opening) → IsOpening z o → (es : List Event) (e : Event) (r : Run) → may_step o r.world e ≡ true → Linking z o es r → Linking z o (es ++ e ∷ []) (run.goes_on z r e)
linking_on z o opening es e r may k =
    let led : world z o es ≡ r.world = sym (history-world z o es) ∙ ap (λ (x : Run). x.world) k.led in
    let c = may_come o r.world e may in
    let h = happens z r e c.local k.inv.shape.sane c.begins c.knows c.moves in
    record {
      valid = valid-snoc z o es e k.valid (subst (λ w. may_step o w e ≡ true) (sym led) may);
      led = history-snoc z o es e ∙ ap (λ x. run.goes_on z x e) k.led;
      inv = inv_goes_on z o r e may k.inv;
      links = subst (Linked z) (sym (goes_on-moved z r e c.local c.knows c.moves))
          (linked_keeps z r (noted_by z r e c.local) e.seat (offered r.world.rows e.choice) c.local _ c.local.activity h k.inv k.links (subst (EndsBefore z) k.led (ends_before_holds z o opening es k.valid)) (subst (GoesByFull z) k.led (goes_by_full_holds z o opening es k.valid)));
    }

linking_start : (z : Sizes) (o : Opening) → IsOpening z o → Linking z o [] (start z o)
linking_start z o opening = record {
  valid = valid-nil z o;
  led = history-nil z o;
  inv = inv_start z o opening;
  links = record {
    leads = each_rests z o (λ t k. IsExchange k.activity → IsLive (ledger_at_first o).rows k.row → row_linked (link_of (word z (opened z o) (replaced_link k.rebalance.before))) ≡ Some k.row) (λ t y. absurd y);
    gone = each_rests z o (λ t k. IsGivingUp k.activity k → IsLive (ledger_at_first o).rows k.row → ⊥) (λ t y. absurd y);
  };
}

linking_holds : (z : Sizes) (o : Opening) → IsOpening z o → (es : List Event) → is_valid z o es ≡ true → Linking z o es (history z o es)
linking_holds z o opening = holds_along z o (Linking z o) (linking_on z o opening) (linking_start z o opening)

pub links_hold : (z : Sizes) (o : Opening) → IsOpening z o → (es : List Event) → is_valid z o es ≡ true → KeepsLinks z (world z o es)
links_hold z o opening es ok = subst (KeepsLinks z) (history-world z o es) (record {
  leads = λ t l g is m. k.links.leads t l g (subst IsExchange (sym is) tt) (reached_live (word z r.world) r.ledger.rows k.inv.shape.rows.chain l.row m);
  gone = λ t l g is after m. k.links.gone t l g (gives_up l is after) (reached_live (word z r.world) r.ledger.rows k.inv.shape.rows.chain l.row m);
})
  where
    r : Run
    r = history z o es

    k : Linking z o es r
    k = linking_holds z o opening es ok

    gives_up : (l : Local) → l.activity ≡ Activity.Rebalance (Rebalance.Seek Seek.GiveBack) → l.rebalance.afterwards ≡ TryAgain → IsGivingUp l.activity l
    gives_up l is after = subst (λ b. IsGivingUp b l) (sym is) (subst IsTryAgain (sym after) tt)
