-- What an event leaves of the attempts for which cells stand, and of which cells are listed.
use Rattle.std.proofs.Common.{ℕ, ◌≡◌, ◌≢◌, ◌⊎◌, inl, inr, ◌<◌, ◌≤◌, ◌==◌, Bool, true, false, nat_lt, Option, arith, refl, ◌∙◌, ap, length, slice_get, if◌then◌else◌, eq-eqb, ne_eqb}
use Rattle.std.proofs.lemmas.Bool.{cases_eq}
use Rattle.std.proofs.lemmas.Bool.Decides.{nat_tests}
use Rattle.kw_words.specs.declared.layout.Name.TheVariants as name
use Rattle.kw_words.specs.Count.{count_of}
use Rattle.kw_words.specs.Plain.{cell_link_word}
use Rattle.kw_world.specs.declared.activity.Activity.{Activity}
use Rattle.kw_world.specs.declared.activity.insert.Insert.TheVariants as Insert
use Rattle.kw_world.specs.declared.activity.put.Put.TheVariants as Put
use Rattle.kw_world.specs.declared.activity.rebalance.Rebalance.TheVariants as Rebalance
use Rattle.kw_world.specs.declared.activity.rebalance.write.Write.TheVariants as Write
use Rattle.kw_world.specs.declared.event.Choice.{Choice}
use Rattle.kw_world.specs.declared.local.Local.{Local}
use Rattle.kw_world.specs.ListTransitions.{link_name}
use Rattle.kw_world.specs.PutTransitions.{given_of, has_room}
use Rattle.kw_world.specs.SeekTransitions.{infant}
use Rattle.kw_world.specs.Step.{word}
use Rattle.kw_world.specs.Sizes.{Sizes}
use Rattle.kw_world.specs.WriteTransitions.{infant_cells}
use Rattle.kw_core.specs.Listed.{Listed, with_listed, without_listed}
use Rattle.kw_core.specs.Run.{Origins, Run, copied, with_copy, with_origin}
use Rattle.kw_core.proofs.Happens.{Happens}

-- the event may give another attempt to cell c of row q
abbrev pub ChangesOrigin : Activity → Local → ℕ → ℕ → Type 0
ChangesOrigin (Activity.Put Put.Add) l q c = q ≡ l.row
ChangesOrigin (Activity.Rebalance (Rebalance.Write (Write.Version j))) l q c = (q ≡ infant l) × (c ≡ j)
ChangesOrigin _ l q c = ⊥

-- it may list the cell, or unlist it
abbrev pub ChangesListed : Activity → Local → ℕ → ℕ → Type 0
ChangesListed (Activity.Insert Insert.Exchange) l q c = (q ≡ l.row) × (c ≡ l.cell)
ChangesListed (Activity.Rebalance (Rebalance.Write Write.Count)) l q c = q ≡ infant l
ChangesListed (Activity.Rebalance (Rebalance.Write (Write.After j))) l q c = (q ≡ infant l) × (c ≡ j)
ChangesListed _ l q c = ⊥

-- Cells that are set.

-- the cell that is set, and any other one
copy_here : (o : Origins) (r c : ℕ) (p : Option ℕ) → with_copy o r c p r c ≡ p
copy_here o r c p = rw (eq-eqb r r refl, eq-eqb c c refl) refl

copy_other : (o : Origins) (r c : ℕ) (p : Option ℕ) (x y : ℕ) → ((x ≡ r) × (y ≡ c) → ⊥) → with_copy o r c p x y ≡ o x y
copy_other o r c p x y n = which (cases_eq x r) (cases_eq y c)
  where
    which : (x ≡ r) ⊎ (x ≡ r → ⊥) → (y ≡ c) ⊎ (y ≡ c → ⊥) → with_copy o r c p x y ≡ o x y
    which (inl a) (inl b) = absurd (n (a, b))
    which (inl a) (inr d) = rw (eq-eqb x r a, ne_eqb y c d) refl
    which (inr d) b = rw (ne_eqb x r d) refl

origin_other : (o : Origins) (r c p x y : ℕ) → x ≢ r → with_origin o r c p x y ≡ o x y
origin_other o r c p x y d = rw (ne_eqb x r d) refl

listed_here : (f : Listed) (r c : ℕ) → with_listed f r c r c ≡ true
listed_here f r c = rw (eq-eqb r r refl, eq-eqb c c refl) refl

listed_other : (f : Listed) (r c x y : ℕ) → ((x ≡ r) × (y ≡ c) → ⊥) → with_listed f r c x y ≡ f x y
listed_other f r c x y n = which (cases_eq x r) (cases_eq y c)
  where
    which : (x ≡ r) ⊎ (x ≡ r → ⊥) → (y ≡ c) ⊎ (y ≡ c → ⊥) → with_listed f r c x y ≡ f x y
    which (inl a) (inl b) = absurd (n (a, b))
    which (inl a) (inr d) = rw (a, eq-eqb r r refl, ne_eqb y c d) refl
    which (inr d) b = rw (ne_eqb x r d) refl

unlisted_here : (f : Listed) (r c : ℕ) → without_listed f r r c ≡ false
unlisted_here f r c = rw (eq-eqb r r refl) refl

unlisted_other : (f : Listed) (r x c : ℕ) → x ≢ r → without_listed f r x c ≡ f x c
unlisted_other f r x c d = rw (ne_eqb x r d) refl

-- a cell that is given where there is room, or listed where an exchange is made, leaves every other
-- one
given_other : (b : Bool) (o : Origins) (r c p x y : ℕ) → x ≢ r → (let k : Origins = if b then with_origin o r c p else o in k) x y ≡ o x y
given_other true o r c p x y d = origin_other o r c p x y d
given_other false o r c p x y d = refl

made_other : (b : Bool) (f : Listed) (r c x y : ℕ) → ((x ≡ r) × (y ≡ c) → ⊥) → (let k : Listed = if b then with_listed f r c else f in k) x y ≡ f x y
made_other true f r c x y n = listed_other f r c x y n
made_other false f r c x y n = refl

module _ {z : Sizes} {r r' : Run} {s : ℕ} {choice : Choice} {l l' : Local} where
  -- a cell stands for the same attempt, or for none, as before, unless it is given or a copy is
  -- written there
  pub origin_stays : (a : Activity) → Happens z r r' s choice l l' a → (q c : ℕ) → (ChangesOrigin a l q c → ⊥) → r'.origin q c ≡ r.origin q c
  origin_stays (Activity.Put Put.Add) h q c n = ap (λ (o : Origins). o q c) h.origin ∙ given_other (has_room z (count_of (word z r.world (name.Count l.row)))) r.origin l.row (given_of (count_of (word z r.world (name.Count l.row)))) (length r.history.attempts) q c n
  origin_stays (Activity.Rebalance (Rebalance.Write (Write.Version j))) h q c n = ap (λ (o : Origins). o q c) h.origin ∙ copy_other r.origin (infant l) j (copied z r.origin l (slice_get (infant_cells l) j)) q c n
  origin_stays a h q c n = ap (λ (o : Origins). o q c) h.origin

  -- a copy stands for the attempt of the cell at which it was gathered
  pub origin_copied : (j : ℕ) → Happens z r r' s choice l l' (Activity.Rebalance (Rebalance.Write (Write.Version j))) → r'.origin (infant l) j ≡ copied z r.origin l (slice_get (infant_cells l) j)
  origin_copied j h = ap (λ (o : Origins). o (infant l) j) h.origin ∙ copy_here r.origin (infant l) j (copied z r.origin l (slice_get (infant_cells l) j))

  -- a cell is listed or not as before, unless it is inserted, or its row is written
  pub listed_stays : (a : Activity) → Happens z r r' s choice l l' a → (q c : ℕ) → (ChangesListed a l q c → ⊥) → r'.listed q c ≡ r.listed q c
  listed_stays (Activity.Insert Insert.Exchange) h q c n = ap (λ (f : Listed). f q c) h.listed ∙ made_other (word z r.world (link_name l.row l.link) == cell_link_word l.held) r.listed l.row l.cell q c n
  listed_stays (Activity.Rebalance (Rebalance.Write Write.Count)) h q c n = ap (λ (f : Listed). f q c) h.listed ∙ unlisted_other r.listed (infant l) q c n
  listed_stays (Activity.Rebalance (Rebalance.Write (Write.After j))) h q c n = ap (λ (f : Listed). f q c) h.listed ∙ made_other (nat_lt j (length (infant_cells l))) r.listed (infant l) j q c n
  listed_stays a h q c n = ap (λ (f : Listed). f q c) h.listed

  -- no cell is listed of a row whose first word is written
  pub none_listed_yet : Happens z r r' s choice l l' (Activity.Rebalance (Rebalance.Write Write.Count)) → (c : ℕ) → r'.listed (infant l) c ≡ false
  none_listed_yet h c = ap (λ (f : Listed). f (infant l) c) h.listed ∙ unlisted_here r.listed (infant l) c

  -- a copy is listed once it is written whole
  pub copy_listed : (j : ℕ) → Happens z r r' s choice l l' (Activity.Rebalance (Rebalance.Write (Write.After j))) → j < length (infant_cells l) → r'.listed (infant l) j ≡ true
  copy_listed j h i =
      let e : nat_lt j (length (infant_cells l)) ≡ true = grind (arith, nat_tests, i) in
      ap (λ (f : Listed). f (infant l) j) h.listed ∙ rw e (listed_here r.listed (infant l) j)

  -- and a place beyond the copies is not
  pub rest_unlisted : (j : ℕ) → Happens z r r' s choice l l' (Activity.Rebalance (Rebalance.Write (Write.After j))) → length (infant_cells l) ≤ j → r'.listed ≡ r.listed
  rest_unlisted j h i =
      let e : nat_lt j (length (infant_cells l)) ≡ false = grind (arith, nat_tests, i) in
      h.listed ∙ rw e refl
