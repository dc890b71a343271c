-- The replies to quiet items are those in the order of the items.
use Rattle.std.proofs.Common.{ℕ, ◌≡◌, ◌+◌, ◌<◌, List, [], ◌∷◌, length, map, Some, ◌⊎◌, inl, inr, sym, ap, ◌∙◌, subst, IsTrue}
use Rattle.std.specs.List.{slice_get, AllByRecursion}
use Rattle.std.specs.Option.{option_map}
use Rattle.std.proofs.lemmas.List.{length-map}
use Rattle.std.proofs.lemmas.List.Elements.{All-cons, All-nil}
use Rattle.std.proofs.lemmas.Option.{same_Some, slice_get-map, slice_get_within}
use Rattle.kw_model.specs.Map.{answers}
use Rattle.kw_model.specs.Legal.{may_refuse}
use Rattle.kw_model.specs.declared.call.Reply.{Reply}
use Rattle.kw_line.specs.declared.item.Item.{Item}
use Rattle.kw_line.specs.declared.item.Item.TheVariants as item
use Rattle.kw_line.specs.Line.{IsItem, IsCallOf, calls, forms}
use Rattle.kw_line.specs.Answered.{is_range}
use Rattle.kw_work.specs.declared.line.Line.{Line}
use Rattle.kw_work.specs.Dealing.{blocks_of, lines_of, line_at}
use Rattle.kw_work.specs.LineOrder.{IsOrderOf, IsLegalIn, joined, calls_of, KeepsKeys, HaveForms, IsAnswered, QuietServed, NoItemRefused, QuietItemsAnswered}
use Rattle.kw_work.proofs.Numbers.{calls-lines_of, forms-lines_of, joined-blocks_of}
use Rattle.kw_work.proofs.Quieted.{quiet-blocks_of}
use Rattle.kw_work.proofs.Asked.{element_at}
use Rattle.kw_work.proofs.QuietReplies.{quiet_answered}

-- the lines of items have the forms of their calls
have_forms : (n : ℕ) (items : List Item) → AllByRecursion IsItem items → HaveForms (lines_of n items)
unfolding lines_of
have_forms n [] all = All-nil (λ (l : Line). IsCallOf l.form l.call)
have_forms n (item.Call c f ∷ is) all = All-cons (λ (l : Line). IsCallOf l.form l.call) (line_at n c f) (lines_of (n + 1) is) all.0.0 (have_forms (n + 1) is all.1)
have_forms n (item.Wait ∷ is) all = have_forms (n + 1) is all.1

module _ (n : ℕ) (items : List Item) (rs : List Reply) where
  -- what the blocks' lines ask is what the items ask
  calls_are : calls_of (joined (blocks_of n items)) ≡ calls items
  calls_are = ap calls_of (joined-blocks_of n items) ∙ calls-lines_of n items

  -- and they have the items' forms
  forms_are : map (λ (l : Line). l.form) (joined (blocks_of n items)) ≡ forms items
  forms_are = ap (map (λ (l : Line). l.form)) (joined-blocks_of n items) ∙ forms-lines_of n items

  -- and are as many
  long_as : length (joined (blocks_of n items)) ≡ length (calls items)
  long_as = sym (length-map (joined (blocks_of n items)) (λ (l : Line). l.call)) ∙ ap length calls_are

  -- the form of a line is that of its item
  form_at : (i : ℕ) (l : Line) → slice_get (joined (blocks_of n items)) i ≡ Some l → slice_get (forms items) i ≡ Some l.form
  form_at i l e = ap (λ fs. slice_get fs i) (sym forms_are) ∙ slice_get-map (λ (l : Line). l.form) (joined (blocks_of n items)) i ∙ ap (option_map (λ (l : Line). l.form)) e

  -- and so is its call
  call_is : (i : ℕ) (l : Line) → slice_get (joined (blocks_of n items)) i ≡ Some l → slice_get (calls items) i ≡ Some l.call
  call_is i l e = ap (λ cs. slice_get cs i) (sym calls_are) ∙ slice_get-map (λ (l : Line). l.call) (joined (blocks_of n items)) i ∙ ap (option_map (λ (l : Line). l.call)) e

  -- the replies to quiet items
  pub quiet_items_answered : (xs : List ℕ) → AllByRecursion IsItem items → length rs ≡ length (calls items) → IsOrderOf (length (calls items)) xs → KeepsKeys (blocks_of n items) xs → NoItemRefused items rs → IsLegalIn (calls items) rs xs → QuietItemsAnswered items rs
  quiet_items_answered xs all long o keeps served legal i c f r at_call at_form at_reply is_quiet = go (each i l.0 r l.1 at_reply (ap (λ qs. slice_get qs i) (quiet-blocks_of n items) ∙ is_quiet))
    where
      each : QuietServed (blocks_of n items) rs
      each =
          quiet_answered (blocks_of n items) rs xs (long ∙ sym long_as) (subst (λ m. IsOrderOf m xs) (sym long_as) o) keeps (subst HaveForms (sym (joined-blocks_of n items)) (have_forms n items all))
          (λ j m s e g u. served j m.form s (form_at j m e) g u) (subst (λ cs. IsLegalIn cs rs xs) (sym calls_are) legal)

      l : (l : Line) × (slice_get (joined (blocks_of n items)) i ≡ Some l)
      l = element_at (joined (blocks_of n items)) i (subst (λ m. i < m) (sym long_as) (slice_get_within (calls items) i c at_call))

      form : l.0.form ≡ f
      form = same_Some l.0.form f (sym (form_at i l.0 l.1) ∙ at_form)

      call : l.0.call ≡ c
      call = same_Some l.0.call c (sym (call_is i l.0 l.1) ∙ at_call)

      go : IsAnswered l.0 r (slice_get (answers [] (calls_of (joined (blocks_of n items)))) i) → (slice_get (answers [] (calls items)) i ≡ Some r) ⊎ (IsTrue (is_range f) × IsTrue (may_refuse c r))
      go (inl e) = inl (ap (λ cs. slice_get (answers [] cs) i) (sym calls_are) ∙ e)
      go (inr t) = inr (subst (λ f. IsTrue (is_range f)) form t.0, subst (λ c. IsTrue (may_refuse c r)) call t.1)
