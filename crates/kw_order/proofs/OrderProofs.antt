-- The laws of the order.
use Rattle.std.proofs.Common.{ℕ, ◌≡◌, ◌<◌, ◌⊎◌, inl, inr, List, Some, arith, sym, ◌∙◌, ap, subst, slice_get, refl}
use Rattle.std.proofs.lemmas.Bool.{cases_order}
use Rattle.std.proofs.lemmas.Option.{same_Some}
use Rattle.kw_core.specs.History.{History, called}
use Rattle.kw_core.specs.declared.history.End.{End}
use Rattle.kw_core.specs.HistoryLaws.{HistoryLaws, answer_of}
use Rattle.kw_order.specs.Order.{HasRank, IsOrder}
use Rattle.kw_order.specs.OrderLaws.{OrderLaws}
use Rattle.kw_order.proofs.Separate.{get_separates, scan_separates, scan_top}
use Rattle.kw_order.proofs.Tops.{none_below, stands_directly}
use Rattle.kw_order.proofs.Ranks.{rank_inside, ranked, below_not_above}
use Rattle.kw_order.proofs.Unique.{rank_unique}
use Rattle.kw_order.proofs.LastUpdates.{last_below}

-- of two places that hold the same call neither is before the other
not_twice : (h : History) → HistoryLaws h → (xs : List ℕ) → IsOrder h xs → (i j x y : ℕ) → x ≡ y → i < j → slice_get xs i ≡ Some x → slice_get xs j ≡ Some y → ⊥
not_twice h l xs o i j x y e w a b =
    let r = ranked h l x (o.placed i x a) in let s = subst (λ q. HasRank h q r.0) e r.1 in
    let z = o.rises i j x y r.0 r.0 w a b r.1 s in below_not_above r.0 r.0 z z

-- each call stands once
once : (h : History) → HistoryLaws h → (xs : List ℕ) → IsOrder h xs → (i j x : ℕ) → slice_get xs i ≡ Some x → slice_get xs j ≡ Some x → i ≡ j
once h l xs o i j x a b = which (cases_order i j)
  where
    which : (i ≡ j) ⊎ ((i < j) ⊎ (j < i)) → i ≡ j
    which (inl e) = e
    which (inr (inl w)) = absurd (not_twice h l xs o i j x x refl w a b)
    which (inr (inr w)) = absurd (not_twice h l xs o j i x x refl w b a)

-- the order keeps precedence
precedes : (h : History) → HistoryLaws h → (xs : List ℕ) → IsOrder h xs → (x y i j : ℕ) (e : End) → slice_get xs i ≡ Some x → slice_get xs j ≡ Some y → (called h x).end ≡ Some e → e.at < (called h y).first → i < j
precedes h l xs o x y i j e a b d w = which (cases_order i j)
  where
    which : (i ≡ j) ⊎ ((i < j) ⊎ (j < i)) → i < j
    which (inl same) = let z : x ≡ y = same_Some x y (sym a ∙ ap (slice_get xs) same ∙ b) in absurd (omega (arith, w, (l.ends x e d).0, ap (λ q. (called h q).first) z))
    which (inr (inl z)) = z
    which (inr (inr z)) =
        let r = ranked h l x (o.placed i x a) in
        let s = ranked h l y (o.placed j y b) in
        let v = o.rises j i y x s.0 r.0 z b a s.1 r.1 in
        absurd (omega (arith, v, w, (rank_inside h l x r.0 r.1).end e d, (rank_inside h l y s.0 s.1).first))

-- the laws of the order
pub order_has_laws : (h : History) → HistoryLaws h → (xs : List ℕ) → IsOrder h xs → OrderLaws h xs
order_has_laws h l xs o = record {
  once = once h l xs o;
  precedes = precedes h l xs o;
  ranked = ranked h l;
  one_rank = rank_unique h l;
  inside = rank_inside h l;
  gets = λ x key at r rank e k. let s = get_separates h l x key at r rank e k in record { gap = s.0; is_gap = s.1; of_key = s.2; reply = s.3; separates = s.4 };
  scans = λ x from to at pairs rank e k key y z. let s = scan_separates h l x from to at pairs rank e k key y z in record { gap = s.0; of_key = s.1; reply = s.2; separates = s.3 };
  get_answers = λ x key at r rank e k. let s = get_separates h l x key at r rank e k in let y = last_below h l key rank s.0 s.2 s.4 in (y.0, y.1, s.3 ∙ ap answer_of (sym y.2));
  scan_gives = λ x from to at pairs rank e k key v w. let s = scan_separates h l x from to at pairs rank e k key v w in let y = last_below h l key rank s.0 s.1 s.3 in (y.0, y.1, s.2 ∙ sym y.2);
  tops = λ x from to at pairs d e g key y z. scan_top h l x from to at pairs d e g key y z;
  no_others = λ x from to at pairs e key w. none_below key from to pairs (l.scanned x from to at pairs e).rises w;
  directly = stands_directly h l;
}
