-- The replies of a valid list of events: their numbers are in range, since each value that is
-- answered was put.
use Rattle.std.proofs.Common.{ℕ, suc, ◌≡◌, ◌<◌, ◌≤◌, ◌^◌, cond, eq-eqb, ne_eqb, Option, Some, None, List, [], ◌∷◌, arith, refl, sym, ap, ◌∙◌, length}
use Rattle.std.specs.List.{AllByRecursion}
use Rattle.std.proofs.lemmas.Option.{same_Some}
use Rattle.kw_model.specs.Map.{value_of}
use Rattle.kw_model.specs.declared.call.Call.{Call}
use Rattle.kw_model.specs.declared.call.Call.TheVariants.{Put, Del, Get, Scan, Pin, ScanAt, Unpin}
use Rattle.kw_model.specs.declared.call.Reply.{Reply}
use Rattle.kw_model.specs.declared.call.Reply.TheVariants.{Done, Value, Absent, Pairs, NoRows, Spent, Stopped, Held, NotPinned}
use Rattle.kw_line.specs.Line.{FitsCall}
use Rattle.kw_core.specs.History.{History, attempt, called}
use Rattle.kw_core.specs.declared.history.End.{End}
use Rattle.kw_core.specs.HistoryLaws.{HistoryLaws, IsPut, IsGapOf, Makes, Answers, RisesWithin, answer_of, shows}
use Rattle.kw_core.proofs.Attempts.{in_range}
use Rattle.kw_judge.specs.Record.{IsPair, FitsReply}

module _ (h : History) (laws : HistoryLaws h) (fits : (x : ℕ) → x < length h.calls → FitsCall (called h x).call) where
  -- a value that was put is in range
  value_fits : (p v : ℕ) → IsPut h p → (attempt h p).value ≡ Some v → v < 2 ^ 63
  value_fits p v is e =
      let a = laws.attempted p (in_range h p is) in
      at (called h (attempt h p).call).call (fits (attempt h p).call a.call) a.makes
    where
      at : (c : Call) → FitsCall c → Makes c (attempt h p).key (attempt h p).value → v < 2 ^ 63
      at (Put k w) f m = omega (arith, f.1, same_Some w v (sym m.1 ∙ e))
      at (Del k) f m = let z : None ≡ Some v = sym m.1 ∙ e in absurd (cc)
      at (Get k) f m = absurd m
      at (Scan a b) f m = absurd m
      at Pin f m = absurd f
      at (ScanAt a b) f m = absurd f
      at Unpin f m = absurd f

  -- what a gap shows is in range
  shown_fits : (key : ℕ) (o : Option ℕ) (v : ℕ) → IsGapOf h key o → shows h o ≡ Some v → v < 2 ^ 63
  shown_fits key None v g e = cc
  shown_fits key (Some p) v g e = value_fits p v g.is_put e

  value_fits_answer : (v : ℕ) (o : Option ℕ) → Value v ≡ answer_of o → o ≡ Some v
  value_fits_answer v None e = cc
  value_fits_answer v (Some w) e = cc

  -- pairs whose keys rise, and whose values are in range, are in range
  pairs_fit : (low upto : ℕ) (ps : List (ℕ × ℕ)) → upto < 2 ^ 32 → RisesWithin low upto ps → ((key v : ℕ) → low ≤ key → key ≤ upto → value_of key ps ≡ Some v → v < 2 ^ 63) → AllByRecursion IsPair ps
  pairs_fit low upto [] u r f = tt
  pairs_fit low upto (p ∷ ps) u r f = ((omega (arith, r.1, u), f p.0 p.1 r.0 r.1 (ap (λ b. cond b (Some p.1) (value_of p.0 ps)) (eq-eqb p.0 p.0 refl))), pairs_fit (suc p.0) upto ps u r.2 later)
    where
      later : (key v : ℕ) → suc p.0 ≤ key → key ≤ upto → value_of key ps ≡ Some v → v < 2 ^ 63
      later key v l m e = f key v (omega (arith, r.0)) m (ap (λ b. cond b (Some p.1) (value_of key ps)) (ne_eqb key p.0 (λ t. omega (arith, t))) ∙ e)

  -- the reply of a call that ended is in range
  pub reply_fits : (x : ℕ) (e : End) → x < length h.calls → (called h x).end ≡ Some e → FitsReply e.reply
  reply_fits x e l ended = at (called h x).call refl (fits x l) e.reply refl (laws.ends x e ended).1
    where
      at : (c : Call) → (called h x).call ≡ c → FitsCall c → (r : Reply) → e.reply ≡ r → Answers c (called h x).put r → FitsReply r
      at (Put k v) is f Done same a = tt
      at (Put k v) is f (Value w) same a = absurd a
      at (Put k v) is f Absent same a = tt
      at (Put k v) is f (Pairs ps) same a = absurd a
      at (Put k v) is f NoRows same a = tt
      at (Put k v) is f Spent same a = tt
      at (Put k v) is f Stopped same a = tt
      at (Put k v) is f Held same a = absurd a
      at (Put k v) is f NotPinned same a = absurd a
      at (Del k) is f Done same a = tt
      at (Del k) is f (Value w) same a = absurd a
      at (Del k) is f Absent same a = tt
      at (Del k) is f (Pairs ps) same a = absurd a
      at (Del k) is f NoRows same a = tt
      at (Del k) is f Spent same a = tt
      at (Del k) is f Stopped same a = tt
      at (Del k) is f Held same a = absurd a
      at (Del k) is f NotPinned same a = absurd a
      at (Get k) is f Done same a = tt
      at (Get k) is f (Value w) same a =
          let g = laws.got x k e.at (Value w) (is, ended ∙ ap (λ r. Some (record { at = e.at; reply = r })) same) in
          shown_fits k g.gap w g.knows.gap (value_fits_answer w (shows h g.gap) g.knows.reply)
      at (Get k) is f Absent same a = tt
      at (Get k) is f (Pairs ps) same a = absurd a
      at (Get k) is f NoRows same a = tt
      at (Get k) is f Spent same a = tt
      at (Get k) is f Stopped same a = tt
      at (Get k) is f Held same a = absurd a
      at (Get k) is f NotPinned same a = absurd a
      at (Scan i j) is f Done same a = tt
      at (Scan i j) is f (Value w) same a = absurd a
      at (Scan i j) is f Absent same a = tt
      at (Scan i j) is f (Pairs ps) same a =
          let s = laws.scanned x i j e.at ps (is, ended ∙ ap (λ r. Some (record { at = e.at; reply = r })) same) in
          pairs_fit i j ps f.1 s.rises (λ key v a b g. let k = s.keys key a b in shown_fits key k.0 v k.1.gap (sym k.1.reply ∙ g))
      at (Scan i j) is f NoRows same a = tt
      at (Scan i j) is f Spent same a = tt
      at (Scan i j) is f Stopped same a = tt
      at (Scan i j) is f Held same a = absurd a
      at (Scan i j) is f NotPinned same a = absurd a
      at Pin is f r same a = absurd f
      at (ScanAt i j) is f r same a = absurd f
      at Unpin is f r same a = absurd f
