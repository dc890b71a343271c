-- The points of puts.
use Rattle.std.proofs.Common.{ℕ, ◌≡◌, ◌<◌, ◌≤◌, ◌⊎◌, inl, inr, arith, sym, ◌∙◌, ap, subst, refl}
use Rattle.std.proofs.lemmas.Bool.{cases_lt, cases_eq}
use Rattle.std.proofs.lemmas.Option.{same_Some}
use Rattle.kw_core.proofs.Attempts.{in_range}
use Rattle.kw_core.specs.History.{History, attempt, Stands}
use Rattle.kw_core.specs.declared.history.Logged.{Logged}
use Rattle.kw_words.specs.declared.kind.Kind.{Kind}
use Rattle.kw_core.specs.declared.history.Drawn.{Drawn}
use Rattle.kw_words.specs.declared.kind.Kind.TheVariants.{LoadClock, LoadEpoch}
use Rattle.kw_core.specs.HistoryLaws.{IsPut, StandsBefore, HistoryLaws, Attempted, DrawLogged, IsDraw}
use Rattle.kw_order.specs.Order.{IsMate, IsPoint}

-- its times
pub times : (h : History) → HistoryLaws h → (p : ℕ) → IsPut h p → Attempted h p
times h l p s = l.attempted p (in_range h p s)

-- what is known of a put by itself
pub record Timed (h : History) (p : ℕ) : Type 0 where
  pub announced : (attempt h p).add < (attempt h p).announced
  pub load : (attempt h p).announced < (attempt h p).load
  pub at : (attempt h p).load < (attempt h p).at

-- the times of a put
pub timed : (h : History) → HistoryLaws h → (p : ℕ) → IsPut h p → Timed h p
timed h l p s = let t = times h l p s in record { announced = t.announced (t.is_announced s); load = t.load s; at = t.at s }

-- a put is its own mate
pub own_mate : (h : History) (p : ℕ) → IsPut h p → IsMate h p p
own_mate h p s = record { is_put = s; key = refl; version = refl; add = omega arith }

-- a point is a clock load of the put's version, after the put's add and not after its own load
pub record Placed (h : History) (p a : ℕ) : Type 0 where
  pub stands : Stands h a LoadClock (attempt h p).version
  pub add : (attempt h p).add < a
  pub load : a ≤ (attempt h p).load

-- this holds of every point
pub point_placed : (h : History) → HistoryLaws h → (p a : ℕ) → IsPut h p → IsPoint h p a → Placed h p a
point_placed h l p a s i = let m = i.is_mate in let t = timed h l i.mate m.is_put in record {
  stands = subst (λ v. Stands h a LoadClock v) m.version (subst (λ x. Stands h x LoadClock (attempt h i.mate).version) (sym i.load) (l.loaded i.mate m.is_put));
  add = omega (arith, m.add, t, i.load);
  load = i.first p (own_mate h p s);
}

-- points follow the order of the puts of a key
pub point_order : (h : History) → HistoryLaws h → (p q a b : ℕ) → IsPut h p → IsPut h q → (attempt h p).key ≡ (attempt h q).key → StandsBefore h p q → IsPoint h p a → IsPoint h q b →
    (a ≤ b) × ((attempt h p).version < (attempt h q).version → a < b)
point_order h l p q a b s t e (inl v) i j =
    let x : a < b = which (cases_lt a b) in (omega arith, λ w. x)
  where
    which : (a < b) ⊎ (b ≤ a) → a < b
    which (inl x) = x
    which (inr x) = let y = l.clock b a LoadClock LoadClock _ _ (point_placed h l q b t j).stands (point_placed h l p a s i).stands x in absurd (omega (arith, y, v))
point_order h l p q a b s t e (inr v) i j =
    let m = j.is_mate in
    let x : a ≤ (attempt h j.mate).load = i.first j.mate (record { is_put = m.is_put; key = m.key ∙ sym e; version = omega (arith, m.version, v); add = omega (arith, m.add, v) }) in
    (omega (arith, x, j.load), λ w. absurd (omega (arith, w, v)))

-- points are unique
pub point_unique : (h : History) (p a b : ℕ) → IsPoint h p a → IsPoint h p b → a ≡ b
point_unique h p a b i j = let x = i.first j.mate j.is_mate in let y = j.first i.mate i.is_mate in omega (arith, i.load, j.load, x, y)

-- a clock load is no begin, and no draw
pub load_not_begin : (h : History) (x c d : ℕ) → Stands h x LoadClock c → Stands h x LoadEpoch d → ⊥
load_not_begin h x c d a b = let e : LoadClock ≡ LoadEpoch = ap (λ (q : Logged). q.kind) (same_Some _ _ (sym a.logged ∙ b.logged)) in cc

-- a clock load is no draw
pub load_not_draw : (h : History) (x c d : ℕ) (k : Kind) → IsDraw k → Stands h x LoadClock c → Stands h x k d → ⊥
load_not_draw h x c d k i a b = subst IsDraw (sym (ap (λ (q : Logged). q.kind) (same_Some _ _ (sym a.logged ∙ b.logged)))) i

-- a clock load that found at most the version drawn is before the draw
pub load_before_draw : (h : History) (d : Drawn) → DrawLogged h d → (a v : ℕ) → Stands h a LoadClock v → v ≤ d.version → a < d.at
load_before_draw h d g a v o w = which (cases_lt a d.at) (cases_eq d.at a)
  where
    which : (a < d.at) ⊎ (d.at ≤ a) → (d.at ≡ a) ⊎ (d.at ≡ a → ⊥) → a < d.at
    which (inl x) _ = x
    which (inr x) (inl e) = absurd (load_not_draw h a v d.version g.kind g.is_draw o (subst (λ q. Stands h q g.kind d.version) e g.stands))
    which (inr x) (inr n) = let y = g.later a LoadClock v (omega arith) o in absurd (omega (arith, y, w))

-- a draw separates
pub draw_above : (h : History) → HistoryLaws h → (d : Drawn) → DrawLogged h d → (p a : ℕ) → IsPut h p → IsPoint h p a → (attempt h p).version ≤ d.version → a < d.at
draw_above h l d g p a s i v = load_before_draw h d g a (attempt h p).version (point_placed h l p a s i).stands v

-- and one of a greater version after it
pub draw_below : (h : History) → HistoryLaws h → (d : Drawn) → DrawLogged h d → (p a : ℕ) → IsPut h p → IsPoint h p a → d.version < (attempt h p).version → d.at < a
draw_below h l d g p a s i v = which (cases_lt d.at a)
  where
    which : (d.at < a) ⊎ (a ≤ d.at) → d.at < a
    which (inl x) = x
    which (inr x) = let y = l.clock a d.at LoadClock g.kind _ _ (point_placed h l p a s i).stands g.stands x in absurd (omega (arith, y, v))
