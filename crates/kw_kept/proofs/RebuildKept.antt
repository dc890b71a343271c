-- The replacing of rows keeps what rows show of the stamped puts: of each old row the new ones have
-- kept what each version shows that is listed, and what the newest shows; a version that is not
-- listed is at least all of the old row, so it shows the same as the newest.
use Rattle.std.proofs.Common.{ℕ, ◌≡◌, ◌⊎◌, inl, inr, ◌≤◌, Option, arith}
use Rattle.kw_kept.specs.Puts.{Puts, Greatest, Shows}
use Rattle.kw_kept.specs.Kept.{Rows, Kept, Rebuilds, IsAsBefore, Replaces}
use Rattle.kw_kept.proofs.GreatestPut.{greatest_of_same}
use Rattle.kw_kept.proofs.Shown.{shows_through}

-- what a set shows at a version that is at least all of its key, it shows at each other such
-- version
pub shows_beyond : (puts : Puts) (P Q : ℕ → Type 0) (k most u v : ℕ) → ((p : ℕ) → P p → (puts p).key ≡ k → (puts p).version ≤ most) → ((p : ℕ) → Q p → (puts p).key ≡ k → (puts p).version ≤ most) → most ≤ u → most ≤ v → Shows puts P Q k u → Shows puts P Q k v
shows_beyond puts P Q k most u v f g l m h b t x y = h b t (down P f b x) (down Q g t y)
  where
    down : (R : ℕ → Type 0) → ((p : ℕ) → R p → (puts p).key ≡ k → (puts p).version ≤ most) → (o : Option ℕ) → Greatest puts R k v o → Greatest puts R k u o
    down R f o = greatest_of_same puts R R k v u o (λ p e i w. (i, omega (arith, f p i e, l))) (λ p e i w. (i, omega (arith, f p i e, m)))

-- a row that was built of another shows what that showed, at each version that is listed or at
-- least all of it
pub rebuild_shown : (puts : Puts) (old new stamped listed : ℕ → Type 0) (k u most newest : ℕ) → Rebuilds puts old new listed k most newest → most ≤ newest → listed u ⊎ (most ≤ u) → Shows puts old stamped k u → Shows puts new stamped k u
rebuild_shown puts old new stamped listed k u most newest r m c h = shows_through puts new old stamped k u (r.found u) (which c) h
  where
    which : listed u ⊎ (most ≤ u) → Shows puts new old k u
    which (inl i) = r.at_listed u i
    which (inr l) = shows_beyond puts new old k most newest u (λ p i e. r.bound p (r.of_old p i e) e) r.bound m l r.at_newest

-- a row that has the cells of the key that it had shows what it did
pub as_before_shown : (puts : Puts) (old new stamped : ℕ → Type 0) (k u : ℕ) → IsAsBefore puts old new k → Shows puts old stamped k u → Shows puts new stamped k u
as_before_shown puts old new stamped k u s h b t x y = h b t (greatest_of_same puts new old k u u b (λ p e i l. (s.had p i e, l)) (λ p e i l. (s.has p i e, l)) x) y

-- what a set shows of the stamped puts it shows of them where they are the same
stamped_shown : (puts : Puts) (P Q Q' : ℕ → Type 0) (k u : ℕ) → ((p : ℕ) → Q' p → Q p) → ((p : ℕ) → Q p → Q' p) → Shows puts P Q k u → Shows puts P Q' k u
stamped_shown puts P Q Q' k u was still h b t x y = h b t x (greatest_of_same puts Q' Q k u u t (λ p e i l. (was p i, l)) (λ p e i l. (still p i, l)) y)

-- rows that have kept what is needed still have after some are replaced
pub replace_kept : (puts : Puts) (rows rows' : Rows) (needed listed : ℕ → Type 0) (most newest : ℕ) → Replaces puts rows rows' needed listed most newest → Kept puts rows needed → Kept puts rows' needed
replace_kept puts rows rows' needed listed most newest r h q k u m n = stamped_shown puts (rows'.in_row q) rows.stamped rows'.stamped k u r.was r.still (which (r.each q k m))
  where
    which : (rows.holds q k × IsAsBefore puts (rows.in_row q) (rows'.in_row q) k) ⊎ (g : ℕ) × rows.holds g k × Rebuilds puts (rows.in_row g) (rows'.in_row q) listed k most newest → Shows puts (rows'.in_row q) rows.stamped k u
    which (inl s) = as_before_shown puts (rows.in_row q) (rows'.in_row q) rows.stamped k u s.1 (h q k u s.0 n)
    which (inr s) = rebuild_shown puts (rows.in_row s.0) (rows'.in_row q) rows.stamped listed k u most newest s.2 r.beyond (r.covered u n) (h s.0 k u s.1 n)
