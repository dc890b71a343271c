-- A row has one status.
use Rattle.std.proofs.Common.{◌≡◌, sym, ◌∙◌}
use Rattle.kw_rows.specs.Ledger.{Status, Free, Infant, Live, Dead}

-- live and infant
pub not_infant : {A : Type 0} (s : Status) → s ≡ Live → s ≡ Infant → A
not_infant s e f = let x : Live ≡ Infant = sym e ∙ f in absurd (cc)

-- live and dead
pub not_dead : {A : Type 0} (s : Status) → s ≡ Live → s ≡ Dead → A
not_dead s e f = let x : Live ≡ Dead = sym e ∙ f in absurd (cc)

-- live and free
pub not_free : {A : Type 0} (s : Status) → s ≡ Live → s ≡ Free → A
not_free s e f = let x : Live ≡ Free = sym e ∙ f in absurd (cc)

-- dead and infant
pub dead_infant : {A : Type 0} (s : Status) → s ≡ Dead → s ≡ Infant → A
dead_infant s e f = let x : Dead ≡ Infant = sym e ∙ f in absurd (cc)

-- dead and free
pub dead_free : {A : Type 0} (s : Status) → s ≡ Dead → s ≡ Free → A
dead_free s e f = let x : Dead ≡ Free = sym e ∙ f in absurd (cc)
