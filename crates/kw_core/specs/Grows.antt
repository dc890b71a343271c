-- What a longer list of events leaves of a history.
use Rattle.std.specs.Prelude.{ℕ, ◌≡◌, ◌<◌, true, length}
use Rattle.kw_core.specs.History.{History, attempt}
use Rattle.kw_core.specs.HistoryLaws.{IsPut}

-- an attempt that was there keeps all that is known of it; what is announced now is announced at
-- `now` or later
pub record AttemptGrows (h h' : History) (now p : ℕ) : Type 0 where
  pub key : (attempt h' p).key ≡ (attempt h p).key
  pub value : (attempt h' p).value ≡ (attempt h p).value
  pub add : (attempt h' p).add ≡ (attempt h p).add
  pub announced : (attempt h p).is_announced ≡ true → ((attempt h' p).is_announced ≡ true) × ((attempt h' p).announced ≡ (attempt h p).announced)
  pub stamped : IsPut h p → IsPut h' p × ((attempt h' p).version ≡ (attempt h p).version) × ((attempt h' p).load ≡ (attempt h p).load) × ((attempt h' p).at ≡ (attempt h p).at)
  pub lost : (attempt h p).is_lost ≡ true → (attempt h' p).is_lost ≡ true

-- h' goes on from h, whose log has `now` entries
pub record Grows (h h' : History) (now : ℕ) : Type 0 where
  pub old : (p : ℕ) → p < length h.attempts → AttemptGrows h h' now p
  pub newly : (q : ℕ) → (attempt h' q).is_announced ≡ true → (attempt h' q).announced < now → (q < length h.attempts) × ((attempt h q).is_announced ≡ true)
