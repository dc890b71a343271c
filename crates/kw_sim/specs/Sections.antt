-- The lines of a record, as the code gathers and prints them: the places of each section's calls in
-- the history, and their texts.
use Rattle.std.specs.Prelude.{ℕ, ◌≡◌, ◌≢◌, ◌<◌, ◌≤◌, is_some, Option, Some, None, List, [], ◌∷◌, ◌++◌, filter, length, slice_get, take}
use Rattle.std.specs.List.{flat_map}
use Rattle.kw_line.specs.declared.words.TheConstants.{LINE_FEED}
use Rattle.kw_core.specs.History.{History, called}
use Rattle.kw_core.specs.declared.history.CallLog.{CallLog}
use Rattle.kw_core.specs.declared.history.End.{End}
use Rattle.kw_judge.specs.Texts.{done_text, open_text}
use Rattle.kw_sim.specs.declared.recording.LinePlace.{LinePlace}
use Rattle.kw_sim.specs.declared.recording.Section.{Section}
use Rattle.kw_sim.specs.declared.recording.Section.TheVariants.{Done, Open}
use Rattle.kw_sim.specs.Recorded.{call_name}

-- what the line of a call with this end, put and seat stands by in a section, if it has one there
abbrev pub stands_by : Section → Option End → Option ℕ → ℕ → Option ℕ
stands_by Done (Some e) put seat = Some e.at
stands_by Done None put seat = None
stands_by Open (Some e) put seat = None
stands_by Open None (Some p) seat = Some seat
stands_by Open None None seat = None

abbrev pub stands_at : Section → CallLog → Option ℕ
stands_at s c = stands_by s c.end c.put c.seat

-- the call has a line in the section, which stands by this
abbrev pub IsPlaceOf : History → Section → LinePlace → Type 0
IsPlaceOf h s p = stands_at s (called h p.call) ≡ Some p.at

-- the calls of the section that are below n, each once, in the order in which they began
pub record ArePlacesBelow (h : History) (s : Section) (n : ℕ) (ps : List LinePlace) : Type 0 where
  pub each : (i : ℕ) (p : LinePlace) → slice_get ps i ≡ Some p → IsPlaceOf h s p
  pub below : (i : ℕ) (p : LinePlace) → slice_get ps i ≡ Some p → p.call < n
  pub every : (p : LinePlace) → p.call < n → IsPlaceOf h s p → (i : ℕ) × (slice_get ps i ≡ Some p)
  pub rises : (i j : ℕ) (p q : LinePlace) → i < j → slice_get ps i ≡ Some p → slice_get ps j ≡ Some q → p.call < q.call
  pub count : length ps ≡ length (filter (λ c. is_some (stands_at s c)) (take n h.calls))

-- the calls of the section, each once, by what their lines stand by
pub record ArePlaces (h : History) (s : Section) (ps : List LinePlace) : Type 0 where
  pub each : (i : ℕ) (p : LinePlace) → slice_get ps i ≡ Some p → IsPlaceOf h s p
  pub every : (p : LinePlace) → IsPlaceOf h s p → (i : ℕ) × (slice_get ps i ≡ Some p)
  pub apart : (i j : ℕ) (p q : LinePlace) → i < j → slice_get ps i ≡ Some p → slice_get ps j ≡ Some q → p.call ≢ q.call
  pub sorted : (i j : ℕ) (p q : LinePlace) → i < j → slice_get ps i ≡ Some p → slice_get ps j ≡ Some q → p.at ≤ q.at
  pub count : length ps ≡ length (filter (λ c. is_some (stands_at s c)) h.calls)

-- the line of a call with this end
abbrev pub line_by : CallLog → Option End → List ℕ
line_by c (Some e) = done_text (record { name = call_name c; first = c.first; last = e.at; call = c.call; reply = e.reply })
line_by c None = open_text (record { name = call_name c; first = c.first; call = c.call })

-- the line of a call, with its line feed
abbrev pub line_of : CallLog → List ℕ
line_of c = line_by c c.end ++ LINE_FEED ∷ []

-- the lines of these calls
abbrev pub lines_at : History → List LinePlace → List ℕ
lines_at h ps = flat_map (λ (p : LinePlace). line_of (called h p.call)) ps

-- each place is that of a call
abbrev pub AreWithin : History → List LinePlace → Type 0
AreWithin h ps = (i : ℕ) (p : LinePlace) → slice_get ps i ≡ Some p → p.call < length h.calls
