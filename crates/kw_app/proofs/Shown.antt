-- What the first of the passes shows once all blocks are answered.
use Rattle.std.proofs.Common.{◌≡◌, ℕ, true, All, List, [], ◌∷◌, sym, ap, ◌∙◌, subst}
use Rattle.std.proofs.lemmas.Option.{get_or_from_slice_get}
use Rattle.kw_core.specs.Events.{is_valid}
use Rattle.kw_line.specs.declared.answer.Answer.{Answer}
use Rattle.kw_line.specs.declared.item.Item.{Item}
use Rattle.kw_line.specs.Answered.{answers_for}
use Rattle.kw_world.specs.declared.event.Event.{Event}
use Rattle.kw_world.specs.declared.opening.Opening.{Opening}
use Rattle.kw_world.specs.Opening.{IsOpening}
use Rattle.kw_world.specs.Sizes.{product}
use Rattle.kw_table.specs.declared.pass.Pass.{Pass}
use Rattle.kw_table.specs.Passes.{view}
use Rattle.kw_map.specs.Meetings.{front_seen}
use Rattle.kw_map.specs.declared.kiwi.Kiwi.{Kiwi}
use Rattle.kw_map.specs.Refusals.{HasReason}
use Rattle.kw_map.proofs.Refusals.{seat_caused}
use Rattle.kw_work.specs.declared.line.Line.{Line}
use Rattle.kw_work.specs.Dealing.{part, lines_of, blocks_of}
use Rattle.kw_work.proofs.Asked.{element_at}
use Rattle.kw_work.proofs.Numbers.{forms-lines_of, joined-blocks_of}
use Rattle.kw_app.specs.Recorded.{asks, AreReplies, printed, recorded, seat_calls}
use Rattle.kw_app.specs.Rounds.{AreTogether}
use Rattle.kw_app.specs.Running.{joined, Ran, Shows}
use Rattle.kw_app.proofs.Runs.{in_blocks}

-- what holds of the first of a list, where there is one
abbrev pub IfFirst : {A : Type 0} → List A → (A → Type 0) → Type 0
IfFirst [] P = Unit {0}
IfFirst (x ∷ xs) P = P x

-- each call of a seat was refused only for what its seat found
all_caused : (o : Opening) (E : List Event) → IsOpening product o → is_valid product o E ≡ true → (w : ℕ) → All (HasReason o E w) (seat_calls o E w)
all_caused o E opens valid w i d lt =
    let c = element_at (seat_calls o E w) i lt in
    subst (HasReason o E w) (sym (get_or_from_slice_get (seat_calls o E w) i c.0 d c.1)) (seat_caused o E opens valid w i c.0 c.1)

-- what the first pass shows
shows_first : (m : Kiwi) (o : Opening) (items : List Item) (answers : List Answer) (ps : List Pass) → m.opening ≡ o → AreTogether m o.seats (front_seen ps) ps → Ran o o.seats (blocks_of 1 items) (front_seen ps) answers
    → IfFirst ps (λ p. Shows o items answers (view p))
shows_first m o items answers [] is together ran = tt
shows_first m o items answers (p ∷ ps) is together ran =
    let at = together.each 0 p together.some in
    let opening : (view p).opening ≡ o = at.idle.of_map.1 ∙ is in
    let valid : is_valid product o (view p).seen ≡ true = ap (λ (x : Opening). is_valid product x (view p).seen) (sym opening) ∙ p.known.valid in
    let lines : joined (blocks_of 1 items) ≡ lines_of 1 items = joined-blocks_of 1 items in
    record {
      number = at.number;
      opening = opening;
      valid = valid;
      asks_are = λ w lt. ran.asks_are w lt ∙ ap (λ x. asks (part o.seats w x)) lines;
      ended = ran.ended;
      are_replies = λ w lt. subst (λ x. AreReplies (part o.seats w x) (seat_calls o (view p).seen w)) lines (ran.are_replies w lt);
      causes = λ w lt. all_caused o (view p).seen (subst (IsOpening product) opening p.known.opens) valid w;
      prints = ran.prints ∙ (ap (λ x. printed o.seats (seat_calls o (view p).seen) x) lines
          ∙ ap (λ fs. answers_for fs (recorded o.seats (seat_calls o (view p).seen) (lines_of 1 items))) (forms-lines_of 1 items));
      blocks = in_blocks o o.seats (blocks_of 1 items) (view p).seen answers ran;
    }

-- the same, of blocks that are those of the items
pub shows : (m : Kiwi) (o : Opening) (items : List Item) (ps : List Pass) (answers : List Answer) (blocks : List (List Line)) → m.opening ≡ o → blocks ≡ blocks_of 1 items
    → AreTogether m o.seats (front_seen ps) ps → Ran m.opening o.seats blocks (front_seen ps) answers → IfFirst ps (λ p. Shows o items answers (view p))
shows m o items ps answers blocks is same together ran =
    shows_first m o items answers ps is together (subst (λ (x : Opening). Ran x o.seats (blocks_of 1 items) (front_seen ps) answers) is (subst (λ x. Ran m.opening o.seats x (front_seen ps) answers) same ran))
