-- What each event adds to the record, one constructor for each change.
use Rattle.std.proofs.Common.{ℕ, ◌≡◌, ◌+◌, ◌==◌, Bool, true, false, Option, Some, None, refl, if◌then◌else◌}
use Rattle.kw_words.specs.declared.layout.Name.TheVariants as name
use Rattle.kw_words.specs.declared.pend.Pend.{Pend}
use Rattle.kw_words.specs.declared.pend.Pend.TheVariants as pend
use Rattle.kw_words.specs.Pend.{pend_word}
use Rattle.kw_words.specs.Count.{count_of}
use Rattle.kw_model.specs.declared.call.Call.{Call}
use Rattle.kw_world.specs.declared.answer.Answer.{Answer}
use Rattle.kw_world.specs.Answers.{reply_of}
use Rattle.kw_world.specs.declared.activity.Activity.{Activity}
use Rattle.kw_world.specs.declared.activity.rebalance.freeze.Freeze.TheVariants as Freeze
use Rattle.kw_world.specs.declared.activity.look.Look.TheVariants as Look
use Rattle.kw_world.specs.declared.activity.put.Put.TheVariants as Put
use Rattle.kw_world.specs.declared.activity.rebalance.Rebalance.TheVariants as Rebalance
use Rattle.kw_world.specs.declared.local.Local.{Local}
use Rattle.kw_world.specs.declared.event.Choice.{Choice}
use Rattle.kw_world.specs.declared.event.Choice.TheVariants.{Begin, Go, Guess, Stop}
use Rattle.kw_world.specs.Sizes.{Sizes}
use Rattle.kw_world.specs.Calls.{first_key, put_value}
use Rattle.kw_world.specs.PutTransitions.{has_room, given_of}
use Rattle.kw_core.specs.Noted.{Change, Nothing, Begins, Adds, Announces, Loses, Stamps, Ends}
use Rattle.kw_core.specs.Run.{SeatLog, Origins, change_of, beginning, helping, losing, freezing, answering, drawing}
use Rattle.kw_core.specs.Words.{Words}
use Rattle.kw_core.proofs.Arrows.{eq_from}
use Rattle.kw_core.proofs.Happens.{found_at}

-- the change that the event of an activity makes, with what it found
pub data Makes (z : Sizes) (v : Words) (s : ℕ) (choice : Choice) (l : Local) (g : SeatLog) (o : Origins) : Activity → Change → Type 0 where
  makes_nothing : (a : Activity) → Makes z v s choice l g o a Nothing
  makes_begin : (call : Call) → choice ≡ Begin call → Makes z v s choice l g o Activity.Idle (Begins s (l.number + 1) call)
  makes_add : has_room z (count_of (v (name.Count l.row))) ≡ true → Makes z v s choice l g o (Activity.Put Put.Add) (Adds g.call s (first_key l.call) (put_value l.call) l.row (given_of (count_of (v (name.Count l.row)))))
  makes_announce : v (name.Pend l.row s) ≡ pend_word pend.Idle → Makes z v s choice l g o (Activity.Put Put.Announce) (Announces g.own)
  makes_stamp : v (name.Pend l.row s) ≡ pend_word (pend.Pending l.cell) → Makes z v s choice l g o (Activity.Put Put.Stamp) (Stamps g.own l.version g.loaded)
  makes_help : (p : ℕ) → v (name.Pend l.row l.looked) ≡ pend_word (pend.Pending l.saw) → o l.row l.saw ≡ Some p → Makes z v s choice l g o (Activity.Look Look.Help) (Stamps p l.helping g.loaded)
  makes_lose : (i c p : ℕ) → l.rebalance.entry ≡ pend.Pending c → v (name.Pend l.rebalance.hand i) ≡ pend_word (pend.Pending c) → o l.rebalance.hand c ≡ Some p → Makes z v s choice l g o (Activity.Rebalance (Rebalance.Freeze (Freeze.Entry i))) (Loses p)
  makes_end : (answer : Answer) → Makes z v s choice l g o (Activity.Leave answer) (Ends g.call (reply_of answer l.pairs) (answering l.call l g) (drawing answer l g))

-- every event makes one of these changes
pub made : (z : Sizes) (v : Words) (s : ℕ) (choice : Choice) (l : Local) (g : SeatLog) (o : Origins) (a : Activity) → Makes z v s choice l g o a (change_of z a s choice l (found_at z v a s choice l) g o)
made z v s choice l g o Activity.Idle = begins choice refl
  where
    begins : (c : Choice) → choice ≡ c → Makes z v s choice l g o Activity.Idle (beginning c s l)
    begins (Begin call) e = makes_begin call e
    begins Go e = makes_nothing Activity.Idle
    begins (Guess q) e = makes_nothing Activity.Idle
    begins Stop e = makes_nothing Activity.Idle
made z v s choice l g o (Activity.Put Put.Add) = saw (has_room z (count_of (v (name.Count l.row)))) refl
  where
    saw : (b : Bool) → has_room z (count_of (v (name.Count l.row))) ≡ b → Makes z v s choice l g o (Activity.Put Put.Add) (if b then Adds g.call s (first_key l.call) (put_value l.call) l.row (given_of (count_of (v (name.Count l.row)))) else Nothing)
    saw true e = makes_add e
    saw false e = makes_nothing (Activity.Put Put.Add)
made z v s choice l g o (Activity.Put Put.Announce) = saw (v (name.Pend l.row s) == pend_word pend.Idle) refl
  where
    saw : (b : Bool) → (v (name.Pend l.row s) == pend_word pend.Idle) ≡ b → Makes z v s choice l g o (Activity.Put Put.Announce) (if b then Announces g.own else Nothing)
    saw true e = makes_announce (eq_from _ _ e)
    saw false e = makes_nothing (Activity.Put Put.Announce)
made z v s choice l g o (Activity.Put Put.Stamp) = saw (v (name.Pend l.row s) == pend_word (pend.Pending l.cell)) refl
  where
    saw : (b : Bool) → (v (name.Pend l.row s) == pend_word (pend.Pending l.cell)) ≡ b → Makes z v s choice l g o (Activity.Put Put.Stamp) (if b then Stamps g.own l.version g.loaded else Nothing)
    saw true e = makes_stamp (eq_from _ _ e)
    saw false e = makes_nothing (Activity.Put Put.Stamp)
made z v s choice l g o (Activity.Look Look.Help) = saw (v (name.Pend l.row l.looked) == pend_word (pend.Pending l.saw)) refl
  where
    helps : (x : Option ℕ) → o l.row l.saw ≡ x → v (name.Pend l.row l.looked) ≡ pend_word (pend.Pending l.saw) → Makes z v s choice l g o (Activity.Look Look.Help) (helping x l.helping g.loaded)
    helps (Some p) e w = makes_help p w e
    helps None e w = makes_nothing (Activity.Look Look.Help)

    saw : (b : Bool) → (v (name.Pend l.row l.looked) == pend_word (pend.Pending l.saw)) ≡ b → Makes z v s choice l g o (Activity.Look Look.Help) (if b then helping (o l.row l.saw) l.helping g.loaded else Nothing)
    saw true e = helps (o l.row l.saw) refl (eq_from _ _ e)
    saw false e = makes_nothing (Activity.Look Look.Help)
made z v s choice l g o (Activity.Rebalance (Rebalance.Freeze (Freeze.Entry i))) = saw (v (name.Pend l.rebalance.hand i) == pend_word l.rebalance.entry) refl
  where
    loses : (c : ℕ) (x : Option ℕ) → l.rebalance.entry ≡ pend.Pending c → v (name.Pend l.rebalance.hand i) ≡ pend_word (pend.Pending c) → o l.rebalance.hand c ≡ x → Makes z v s choice l g o (Activity.Rebalance (Rebalance.Freeze (Freeze.Entry i))) (losing x)
    loses c (Some p) y w e = makes_lose i c p y w e
    loses c None y w e = makes_nothing (Activity.Rebalance (Rebalance.Freeze (Freeze.Entry i)))

    freezes : (x : Pend) → l.rebalance.entry ≡ x → v (name.Pend l.rebalance.hand i) ≡ pend_word x → Makes z v s choice l g o (Activity.Rebalance (Rebalance.Freeze (Freeze.Entry i))) (freezing x l.rebalance.hand o)
    freezes pend.Idle y w = makes_nothing (Activity.Rebalance (Rebalance.Freeze (Freeze.Entry i)))
    freezes (pend.Pending c) y w = loses c (o l.rebalance.hand c) y w refl
    freezes (pend.Stamped c version) y w = makes_nothing (Activity.Rebalance (Rebalance.Freeze (Freeze.Entry i)))
    freezes pend.Frozen y w = makes_nothing (Activity.Rebalance (Rebalance.Freeze (Freeze.Entry i)))

    saw : (b : Bool) → (v (name.Pend l.rebalance.hand i) == pend_word l.rebalance.entry) ≡ b → Makes z v s choice l g o (Activity.Rebalance (Rebalance.Freeze (Freeze.Entry i))) (if b then freezing l.rebalance.entry l.rebalance.hand o else Nothing)
    saw true e = freezes l.rebalance.entry refl (eq_from _ _ e)
    saw false e = makes_nothing (Activity.Rebalance (Rebalance.Freeze (Freeze.Entry i)))
made z v s choice l g o (Activity.Leave answer) = makes_end answer
made z v s choice l g o a = makes_nothing a
