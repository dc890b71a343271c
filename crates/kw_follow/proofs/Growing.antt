-- How the calls of a pass go on with one event of it.
use Rattle.std.proofs.Common.{ℕ, ◌≡◌, ◌+◌, ◌<◌, ◌≤◌, true, List, [], ◌∷◌, ◌++◌, arith, refl, sym, ◌∙◌, ap, subst, length, length-append, append_assoc, append-nil}
use Rattle.kw_model.specs.declared.call.Call.{Call}
use Rattle.kw_world.specs.declared.answer.Answer.{Answer}
use Rattle.kw_world.specs.Answers.{reply_of}
use Rattle.kw_world.specs.declared.activity.Activity.{Activity}
use Rattle.kw_world.specs.declared.event.Choice.{Choice}
use Rattle.kw_world.specs.declared.event.Choice.TheVariants.{Begin, Go}
use Rattle.kw_world.specs.declared.event.Event.{Event}
use Rattle.kw_world.specs.declared.local.Local.{Local}
use Rattle.kw_world.specs.declared.opening.Opening.{Opening}
use Rattle.kw_world.specs.Sizes.{product}
use Rattle.kw_core.specs.Events.{event, is_valid, of_seat}
use Rattle.kw_laws.specs.SeatCalls.{CallSeen, calls_seen, end_last, seen_after}
use Rattle.kw_core.proofs.Events.{of_seat-append, of_seat-here, valid_front}
use Rattle.kw_laws.proofs.SeatCalls.{calls-own, calls_still}
use Rattle.kw_laws.proofs.SeatLists.{end_last-snoc}
use Rattle.kw_table.specs.declared.pass.Pass.{Pass}
use Rattle.kw_table.specs.declared.shared.Shared.{Shared}
use Rattle.kw_table.specs.Passes.{view, Makes}
use Rattle.kw_table.specs.Views.{local_in}
use Rattle.kw_follow.specs.Calling.{Closes, KeepsCalls, Opens, calls_in, now_in}
use Rattle.kw_follow.specs.Following.{activity_in, held}

-- a list that is added and leaves the length is empty
adds_none : {A : Type 0} (xs ys zs : List A) → xs ++ (ys ++ zs) ≡ xs ++ zs → ys ≡ []
adds_none {A} xs [] zs is = refl
adds_none {A} xs (y ∷ ys) zs is = absurd (omega (arith, ap length is, length-append xs ((y ∷ ys) ++ zs), length-append (y ∷ ys) zs, length-append xs zs))

module _ {s : Shared} {p q : Pass} {c : Choice} {told : ℕ} (makes : Makes s p c told q) where
  -- the events between what the pass had seen and its own are those of other seats
  others : of_seat (view p).number makes.step.later.0 ≡ []
  others =
      let n : ℕ = (view p).number in
      let old : List Event = (view p).seen in
      let rest : List Event = makes.step.later.0 in
      let own : List Event = event n c ∷ [] in
      let front : old ++ rest ≡ makes.step.front = makes.step.later.1 in
      let seen : of_seat n ((old ++ rest) ++ own) ≡ of_seat n old ++ own =
      ap (λ es. of_seat n (es ++ own)) front ∙ (ap (of_seat n) (sym makes.step.seen) ∙ (ap (λ k. of_seat k (view q).seen) (sym makes.step.number) ∙ makes.step.mine)) in
      adds_none (of_seat n old) (of_seat n rest) own
      (sym (append_assoc (of_seat n old) (of_seat n rest) own)
      ∙ (ap (λ es. es ++ own) (sym (of_seat-append n old rest))
      ∙ (ap (λ es. of_seat n (old ++ rest) ++ es) (sym (of_seat-here n c))
      ∙ (sym (of_seat-append n (old ++ rest) own) ∙ seen))))

  -- so its event is the first one of its own since
  pub first_own : of_seat (view p).number makes.step.front ≡ of_seat (view p).number (view p).seen
  first_own =
      ap (of_seat (view p).number) (sym makes.step.later.1)
      ∙ (of_seat-append (view p).number (view p).seen makes.step.later.0
      ∙ (ap (λ es. of_seat (view p).number (view p).seen ++ es) others
      ∙ append-nil (of_seat (view p).number (view p).seen)))

  -- all that the pass has then seen is valid
  all_valid : is_valid product (view p).opening (makes.step.front ++ event (view p).number c ∷ []) ≡ true
  all_valid = subst (λ es. is_valid product (view p).opening es ≡ true) makes.step.seen makes.step.valid

  -- so its calls were the same before its event
  calls_before : calls_seen product (view p).opening (view p).number makes.step.front ≡ calls_in p
  calls_before =
      let front : (view p).seen ++ makes.step.later.0 ≡ makes.step.front = makes.step.later.1 in
      let valid : is_valid product (view p).opening makes.step.front ≡ true = valid_front product (view p).opening makes.step.front _ all_valid in
      ap (calls_seen product (view p).opening (view p).number) (sym front)
      ∙ calls_still product (view p).opening (view p).number (view p).seen makes.step.later.0 p.known.opens (ap (is_valid product (view p).opening) front ∙ valid) others

  -- its calls go on by what its seat does
  pub grows : calls_in q ≡ seen_after (activity_in p) c (local_in (view p)) (length makes.step.front) (calls_in p)
  grows =
      ap (λ (o : Opening). calls_seen product o (view q).number (view q).seen) makes.step.opening
      ∙ (ap (λ n. calls_seen product (view p).opening n (view q).seen) makes.step.number
      ∙ (ap (calls_seen product (view p).opening (view p).number) makes.step.seen
      ∙ (calls-own product (view p).opening (view p).number makes.step.front c p.known.opens all_valid
      ∙ (ap (λ (l : Local). seen_after l.activity c l (length makes.step.front) (calls_seen product (view p).opening (view p).number makes.step.front)) makes.step.here
      ∙ ap (seen_after (activity_in p) c (local_in (view p)) (length makes.step.front)) calls_before))))

  -- its event comes after what it had seen, and is the last that it has seen
  begins_after : now_in p ≤ length makes.step.front
  begins_after = omega (arith, ap length makes.step.later.1, length-append (view p).seen makes.step.later.0)

  ends_before : length makes.step.front < now_in q
  ends_before = omega (arith, ap length makes.step.seen, length-append makes.step.front (event (view p).number c ∷ []))

-- the seat is in the middle of a call, which its event does not end
abbrev pub IsStaying : Activity → Type 0
IsStaying Activity.Idle = ⊥
IsStaying (Activity.Leave answer) = ⊥
IsStaying _ = Unit {0}

stays_after : (a : Activity) (c : Choice) (l : Local) (n : ℕ) (cs : List CallSeen) → IsStaying a → seen_after a c l n cs ≡ cs
stays_after Activity.Idle c l n cs u = absurd u
stays_after (Activity.Leave answer) c l n cs u = absurd u
stays_after _ c l n cs u = refl

module _ {s : Shared} {p q : Pass} {told : ℕ} where
  -- an event in the middle of a call leaves the calls
  pub keeps : {c : Choice} → Makes s p c told q → IsStaying (activity_in p) → KeepsCalls p q
  keeps {c} makes u = grows makes ∙ stays_after (activity_in p) c _ _ (calls_in p) u

  -- an idle pass begins a call
  pub opens : {call : Call} → Makes s p (Begin call) told q → activity_in p ≡ Activity.Idle → Opens p q call
  opens {call} makes idle = record {
    first = length makes.step.front;
    number = (local_in (view p)).number + 1;
    begins = begins_after makes;
    calls = grows makes ∙ ap (λ a. seen_after a (Begin call) (local_in (view p)) (length makes.step.front) (calls_in p)) idle;
  }

  -- a pass that leaves ends its last call
  pub closes : (answer : Answer) → Makes s p Go told q → activity_in p ≡ Activity.Leave answer → Closes p q (reply_of answer (held p))
  closes answer makes leaves = record {
    last = length makes.step.front;
    ends = ends_before makes;
    calls = λ earlier c is.
        grows makes
        ∙ (ap (λ a. seen_after a Go (local_in (view p)) (length makes.step.front) (calls_in p)) leaves
        ∙ (ap (end_last (length makes.step.front) (reply_of answer (held p))) is ∙ end_last-snoc (length makes.step.front) (reply_of answer (held p)) earlier c));
  }
