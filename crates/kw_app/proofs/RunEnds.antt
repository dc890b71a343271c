-- What a run writes and reads, from what its command came to: one command stands for each that the
-- words mean.
use Rattle.std.proofs.Common.{◌≡◌, ℕ, List, Option, Some, None, Ok, Err, sym, refl, subst, arith}
use mathlib.Core.Logic.{⊎_elim}
use Rattle.std.specs.Prelude.{IfSome, ◌≢◌}
use Rattle.kw_table.specs.declared.pass.Pass.{Pass}
use Rattle.kw_command.specs.declared.command.Command.{Command}
use Rattle.kw_command.specs.declared.command.Command.TheVariants as command
use Rattle.kw_command.specs.Words.{AreInRange}
use Rattle.kw_app.specs.declared.input.InputError.{InputError}
use Rattle.kw_app.specs.declared.input.InputError.TheVariants as error
use Rattle.kw_app.specs.declared.outcome.Outcome.{Outcome}
use Rattle.kw_app.specs.declared.outcome.Status.TheVariants as status
use Rattle.kw_app.specs.declared.printed.Ending.{Ending}
use Rattle.kw_app.specs.declared.printed.Ending.TheVariants as ending
use Rattle.kw_app.specs.declared.printed.Printed.{Printed}
use Rattle.kw_app.specs.Ends.{AsksMap, IsBadInput, IsSilent, IsToldBad, MayEnd, Performs, Reads, ReadsInput, Tells, WritesPrinted, WritesText}
use Rattle.kw_app.specs.Status.{named_line, status_of}
use Rattle.kw_app.proofs.Ended.{bad_is_told, fault_is_told, good_is_not_bad, memory_is_told, unread_is_told}

-- what holds of all that is left follows from what does
if_some : {P Q : List ℕ → Type 0} (left : Option (List ℕ)) → ((all : List ℕ) → P all → Q all) → IfSome left P → IfSome left Q
if_some None f h = tt
if_some (Some all) f h = f all h

-- ---- one command for another

-- what is written for some commands is written for those among them
pub writes_for : {K : Type 0} (written : K → Option (List ℕ)) (faults : K → ℕ) (A B : Command → Type 0) (left : Option (List ℕ)) (o : Outcome) (k l : K)
    → ((c : Command) → B c → A c) → WritesText written faults A left o k l → WritesText written faults B left o k l
writes_for written faults A B left o k l among h = record {
  done = λ is c b. h.done is c (among c b);
  refused = λ is c b. h.refused is c (among c b);
  not_legal = λ is c b. h.not_legal is c (among c b);
  cut_short = λ is c b. h.cut_short is c (among c b);
  write_fault = h.write_fault;
  unwritten = h.unwritten;
  no_front = h.no_front;
  never_falls = h.never_falls;
}

-- and what is read for them is read for those among them
pub reads_for : {S : Type 0} (left : S → Option (List ℕ)) (faults : S → ℕ) (A B : Command → Type 0) (o : Outcome) (s t : S)
    → ((c : Command) → B c → A c) → ReadsInput left faults A o s t → ReadsInput left faults B o s t
reads_for left faults A B o s t among h = record {
  read_fault = h.read_fault;
  bad_input = λ is c b. h.bad_input is c (among c b);
  reads_nothing = λ c b. h.reads_nothing c (among c b);
  told = λ c b. h.told c (among c b);
  no_line = h.no_line;
  never_falls = h.never_falls;
}

-- ---- runs that write or read nothing

-- at a status at which nothing is written the sink is as it was
pub silent_writes : {K : Type 0} (written : K → Option (List ℕ)) (faults : K → ℕ) (A : Command → Type 0) (left : Option (List ℕ)) (o : Outcome) (k : K)
    → IsSilent o.status → o.front ≡ None → WritesText written faults A left o k k
silent_writes written faults A left o k silent none = record {
  done = λ is c a. absurd (silent.0 is);
  refused = λ is c a. absurd (silent.1 is);
  not_legal = λ is c a. absurd (silent.2 is);
  cut_short = λ is c a. absurd (silent.3 is);
  write_fault = λ is. absurd (silent.3 is);
  unwritten = λ s. refl;
  no_front = λ s. none;
  never_falls = omega arith;
}

-- statuses at which nothing is written
pub silent_at_bad_words : (o : Outcome) → o.status ≡ status.BadWords → IsSilent o.status
silent_at_bad_words o is = ((λ e. cc), (λ e. cc), (λ e. cc), (λ e. cc))

pub silent_at_bad_input : (o : Outcome) → o.status ≡ status.BadInput → IsSilent o.status
silent_at_bad_input o is = ((λ e. cc), (λ e. cc), (λ e. cc), (λ e. cc))

pub silent_at_fault : (o : Outcome) → o.status ≡ status.ReadFault → IsSilent o.status
silent_at_fault o is = ((λ e. cc), (λ e. cc), (λ e. cc), (λ e. cc))

pub silent_at_want : (o : Outcome) → o.status ≡ status.OutOfMemory → IsSilent o.status
silent_at_want o is = ((λ e. cc), (λ e. cc), (λ e. cc), (λ e. cc))

-- where neither a fault nor bad input is told, a source may be as it was
pub unread_reads : {S : Type 0} (left : S → Option (List ℕ)) (faults : S → ℕ) (A : Command → Type 0) (o : Outcome) (s : S)
    → o.status ≢ status.ReadFault → o.status ≢ status.BadInput → o.line ≡ 0 → ((c : Command) → A c → IfSome (left s) (IsToldBad c o)) → ReadsInput left faults A o s s
unread_reads left faults A o s no_fault good line told = record {
  read_fault = λ is. absurd (no_fault is);
  bad_input = λ is. absurd (good is);
  reads_nothing = λ c a none. (refl, no_fault, good);
  told = told;
  no_line = λ no. line;
  never_falls = omega arith;
}

-- ---- a text that was written

-- what the command tells, with the pass and the ending as the outcome has them
told_as : (c d : Command) (left : Option (List ℕ)) (front shown : Option Pass) (end said : Ending) (Writes : List ℕ → Type 0) → d ≡ c → shown ≡ front → end ≡ said
    → Tells c left front end Writes → Tells d left shown said Writes
told_as c d left front shown end said Writes same front_is end_is h =
    subst (λ x. Tells x left shown said Writes) (sym same) (subst (λ x. Tells c left x said Writes) (sym front_is) (subst (λ x. Tells c left front x Writes) end_is h))

-- a text of the command was written
pub text_writes : {K : Type 0} (written : K → Option (List ℕ)) (faults : K → ℕ) (c : Command) (left : Option (List ℕ)) (p : Printed) (o : Outcome) (k l : K)
    → ((Writes : List ℕ → Type 0) → Writes p.text.items → Tells c left p.front p.ending Writes) → WritesPrinted written faults p o k l → WritesText written faults (λ d. d ≡ c) left o k l
text_writes written faults c left p o k l tells h = record {
  done = λ is d same. told_as c d left p.front o.front p.ending ending.Done _ same h.front (h.done is).0 (tells _ (h.done is).1);
  refused = λ is d same. told_as c d left p.front o.front p.ending ending.Refused _ same h.front (h.refused is).0 (tells _ (h.refused is).1);
  not_legal = λ is d same. told_as c d left p.front o.front p.ending ending.NotLegal _ same h.front (h.not_legal is).0 (tells _ (h.not_legal is).1);
  cut_short = λ is d same. (p.ending, told_as c d left p.front o.front p.ending p.ending _ same h.front refl (tells _ (h.cut_short is)));
  write_fault = h.write_fault;
  unwritten = λ s. absurd (loud s);
  no_front = λ s. absurd (loud s);
  never_falls = h.never_falls;
}
  where
    loud : IsSilent o.status → ⊥
    loud s = ⊎_elim s.0 (λ other. ⊎_elim s.1 (λ last. ⊎_elim s.2 s.3 last) other) h.ends

-- a text that was written ends neither with a fault of reading nor with bad input
pub text_ends : {K : Type 0} (written : K → Option (List ℕ)) (faults : K → ℕ) (p : Printed) (o : Outcome) (k l : K) → WritesPrinted written faults p o k l
    → (o.status ≢ status.ReadFault) × (o.status ≢ status.BadInput) × (o.status ≢ status.BadWords)
text_ends written faults p o k l h = (
  (λ is. ⊎_elim (λ a. cc) (λ other. ⊎_elim (λ a. cc) (λ last. ⊎_elim (λ a. cc) (λ a. cc) last) other) h.ends),
  (λ is. ⊎_elim (λ a. cc) (λ other. ⊎_elim (λ a. cc) (λ last. ⊎_elim (λ a. cc) (λ a. cc) last) other) h.ends),
  (λ is. ⊎_elim (λ a. cc) (λ other. ⊎_elim (λ a. cc) (λ last. ⊎_elim (λ a. cc) (λ a. cc) last) other) h.ends),
)

-- ---- what is told of it

-- a text that is told may be written as well
tells_as : (c : Command) (left : Option (List ℕ)) (front : Option Pass) (end : Ending) (A B : List ℕ → Type 0) → ((text : List ℕ) → A text → B text)
    → Tells c left front end A → Tells c left front end B
tells_as (command.Replay w r) None front end A B each h = tt
tells_as (command.Replay w r) (Some all) front end A B each h = record { short = h.short; printed = h.printed; is_printed = h.is_printed; writes = each h.printed h.writes }
tells_as (command.Simulate r b) None front end A B each h = tt
tells_as (command.Simulate r b) (Some all) front end A B each h = record { short = h.short; printed = h.printed; is_printed = h.is_printed; writes = each h.printed h.writes }
tells_as command.Judge None front end A B each h = tt
tells_as command.Judge (Some all) front end A B each h = record { short = h.short; printed = h.printed; is_printed = h.is_printed; writes = each h.printed h.writes }
tells_as (command.Gen s n w r) left front end A B each h = record { printed = h.printed; is_summary = h.is_summary; writes = each h.printed h.writes }
tells_as (command.Rollup g w r) None front end A B each h = tt
tells_as (command.Rollup g w r) (Some all) front end A B each h = record { short = h.short; printed = h.printed; is_printed = h.is_printed; writes = each h.printed h.writes }

-- an input that has a text is not bad
good_is_told : (c : Command) (left : Option (List ℕ)) (front : Option Pass) (end : Ending) (Writes : List ℕ → Type 0) (o : Outcome) → AreInRange c → Tells c left front end Writes
    → IfSome left (IsToldBad c o)
good_is_told (command.Replay w r) None front end Writes o range h = tt
good_is_told (command.Replay w r) (Some all) front end Writes o range h = good_is_not_bad (command.Replay w r) front end all h.printed o range h.short h.is_printed
good_is_told (command.Simulate r b) None front end Writes o range h = tt
good_is_told (command.Simulate r b) (Some all) front end Writes o range h = good_is_not_bad (command.Simulate r b) front end all h.printed o range h.short h.is_printed
good_is_told command.Judge None front end Writes o range h = tt
good_is_told command.Judge (Some all) front end Writes o range h = good_is_not_bad command.Judge front end all h.printed o range h.short h.is_printed
good_is_told (command.Gen s n w r) left front end Writes o range h = unread_is_told (command.Gen s n w r) left o (λ none. none)
good_is_told (command.Rollup g w r) None front end Writes o range h = tt
good_is_told (command.Rollup g w r) (Some all) front end Writes o range h = good_is_not_bad (command.Rollup g w r) front end all h.printed o range h.short h.is_printed

-- a text that a command came to was written
pub text_is_written : {S K : Type 0} (left : S → Option (List ℕ)) (faults : S → ℕ) (written : K → Option (List ℕ)) (counted : K → ℕ) (c : Command) (p : Printed) (o : Outcome) (s t : S) (k l : K)
    → Performs left faults c s t (Ok p) → WritesPrinted written counted p o k l → WritesText written counted (λ d. d ≡ c) (left s) o k l
text_is_written left faults written counted c p o s t k l h w =
    text_writes written counted c (left s) p o k l
    (λ (Writes : List ℕ → Type 0) whole. tells_as c (left s) p.front p.ending (λ text. p.text.items ≡ text) Writes (λ text same. subst Writes same whole) h.text) w

pub text_was_read : {S K : Type 0} (left : S → Option (List ℕ)) (faults : S → ℕ) (written : K → Option (List ℕ)) (counted : K → ℕ) (c : Command) (p : Printed) (o : Outcome) (s t : S) (k l : K)
    → AreInRange c → Performs left faults c s t (Ok p) → WritesPrinted written counted p o k l → ReadsInput left faults (λ d. d ≡ c) o s t
text_was_read left faults written counted c p o s t k l range h w =
    let ends = text_ends written counted p o k l w in record {
      read_fault = λ is. absurd (ends.0 is);
      bad_input = λ is. absurd (ends.1 is);
      reads_nothing = λ d same none. ((h.reads_nothing (λ reads. none (subst Reads (sym same) reads))).0, ends.0, ends.1);
      told = λ d same. subst (λ x. IfSome (left s) (IsToldBad x o)) (sym same) (good_is_told c (left s) p.front p.ending _ o range h.text);
      no_line = λ no. w.no_line;
      never_falls = h.never_falls;
    }

-- nothing was written where a command has no text
pub no_text_is_written : {K : Type 0} (written : K → Option (List ℕ)) (faults : K → ℕ) (A : Command → Type 0) (left : Option (List ℕ)) (e : InputError) (o : Outcome) (k : K)
    → o.status ≡ status_of e → o.front ≡ None → WritesText written faults A left o k k
no_text_is_written written faults A left error.Fault o k is none = silent_writes written faults A left o k (silent_at_fault o is) none
no_text_is_written written faults A left (error.Bad n) o k is none = silent_writes written faults A left o k (silent_at_bad_input o is) none
no_text_is_written written faults A left error.Memory o k is none = silent_writes written faults A left o k (silent_at_want o is) none

-- a command that has no text tells why
pub no_text_was_read : {S : Type 0} (left : S → Option (List ℕ)) (faults : S → ℕ) (c : Command) (e : InputError) (o : Outcome) (s t : S)
    → Performs left faults c s t (Err e) → o.status ≡ status_of e → o.line ≡ named_line e → ReadsInput left faults (λ d. d ≡ c) o s t
no_text_was_read left faults c error.Fault o s t h is line = record {
  read_fault = λ other. h.fault refl;
  bad_input = λ other. absurd cc;
  reads_nothing = λ d same none. absurd (h.reads_nothing (λ reads. none (subst Reads (sym same) reads))).1;
  told = λ d same. fault_is_told d (left s) o is;
  no_line = λ other. line;
  never_falls = h.never_falls;
}
no_text_was_read left faults c (error.Bad n) o s t h is line = record {
  read_fault = λ other. absurd cc;
  bad_input = λ other d same. subst (λ x. IfSome (left s) (IsBadInput x o.line)) (sym same) (subst (λ x. IfSome (left s) (IsBadInput c x)) (sym line) (h.bad n refl));
  reads_nothing = λ d same none. absurd (h.reads_nothing (λ reads. none (subst Reads (sym same) reads))).1;
  told = λ d same. subst (λ x. IfSome (left s) (IsToldBad x o)) (sym same) (if_some (left s) (λ all bad. bad_is_told c all o n is line bad) (h.bad n refl));
  no_line = λ other. absurd (other is);
  never_falls = h.never_falls;
}
no_text_was_read left faults c error.Memory o s t h is line = record {
  read_fault = λ other. absurd cc;
  bad_input = λ other. absurd cc;
  reads_nothing = λ d same none. ((h.reads_nothing (λ reads. none (subst Reads (sym same) reads))).0, (λ e. cc), (λ e. cc));
  told = λ d same. memory_is_told d (left s) o is;
  no_line = λ other. line;
  never_falls = h.never_falls;
}

-- ---- the two statuses that are told last

pub only_judge : {K : Type 0} (written : K → Option (List ℕ)) (faults : K → ℕ) (c : Command) (p : Printed) (o : Outcome) (k l : K) → MayEnd c p.ending → WritesPrinted written faults p o k l
    → o.status ≡ status.NotLegal → c ≡ command.Judge
only_judge written faults c p o k l may w is = subst (MayEnd c) (w.not_legal is).0 may

pub only_map : {K : Type 0} (written : K → Option (List ℕ)) (faults : K → ℕ) (c : Command) (p : Printed) (o : Outcome) (k l : K) → MayEnd c p.ending → WritesPrinted written faults p o k l
    → o.status ≡ status.Refused → AsksMap c
only_map written faults c p o k l may w is = subst (MayEnd c) (w.refused is).0 may
