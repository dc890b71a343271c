-- A seat's sessions, one after the other.
use Rattle.std.proofs.Common.{ℕ, ◌≡◌, ◌≤◌, ◌+◌, length, List, [], ◌∷◌, ◌++◌, Option, None, Some, refl, sym, ap, ◌∙◌, subst, append_assoc, append-nil, arith}
use Rattle.std.proofs.lemmas.List.{length_push, map-append}
use Rattle.kw_laws.specs.SeatCalls.{CallSeen}
use Rattle.kw_follow.specs.Calling.{calls_in}
use Rattle.kw_map.specs.declared.kiwi.Kiwi.{Kiwi}
use Rattle.kw_map.specs.Kiwi.{IsIdle}
use Rattle.kw_table.specs.declared.pass.Pass.{Pass}
use Rattle.kiwid.specs.declared.session.SessionEnd.{SessionEnd}
use Rattle.kiwid.specs.Lines.{StaysIdle}
use Rattle.kiwid.specs.Links.{LinkState, ListenerState, Loses, Gains, HandsNone, HandsOut, TakesBack}
use Rattle.kiwid.specs.Serving.{LinkServed, IsSession, Sessions, IsServedNext, Serves, handed_of, taken_of, ends_of}
use Rattle.kiwid.proofs.Passes.{stays_idle, stays_trans}

-- the links that a listener tells
abbrev Told : Type 0
Told = Option (List LinkState)

pub loses_none : (old : Told) → Loses old old []
loses_none None = tt
loses_none (Some xs) = refl

pub gains_none : (old : Told) → Gains old old []
gains_none None = tt
gains_none (Some xs) = sym (append-nil xs)

pub loses_more : (old mid new : Told) (xs ys : List LinkState) → Loses old mid xs → Loses mid new ys → Loses old new (xs ++ ys)
loses_more None mid new xs ys h k = tt
loses_more (Some a) None new xs ys h k = absurd h
loses_more (Some a) (Some b) None xs ys h k = absurd k
loses_more (Some a) (Some b) (Some c) xs ys h k = h ∙ (ap (λ l. xs ++ l) k ∙ sym (append_assoc xs ys c))

pub gains_more : (old mid new : Told) (xs ys : List LinkState) → Gains old mid xs → Gains mid new ys → Gains old new (xs ++ ys)
gains_more None mid new xs ys h k = tt
gains_more (Some a) None new xs ys h k = absurd h
gains_more (Some a) (Some b) None xs ys h k = absurd k
gains_more (Some a) (Some b) (Some c) xs ys h k = k ∙ (ap (λ l. l ++ ys) h ∙ append_assoc a xs ys)

-- one element more behind a list
pub one_more : {X : Type 0} (xs ys : List X) (x : X) (n : ℕ) → length xs ≡ n → ys ≡ xs ++ x ∷ [] → length ys ≡ n + 1
one_more xs ys x n many is = ap length is ∙ (length_push xs x ∙ ap (λ k. k + 1) many)

-- one session more
pub sessions_more : (ss : List LinkServed) (s : LinkServed) (a b c : List CallSeen) → Sessions ss a b → IsSession s b c → Sessions (ss ++ s ∷ []) a c
sessions_more [] s a b c h k = (c, subst (λ x. IsSession s x c) h k, refl)
sessions_more (t ∷ ss) s a b c h k = (h.0, h.1, sessions_more ss s h.0 b c h.2 k)

-- a seat has served no link yet
pub serves_none : (kiwi : Kiwi) (p : Pass) (old : ListenerState) (ends : List SessionEnd) → IsIdle kiwi p → ends ≡ [] → Serves kiwi p p old old ends
serves_none kiwi p old ends idle none = record {
  stays = stays_idle kiwi p idle;
  links = [];
  ends_are = none;
  sessions = refl;
  coming = loses_none old.coming;
  closed = gains_none old.closed;
  out = refl;
  never_falls = omega arith;
}

-- it has served one more
pub serves_more : (kiwi : Kiwi) (p q r : Pass) (old mid new : ListenerState) (ends ends' : List SessionEnd) (end : SessionEnd) → Serves kiwi p q old mid ends → StaysIdle kiwi q r → IsServedNext mid new (calls_in q) (calls_in r) end → mid.faults ≤ new.faults → ends' ≡ ends ++ end ∷ []
    → Serves kiwi p r old new ends'
serves_more kiwi p q r old mid new ends ends' end s stays next rises is = record {
  stays = stays_trans kiwi p q r s.stays stays;
  links = s.links ++ next.link ∷ [];
  ends_are = is ∙ (ap (λ l. l ++ end ∷ []) s.ends_are ∙ (ap (λ x. ends_of s.links ++ x ∷ []) (sym next.end_is) ∙ sym (map-append (λ (l : LinkServed). l.end) s.links (next.link ∷ []))));
  sessions = sessions_more s.links next.link (calls_in p) (calls_in q) (calls_in r) s.sessions next.session;
  coming = subst (Loses old.coming new.coming) (sym (map-append (λ (l : LinkServed). l.handed) s.links (next.link ∷ []))) (loses_more old.coming mid.coming new.coming (handed_of s.links) (next.link.handed ∷ []) s.coming next.coming);
  closed = subst (Gains old.closed new.closed) (sym (map-append (λ (l : LinkServed). l.taken) s.links (next.link ∷ []))) (gains_more old.closed mid.closed new.closed (taken_of s.links) (next.link.taken ∷ []) s.closed next.closed);
  out = next.out ∙ s.out;
  never_falls = let a = s.never_falls in omega arith;
}

-- the next link was not handed out
pub serves_failed : (kiwi : Kiwi) (p q r : Pass) (old mid new : ListenerState) (ends : List SessionEnd) → Serves kiwi p q old mid ends → r ≡ q → HandsNone mid new → mid.faults ≤ new.faults → Serves kiwi p r old new ends
serves_failed kiwi p q r old mid new ends s same none rises = record {
  stays = subst (StaysIdle kiwi p) (sym same) s.stays;
  links = s.links;
  ends_are = s.ends_are;
  sessions = subst (λ (x : Pass). Sessions s.links (calls_in p) (calls_in x)) (sym same) s.sessions;
  coming = subst (λ l. Loses old.coming l (handed_of s.links)) (sym none.coming) s.coming;
  closed = subst (λ l. Gains old.closed l (taken_of s.links)) (sym none.closed) s.closed;
  out = none.out ∙ s.out;
  never_falls = let a = s.never_falls in omega arith;
}

-- a link was handed out, served, and taken back
pub served_next : (old mid new : ListenerState) (s : LinkServed) (made made' : List CallSeen) → HandsOut old mid s.handed → IsSession s made made' → TakesBack mid new s.taken → IsServedNext old new made made' s.end
served_next old mid new s made made' hands session takes = record {
  link = s;
  end_is = refl;
  session = session;
  coming = subst (λ l. Loses old.coming l (s.handed ∷ [])) (sym takes.coming) hands.coming;
  closed = subst (λ l. Gains l new.closed (s.taken ∷ [])) hands.closed takes.closed;
  out = let a = takes.out in let b = hands.out in omega arith;
}
