-- Every event keeps what holds of the pairs of scans and the answers of gets.
use Rattle.std.proofs.Common.{ℕ, ◌≡◌, ◌+◌, ◌≤◌, Option, Some, None, [], arith, refl, sym, ◌∙◌, subst, length}
use Rattle.kw_world.specs.declared.answer.Answer.{Answer}
use Rattle.kw_world.specs.Calls.{first_key, last_key}
use Rattle.kw_world.specs.Answers.{reply_of}
use Rattle.kw_world.specs.declared.activity.Activity.{Activity}
use Rattle.kw_world.specs.declared.activity.look.Look.TheVariants as Look
use Rattle.kw_world.specs.declared.activity.read.Read.TheVariants as Read
use Rattle.kw_world.specs.declared.activity.rebalance.engage.Engage.TheVariants as Engage
use Rattle.kw_world.specs.declared.activity.rebalance.freeze.Freeze.TheVariants as Freeze
use Rattle.kw_world.specs.declared.activity.rebalance.Rebalance.{Rebalance}
use Rattle.kw_world.specs.declared.activity.rebalance.Rebalance.TheVariants as Rebalance
use Rattle.kw_world.specs.declared.activity.walk.Walk.TheVariants as Walk
use Rattle.kw_world.specs.declared.local.Local.{Local}
use Rattle.kw_world.specs.declared.event.Choice.{Choice}
use Rattle.kw_world.specs.Sizes.{Sizes}
use Rattle.kw_model.specs.declared.call.Call.{Call}
use Rattle.kw_model.specs.declared.call.Call.TheVariants.{Put, Del, Get, Scan, Pin, ScanAt, Unpin}
use Rattle.kw_world.specs.declared.answer.Answer.TheVariants.{Done, Value, Absent, Pairs, NoRows, Spent, Stopped, Held, NotPinned}
use Rattle.kw_world.specs.Step.{word}
use Rattle.kw_core.specs.History.{History, called}
use Rattle.kw_core.specs.Step.{Keeps}
use Rattle.kw_core.specs.Run.{Run}
use Rattle.kw_core.specs.declared.seat_log.SeatLog.{SeatLog}
use Rattle.kw_core.specs.Stages.{IsBusy}
use Rattle.kw_reads.specs.Replies.{IsCovered, Covers}
use Rattle.kw_core.specs.Words.{Words}
use Rattle.kw_puts.specs.Positions.{Calling}
use Rattle.kw_reads.specs.Readers.{Readers}
use Rattle.kw_reads.specs.Replies.{HasPairs, IsAnswered, Replies}
use Rattle.kw_reads.specs.Contents.{Contents}
use Rattle.kw_reads.specs.Inv.{Inv}
use Rattle.kw_core.proofs.Lasts.{get_lasts}
use Rattle.kw_core.proofs.Happens.{Happens, each_seat}
use Rattle.kw_core.proofs.Arrows.{builds, Arrow, asks_of_pin, settles_pin, clears_pin}
use Rattle.kw_puts.proofs.Rely.{Rely}
use Rattle.kw_reads.proofs.BuiltReads.{IsAfterRebalance, after_enters, after_pairs, rebalance_goes, rebalance_next}
use Rattle.kw_reads.proofs.Relying.{rely}
use Rattle.kw_reads.proofs.ReadersKeep.{Before}
use Rattle.std.proofs.lemmas.Bool.{and_parts}
use Rattle.kw_world.specs.Transition.{leave}
use Rattle.kw_world.specs.ScanTransitions.{answer_or_stopped}
use Rattle.kw_core.specs.Stages.{IsEarly}
use Rattle.kw_shape.specs.Shape.{IsKind, IsPutCall, IsReadCall}
use Rattle.kw_shape.proofs.NextCalls.{cell_call}
use Rattle.kw_puts.proofs.Owners.{true_false}
use Rattle.kw_reads.proofs.Relying.{goes_on_by}
use Rattle.kw_core.proofs.Arrows.{NextLook, looks, lists, begins, enters, is_spent, settles_empty, settles, stops, sees_stamped, sees_neither, is_gone_by, helps, finds_stamped, finds_other, list_ends, key_above, left_over_gone_by, gathers_left_over, clears_scan, clears, leaves, NextLeftOver, retries, first_ends}
use Rattle.kw_puts.proofs.OwnScans.{IsAfterRead, after_read}
use Rattle.kw_reads.proofs.OwnPairs.{covers_last, stays, settled_pairs, no_pairs, leave_covered, cell_pairs, put_answered, scan_answered, scan_call_answered, cell_answered}
use Rattle.kw_shape.proofs.AfterBuilding.{no_call_of_pin}

-- What survives every event of another seat: it began or drew before the event.

-- the pairs of a scan
pub pairs_stable : (z : Sizes) (r r' : Run) (t : ℕ) (k : Local) → Rely z r r' t k → (r.seats t).drawn ≤ length r.history.log → HasPairs r.history k.activity k (r.seats t) → HasPairs r'.history k.activity k (r'.seats t)
pairs_stable z r r' t k y d n = subst (λ g. HasPairs r'.history k.activity k g) (sym y.log) (record {
  early = n.early;
  from = n.from;
  upto = n.upto;
  covers = λ e a. covers_last r.history r'.history _ _ _ _ _ y.goes_on.grows d (n.covers e a);
  covered = covered k.activity n.covered;
})
  where
    ended : (answer : Answer) → IsCovered (Activity.Leave answer) r.history k (r.seats t) → IsCovered (Activity.Leave answer) r'.history k (r.seats t)
    ended Pairs x = covers_last r.history r'.history _ _ _ _ _ y.goes_on.grows d x
    ended Done x = tt
    ended (Value v) x = tt
    ended Absent x = tt
    ended NoRows x = tt
    ended Spent x = tt
    ended Stopped x = tt
    ended Held x = tt
    ended NotPinned x = tt

    cleared : (answer : Answer) → IsCovered (Activity.EndScan answer) r.history k (r.seats t) → IsCovered (Activity.EndScan answer) r'.history k (r.seats t)
    cleared Pairs x = covers_last r.history r'.history _ _ _ _ _ y.goes_on.grows d x
    cleared Done x = tt
    cleared (Value v) x = tt
    cleared Absent x = tt
    cleared NoRows x = tt
    cleared Spent x = tt
    cleared Stopped x = tt
    cleared Held x = tt
    cleared NotPinned x = tt

    covered : (a : Activity) → IsCovered a r.history k (r.seats t) → IsCovered a r'.history k (r.seats t)
    covered (Activity.Leave answer) x = ended answer x
    covered (Activity.EndScan answer) x = cleared answer x
    covered _ x = tt

-- the answer of a get
pub answers_stable : (z : Sizes) (r r' : Run) (t : ℕ) (k : Local) → Rely z r r' t k → Keeps r.history → (IsBusy k.activity → Calling r.history t k.activity k (r.seats t)) → IsAnswered k.activity k.call r.history k (r.seats t) → IsAnswered k.activity k.call r'.history k (r'.seats t)
answers_stable z r r' t k y i c n = subst (λ g. IsAnswered k.activity k.call r'.history k g) (sym y.log) (which k.activity k.call c n)
  where
    which : (a : Activity) (q : Option Call) → (IsBusy a → Calling r.history t k.activity k (r.seats t)) → IsAnswered a q r.history k (r.seats t) → IsAnswered a q r'.history k (r.seats t)
    which (Activity.Leave answer) (Some (Get key)) f x =
        let w = (f tt).within in
        let same = (y.goes_on.calls (r.seats t).call w).first in
        rw same (record {
          gap = x.gap;
          knows = get_lasts r.history r'.history (length r.history.log) key (called r.history (r.seats t).call).first (reply_of answer k.pairs) x.gap y.goes_on.grows (omega (arith, i.past.first (r.seats t).call w)) x.knows;
          answer = x.answer;
        })
    which _ _ f x = tt

-- The acting seat.

-- a look at the next entry
look_not_early : (z : Sizes) (j : ℕ) (next : Activity) → NextLook z j next → {A : Type 0} → IsEarly next → A
look_not_early z j next (looks w) x = absurd x
look_not_early z j next (lists w) x = absurd x

-- which ends no scan
look_covered : (z : Sizes) (j : ℕ) (next : Activity) → NextLook z j next → (h : History) (l : Local) (g : SeatLog) → IsCovered next h l g
look_covered z j next (looks w) h l g = tt
look_covered z j next (lists w) h l g = tt

-- and answers no get
look_answered : (z : Sizes) (j : ℕ) (next : Activity) → NextLook z j next → (call : Option Call) (h : History) (l : Local) (g : SeatLog) → IsAnswered next call h l g
look_answered z j next (looks w) call h l g = tt
look_answered z j next (lists w) call h l g = tt

-- the activity is one of the call
kind_of : (z : Sizes) (r r' : Run) (s : ℕ) (choice : Choice) (l l' : Local) {a : Activity} → Happens z r r' s choice l l' a → Inv z r → IsKind a l
kind_of z r r' s choice l l' h i = subst (λ q. IsKind q l) h.activity (i.shape.kinds s l h.knows).kind

-- a call that has read no row has not just read a word of one
early_not_read : (c : Activity) → IsEarly c → IsAfterRead c → ⊥
early_not_read Activity.Idle x y = y
early_not_read (Activity.Enter _) x y = y
early_not_read (Activity.Draw _) x y = y
early_not_read (Activity.Walk Walk.First) x y = x
early_not_read _ x y = x

-- the seat ends its visit: it leaves, or tries again
abbrev EndsVisit : Activity → Type 0
EndsVisit (Activity.Leave answer) = Unit {0}
EndsVisit Activity.Retry = Unit {0}
EndsVisit _ = ⊥

-- a call that has read no row had read none
arrow_early : (z : Sizes) (v : Words) (s : ℕ) (choice : Choice) (l : Local) (a : Activity) (k : Local) → Arrow z v s choice l a k → (EndsVisit a → ⊥) → IsEarly k.activity → IsEarly a
arrow_early z v s choice l (Activity.Rebalance b) k u n x = after_enters k.activity (rebalance_next z v s choice l b k u) x
arrow_early z v s choice l a k (builds b next y t) n x = absurd y
arrow_early z v s choice l a k (begins call e m) n x = tt
arrow_early z v s choice l (Activity.Enter _) k b n x = tt
arrow_early z v s choice l (Activity.Draw _) k b n x = tt
arrow_early z v s choice l (Activity.Look (Look.Entry j)) k b n x = absurd (early_not_read k.activity x (after_read z v s choice l (Activity.Look (Look.Entry j)) k b tt))
arrow_early z v s choice l (Activity.Look Look.Key) k b n x = absurd (early_not_read k.activity x (after_read z v s choice l (Activity.Look Look.Key) k b tt))
arrow_early z v s choice l (Activity.Look Look.Clock) k b n x = absurd (early_not_read k.activity x (after_read z v s choice l (Activity.Look Look.Clock) k b tt))
arrow_early z v s choice l (Activity.Look Look.Help) k b n x = absurd (early_not_read k.activity x (after_read z v s choice l (Activity.Look Look.Help) k b tt))
arrow_early z v s choice l (Activity.Read Read.Start) k b n x = absurd (early_not_read k.activity x (after_read z v s choice l (Activity.Read Read.Start) k b tt))
arrow_early z v s choice l (Activity.Read Read.Link) k b n x = absurd (early_not_read k.activity x (after_read z v s choice l (Activity.Read Read.Link) k b tt))
arrow_early z v s choice l (Activity.Read Read.Key) k b n x = absurd (early_not_read k.activity x (after_read z v s choice l (Activity.Read Read.Key) k b tt))
arrow_early z v s choice l (Activity.Read Read.Version) k b n x = absurd (early_not_read k.activity x (after_read z v s choice l (Activity.Read Read.Version) k b tt))
arrow_early z v s choice l (Activity.Read Read.Value) k b n x = absurd (early_not_read k.activity x (after_read z v s choice l (Activity.Read Read.Value) k b tt))
arrow_early z v s choice l (Activity.Read Read.LeftOverKey) k b n x = absurd (early_not_read k.activity x (after_read z v s choice l (Activity.Read Read.LeftOverKey) k b tt))
arrow_early z v s choice l (Activity.Read Read.LeftOverValue) k b n x = absurd (early_not_read k.activity x (after_read z v s choice l (Activity.Read Read.LeftOverValue) k b tt))
arrow_early z v s choice l (Activity.Leave answer) k b n x = absurd (n tt)
arrow_early z v s choice l Activity.Retry k b n x = absurd (n tt)
arrow_early z v s choice l a k b n x = absurd x

-- the pairs of the acting scan
pub pairs_own : (z : Sizes) (r r' : Run) (s : ℕ) (choice : Choice) (l : Local) (a : Activity) (l' : Local) → Arrow z (word z r.world) s choice l a l' → Happens z r r' s choice l l' a → Before z r r' → Readers z r' → Contents z r' → HasPairs r'.history l'.activity l' (r'.seats s)
pairs_own z r r' s choice l (Activity.Rebalance b) l' x h i n w = after_pairs r'.history l'.activity l' (r'.seats s) (rebalance_next z (word z r.world) s choice l b l' x)
pairs_own z r r' s choice l a l' (builds b next y t) h i n w = absurd y
pairs_own z r r' s choice l a l' (asks_of_pin next o q) h i n w = no_call_of_pin _ h i.inv.shape o
pairs_own z r r' s choice l a l' (settles_empty e) h i n w = record { early = λ x. absurd x; from = λ f x. absurd x; upto = λ f x. absurd x; covers = λ f x. absurd x; covered = subst (Covers r'.history (first_key l.call) _ (r'.seats s).drawn (last_key l.call + 1)) (sym ((i.inv.replies.pairs s l h.knows).early (subst IsEarly (sym h.activity) tt))) (no_pairs r'.history l.call _ (r'.seats s).drawn e) }
pairs_own z r r' s choice l a l' (settles e) h i n w = settled_pairs r'.history l _ (r'.seats s) refl refl ((i.inv.replies.pairs s l h.knows).early (subst IsEarly (sym h.activity) tt)) e
pairs_own z r r' s choice l a l' (settles_pin e) h i n w = record { early = λ x. (i.inv.replies.pairs s l h.knows).early (subst IsEarly (sym h.activity) tt); from = λ f x. absurd x; upto = λ f x. absurd x; covers = λ f x. absurd x; covered = tt }
pairs_own z r r' s choice l a l' (clears_scan answer) h i n w = record {
  early = λ x. absurd x;
  from = λ f x. absurd x;
  upto = λ f x. absurd x;
  covers = λ f x. absurd x;
  covered = subst (λ g. IsCovered (Activity.Leave (answer_or_stopped answer choice)) r'.history (leave (answer_or_stopped answer choice) l).local g) (sym h.log)
      (leave_covered r.history r'.history l _ (r.seats s) answer choice (goes_on_by z r r' s choice l _ _ h i.inv).grows (i.inv.positions.drew s) refl refl refl (subst (λ q. IsCovered q r.history l (r.seats s)) h.activity (i.inv.replies.pairs s l h.knows).covered));
}
pairs_own z r r' s choice l a l' (leaves answer) h i n w = record { early = λ x. refl; from = λ f x. absurd x; upto = λ f x. absurd x; covers = λ f x. absurd x; covered = tt }
pairs_own z r r' s choice l a l' (enters e) h i n w = record { early = λ x. absurd x; from = λ f x. true_false f e; upto = λ f x. true_false f e; covers = λ f x. true_false f e; covered = tt }
pairs_own z r r' s choice l a l' (first_ends next e x) h i n w = cell_pairs z r r' s choice l _ _ l' (first_ends next e x) h i n w tt (record { call = refl; row = refl; want = refl; next = refl; upper = refl; version = refl; pairs = refl }) x
pairs_own z r r' s choice l a l' (list_ends next e x) h i n w = cell_pairs z r r' s choice l _ _ l' (list_ends next e x) h i n w tt (record { call = refl; row = refl; want = refl; next = refl; upper = refl; version = refl; pairs = refl }) x
pairs_own z r r' s choice l a l' (key_above next e x) h i n w = cell_pairs z r r' s choice l _ _ l' (key_above next e x) h i n w tt (record { call = refl; row = refl; want = refl; next = refl; upper = refl; version = refl; pairs = refl }) x
pairs_own z r r' s choice l a l' (left_over_gone_by next e x) h i n w = cell_pairs z r r' s choice l _ _ l' (left_over_gone_by next e x) h i n w tt (record { call = refl; row = refl; want = refl; next = refl; upper = refl; version = refl; pairs = refl }) x
pairs_own z r r' s choice l a l' (gathers_left_over next x) h i n w = cell_pairs z r r' s choice l _ _ l' (gathers_left_over next x) h i n w tt (record { call = refl; row = refl; want = refl; next = refl; upper = refl; version = refl; pairs = refl }) x
pairs_own z r r' s choice l a l' (sees_stamped j c version next e x) h i n w = stays z r r' s choice l _ _ (sees_stamped j c version next e x) h i refl refl (λ y. y) (look_not_early z _ next x) (look_covered z _ next x r'.history _ (r'.seats s))
pairs_own z r r' s choice l a l' (sees_neither j next e x) h i n w = stays z r r' s choice l _ _ (sees_neither j next e x) h i refl refl (λ y. y) (look_not_early z _ next x) (look_covered z _ next x r'.history _ (r'.seats s))
pairs_own z r r' s choice l a l' (is_gone_by next e x) h i n w = stays z r r' s choice l _ _ (is_gone_by next e x) h i refl refl (λ y. y) (look_not_early z _ next x) (look_covered z _ next x r'.history _ (r'.seats s))
pairs_own z r r' s choice l a l' (helps next e x) h i n w = stays z r r' s choice l _ _ (helps next e x) h i refl refl (λ y. y) (look_not_early z _ next x) (look_covered z _ next x r'.history _ (r'.seats s))
pairs_own z r r' s choice l a l' (finds_stamped c version next e x) h i n w = stays z r r' s choice l _ _ (finds_stamped c version next e x) h i refl refl (λ y. y) (look_not_early z _ next x) (look_covered z _ next x r'.history _ (r'.seats s))
pairs_own z r r' s choice l a l' (finds_other next e x) h i n w = stays z r r' s choice l _ _ (finds_other next e x) h i refl refl (λ y. y) (look_not_early z _ next x) (look_covered z _ next x r'.history _ (r'.seats s))
pairs_own z r r' s choice l a l' retries h i n w = record { early = λ x. i.inv.replies.unpaired s l h.knows (kind_of z r r' s choice l l' h i.inv); from = λ f x. absurd x; upto = λ f x. absurd x; covers = λ f x. absurd x; covered = tt }
pairs_own z r r' s choice l a l' b h i n w = stays z r r' s choice l _ _ b h i refl refl (λ y. y) (arrow_early z (word z r.world) s choice l _ _ b (λ y. y)) tt

-- a put or a delete has no pairs

-- a reader's call is no put's
reads_or_puts : {A : Type 0} (c : Option Call) → IsReadCall c → IsPutCall c → A
reads_or_puts (Some (Put key value)) x y = absurd x
reads_or_puts (Some (Del key)) x y = absurd x
reads_or_puts (Some (Get key)) x y = absurd y
reads_or_puts (Some (Scan from upto)) x y = absurd y
reads_or_puts (Some Pin) x y = absurd x
reads_or_puts (Some (ScanAt from upto)) x y = absurd x
reads_or_puts (Some Unpin) x y = absurd x
reads_or_puts None x y = absurd x

left_over_unpaired : {A : Type 0} (l k next : Local) → k.call ≡ l.call → NextLeftOver k next → IsReadCall l.call → IsPutCall next.call → A
left_over_unpaired l k next e n x y = reads_or_puts l.call x (subst IsPutCall ((cell_call k next n).0 ∙ e) y)

unpaired_own : (z : Sizes) (r r' : Run) (s : ℕ) (choice : Choice) (l : Local) (a : Activity) (l' : Local) → Arrow z (word z r.world) s choice l a l' → Happens z r r' s choice l l' a → Inv z r → IsPutCall l'.call → l'.pairs ≡ []
unpaired_own z r r' s choice l (Activity.Rebalance b) l' x h i p = let n = rebalance_goes z (word z r.world) s choice l b l' x in n.pairs ∙ i.replies.unpaired s l h.knows (subst IsPutCall n.call p)
unpaired_own z r r' s choice l a l' (builds b next y t) h i p = absurd y
unpaired_own z r r' s choice l a l' (asks_of_pin next o n) h i p = no_call_of_pin _ h i.shape o
unpaired_own z r r' s choice l a l' (begins call e x) h i p = (i.replies.pairs s l h.knows).early (subst IsEarly (sym h.activity) tt)
unpaired_own z r r' s choice l a l' (first_ends next e x) h i p = left_over_unpaired l _ next refl x (kind_of z r r' s choice l l' h i) p
unpaired_own z r r' s choice l a l' (list_ends next e x) h i p = left_over_unpaired l _ next refl x (kind_of z r r' s choice l l' h i) p
unpaired_own z r r' s choice l a l' (key_above next e x) h i p = left_over_unpaired l _ next refl x (kind_of z r r' s choice l l' h i) p
unpaired_own z r r' s choice l a l' (left_over_gone_by next e x) h i p = left_over_unpaired l _ next refl x (kind_of z r r' s choice l l' h i) p
unpaired_own z r r' s choice l a l' (gathers_left_over next x) h i p = left_over_unpaired l _ next refl x (kind_of z r r' s choice l l' h i) p
unpaired_own z r r' s choice l a l' (leaves answer) h i p = refl
unpaired_own z r r' s choice l a l' b h i p = i.replies.unpaired s l h.knows p

-- what follows a rebalance is no answer of a get
after_answered : (a : Activity) (call : Option Call) (h : History) (l : Local) (g : SeatLog) → IsAfterRebalance a → IsPutCall call → IsAnswered a call h l g
after_answered (Activity.Leave answer) call h l g b p = put_answered call answer h l g p
after_answered _ call h l g b p = tt

-- a call that rebalances is a put or a delete
rebalance_puts : (b : Rebalance) (l : Local) → IsKind (Activity.Rebalance b) l → IsPutCall l.call
rebalance_puts (Rebalance.Engage (Engage.Decide count)) l k = k.0
rebalance_puts (Rebalance.Freeze (Freeze.Pin i)) l k = absurd k
rebalance_puts _ l k = k

-- the answer of the acting get
pub answers_own : (z : Sizes) (r r' : Run) (s : ℕ) (choice : Choice) (l : Local) (a : Activity) (l' : Local) → Arrow z (word z r.world) s choice l a l' → Happens z r r' s choice l l' a → Before z r r' → Readers z r' → Contents z r' → IsAnswered l'.activity l'.call r'.history l' (r'.seats s)
answers_own z r r' s choice l (Activity.Rebalance b) l' x h i n w =
    let g = rebalance_goes z (word z r.world) s choice l b l' x in
    after_answered l'.activity l'.call r'.history l' (r'.seats s) g.next (subst IsPutCall (sym g.call) (rebalance_puts b l (kind_of z r r' s choice l l' h i.inv)))
answers_own z r r' s choice l a l' (builds b next y t) h i n w = absurd y
answers_own z r r' s choice l a l' (asks_of_pin next o q) h i n w = no_call_of_pin _ h i.inv.shape o
answers_own z r r' s choice l a l' (is_spent e) h i n w = scan_call_answered l.call Spent r'.history (leave Spent l).local (r'.seats s) (kind_of z r r' s choice l l' h i.inv)
answers_own z r r' s choice l a l' (clears_scan answer) h i n w = scan_call_answered l.call (answer_or_stopped answer choice) r'.history (leave (answer_or_stopped answer choice) l).local (r'.seats s) (kind_of z r r' s choice l l' h i.inv).0
answers_own z r r' s choice l a l' (stops e) h i n w = scan_answered l.call Stopped r'.history (leave Stopped l).local (r'.seats s) (and_parts _ _ (and_parts _ _ e).1).0
answers_own z r r' s choice l a l' clears h i n w = put_answered l.call Done r'.history (leave Done l).local (r'.seats s) (kind_of z r r' s choice l l' h i.inv)
answers_own z r r' s choice l a l' clears_pin h i n w = absurd (kind_of z r r' s choice l l' h i.inv)
answers_own z r r' s choice l a l' (first_ends next e x) h i n w = cell_answered z r r' s choice l _ _ l' (first_ends next e x) h i n w tt (record { call = refl; row = refl; want = refl; next = refl; upper = refl; version = refl; pairs = refl }) x
answers_own z r r' s choice l a l' (list_ends next e x) h i n w = cell_answered z r r' s choice l _ _ l' (list_ends next e x) h i n w tt (record { call = refl; row = refl; want = refl; next = refl; upper = refl; version = refl; pairs = refl }) x
answers_own z r r' s choice l a l' (key_above next e x) h i n w = cell_answered z r r' s choice l _ _ l' (key_above next e x) h i n w tt (record { call = refl; row = refl; want = refl; next = refl; upper = refl; version = refl; pairs = refl }) x
answers_own z r r' s choice l a l' (left_over_gone_by next e x) h i n w = cell_answered z r r' s choice l _ _ l' (left_over_gone_by next e x) h i n w tt (record { call = refl; row = refl; want = refl; next = refl; upper = refl; version = refl; pairs = refl }) x
answers_own z r r' s choice l a l' (gathers_left_over next x) h i n w = cell_answered z r r' s choice l _ _ l' (gathers_left_over next x) h i n w tt (record { call = refl; row = refl; want = refl; next = refl; upper = refl; version = refl; pairs = refl }) x
answers_own z r r' s choice l a l' (sees_stamped j c version next e x) h i n w = look_answered z _ next x l.call r'.history _ (r'.seats s)
answers_own z r r' s choice l a l' (sees_neither j next e x) h i n w = look_answered z _ next x l.call r'.history _ (r'.seats s)
answers_own z r r' s choice l a l' (is_gone_by next e x) h i n w = look_answered z _ next x l.call r'.history _ (r'.seats s)
answers_own z r r' s choice l a l' (helps next e x) h i n w = look_answered z _ next x l.call r'.history _ (r'.seats s)
answers_own z r r' s choice l a l' (finds_stamped c version next e x) h i n w = look_answered z _ next x l.call r'.history _ (r'.seats s)
answers_own z r r' s choice l a l' (finds_other next e x) h i n w = look_answered z _ next x l.call r'.history _ (r'.seats s)
answers_own z r r' s choice l a l' b h i n w = tt

-- The group.

pub replies_keep : (z : Sizes) (r r' : Run) (s : ℕ) (choice : Choice) (l : Local) (a : Activity) (l' : Local) → Happens z r r' s choice l l' a → Before z r r' → Readers z r' → Contents z r' → Replies r'
replies_keep z r r' s choice l a l' h i n c = record {
  pairs = each_seat h (λ t k. HasPairs r'.history k.activity k (r'.seats t)) (pairs_own z r r' s choice l a l' h.arrow h i n c) (λ t k d g. pairs_stable z r r' t k (rely z r r' s choice l a l' h i.inv t k d g) (i.inv.positions.drew t) (i.inv.replies.pairs t k g));
  unpaired = each_seat h (λ t k. IsPutCall k.call → k.pairs ≡ []) (unpaired_own z r r' s choice l a l' h.arrow h i.inv) (λ t k d g. i.inv.replies.unpaired t k g);
  answers = each_seat h (λ t k. IsAnswered k.activity k.call r'.history k (r'.seats t)) (answers_own z r r' s choice l a l' h.arrow h i n c) (λ t k d g. answers_stable z r r' t k (rely z r r' s choice l a l' h i.inv t k d g) i.inv.history (i.inv.positions.calling t k g) (i.inv.replies.answers t k g));
}
