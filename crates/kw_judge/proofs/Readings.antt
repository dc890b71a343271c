-- What a reader took, and which lines it takes.
use Rattle.std.proofs.Common.{ℕ, zero, suc, ◌≡◌, ◌+◌, ◌<◌, ◌≤◌, ◌⊎◌, inl, inr, Option, Some, None, MatchOption, Result, is_some, Bool, true, false, eqb, List, [], ◌∷◌, ◌++◌, map, Vec, Global, length, slice_get, Contains, refl, sym, ap, ◌∙◌, subst, arith, append_assoc, length-append, nat_cmp}
use Rattle.std.specs.List.{AllByRecursion}
use Rattle.std.specs.Option.{ok_or}
use Rattle.std.specs.BTreeMap.{BTreeMap, get, Updates}
use Rattle.std.proofs.lemmas.Bool.{cases_lt, eqb-true, eqb-false}
use Rattle.std.proofs.lemmas.List.{append-nil, map_push, nil_from_length}
use Rattle.std.proofs.lemmas.Option.{slice_get-get_or, slice_get_within, get_or_from_slice_get}
use Rattle.kw_judge.specs.declared.record.Name.{Name}
use Rattle.kw_judge.specs.declared.record.DoneCall.{DoneCall}
use Rattle.kw_judge.specs.declared.record.OpenCall.{OpenCall}
use Rattle.kw_judge.specs.declared.record.TheConstants.{MOST_CALLS}
use Rattle.kw_line.specs.Cut.{lines}
use Rattle.kw_line.specs.Line.{IfBad}
use Rattle.kw_line.specs.declared.error.LineError.{LineError}
use Rattle.kw_line.specs.declared.error.LineError.TheVariants as error
use Rattle.kw_judge.specs.declared.read.Reader.{Reader}
use Rattle.kw_judge.specs.Record.{RecordView, IsRecord, IsName, IsDone, IsOpen, Once, names_of, record_lines, IsFirstBad, Begins}
use Rattle.kw_judge.specs.Index.{key_of, IsIndexBelow, IsIndex, AreNames}
use Rattle.kw_judge.specs.Written.{IsNoLine}
use Rattle.kw_judge.specs.Texts.{done_text, open_text, order_text}
use Rattle.kw_judge.specs.Reader.{names_taken, order_lines, lines_taken, IsIndexed, order_taken, IsReading}
use Rattle.kw_judge.proofs.Indexes.{one_more, stood, is_new}
use Rattle.kw_judge.proofs.Verdicts.{named_lines}
use Rattle.kw_judge.proofs.Prefixes.{Begun, done_follows, open_follows, no_done_after, no_line_after, no_whole, no_such_line}

-- Names behind others.

slice_get-front : {X : Type 0} (xs ys : List X) (k : ℕ) → k < length xs → slice_get (xs ++ ys) k ≡ slice_get xs k
slice_get-front [] ys k l = absurd (omega arith)
slice_get-front (x ∷ xs) ys zero l = refl
slice_get-front (x ∷ xs) ys (suc k) l = slice_get-front xs ys k (omega arith)

slice_get-seam : {X : Type 0} (xs : List X) (y : X) (ys : List X) → slice_get (xs ++ y ∷ ys) (length xs) ≡ Some y
slice_get-seam [] y ys = refl
slice_get-seam (x ∷ xs) y ys = slice_get-seam xs y ys

-- a record in which a name stands again, or which has one line too many, is none
pub crowded : (w : RecordView) (before more : List Name) (n : Name) → IsRecord w → names_of w ≡ before ++ n ∷ more → Contains before n ⊎ (MOST_CALLS ≤ length before) → ⊥
crowded w before more n h e (inl (k, l, f)) =
    let there : slice_get (names_of w) k ≡ Some n = ap (λ ns. slice_get ns k) e ∙ (slice_get-front before (n ∷ more) k l ∙ (slice_get-get_or before k n l ∙ ap Some f)) in
    let again : slice_get (names_of w) (length before) ≡ Some n = ap (λ ns. slice_get ns (length before)) e ∙ slice_get-seam before n more in
    omega (arith, h.once k (length before) n there again)
crowded w before more n h e (inr many) = omega (arith, h.few, ap length e, length-append before (n ∷ more))

-- one more name that is new stands once
pub once_more : (names : List Name) (n : Name) → Once names → (Contains names n → ⊥) → Once (names ++ n ∷ [])
once_more names n once new i j x w v = at (cases_lt i (length names)) (cases_lt j (length names))
  where
    within : (k : ℕ) → slice_get (names ++ n ∷ []) k ≡ Some x → k < length names + 1
    within k e = omega (arith, slice_get_within (names ++ n ∷ []) k x e, length-append names (n ∷ []))

    last : (k : ℕ) → length names ≤ k → slice_get (names ++ n ∷ []) k ≡ Some x → n ≡ x
    last k l e =
        let is : length names ≡ k = omega (arith, within k e) in
        let both : Some n ≡ Some x = sym (slice_get-seam names n []) ∙ (ap (slice_get (names ++ n ∷ [])) is ∙ e) in
        cc

    here : (k : ℕ) → k < length names → slice_get (names ++ n ∷ []) k ≡ Some x → slice_get names k ≡ Some x
    here k l e = sym (slice_get-front names (n ∷ []) k l) ∙ e

    had : (k : ℕ) → slice_get names k ≡ Some n → ⊥
    had k e = new (k, slice_get_within names k n e, get_or_from_slice_get names k n n e)

    at : (i < length names) ⊎ (length names ≤ i) → (j < length names) ⊎ (length names ≤ j) → i ≡ j
    at (inl p) (inl q) = once i j x (here i p w) (here j q v)
    at (inr p) (inl q) = absurd (had j (here j q v ∙ ap Some (sym (last i p w))))
    at (inl p) (inr q) = absurd (had i (here i p w ∙ ap Some (sym (last j q v))))
    at (inr p) (inr q) = omega (arith, within i w, within j v)

each_more : {X : Type 0} (P : X → Type 0) (xs : List X) (x : X) → AllByRecursion P xs → P x → AllByRecursion P (xs ++ x ∷ [])
each_more P [] x h p = (p, tt)
each_more P (y ∷ ys) x h p = (h.0, each_more P ys x h.1 p)

-- Lines that are not taken.

begun : (r : Reader) → IsReading r → Begun r.done.items r.open_calls.items
begun r h = record { done = h.fits.each_done; open_calls = h.fits.each_open }

-- one that is nothing
pub nothing_there : (r : Reader) (line : List ℕ) → IsNoLine line → Begins (lines_taken r ++ line ∷ []) → ⊥
nothing_there r line nothing b = no_such_line b.whole (lines_taken r) b.rest line b.fits nothing (b.texts ∙ append_assoc (lines_taken r) (line ∷ []) b.rest)

-- one after the order
pub after_order : (r : Reader) (line : List ℕ) (b : Bool) → IsReading r → b ≡ is_some r.order → b ≡ true → Begins (lines_taken r ++ line ∷ []) → ⊥
after_order r line b h e t whole = at r.order (sym e ∙ t) h.fits.each_name (whole.texts ∙ append_assoc (lines_taken r) (line ∷ []) whole.rest)
  where
    front : List (List ℕ)
    front = map done_text r.done.items ++ map open_text r.open_calls.items

    at : (o : Option (Vec Name Global)) → is_some o ≡ true → AllByRecursion IsName (order_taken o) → record_lines whole.whole ≡ (front ++ order_lines o) ++ (line ∷ whole.rest) → ⊥
    at None f n g = cc
    at (Some names) f n g = no_line_after whole.whole r.done.items r.open_calls.items names.items line whole.rest whole.fits (begun r h) n (g ∙ append_assoc front (order_text names.items ∷ []) (line ∷ whole.rest))

-- what was taken without an order
no_order : (r : Reader) → r.order ≡ None → lines_taken r ≡ map done_text r.done.items ++ map open_text r.open_calls.items
no_order r e = ap (λ o. (map done_text r.done.items ++ map open_text r.open_calls.items) ++ order_lines o) e ∙ append-nil _

-- an answered call after one that was not
pub done_late : (r : Reader) (d : DoneCall) → IsReading r → r.order ≡ None → (r.open_calls.items ≡ [] → ⊥) → IsDone d → Begins (lines_taken r ++ done_text d ∷ []) → ⊥
done_late r d h none some is b = at r.open_calls.items refl
  where
    texts : record_lines b.whole ≡ (map done_text r.done.items ++ map open_text r.open_calls.items) ++ (done_text d ∷ b.rest)
    texts = b.texts ∙ (append_assoc (lines_taken r) (done_text d ∷ []) b.rest ∙ ap (λ ls. ls ++ (done_text d ∷ b.rest)) (no_order r none))

    at : (os : List OpenCall) → r.open_calls.items ≡ os → ⊥
    at [] e = some e
    at (o ∷ os) e = no_done_after b.whole r.done.items o os d b.rest b.fits (subst (λ (ps : List OpenCall). Begun r.done.items ps) e (begun r h)) is (texts ∙ ap (λ (ps : List OpenCall). (map done_text r.done.items ++ map open_text ps) ++ (done_text d ∷ b.rest)) e)

-- one whose name stands already, or one too many
pub done_refused : (r : Reader) (d : DoneCall) → IsReading r → r.order ≡ None → r.open_calls.items ≡ [] → IsDone d → Contains (names_taken r) d.name ⊎ (MOST_CALLS ≤ length (names_taken r)) → Begins (lines_taken r ++ done_text d ∷ []) → ⊥
done_refused r d h none empty is why b =
    let texts = b.texts ∙ (append_assoc (lines_taken r) (done_text d ∷ []) b.rest ∙ ap (λ ls. ls ++ (done_text d ∷ b.rest)) (no_order r none ∙ (ap (λ (ps : List OpenCall). map done_text r.done.items ++ map open_text ps) empty ∙ append-nil _))) in
    let follows = done_follows b.whole r.done.items d b.rest b.fits h.fits.each_done is texts in
    let names : names_taken r ≡ map (λ (c : DoneCall). c.name) r.done.items = ap (λ (ps : List OpenCall). map (λ (c : DoneCall). c.name) r.done.items ++ map (λ (o : OpenCall). o.name) ps) empty ∙ append-nil _ in
    crowded b.whole (map (λ (c : DoneCall). c.name) r.done.items) follows.0 d.name b.fits follows.1 (subst (λ (ns : List Name). Contains ns d.name ⊎ (MOST_CALLS ≤ length ns)) names why)

pub open_refused : (r : Reader) (o : OpenCall) → IsReading r → r.order ≡ None → IsOpen o → Contains (names_taken r) o.name ⊎ (MOST_CALLS ≤ length (names_taken r)) → Begins (lines_taken r ++ open_text o ∷ []) → ⊥
open_refused r o h none is why b =
    let texts = b.texts ∙ (append_assoc (lines_taken r) (open_text o ∷ []) b.rest ∙ ap (λ ls. ls ++ (open_text o ∷ b.rest)) (no_order r none)) in
    let follows = open_follows b.whole r.done.items r.open_calls.items o b.rest b.fits (begun r h) is texts in
    crowded b.whole (names_taken r) follows.0 o.name b.fits follows.1 why

-- What is there is no whole record without an order.
pub unfinished : (r : Reader) → IsReading r → r.order ≡ None → (w : RecordView) → IsRecord w → record_lines w ≡ lines_taken r → ⊥
unfinished r h none w fits e = no_whole w r.done.items r.open_calls.items fits (begun r h) (e ∙ (no_order r none ∙ sym (append-nil _)))

-- Names that are found.

-- the names of the lines are as many as the calls
pub length-names : (r : Reader) → length (names_taken r) ≡ length r.done.items + length r.open_calls.items
length-names r = count r.done.items r.open_calls.items
  where
    count : (ds : List DoneCall) (os : List OpenCall) → length (map (λ (d : DoneCall). d.name) ds ++ map (λ (o : OpenCall). o.name) os) ≡ length ds + length os
    count [] [] = refl
    count [] (o ∷ os) = let i = count [] os in omega (arith, i)
    count (d ∷ ds) os = let i = count ds os in omega (arith, i)

-- one more name is found behind those that were
pub indexed_more : (names : List Name) (n : ℕ) (m m' : BTreeMap ℕ ℕ) (name : Name) → AreNames names → IsName name → n ≡ length names → IsIndex names m → Updates nat_cmp m m' (key_of name) (Some n) → IsIndex (names ++ name ∷ []) m'
indexed_more names n m m' name fits is e h u = subst (λ k. IsIndexBelow (names ++ name ∷ []) k m') count (one_more (names ++ name ∷ []) n m m' name longer_fits (ap (slice_get (names ++ name ∷ [])) e ∙ slice_get-seam names name []) longer u)
  where
    count : n + 1 ≡ length (names ++ name ∷ [])
    count = omega (arith, e, length-append names (name ∷ []))

    longer_fits : AreNames (names ++ name ∷ [])
    longer_fits k a w = elim (cases_lt k (length names)) [
      | inl below ↦ fits k a (sym (slice_get-front names (name ∷ []) k below) ∙ w)
      | inr above ↦ (let is_last : length names ≡ k = omega (arith, slice_get_within (names ++ name ∷ []) k a w, length-append names (name ∷ [])) in
          let both : Some name ≡ Some a = sym (slice_get-seam names name []) ∙ (ap (slice_get (names ++ name ∷ [])) is_last ∙ w) in
          let same : name ≡ a = cc in subst IsName same is)
    ]

    longer : IsIndexBelow (names ++ name ∷ []) n m
    longer = record {
      found = λ a p f g. let q = h.found a p f g in (omega (arith, q.0, e), slice_get-front names (name ∷ []) p q.0 ∙ q.1);
      lost = λ a p g l w. h.lost a p g (omega (arith, l, e)) (sym (slice_get-front names (name ∷ []) p (omega (arith, l, e))) ∙ w);
    }

-- Lines that are taken.

push_first : {X Y Z : Type 0} (f : X → Z) (g : Y → Z) (xs : List X) (x : X) (ys : List Y) → ys ≡ [] → map f (xs ++ x ∷ []) ++ map g ys ≡ (map f xs ++ map g ys) ++ f x ∷ []
push_first f g xs x [] e = append-nil _ ∙ (map_push f xs x ∙ ap (λ t. t ++ f x ∷ []) (sym (append-nil (map f xs))))
push_first f g xs x (y ∷ ys) e = cc

push_second : {X Y Z : Type 0} (f : X → Z) (g : Y → Z) (xs : List X) (ys : List Y) (y : Y) → map f xs ++ map g (ys ++ y ∷ []) ≡ (map f xs ++ map g ys) ++ g y ∷ []
push_second f g xs ys y = ap (λ t. map f xs ++ t) (map_push g ys y) ∙ sym (append_assoc (map f xs) (map g ys) (g y ∷ []))

-- what one more call leaves of a reader, where its name is new
reading_more : (old new : Reader) (n : Name) → IsReading old → old.order ≡ None → new.order ≡ None → AllByRecursion IsDone new.done.items → AllByRecursion IsOpen new.open_calls.items → names_taken new ≡ names_taken old ++ n ∷ [] → IsIndexed (names_taken old ++ n ∷ []) new → length (names_taken old) < MOST_CALLS → (Contains (names_taken old) n → ⊥) → IsReading new
reading_more old new n h none still dones opens names index few new_name = record {
  fits = record {
    each_done = dones;
    each_open = opens;
    each_name = subst (λ (o : Option (Vec Name Global)). AllByRecursion IsName (order_taken o)) (sym still) tt;
    once = subst (λ (ns : List Name). Once ns) (sym names) (once_more (names_taken old) n h.fits.once new_name);
    few = omega (arith, few, ap length names, length-append (names_taken old) (n ∷ []));
  };
  index = subst (λ (ns : List Name). IsIndexed ns new) (sym names) index;
}

pub done_taken : (old new : Reader) (d : DoneCall) → IsReading old → old.order ≡ None → old.open_calls.items ≡ [] → IsDone d → new.done.items ≡ old.done.items ++ d ∷ [] → new.open_calls ≡ old.open_calls → new.order ≡ old.order → IsIndexed (names_taken old ++ d.name ∷ []) new → length (names_taken old) < MOST_CALLS → (Contains (names_taken old) d.name → ⊥) → IsReading new × (lines_taken new ≡ lines_taken old ++ done_text d ∷ [])
done_taken old new d h none empty is dones opens order index few new_name =
    let same : new.open_calls.items ≡ old.open_calls.items = ap (λ v. v.items) opens in
    let still : new.order ≡ None = order ∙ none in
    let names : names_taken new ≡ names_taken old ++ d.name ∷ [] =
    ap (λ (ds : List DoneCall). map (λ (c : DoneCall). c.name) ds ++ map (λ (o : OpenCall). o.name) new.open_calls.items) dones ∙ (ap (λ (os : List OpenCall). map (λ (c : DoneCall). c.name) (old.done.items ++ d ∷ []) ++ map (λ (o : OpenCall). o.name) os) same ∙ push_first (λ (c : DoneCall). c.name) (λ (o : OpenCall). o.name) old.done.items d old.open_calls.items empty) in
    let lines = no_order new still ∙ (ap (λ (ds : List DoneCall). map done_text ds ++ map open_text new.open_calls.items) dones ∙ (ap (λ (os : List OpenCall). map done_text (old.done.items ++ d ∷ []) ++ map open_text os) same ∙ (push_first done_text open_text old.done.items d old.open_calls.items empty ∙ ap (λ t. t ++ done_text d ∷ []) (sym (no_order old none))))) in
    (reading_more old new d.name h none still (subst (λ (ds : List DoneCall). AllByRecursion IsDone ds) (sym dones) (each_more IsDone old.done.items d h.fits.each_done is)) (subst (λ (os : List OpenCall). AllByRecursion IsOpen os) (sym same) h.fits.each_open) names index few new_name, lines)

pub open_taken : (old new : Reader) (o : OpenCall) → IsReading old → old.order ≡ None → IsOpen o → new.done ≡ old.done → new.open_calls.items ≡ old.open_calls.items ++ o ∷ [] → new.order ≡ old.order → IsIndexed (names_taken old ++ o.name ∷ []) new → length (names_taken old) < MOST_CALLS → (Contains (names_taken old) o.name → ⊥) → IsReading new × (lines_taken new ≡ lines_taken old ++ open_text o ∷ [])
open_taken old new o h none is dones opens order index few new_name =
    let same : new.done.items ≡ old.done.items = ap (λ v. v.items) dones in
    let still : new.order ≡ None = order ∙ none in
    let names : names_taken new ≡ names_taken old ++ o.name ∷ [] =
    ap (λ (ds : List DoneCall). map (λ (c : DoneCall). c.name) ds ++ map (λ (p : OpenCall). p.name) new.open_calls.items) same ∙ (ap (λ (os : List OpenCall). map (λ (c : DoneCall). c.name) old.done.items ++ map (λ (p : OpenCall). p.name) os) opens ∙ push_second (λ (c : DoneCall). c.name) (λ (p : OpenCall). p.name) old.done.items old.open_calls.items o) in
    let lines = no_order new still ∙ (ap (λ (ds : List DoneCall). map done_text ds ++ map open_text new.open_calls.items) same ∙ (ap (λ (os : List OpenCall). map done_text old.done.items ++ map open_text os) opens ∙ (push_second done_text open_text old.done.items old.open_calls.items o ∙ ap (λ t. t ++ open_text o ∷ []) (sym (no_order old none))))) in
    (reading_more old new o.name h none still (subst (λ (ds : List DoneCall). AllByRecursion IsDone ds) (sym same) h.fits.each_done) (subst (λ (os : List OpenCall). AllByRecursion IsOpen os) (sym opens) (each_more IsOpen old.open_calls.items o h.fits.each_open is)) names index few new_name, lines)

-- what was taken begins a record
pub begins : (r : Reader) → IsReading r → Begins (lines_taken r)
begins r h = at r.order h.fits
  where
    front : List (List ℕ)
    front = map done_text r.done.items ++ map open_text r.open_calls.items

    at : (o : Option (Vec Name Global)) → IsRecord (record { done = r.done.items; open_calls = r.open_calls.items; order = order_taken o }) → Begins (front ++ order_lines o)
    at None f = record { whole = record { done = r.done.items; open_calls = r.open_calls.items; order = [] }; fits = f; rest = order_text [] ∷ []; texts = ap (λ t. t ++ order_text [] ∷ []) (sym (append-nil front)) }
    at (Some names) f = record { whole = record { done = r.done.items; open_calls = r.open_calls.items; order = names.items }; fits = f; rest = []; texts = sym (append-nil _) }

-- whether open calls were taken
pub some_open : (v : Vec OpenCall Global) (b : Bool) → b ≡ eqb v.len 0 → b ≡ false → v.items ≡ [] → ⊥
some_open v b e f g = eqb-false v.len 0 (sym e ∙ f) (v.ok.0 ∙ ap length g)

pub no_open : (v : Vec OpenCall Global) (b : Bool) → b ≡ eqb v.len 0 → b ≡ true → v.items ≡ []
no_open v b e t = nil_from_length v.items (sym v.ok.0 ∙ eqb-true v.len 0 (sym e ∙ t))

-- a name that is found is there, and one that is not is not
pub found_name : (names : List Name) (m : BTreeMap ℕ ℕ) (name : Name) (k : ℕ) (b : Bool) → IsName name → IsIndex names m → k ≡ key_of name → b ≡ is_some (get nat_cmp m k) → b ≡ true → Contains names name
found_name names m name k b fits h e s t = let p = stood names (length names) m name (get nat_cmp m k) b fits h (ap (get nat_cmp m) e) s t in (p.0, p.1, get_or_from_slice_get names p.0 name name p.2)

pub no_such_name : (names : List Name) (m : BTreeMap ℕ ℕ) (name : Name) (k : ℕ) (b : Bool) → IsIndex names m → k ≡ key_of name → b ≡ is_some (get nat_cmp m k) → b ≡ false → Contains names name → ⊥
no_such_name names m name k b h e s t (p, l, w) = is_new names (length names) m name (get nat_cmp m k) b h (ap (get nat_cmp m) e) s t p l (slice_get-get_or names p name l ∙ ap Some w)

-- the names that were taken are in range
pub taken_names : (r : Reader) → IsReading r → AreNames (names_taken r)
taken_names r h = named_lines (record { done = r.done.items; open_calls = r.open_calls.items; order = order_taken r.order }) h.fits

-- where no record was finished, the line after the last is the bad one
pub finished : (bytes : List ℕ) (r : Reader) (n : ℕ) (o : Option RecordView) (told : Result RecordView LineError) → told ≡ ok_or o (error.Bad (n + 1)) → IsReading r → lines bytes ≡ lines_taken r → n ≡ length (lines_taken r) → MatchOption o ((w : RecordView) → IsRecord w → record_lines w ≡ lines_taken r → ⊥) (λ w. IsRecord w × (record_lines w ≡ lines_taken r)) → IfBad (IsFirstBad bytes) told
finished bytes r n (Some w) told e h cut count m = rw e tt
finished bytes r n None told e h cut count m = rw e (record {
  before = lines_taken r;
  after = [];
  number_is = ap (λ k. k + 1) count;
  cut = cut ∙ sym (append-nil (lines_taken r));
  begins = begins r h;
  bad = m;
})
