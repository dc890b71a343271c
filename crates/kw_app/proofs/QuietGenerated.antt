-- All generated lines are quiet, so where none is refused its answers are those of the map of one
-- thread.
use Rattle.std.proofs.Common.{ℕ, zero, suc, Bool, true, false, not, ◌≡◌, ◌<◌, ◌≤◌, ◌^◌, ◌%◌, cond, List, [], ◌∷◌, ◌++◌, length, map, Option, Some, refl, sym, ap, ◌∙◌, arith, length-append}
use Rattle.std.specs.Prelude.{◌||◌, nat_lt, nat_eq}
use Rattle.std.specs.List.{slice_get, flat_map, onto_first}
use Rattle.std.specs.Option.{option_map}
use Rattle.std.proofs.lemmas.List.{map-append}
use Rattle.std.proofs.lemmas.Option.{slice_get-map}
use Rattle.kw_model.specs.declared.call.Call.TheVariants as call
use Rattle.kw_line.specs.declared.answer.Answer.{Answer}
use Rattle.kw_line.specs.declared.item.Form.{Form}
use Rattle.kw_line.specs.declared.item.Form.TheVariants as form
use Rattle.kw_line.specs.declared.item.Item.{Item}
use Rattle.kw_line.specs.declared.item.Item.TheVariants as item
use Rattle.kw_line.specs.Answered.{is_range}
use Rattle.kw_line.specs.Line.{forms}
use Rattle.kw_line.specs.Quiet.{blocks, is_wait, quiet, quiet_in}
use Rattle.kw_world.specs.Opening.{IsOpening}
use Rattle.kw_world.specs.Sizes.{product}
use Rattle.kw_table.specs.declared.pass.Pass.{Pass}
use Rattle.kw_table.specs.Passes.{view}
use Rattle.kw_command.specs.declared.command.TheConstants.{MOST_LINES}
use Rattle.kw_app.specs.declared.generate.TheConstants.{MODULUS, KEYS, KINDS, DELETE_KIND}
use Rattle.kw_app.specs.Answering.{IsAnswered, opening, some_refused}
use Rattle.kw_app.specs.Generated.{next, drawn, line_of, line_after, lines_after, last_lines, generated}
use Rattle.kw_app.specs.OneThread.{answers_to}
use Rattle.kw_app.proofs.Headlines.{all_quiet}
use Rattle.kw_app.proofs.Lines.{generated_are_items}

-- a generated line is no wait
line_is_no_wait : (a b c : ℕ) → is_wait (line_of a b c) ≡ false
line_is_no_wait a b c = at (nat_lt (a % KINDS) DELETE_KIND) (nat_eq (a % KINDS) DELETE_KIND)
  where
    at : (p q : Bool) → is_wait (cond p (item.Call (call.Put (b % KEYS) c) form.Put) (cond q (item.Call (call.Del (b % KEYS)) form.Del) (item.Call (call.Get (b % KEYS)) form.Get))) ≡ false
    at true q = refl
    at false true = refl
    at false false = refl

-- so the generated lines are the first block
blocks_of_generated : (n x : ℕ) (after : List Item) → blocks (lines_after x n ++ item.Wait ∷ after) ≡ lines_after x n ∷ blocks after
blocks_of_generated zero x after = refl
blocks_of_generated (suc n) x after =
    let rest = lines_after (next (next (next x))) n ++ item.Wait ∷ after in
    ap (λ (b : Bool). cond b ([] ∷ blocks rest) (onto_first (line_after x) (blocks rest))) (line_is_no_wait (drawn (next x)) (drawn (next (next x))) (drawn (next (next (next x)))))
    ∙ ap (onto_first (line_after x)) (blocks_of_generated n (next (next (next x))) after)

-- no generated line asks for a range, so each is quiet, whatever its block has
lines_are_quiet : (k : Bool) (n x : ℕ) → map (λ (f : Form). not (is_range f) || k) (forms (lines_after x n)) ≡ map (λ (f : Form). true) (forms (lines_after x n))
lines_are_quiet k zero x = refl
lines_are_quiet k (suc n) x = line_is_quiet (drawn (next x)) (drawn (next (next x))) (drawn (next (next (next x)))) (lines_after (next (next (next x))) n) (lines_are_quiet k n (next (next (next x))))
  where
    line_is_quiet : (a b c : ℕ) (rest : List Item) → map (λ (f : Form). not (is_range f) || k) (forms rest) ≡ map (λ (f : Form). true) (forms rest)
        → map (λ (f : Form). not (is_range f) || k) (forms (line_of a b c ∷ rest)) ≡ map (λ (f : Form). true) (forms (line_of a b c ∷ rest))
    line_is_quiet a b c rest h = at (nat_lt (a % KINDS) DELETE_KIND) (nat_eq (a % KINDS) DELETE_KIND)
      where
        at : (p q : Bool) → map (λ (f : Form). not (is_range f) || k) (forms (cond p (item.Call (call.Put (b % KEYS) c) form.Put) (cond q (item.Call (call.Del (b % KEYS)) form.Del) (item.Call (call.Get (b % KEYS)) form.Get)) ∷ rest))
            ≡ map (λ (f : Form). true) (forms (cond p (item.Call (call.Put (b % KEYS) c) form.Put) (cond q (item.Call (call.Del (b % KEYS)) form.Del) (item.Call (call.Get (b % KEYS)) form.Get)) ∷ rest))
        at true q = ap (λ (l : List Bool). true ∷ l) h
        at false true = ap (λ (l : List Bool). true ∷ l) h
        at false false = ap (λ (l : List Bool). true ∷ l) h

-- the forms of two lists of items
forms-append : (xs ys : List Item) → forms (xs ++ ys) ≡ forms xs ++ forms ys
forms-append [] ys = refl
forms-append (item.Call c f ∷ xs) ys = ap (λ (l : List Form). f ∷ l) (forms-append xs ys)
forms-append (item.Wait ∷ xs) ys = forms-append xs ys

-- the last lines stand in a block without updates, so all lines are quiet
quiet_generated : (start count : ℕ) → quiet (generated start count) ≡ map (λ (f : Form). true) (forms (generated start count))
quiet_generated start count =
    let lines = lines_after (start % MODULUS) count in
    let last = form.Count ∷ form.Sum ∷ form.Least ∷ form.Greatest ∷ [] in
    ap (flat_map quiet_in) (blocks_of_generated count (start % MODULUS) _)
    ∙ (ap (λ (l : List Bool). l ++ true ∷ true ∷ true ∷ true ∷ []) (lines_are_quiet _ count (start % MODULUS))
    ∙ (sym (map-append (λ (f : Form). true) (forms lines) last) ∙ ap (map (λ (f : Form). true)) (sym (forms-append lines last_lines))))

-- each line is
pub generated_is_quiet : (start count i : ℕ) (f : Form) → slice_get (forms (generated start count)) i ≡ Some f → slice_get (quiet (generated start count)) i ≡ Some true
generated_is_quiet start count i f e =
    ap (λ (l : List Bool). slice_get l i) (quiet_generated start count)
    ∙ (slice_get-map (λ (f : Form). true) (forms (generated start count)) i ∙ ap (option_map (λ (f : Form). true)) e)

-- so where none is refused the answers are those of the map of one thread
pub generated_answers : (start count workers rows : ℕ) (answers : List Answer) (front : Option Pass) → IsOpening product (opening workers rows)
    → IsAnswered workers rows (generated start count) answers front → some_refused answers ≡ false → answers ≡ answers_to (generated start count)
generated_answers start count workers rows answers front o are none =
    all_quiet (opening workers rows) (generated start count) answers (view are.pass) o (generated_are_items start count) are.run.shows (generated_is_quiet start count) none

length-lines_after : (n x : ℕ) → length (lines_after x n) ≡ n
length-lines_after zero x = refl
length-lines_after (suc n) x = ap suc (length-lines_after n (next (next (next x))))

-- the generated lines can be counted
pub generated_is_few : (start count : ℕ) → count ≤ MOST_LINES → length (generated start count) < 2 ^ 32
generated_is_few start count most =
    let a = length-append (lines_after (start % MODULUS) count) last_lines in
    let b = length-lines_after count (start % MODULUS) in
    omega arith
