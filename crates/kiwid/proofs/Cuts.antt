-- Lines, where more bytes may come behind what is held.
use Rattle.std.proofs.Common.{ℕ, ◌≡◌, ◌≢◌, ◌<◌, ◌≤◌, List, [], ◌∷◌, ◌++◌, Bool, true, false, eqb, length, codes, map, refl, sym, ap, ◌∙◌, arith, append_assoc, append-nil, length-append, Option, Some, None}
use Rattle.std.specs.Fmt.{decimal}
use Rattle.std.specs.Io.KnownBytes.{Consumes, IsAtEnd}
use Rattle.std.proofs.lemmas.List.Elements.{All-from_recursion, All-append, All-nil}
use Rattle.std.proofs.lemmas.Bool.{eqb-true, eqb-false}
use Rattle.kw_line.specs.Cut.{lines, words}
use Rattle.kw_line.specs.Line.{form_word, arguments, item_text}
use Rattle.kw_line.specs.declared.item.Item.TheVariants as item
use Rattle.kw_line.specs.declared.words.TheConstants.{LINE_FEED}
use Rattle.kw_line.proofs.Parts.{HasNo, lines_cut, lines_one}
use Rattle.kw_line.proofs.Texts.{words-item_text, form_word_not_wait}
use Rattle.kiwid.specs.Requests.{IsRequestLine, call_of, form_of}
use Rattle.kiwid.specs.Session.{IsMore}

-- the first line is at least as long as what is held, where no line feed is held
pub record Longer (held all : List ℕ) : Type 0 where
  pub line : List ℕ
  pub rest : List (List ℕ)
  pub lines_are : lines all ≡ line ∷ rest
  pub long : length held ≤ length line

no_feed_snoc : (held : List ℕ) (b : ℕ) → HasNo LINE_FEED held → b ≢ LINE_FEED → HasNo LINE_FEED (held ++ b ∷ [])
no_feed_snoc held b h n = All-append (λ byte. byte ≢ LINE_FEED) held (b ∷ []) h (All-from_recursion (λ byte. byte ≢ LINE_FEED) (b ∷ []) (n, tt))

-- by its first byte
first_byte : (held : List ℕ) (b : ℕ) (bs : List ℕ) → HasNo LINE_FEED held → 0 < length held → (b ≢ LINE_FEED → Longer (held ++ b ∷ []) ((held ++ b ∷ []) ++ bs)) → Longer held (held ++ b ∷ bs)
first_byte held b bs h some next = go (eqb b LINE_FEED) refl
  where
    go : (t : Bool) → eqb b LINE_FEED ≡ t → Longer held (held ++ b ∷ bs)
    go true e =
        let f = eqb-true b LINE_FEED e in
        record { line = held; rest = lines bs; lines_are = ap (λ x. lines (held ++ x ∷ bs)) f ∙ lines_cut held bs h; long = omega arith }
    go false e =
        let i = next (eqb-false b LINE_FEED e) in
        record { line = i.line; rest = i.rest; lines_are = ap lines (sym (append_assoc held (b ∷ []) bs)) ∙ i.lines_are; long = omega (arith, i.long, length-append held (b ∷ [])) }

pub longer : (more held : List ℕ) → HasNo LINE_FEED held → 0 < length held → Longer held (held ++ more)
longer [] held h some = record { line = held; rest = []; lines_are = ap lines (append-nil held) ∙ lines_one held some h; long = omega arith }
longer (b ∷ bs) held h some = first_byte held b bs h some (λ n. longer bs (held ++ b ∷ []) (no_feed_snoc held b h n) (omega (arith, length-append held (b ∷ []))))

pub some_line : (all : List ℕ) → 0 < length all → IsMore (lines all)
some_line [] some = absurd (omega arith)
some_line (b ∷ bs) some = go (eqb b LINE_FEED) refl
  where
    go : (t : Bool) → eqb b LINE_FEED ≡ t → IsMore (lines (b ∷ bs))
    go true e = ([], lines bs, ap (λ x. lines (x ∷ bs)) (eqb-true b LINE_FEED e) ∙ lines_cut [] bs (All-nil (λ byte. byte ≢ LINE_FEED)))
    go false e = let i = longer bs (b ∷ []) (All-from_recursion (λ byte. byte ≢ LINE_FEED) (b ∷ []) (eqb-false b LINE_FEED e, tt)) (omega arith) in (i.line, i.rest, i.lines_are)

-- what a source had left, where it tells that: what it gave, and what came behind
pub record Told (old new : Option (List ℕ)) (came : List ℕ) : Type 0 where
  pub more : List ℕ
  pub tells : (bytes : List ℕ) → old ≡ Some bytes → came ++ more ≡ bytes
  pub ends : IsAtEnd new → more ≡ []

pub told : (old new : Option (List ℕ)) (came : List ℕ) → Consumes old new came → Told old new came
told None new came h = record { more = []; tells = λ bytes e. cc; ends = λ _. refl }
told (Some xs) None came h = absurd h
told (Some xs) (Some ys) came h = record { more = ys; tells = λ bytes e. let same : xs ≡ bytes = cc in sym h ∙ same; ends = λ e. e }

-- a line that asks to wait is no request
pub not_wait : (line : List ℕ) → line ≡ item_text item.Wait → IsRequestLine line → ⊥
not_wait line w (r, h, t) =
    let x : codes "wait" ∷ [] ≡ form_word (form_of r) ∷ map decimal (arguments (call_of r)) = sym (words-item_text item.Wait tt) ∙ (ap words (sym w ∙ t) ∙ words-item_text (item.Call (call_of r) (form_of r)) h) in
    let same : form_word (form_of r) ≡ codes "wait" = cc in
    form_word_not_wait (form_of r) same
