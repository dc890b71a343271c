-- Lines of a record that grow at the end of a text, part by part.
use Rattle.std.proofs.Common.{ℕ, ◌≡◌, List, [], ◌∷◌, ◌++◌, map, length, codes, sym, ap, ◌∙◌, append_assoc, Bool, true, false, eqb, arith}
use Rattle.std.specs.Fmt.{decimal}
use Rattle.std.specs.List.{join_with_byte, flat_map}
use Rattle.std.proofs.lemmas.List.{append-nil}
use Rattle.std.proofs.lemmas.Bool.{false≢true, eqb-true}
use Rattle.kw_line.specs.declared.words.TheConstants.{LINE_FEED, SPACE}
use Rattle.kw_judge.specs.declared.print.TheConstants.{COLON}
use Rattle.kw_judge.specs.declared.record.Name.{Name}
use Rattle.kw_judge.specs.declared.record.DoneCall.{DoneCall}
use Rattle.kw_judge.specs.declared.record.OpenCall.{OpenCall}
use Rattle.kw_judge.specs.Texts.{call_text, reply_text, name_text, done_head, done_text, open_text, order_text}

-- one part more in front of those that follow
pub more : (before text after part parts : List ℕ) → text ≡ before ++ part → after ≡ text ++ parts → after ≡ before ++ (part ++ parts)
more before text after part parts e f = f ∙ ap (λ t. t ++ parts) e ∙ append_assoc before part parts

-- what follows the words of a line is put behind them
pub behind_three : (a b c d x : List ℕ) → (a ++ SPACE ∷ (b ++ SPACE ∷ (c ++ SPACE ∷ d))) ++ x ≡ a ++ SPACE ∷ (b ++ SPACE ∷ (c ++ SPACE ∷ (d ++ x)))
behind_three a b c d x = append_assoc a _ x ∙ ap (λ t. a ++ SPACE ∷ t) (append_assoc b _ x ∙ ap (λ t. b ++ SPACE ∷ t) (append_assoc c _ x))

behind_two : (a b c x : List ℕ) → (a ++ SPACE ∷ (b ++ SPACE ∷ c)) ++ x ≡ a ++ SPACE ∷ (b ++ SPACE ∷ (c ++ x))
behind_two a b c x = append_assoc a _ x ∙ ap (λ t. a ++ SPACE ∷ t) (append_assoc b _ x)

-- the line of a call that was answered
pub done_grows : (d : DoneCall) (o o1 o2 o3 o4 o5 o6 o7 o8 o9 oa ob : List ℕ) → o1 ≡ o ++ codes "done " → o2 ≡ o1 ++ name_text d.name → o3 ≡ o2 ++ SPACE ∷ [] → o4 ≡ o3 ++ decimal d.first → o5 ≡ o4 ++ SPACE ∷ [] → o6 ≡ o5 ++ decimal d.last → o7 ≡ o6 ++ SPACE ∷ [] → o8 ≡ o7 ++ call_text d.call → o9 ≡ o8 ++ COLON ∷ SPACE ∷ [] → oa ≡ o9 ++ reply_text d.reply → ob ≡ oa ++ LINE_FEED ∷ [] → ob ≡ (o ++ done_text d) ++ LINE_FEED ∷ []
unfolding done_text done_head
done_grows d o o1 o2 o3 o4 o5 o6 o7 o8 o9 oa ob e1 e2 e3 e4 e5 e6 e7 e8 e9 ea eb =
    let whole = more o o1 ob (codes "done ") _ e1 (more o1 o2 ob (name_text d.name) _ e2 (more o2 o3 ob (SPACE ∷ []) _ e3 (more o3 o4 ob (decimal d.first) _ e4 (more o4 o5 ob (SPACE ∷ []) _ e5 (more o5 o6 ob (decimal d.last) _ e6 (more o6 o7 ob (SPACE ∷ []) _ e7 (more o7 o8 ob (call_text d.call) _ e8 (more o8 o9 ob (COLON ∷ SPACE ∷ []) _ e9 (more o9 oa ob (reply_text d.reply) (LINE_FEED ∷ []) ea eb))))))))) in
    let last : done_text d ++ LINE_FEED ∷ [] ≡ codes "done " ++ (name_text d.name ++ SPACE ∷ (decimal d.first ++ SPACE ∷ (decimal d.last ++ SPACE ∷ (call_text d.call ++ COLON ∷ SPACE ∷ (reply_text d.reply ++ LINE_FEED ∷ []))))) =
    append_assoc (done_head d) (COLON ∷ SPACE ∷ reply_text d.reply) (LINE_FEED ∷ []) ∙ ap (λ t. codes "done " ++ t) (behind_three (name_text d.name) (decimal d.first) (decimal d.last) (call_text d.call) (COLON ∷ SPACE ∷ (reply_text d.reply ++ LINE_FEED ∷ []))) in
    whole ∙ ap (λ t. o ++ t) (sym last) ∙ sym (append_assoc o (done_text d) (LINE_FEED ∷ []))

-- the line of a call that was not
pub open_grows : (d : OpenCall) (o o1 o2 o3 o4 o5 o6 o7 : List ℕ) → o1 ≡ o ++ codes "open " → o2 ≡ o1 ++ name_text d.name → o3 ≡ o2 ++ SPACE ∷ [] → o4 ≡ o3 ++ decimal d.first → o5 ≡ o4 ++ SPACE ∷ [] → o6 ≡ o5 ++ call_text d.call → o7 ≡ o6 ++ LINE_FEED ∷ [] → o7 ≡ (o ++ open_text d) ++ LINE_FEED ∷ []
unfolding open_text
open_grows d o o1 o2 o3 o4 o5 o6 o7 e1 e2 e3 e4 e5 e6 e7 =
    let whole = more o o1 o7 (codes "open ") _ e1 (more o1 o2 o7 (name_text d.name) _ e2 (more o2 o3 o7 (SPACE ∷ []) _ e3 (more o3 o4 o7 (decimal d.first) _ e4 (more o4 o5 o7 (SPACE ∷ []) _ e5 (more o5 o6 o7 (call_text d.call) (LINE_FEED ∷ []) e6 e7))))) in
    let last : open_text d ++ LINE_FEED ∷ [] ≡ codes "open " ++ (name_text d.name ++ SPACE ∷ (decimal d.first ++ SPACE ∷ (call_text d.call ++ LINE_FEED ∷ []))) =
    ap (λ t. codes "open " ++ t) (behind_two (name_text d.name) (decimal d.first) (call_text d.call) (LINE_FEED ∷ [])) in
    whole ∙ ap (λ t. o ++ t) (sym last) ∙ sym (append_assoc o (open_text d) (LINE_FEED ∷ []))

-- names, each after a space
pub join_names : (word : List ℕ) (names : List Name) → join_with_byte SPACE (word ∷ map name_text names) ≡ word ++ flat_map (λ name. SPACE ∷ name_text name) names
join_names word [] = sym (append-nil word)
join_names word (n ∷ ns) = ap (λ t. word ++ SPACE ∷ t) (join_names (name_text n) ns)

-- the order line, where there are no names and where there are
pub no_order_grows : (names : List Name) (o o1 o2 o3 o4 : List ℕ) (b : Bool) → b ≡ eqb (length names) 0 → b ≡ true → o1 ≡ o ++ codes "order" → o2 ≡ o1 ++ codes " none" → o3 ≡ o2 ++ flat_map (λ name. SPACE ∷ name_text name) names → o4 ≡ o3 ++ LINE_FEED ∷ [] → o4 ≡ (o ++ order_text names) ++ LINE_FEED ∷ []
unfolding order_text
no_order_grows [] o o1 o2 o3 o4 b t i e1 e2 e3 e4 =
    more o o1 o4 (codes "order") (codes " none" ++ (LINE_FEED ∷ [])) e1 (more o1 o2 o4 (codes " none") (LINE_FEED ∷ []) e2 (more o2 o3 o4 [] (LINE_FEED ∷ []) e3 e4)) ∙ sym (append_assoc o (codes "order none") (LINE_FEED ∷ []))
no_order_grows (name ∷ names) o o1 o2 o3 o4 b t i e1 e2 e3 e4 = absurd (omega (arith, eqb-true _ 0 (sym t ∙ i)))

pub order_grows : (names : List Name) (o o1 o2 o3 o4 : List ℕ) (b : Bool) → b ≡ eqb (length names) 0 → b ≡ false → o1 ≡ o ++ codes "order" → o2 ≡ o1 → o3 ≡ o2 ++ flat_map (λ name. SPACE ∷ name_text name) names → o4 ≡ o3 ++ LINE_FEED ∷ [] → o4 ≡ (o ++ order_text names) ++ LINE_FEED ∷ []
unfolding order_text
order_grows [] o o1 o2 o3 o4 b t i e1 e2 e3 e4 = absurd (false≢true (sym i ∙ t))
order_grows (name ∷ names) o o1 o2 o3 o4 b t i e1 e2 e3 e4 =
    let each = flat_map (λ (n : Name). SPACE ∷ name_text n) (name ∷ names) in
    let text : order_text (name ∷ names) ≡ codes "order" ++ each = join_names (codes "order") (name ∷ names) in
    let whole : o4 ≡ o ++ (codes "order" ++ (each ++ (LINE_FEED ∷ []))) = more o o1 o4 (codes "order") (each ++ (LINE_FEED ∷ [])) e1 (more o1 o3 o4 each (LINE_FEED ∷ []) (e3 ∙ ap (λ t. t ++ each) e2) e4) in
    whole ∙ ap (λ t. o ++ (t ++ (LINE_FEED ∷ []))) (sym text) ∙ sym (append_assoc o (order_text (name ∷ names)) (LINE_FEED ∷ []))
