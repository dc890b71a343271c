-- The text of a record: cut into lines it has the record's lines.
use Rattle.std.proofs.Common.{ℕ, ◌≡◌, ◌≢◌, List, [], ◌∷◌, ◌++◌, map, codes, refl, ap, ◌∙◌, arith, append_assoc}
use Rattle.std.specs.Fmt.{decimal}
use Rattle.std.specs.List.{AllByRecursion, join_with_byte, flat_map}
use Rattle.std.proofs.lemmas.List.Elements.{All-append, All-cons}
use Rattle.kw_line.specs.declared.words.TheConstants.{LINE_FEED, SPACE}
use Rattle.kw_line.specs.declared.print.TheConstants.{EQUALS}
use Rattle.kw_line.specs.Answered.{pair_text}
use Rattle.kw_line.specs.Cut.{lines}
use Rattle.kw_line.proofs.Parts.{HasNo, lines_none, lines_cut}
use Rattle.kw_model.specs.declared.call.Reply.{Reply}
use Rattle.kw_model.specs.declared.call.Reply.TheVariants as reply
use Rattle.kw_judge.specs.declared.parse.CallVerb.{CallVerb}
use Rattle.kw_judge.specs.declared.parse.CallVerb.TheVariants as call_verb
use Rattle.kw_judge.specs.declared.print.TheConstants.{COLON, DOT}
use Rattle.kw_judge.specs.declared.record.Name.{Name}
use Rattle.kw_judge.specs.declared.record.DoneCall.{DoneCall}
use Rattle.kw_judge.specs.declared.record.OpenCall.{OpenCall}
use Rattle.kw_judge.specs.Record.{RecordView, IsRecord, IsRecordText, IsName, IsPair, FitsReply, IsDone, IsOpen, record_lines, record_text}
use Rattle.kw_judge.specs.Texts.{call_verb_word, call_words, reply_text, name_text, done_head, done_text, open_text, order_text}
use Rattle.kw_judge.proofs.Marks.{no_mark, no_mark_decimal}
use Rattle.kw_judge.proofs.Calls.{IsMark, no_mark_call}
use Rattle.kw_judge.proofs.LineTexts.{no_mark_two, no_mark_join}

-- No line feed stands in a line.

no_feed_verb : (v : CallVerb) → HasNo 10 (call_verb_word v)
no_feed_verb call_verb.Put = no_mark 10 (call_verb_word call_verb.Put) refl
no_feed_verb call_verb.Del = no_mark 10 (call_verb_word call_verb.Del) refl
no_feed_verb call_verb.Get = no_mark 10 (call_verb_word call_verb.Get) refl
no_feed_verb call_verb.Scan = no_mark 10 (call_verb_word call_verb.Scan) refl
no_feed_verb call_verb.Pin = no_mark 10 (call_verb_word call_verb.Pin) refl
no_feed_verb call_verb.ScanAt = no_mark 10 (call_verb_word call_verb.ScanAt) refl
no_feed_verb call_verb.Unpin = no_mark 10 (call_verb_word call_verb.Unpin) refl

feed_is_mark : IsMark 10
feed_is_mark = record { no_digit = λ a b. omega arith; no_letter = no_feed_verb }

no_feed_name : (n : Name) → IsName n → HasNo LINE_FEED (name_text n)
no_feed_name n h = no_mark_two LINE_FEED DOT n.seat n.number (λ a b. omega arith) (λ e. omega (arith, e)) (omega (arith, h.0)) (omega (arith, h.2))

no_feed_pairs : (ps : List (ℕ × ℕ)) → AllByRecursion IsPair ps → AllByRecursion (HasNo LINE_FEED) (map pair_text ps)
no_feed_pairs [] h = tt
no_feed_pairs (p ∷ ps) h = (no_mark_two LINE_FEED EQUALS p.0 p.1 (λ a b. omega arith) (λ e. omega (arith, e)) (omega (arith, h.0.0)) (omega (arith, h.0.1)), no_feed_pairs ps h.1)

no_feed_reply : (r : Reply) → FitsReply r → HasNo LINE_FEED (reply_text r)
no_feed_reply reply.Done h = no_mark LINE_FEED (codes "ok") refl
no_feed_reply (reply.Value v) h = no_mark_decimal LINE_FEED v (λ a b. omega arith) (omega (arith, h))
no_feed_reply reply.Absent h = no_mark LINE_FEED (codes "none") refl
no_feed_reply (reply.Pairs []) h = no_mark LINE_FEED (codes "empty") refl
no_feed_reply (reply.Pairs (p ∷ ps)) h = no_mark_join LINE_FEED (pair_text p) (map pair_text ps) (λ e. omega (arith, e)) (no_feed_pairs (p ∷ ps) h)
no_feed_reply reply.NoRows h = no_mark LINE_FEED (codes "no rows") refl
no_feed_reply reply.Spent h = no_mark LINE_FEED (codes "spent") refl
no_feed_reply reply.Stopped h = no_mark LINE_FEED (codes "stopped") refl
no_feed_reply reply.Held h = no_mark LINE_FEED (codes "held") refl
no_feed_reply reply.NotPinned h = no_mark LINE_FEED (codes "not pinned") refl

no_feed_done : (d : DoneCall) → IsDone d → HasNo LINE_FEED (done_text d)
unfolding done_text done_head
no_feed_done d h =
    let head = no_mark_join LINE_FEED (codes "done") (name_text d.name ∷ decimal d.first ∷ decimal d.last ∷ call_words d.call) (λ e. omega (arith, e))
    (no_mark LINE_FEED (codes "done") refl, (no_feed_name d.name h.name, (no_mark_decimal LINE_FEED d.first (λ a b. omega arith) (omega (arith, h.rising, h.last)), (no_mark_decimal LINE_FEED d.last (λ a b. omega arith) (omega (arith, h.last)), no_mark_call LINE_FEED d.call feed_is_mark h.call)))) in
    All-append (λ b. b ≢ LINE_FEED) (join_with_byte SPACE (codes "done" ∷ name_text d.name ∷ decimal d.first ∷ decimal d.last ∷ call_words d.call)) (COLON ∷ SPACE ∷ reply_text d.reply) head (All-cons (λ b. b ≢ LINE_FEED) COLON (SPACE ∷ reply_text d.reply) (λ e. omega (arith, e)) (All-cons (λ b. b ≢ LINE_FEED) SPACE (reply_text d.reply) (λ e. omega (arith, e)) (no_feed_reply d.reply h.reply)))

no_feed_open : (o : OpenCall) → IsOpen o → HasNo LINE_FEED (open_text o)
unfolding open_text
no_feed_open o h = no_mark_join LINE_FEED (codes "open") (name_text o.name ∷ decimal o.first ∷ call_words o.call) (λ e. omega (arith, e))
    (no_mark LINE_FEED (codes "open") refl, (no_feed_name o.name h.name, (no_mark_decimal LINE_FEED o.first (λ a b. omega arith) (omega (arith, h.first)), no_mark_call LINE_FEED o.call feed_is_mark h.call)))

no_feed_names : (ns : List Name) → AllByRecursion IsName ns → AllByRecursion (HasNo LINE_FEED) (map name_text ns)
no_feed_names [] h = tt
no_feed_names (n ∷ ns) h = (no_feed_name n h.0, no_feed_names ns h.1)

no_feed_order : (ns : List Name) → AllByRecursion IsName ns → HasNo LINE_FEED (order_text ns)
unfolding order_text
no_feed_order [] h = no_mark LINE_FEED (codes "order none") refl
no_feed_order (n ∷ ns) h = no_mark_join LINE_FEED (codes "order") (map name_text (n ∷ ns)) (λ e. omega (arith, e)) (no_mark LINE_FEED (codes "order") refl, no_feed_names (n ∷ ns) h)

-- Lines with a line feed behind each.

all_map : {X : Type 0} (P : X → Type 0) (Q : List ℕ → Type 0) (f : X → List ℕ) (xs : List X) → ((x : X) → P x → Q (f x)) → AllByRecursion P xs → AllByRecursion Q (map f xs)
all_map P Q f [] g h = tt
all_map P Q f (x ∷ xs) g h = (g x h.0, all_map P Q f xs g h.1)

all_append : (Q : List ℕ → Type 0) (xs ys : List (List ℕ)) → AllByRecursion Q xs → AllByRecursion Q ys → AllByRecursion Q (xs ++ ys)
all_append Q [] ys h k = k
all_append Q (x ∷ xs) ys h k = (h.0, all_append Q xs ys h.1 k)

lines-text : (ls : List (List ℕ)) → AllByRecursion (HasNo LINE_FEED) ls → lines (flat_map (λ line. line ++ LINE_FEED ∷ []) ls) ≡ ls
lines-text [] h = lines_none
lines-text (line ∷ ls) h = ap lines (append_assoc line (LINE_FEED ∷ []) (flat_map (λ l. l ++ LINE_FEED ∷ []) ls)) ∙ (lines_cut line (flat_map (λ l. l ++ LINE_FEED ∷ []) ls) h.0 ∙ ap (λ u. line ∷ u) (lines-text ls h.1))

-- the text of a record is that of this record
pub text_is_record : (r : RecordView) → IsRecord r → IsRecordText (record_text r) r
text_is_record r h = record {
  fits = h;
  texts = lines-text (record_lines r) (all_append (HasNo LINE_FEED) (map done_text r.done ++ map open_text r.open_calls) (order_text r.order ∷ [])
      (all_append (HasNo LINE_FEED) (map done_text r.done) (map open_text r.open_calls) (all_map IsDone (HasNo LINE_FEED) done_text r.done no_feed_done h.each_done) (all_map IsOpen (HasNo LINE_FEED) open_text r.open_calls no_feed_open h.each_open))
      (no_feed_order r.order h.each_name, tt));
}
