-- A printed table: the lines so far, and those of the buckets that are left.
use Rattle.std.proofs.Common.{ℕ, ◌≡◌, ◌<◌, List, [], ◌∷◌, ◌++◌, length, Option, Some, sym, ap, subst, ◌∙◌}
use Rattle.std.proofs.lemmas.List.{append-nil}
use Rattle.std.specs.List.{flat_map}
use Rattle.std.specs.Map.{keys_of}
use Rattle.std.specs.Ordering.{nat_cmp}
use Rattle.std.specs.BTreeMap.{BTreeMap, get, IsOrdered}
use Rattle.kw_line.specs.declared.words.TheConstants.{LINE_FEED}
use Rattle.kw_model.specs.Map.{Pairs}
use Rattle.kw_rollup.specs.declared.bucket.Bucket.{Bucket}
use Rattle.kw_rollup.specs.declared.summary.Summary.{Summary}
use Rattle.kw_rollup.specs.Buckets.{series_of, minute_of, summary_of, buckets}
use Rattle.kw_rollup.specs.Texts.{summary_text, summaries_text, end_text, table_text}
use Rattle.kw_rollup.specs.Kept.{Rolled, IsBucketOf, IsKeptFor, IsKept, values_at}
use Rattle.kw_rollup.proofs.Tables.{bucket_at, buckets_are}
use Rattle.kw_rollup.proofs.Ends.{line_more}

held : (vs : List ℕ) (o : Option Bucket) (b : Bucket) → o ≡ Some b → IsKeptFor vs o → (0 < length vs) × IsBucketOf vs b
held vs o b e h = let P : Option Bucket → Type 0 = λ p. IsKeptFor vs p in subst P e h

-- what is kept, by the fields that callers see
pub kept_seen : (width : ℕ) (m : Pairs) (kept : BTreeMap ℕ Bucket) (r : Rolled) → record { width = width; pairs = m } ≡ r → IsKept width m kept → IsKept r.width r.pairs kept
kept_seen width m kept r v h = let P : Rolled → Type 0 = λ q. IsKept q.width q.pairs kept in subst P v h

-- one bucket more: `left` are the entries from it on, and `rest` those behind it
pub table_more : (r : Rolled) (first : ℕ) (kept : BTreeMap ℕ Bucket) (bucket : Bucket) (left rest : List (ℕ × Bucket)) (s : Summary) (out new all : List ℕ) → IsKept r.width r.pairs kept → get nat_cmp kept first ≡ Some bucket → left ≡ (first, bucket) ∷ rest → ((vs : List ℕ) → 0 < length vs → IsBucketOf vs bucket → summary_of (series_of first) (minute_of first) vs ≡ s ∷ []) → new ≡ (out ++ summary_text s) ++ LINE_FEED ∷ [] → out ++ summaries_text (flat_map (bucket_at r.width r.pairs) (keys_of left)) ≡ all → new ++ summaries_text (flat_map (bucket_at r.width r.pairs) (keys_of rest)) ≡ all
table_more r first kept bucket left rest s out new all h e l says n inv =
    let k = held (values_at r.width first r.pairs) (get nat_cmp kept first) bucket e (h.each first) in
    let P : List (ℕ × Bucket) → Type 0 = λ es. out ++ summaries_text (flat_map (bucket_at r.width r.pairs) (keys_of es)) ≡ all in
    line_more (bucket_at r.width r.pairs) first (keys_of rest) s out new all (says (values_at r.width first r.pairs) k.0 k.1) n (subst P l inv)

-- all buckets, and the last line
pub table_done : (r : Rolled) (refused : ℕ) (kept : BTreeMap ℕ Bucket) (left whole : List (ℕ × Bucket)) (out new : List ℕ) → IsKept r.width r.pairs kept → IsOrdered nat_cmp kept → left ≡ [] → whole ≡ kept.entries → out ++ summaries_text (flat_map (bucket_at r.width r.pairs) (keys_of left)) ≡ summaries_text (flat_map (bucket_at r.width r.pairs) (keys_of whole)) → new ≡ (out ++ end_text refused) ++ LINE_FEED ∷ [] → new ≡ table_text (buckets r.width r.pairs) refused
table_done r refused kept left whole out new h o l w inv n =
    let P : List (ℕ × Bucket) → Type 0 = λ es. out ++ summaries_text (flat_map (bucket_at r.width r.pairs) (keys_of es)) ≡ summaries_text (flat_map (bucket_at r.width r.pairs) (keys_of whole)) in
    let all : out ≡ summaries_text (flat_map (bucket_at r.width r.pairs) (keys_of whole)) = sym (append-nil out) ∙ subst P l inv in
    let same : flat_map (bucket_at r.width r.pairs) (keys_of whole) ≡ buckets r.width r.pairs = ap (λ (es : List (ℕ × Bucket)). flat_map (bucket_at r.width r.pairs) (keys_of es)) w ∙ sym (buckets_are r.width r.pairs kept h o) in
    n ∙ (ap (λ t. (t ++ end_text refused) ++ LINE_FEED ∷ []) all ∙ ap (λ ss. table_text ss refused) same)
