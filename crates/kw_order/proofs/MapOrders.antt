-- An order in which no call is of snapshots is legal for the map alone.
use Rattle.std.proofs.Common.{ℕ, ◌≡◌, inl, inr, false, Option, Some, None, List, [], map, get_or, refl, sym, ◌∙◌, length, Contains, All}
use Rattle.std.proofs.lemmas.List.{length-map, get_or_default}
use Rattle.std.proofs.lemmas.List.Elements.{All-map}
use Rattle.kw_model.specs.Legal.{IsLegal}
use Rattle.kw_model.specs.Snapshots.{empty}
use Rattle.kw_model.specs.LegalFor.{is_of_snapshots}
use Rattle.kw_model.proofs.WithoutPins.{legal_without_pins}
use Rattle.kw_core.specs.History.{History, attempt, called, Call, Put, Del, Get, Scan, Pin, ScanAt, Unpin}
use Rattle.kw_core.specs.declared.history.End.{End}
use Rattle.kw_core.specs.HistoryLaws.{HistoryLaws, Answers, Makes}
use Rattle.kw_order.specs.Order.{IsPlaced, IsOrder}
use Rattle.kw_order.specs.Legal.{reply_of, call_of, seat_of, IsLegalOrder}
use Rattle.kw_order.proofs.Calls.{call_makes}
use Rattle.kw_order.proofs.LegalOrder.{place, order_is_legal}

-- what is legal with seats is legal for the map alone, where no call of the order is of snapshots
pub legal_of_map : (h : History) (xs : List ℕ) → ((x : ℕ) → Contains xs x → is_of_snapshots (call_of h x) ≡ false) → IsLegalOrder h xs → IsLegal [] (map (call_of h) xs) (map (reply_of h) xs)
legal_of_map h xs n g = (legal_without_pins empty (map (seat_of h) xs) (map (call_of h) xs) (map (reply_of h) xs) long none).0 g
  where
    long : length (map (seat_of h) xs) ≡ length (map (call_of h) xs)
    long = length-map xs (seat_of h) ∙ sym (length-map xs (call_of h))

    none : All (λ c. is_of_snapshots c ≡ false) (map (call_of h) xs)
    none = All-map (λ c. is_of_snapshots c ≡ false) (call_of h) xs (λ k d w. n (get_or xs k d) (k, w, get_or_default xs k (get_or xs k d) d w))

-- no call that ended is of snapshots
ended_plain : (c : Call) (put : Option ℕ) (e : End) → Answers c put e.reply → is_of_snapshots c ≡ false
ended_plain (Put k v) put e a = refl
ended_plain (Del k) put e a = refl
ended_plain (Get k) put e a = refl
ended_plain (Scan from to) put e a = refl
ended_plain Pin put e a = absurd a
ended_plain (ScanAt from to) put e a = absurd a
ended_plain Unpin put e a = absurd a

-- nor one that has a put
put_plain : (c : Call) (k : ℕ) (v : Option ℕ) → Makes c k v → is_of_snapshots c ≡ false
put_plain (Put q w) k v m = refl
put_plain (Del q) k v m = refl
put_plain (Get q) k v m = refl
put_plain (Scan from to) k v m = refl
put_plain Pin k v m = absurd m
put_plain (ScanAt from to) k v m = absurd m
put_plain Unpin k v m = absurd m

-- so none of the order is: today nobody makes such a call
pub none_of_snapshots : (h : History) → HistoryLaws h → (xs : List ℕ) → IsOrder h xs → (x : ℕ) → Contains xs x → is_of_snapshots (call_of h x) ≡ false
none_of_snapshots h l xs o x c = which (place h l xs o x c)
  where
    which : IsPlaced h x → is_of_snapshots (call_of h x) ≡ false
    which (inl n) = at (called h x).end refl
      where
        at : (e : Option End) → (called h x).end ≡ e → is_of_snapshots (call_of h x) ≡ false
        at None f = absurd (n f)
        at (Some e) f = ended_plain (called h x).call (called h x).put e (l.ends x e f).1
    which (inr n) = at (called h x).put refl
      where
        at : (p : Option ℕ) → (called h x).put ≡ p → is_of_snapshots (call_of h x) ≡ false
        at None f = absurd (n f)
        at (Some p) f = put_plain (called h x).call (attempt h p).key (attempt h p).value (call_makes h l x p f)

-- the order of a history is legal for the map alone
pub order_of_map : (h : History) → HistoryLaws h → (xs : List ℕ) → IsOrder h xs → IsLegal [] (map (call_of h) xs) (map (reply_of h) xs)
order_of_map h l xs o = legal_of_map h xs (none_of_snapshots h l xs o) (order_is_legal h l xs o)
