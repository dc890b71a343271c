-- What seats hand back, taken apart and put together.
use Rattle.std.proofs.Common.{◌≡◌, List, [], ◌∷◌, ◌++◌, length, map, Ok, Result, sym, ap, ◌∙◌, append-nil}
use Rattle.std.proofs.lemmas.List.{map-append, nil_from_length}
use Rattle.kw_model.specs.declared.memory.Memory.{Memory}
use Rattle.kw_table.specs.declared.pass.Pass.{Pass}
use Rattle.kiwid.specs.declared.serving.Served.{Served}
use Rattle.kiwid.specs.declared.serving.Rest.{Rest}
use Rattle.kiwid.specs.Seats.{AreParted}

pub parted_none : {L : Type 0} (parts : List (Result (Served L) Memory)) (passes : List Pass) (rests : List (Rest L)) → parts ≡ [] → passes ≡ [] → rests ≡ [] → AreParted parts passes rests
parted_none {L} parts passes rests a b c = record { served = []; parts_are = a; passes_are = b; rests_are = c }

-- one seat more
pub parted_more : {L : Type 0} (parts : List (Result (Served L) Memory)) (part : Result (Served L) Memory) (passes passes' : List Pass) (rests rests' : List (Rest L)) (d : Served L) → AreParted parts passes rests → part ≡ Ok d
    → passes' ≡ passes ++ d.pass ∷ [] → rests' ≡ rests ++ record { listener = d.listener; ends = d.ends } ∷ [] → AreParted (parts ++ part ∷ []) passes' rests'
parted_more {L} parts part passes passes' rests rests' d p ok a b = record {
  served = p.served ++ d ∷ [];
  parts_are = ap (λ x. x ++ part ∷ []) p.parts_are ∙ (ap (λ x. map Ok p.served ++ x ∷ []) ok ∙ sym (map-append Ok p.served (d ∷ [])));
  passes_are = a ∙ (ap (λ x. x ++ d.pass ∷ []) p.passes_are ∙ sym (map-append (λ (s : Served L). s.pass) p.served (d ∷ [])));
  rests_are = b ∙ (ap (λ x. x ++ record { listener = d.listener; ends = d.ends } ∷ []) p.rests_are ∙ sym (map-append (λ (s : Served L). record { listener = s.listener; ends = s.ends }) p.served (d ∷ [])));
}

-- one element more behind a list, and what is taken of each
pub mapped_more : {X Y : Type 0} (f : X → Y) (xs xs' : List X) (ys : List Y) (x : X) → map f xs ≡ ys → xs' ≡ xs ++ x ∷ [] → map f xs' ≡ ys ++ f x ∷ []
mapped_more f xs xs' ys x e is = ap (map f) is ∙ (map-append f xs (x ∷ []) ∙ ap (λ l. l ++ f x ∷ []) e)

-- all were gone through, where none is left
pub all_of : {X : Type 0} (some rest all : List X) → some ++ rest ≡ all → length rest ≡ 0 → some ≡ all
all_of some rest all whole none = sym (append-nil some) ∙ (ap (λ l. some ++ l) (sym (nil_from_length rest none)) ∙ whole)
