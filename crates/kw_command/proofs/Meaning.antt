-- What words mean, as a function of them: it gives just the command that the definition gives.
use Rattle.std.proofs.Common.{◌≡◌, ℕ, Bool, true, false, cond, Option, Some, None, List, [], ◌∷◌, codes, refl, ◌∙◌, ap, subst}
use Rattle.std.specs.List.{flat_map}
use Rattle.std.specs.Str.{bytes_eq}
use Rattle.std.proofs.lemmas.Slice.Eq.{bytes_eq-Decides}
use Rattle.kw_command.specs.declared.words.Arguments.{Arguments}
use Rattle.kw_command.specs.Words.{Part, number, workers, rows, bucket, recorded, part_words}
use Rattle.kw_command.specs.Reading.{with_workers, with_rows, with_bucket, with_number, with_flag, with_alone, then_with, reads}

-- ---- the words read one after the other, and the parts that they are

-- the arguments with the flag, where there may be none any more
abbrev pub then_flag : Option Arguments → Option Arguments
then_flag None = None
then_flag (Some a) = with_flag a

-- a word by itself is the flag or a number
pub alone_flag : (o : Option Arguments) (w : List ℕ) → bytes_eq w (codes "--record") ≡ true → then_with with_alone o w ≡ then_flag o
alone_flag None w e = refl
alone_flag (Some a) w e = ap (λ (b : Bool). cond b (with_flag a) (with_number a w)) e

pub alone_number : (o : Option Arguments) (w : List ℕ) → bytes_eq w (codes "--record") ≡ false → then_with with_alone o w ≡ then_with with_number o w
alone_number None w e = refl
alone_number (Some a) w e = ap (λ (b : Bool). cond b (with_flag a) (with_number a w)) e

-- the arguments that parts add
abbrev pub adds : Option Arguments → List Part → Option Arguments
adds o [] = o
adds o (number w ∷ parts) = adds (then_with with_number o w) parts
adds o (workers w ∷ parts) = adds (then_with with_workers o w) parts
adds o (rows w ∷ parts) = adds (then_with with_rows o w) parts
adds o (bucket w ∷ parts) = adds (then_with with_bucket o w) parts
adds o (recorded ∷ parts) = adds (then_flag o) parts

-- where there are none any more, there stay none
pub adds_none : (parts : List Part) → adds None parts ≡ None
adds_none [] = refl
adds_none (number w ∷ parts) = adds_none parts
adds_none (workers w ∷ parts) = adds_none parts
adds_none (rows w ∷ parts) = adds_none parts
adds_none (bucket w ∷ parts) = adds_none parts
adds_none (recorded ∷ parts) = adds_none parts

same_either_way : {X : Type 0} (b : Bool) (x y z : X) → x ≡ z → y ≡ z → cond b x y ≡ z
same_either_way true x y z h k = h
same_either_way false x y z h k = k

pub reads_none : (ws : List (List ℕ)) → reads None ws ≡ None
reads_none [] = refl
reads_none (w ∷ []) = refl
reads_none (w ∷ x ∷ ws) =
    same_either_way (bytes_eq w (codes "--workers")) _ _ None (reads_none ws)
    (same_either_way (bytes_eq w (codes "--rows")) _ _ None (reads_none ws)
    (same_either_way (bytes_eq w (codes "--bucket")) _ _ None (reads_none ws) (reads_none (x ∷ ws))))

-- words are parts, which add what reading the words adds
pub record IsCut (o : Option Arguments) (ws : List (List ℕ)) (b : Option Arguments) : Type 0 where
  pub parts : List Part
  pub cut : ws ≡ flat_map part_words parts
  pub adds_are : adds o parts ≡ b

more_workers : (o b : Option Arguments) (w x : List ℕ) (ws : List (List ℕ)) → w ≡ codes "--workers" → IsCut (then_with with_workers o x) ws b → IsCut o (w ∷ x ∷ ws) b
more_workers o b w x ws e c = record { parts = workers x ∷ c.parts; cut = ap (λ (l : List ℕ). l ∷ x ∷ ws) e ∙ ap (λ (l : List (List ℕ)). codes "--workers" ∷ x ∷ l) c.cut; adds_are = c.adds_are }

more_rows : (o b : Option Arguments) (w x : List ℕ) (ws : List (List ℕ)) → w ≡ codes "--rows" → IsCut (then_with with_rows o x) ws b → IsCut o (w ∷ x ∷ ws) b
more_rows o b w x ws e c = record { parts = rows x ∷ c.parts; cut = ap (λ (l : List ℕ). l ∷ x ∷ ws) e ∙ ap (λ (l : List (List ℕ)). codes "--rows" ∷ x ∷ l) c.cut; adds_are = c.adds_are }

more_bucket : (o b : Option Arguments) (w x : List ℕ) (ws : List (List ℕ)) → w ≡ codes "--bucket" → IsCut (then_with with_bucket o x) ws b → IsCut o (w ∷ x ∷ ws) b
more_bucket o b w x ws e c = record { parts = bucket x ∷ c.parts; cut = ap (λ (l : List ℕ). l ∷ x ∷ ws) e ∙ ap (λ (l : List (List ℕ)). codes "--bucket" ∷ x ∷ l) c.cut; adds_are = c.adds_are }

more_numbers : (o b : Option Arguments) (w : List ℕ) (ws : List (List ℕ)) → IsCut (then_with with_number o w) ws b → IsCut o (w ∷ ws) b
more_numbers o b w ws c = record { parts = number w ∷ c.parts; cut = ap (λ (l : List (List ℕ)). w ∷ l) c.cut; adds_are = c.adds_are }

more_flags : (o b : Option Arguments) (w : List ℕ) (ws : List (List ℕ)) → w ≡ codes "--record" → IsCut (then_flag o) ws b → IsCut o (w ∷ ws) b
more_flags o b w ws e c = record { parts = recorded ∷ c.parts; cut = ap (λ (l : List ℕ). l ∷ ws) e ∙ ap (λ (l : List (List ℕ)). codes "--record" ∷ l) c.cut; adds_are = c.adds_are }

-- a word by itself is a part of its own
more_alone : (o b : Option Arguments) (w : List ℕ) (ws : List (List ℕ)) → IsCut (then_with with_alone o w) ws b → IsCut o (w ∷ ws) b
more_alone o b w ws c = at (bytes_eq w (codes "--record")) refl
  where
    at : (p : Bool) → bytes_eq w (codes "--record") ≡ p → IsCut o (w ∷ ws) b
    at true e = more_flags o b w ws ((bytes_eq-Decides w (codes "--record")).0 e) (subst (λ (x : Option Arguments). IsCut x ws b) (alone_flag o w e) c)
    at false e = more_numbers o b w ws (subst (λ (x : Option Arguments). IsCut x ws b) (alone_number o w e) c)

cut_by : (o : Option Arguments) (w x : List ℕ) (ws : List (List ℕ)) (p q r : Bool) → bytes_eq w (codes "--workers") ≡ p → bytes_eq w (codes "--rows") ≡ q → bytes_eq w (codes "--bucket") ≡ r
    → IsCut (then_with with_workers o x) ws (reads (then_with with_workers o x) ws) → IsCut (then_with with_rows o x) ws (reads (then_with with_rows o x) ws)
    → IsCut (then_with with_bucket o x) ws (reads (then_with with_bucket o x) ws) → IsCut (then_with with_alone o w) (x ∷ ws) (reads (then_with with_alone o w) (x ∷ ws))
    → IsCut o (w ∷ x ∷ ws) (cond p (reads (then_with with_workers o x) ws) (cond q (reads (then_with with_rows o x) ws) (cond r (reads (then_with with_bucket o x) ws) (reads (then_with with_alone o w) (x ∷ ws)))))
cut_by o w x ws true q r e f g h i k j = more_workers o _ w x ws ((bytes_eq-Decides w (codes "--workers")).0 e) h
cut_by o w x ws false true r e f g h i k j = more_rows o _ w x ws ((bytes_eq-Decides w (codes "--rows")).0 f) i
cut_by o w x ws false false true e f g h i k j = more_bucket o _ w x ws ((bytes_eq-Decides w (codes "--bucket")).0 g) k
cut_by o w x ws false false false e f g h i k j = more_alone o _ w (x ∷ ws) j

pub cut_of : (o : Option Arguments) (ws : List (List ℕ)) → IsCut o ws (reads o ws)
cut_of o [] = record { parts = []; cut = refl; adds_are = refl }
cut_of o (w ∷ []) = more_alone o _ w [] (record { parts = []; cut = refl; adds_are = refl })
cut_of o (w ∷ x ∷ ws) = cut_by o w x ws (bytes_eq w (codes "--workers")) (bytes_eq w (codes "--rows")) (bytes_eq w (codes "--bucket")) refl refl refl
    (cut_of (then_with with_workers o x) ws) (cut_of (then_with with_rows o x) ws) (cut_of (then_with with_bucket o x) ws) (cut_of (then_with with_alone o w) (x ∷ ws))
