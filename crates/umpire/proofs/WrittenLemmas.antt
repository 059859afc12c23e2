-- MARKS lines, one after the other.
use Rattle.std.proofs.Common.{◌≡◌, ℕ, ◌<◌, ◌≤◌, List, [], ◌∷◌, ◌++◌, true, false, append_assoc, length, take, drop}
use Rattle.std.proofs.Common.{refl, ◌∙◌, ap, zero, suc, arith}
use Rattle.std.specs.Prelude.{Bool, IsTrue, codes}
use Rattle.certificate.specs.Digits.{digits_of}
use Rattle.std.proofs.lemmas.List.{length-drop}
use Rattle.umpire.specs.Written.{marks_line, marks_lines_within}

-- lines that suffice for what is left after the first
pub record Left (count : ℕ) (bits : List Bool) : Type 0 where
  pub next : ℕ
  pub within : length (drop 4000 bits) ≤ next
  pub lines : marks_lines_within count bits ≡ marks_line bits ++ marks_lines_within next (drop 4000 bits)

pub left_behind : (count : ℕ) (bits : List Bool) → (bits ≡ [] → ⊥) → length bits ≤ count → Left count bits
left_behind count [] some within = absurd (some refl)
left_behind zero (bit ∷ bits) some within = absurd (omega arith)
left_behind (suc count) (bit ∷ bits) some within =
    record { next = count; within = rw (length-drop 4000 (bit ∷ bits)) (omega arith); lines = refl }

pub none_left : (count : ℕ) (bits : List Bool) → bits ≡ [] → marks_lines_within count bits ≡ []
none_left zero bits e = refl
none_left (suc count) bits e = rw e refl

pub fewer_left : (bits : List Bool) → (bits ≡ [] → ⊥) → length (drop 4000 bits) < length bits
fewer_left [] some = absurd (some refl)
fewer_left (bit ∷ bits) some = rw (length-drop 4000 (bit ∷ bits)) (omega arith)

pub not_true : (b : Bool) → b ≡ false → IsTrue b → ⊥
not_true true e t = cc
not_true false e t = cc

-- a line of marks, added part by part
pub line_added : (t t1 t2 t3 : List ℕ) (marks : List Bool) → t1 ≡ t ++ codes "MARKS "
    → t2 ≡ t1 ++ digits_of (take 4000 marks) → t3 ≡ t2 ++ 10 ∷ [] → t3 ≡ t ++ marks_line marks
line_added t t1 t2 t3 marks e1 e2 e3 =
    let digits : List ℕ = digits_of (take 4000 marks) in
    rw (e3, e2, e1) (ap (λ l. l ++ 10 ∷ []) (append_assoc t (codes "MARKS ") digits)
    ∙ append_assoc t (codes "MARKS " ++ digits) (10 ∷ []))
