-- Texts that are written byte by byte, and what a reader reads of them.
use Rattle.std.proofs.Common.{◌≡◌, ℕ, ◌+◌, Bool, true, false, List, [], ◌∷◌, ◌++◌, refl, ap, ◌∙◌, sym, append_assoc, subst, eqb, ⊎_elim}
use Rattle.std.specs.List.{fold}
use Rattle.std.proofs.lemmas.Bool.{cases_Bool, eqb-true}
use Rattle.std.proofs.lemmas.List.{append-nil}
use Rattle.std.proofs.lemmas.List.Concat.{flat_map-cons}
use Rattle.std.proofs.lemmas.List.Sums.{fold-append}
use Rattle.markup.specs.Escaped.{ReadsAs, escape_of, escaped, outside, text_at, text_step}

-- what is written of a byte reads as that byte
abbrev ByteReads : List ℕ → ℕ → Type 0
ByteReads before byte = fold text_step (text_at before outside) (escape_of byte) ≡ text_at (before ++ byte ∷ []) outside

-- of a byte that is this one
as_this : (before : List ℕ) (byte this : ℕ) → eqb byte this ≡ true → ByteReads before this → ByteReads before byte
as_this before byte this h reads =
    let P : ℕ → Type 0 = λ one. ByteReads before one in subst P (sym (eqb-true byte this h)) reads

-- of a byte that has no meaning in a page
as_it_is : (before : List ℕ) (byte : ℕ) → eqb byte 38 ≡ false → eqb byte 60 ≡ false → eqb byte 62 ≡ false
    → eqb byte 34 ≡ false → ByteReads before byte
as_it_is before byte and less greater mark = simp (and, less, greater, mark) refl

-- a test of a byte, either way
either : {G : Type 0} → (b : Bool) → (b ≡ true → G) → (b ≡ false → G) → G
either b if_so if_not = ⊎_elim if_so if_not (cases_Bool b)

-- of each byte
byte_reads : (before : List ℕ) (byte : ℕ) → ByteReads before byte
byte_reads before byte =
    either (eqb byte 38) (λ h. as_this before byte 38 h refl) (λ and.
    either (eqb byte 60) (λ h. as_this before byte 60 h refl) (λ less.
    either (eqb byte 62) (λ h. as_this before byte 62 h refl) (λ greater.
    either (eqb byte 34) (λ h. as_this before byte 34 h refl) (λ mark.
    as_it_is before byte and less greater mark))))

-- of more bytes, behind what is read
more_reads : (before more : List ℕ) → fold text_step (text_at before outside) (escaped more) ≡ text_at (before ++ more) outside
more_reads before [] = ap (λ text. text_at text outside) (sym (append-nil before))
more_reads before (byte ∷ more) =
    ap (fold text_step (text_at before outside)) (flat_map-cons escape_of byte more)
    ∙ fold-append text_step (text_at before outside) (escape_of byte) (escaped more)
    ∙ ap (λ read. fold text_step read (escaped more)) (byte_reads before byte)
    ∙ more_reads (before ++ byte ∷ []) more
    ∙ ap (λ text. text_at text outside) (append_assoc before (byte ∷ []) more)

-- what is written of a text reads as the text
pub reads_back : (text : List ℕ) → ReadsAs (escaped text) text
reads_back text = more_reads [] text
