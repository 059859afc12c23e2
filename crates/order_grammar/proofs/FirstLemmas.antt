-- The first byte of a line that is no space, and what it shows of the line's first word.
use Rattle.std.proofs.Common.{◌≡◌, ℕ, ◌==◌, Bool, true, false, not, cond, List, [], ◌∷◌, ◌++◌, Option, Some, None, map}
use Rattle.std.proofs.Common.{refl, sym, ap, subst, ◌∙◌, inl, inr, ◌≤◌, length, get_or, arith}
use Rattle.std.specs.Bool.{OnTrue}
use Rattle.std.specs.Char.{to_ascii_uppercase}
use Rattle.std.specs.List.{find}
use Rattle.std.proofs.lemmas.Bool.{cases_Bool, eqb-true}
use Rattle.order_grammar.specs.Words.{before, with_word, words_from, raised, same_word, first_of_words, has_words}

-- a space is no hash
space_only : (byte : ℕ) → (byte == 32) ≡ true → (byte == 35) ≡ false
space_only byte e = let is : byte ≡ 32 = eqb-true byte 32 e in rw is refl

-- there is a word if one has begun
begun : (byte : ℕ) (word text : List ℕ) → has_words (map raised (words_from (byte ∷ word) text)) ≡ true
begun byte word [] = refl
begun byte word (next ∷ bytes) =
    elim (next == 32) as (λ b. has_words (map raised (cond b (with_word (byte ∷ word) (words_from [] bytes))
    (words_from (byte ∷ (word ++ next ∷ [])) bytes))) ≡ true) [
      | true ↦ refl
      | false ↦ begun byte (word ++ next ∷ []) bytes
    ]

-- it begins a word, if it is there
abbrev pub begins_word : Option ℕ → Bool
begins_word None = false
begins_word (Some byte) = not (byte == 35)

-- a line has a word if its first byte begins one
pub has_words-first : (line : List ℕ) → has_words (map raised (words_from [] (before 35 line)))
    ≡ begins_word (find (λ byte. not (byte == 32)) line)
has_words-first [] = refl
has_words-first (byte ∷ bytes) =
    elim (cases_Bool (byte == 32)) [
      | inl e ↦ rw (space_only byte e) (rw e (has_words-first bytes))
      | inr e ↦ elim (cases_Bool (byte == 35)) [
        | inl h ↦ rw (e, h) refl
        | inr h ↦ rw (h, e) (begun byte [] (before 35 bytes) ∙ sym (ap not h))
      ]
    ]

-- a word that has begun otherwise is another
begun_otherwise : (byte : ℕ) (word text : List ℕ) (letter : ℕ) (letters : List ℕ)
    → (to_ascii_uppercase byte == letter) ≡ false →
    same_word (first_of_words (map raised (words_from (byte ∷ word) text))) (letter ∷ letters) ≡ false
begun_otherwise byte word [] letter letters other = rw other refl
begun_otherwise byte word (next ∷ bytes) letter letters other =
    elim (next == 32) as (λ b. same_word (first_of_words (map raised
    (cond b (with_word (byte ∷ word) (words_from [] bytes)) (words_from (byte ∷ (word ++ next ∷ [])) bytes))))
    (letter ∷ letters) ≡ false) [
      | true ↦ rw other refl
      | false ↦ begun_otherwise byte (word ++ next ∷ []) bytes letter letters other
    ]

-- a line that begins otherwise begins with another word
pub first_otherwise : (line : List ℕ) (byte letter : ℕ) (letters : List ℕ)
    → find (λ b. not (b == 32)) line ≡ Some byte → (to_ascii_uppercase byte == letter) ≡ false →
    same_word (first_of_words (map raised (words_from [] (before 35 line)))) (letter ∷ letters) ≡ false
first_otherwise [] byte letter letters found other = refl
first_otherwise (here ∷ bytes) byte letter letters found other =
    elim (cases_Bool (here == 32)) [
      | inl e ↦
          let later : find (λ b. not (b == 32)) bytes ≡ Some byte = rw e at found in
          rw (space_only here e) (rw e (first_otherwise bytes byte letter letters later other))
      | inr e ↦
          let some : ◌≡◌ {A = Option ℕ} (Some here) (Some byte) = rw e at found in
          let same : byte ≡ here = cc in
          let differs : (to_ascii_uppercase here == letter) ≡ false =
          subst (λ b. (to_ascii_uppercase b == letter) ≡ false) same other in
          elim (cases_Bool (here == 35)) [
            | inl h ↦ rw h refl
            | inr h ↦ rw (h, e) (begun_otherwise here [] (before 35 bytes) letter letters differs)
          ]
    ]

-- the same of any word with a first letter
pub first_differs : (line word : List ℕ) (byte : ℕ) → find (λ b. not (b == 32)) line ≡ Some byte → 1 ≤ length word →
    OnTrue (not (to_ascii_uppercase byte == get_or word 0 0))
    (same_word (first_of_words (map raised (words_from [] (before 35 line)))) word ≡ false)
first_differs line [] byte found some = absurd (omega arith)
first_differs line (letter ∷ letters) byte found some =
    elim (cases_Bool (to_ascii_uppercase byte == letter)) [
      | inl e ↦ rw e tt
      | inr e ↦ rw e (first_otherwise line byte letter letters found e)
    ]
