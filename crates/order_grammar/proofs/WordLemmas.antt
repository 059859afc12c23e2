-- Words of a text: where they end, and how they come one after the other.
use Rattle.std.proofs.Common.{◌≡◌, ℕ, suc, ◌+◌, ◌-◌, ◌<◌, ◌≤◌, ◌==◌, Bool, true, false, ◌&&◌, not, cond, List, [], ◌∷◌}
use Rattle.std.proofs.Common.{◌++◌, Option, Some, None, unwrap_or, ltb, length, take, drop, map, refl, sym, ap}
use Rattle.std.proofs.Common.{subst, ◌∙◌, inl, inr, slice_range, arith}
use Rattle.std.specs.Char.{to_ascii_uppercase}
use Rattle.std.specs.List.{list_all, position_or_len, zip}
use Rattle.std.proofs.lemmas.Bool.{cases_Bool, cases_lt, lt-ltb, le-ltb, ne_eqb}
use Rattle.std.proofs.lemmas.List.{append-nil, drop_at, at_drop_all, drop-drop, take_at, length-append, append_assoc}
use Rattle.std.proofs.lemmas.List.Sums.{prefix_len-le-length}
use Rattle.std.proofs.lemmas.List.Recursion.{is_position_or_len}
use Rattle.order_grammar.specs.Token.{GivesFirst, placed}
use Rattle.order_grammar.specs.Words.{Placed, LieFrom, before, with_word, words_from, raised, same_word, with_placed}
use Rattle.order_grammar.specs.Words.{placed_from, first_of_words, texts_of}
use Rattle.order_grammar.specs.declared.words.Token.{Token}

-- where the part before a byte ends
pub length-before : (stop : ℕ) (text : List ℕ) → length (before stop text) ≡ position_or_len (λ byte. byte == stop) text
length-before stop text =
    is_position_or_len (λ bytes. length (before stop bytes)) (λ byte. byte == stop) refl
    (λ byte bytes. elim (byte == stop) as (λ b. length (cond b [] (byte ∷ before stop bytes))
    ≡ cond b 0 (1 + length (before stop bytes))) [ true ↦ refl | false ↦ omega arith ])
    text

-- the part before a byte is a prefix of the text
pub take-before : (stop : ℕ) (text : List ℕ) → take (length (before stop text)) text ≡ before stop text
take-before stop [] = refl
take-before stop (byte ∷ bytes) =
    elim (byte == stop) as (λ b. take (length (cond b [] (byte ∷ before stop bytes))) (byte ∷ bytes)
    ≡ cond b [] (byte ∷ before stop bytes)) [
      | true ↦ refl
      | false ↦ ap (λ (rest : List ℕ). byte ∷ rest) (take-before stop bytes)
    ]

-- where the first byte is that passes, or the end of the text
pub position-end : (p : ℕ → Bool) (text : List ℕ) (r : Option ℕ)
    → r ≡ cond (ltb (position_or_len p text) (length text)) (Some (position_or_len p text)) None →
    unwrap_or r (length text) ≡ position_or_len p text
position-end p text r e =
    elim (cases_lt (position_or_len p text) (length text)) [
      | inl lt ↦ let t = lt-ltb _ _ lt in ap (λ o. unwrap_or o (length text)) e ∙ rw t refl
      | inr le ↦
          let t = le-ltb _ _ le in
          let end : position_or_len p text ≡ length text = omega (arith, prefix_len-le-length (λ b. not (p b)) text) in
          ap (λ o. unwrap_or o (length text)) e ∙ rw t (sym end)
    ]

-- the word that has begun ends before the next space, and the other words come after it
pub words_from-word : (word text : List ℕ) → words_from word text
    ≡ with_word (word ++ before 32 text) (words_from [] (drop (length (before 32 text)) text))
words_from-word word [] = ap (λ (w : List ℕ). with_word w []) (sym (append-nil word))
words_from-word word (byte ∷ bytes) =
    elim (cases_Bool (byte == 32)) [
      | inl e ↦ rw e (rw e (ap (λ (w : List ℕ). with_word w (words_from [] bytes)) (sym (append-nil word))))
      | inr e ↦
          rw e
          (words_from-word (word ++ byte ∷ []) bytes ∙ ap
          (λ (w : List ℕ). with_word w (words_from [] (drop (length (before 32 bytes)) bytes)))
          (append_assoc word (byte ∷ []) (before 32 bytes)))
    ]

-- words of unequal lengths are not the same
pub same_word-lengths : (a b : List ℕ) → (length a ≡ length b → ⊥) → same_word a b ≡ false
same_word-lengths [] [] h = absurd (h refl)
same_word-lengths [] (y ∷ ys) h = refl
same_word-lengths (x ∷ xs) [] h = refl
same_word-lengths (x ∷ xs) (y ∷ ys) h =
    elim (x == y) as (λ b. (b && same_word xs ys) ≡ false) [
      | true ↦ same_word-lengths xs ys (λ e. h (ap suc e))
      | false ↦ refl
    ]

-- words of equal lengths are the same where they are byte by byte
pub same_word-zip : (a b : List ℕ) → length a ≡ length b
    → list_all (λ (pair : ℕ × ℕ). to_ascii_uppercase pair.0 == pair.1) (zip a b) ≡ same_word (raised a) b
same_word-zip [] [] e = refl
same_word-zip [] (y ∷ ys) e = absurd (omega arith)
same_word-zip (x ∷ xs) [] e = absurd (omega arith)
same_word-zip (x ∷ xs) (y ∷ ys) e = rw (same_word-zip xs ys (omega arith)) refl

-- a word before others
texts_of-with : (start : ℕ) (word : List ℕ) (others : List Placed) (words : List (List ℕ))
    → texts_of others ≡ map raised words →
    texts_of (with_placed start word others) ≡ map raised (with_word word words)
texts_of-with start [] others words e = e
texts_of-with start (byte ∷ bytes) others words e = ap (λ (texts : List (List ℕ)). raised (byte ∷ bytes) ∷ texts) e

-- the words at their places are the words
pub texts_of-placed : (start : ℕ) (word text : List ℕ)
    → texts_of (placed_from start word text) ≡ map raised (words_from word text)
texts_of-placed start [] [] = refl
texts_of-placed start (byte ∷ bytes) [] = refl
texts_of-placed start word (byte ∷ bytes) =
    elim (cases_Bool (byte == 32)) [
      | inl e ↦ rw e (texts_of-with start word _ _ (texts_of-placed (start + length word + 1) [] bytes))
      | inr e ↦ rw e (texts_of-placed start (word ++ byte ∷ []) bytes)
    ]

-- spaces before the words are passed over
pub placed_from-spaces : (at : ℕ) (text : List ℕ) →
    placed_from at [] text ≡ placed_from (at + position_or_len (λ byte. not (byte == 32)) text) []
    (drop (position_or_len (λ byte. not (byte == 32)) text) text)
placed_from-spaces at [] = refl
placed_from-spaces at (byte ∷ bytes) =
    elim (cases_Bool (byte == 32)) [
      | inl e ↦
          let n : at + 0 + 1 ≡ at + 1 = omega arith in
          let m : at + 1 + position_or_len (λ b. not (b == 32)) bytes
          ≡ at + suc (position_or_len (λ b. not (b == 32)) bytes) = omega arith in
          let o : 1 + position_or_len (λ b. not (b == 32)) bytes ≡ suc (position_or_len (λ b. not (b == 32)) bytes) =
          omega arith in
          rw (e, o)
          (ap (λ (k : ℕ). placed_from k [] bytes) n ∙ placed_from-spaces (at + 1) bytes
          ∙ ap (λ (k : ℕ). placed_from k [] (drop (position_or_len (λ b. not (b == 32)) bytes) bytes)) m)
      | inr e ↦
          let n : at + 0 ≡ at = omega arith in
          rw (e, n, e) refl
    ]

-- the word that has begun ends before the next space, and the other words come after it
pub placed_from-word : (start : ℕ) (word text : List ℕ) →
    placed_from start word text ≡ with_placed start (word ++ before 32 text)
    (placed_from (start + length (word ++ before 32 text)) [] (drop (length (before 32 text)) text))
placed_from-word start word [] = ap (λ (w : List ℕ). with_placed start w []) (sym (append-nil word))
placed_from-word start word (byte ∷ bytes) =
    elim (cases_Bool (byte == 32)) [
      | inl e ↦
          let n : start + length word + 1 ≡ start + length word + 0 + 1 = omega arith in
          let w = append-nil word in
          rw e (rw (w, e) (ap (λ (k : ℕ). with_placed start word (placed_from k [] bytes)) n))
      | inr e ↦
          let w = append_assoc word (byte ∷ []) (before 32 bytes) in
          rw e
          (placed_from-word start (word ++ byte ∷ []) bytes
          ∙ ap (λ (w : List ℕ). with_placed start w (placed_from (start + length w) []
          (drop (length (before 32 bytes)) bytes))) w)
    ]

-- what is there from a later place on is there from an earlier one on
LieFrom-sooner : (from later : ℕ) (line : List ℕ) (words : List Placed) → from ≤ later → LieFrom later line words
    → LieFrom from line words
LieFrom-sooner from later line [] le h = tt
LieFrom-sooner from later line (word ∷ words) le h = (omega arith, h.1, h.2, h.3, h.4)

-- a word between a prefix and a rest
slice_of : (prefix word rest whole : List ℕ) → whole ≡ prefix ++ (word ++ rest)
    → slice_range whole (length prefix) (length prefix + length word) ≡ word
slice_of prefix word rest whole is =
    let size : length prefix + length word - length prefix ≡ length word = omega arith in
    rw (is, size, drop_at prefix (word ++ rest) (length prefix) refl) (take_at word rest (length word) refl)

-- a word that begins after a prefix, before others
with_placed-lie : (prefix word rest whole : List ℕ) (words : List Placed) → whole ≡ prefix ++ (word ++ rest) →
    LieFrom (length prefix + length word) whole words
    → LieFrom (length prefix) whole (with_placed (length prefix) word words)
with_placed-lie prefix [] rest whole words is h =
    LieFrom-sooner (length prefix) (length prefix + 0) whole words (omega arith) h
with_placed-lie prefix (byte ∷ bytes) rest whole words is h =
    let size : length whole ≡ length prefix + (length (byte ∷ bytes) + length rest) =
    ap length is ∙ length-append prefix ((byte ∷ bytes) ++ rest)
    ∙ ap (λ n. length prefix + n) (length-append (byte ∷ bytes) rest) in
    (omega arith, omega arith, omega (arith, size), sym (slice_of prefix (byte ∷ bytes) rest whole is), h)

-- the words of a text are in it
placed_lie : (prefix word text whole : List ℕ) → whole ≡ prefix ++ (word ++ text)
    → LieFrom (length prefix) whole (placed_from (length prefix) word text)
placed_lie prefix word [] whole is = with_placed-lie prefix word [] whole [] is tt
placed_lie prefix word (byte ∷ bytes) whole is =
    elim (cases_Bool (byte == 32)) [
      | inl e ↦
          let later = prefix ++ (word ++ (byte ∷ [])) in
          let size : length later ≡ length prefix + length word + 1 =
          length-append prefix (word ++ (byte ∷ [])) ∙ ap (λ n. length prefix + n) (length-append word (byte ∷ []))
          ∙ omega arith in
          let split : whole ≡ later ++ ([] ++ bytes) =
          is ∙ sym (append_assoc prefix (word ++ (byte ∷ [])) bytes
          ∙ ap (λ (t : List ℕ). prefix ++ t) (append_assoc word (byte ∷ []) bytes)) in
          let rest : LieFrom (length prefix + length word + 1) whole
          (placed_from (length prefix + length word + 1) [] bytes) =
          subst (λ n. LieFrom n whole (placed_from n [] bytes)) size (placed_lie later [] bytes whole split) in
          rw e
          (with_placed-lie prefix word (byte ∷ bytes) whole _ is
          (LieFrom-sooner (length prefix + length word) (length prefix + length word + 1) whole _ (omega arith)
          rest))
      | inr e ↦ rw e (placed_lie prefix (word ++ byte ∷ []) bytes whole
          (is ∙ ap (λ (t : List ℕ). prefix ++ t) (sym (append_assoc word (byte ∷ []) bytes))))
    ]

-- all words of a text
pub words_lie : (text : List ℕ) → LieFrom 0 text (placed_from 0 [] text)
words_lie text = placed_lie [] [] text text refl

-- where no byte is other than a space, there are no words
pub no_word : (at : ℕ) (rest : List ℕ) (r : Option ℕ) →
    r ≡ cond (ltb (position_or_len (λ byte. not (byte == 32)) rest) (length rest))
    (Some (position_or_len (λ byte. not (byte == 32)) rest)) None → r ≡ None →
    placed_from at [] rest ≡ []
no_word at rest r is none =
    elim (cases_lt (position_or_len (λ byte. not (byte == 32)) rest) (length rest)) [
      | inl lt ↦
          let t =
          lt-ltb _ _ lt in let some = rw t at is in absurd
          (let wrong : ◌≡◌ {A = Option ℕ} None (Some (position_or_len (λ byte. not (byte == 32)) rest)) =
          sym none ∙ some in cc)
      | inr le ↦
          placed_from-spaces at rest
          ∙ at_drop_all (placed_from (at + position_or_len (λ byte. not (byte == 32)) rest) []) rest
          (position_or_len (λ byte. not (byte == 32)) rest) le
    ]

-- a word with bytes is before others
with_placed-some : (start : ℕ) (word : List ℕ) (words : List Placed) → 0 < length word →
    with_placed start word words ≡ record { text = word; start = start; end = start + length word } ∷ words
with_placed-some start [] words some = absurd (omega arith)
with_placed-some start (byte ∷ bytes) words some = refl

-- the word that begins at the first byte that is no space has bytes
some_bytes : (text : List ℕ) → position_or_len (λ byte. not (byte == 32)) text < length text →
    0 < length (before 32 (drop (position_or_len (λ byte. not (byte == 32)) text) text))
some_bytes [] lt = absurd (omega arith)
some_bytes (byte ∷ bytes) lt =
    elim (cases_Bool (byte == 32)) [
      | inl e ↦
          let o : 1 + position_or_len (λ b. not (b == 32)) bytes ≡ suc (position_or_len (λ b. not (b == 32)) bytes) =
          omega arith in
          let later = rw e at lt in
          rw (e, o) (some_bytes bytes (omega arith))
      | inr e ↦ rw e (rw e (omega arith))
    ]

-- otherwise the first word begins at the first such byte
pub first_placed : (at : ℕ) (text : List ℕ) (spaces count : ℕ) (r : Option ℕ) → at ≤ length text →
    r ≡ cond (ltb (position_or_len (λ byte. not (byte == 32)) (drop at text)) (length (drop at text)))
    (Some (position_or_len (λ byte. not (byte == 32)) (drop at text))) None →
    r ≡ Some spaces → count ≡ length (before 32 (drop (at + spaces) text)) →
    placed_from at [] (drop at text) ≡ record {
      text = slice_range text (at + spaces) (at + spaces + count);
      start =
          at + spaces;
      end = at + spaces + count;
    } ∷ placed_from (at + spaces + count) []
    (drop (at + spaces + count) text)
first_placed at text spaces count r within is some size =
    elim (cases_lt (position_or_len (λ byte. not (byte == 32)) (drop at text)) (length (drop at text))) [
      | inr le ↦ let t = le-ltb _ _ le in let none =
          rw t at is in absurd (let wrong : ◌≡◌ {A = Option ℕ} (Some spaces) None = sym some ∙ none in cc)
      | inl lt ↦
          let t = lt-ltb _ _ lt in
          let found = rw t at is in
          let same : spaces ≡ position_or_len (λ byte. not (byte == 32)) (drop at text) = cc in
          let here : drop spaces (drop at text) ≡ drop (at + spaces) text = drop-drop spaces at text in
          let rest = drop (at + spaces) text in
          let begins : drop (position_or_len (λ byte. not (byte == 32)) (drop at text)) (drop at text) ≡ rest =
          ap (λ n. drop n (drop at text)) (sym same) ∙ here in
          let some_byte : 0 < length (before 32 rest) = subst (λ (t : List ℕ). 0 < length (before 32 t)) begins
          (some_bytes (drop at text) lt) in
          let word : slice_range text (at + spaces) (at + spaces + count) ≡ before 32 rest =
          ap (λ n. take n rest) (let n : at + spaces + count - (at + spaces) ≡ length (before 32 rest) =
          omega arith in n) ∙ take-before 32 rest in
          let later : drop count rest ≡ drop (at + spaces + count) text = drop-drop count (at + spaces) text in
          placed_from-spaces at (drop at text)
          ∙ ap (λ n. placed_from (at + n) [] (drop (position_or_len (λ byte. not (byte == 32)) (drop at text))
          (drop at text))) (sym same)
          ∙ ap (placed_from (at + spaces) []) begins ∙ placed_from-word (at + spaces) [] rest
          ∙ with_placed-some (at + spaces) (before 32 rest)
          (placed_from (at + spaces + length (before 32 rest)) [] (drop (length (before 32 rest)) rest))
          some_byte
          ∙ rw (← size, later, word) refl
    ]

-- the words of a line at their places are its words
pub texts_of-line : (line : List ℕ) (words : List Placed) → words ≡ placed_from 0 [] (before 35 line) →
    texts_of words ≡ map raised (words_from [] (before 35 line))
texts_of-line line words is = ap texts_of is ∙ texts_of-placed 0 [] (before 35 line)

-- and is the first
pub gives_first : (words left : List Placed) (given : Option Token) (token : Token) → GivesFirst words given left
    → given ≡ Some token →
    first_of_words (texts_of words) ≡ raised token.text.now
gives_first [] left given token h some = absurd
    (let wrong : ◌≡◌ {A = Option Token} None (Some token) = sym h.0 ∙ some in cc)
gives_first (word ∷ words) left given token h some =
    let same : h.0 ≡ token = let both : ◌≡◌ {A = Option Token} (Some h.0) (Some token) = sym h.1 ∙ some in cc in
    ap (λ (w : Placed). raised w.text) (sym h.2) ∙ ap (λ (t : Token). raised t.text.now) same

pub gives_no_first : (words left : List Placed) (given : Option Token) → GivesFirst words given left → given ≡ None
    → first_of_words (texts_of words) ≡ []
gives_no_first [] left given h none = refl
gives_no_first (word ∷ words) left given h none =
    absurd (let wrong : ◌≡◌ {A = Option Token} None (Some h.0) = sym none ∙ h.1 in cc)

-- it is before those that are left
pub next_words : (words left : List Placed) (given : Option Token) (token : Token) → GivesFirst words given left
    → given ≡ Some token →
    texts_of words ≡ raised token.text.now ∷ texts_of left
next_words [] left given token gives is = let wrong = sym gives.0 ∙ is in absurd cc
next_words (word ∷ words) left given token gives is =
    let one : gives.0 ≡ token = cc in
    let word_is : placed token ≡ word = ap placed (sym one) ∙ gives.2 in
    ap (λ (p : Placed). raised p.text ∷ texts_of words) (sym word_is)
    ∙ ap (λ (others : List Placed). raised token.text.now ∷ texts_of others) (sym gives.3)

-- no words are left after none
pub none_left : (words left : List Placed) (given : Option Token) → GivesFirst words given left → given ≡ None
    → texts_of words ≡ []
none_left [] left given h none = refl
none_left (word ∷ words) left given h none = absurd
    (let wrong : ◌≡◌ {A = Option Token} None (Some h.0) = sym none ∙ h.1 in cc)

-- an empty word is the same as no word
pub empty_word : (word : List ℕ) → (length word == 0) ≡ same_word [] word
empty_word [] = refl
empty_word (byte ∷ bytes) = ne_eqb _ 0 (λ e. omega arith)
