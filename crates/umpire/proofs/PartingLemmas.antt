-- Where the last line that divides is, as a text is read line by line.
use Rattle.std.proofs.Common.{◌≡◌, ℕ, ◌≤◌, List, [], ◌∷◌, ◌++◌, true, false, cond, length, refl, ◌∙◌, ap, suc, arith}
use Rattle.std.proofs.Common.{eqb}
use Rattle.std.specs.Prelude.{Bool, ◌&&◌, Option, Some, None, Result, Ok, codes, ◌↔◌}
use Rattle.std.specs.Option.{option_or}
use Rattle.order_grammar.specs.Line.{cert_reading_of}
use Rattle.order_grammar.specs.Spells.{AreWordsFor, SpellsIn}
use Rattle.order_grammar.specs.Texts.{certificate}
use Rattle.order_grammar.specs.Words.{first_of_words, same_word, words_of}
use Rattle.order_grammar.specs.declared.fault.Fault.{Fault}
use Rattle.order_grammar.specs.declared.order.Order.{Order}
use Rattle.order_grammar.specs.declared.order.Order.TheVariants.{Certs}
use Rattle.sheets.specs.Text.{lines_of, rest_of}
use Rattle.umpire.specs.InputSplit.{is_divider, begin_with_divider, from_divider, says_certs, without_newline}

-- a line of a certificate's text is read as an order exactly if it spells that
abbrev CertLinesAreReadWhereSpelt : Type 0
CertLinesAreReadWhereSpelt = (line : List ℕ) (order : Order)
    → (cert_reading_of line ≡ Ok order) ↔ SpellsIn certificate line order

-- what is read of a line is that order where it says so
said : (reading : Result Order Fault) → says_certs reading ≡ true → reading ≡ Ok Certs
said (Ok Certs) says = refl
said other says = absurd cc

word_of : (words : List (List ℕ)) → AreWordsFor Certs words → same_word (first_of_words words) (codes "CERTS") ≡ true
word_of [] are = absurd are
word_of (word ∷ words) are = rw are.0 refl

-- the first word of a line that divides is CERTS
begins : CertLinesAreReadWhereSpelt → (line : List ℕ) → is_divider line ≡ true
    → same_word (first_of_words (words_of line)) (codes "CERTS") ≡ true
unfolding is_divider
begins read line divides = word_of (words_of line)
    ((read line Certs).0 (said (cert_reading_of line) divides)).loosely.words

only_so : (divides begun : Bool) → (divides ≡ true → begun ≡ true) → begun ≡ false → divides ≡ false
only_so true begun leads other = absurd (let is : begun ≡ true = leads refl in cc)
only_so false begun leads other = refl

-- a line with another first word does not divide
pub divides_not : CertLinesAreReadWhereSpelt → (line : List ℕ)
    → same_word (first_of_words (words_of line)) (codes "CERTS") ≡ false → is_divider line ≡ false
divides_not read line other = only_so (is_divider line) (same_word (first_of_words (words_of line)) (codes "CERTS"))
    (begins read line) other

or_nothing : {A : Type 0} (o : Option A) → option_or o None ≡ o
or_nothing None = refl
or_nothing (Some a) = refl

-- no line begins before the first LF
later : (text : List ℕ) → from_divider false text ≡ from_divider true (rest_of text)
later [] = refl
later (byte ∷ bytes) =
    or_nothing (from_divider (eqb byte 10) bytes)
    ∙ elim (eqb byte 10) as (λ b. from_divider b bytes ≡ from_divider true (cond b bytes (rest_of bytes)))
    [ true ↦ refl | false ↦ later bytes ]

behind_first : (byte : ℕ) (bytes : List ℕ) → from_divider (eqb byte 10) bytes
    ≡ from_divider true (rest_of (byte ∷ bytes))
behind_first byte bytes =
    elim (eqb byte 10) as (λ b. from_divider b bytes ≡ from_divider true (cond b bytes (rest_of bytes)))
    [ true ↦ refl | false ↦ later bytes ]

-- the first line divides, or what is after it is looked at
pub at_line : (text line : List ℕ) (lines : List (List ℕ)) → lines_of text ≡ line ∷ lines →
    from_divider true text ≡ option_or (from_divider true (rest_of text)) (cond (is_divider line) (Some text) None)
at_line [] line lines e = cc
at_line (byte ∷ bytes) line lines e =
    ap (λ o. option_or o (cond (true && begin_with_divider (lines_of (byte ∷ bytes))) (Some (byte ∷ bytes)) None))
    (behind_first byte bytes)
    ∙ ap (λ ls. option_or (from_divider true (rest_of (byte ∷ bytes)))
    (cond (true && begin_with_divider ls) (Some (byte ∷ bytes)) None)) e

-- a line that divides, before what has been found after it or not
or_found : {A : Type 0} (o : Option A) (a b : A) → option_or (option_or o (Some a)) (Some b) ≡ option_or o (Some a)
or_found None a b = refl
or_found (Some c) a b = refl

pub divided_first : (all text rest line : List ℕ) (lines : List (List ℕ)) (found : Option (List ℕ))
    → lines_of text ≡ line ∷ lines → rest ≡ rest_of text → is_divider line ≡ true →
    from_divider true all ≡ option_or (from_divider true text) found
    → from_divider true all ≡ option_or (from_divider true rest) (Some text)
divided_first all text rest line lines None e r d h =
    rw (h, or_nothing (from_divider true text), at_line text line lines e, d, r) refl
divided_first all text rest line lines (Some found) e r d h =
    rw (h, at_line text line lines e, d, r, or_found (from_divider true (rest_of text)) text found) refl

pub divided_later : (all text rest line : List ℕ) (lines : List (List ℕ)) (found : Option (List ℕ))
    → lines_of text ≡ line ∷ lines → rest ≡ rest_of text → is_divider line ≡ false →
    from_divider true all ≡ option_or (from_divider true text) found
    → from_divider true all ≡ option_or (from_divider true rest) found
divided_later all text rest line lines found e r d h =
    rw (h, at_line text line lines e, d, r, or_nothing (from_divider true (rest_of text))) refl

-- what is found is no longer than the text
or_within : (n : ℕ) (o p : Option (List ℕ)) (found : List ℕ) → ((f : List ℕ) → o ≡ Some f → length f ≤ n)
    → ((f : List ℕ) → p ≡ Some f → length f ≤ suc n) →
    option_or o p ≡ Some found → length found ≤ suc n
or_within n None p found a b e = b found e
or_within n (Some f) p found a b e = let h = a found e in omega arith

this_within : (here : Bool) (text found : List ℕ) → cond here (Some text) None ≡ Some found → length found ≤ length text
this_within true text found e = let same : text ≡ found = cc in rw same (omega arith)
this_within false text found e = cc

pub found_within : (begins : Bool) (text found : List ℕ) → from_divider begins text ≡ Some found
    → length found ≤ length text
found_within begins [] found e = cc
found_within begins (byte ∷ bytes) found e =
    or_within (length bytes) (from_divider (eqb byte 10) bytes)
    (cond (begins && begin_with_divider (lines_of (byte ∷ bytes))) (Some (byte ∷ bytes)) None) found
    (found_within (eqb byte 10) bytes) (this_within (begins && begin_with_divider (lines_of (byte ∷ bytes)))
    (byte ∷ bytes)) e

-- an LF at the end of a text goes
pub without_newline-last : (prefix : List ℕ) (last : ℕ)
    → without_newline (prefix ++ last ∷ []) ≡ cond (eqb last 10) prefix (prefix ++ last ∷ [])
without_newline-last [] last = refl
without_newline-last (a ∷ []) last = elim (eqb last 10) as
    (λ b. a ∷ cond b [] (last ∷ []) ≡ cond b (a ∷ []) (a ∷ last ∷ [])) [ true ↦ refl | false ↦ refl ]
without_newline-last (a ∷ b ∷ prefix) last =
    ap (λ l. a ∷ l) (without_newline-last (b ∷ prefix) last)
    ∙ elim (eqb last 10) as (λ t. a ∷ cond t (b ∷ prefix) (b ∷ (prefix ++ last ∷ []))
    ≡ cond t (a ∷ b ∷ prefix) (a ∷ b ∷ (prefix ++ last ∷ [])))
    [ true ↦ refl | false ↦ refl ]
