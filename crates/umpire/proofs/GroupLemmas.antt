-- A group with one line after the other, and the digits of a line of marks.
use Rattle.std.proofs.Common.{◌≡◌, ℕ, List, [], ◌∷◌, ◌++◌, true, false, cond, refl, sym, ◌∙◌, arith, subst}
use Rattle.std.specs.Prelude.{Bool, Option, Some, None, Result, Ok, Err, OnOk}
use Rattle.std.specs.Char.{to_ascii_uppercase}
use Rattle.certificate.specs.Digits.{bits_of_digits, digit_value}
use Rattle.order_grammar.specs.Line.{cert_reading_of}
use Rattle.order_grammar.proofs.WordLemmas.{gives_first}
use Rattle.order_grammar.specs.Token.{GivesFirst}
use Rattle.order_grammar.specs.Words.{Placed, raised, texts_of}
use Rattle.order_grammar.specs.declared.words.Token.{Token}
use Rattle.umpire.specs.Groups.{begins_group, group_begun, group_with_line, groups_in, second_of_words}
use Rattle.umpire.specs.Groups.{with_lines, with_marks}
use Rattle.certificate.specs.declared.group.Group.{Group}

-- the next line is of the group
pub next_line : (lines rest : List (List ℕ)) (line : List ℕ) (group : Group) (next : Option Group)
    → lines ≡ line ∷ rest → begins_group line ≡ false → group_with_line group line ≡ next →
    with_lines lines (Some group) ≡ with_lines rest next
next_line lines rest line group next e b w = rw (e, b, w) refl

-- a malformed group stays one
pub malformed : (lines : List (List ℕ)) → with_lines lines None ≡ None
malformed [] = refl
malformed (line ∷ lines) = elim (begins_group line) as (λ b. cond b None (with_lines lines None) ≡ None)
    [ true ↦ refl | false ↦ malformed lines ]

-- the groups of some lines, by the first of them
pub groups_at_group : (lines rest : List (List ℕ)) (line : List ℕ) → lines ≡ line ∷ rest → begins_group line ≡ true →
    groups_in lines ≡ with_lines rest (group_begun (cert_reading_of line)) ∷ groups_in rest
groups_at_group lines rest line e b = rw (e, b) refl

pub groups_behind : (lines rest : List (List ℕ)) (line : List ℕ) → lines ≡ line ∷ rest → begins_group line ≡ false
    → groups_in lines ≡ groups_in rest
groups_behind lines rest line e b = rw (e, b) refl

-- digits stand for the same bits in either case
raised_digit : (byte : ℕ) → digit_value (to_ascii_uppercase byte) ≡ digit_value byte
raised_digit byte = grind arith

pub raised_digits : (word : List ℕ) → bits_of_digits (raised word) ≡ bits_of_digits word
raised_digits [] = refl
raised_digits (byte ∷ word) = rw (raised_digit byte, raised_digits word) refl

-- the second of some words is given
pub second_given : (words left more : List Placed) (first second : Option Token) (token : Token)
    → GivesFirst words first left → GivesFirst left second more →
    second ≡ Some token → second_of_words (texts_of words) ≡ raised token.text.now
second_given [] left more first second token a b is =
    let none : GivesFirst [] second more = subst (λ ws. GivesFirst ws second more) a.1 b in
    absurd (let wrong : ◌≡◌ {A = Option Token} None (Some token) = sym none.0 ∙ is in cc)
second_given (word ∷ words) left more first second token a b is =
    gives_first words more second token (subst (λ ws. GivesFirst ws second more) a.3 b) is

-- the marks of a line are taken as they are written there
pub marks_taken : {E : Type 0} (group : Group) (word digits : List ℕ) (bits : List Bool) (done : Result Unit E)
    → word ≡ raised digits →
    OnOk done (bits ≡ group.bits ++ bits_of_digits digits) →
    OnOk done (record { round = group.round; company = group.company; claim = group.claim; bits = bits }
    ≡ with_marks group word)
marks_taken group word digits bits (Ok done) w h = rw (h, w, raised_digits digits) refl
marks_taken group word digits bits (Err error) w h = tt
