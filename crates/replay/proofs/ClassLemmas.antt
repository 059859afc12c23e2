-- The rule of a page leaves the parts that live in it.
use Rattle.std.proofs.Common.{◌≡◌, ℕ, ◌-◌, ◌≤◌, Bool, true, false, List, [], ◌∷◌, ◌++◌, length, refl, ap, ◌∙◌, sym, arith}
use Rattle.std.specs.Prelude.{Some, None, if◌then◌else◌, nat_le, nat_lt}
use Rattle.std.proofs.lemmas.Bool.Decides.{nat_tests}
use Rattle.replay.specs.Classes.{LeavesEach, first_class, is_begun, is_lasting, last_class, left, left_in}
use Rattle.replay.specs.Shown.{ShowsEach, shown, text_in}
use Rattle.replay.specs.declared.lasting.Lasting.{Lasting}
use Rattle.replay.specs.declared.lasting.Layers.{Layers}

-- with a class `f` or without one, the rule hides what a later page has first
begun_by : (b : Bool) (from page : ℕ) → nat_lt 0 from ≡ b
    → is_begun (if b then Some from else None) page ≡ nat_le from page
begun_by true from page is = refl
begun_by false from page is =
    let all : nat_le from page ≡ true = grind (arith, nat_tests) in
    sym all

begun_as : (from page : ℕ) → is_begun (first_class from) page ≡ nat_le from page
begun_as from page = begun_by (nat_lt 0 from) from page refl

-- with a class `t` or without one, it hides what an earlier page has last
lasting_by : (b : Bool) (to page last : ℕ) → page ≤ last → nat_lt to last ≡ b
    → is_lasting (if b then Some to else None) page ≡ nat_le page to
lasting_by true to page last within is = refl
lasting_by false to page last within is =
    let all : nat_le page to ≡ true = grind (arith, nat_tests) in
    sym all

lasting_as : (to page last : ℕ) → page ≤ last → is_lasting (last_class to last) page ≡ nat_le page to
lasting_as to page last within = lasting_by (nat_lt to last) to page last within refl

-- so it leaves a part if it lives in the page
left_as_it_lives : (page last : ℕ) (one : Lasting) → page ≤ last → left_in page last one ≡ text_in page one
left_as_it_lives page last one within =
    rw (begun_as one.from page, lasting_as one.to page last within) refl

-- and of a list those that live in it
left_as_shown : (page last : ℕ) (parts : List Lasting) → page ≤ last → left page last parts ≡ shown page parts
left_as_shown page last [] within = refl
left_as_shown page last (one ∷ parts) within =
    ap (λ (text : List (List ℕ)). text ++ left page last parts) (left_as_it_lives page last one within)
    ∙ ap (λ (text : List (List ℕ)). text_in page one ++ text) (left_as_shown page last parts within)

-- the rule of each page leaves what is shown of it
pub rules_leave : (parts : List Lasting) (layer : ℕ) (pages : List Layers) → ShowsEach parts layer pages
    → LeavesEach parts layer pages
rules_leave parts layer pages shows number within =
    let last : number ≤ length pages - 1 = omega arith in
    left_as_shown number (length pages - 1) parts last ∙ shows number within
