-- What is kept and what is left are together what the whole body has, from line to line.
use Rattle.std.proofs.Common.{◌≡◌, ℕ, ◌+◌, ◌<◌, ◌≤◌, List, [], ◌∷◌, ◌++◌, Bool, true, false, cond, Option, Some, None}
use Rattle.std.proofs.Common.{take, suc, zero-add, refl, sym, ◌∙◌, ap, append_assoc, arith, subst}
use Rattle.std.specs.Prelude.{not}
use Rattle.std.specs.Option.{option_or}
use Rattle.std.specs.List.{prefix_len}
use Rattle.std.proofs.lemmas.List.{append-nil}
use Rattle.order_grammar.specs.declared.condition.Version.{Version}
use Rattle.order_grammar.specs.declared.fault.Fault.{Fault}
use Rattle.sheets.specs.File.{is_sheet_line, begins, same_sheet_key, sheet_lines, sheet_in, good_lines, unread_fault}
use Rattle.sheets.specs.File.{unread_in}
use Rattle.sheets.specs.Collecting.{Open, open_with, CollectedSoFar, HasNoSheetLine}
use Rattle.sheets.specs.Limits.{sheets_most}
use Rattle.sheets.specs.declared.sheet_key.SheetKey.{SheetKey}

-- the later of a sheet and nothing
pub option_or-none : (a : Option (List (List ℕ))) → option_or a None ≡ a
option_or-none None = refl
option_or-none (Some a) = refl

-- the later of three
option_or-option_or : (a b c : Option (List (List ℕ))) → option_or (option_or a b) c ≡ option_or a (option_or b c)
option_or-option_or None b c = refl
option_or-option_or (Some a) b c = refl

-- one choice after another
pub option_or-cond : (t : Bool) (a : List (List ℕ)) (c : Option (List (List ℕ)))
    → option_or (cond t (Some a) None) c ≡ cond t (Some a) c
option_or-cond true a c = refl
option_or-cond false a c = refl

-- a line with another first word begins no sheet
pub begins_none : (players : List (List ℕ)) (line : List ℕ) → is_sheet_line line ≡ false → begins players line ≡ None
unfolding begins
begins_none players line e = rw e refl

-- a line that begins no sheet changes none
skipped : (players lines : List (List ℕ)) (line : List ℕ) (sheet_key : SheetKey) → begins players line ≡ None →
    sheet_in players (line ∷ lines) sheet_key ≡ sheet_in players lines sheet_key
skipped players lines line sheet_key e = rw e (option_or-none (sheet_in players lines sheet_key))

-- nor is it counted
uncounted : (players lines : List (List ℕ)) (line : List ℕ) → begins players line ≡ None
    → good_lines players (line ∷ lines) ≡ good_lines players lines
uncounted players lines line e = rw e (zero-add (good_lines players lines))

-- a line that begins a sheet is counted
counted : (players lines : List (List ℕ)) (line : List ℕ) (sheet_key : SheetKey)
    → begins players line ≡ Some sheet_key →
    good_lines players (line ∷ lines) ≡ 1 + good_lines players lines
counted players lines line sheet_key e = rw e refl

-- a sheet goes on with a line that has another first word
sheet_lines-line : (line : List ℕ) (lines : List (List ℕ)) → is_sheet_line line ≡ false
    → sheet_lines (line ∷ lines) ≡ line ∷ sheet_lines lines
sheet_lines-line line lines e =
    let rest : ℕ = prefix_len (λ l. not (is_sheet_line l)) lines in
    let more : 1 + rest ≡ suc rest = omega arith in
    rw e (ap (λ n. take n (line ∷ lines)) more)

-- a sheet ends before a SHEET line
sheet_lines-end : (line : List ℕ) (lines : List (List ℕ)) → is_sheet_line line ≡ true → sheet_lines (line ∷ lines) ≡ []
sheet_lines-end line lines e = rw e refl

-- a line inside a sheet has no code
unread-inside : (version : Version) (players lines : List (List ℕ)) (line : List ℕ) → is_sheet_line line ≡ false →
    unread_in version players true (line ∷ lines) ≡ unread_in version players true lines
unread-inside version players lines line e = rw e refl

-- a line outside has one
unread-outside : (version : Version) (players lines : List (List ℕ)) (line : List ℕ) → is_sheet_line line ≡ false →
    unread_in version players false (line ∷ lines) ≡ unread_fault version line ∷ unread_in version players false lines
unread-outside version players lines line e = rw e refl

-- a good SHEET line has none
unread-good : (version : Version) (players lines : List (List ℕ)) (line : List ℕ) (inside : Bool)
    (sheet_key : SheetKey) → is_sheet_line line ≡ true → begins players line ≡ Some sheet_key →
    unread_in version players inside (line ∷ lines) ≡ unread_in version players true lines
unread-good version players lines line inside sheet_key e b = rw (e, b) refl

-- a SHEET line with a fault has one
unread-bad : (version : Version) (players lines : List (List ℕ)) (line : List ℕ) (inside : Bool)
    → is_sheet_line line ≡ true → begins players line ≡ None →
    unread_in version players inside (line ∷ lines) ≡ unread_fault version line ∷ unread_in version players false lines
unread-bad version players lines line inside e b = rw (e, b) refl

-- what a SHEET line leaves to read is the same whether a sheet is open before it or not
unread-either : (version : Version) (players lines : List (List ℕ)) (line : List ℕ) → is_sheet_line line ≡ true →
    unread_in version players true (line ∷ lines) ≡ unread_in version players false (line ∷ lines)
unread-either version players lines line e = rw e refl

-- a sheet that goes on
open-line : (sheet_key q : SheetKey) (had lines : List (List ℕ)) (line : List ℕ) → is_sheet_line line ≡ false →
    open_with (Some (record { sheet_key = sheet_key; lines = had })) (line ∷ lines) q
    ≡ open_with (Some (record { sheet_key = sheet_key; lines = had ++ line ∷ [] })) lines q
open-line sheet_key q had lines line e =
    ap (λ b. cond (same_sheet_key sheet_key q) (Some b) None)
    (ap (λ b. had ++ b) (sheet_lines-line line lines e) ∙ sym (append_assoc had (line ∷ []) (sheet_lines lines)))

-- a sheet that ends
open-end : (sheet_key q : SheetKey) (had lines : List (List ℕ)) (line : List ℕ) → is_sheet_line line ≡ true →
    open_with (Some (record { sheet_key = sheet_key; lines = had })) (line ∷ lines) q
    ≡ cond (same_sheet_key sheet_key q) (Some had) None
open-end sheet_key q had lines line e = ap (λ b. cond (same_sheet_key sheet_key q) (Some b) None)
    (ap (λ b. had ++ b) (sheet_lines-end line lines e) ∙ append-nil had)

-- a sheet that begins
begun : (players lines : List (List ℕ)) (line : List ℕ) (sheet_key q : SheetKey) (had : Option (List (List ℕ)))
    → begins players line ≡ Some sheet_key →
    option_or (sheet_in players (line ∷ lines) q) had
    ≡ option_or (sheet_in players lines q) (option_or
    (open_with (Some (record { sheet_key = sheet_key; lines = [] })) lines q) had)
begun players lines line sheet_key q had e = rw e
    (option_or-option_or (sheet_in players lines q) (cond (same_sheet_key sheet_key q) (Some (sheet_lines lines)) None)
    had)

module _ (version : Version) (players body : List (List ℕ)) (sheets : SheetKey → Option (List (List ℕ)))
    (unread : List Fault) (good : ℕ) where
  -- other sheets with the same look-ups
  pub collected_same : (others : SheetKey → Option (List (List ℕ))) (lines : List (List ℕ)) (current : Option Open)
      → ((sheet_key : SheetKey) → others sheet_key ≡ sheets sheet_key)
      → CollectedSoFar version players body lines current sheets unread good
      → CollectedSoFar version players body lines current others unread good
  collected_same others lines current same s = record {
    sheets_are = λ sheet_key. ap (λ o. option_or (sheet_in players lines sheet_key)
        (option_or (open_with current lines sheet_key) o)) (same sheet_key) ∙ s.sheets_are sheet_key;
    unread_are = s.unread_are;
    good_are = s.good_are;
    few = s.few;
  }

  -- a line inside a sheet
  pub collected_inside : (line : List ℕ) (lines : List (List ℕ)) (sheet_key : SheetKey) (had : List (List ℕ))
      → is_sheet_line line ≡ false → CollectedSoFar version players body (line ∷ lines)
      (Some (record { sheet_key = sheet_key; lines = had })) sheets unread good
      → CollectedSoFar version players body lines (Some (record { sheet_key = sheet_key; lines = had ++ line ∷ [] }))
      sheets unread good
  collected_inside line lines sheet_key had other s =
      let none : begins players line ≡ None = begins_none players line other in
      record {
        sheets_are = λ q. ap (λ o. option_or o (option_or
            (open_with (Some (record { sheet_key = sheet_key; lines = had ++ line ∷ [] })) lines q) (sheets q)))
            (sym (skipped players lines line q none)) ∙ sym
            (ap (λ o. option_or (sheet_in players (line ∷ lines) q) (option_or o (sheets q)))
            (open-line sheet_key q had lines line other)) ∙ s.sheets_are q;
        unread_are = ap (λ codes. unread ++ codes) (sym (unread-inside version players lines line other))
            ∙ s.unread_are;
        good_are = ap (λ n. good + n) (sym (uncounted players lines line none)) ∙ s.good_are;
        few = s.few;
      }

  -- lines inside a sheet, one after another
  pub collected_skipped : (lines more : List (List ℕ)) (sheet_key : SheetKey) (had : List (List ℕ))
      → HasNoSheetLine lines → CollectedSoFar version players body (lines ++ more)
      (Some (record { sheet_key = sheet_key; lines = had })) sheets unread good
      → CollectedSoFar version players body more (Some (record { sheet_key = sheet_key; lines = had ++ lines }))
      sheets unread good
  collected_skipped [] more sheet_key had none s =
      subst (λ ls. CollectedSoFar version players body more (Some (record { sheet_key = sheet_key; lines = ls }))
      sheets unread good) (sym (append-nil had)) s
  collected_skipped (line ∷ lines) more sheet_key had none s =
      subst (λ ls. CollectedSoFar version players body more (Some (record { sheet_key = sheet_key; lines = ls }))
      sheets unread good) (append_assoc had (line ∷ []) lines)
      (collected_skipped lines more sheet_key (had ++ line ∷ []) none.1
      (collected_inside line (lines ++ more) sheet_key had none.0 s))

  -- a line outside
  pub collected_stray : (line : List ℕ) (lines : List (List ℕ)) → is_sheet_line line ≡ false
      → CollectedSoFar version players body (line ∷ lines) None sheets unread good
      → CollectedSoFar version players body lines None sheets (unread ++ unread_fault version line ∷ []) good
  collected_stray line lines other s =
      let none : begins players line ≡ None = begins_none players line other in
      record {
        sheets_are = λ q. ap (λ o. option_or o (sheets q)) (sym (skipped players lines line q none)) ∙ s.sheets_are q;
        unread_are = append_assoc unread (unread_fault version line ∷ []) (unread_in version players false lines)
            ∙ ap (λ codes. unread ++ codes) (sym (unread-outside version players lines line other)) ∙ s.unread_are;
        good_are = ap (λ n. good + n) (sym (uncounted players lines line none)) ∙ s.good_are;
        few = s.few;
      }

  -- a SHEET line ends the sheet before it
  pub collected_closed : (line : List ℕ) (lines : List (List ℕ)) (sheet_key : SheetKey) (had : List (List ℕ))
      → is_sheet_line line ≡ true → CollectedSoFar version players body (line ∷ lines)
      (Some (record { sheet_key = sheet_key; lines = had })) sheets unread good
      → CollectedSoFar version players body (line ∷ lines) None (λ q. cond (same_sheet_key sheet_key q) (Some had)
      (sheets q)) unread good
  collected_closed line lines sheet_key had is s =
      record {
        sheets_are = λ q. ap (λ o. option_or (sheet_in players (line ∷ lines) q) o)
            (sym (option_or-cond (same_sheet_key sheet_key q) had (sheets q))
            ∙ ap (λ o. option_or o (sheets q)) (sym (open-end sheet_key q had lines line is))) ∙ s.sheets_are q;
        unread_are = ap (λ codes. unread ++ codes) (sym (unread-either version players lines line is)) ∙ s.unread_are;
        good_are = s.good_are;
        few = s.few;
      }

  -- a good SHEET line begins a sheet
  pub collected_begun : (line : List ℕ) (lines : List (List ℕ)) (sheet_key : SheetKey) → is_sheet_line line ≡ true
      → begins players line ≡ Some sheet_key → good < sheets_most
      → CollectedSoFar version players body (line ∷ lines) None sheets unread good
      → CollectedSoFar version players body lines (Some (record { sheet_key = sheet_key; lines = [] })) sheets unread
      (good + 1)
  collected_begun line lines sheet_key is some below s =
      record {
        sheets_are = λ q. sym (begun players lines line sheet_key q (sheets q) some) ∙ s.sheets_are q;
        unread_are = ap (λ codes. unread ++ codes) (sym
            (unread-good version players lines line false sheet_key is some)) ∙ s.unread_are;
        good_are = omega (arith, s.good_are, counted players lines line sheet_key some);
        few = omega arith;
      }

  -- a SHEET line with a fault begins none
  pub collected_bad : (line : List ℕ) (lines : List (List ℕ)) → is_sheet_line line ≡ true → begins players line ≡ None
      → CollectedSoFar version players body (line ∷ lines) None sheets unread good
      → CollectedSoFar version players body lines None sheets (unread ++ unread_fault version line ∷ []) good
  collected_bad line lines is none s =
      record {
        sheets_are = λ q. ap (λ o. option_or o (sheets q)) (sym (skipped players lines line q none)) ∙ s.sheets_are q;
        unread_are = append_assoc unread (unread_fault version line ∷ []) (unread_in version players false lines)
            ∙ ap (λ codes. unread ++ codes) (sym (unread-bad version players lines line false is none)) ∙ s.unread_are;
        good_are = ap (λ n. good + n) (sym (uncounted players lines line none)) ∙ s.good_are;
        few = s.few;
      }

  -- one good SHEET line too many
  pub too_many : (line : List ℕ) (lines : List (List ℕ)) (sheet_key : SheetKey) → begins players line ≡ Some sheet_key
      → sheets_most ≤ good → CollectedSoFar version players body (line ∷ lines) None sheets unread good
      → sheets_most < good_lines players body
  too_many line lines sheet_key some full s = omega (arith, s.good_are, counted players lines line sheet_key some)
