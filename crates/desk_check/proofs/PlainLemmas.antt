-- Lines that show by their first bytes that there is nothing to say of them.
use Rattle.std.proofs.Common.{◌≡◌, ℕ, zero, suc, ◌+◌, ◌==◌, Bool, true, false, not, ◌&&◌, cond, List, [], ◌∷◌, ◌++◌}
use Rattle.std.proofs.Common.{Option, Some, None, codes, take, drop, get_or, refl, sym, ap, subst, ◌∙◌, arith, inl, inr}
use Rattle.std.specs.Char.{to_ascii_uppercase}
use Rattle.std.specs.List.{find}
use Rattle.std.proofs.lemmas.Bool.{and_parts, cases_Bool, eqb-false, eqb-true, ne_eqb, not-true, true≢false}
use Rattle.std.proofs.lemmas.Grind.{common_steps}
use Rattle.desk_check.specs.PlainLines.{IsBehindPlain, IsPlain, is_plain_start}
use Rattle.desk_trials.specs.Mail.{is_mail}
use Rattle.desk_trials.specs.SheetLines.{head_here, heads_in}
use Rattle.order_grammar.proofs.FirstLemmas.{first_otherwise}
use Rattle.sheets.proofs.TextLemmas.{lines_at_newline}
use Rattle.sheets.specs.File.{begins, is_sheet_line}
use Rattle.sheets.specs.Text.{IsNewline, without_return}
use Rattle.sheets.specs.declared.sheet_key.SheetKey.{SheetKey}

-- a first test that fails, and the others
neither : (a b : Bool) → (not a && b) ≡ true → (a ≡ false) × (b ≡ true)
neither a b h = let parts = and_parts (not a) b h in (not-true a parts.0, parts.1)

-- a line without bytes
no_line : IsPlain []
unfolding begins is_sheet_line is_mail
no_line = record { no_head = λ players. refl; no_mail = refl }

-- a test the other way round
flipped : (a b : ℕ) → (a == b) ≡ false → (b == a) ≡ false
flipped a b h = ne_eqb b a (λ e. eqb-false a b h (sym e))

module _ (byte : ℕ) (plain : is_plain_start byte ≡ true) where
  -- a line that begins with such a byte begins no sheet
  begins_none : (bytes : List ℕ) (players : List (List ℕ)) → begins players (byte ∷ bytes) ≡ None
  unfolding begins is_sheet_line
  begins_none bytes players =
      let space = neither (byte == 32) _ plain in
      let sheet = neither (to_ascii_uppercase byte == 83) _ space.1 in
      let found : find (λ b. not (b == 32)) (byte ∷ bytes) ≡ Some byte = rw (space.0) refl in
      rw (first_otherwise (byte ∷ bytes) byte 83 (codes "HEET") found sheet.0) refl

  -- and does not look like mail
  no_mail_begun : (bytes : List ℕ) → is_mail (byte ∷ bytes) ≡ false
  unfolding is_mail
  no_mail_begun bytes =
      let space = neither (byte == 32) _ plain in
      let sheet = neither (to_ascii_uppercase byte == 83) _ space.1 in
      let from = neither (byte == 70) _ sheet.1 in
      let to = neither (byte == 84) _ from.1 in
      let copy = neither (byte == 67) _ to.1 in
      let date = neither (byte == 68) _ copy.1 in
      let message = neither (byte == 77) _ date.1 in
      let on = neither (byte == 79) _ message.1 in
      let quoted = neither (byte == 62) _ on.1 in
      let bar = neither (byte == 124) _ quoted.1 in
      let dash : (byte == 45) ≡ false = not-true (byte == 45) bar.1 in
      let sent : (byte == 83) ≡ false = elim (cases_Bool (byte == 83)) [
        | inl e ↦
            let is : byte ≡ 83 = eqb-true byte 83 e in
            absurd (true≢false (subst (λ (b : ℕ). (to_ascii_uppercase b == 83) ≡ false) is sheet.0))
        | inr e ↦ e
      ] in
      rw (
        flipped byte 70 from.0,
        flipped byte 84 to.0,
        flipped byte 67 copy.0,
        flipped byte 68 date.0,
        flipped byte 83 sent,
        flipped byte 77 message.0,
        flipped byte 62 quoted.0,
        flipped byte 124 bar.0,
        flipped byte 45 dash,
        flipped byte 79 on.0,
      ) refl

  -- so there is nothing to say of it
  starts_plainly : (bytes : List ℕ) → IsPlain (byte ∷ bytes)
  starts_plainly bytes = record { no_head = begins_none bytes; no_mail = no_mail_begun bytes }

  -- without a CR
  cut_plainly : (bytes : List ℕ) → IsPlain (without_return (byte ∷ bytes))
  cut_plainly [] =
      elim (byte == 13) as (λ (b : Bool). IsPlain (cond b [] (byte ∷ []))) [
        | true ↦ no_line
        | false ↦ starts_plainly []
      ]
  cut_plainly (next ∷ bytes) = starts_plainly (without_return (next ∷ bytes))

  -- up to here
  first_plainly : (bytes : List ℕ) (end : ℕ) → IsPlain (without_return (take end (byte ∷ bytes)))
  first_plainly bytes zero = no_line
  first_plainly bytes (suc end) = cut_plainly (take end bytes)

-- what follows the first line of a text that begins with such a byte
pub behind_first : (text : List ℕ) (end : ℕ) → is_plain_start (get_or text 0 0) ≡ true → IsNewline text end
    → IsBehindPlain text (drop (end + 1) text)
behind_first [] end plain at = absurd (omega (arith, at.within))
behind_first (byte ∷ bytes) end plain at = record {
  line = without_return (take end (byte ∷ bytes));
  plain = first_plainly byte plain bytes end;
  lines = lines_at_newline (byte ∷ bytes) end at.within at.is at.none_before;
  shorter = grind (arith, common_steps, at.within);
}

-- a line that begins no sheet
pub no_head_passed : (players : List (List ℕ)) (passed : ℕ) (lines : List (List ℕ)) (line : List ℕ)
    (left : List (List ℕ)) → lines ≡ line ∷ left → begins players line ≡ None
    → heads_in players (passed + 1) left ≡ heads_in players passed lines
no_head_passed players passed lines line left e none =
    sym (ap (λ ls. heads_in players passed ls) e
    ∙ ap (λ (begun : Option SheetKey). head_here (passed + 1) begun ++ heads_in players (passed + 1) left) none)
