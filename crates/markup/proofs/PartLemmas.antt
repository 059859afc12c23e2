-- A text whose elements are all ended reads within other elements as it does by itself.
use Rattle.std.specs.Prelude.{◌≡◌, ℕ, List, [], ◌∷◌, ◌++◌, ◌⊎◌, refl, fold, bytes_eq, true, false, Bool, ◌==◌, if◌then◌else◌}
use Rattle.std.proofs.Common.{◌∙◌, ap, sym, subst, inl, inr}
use Rattle.markup.specs.Reading.{IsWellFormed, Read, WriterPlace, between, closed, closing, ending, inside, inside_then, lost, named, naming, opened, read_at, reading, step, step_at, valued, valued_then}
use Rattle.markup.specs.Tags.{is_void}
use Rattle.markup.proofs.ReadLemmas.{on_from}

module _ (names : List (List ℕ)) where
  -- what is found, within elements of these names
  abbrev over : Read → Read
  over read = read_at (read.open_names ++ names) read.spot

  -- a choice within those elements is the choice of what is within them
  pick : (b : Bool) (f g : List (List ℕ) → Read) (opens : List (List ℕ)) → f (opens ++ names) ≡ over (f opens)
      → g (opens ++ names) ≡ over (g opens)
      → (if b then f (opens ++ names) else g (opens ++ names)) ≡ over (if b then f opens else g opens)
  pick true f g opens first second = first
  pick false f g opens first second = second

  -- behind a start tag
  opened_over : (opens : List (List ℕ)) (name : List ℕ) → opened (opens ++ names) name ≡ over (opened opens name)
  opened_over opens name =
      pick (is_void name) (λ o. read_at o between) (λ o. read_at (name ∷ o) between) opens refl refl

  -- behind the `/` in a tag that begins
  abbrev slashed : List ℕ → List (List ℕ) → Read
  slashed name o = if bytes_eq name [] then read_at o (closing []) else read_at o ending

  slashed_over : (opens : List (List ℕ)) (name : List ℕ) → slashed name (opens ++ names) ≡ over (slashed name opens)
  slashed_over opens name =
      pick (bytes_eq name []) (λ o. read_at o (closing [])) (λ o. read_at o ending) opens refl refl

  -- behind another byte of it
  abbrev further : List ℕ → ℕ → List (List ℕ) → Read
  further name byte o = if byte == 47 then slashed name o else read_at o (naming (name ++ byte ∷ []))

  further_over : (opens : List (List ℕ)) (name : List ℕ) (byte : ℕ)
      → further name byte (opens ++ names) ≡ over (further name byte opens)
  further_over opens name byte =
      pick (byte == 47) (slashed name) (λ o. read_at o (naming (name ++ byte ∷ []))) opens (slashed_over opens name) refl

  -- behind a byte of a tag that begins
  named_over : (opens : List (List ℕ)) (name : List ℕ) (byte : ℕ)
      → named (opens ++ names) name byte ≡ over (named opens name byte)
  named_over opens name byte =
      pick (byte == 62) (λ o. opened o name)
      (λ o. if byte == 32 then read_at o (inside name) else further name byte o) opens (opened_over opens name)
      (pick (byte == 32) (λ o. read_at o (inside name)) (further name byte) opens refl (further_over opens name byte))

  -- behind a byte of a start tag
  inside_over : (opens : List (List ℕ)) (name : List ℕ) (byte : ℕ)
      → inside_then (opens ++ names) name byte ≡ over (inside_then opens name byte)
  inside_over opens name byte =
      pick (byte == 62) (λ o. opened o name)
      (λ o. if byte == 34 then read_at o (valued name)
      else if byte == 47 then read_at o ending else read_at o (inside name)) opens (opened_over opens name)
      (pick (byte == 34) (λ o. read_at o (valued name))
      (λ o. if byte == 47 then read_at o ending else read_at o (inside name)) opens refl
      (pick (byte == 47) (λ o. read_at o ending) (λ o. read_at o (inside name)) opens refl refl))

  -- behind a byte of a value
  valued_over : (opens : List (List ℕ)) (name : List ℕ) (byte : ℕ)
      → valued_then (opens ++ names) name byte ≡ over (valued_then opens name byte)
  valued_over opens name byte =
      pick (byte == 34) (λ o. read_at o (inside name))
      (λ o. if byte == 60 then read_at o lost else read_at o (valued name)) opens refl
      (pick (byte == 60) (λ o. read_at o lost) (λ o. read_at o (valued name)) opens refl refl)

  -- behind an end tag, which is out of its place or ends an element of the text
  closed_over : (opens : List (List ℕ)) (name : List ℕ)
      → ((closed opens name).spot ≡ lost) ⊎ (closed (opens ++ names) name ≡ over (closed opens name))
  closed_over [] name = inl refl
  closed_over (top ∷ opens) name =
      inr (pick (bytes_eq top name) (λ o. read_at o between) (λ o. read_at (top ∷ o) lost) opens refl refl)

  -- behind a byte of an end tag
  closing_over : (b : Bool) (opens : List (List ℕ)) (name more : List ℕ)
      → ((if b then closed opens name else read_at opens (closing more)).spot ≡ lost)
      ⊎ ((if b then closed (opens ++ names) name else read_at (opens ++ names) (closing more))
      ≡ over (if b then closed opens name else read_at opens (closing more)))
  closing_over true opens name more = closed_over opens name
  closing_over false opens name more = inr refl

  -- a step is out of its place, or the same within those elements
  step_over : (opens : List (List ℕ)) (spot : WriterPlace) (byte : ℕ)
      → ((step_at opens spot byte).spot ≡ lost) ⊎ (step_at (opens ++ names) spot byte ≡ over (step_at opens spot byte))
  step_over opens between byte =
      inr (pick (byte == 60) (λ o. read_at o (naming [])) (λ o. read_at o between) opens refl refl)
  step_over opens (naming name) byte = inr (named_over opens name byte)
  step_over opens (inside name) byte = inr (inside_over opens name byte)
  step_over opens (valued name) byte = inr (valued_over opens name byte)
  step_over opens ending byte =
      inr (pick (byte == 62) (λ o. read_at o between) (λ o. read_at o lost) opens refl refl)
  step_over opens (closing name) byte = closing_over (byte == 62) opens name (name ++ byte ∷ [])
  step_over opens lost byte = inl refl

  -- where the reader is lost it stays
  stays_lost_at : (opens : List (List ℕ)) (spot : WriterPlace) (text : List ℕ) → spot ≡ lost
      → (fold step (read_at opens spot) text).spot ≡ lost
  stays_lost_at opens spot [] is = is
  stays_lost_at opens spot (byte ∷ text) is =
      subst (λ (s : WriterPlace). (fold step (step_at opens s byte) text).spot ≡ lost) (sym is)
      (stays_lost_at opens lost text refl)

  stays_lost : (read : Read) (text : List ℕ) → read.spot ≡ lost → (fold step read text).spot ≡ lost
  stays_lost read text is = stays_lost_at read.open_names read.spot text is

  -- a text is out of its place, or reads the same within those elements
  text_over : (text : List ℕ) (read : Read)
      → ((fold step read text).spot ≡ lost) ⊎ (fold step (over read) text ≡ over (fold step read text))
  text_over [] read = inr refl
  text_over (byte ∷ text) read =
      elim (step_over read.open_names read.spot byte) [
        | inl out ↦ inl (stays_lost (step read byte) text out)
        | inr same ↦ subst (λ (r : Read). ((fold step read (byte ∷ text)).spot ≡ lost)
            ⊎ (fold step r text ≡ over (fold step read (byte ∷ text)))) (sym same) (text_over text (step read byte))
      ]

-- the reader is between tags, and not lost
not_lost : between ≡ lost → ⊥
not_lost e = cc

-- a text by itself, within elements of these names
within_them : (names : List (List ℕ)) (text : List ℕ) → IsWellFormed text
    → fold step (read_at names between) text ≡ read_at names between
within_them names text whole =
    elim (text_over names text (read_at [] between)) [
      | inl out ↦ absurd (not_lost (sym (ap (λ (r : Read). r.spot) whole) ∙ out))
      | inr same ↦ same ∙ ap (over names) whole
    ]

-- behind such a text
pub whole_kept : (text part : List ℕ) (names : List (List ℕ)) → reading text ≡ read_at names between
    → IsWellFormed part → reading (text ++ part) ≡ read_at names between
whole_kept text part names h whole =
    on_from text part (read_at names between) h ∙ within_them names part whole
