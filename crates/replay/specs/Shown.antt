-- The parts that live in a page, and what merges the pages one by one.
use Rattle.std.specs.Prelude.{◌≡◌, ℕ, ◌+◌, ◌<◌, ◌≤◌, ◌&&◌, nat_le, zero, suc, if◌then◌else◌, List, [], ◌∷◌, ◌++◌, All, Vec, drop, length, map, option_map, slice_get, unwrap_or}
use Rattle.std.specs.List.{flat_map}
use Rattle.std.specs.Global.{Global}
use Rattle.markup.specs.Part.{part_text}
use Rattle.markup.specs.declared.part.Part.{Part}
use Rattle.replay.specs.declared.lasting.Lasting.{Lasting}
use Rattle.replay.specs.declared.lasting.Layers.{Layers}

-- the texts of parts
abbrev pub texts : List Part → List (List ℕ)
texts parts = map part_text parts

-- the text of a part, if it lives in this page: from its first page up to its last
abbrev pub text_in : ℕ → Lasting → List (List ℕ)
text_in page lasting =
    if nat_le lasting.from page && nat_le page lasting.to then part_text lasting.part ∷ [] else []

-- the texts of the parts that live in this page, in order
abbrev pub shown : ℕ → List Lasting → List (List ℕ)
shown page parts = flat_map (text_in page) parts

-- the parts of a layer of a page, by its number
abbrev pub layer_of : List (Vec Part Global) → ℕ → List Part
layer_of layers layer = unwrap_or (option_map (λ (parts : Vec Part Global). parts.items) (slice_get layers layer)) []

-- the texts of the parts of a layer of a page, by the page's number
abbrev pub page_at : ℕ → List Layers → ℕ → List (List ℕ)
page_at layer [] number = []
page_at layer (page ∷ pages) zero = texts (layer_of page.layers.items layer)
page_at layer (page ∷ pages) (suc number) = page_at layer pages number

-- in each page live the parts of its layer, in order
abbrev pub ShowsEach : List Lasting → ℕ → List Layers → Type 0
ShowsEach parts layer pages =
    (number : ℕ) → number < length pages → shown number parts ≡ page_at layer pages number

-- a part lives in pages before this one alone
pub record LivesBefore (number : ℕ) (lasting : Lasting) : Type 0 where
  pub ordered : lasting.from ≤ lasting.to
  pub before : lasting.to < number

-- each part lives in pages before this one alone
abbrev pub IsBefore : ℕ → List Lasting → Type 0
IsBefore number parts = All (LivesBefore number) parts

-- parts that no earlier page has are added
pub record AddsNew (old new : List Lasting) (page : List (List ℕ)) (number : ℕ) : Type 0 where
  pub now : shown number new ≡ shown number old ++ page
  pub earlier : (n : ℕ) → n < number → shown n new ≡ shown n old
  pub bound : IsBefore (number + 1) old → IsBefore (number + 1) new

-- a part of earlier pages is added, with those of this page before it
pub record AddsOld (old new : List Lasting) (lasting : Lasting) (page : List (List ℕ)) (taken next number : ℕ) : Type 0 where
  pub now : shown number new ++ drop next page ≡ shown number old ++ drop taken page
  pub earlier : (n : ℕ) → n < number → shown n new ≡ shown n old ++ text_in n lasting
  pub bound : IsBefore (number + 1) old → IsBefore (number + 1) new

-- a page is added
pub record AddsPage (old new : List Lasting) (page : List (List ℕ)) (number : ℕ) : Type 0 where
  pub now : shown number new ≡ page
  pub earlier : (n : ℕ) → n < number → shown n new ≡ shown n old
  pub bound : IsBefore (number + 1) new

-- a part that lives in the page before stands at this place of a page, from another on
pub record IsPlace (lasting : Lasting) (page : List (List ℕ)) (taken place number : ℕ) : Type 0 where
  pub last : lasting.to + 1 ≡ number
  pub from : taken ≤ place
  pub within : place < length page
  pub is : drop place page ≡ part_text lasting.part ∷ drop (place + 1) page
