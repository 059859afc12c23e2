-- What the rule of style of a page leaves of a list of parts, by the classes that they are written with.
use Rattle.std.specs.Prelude.{◌≡◌, ℕ, ◌-◌, ◌<◌, ◌&&◌, Bool, true, nat_le, nat_lt, if◌then◌else◌, List, [], ◌∷◌, Option, None, Some, length}
use Rattle.std.specs.List.{flat_map}
use Rattle.markup.specs.Part.{part_text}
use Rattle.replay.specs.Shown.{page_at}
use Rattle.replay.specs.declared.lasting.Lasting.{Lasting}
use Rattle.replay.specs.declared.lasting.Layers.{Layers}

-- the number of a part's class `f`: that of the page that has it first. It has none if that is the first page
abbrev pub first_class : ℕ → Option ℕ
first_class from = if nat_lt 0 from then Some from else None

-- the number of a part's class `t`: that of the page that has it last. It has none if that is the last page
abbrev pub last_class : ℕ → ℕ → Option ℕ
last_class to last = if nat_lt to last then Some to else None

-- the rule of a page hides a part whose class `f` names a later page
abbrev pub is_begun : Option ℕ → ℕ → Bool
is_begun None page = true
is_begun (Some first) page = nat_le first page

-- and one whose class `t` names an earlier page
abbrev pub is_lasting : Option ℕ → ℕ → Bool
is_lasting None page = true
is_lasting (Some last) page = nat_le page last

-- the text of a part if the rule of a page leaves it, given the number of the last page
abbrev pub left_in : ℕ → ℕ → Lasting → List (List ℕ)
left_in page last lasting =
    if is_begun (first_class lasting.from) page && is_lasting (last_class lasting.to last) page
    then part_text lasting.part ∷ [] else []

-- the texts of the parts that the rule of a page leaves, in order
abbrev pub left : ℕ → ℕ → List Lasting → List (List ℕ)
left page last parts = flat_map (left_in page last) parts

-- the rule of each page leaves the parts of its layer, in order
abbrev pub LeavesEach : List Lasting → ℕ → List Layers → Type 0
LeavesEach parts layer pages =
    (number : ℕ) → number < length pages → left number (length pages - 1) parts ≡ page_at layer pages number
