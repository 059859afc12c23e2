-- What is said of a sheet, one line after another.
use Rattle.std.proofs.Common.{◌≡◌, ℕ, ◌+◌, ◌<◌, ◌≤◌, Bool, true, false, List, [], ◌∷◌, ◌++◌, Option, cond, refl, sym, ap}
use Rattle.std.proofs.Common.{◌∙◌, append_assoc, arith, subst, length, take, get_or}
use Rattle.std.proofs.lemmas.Bool.{ltb-false, or_parts}
use Rattle.std.proofs.lemmas.List.{append-nil, flat_map_more, take_more}
use Rattle.std.specs.List.{flat_map}
use Rattle.std.specs.Prelude.{nat_lt}
use Rattle.desk_check.specs.SheetSaid.{Adds, Shown, next_read, nothing_read, read_behind, read_by, read_then, said_of_line}
use Rattle.desk_check.specs.SheetSaid.{shown, shown_from, shown_in, silent_in}
use Rattle.desk_check.specs.Unplayed.{look_of}
use Rattle.desk_check.specs.declared.check_reading.Look.{Look}
use Rattle.desk_check.specs.declared.check_reading.Look.TheVariants.{Head, Good, Bad}
use Rattle.desk_check.specs.declared.check_reading.Read.{Read}
use Rattle.desk_trials.specs.SheetFaults.{ends_sheet}
use Rattle.desk_trials.specs.declared.check_found.Found.{Found}
use Rattle.desk_trials.specs.declared.check_found.Said.{Said}
use Rattle.sheets.specs.declared.sheet_key.SheetKey.{SheetKey}
use Rattle.events.specs.declared.event.Event.{Event}
use Rattle.order_grammar.specs.declared.condition.Version.{Version}
use Rattle.desk_trials.specs.SheetLike.{closes}
use Rattle.sheets.specs.Limits.{lines_most}
use Rattle.sheets.specs.Part.{Numbered}
use Rattle.sheets.specs.Text.{is_blank}

-- nothing is added
pub adds_none : (found : Found) → Adds found found []
adds_none found = record {
  from = refl;
  unlisted = omega arith;
  added = λ none. sym (append-nil (shown found.findings.items));
}

-- some, and then others
pub adds_more : (old mid new : Found) (some more : List Shown) → Adds old mid some → Adds mid new more
    → Adds old new (some ++ more)
adds_more old mid new some more first then_ = record {
  from = then_.from ∙ first.from;
  unlisted = omega (arith, first.unlisted, then_.unlisted);
  added = λ none.
      let none_yet : mid.unlisted ≡ 0 = omega (arith, then_.unlisted, none) in
      then_.added none ∙ ap (λ told. told ++ more) (first.added none_yet)
      ∙ append_assoc (shown old.findings.items) some more;
}

-- what one more of some things adds
pub adds_step : {X : Type 0} (f : X → List Shown) (xs : List X) (n : ℕ) (d : X) (old mid new : Found) → n < length xs
    → Adds old mid (flat_map f (take n xs)) → Adds mid new (f (get_or xs n d))
    → Adds old new (flat_map f (take (n + 1) xs))
adds_step f xs n d old mid new below so_far more =
    let step : flat_map f (take n xs) ++ f (get_or xs n d) ≡ flat_map f (take (n + 1) xs) =
    rw (take_more xs n d below) (flat_map_more f [] (take n xs) (get_or xs n d)) in
    subst (Adds old new) step (adds_more old mid new _ _ so_far more)

-- where a sheet ends nothing is shown, and it is read so far
pub shown_ended : (version : Version) (game : Option (List Event)) (sent : SheetKey) (from : ℕ) (read : Read) (passed : ℕ)
    (text : List ℕ) (lines texts : List (List ℕ)) → lines ≡ text ∷ texts → ends_sheet read.number text ≡ true
    → shown_in version game sent from read passed lines ≡ []
unfolding shown_in
shown_ended version game sent from read passed text lines texts next ended = rw (next, ended) refl

pub behind_ended : (version : Version) (sent : SheetKey) (read : Read) (passed : ℕ) (text : List ℕ)
    (lines texts : List (List ℕ)) → lines ≡ text ∷ texts → ends_sheet read.number text ≡ true
    → read_behind version sent read passed lines ≡ read
unfolding read_behind
behind_ended version sent read passed text lines texts next ended = rw (next, ended) refl

-- where no line is left either
pub shown_left : (version : Version) (game : Option (List Event)) (sent : SheetKey) (from : ℕ) (read : Read) (passed : ℕ)
    (lines : List (List ℕ)) → lines ≡ [] → shown_in version game sent from read passed lines ≡ []
unfolding shown_in
shown_left version game sent from read passed lines none = rw none refl

pub behind_left : (version : Version) (sent : SheetKey) (read : Read) (passed : ℕ) (lines : List (List ℕ)) → lines ≡ []
    → read_behind version sent read passed lines ≡ read
unfolding read_behind
behind_left version sent read passed lines none = rw none refl

-- one more line
shown_next : (version : Version) (game : Option (List Event)) (sent : SheetKey) (from : ℕ) (read : Read) (passed : ℕ)
    (text : List ℕ) (lines texts : List (List ℕ)) → lines ≡ text ∷ texts → ends_sheet read.number text ≡ false
    → shown_in version game sent from read passed lines
    ≡ shown_from from sent (passed + 1) (said_of_line version game sent read text)
    ++ shown_in version game sent from (read_then version sent read (passed + 1) text) (passed + 1) texts
unfolding shown_in
shown_next version game sent from read passed text lines texts next goes_on = rw (next, goes_on) refl

behind_next : (version : Version) (sent : SheetKey) (read : Read) (passed : ℕ) (text : List ℕ)
    (lines texts : List (List ℕ)) → lines ≡ text ∷ texts → ends_sheet read.number text ≡ false
    → read_behind version sent read passed lines
    ≡ read_behind version sent (read_then version sent read (passed + 1) text) (passed + 1) texts
unfolding read_behind
behind_next version sent read passed text lines texts next goes_on = rw (next, goes_on) refl

-- a line that does not end a sheet is read
pub is_read : (number : ℕ) (text : List ℕ) → ends_sheet number text ≡ false → number ≤ lines_most
is_read number text goes_on =
    ltb-false lines_most number (or_parts (closes text) (nat_lt lines_most number) goes_on).1

-- and numbered, or blank
number_by : (sent : SheetKey) (read : Read) (line : ℕ) (its : Numbered) (seen : Look)
    → (read_by sent read line its seen).number ≡ read.number + 1
number_by sent read line its Head = refl
number_by sent read line its Good = refl
number_by sent read line its (Bad fault) = refl

pub number_within : (version : Version) (sent : SheetKey) (read : Read) (line : ℕ) (text : List ℕ) → read.number ≤ lines_most
    → (read_then version sent read line text).number ≤ 513
number_within version sent read line text within =
    let its : Numbered = next_read version read text in
    let seen : Look = look_of sent.round read.is_open its.reading in
    elim (is_blank text) as (λ (test : Bool). (cond test read (read_by sent read line its seen)).number ≤ 513) [
      | true ↦ omega (arith, within)
      | false ↦ rw (number_by sent read line its seen) (omega (arith, within))
    ]

-- a sheet begins with nothing read
pub shown_first : (old new : Found) (version : Version) (game : Option (List Event)) (sent : SheetKey) (from : ℕ)
    (read : Read) (passed line : ℕ) (lines texts : List (List ℕ)) → read ≡ nothing_read → passed ≡ line → lines ≡ texts
    → Adds old new (shown_in version game sent from read passed lines)
    → Adds old new (shown_in version game sent from nothing_read line texts)
shown_first old new version game sent from read passed line lines texts none is_line is_texts adds =
    subst (λ (it : Read). Adds old new (shown_in version game sent from it line texts)) none
    (subst (λ (it : ℕ). Adds old new (shown_in version game sent from read it texts)) is_line
    (subst (λ (it : List (List ℕ)). Adds old new (shown_in version game sent from read passed it)) is_texts adds))

pub behind_first : (version : Version) (sent : SheetKey) (read : Read) (passed line : ℕ) (lines texts : List (List ℕ))
    → read ≡ nothing_read → passed ≡ line → lines ≡ texts
    → read_behind version sent read passed lines ≡ read_behind version sent nothing_read line texts
behind_first version sent read passed line lines texts none is_line is_texts =
    ap (λ (it : List (List ℕ)). read_behind version sent read passed it) is_texts
    ∙ ap (λ (it : ℕ). read_behind version sent read it texts) is_line
    ∙ ap (λ (it : Read). read_behind version sent it line texts) none

-- where what is shown of the lines that are left would complete what is shown, and one line more is read, what is shown of
-- the lines behind it does
pub shown_further : (first old mid : Found) (whole : List Shown) (version : Version) (game : Option (List Event))
    (sent : SheetKey) (from : ℕ) (read : Read) (passed : ℕ) (text : List ℕ) (lines texts : List (List ℕ)) (line : ℕ)
    (next : Read) (next_passed : ℕ) (said : Option Said) →
    ((new : Found) → Adds old new (shown_in version game sent from read passed lines) → Adds first new whole)
    → lines ≡ text ∷ texts → ends_sheet read.number text ≡ false → old.from ≡ from → line ≡ passed + 1
    → next_passed ≡ line → next ≡ read_then version sent read line text
    → said ≡ said_of_line version game sent read text → Adds old mid (shown_from old.from sent line said)
    → (new : Found) → Adds mid new (shown_in version game sent from next next_passed texts) → Adds first new whole
shown_further first old mid whole version game sent from read passed text lines texts line next next_passed said rest
    comes goes_on same_from is_line is_passed is_next is_said one new told =
    let step : shown_in version game sent from read passed lines
    ≡ shown_from old.from sent line said ++ shown_in version game sent from next next_passed texts =
    rw (same_from, is_said, is_next, is_passed, is_line)
    (shown_next version game sent from read passed text lines texts comes goes_on) in
    rest new (subst (Adds old new) (sym step) (adds_more old mid new _ _ one told))

-- and so it is with how far the sheet is read
pub behind_further : (whole : Read) (version : Version) (sent : SheetKey) (read : Read) (passed : ℕ) (text : List ℕ)
    (lines texts : List (List ℕ)) (line : ℕ) (next : Read) (next_passed : ℕ)
    → read_behind version sent read passed lines ≡ whole → lines ≡ text ∷ texts → ends_sheet read.number text ≡ false
    → line ≡ passed + 1 → next_passed ≡ line → next ≡ read_then version sent read line text
    → read_behind version sent next next_passed texts ≡ whole
behind_further whole version sent read passed text lines texts line next next_passed rest comes goes_on is_line
    is_passed is_next =
    let step : read_behind version sent read passed lines ≡ read_behind version sent next next_passed texts =
    rw (is_next, is_passed, is_line) (behind_next version sent read passed text lines texts comes goes_on) in
    sym step ∙ rest

-- a whole sheet: its lines, and the companies that it leaves without orders
pub adds_sheet : (version : Version) (game : Option (List Event)) (sent : SheetKey) (from line : ℕ)
    (texts : List (List ℕ)) (old mid new : Found) (read : Read)
    → Adds old mid (shown_in version game sent from nothing_read line texts)
    → read ≡ read_behind version sent nothing_read line texts → Adds mid new (silent_in game sent line read.begun)
    → Adds old new (shown_in version game sent from nothing_read line texts
    ++ silent_in game sent line (read_behind version sent nothing_read line texts).begun)
adds_sheet version game sent from line texts old mid new read lines is silent =
    adds_more old mid new _ _ lines
    (subst (λ (it : Read). Adds mid new (silent_in game sent line it.begun)) is silent)
