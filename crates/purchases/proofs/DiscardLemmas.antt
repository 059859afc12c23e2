-- Lines of kinds, place by place: which is the first of a kind, and of which a company has a train.
use Rattle.std.proofs.Common.{◌≡◌, ℕ, ◌+◌, ◌<◌, ◌≤◌, Bool, true, false, if◌then◌else◌, List, [], ◌∷◌, ◌++◌, length}
use Rattle.std.proofs.Common.{get_or, take, drop, Option, Some, sym, ap, ◌∙◌, add-one}
use Rattle.std.proofs.lemmas.List.{append-nil, append_assoc, at_drop_all, at_drop_more, take_all, take_more}
use Rattle.std.specs.List.{remove}
use Rattle.events.specs.declared.event.Event.{Event}
use Rattle.purchases.specs.Discard.{first_held, has_train, without_first}
use Rattle.tables.specs.Train.{same_kind}
use Rattle.tables.specs.declared.rolling_stock.Kind.{Kind}
use Rattle.tables.specs.declared.roster.Company.{Company}

-- the first of a kind from a place on, by whether the one there is of the kind
from_here : (kind line : Kind) (lines : List Kind) (i : ℕ) (same : Bool) → i < length lines
    → line ≡ get_or lines i line → same_kind line kind ≡ same
    → without_first kind (drop i lines) ≡ (if same then drop (i + 1) lines else line
    ∷ without_first kind (drop (i + 1) lines))
from_here kind line lines i same below read is =
    let rest : List Kind = drop (i + 1) lines in
    at_drop_more (without_first kind) lines i line below
    ∙ ap (λ (here : Kind). if same_kind here kind then rest else here ∷ without_first kind rest) (sym read)
    ∙ ap (λ (b : Bool). if b then rest else line ∷ without_first kind rest) is

-- the first of the kind is here
pub first_goes : (kind line : Kind) (lines : List Kind) (i : ℕ) → i < length lines → line ≡ get_or lines i line
    → same_kind line kind ≡ true → without_first kind lines ≡ take i lines ++ without_first kind (drop i lines)
    → remove lines i ≡ without_first kind lines
first_goes kind line lines i below read same kept =
    ap (λ (k : ℕ). take i lines ++ drop k lines) (sym (add-one i))
    ∙ sym (kept ∙ ap (λ (rest : List Kind). take i lines ++ rest) (from_here kind line lines i true below read same))

-- it comes later
pub first_later : (kind line : Kind) (lines : List Kind) (i : ℕ) → i < length lines → line ≡ get_or lines i line
    → same_kind line kind ≡ false → without_first kind lines ≡ take i lines ++ without_first kind (drop i lines)
    → without_first kind lines ≡ take (i + 1) lines ++ without_first kind (drop (i + 1) lines)
first_later kind line lines i below read same kept =
    let rest : List Kind = without_first kind (drop (i + 1) lines) in
    kept
    ∙ ap (λ (others : List Kind). take i lines ++ others) (from_here kind line lines i false below read same)
    ∙ sym (append_assoc (take i lines) (line ∷ []) rest)
    ∙ ap (λ (here : Kind). take i lines ++ here ∷ [] ++ rest) read
    ∙ ap (λ (first : List Kind). first ++ rest) (sym (take_more lines i line below))

-- there is none of the kind
pub none_goes : (kind : Kind) (lines : List Kind) (i : ℕ) → length lines ≤ i
    → without_first kind lines ≡ take i lines ++ without_first kind (drop i lines) → lines ≡ without_first kind lines
none_goes kind lines i over kept =
    sym (kept
    ∙ ap (λ (rest : List Kind). take i lines ++ rest) (at_drop_all (without_first kind) lines i over)
    ∙ append-nil (take i lines)
    ∙ take_all i lines over)

-- of one of which there is no train the next are the first
pub held_later : (events : List Event) (company : Company) (lines : List Kind) (i : ℕ) (d : Kind) → i < length lines
    → has_train events company (get_or lines i d) ≡ false
    → first_held events company (drop i lines) ≡ first_held events company (drop (i + 1) lines)
held_later events company lines i d below none =
    let later : Option Kind = first_held events company (drop (i + 1) lines) in
    at_drop_more (first_held events company) lines i d below
    ∙ ap (λ (b : Bool). if b then Some (get_or lines i d) else later) none
