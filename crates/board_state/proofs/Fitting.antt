-- What lies fits where each tile may lie and no stop has more tokens than slots.
use Rattle.std.proofs.Common.{◌≡◌, ◌∙◌, ap, sym, subst, refl, ℕ, ◌+◌, ◌≤◌, inl, inr, ◌||◌, Bool, true, false, cond}
use Rattle.std.proofs.Common.{List, [], ◌∷◌, ◌++◌, Option, Some, None, codes, arith}
use Rattle.std.proofs.lemmas.Bool.{le-ltb, ltb-false, or_parts}
use Rattle.std.proofs.lemmas.List.Sums.{sum_by-cons}
use Rattle.std.specs.List.{count_by, list_any}
use Rattle.board_state.specs.Fit.{FaultlessAreFit, board_fault_of, board_rules}
use Rattle.map_tables.specs.Fit.{AreFit, has_bad_side, has_no_slot, is_over_full}
use Rattle.board_state.specs.MapState.{MapState}
use Rattle.map_tables.specs.OnMap.{is_part_of, is_stop, names, slots_at, slots_on, taken_at}
use Rattle.board_state.specs.declared.fault.BoardFault.{BoardFault}
use Rattle.board_state.specs.declared.fault.BoardFault.TheVariants as fault
use Rattle.map_tables.specs.Place.{joined_stop_of, stop_of_place}
use Rattle.map_tables.specs.declared.lay.Lay.{Lay}
use Rattle.map_tables.specs.declared.place.Place.{Place}
use Rattle.map_tables.specs.declared.place.Stop.{Stop}
use Rattle.reach.specs.Position.{IsAmong}
use Rattle.tables.proofs.Rules.{not_broken}
use Rattle.tables.specs.declared.roster.Company.{Company}
use Rattle.reach.proofs.Listed.{stop_is}

-- where no element passes a test, none does
pub none_of : {X : Type 0} (p : X → Bool) (xs : List X) → list_any p xs ≡ false → (x : X) → IsAmong x xs → p x ≡ false
none_of p [] none x among = absurd among
none_of p (y ∷ ys) none x (inl is) = sym (ap p is) ∙ (or_parts (p y) (list_any p ys) none).0
none_of p (y ∷ ys) none x (inr more) = none_of p ys (or_parts (p y) (list_any p ys) none).1 x more

pub none_if : {X : Type 0} (p : X → Bool) (xs : List X) → ((x : X) → IsAmong x xs → p x ≡ false) → list_any p xs ≡ false
none_if p [] all = refl
none_if p (y ∷ ys) all = ap (λ b. b || list_any p ys) (all y (inl refl)) ∙ none_if p ys (λ x more. all x (inr more))

-- one more that does not
pub none_push : {X : Type 0} (p : X → Bool) (xs : List X) (x : X) → list_any p xs ≡ false → p x ≡ false
    → list_any p (xs ++ x ∷ []) ≡ false
none_push p [] x none not = ap (λ b. b || false) not
none_push p (y ∷ ys) x none not =
    let parts = or_parts (p y) (list_any p ys) none in
    ap (λ b. b || list_any p (ys ++ x ∷ [])) parts.0 ∙ none_push p ys x parts.1 not

-- where one does, there is one
some_of : {X : Type 0} (p : X → Bool) (xs : List X) → list_any p xs ≡ true → (x : X) × IsAmong x xs × (p x ≡ true)
some_of p [] some = cc
some_of p (y ∷ ys) some =
    (elim (p y) as (λ b. p y ≡ b → (b || list_any p ys) ≡ true → (x : _) × IsAmong x (y ∷ ys) × (p x ≡ true)) [
      | true ↦ λ is found. (y, inl refl, is)
      | false ↦ λ is found. let later = some_of p ys found in (later.0, inr later.1, later.2)
    ]) refl some

-- none counts for nothing
count_none : {X : Type 0} (p : X → Bool) (xs : List X) → list_any p xs ≡ false → count_by p xs ≡ 0
count_none p [] none = refl
count_none p (y ∷ ys) none =
    let parts = or_parts (p y) (list_any p ys) none in
    let first : cond (p y) 1 0 ≡ 0 = ap (λ b. cond b 1 0) parts.0 in
    sum_by-cons (λ x. cond (p x) 1 0) y ys ∙ ap (λ n. n + count_by p ys) first
    ∙ ap (λ n. 0 + n) (count_none p ys parts.1)

-- the code of a rule of boards
abbrev code_of : BoardFault → List ℕ
code_of fault.Kind = codes "B1"
code_of fault.BadSide = codes "B2"
code_of fault.NoSlot = codes "B3"
code_of fault.Memory = []

-- no rule of boards is broken exactly if the tiles and tokens are fit
pub are_fit : (lays : List Lay) (tokens : List (Place × Company)) → board_fault_of lays tokens ≡ None
    → AreFit lays tokens
unfolding board_fault_of
are_fit lays tokens none =
    let kept = not_broken code_of (board_rules lays tokens) none in
    record { kinds = kept fault.Kind; sides = kept fault.BadSide; slots = kept fault.NoSlot }

pub no_fault : (lays : List Lay) (tokens : List (Place × Company)) → AreFit lays tokens
    → board_fault_of lays tokens ≡ None
unfolding board_fault_of
no_fault lays tokens fit =
    ap (λ b. cond b (Some fault.Kind) (cond (list_any has_bad_side lays) (Some fault.BadSide)
    (cond (list_any (has_no_slot lays tokens) tokens) (Some fault.NoSlot) None))) fit.kinds
    ∙ ap (λ b. cond b (Some fault.BadSide) (cond (list_any (has_no_slot lays tokens) tokens) (Some fault.NoSlot)
    None)) fit.sides
    ∙ ap (λ b. cond b (Some fault.NoSlot) None) fit.slots

pub faultless_are_fit : FaultlessAreFit
faultless_are_fit lays tokens = (are_fit lays tokens, no_fault lays tokens)

-- a token that has a slot names a stop
names_stop : (laid : MapState) (named : Option Stop) → is_over_full laid.lays laid.tokens named ≡ false
    → (stop : Stop) × (named ≡ Some stop)
names_stop laid None has = cc
names_stop laid (Some stop) has = (stop, refl)

pub named : (laid : MapState) → AreFit laid.lays laid.tokens → (token : Place × Company) → IsAmong token laid.tokens
    → (stop : Stop) × (stop_of_place token.0 ≡ Some stop)
named laid fit token among = names_stop laid (stop_of_place token.0)
    (none_of (has_no_slot laid.lays laid.tokens) laid.tokens fit.slots token among)

-- the stop that a token names has slots for all
room_where : (laid : MapState) (named : Option Stop) (stop : Stop) → is_part_of (joined_stop_of stop) named ≡ true
    → is_over_full laid.lays laid.tokens named ≡ false → taken_at laid.tokens stop ≤ slots_at laid.lays stop
room_where laid None stop part has = cc
room_where laid (Some other) stop part has =
    let is = stop_is (joined_stop_of other) (joined_stop_of stop) part in
    subst (λ (joined : Stop). count_by (λ (token : Place × Company). names joined token.0) laid.tokens
    ≤ cond (is_stop joined) (slots_on laid.lays joined.hex) 0) is
    (ltb-false (slots_at laid.lays other) (taken_at laid.tokens other) has)

-- so each stop has
pub room : (laid : MapState) → AreFit laid.lays laid.tokens → (stop : Stop)
    → taken_at laid.tokens stop ≤ slots_at laid.lays stop
room laid fit stop =
    let here = λ (token : Place × Company). names (joined_stop_of stop) token.0 in
    (elim (list_any here laid.tokens) as (λ b. list_any here laid.tokens ≡ b
    → taken_at laid.tokens stop ≤ slots_at laid.lays stop) [
      | true ↦ λ some. let (token, among, names_it) = some_of here laid.tokens some in
          room_where laid (stop_of_place token.0) stop names_it
          (none_of (has_no_slot laid.lays laid.tokens) laid.tokens fit.slots token among)
      | false ↦ λ none. let zero_taken = count_none here laid.tokens none in omega arith
    ]) refl

-- and where each stop has, each token that names one has a slot
pub slots_for_all : (laid : MapState) → ((token : Place × Company) → IsAmong token laid.tokens
    → (stop : Stop) × (stop_of_place token.0 ≡ Some stop))
    → ((stop : Stop) → taken_at laid.tokens stop ≤ slots_at laid.lays stop)
    → list_any (has_no_slot laid.lays laid.tokens) laid.tokens ≡ false
slots_for_all laid each enough =
    none_if (has_no_slot laid.lays laid.tokens) laid.tokens (λ token among. let (stop, is) = each token among in
    ap (is_over_full laid.lays laid.tokens) is ∙ le-ltb (slots_at laid.lays stop) (taken_at laid.tokens stop)
    (enough stop))
