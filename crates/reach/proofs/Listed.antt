-- Marking the stops with a token that a list of tokens names.
use Rattle.std.proofs.Common.{◌≡◌, ℕ, ◌+◌, ◌*◌, Bool, true, false, ◌&&◌, ◌||◌, cond, Option, Some, None, ◌⊎◌, inl, inr}
use Rattle.std.proofs.Common.{List, [], ◌∷◌, get_or, set, replicate, refl, ap, sym, ◌∙◌, subst, arith, get_or-set_same}
use Rattle.std.proofs.lemmas.Bool.{and_parts, eqb-true}
use Rattle.std.specs.Prelude.{◌==◌}
use Rattle.std.proofs.Math.Bool.{and-false}
use Rattle.map_tables.proofs.HexTables.{same_hex-true}
use Rattle.map_tables.specs.Hex.{index_of, same_hex}
use Rattle.map_tables.specs.OnMap.{has_token, is_part_of, names, same_stop}
use Rattle.map_tables.specs.Place.{joined_stop_of, stop_at, stop_index_of, stop_of_place}
use Rattle.map_tables.specs.declared.hex.Hex.{Hex}
use Rattle.map_tables.specs.declared.place.Place.{Place}
use Rattle.map_tables.specs.declared.place.Stop.{Stop}
use Rattle.map_tables.specs.declared.place.StopNumber.{StopNumber}
use Rattle.reach.specs.Position.{HasToken, Position}
use Rattle.reach.specs.Search.{AllArrive, AllWait, HasAllTokens, IsMarked, IsMarking, Waits, spot_number}
use Rattle.reach.specs.Reached.{stop_order}
use Rattle.reach.specs.Tokens.{AreNamed, IsListed, stop_of_token}
use Rattle.reach.specs.declared.walk.Spot.{Spot}
use Rattle.reach.proofs.Collected.{all_tokens, none_marked, spot_of, token_arrives}
use Rattle.reach.proofs.Hexes.{joined_twice, same_stop_index}
use Rattle.reach.proofs.Marking.{marks_set, set_keeps, wait_on}
use Rattle.tables.specs.Roster.{same_company}
use Rattle.tables.specs.declared.roster.Company.{Company}

-- each stop with a token is marked, or one of these tokens names it
abbrev AreMarkedOrNamed : Position → Company → List Bool → List (Place × Company) → Type 0
AreMarkedOrNamed position company marks tokens =
    (stop : Stop) → HasToken position (joined_stop_of stop) company
    → IsMarked marks (spot_of stop) ⊎ (has_token tokens (joined_stop_of stop) company ≡ true)

-- What is so while these tokens are left. Walks arrive at all that is marked, each stop with a token
-- is marked or named by one of them, and all that is marked waits.
pub record TokensListed (position : Position) (company : Company) (marks : List Bool) (waiting : List Spot)
    (tokens : List (Place × Company)) : Type 0 where
  pub arrive : AllArrive position company marks
  pub tokens_left : AreMarkedOrNamed position company marks tokens
  pub wait : AllWait marks waiting

-- nothing is marked at first
pub unmarked : (marks : List Bool) → marks ≡ replicate 744 false → (n : ℕ) → get_or marks n false ≡ true → ⊥
unmarked marks is n found =
    let not_found : get_or marks n false ≡ false = ap (λ ms. get_or ms n false) is ∙ none_marked 744 n in cc

-- before the first token
pub listed_first : (position : Position) (company : Company) (tokens : List (Place × Company)) (marks : List Bool)
    (waiting : List Spot) → AreNamed position company tokens → marks ≡ replicate 744 false → waiting ≡ []
    → TokensListed position company marks waiting tokens
listed_first position company tokens marks waiting named none empty =
    record {
      arrive = λ spot is. absurd (unmarked marks none (spot_number spot) is);
      tokens_left = λ stop has. inr (subst (λ (s : Stop). has_token tokens s company ≡ true) (joined_twice stop)
          (named (joined_stop_of stop) has));
      wait = record {
        all = λ spot is. absurd (unmarked marks none (spot_number spot) is);
        known = λ spot waits. absurd (subst (λ w. Waits w spot) empty waits);
      };
    }

-- stops that pass for one are one
pub stop_is : (a b : Stop) → same_stop a b ≡ true → a ≡ b
stop_is a b same =
    let parts = and_parts (same_hex a.hex b.hex) (stop_index_of a.number == stop_index_of b.number) same in
    ap (λ (hex : Hex). stop_at hex a.number) (same_hex-true a.hex b.hex parts.0)
    ∙ ap (λ (number : StopNumber). stop_at b.hex number)
    (same_stop_index a.number b.number (eqb-true (stop_index_of a.number) (stop_index_of b.number) parts.1))

-- stops with one name have one mark
mark_of : (marks : List Bool) (part stop : Stop) → joined_stop_of part ≡ joined_stop_of stop
    → IsMarked marks (spot_of part) → IsMarked marks (spot_of stop)
mark_of marks part stop one is =
    subst (λ (joined : Stop). get_or marks (8 * index_of joined.hex + (6 + stop_index_of joined.number)) false ≡ true)
    one is

module _ (token : Place × Company) (tokens : List (Place × Company)) (stop : Stop) (company : Company) where
  -- a token that names no stop for the company
  names_none : stop_of_token company token ≡ None → (names stop token.0 && same_company token.1 company) ≡ false
  names_none none =
      (elim (same_company token.1 company) as (λ same. cond same (stop_of_place token.0) None ≡ None
      → (names stop token.0 && same) ≡ false) [
        | true ↦ λ is. ap (λ part. is_part_of stop part && true) is
        | false ↦ λ is. and-false (names stop token.0)
      ]) none

  -- is passed over
  passed_over : stop_of_token company token ≡ None → has_token (token ∷ tokens) stop company ≡ true
      → has_token tokens stop company ≡ true
  passed_over none has = sym (ap (λ b. b || has_token tokens stop company) (names_none none)) ∙ has

  -- a token that names this one
  named_is : (part : Stop) → stop_of_token company token ≡ Some part
      → (names stop token.0 && same_company token.1 company) ≡ true → joined_stop_of part ≡ stop
  named_is part some is =
      let parts = and_parts (names stop token.0) (same_company token.1 company) is in
      let named : stop_of_place token.0 ≡ Some part = sym (ap (λ b. cond b (stop_of_place token.0) None) parts.1) ∙ some in
      stop_is (joined_stop_of part) stop (sym (ap (is_part_of stop) named) ∙ parts.0)

  -- a token names the stop, or one of the others does
  named_or_later : (part : Stop) → stop_of_token company token ≡ Some part
      → has_token (token ∷ tokens) stop company ≡ true
      → (joined_stop_of part ≡ stop) ⊎ (has_token tokens stop company ≡ true)
  named_or_later part some has =
      (elim (names stop token.0 && same_company token.1 company) as
      (λ b. (names stop token.0 && same_company token.1 company) ≡ b → (b || has_token tokens stop company) ≡ true
      → (joined_stop_of part ≡ stop) ⊎ (has_token tokens stop company ≡ true)) [
        | true ↦ λ here found. inl (named_is part some here)
        | false ↦ λ there found. inr found
      ]) refl has

module _ (position : Position) (company : Company) (old : List Bool) (waited : List Spot) (token : Place × Company)
    (tokens : List (Place × Company)) (listed : TokensListed position company old waited (token ∷ tokens)) where
  -- a token that names no stop for the company
  listed_past : stop_of_token company token ≡ None → TokensListed position company old waited tokens
  listed_past none =
      record {
        arrive = listed.arrive;
        tokens_left = λ stop has. elim (listed.tokens_left stop has) [
          | inl marked ↦ inl marked
          | inr named ↦ inr (passed_over token tokens (joined_stop_of stop) company none named)
        ];
        wait = listed.wait;
      }

  -- a token of the company at a stop
  listed_marked : (part : Stop) → stop_of_token company token ≡ Some part
      → HasToken position (joined_stop_of part) company → (new : List Bool) (waiting : List Spot)
      → IsMarking (spot_of part) old waited new waiting → TokensListed position company new waiting tokens
  listed_marked part some has new waiting marking =
      let new_is : new ≡ set old (spot_number (spot_of part)) true =
      marks_set (spot_of part) old waited new waiting marking in
      record {
        arrive = token_arrives position company old part (stop_order part) refl has listed.arrive new new_is;
        tokens_left = λ stop there. elim (listed.tokens_left stop there) [
          | inl marked ↦ inl (subst (λ ms. IsMarked ms (spot_of stop)) (sym new_is)
              (set_keeps old (spot_number (spot_of part)) (spot_number (spot_of stop)) marking.low marked))
          | inr named ↦ elim (named_or_later token tokens (joined_stop_of stop) company part some named) [
            | inl here ↦ inl (mark_of new part stop here (subst (λ ms. IsMarked ms (spot_of part)) (sym new_is)
                (get_or-set_same old (spot_number (spot_of part)) true false marking.low)))
            | inr later ↦ inr later
          ]
        ];
        wait = wait_on (spot_of part) old waited new waiting listed.wait marking;
      }

  -- a stop without a token of the company
  listed_unmarked : (part : Stop) → stop_of_token company token ≡ Some part
      → ¬ HasToken position (joined_stop_of part) company → TokensListed position company old waited tokens
  listed_unmarked part some none =
      record {
        arrive = listed.arrive;
        tokens_left = λ stop there. elim (listed.tokens_left stop there) [
          | inl marked ↦ inl marked
          | inr named ↦ elim (named_or_later token tokens (joined_stop_of stop) company part some named) [
            | inl here ↦ absurd (none (subst (λ (s : Stop). HasToken position s company) (sym here) there))
            | inr later ↦ inr later
          ]
        ];
        wait = listed.wait;
      }

  -- a token is looked at
  pub listed_next : (part : Option Stop) → stop_of_token company token ≡ part → (new : List Bool)
      (waiting : List Spot) → IsListed position company part old waited new waiting
      → TokensListed position company new waiting tokens
  listed_next None none new waiting same =
      subst (λ m. TokensListed position company m waiting tokens) (sym same.0)
      (subst (λ w. TokensListed position company old w tokens) (sym same.1) (listed_past none))
  listed_next (Some part) some new waiting (inl has) = listed_marked part some has.0 new waiting has.1
  listed_next (Some part) some new waiting (inr none) =
      subst (λ m. TokensListed position company m waiting tokens) (sym none.1)
      (subst (λ w. TokensListed position company old w tokens) (sym none.2) (listed_unmarked part some none.0))

-- once no token is left, all are marked
pub listed_all : (position : Position) (company : Company) (marks : List Bool) (waiting : List Spot)
    (tokens : List (Place × Company)) → tokens ≡ [] → TokensListed position company marks waiting tokens
    → HasAllTokens position company marks
listed_all position company marks waiting tokens none listed =
    all_tokens position company marks 186 (omega arith) (λ stop low has. elim (listed.tokens_left stop has) [
      | inl marked ↦ marked
      | inr named ↦ absurd (let wrong : false ≡ true =
          subst (λ (ts : List (Place × Company)). has_token ts (joined_stop_of stop) company ≡ true) none named in
          let no : ⊥ = cc in no)
    ])
