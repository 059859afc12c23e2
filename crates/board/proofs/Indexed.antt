-- The index of a board has the map state, and goes on to have it as tiles and tokens are laid.
use Rattle.std.proofs.Common.{◌≡◌, ◌∙◌, ◌≢◌, ap, sym, subst, refl, ℕ, zero, suc, ◌+◌, ◌<◌, ◌≤◌, ◌&&◌, ◌||◌, Bool, true}
use Rattle.std.proofs.Common.{false, cond, List, [], ◌∷◌, ◌++◌, Option, Some, None, length, map, get_or, set, replicate}
use Rattle.std.proofs.Common.{arith, get_or-set_same, get_or-set_other}
use Rattle.std.proofs.lemmas.Bool.{and_parts, eq-eqb, eqb-true, eqb-false}
use Rattle.std.proofs.lemmas.List.Folds.{list_any-append}
use Rattle.std.proofs.lemmas.List.Sums.{sum_by-append, count_by-le-length}
use Rattle.std.specs.List.{count_by, list_any}
use Rattle.std.proofs.Math.Bool.{or-true, or-false}
use Rattle.board_state.proofs.Same.{stop_is_same}
use Rattle.board_state.proofs.Tiles.{last_lies}
use Rattle.board.specs.Index.{IsIndex, counting, holding, holder_order}
use Rattle.map_tables.specs.Hex.{index_of, same_hex}
use Rattle.map_tables.specs.Lay.{laid_links_of}
use Rattle.map_tables.specs.OnMap.{by_tile, names, is_part_of, same_stop, tile_on}
use Rattle.map_tables.specs.Place.{joined_stop_of, stop_of_place}
use Rattle.map_tables.specs.declared.hex.Hex.{Hex}
use Rattle.map_tables.specs.declared.lay.Lay.{Lay}
use Rattle.map_tables.specs.declared.place.Place.{Place}
use Rattle.map_tables.specs.declared.place.Stop.{Stop}
use Rattle.map_tables.specs.declared.track.Link.{Link}
use Rattle.reach.proofs.Spots.{order_low, same_order}
use Rattle.reach.specs.Reached.{stop_order}
use Rattle.tables.proofs.Companies.{company_is, company_low}
use Rattle.tables.specs.Roster.{index_of_company, same_company}
use Rattle.tables.specs.declared.roster.Company.{Company}
use Rattle.reach.proofs.Listed.{stop_is}

-- a table of one thing has it everywhere, and elsewhere too
all_one : {A : Type 0} (n i : ℕ) (x : A) → get_or (replicate n x) i x ≡ x
all_one zero i x = refl
all_one (suc n) zero x = refl
all_one (suc n) (suc i) x = all_one n i x

-- and so has what each thing is mapped to
pub all_mapped : {A B : Type 0} (f : A → B) (n : ℕ) (x : A) (y : B) → f x ≡ y
    → map f (replicate n x) ≡ replicate n y
all_mapped f zero x y is = refl
all_mapped f (suc n) x y is = ap (λ items. f x ∷ items) (all_mapped f n x y is)
    ∙ ap (λ items. items ∷ replicate n y) is

-- before anything is laid
pub index_of_none : (tiles : List (Option Lay)) (links : List (List Link)) (counts : List ℕ) (holders : List Bool)
    → tiles ≡ replicate 93 None → links ≡ replicate 93 [] → counts ≡ replicate 186 0 → holders ≡ replicate 1488 false
    → IsIndex [] [] tiles links counts holders
unfolding tile_on
index_of_none tiles links counts holders tiles_are links_are counts_are holders_are =
    record {
      tile = λ hex. ap (λ ts. get_or ts (index_of hex) None) tiles_are ∙ all_one 93 (index_of hex) None;
      link = λ hex. ap (λ ls. get_or ls (index_of hex) []) links_are ∙ all_one 93 (index_of hex) [];
      count = λ stop. ap (λ cs. get_or cs (stop_order stop) 0) counts_are ∙ all_one 186 (stop_order stop) 0;
      holder = λ stop company. ap (λ hs. get_or hs (holder_order stop company) false) holders_are
          ∙ all_one 1488 (holder_order stop company) false;
    }

tile_next : (lays : List Lay) (lay : Lay) (tiles : List (Option Lay)) (hex : Hex) → index_of lay.hex < length tiles
    → get_or tiles (index_of hex) None ≡ tile_on lays hex → (same : Bool) → same_hex lay.hex hex ≡ same
    → get_or (set tiles (index_of lay.hex) (Some lay)) (index_of hex) None ≡ cond same (Some lay) (tile_on lays hex)
tile_next lays lay tiles hex low so_far true is =
    subst (λ n. get_or (set tiles (index_of lay.hex) (Some lay)) n None ≡ Some lay)
    (eqb-true (index_of lay.hex) (index_of hex) is)
    (get_or-set_same tiles (index_of lay.hex) (Some lay) None low)
tile_next lays lay tiles hex low so_far false is =
    get_or-set_other tiles (index_of lay.hex) (index_of hex) (Some lay) None
    (λ same. eqb-false (index_of lay.hex) (index_of hex) is (sym same)) ∙ so_far

-- and so do its links
link_next : (lays : List Lay) (lay : Lay) (links : List (List Link)) (hex : Hex) → index_of lay.hex < length links
    → get_or links (index_of hex) [] ≡ by_tile [] laid_links_of (tile_on lays hex) → (same : Bool)
    → same_hex lay.hex hex ≡ same → get_or (set links (index_of lay.hex) (laid_links_of lay)) (index_of hex) []
    ≡ by_tile [] laid_links_of (cond same (Some lay) (tile_on lays hex))
link_next lays lay links hex low so_far true is =
    subst (λ n. get_or (set links (index_of lay.hex) (laid_links_of lay)) n [] ≡ laid_links_of lay)
    (eqb-true (index_of lay.hex) (index_of hex) is)
    (get_or-set_same links (index_of lay.hex) (laid_links_of lay) [] low)
link_next lays lay links hex low so_far false is =
    get_or-set_other links (index_of lay.hex) (index_of hex) (laid_links_of lay) []
    (λ same. eqb-false (index_of lay.hex) (index_of hex) is (sym same)) ∙ so_far

-- once a tile is laid
pub index_with_lay : (lays : List Lay) (laid : List (Place × Company)) (tiles : List (Option Lay))
    (links : List (List Link)) (counts : List ℕ) (holders : List Bool) (lay : Lay)
    → IsIndex lays laid tiles links counts holders → index_of lay.hex < length tiles → index_of lay.hex < length links
    → IsIndex (lays ++ lay ∷ []) laid (set tiles (index_of lay.hex) (Some lay))
    (set links (index_of lay.hex) (laid_links_of lay)) counts holders
index_with_lay lays laid tiles links counts holders lay so_far low links_low =
    record {
      tile = λ hex. tile_next lays lay tiles hex low (so_far.tile hex) (same_hex lay.hex hex) refl
          ∙ sym (last_lies lays lay hex);
      link = λ hex. link_next lays lay links hex links_low (so_far.link hex) (same_hex lay.hex hex) refl
          ∙ ap (by_tile [] laid_links_of) (sym (last_lies lays lay hex));
      count = so_far.count;
      holder = so_far.holder;
    }

-- a stop has its own order
order_apart : (a b : Stop) → same_stop a b ≡ false → stop_order b ≢ stop_order a
order_apart a b apart same =
    let alike : same_stop a b ≡ true = stop_is_same a b (same_order a b (sym same)) in
    let wrong : true ≡ false = sym alike ∙ apart in cc

-- the counts with one more token, at a stop
count_next : (counts : List ℕ) (part : Stop) (stop : Stop) → stop_order (joined_stop_of part) < length counts
    → (same : Bool) → same_stop (joined_stop_of part) stop ≡ same
    → get_or (counting (Some part) counts) (stop_order stop) 0 ≡ get_or counts (stop_order stop) 0 + cond same 1 0
count_next counts part stop low true is =
    subst (λ (s : Stop). get_or (counting (Some part) counts) (stop_order s) 0 ≡ get_or counts (stop_order s) 0 + 1)
    (stop_is (joined_stop_of part) stop is)
    (get_or-set_same counts (stop_order (joined_stop_of part))
    (get_or counts (stop_order (joined_stop_of part)) 0 + 1) 0 low)
count_next counts part stop low false is =
    get_or-set_other counts (stop_order (joined_stop_of part)) (stop_order stop) _ 0
    (order_apart (joined_stop_of part) stop is)
    ∙ omega arith

count_by_stop : (counts : List ℕ) (named : Option Stop) (stop : Stop)
    → ((part : Stop) → stop_order (joined_stop_of part) < length counts)
    → get_or (counting named counts) (stop_order stop) 0
    ≡ get_or counts (stop_order stop) 0 + cond (is_part_of stop named) 1 0
count_by_stop counts None stop low = omega arith
count_by_stop counts (Some part) stop low = count_next counts part stop (low part)
    (same_stop (joined_stop_of part) stop) refl

-- a stop and a company have their own order
holder_apart : (a b : Stop) (of other : Company) → (same_stop a b && same_company of other) ≡ false
    → holder_order b other ≢ holder_order a of
holder_apart a b of other apart same =
    let stops : stop_order a ≡ stop_order b = omega (arith, same, company_low of, company_low other) in
    let places : index_of_company of ≡ index_of_company other =
    omega (arith, same, company_low of, company_low other) in
    let alike : same_stop a b ≡ true = stop_is_same a b (same_order a b stops) in
    let company : same_company of other ≡ true = eq-eqb (index_of_company of) (index_of_company other) places in
    let wrong : true ≡ false = sym (ap (λ s. s && same_company of other) alike ∙ company) ∙ apart in cc

-- whose tokens lie with one more, at a stop
holder_next : (holders : List Bool) (part : Stop) (of : Company) (stop : Stop) (company : Company)
    → holder_order (joined_stop_of part) of < length holders → (same : Bool)
    → (same_stop (joined_stop_of part) stop && same_company of company) ≡ same
    → get_or (holding (Some part) of holders) (holder_order stop company) false
    ≡ (get_or holders (holder_order stop company) false || same)
holder_next holders part of stop company low true is =
    let both : (same_stop (joined_stop_of part) stop ≡ true) × (same_company of company ≡ true) = and_parts _ _ is in
    subst (λ (s : Stop). get_or (holding (Some part) of holders) (holder_order s company) false
    ≡ (get_or holders (holder_order s company) false || true)) (stop_is (joined_stop_of part) stop both.0)
    (subst (λ (c : Company). get_or (holding (Some part) of holders) (holder_order (joined_stop_of part) c) false
    ≡ (get_or holders (holder_order (joined_stop_of part) c) false || true)) (company_is of company both.1)
    (get_or-set_same holders (holder_order (joined_stop_of part) of) true false low
    ∙ sym (or-true (get_or holders (holder_order (joined_stop_of part) of) false))))
holder_next holders part of stop company low false is =
    get_or-set_other holders (holder_order (joined_stop_of part) of) (holder_order stop company) true false
    (holder_apart (joined_stop_of part) stop of company is)
    ∙ sym (or-false (get_or holders (holder_order stop company) false))

holder_by_stop : (holders : List Bool) (named : Option Stop) (of : Company) (stop : Stop) (company : Company)
    → ((part : Stop) → holder_order (joined_stop_of part) of < length holders)
    → get_or (holding named of holders) (holder_order stop company) false
    ≡ (get_or holders (holder_order stop company) false || (is_part_of stop named && same_company of company))
holder_by_stop holders None of stop company low = sym (or-false (get_or holders (holder_order stop company) false))
holder_by_stop holders (Some part) of stop company low =
    holder_next holders part of stop company (low part)
    (same_stop (joined_stop_of part) stop && same_company of company) refl

-- once a token is placed
pub index_with_token : (lays : List Lay) (laid : List (Place × Company)) (tiles : List (Option Lay))
    (links : List (List Link)) (counts : List ℕ) (holders : List Bool) (place : Place) (company : Company)
    → IsIndex lays laid tiles links counts holders → length counts ≡ 186 → length holders ≡ 1488
    → IsIndex lays (laid ++ (place, company) ∷ []) tiles links (counting (stop_of_place place) counts)
    (holding (stop_of_place place) company holders)
index_with_token lays laid tiles links counts holders place of so_far many most =
    let token : Place × Company = (place, of) in
    record {
      tile = so_far.tile;
      link = so_far.link;
      count = λ stop.
          let p : (Place × Company) → Bool = λ t. names stop t.0 in
          count_by_stop counts (stop_of_place place) stop (λ part. omega (arith, order_low (joined_stop_of part)))
          ∙ ap (λ n. n + cond (names stop place) 1 0) (so_far.count stop)
          ∙ sym (count_last p laid token);
      holder = λ stop company.
          let p : (Place × Company) → Bool = λ t. names stop t.0 && same_company t.1 company in
          holder_by_stop holders (stop_of_place place) of stop company
          (λ part. omega (arith, order_low (joined_stop_of part), company_low of))
          ∙ ap (λ h. h || (names stop place && same_company of company)) (so_far.holder stop company)
          ∙ sym (list_any-append p laid (token ∷ []) ∙ ap (λ b. list_any p laid || b) (or-false (p token)));
    }
  where
    -- a count with one more at the end
    count_last : (p : (Place × Company) → Bool) (xs : List (Place × Company)) (x : Place × Company)
        → count_by p (xs ++ x ∷ []) ≡ count_by p xs + cond (p x) 1 0
    count_last p xs x = sum_by-append (λ t. cond (p t) 1 0) xs (x ∷ []) ∙ omega arith

-- no more tokens name a stop than lie
pub counts_low : (lays : List Lay) (laid : List (Place × Company)) (tiles : List (Option Lay))
    (links : List (List Link)) (counts : List ℕ) (holders : List Bool) → IsIndex lays laid tiles links counts holders
    → (stop : Stop) → get_or counts (stop_order stop) 0 ≤ length laid
counts_low lays laid tiles links counts holders so_far stop =
    subst (λ n. n ≤ length laid) (sym (so_far.count stop))
    (count_by-le-length (λ (token : Place × Company). names stop token.0) laid)
