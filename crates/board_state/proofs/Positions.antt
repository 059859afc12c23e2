-- What the position shows in a hex and at a stop.
use Rattle.std.proofs.Common.{◌≡◌, ◌∙◌, ap, refl, ℕ, zero, suc, true, false, cond, [], map, get_or}
use Rattle.std.proofs.Common.{arith}
use Rattle.std.proofs.lemmas.Bool.{lt-ltb}
use Rattle.std.proofs.lemmas.List.{get_or-map}
use Rattle.std.specs.Prelude.{nat_lt}
use Rattle.board_state.specs.MapState.{MapState, on_map_at, on_map_in, position_of, stop_numbers, stops_in}
use Rattle.map_tables.specs.OnMap.{is_stop, slots_at, slots_on}
use Rattle.map_tables.specs.Hex.{hexes, index_of, same_hex, site_of}
use Rattle.map_tables.specs.Place.{joined_hex, joined_stop_of, stop_at, stop_index_of}
use Rattle.map_tables.specs.Print.{print_of}
use Rattle.map_tables.specs.declared.hex.Hex.{Hex}
use Rattle.map_tables.specs.declared.hex.Hex.TheVariants.{A9}
use Rattle.map_tables.specs.declared.place.Stop.{Stop}
use Rattle.map_tables.specs.declared.place.StopNumber.{StopNumber}
use Rattle.map_tables.specs.declared.place.StopNumber.TheVariants.{First, Second}
use Rattle.map_tables.proofs.HexTables.{hex_at_index}
use Rattle.reach.specs.Position.{AtStop, InHex, at_stop, empty_hex, in_hex, no_stop}
use Rattle.reach.proofs.Hexes.{index_in}

-- the position has in a hex what is there
pub in_hex_is : (laid : MapState) (hex : Hex) → in_hex (position_of laid) hex ≡ on_map_in laid hex
unfolding position_of
in_hex_is laid hex =
    get_or-map (on_map_in laid) hexes (index_of hex) A9 empty_hex (index_in hex) ∙ ap (on_map_in laid)
    (hex_at_index hex)

-- the stop of a number among this many
numbered : (f : StopNumber → AtStop) (count : ℕ) (number : StopNumber) (none : AtStop)
    → get_or (map f (stop_numbers count)) (stop_index_of number) none
    ≡ cond (nat_lt (stop_index_of number) count) (f number) none
numbered f zero First none = refl
numbered f zero Second none = refl
numbered f (suc zero) First none = refl
numbered f (suc zero) Second none = refl
numbered f (suc (suc n)) First none = rw (lt-ltb 0 (suc (suc n)) (omega arith)) refl
numbered f (suc (suc n)) Second none = rw (lt-ltb 1 (suc (suc n)) (omega arith)) refl

-- what names an area names itself
joined_twice : (hex : Hex) → same_hex (joined_hex (joined_hex hex)) (joined_hex hex) ≡ true
unfolding index_of hexes site_of
joined_twice A9 = refl
joined_twice hex = refl

-- so its stops are kept there
stops_kept : (laid : MapState) (hex : Hex) → stops_in laid (joined_hex hex)
    ≡ map (λ number. on_map_at laid (stop_at (joined_hex hex) number)) (stop_numbers (print_of (joined_hex hex)).stops)
stops_kept laid hex =
    let there = map (λ number. on_map_at laid (stop_at (joined_hex hex) number))
    (stop_numbers (print_of (joined_hex hex)).stops) in
    ap (λ b. cond b there []) (joined_twice hex)

-- what the position has at a stop
at_stop_is : (laid : MapState) (stop : Stop) → at_stop (position_of laid) stop
    ≡ cond (is_stop (joined_stop_of stop)) (on_map_at laid (joined_stop_of stop)) no_stop
at_stop_is laid stop =
    let hex = joined_hex stop.hex in
    ap (λ (here : InHex). get_or here.stops (stop_index_of stop.number) no_stop) (in_hex_is laid hex)
    ∙ ap (λ stops. get_or stops (stop_index_of stop.number) no_stop) (stops_kept laid stop.hex)
    ∙ numbered (λ number. on_map_at laid (stop_at hex number)) (print_of hex).stops stop.number no_stop

-- at a stop of a hex it has what is there
pub shown : (laid : MapState) (stop : Stop) → is_stop (joined_stop_of stop) ≡ true
    → at_stop (position_of laid) stop ≡ on_map_at laid (joined_stop_of stop)
shown laid stop is = at_stop_is laid stop ∙ ap (λ b. cond b (on_map_at laid (joined_stop_of stop)) no_stop) is

-- and elsewhere nothing
pub not_on_map : (laid : MapState) (stop : Stop) → is_stop (joined_stop_of stop) ≡ false
    → at_stop (position_of laid) stop ≡ no_stop
not_on_map laid stop is = at_stop_is laid stop ∙ ap (λ b. cond b (on_map_at laid (joined_stop_of stop)) no_stop) is

-- the slots of a stop are those that the position has there
pub slots_on_map : (laid : MapState) (stop : Stop) → (at_stop (position_of laid) stop).slots ≡ slots_at laid.lays stop
slots_on_map laid stop =
    (elim (is_stop (joined_stop_of stop)) as (λ b. is_stop (joined_stop_of stop) ≡ b
    → (at_stop (position_of laid) stop).slots ≡ cond b (slots_on laid.lays (joined_stop_of stop).hex) 0) [
      | true ↦ λ is. ap (λ (s : AtStop). s.slots) (shown laid stop is)
      | false ↦ λ is. ap (λ (s : AtStop). s.slots) (not_on_map laid stop is)
    ]) refl
