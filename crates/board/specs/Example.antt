-- Two small examples. The Erie has its token at home, on the hex E11 with its two cities. In phase
-- 2 it may not lay the green tile 59 there. In phase 3 it may, with the stops swapped: that costs
-- nothing, and its own token is reached. The Pennsylvania has its token at home in H12, and a
-- yellow city lies on H10 beside it. A token there costs 40: with 39 it can't be placed, with 40 it
-- can.
use Rattle.std.specs.Prelude.{Bool, true, false, [], ◌∷◌, Some, Ok, Err, ℤ, pos, replicate}
use Rattle.board_state.specs.MapState.{MapState, map_state_of}
use Rattle.board.specs.LayRules.{IsLayAnswer}
use Rattle.board.specs.TokenRules.{IsTokenAnswer}
use Rattle.board.specs.declared.turn.Asker.{Asker}
use Rattle.board.specs.declared.turn.TurnStep.TheVariants as step
use Rattle.map_tables.specs.declared.rules.LayRule.TheVariants.{ColourClosed}
use Rattle.map_tables.specs.declared.rules.TokenRule.TheVariants.{CashTooSmall}
use Rattle.map_tables.specs.declared.hex.Hex.TheVariants.{E11, H10, H12}
use Rattle.map_tables.specs.declared.lay.Lay.{Lay}
use Rattle.map_tables.specs.declared.place.Place.{Place}
use Rattle.map_tables.specs.declared.place.StopNumber.TheVariants.{First}
use Rattle.map_tables.specs.declared.side.Rotation.TheVariants.{Zero, One}
use Rattle.map_tables.specs.declared.tiles.TileNo.TheVariants.{T57, T59}
use Rattle.tables.specs.declared.roster.Company.{Company}
use Rattle.tables.specs.declared.roster.Company.TheVariants.{Erie, Pennsylvania}
use Rattle.tables.specs.declared.rolling_stock.Kind.{Kind}
use Rattle.tables.specs.declared.rolling_stock.Kind.TheVariants.{Two, Three}

-- a company at the beginning of its turn, while nobody owns a private
abbrev pub beginner : Company → ℤ → Asker
beginner company cash =
    record {
      company = company;
      cash = cash;
      pointer = step.Lay;
      lay_used = false;
      dh_laid = false;
      own_privates = replicate 6 false;
      player_privates = replicate 6 false;
    }

-- the Erie's token at home
abbrev pub erie_at_home : Kind → MapState
erie_at_home phase = map_state_of [] ((record { hex = E11; stop = Some First }, Erie) ∷ []) phase

-- tile 59 on its home, as printed or with its stops swapped
abbrev pub tile_59 : Bool → Lay
tile_59 swap = record { hex = E11; tile = T59; rot = Zero; swap = swap }

-- the Pennsylvania's token at home, and a city beside it
abbrev pub pennsylvania_at_home : MapState
pennsylvania_at_home =
    map_state_of (record { hex = H10; tile = T57; rot = One; swap = false } ∷ [])
    ((record { hex = H12; stop = Some First }, Pennsylvania) ∷ []) Two

-- the city beside the Pennsylvania's home
abbrev pub city_beside : Place
city_beside = record { hex = H10; stop = Some First }

pub record WorkedExamples : Type 0 where
  pub too_early : IsLayAnswer (erie_at_home Two) (beginner Erie (pos 0)) (tile_59 false) (Err ColourClosed)
  pub swapped : IsLayAnswer (erie_at_home Three) (beginner Erie (pos 0)) (tile_59 true) (Ok (pos 0))
  pub too_dear : IsTokenAnswer pennsylvania_at_home (beginner Pennsylvania (pos 39)) city_beside (Err CashTooSmall)
  pub placed : IsTokenAnswer pennsylvania_at_home (beginner Pennsylvania (pos 40)) city_beside (Ok (pos 40))
