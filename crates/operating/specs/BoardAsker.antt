-- The company as one that asks the rules of the board for a lay or a token in its turn, by the list
-- so far.
use Rattle.std.specs.Prelude.{Bool, true, false, map, Option, Some}
use Rattle.board.specs.declared.turn.Asker.{Asker}
use Rattle.events.specs.Event.{party_of_company}
use Rattle.events.specs.declared.event.Holder.{Holder}
use Rattle.events.specs.declared.event.Holder.TheVariants as holder
use Rattle.operating.specs.declared.progress.Progress.{Progress}
use Rattle.tables.specs.Roster.{privates, same_company}
use Rattle.tables.specs.declared.roster.Company.{Company}
use Rattle.totals.specs.LookBack.{Game, cash_of, owner_of}

-- the company is this owner
abbrev pub is_companys : Company → Option Holder → Bool
is_companys company (Some (holder.Company owner)) = same_company owner company
is_companys company other = false

-- a player is this owner
abbrev pub is_players : Option Holder → Bool
is_players (Some (holder.Seat seat)) = true
is_players other = false

-- the company as one that wants to lay a tile or to place a token, with its turn as far as it has
-- come
abbrev pub asker_of : Game → Company → Progress → Asker
asker_of game company progress = record {
  company = company;
  cash = cash_of game.seats game.events (party_of_company company);
  pointer = progress.pointer;
  lay_used = progress.lay_used;
  dh_laid = progress.dh_laid;
  own_privates = map (λ private. is_companys company (owner_of game.events private)) privates;
  player_privates = map (λ private. is_players (owner_of game.events private)) privates;
}
