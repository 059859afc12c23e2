use Rattle.std.proofs.Common.{◌≡◌, ◌≤◌, length, take}
use Rattle.std.specs.List.{flat_map}
use Rattle.page_map.specs.TokensShown.{token_there}
use Rattle.tables.specs.Roster.{companies}
use Rattle.page_map.proofs.tokens.tokens_at.Given as goal

-- the companies so far that have a token there
abbrev pub invariant-loop-company : goal.invariant-loop-company
invariant-loop-company l = record {
  tokens : l.tokens.items ≡ flat_map (token_there l.history.events l.stop) (take l.company-index companies);
  few : length l.tokens.items ≤ l.company-index;
}
