use Rattle.map_tables.proofs.Values.{home_token}
use Rattle.map_tables.proofs.laws.homes_take_tokens.Goals as goal

pub returns : goal.returns
returns c = home_token
