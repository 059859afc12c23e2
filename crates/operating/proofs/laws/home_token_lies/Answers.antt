use Rattle.operating.proofs.HomeToken.{home_token_lies}
use Rattle.operating.proofs.laws.home_token_lies.Goals as goal

pub returns : goal.returns
returns c = home_token_lies
