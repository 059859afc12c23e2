use Rattle.rounds.proofs.EachGame.{bids_rise}
use Rattle.rounds.proofs.laws.bids_rise_in_each_game.Goals as goal

pub returns : goal.returns
returns c = bids_rise c.opening_bids_rise.ensures c.three_to_six_play.ensures c.turns_say_no_bid.ensures
