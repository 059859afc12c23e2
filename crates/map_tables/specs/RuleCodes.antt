-- The rules that a lay, a token or a run may break: their codes, L, K or R and the rule's place in
-- the order in which the rules are checked, and their sentences.
use Rattle.std.specs.Prelude.{ℕ, List, ◌++◌, codes}
use Rattle.map_tables.specs.declared.rules.LayRule.{LayRule}
use Rattle.map_tables.specs.declared.rules.LayRule.TheVariants as lay_rule
use Rattle.map_tables.specs.declared.rules.RunRule.{RunRule}
use Rattle.map_tables.specs.declared.rules.RunRule.TheVariants as run_rule
use Rattle.map_tables.specs.declared.rules.TokenRule.{TokenRule}
use Rattle.map_tables.specs.declared.rules.TokenRule.TheVariants as token_rule

-- the code of a rule of lays
abbrev pub code_of_lay_rule : LayRule → List ℕ
code_of_lay_rule lay_rule.StepUsed = codes "L1"
code_of_lay_rule lay_rule.GreyOrRed = codes "L2"
code_of_lay_rule lay_rule.NoneLeft = codes "L3"
code_of_lay_rule lay_rule.ColourClosed = codes "L4"
code_of_lay_rule lay_rule.WrongTile = codes "L5"
code_of_lay_rule lay_rule.TrackLost = codes "L6"
code_of_lay_rule lay_rule.BadSide = codes "L7"
code_of_lay_rule lay_rule.Blocked = codes "L8"
code_of_lay_rule lay_rule.NotReached = codes "L9"
code_of_lay_rule lay_rule.CashTooSmall = codes "L10"

-- the sentence of a rule of lays
abbrev pub sentence_of_lay_rule : LayRule → List ℕ
sentence_of_lay_rule lay_rule.StepUsed = codes "the lay of the turn is used, or its step is past"
sentence_of_lay_rule lay_rule.GreyOrRed = codes "the hex is grey or red"
sentence_of_lay_rule lay_rule.NoneLeft = codes "no such tile is left"
sentence_of_lay_rule lay_rule.ColourClosed = codes "the colour isn't available yet"
sentence_of_lay_rule lay_rule.WrongTile =
    codes "the tile is not of the hex's next colour or kind; or SWAP is on a hex without two stops"
sentence_of_lay_rule lay_rule.TrackLost = codes "existing track would be lost"
sentence_of_lay_rule lay_rule.BadSide =
    codes "track would lead off the map, over a closed border, or to a grey or red hex that has none "
    ++ codes "there"
sentence_of_lay_rule lay_rule.Blocked = codes "a player's private blocks the hex"
sentence_of_lay_rule lay_rule.NotReached = codes "the company reaches neither the tile's track nor a stop of the hex"
sentence_of_lay_rule lay_rule.CashTooSmall = codes "it costs more than the company's cash"

-- the code of a rule of tokens
abbrev pub code_of_token_rule : TokenRule → List ℕ
code_of_token_rule token_rule.StepUsed = codes "K1"
code_of_token_rule token_rule.NoTokenLeft = codes "K2"
code_of_token_rule token_rule.NoFreeSlot = codes "K3"
code_of_token_rule token_rule.InHexAlready = codes "K4"
code_of_token_rule token_rule.NotReached = codes "K5"
code_of_token_rule token_rule.CashTooSmall = codes "K6"

-- the sentence of a rule of tokens
abbrev pub sentence_of_token_rule : TokenRule → List ℕ
sentence_of_token_rule token_rule.StepUsed = codes "the step of the token is past"
sentence_of_token_rule token_rule.NoTokenLeft = codes "the company has no token left"
sentence_of_token_rule token_rule.NoFreeSlot =
    codes "it is not at a stop of a city, or no slot is free; a slot kept for a home counts as taken"
sentence_of_token_rule token_rule.InHexAlready = codes "the company has a token in the hex"
sentence_of_token_rule token_rule.NotReached = codes "the company does not reach the stop"
sentence_of_token_rule token_rule.CashTooSmall =
    codes "it costs more than the company's cash: 40 the second, 100 each later one"

-- the code of a rule of runs
abbrev pub code_of_run_rule : RunRule → List ℕ
code_of_run_rule run_rule.StepUsed = codes "R1"
code_of_run_rule run_rule.NoTrain = codes "R2"
code_of_run_rule run_rule.NoTrack = codes "R3"
code_of_run_rule run_rule.WrongNumber = codes "R4"
code_of_run_rule run_rule.StopTwice = codes "R5"
code_of_run_rule run_rule.BorderTwice = codes "R6"
code_of_run_rule run_rule.PassesFull = codes "R7"
code_of_run_rule run_rule.NoToken = codes "R8"
code_of_run_rule run_rule.RedInside = codes "R9"

-- the sentence of a rule of runs
abbrev pub sentence_of_run_rule : RunRule → List ℕ
sentence_of_run_rule run_rule.StepUsed = codes "the step of the runs is past"
sentence_of_run_rule run_rule.NoTrain =
    codes "all trains of that kind have run; for RUN BEST: the company has no train, or one has run"
sentence_of_run_rule run_rule.NoTrack = codes "there is no such track, or an end is not a stop"
sentence_of_run_rule run_rule.WrongNumber = codes "it visits fewer than two stops, or more than the train may"
sentence_of_run_rule run_rule.StopTwice = codes "it visits a stop twice"
sentence_of_run_rule run_rule.BorderTwice = codes "it crosses a border that it or another run of the turn has crossed"
sentence_of_run_rule run_rule.PassesFull = codes "it passes a city that is full of other companies' tokens"
sentence_of_run_rule run_rule.NoToken = codes "it visits no token of the company"
sentence_of_run_rule run_rule.RedInside = codes "it passes a red area"
