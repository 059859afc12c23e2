-- The calls that play makes of a runner, over the one game of a file: those of the turns of
-- companies, in order. The other steps of a round do not call it. Once a call fails, or allocation
-- fails, play is broken off.
use Rattle.std.specs.Prelude.{◌≡◌, ℕ, false, List, Some, None, Result, Ok, Err}
use Rattle.totals.specs.LookBack.{Game}
use Rattle.market.specs.OperatingOrder.{next_company}
use Rattle.operating.specs.Calls.{Call, Course, IsPrefix, Named, SomeTimesThen, Then, Unasked}
use Rattle.operating.specs.TurnCalls.{TurnCalls}
use Rattle.rounds.specs.Faults.{fault_in_turn}
use Rattle.rounds.specs.OperatingRound.{operating_round_finished, operating_round_opened}
use Rattle.rounds.specs.Play.{Between, IsPlayed, IsTheGame, IsToPlay, Played, before_play, coming, end_of, goes_on}
use Rattle.rounds.specs.Play.{in_set_before}
use Rattle.rounds.specs.declared.fault.PlayFault.{PlayFault}
use Rattle.rounds.specs.declared.fault.PlayFault.TheVariants.{Memory}
use Rattle.sheets.specs.File.{IsAccepted}
use Rattle.tables.specs.declared.roster.Company.{Company}
use Rattle.tables.specs.declared.round.Round.{Round}
use Rattle.tables.specs.declared.round.Round.TheVariants.{Opening, Stock, Operating}

-- the course of the turn of a company in a round, whose faults are those of play
abbrev pub CompanyCalls : List ℕ → Round → Company → Course Game Game PlayFault
CompanyCalls file round company = Named (λ fault. fault_in_turn fault round company) (TurnCalls file round company)

-- the course of the turn of the next company
abbrev pub NextCalls : List ℕ → Round → Course Game Game PlayFault
NextCalls file round old outcome calls =
    (company : Company) × (next_company old.events ≡ Some company) × CompanyCalls file round company old outcome calls

-- no company is next
pub record AreOver (old new : Game) : Type 0 where
  pub none : next_company old.events ≡ None
  pub stays : new ≡ old

-- the course of the turns of companies, until there is no next
abbrev pub TurnsCall : List ℕ → Round → Course Game Game PlayFault
TurnsCall file round = SomeTimesThen (NextCalls file round) (Unasked Memory AreOver)

-- an operating round is opened
abbrev pub IsOpened : List ℕ → Round → Game → Game → Type 0
IsOpened file round old new = new ≡ operating_round_opened file round old

-- it is recorded what was left
abbrev pub IsFinished : List ℕ → Round → Game → Game → Type 0
IsFinished file round turned new =
    new ≡ record { seats = turned.seats; events = operating_round_finished file round turned.seats turned.events }

-- the course of an operating round
abbrev pub OperatingCalls : List ℕ → Round → Course Game Game PlayFault
OperatingCalls file round =
    Then (Unasked Memory (IsOpened file round)) (Then (TurnsCall file round) (Unasked Memory (IsFinished file round)))

-- the course of a round, by its kind
abbrev pub PlayedCalls : List ℕ → Round → Course Game Game PlayFault
PlayedCalls file (Opening number) = Unasked Memory (IsPlayed file (Opening number))
PlayedCalls file (Stock set) = Unasked Memory (IsPlayed file (Stock set))
PlayedCalls file (Operating set number) = OperatingCalls file (Operating set number)

-- between two rounds, once a round of a set of this many operating rounds has led to a game
abbrev pub between_after : Round → ℕ → Game → Between
between_after round in_set game = record {
  game = game;
  in_set = in_set_before (coming round in_set game.events) game.events in_set;
  next = coming round in_set game.events;
}

-- the course of the next round, for which every seat has a sheet
abbrev pub RoundCalls : List ℕ → Course Between Between PlayFault
RoundCalls file old outcome calls = (round : Round) × IsToPlay file old.next round ×
    Then (PlayedCalls file round) (Unasked Memory (λ game new. new ≡ between_after round old.in_set game)) old.game
    outcome calls

-- play stops
pub record PlayStops (file : List ℕ) (last : Between) (played : Played) : Type 0 where
  pub stopped : goes_on file last.next ≡ false
  pub game : played ≡ record { file = file; game = last.game; end = end_of last.next last.game.events }

-- the course of the game of a file
abbrev pub GameCalls : List ℕ → Result Played PlayFault → List Call → Type 0
GameCalls file = SomeTimesThen (RoundCalls file) (Unasked Memory (PlayStops file)) (before_play file)

-- what makes these calls and leads to a game leads to the game of the file
abbrev pub CallsAreOfTheGame : Type 0
CallsAreOfTheGame =
    (file : List ℕ) (played : Played) (calls : List Call) → GameCalls file (Ok played) calls
    → (played.file ≡ file) × IsTheGame played

-- The calls of play that was broken off for this fault are a prefix of all calls of a game. If
-- allocation failed, they are the first of them. Otherwise they are those up to one that failed,
-- and the fault names its round and company if the runner refused it.
abbrev pub ArePrefix : PlayFault → List Call → List Call → Type 0
ArePrefix = IsPrefix Memory (λ fault why call. fault ≡ fault_in_turn why call.round call.company)

-- the game of a file makes one list of calls
abbrev pub OneListOfCalls : Type 0
OneListOfCalls =
    (file : List ℕ) (a b : Played) (some others : List Call) →
    GameCalls file (Ok a) some → GameCalls file (Ok b) others → (a ≡ b) × (some ≡ others)

-- each game makes some list of calls
abbrev pub EachGameCalls : Type 0
EachGameCalls = (played : Played) → IsTheGame played → (calls : List Call) × GameCalls played.file (Ok played) calls

-- each file that is not refused makes some list of calls
abbrev pub SomeCalls : Type 0
SomeCalls = (file : List ℕ) → IsAccepted file → (played : Played) × (calls : List Call)
    × GameCalls file (Ok played) calls

-- if play is broken off, it has made a prefix of the calls of the one game
abbrev pub RefusedCallsAreAPrefix : Type 0
RefusedCallsAreAPrefix =
    (file : List ℕ) (fault : PlayFault) (played : Played) (refused whole : List Call) →
    GameCalls file (Err fault) refused → GameCalls file (Ok played) whole → ArePrefix fault refused whole
