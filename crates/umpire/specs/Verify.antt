-- What the check of certificates writes. The input is split into an order file and the text of
-- certificates after it. The game of the file is played, and each call of its runner uses the next
-- group of the text. So the k-th RUN BEST that is obeyed is judged by the k-th group, and groups
-- left over are not looked at.
use Rattle.std.specs.Prelude.{◌≡◌, ◌⊎◌, ℕ, nat_lt, Bool, true, false, if◌then◌else◌, List, [], ◌∷◌, ◌++◌, length}
use Rattle.std.specs.Prelude.{codes, Option, Some, None, Result, Ok, Err}
use Rattle.std.specs.Io.KnownBytes.{Appends, Keeps}
use Rattle.certificate.specs.Checked.{Shows}
use Rattle.certificate.specs.declared.group.Group.{Group}
use Rattle.operating.specs.Calls.{Call}
use Rattle.order_grammar.specs.Print.{text_of_round}
use Rattle.report.specs.Report.{IsReport, refusal_line}
use Rattle.rounds.specs.GameCalls.{GameCalls}
use Rattle.rounds.specs.Play.{Played}
use Rattle.rounds.specs.declared.fault.PlayFault.{PlayFault}
use Rattle.rounds.specs.declared.fault.PlayFault.TheVariants as play
use Rattle.sheets.specs.File.{Content, content_of}
use Rattle.sheets.specs.declared.fault.FileFault.{FileFault}
use Rattle.sheets.specs.declared.fault.FileFault.TheVariants.{TooLong}
use Rattle.tables.specs.Roster.{code_of_company}
use Rattle.tables.specs.declared.roster.Company.{Company}
use Rattle.tables.specs.declared.round.Round.{Round}
use Rattle.umpire.specs.Failure.{AppendsPrefix}
use Rattle.umpire.specs.Groups.{groups_of}
use Rattle.umpire.specs.InputSplit.{certificates_most, certificates_of_input, order_file_of}
use Rattle.umpire.specs.Run.{IsFileOf, StopsBy}
use Rattle.umpire.specs.declared.fault.Fault.{Fault}
use Rattle.umpire.specs.declared.fault.Fault.TheVariants.{Read, Write, Memory, File, Certificate}

-- a call has its group: one that is well formed, for its round and company, and accepted at its
-- position for its trains
abbrev pub HasGroup : Call → Option Group → Type 0
HasGroup call None = ⊥
HasGroup call (Some group) = Shows call.position call.round call.company call.trains group

-- calls have their groups, one each, in order; groups left over are not looked at
abbrev pub HaveGroups : List Call → List (Option Group) → Type 0
HaveGroups [] groups = Unit {0}
HaveGroups (call ∷ calls) [] = ⊥
HaveGroups (call ∷ calls) (group ∷ groups) = HasGroup call group × HaveGroups calls groups

-- each call of the one game of a file has its group: each RUN BEST that is obeyed
pub record HasAllGroups (file : List ℕ) (groups : List (Option Group)) : Type 0 where
  pub played : Played
  pub calls : List Call
  pub made : GameCalls file (Ok played) calls
  pub have : HaveGroups calls groups

-- a call of the one game of a file is the first that has none
pub record LacksGroup (file : List ℕ) (groups : List (Option Group)) (round : Round) (company : Company) : Type 0 where
  pub played : Played
  pub earlier : List Call
  pub call : Call
  pub later : List Call
  pub made : GameCalls file (Ok played) (earlier ++ call ∷ later)
  pub of_round : call.round ≡ round
  pub of_company : call.company ≡ company
  pub have : HaveGroups earlier groups
  pub lacks : ¬ HaveGroups (earlier ++ call ∷ []) groups

-- how the game of a file is judged by groups; nothing is said if allocation fails
abbrev pub IsJudged : {A : Type 0} → List ℕ → List (Option Group) → Result A PlayFault → Type 0
IsJudged file groups (Ok game) = HasAllGroups file groups
IsJudged file groups (Err (play.Refused round company)) = LacksGroup file groups round company
IsJudged file groups (Err play.Memory) = Unit {0}

-- the line that says that the best runs of a company in a round have no group
abbrev pub uncertified_line : Round → Company → List ℕ
uncertified_line round company =
    codes "CERTIFICATE REFUSED " ++ text_of_round round ++ 32 ∷ code_of_company company ++ 10 ∷ []

-- what is returned and written for an order file that is not refused, by the groups after it: an
-- outcome, and a text
abbrev pub AnswersGame : List ℕ → List (Option Group) → Result (Unit {0}) Fault → List ℕ → Type 0
AnswersGame file groups (Ok done) text = HasAllGroups file groups × IsReport file text
AnswersGame file groups (Err (Certificate round company)) text =
    LacksGroup file groups round company × (text ≡ uncertified_line round company)
AnswersGame file groups (Err (File fault)) text = ⊥
AnswersGame file groups (Err Read) text = ⊥
AnswersGame file groups (Err Write) text = ⊥
AnswersGame file groups (Err Memory) text = ⊥

-- for an order file that is not refused, this outcome is returned and this text follows what the
-- writer held
pub record IsGameAnswered (file : List ℕ) (groups : List (Option Group)) (outcome : Result (Unit {0}) Fault)
    (old new : Option (List ℕ)) : Type 0 where
  pub text : List ℕ
  pub answers : AnswersGame file groups outcome text
  pub written : Appends old new text

-- a prefix of its answer follows what the writer held
pub record IsGameCutShort (file : List ℕ) (groups : List (Option Group)) (old new : Option (List ℕ)) : Type 0 where
  pub outcome : Result (Unit {0}) Fault
  pub text : List ℕ
  pub answers : AnswersGame file groups outcome text
  pub prefix : AppendsPrefix old new text

-- nothing more is written, or such a prefix
abbrev pub IsGameCut : List ℕ → List (Option Group) → Option (List ℕ) → Option (List ℕ) → Type 0
IsGameCut file groups old new = Keeps old new ⊎ IsGameCutShort file groups old new

-- what a fault leaves there, and whether a call of the writer has failed
abbrev pub StopsGame : List ℕ → List (Option Group) → Option (List ℕ) → Option (List ℕ) → Bool → Fault → Type 0
StopsGame file groups old new failed Read = ⊥
StopsGame file groups old new failed Write = (failed ≡ true) × IsGameCut file groups old new
StopsGame file groups old new failed Memory = (failed ≡ false) × IsGameCut file groups old new
StopsGame file groups old new failed (File fault) = ⊥
StopsGame file groups old new failed (Certificate round company) =
    (failed ≡ false) × IsGameAnswered file groups (Err (Certificate round company)) old new

-- what the order file of an input says, or why the input is refused: its text of certificates is
-- over its limit, or the order file is refused
unfoldable pub content_of_input : List ℕ → Result Content FileFault
content_of_input input =
    if nat_lt certificates_most (length (certificates_of_input input))
    then Err TooLong
    else content_of (order_file_of input)

-- what is returned and written if a file is refused
abbrev pub IsRefusal : FileFault → Result (Unit {0}) Fault → List ℕ → Type 0
IsRefusal fault outcome text = (outcome ≡ Err (File fault)) × (text ≡ refusal_line fault)

-- what is returned and written for an input, by what it says
abbrev pub AnswersContent : List ℕ → Result Content FileFault → Result (Unit {0}) Fault → List ℕ → Type 0
AnswersContent input (Ok content) outcome text =
    AnswersGame (order_file_of input) (groups_of (certificates_of_input input)) outcome text
AnswersContent input (Err fault) outcome text = IsRefusal fault outcome text

-- what is returned and written for an input
abbrev pub AnswersInput : List ℕ → Result (Unit {0}) Fault → List ℕ → Type 0
AnswersInput input outcome text = AnswersContent input (content_of_input input) outcome text

-- for the input, this outcome is returned and the text follows what the writer held
pub record IsAnswered (given : Option (List ℕ)) (outcome : Result (Unit {0}) Fault) (old new : Option (List ℕ)) : Type
    0 where
  pub input : List ℕ
  pub text : List ℕ
  pub whole : IsFileOf given input
  pub answers : AnswersInput input outcome text
  pub written : Appends old new text

-- a prefix of its answer follows what the writer held
pub record IsAnswerCutShort (given old new : Option (List ℕ)) : Type 0 where
  pub input : List ℕ
  pub outcome : Result (Unit {0}) Fault
  pub text : List ℕ
  pub whole : IsFileOf given input
  pub answers : AnswersInput input outcome text
  pub prefix : AppendsPrefix old new text

-- nothing more is written, or such a prefix
abbrev pub IsAnswerCut : Option (List ℕ) → Option (List ℕ) → Option (List ℕ) → Type 0
IsAnswerCut given old new = Keeps old new ⊎ IsAnswerCutShort given old new

-- the line that says so follows what the writer held, where the best runs of a company have no group
abbrev pub IsUncertified : Option (List ℕ) → Option (List ℕ) → Option (List ℕ) → Round → Company → Type 0
IsUncertified given old new round company = IsAnswered given (Err (Certificate round company)) old new

-- the line that says so does, where a file is refused
abbrev pub IsInputRefused : Option (List ℕ) → Option (List ℕ) → Option (List ℕ) → FileFault → Type 0
IsInputRefused given old new fault = IsAnswered given (Err (File fault)) old new

-- what a fault leaves of an answer
abbrev pub StopsVerify : Option (List ℕ) → Option (List ℕ) → Option (List ℕ) → Bool → Bool → Fault → Type 0
StopsVerify given old new =
    StopsBy (IsAnswerCut given old new) (IsInputRefused given old new) (IsUncertified given old new) old new
