-- What play calls a runner for. A course of play leads from somewhere to somewhere else, or to a
-- fault that breaks it off; and it makes calls of the runner, in order. Of courses one after
-- another, the calls of the second come after those of the first. If the first is broken off, the
-- second does not begin.
use Rattle.std.specs.List.{AllByRecursion}
use Rattle.std.specs.Prelude.{ℤ, List, Result, ◌≡◌, [], ◌∷◌, Ok, Err, ◌++◌, ◌⊎◌, ℕ, zero, suc, IsOk}
use Rattle.legal_runs.specs.declared.runner.RunnerFault.{RunnerFault}
use Rattle.reach.specs.Position.{Position}
use Rattle.tables.specs.declared.rolling_stock.Kind.{Kind}
use Rattle.tables.specs.declared.roster.Company.{Company}
use Rattle.tables.specs.declared.round.Round.{Round}

-- a call of a runner: its arguments, and its result
pub record Call : Type 0 where
  pub position : Position
  pub round : Round
  pub company : Company
  pub trains : List Kind
  pub answer : Result ℤ RunnerFault

-- what a runner makes of a call: its value before, the arguments, the result, and its value after
abbrev pub Earns : Type 0 → Type 1
Earns Runner = Runner → Position → Round → Company → List Kind → Result ℤ RunnerFault → Runner → Type 0

-- calls in this order make the runner before them the one after them
abbrev pub AreMade : {Runner : Type 0} → Earns Runner → Runner → List Call → Runner → Type 0
AreMade earns before [] after = after ≡ before
AreMade {Runner = Runner} earns before (call ∷ calls) after =
    (between : Runner) × earns before call.position call.round call.company call.trains call.answer between
    × AreMade earns between calls after

-- some calls do, of which this holds
abbrev pub Makes : {Runner : Type 0} → Earns Runner → Runner → (List Call → Type 0) → Runner → Type 0
Makes earns before Are after = (calls : List Call) × Are calls × AreMade earns before calls after

-- a course of play from A to B, or to a fault
abbrev pub Course : Type 0 → Type 0 → Type 0 → Type 1
Course A B Fault = A → Result B Fault → List Call → Type 0

-- a course that makes no call: it leads so, or allocation fails
abbrev pub Unasked : {A B Fault : Type 0} → Fault → (A → B → Type 0) → Course A B Fault
Unasked memory leads from (Ok to) calls = leads from to × (calls ≡ [])
Unasked memory leads from (Err fault) calls = (fault ≡ memory) × (calls ≡ [])

-- a course is broken off
abbrev pub Breaks : {A B C Fault : Type 0} → Course A B Fault → Course A C Fault
Breaks course from (Ok to) calls = ⊥
Breaks course from (Err fault) calls = course from (Err fault) calls

-- a course leads to where another begins
pub record Joins {A B C Fault : Type 0} (first : Course A B Fault) (second : Course B C Fault) (from : A)
    (outcome : Result C Fault) (calls : List Call) : Type 0 where
  pub between : B
  pub earlier : List Call
  pub later : List Call
  pub leads : first from (Ok between) earlier
  pub goes_on : second between outcome later
  pub all : calls ≡ earlier ++ later

-- one course after another
abbrev pub Then : {A B C Fault : Type 0} → Course A B Fault → Course B C Fault → Course A C Fault
Then first second from outcome calls = Breaks first from outcome calls ⊎ Joins first second from outcome calls

-- a course this many times, and then another
abbrev pub TimesThen : {A B Fault : Type 0} → ℕ → Course A A Fault → Course A B Fault → Course A B Fault
TimesThen zero course last = last
TimesThen (suc times) course last = Then course (TimesThen times course last)

-- a course some times, and then another
abbrev pub SomeTimesThen : {A B Fault : Type 0} → Course A A Fault → Course A B Fault → Course A B Fault
SomeTimesThen course last from outcome calls = (times : ℕ) × TimesThen times course last from outcome calls

-- a course whose faults have another name
abbrev pub Named : {A B Fault Other : Type 0} → (Fault → Other) → Course A B Fault → Course A B Other
Named name course from (Ok to) calls = course from (Ok to) calls
Named {Fault = Fault} name course from (Err named) calls =
    (fault : Fault) × (named ≡ name fault) × course from (Err fault) calls

-- a call that failed, for this fault
abbrev pub unanswered : RunnerFault → Call → Call
unanswered why call = record call { answer = Err why }

-- some calls are the first of all
pub record AreFirst (some all : List Call) : Type 0 where
  pub later : List Call
  pub are : all ≡ some ++ later

-- some calls are the first of all up to their last, which has the arguments of the next of all, and
-- failed
pub record AreCutShort (why : RunnerFault) (some all : List Call) : Type 0 where
  pub earlier : List Call
  pub next : Call
  pub later : List Call
  pub are : all ≡ earlier ++ next ∷ later
  pub cut : some ≡ earlier ++ unanswered why next ∷ []

-- The calls of a course that was broken off are a prefix of all its calls. If allocation failed,
-- they are the first of them; otherwise those up to one that failed, which the fault names.
abbrev pub IsPrefix : {Fault : Type 0} → Fault → (Fault → RunnerFault → Call → Type 0) → Fault → List Call → List Call
    → Type 0
IsPrefix memory Tells fault some all =
    ((fault ≡ memory) × AreFirst some all)
    ⊎ ((why : RunnerFault) × (short : AreCutShort why some all) × Tells fault why short.next)

-- each of some calls succeeded
abbrev pub AreAnswered : List Call → Type 0
AreAnswered calls = AllByRecursion (λ call. IsOk call.answer) calls

-- the calls of a course succeed if it leads on
abbrev pub IsAnswered : {A B F : Type 0} → Course A B F → Type 0
IsAnswered {A = A} {B = B} course =
    (from : A) (to : B) (calls : List Call) → course from (Ok to) calls → AreAnswered calls
