-- How a runner goes by a text of certificates: each call uses the next of its groups, of which no
-- more runs need to be read than there are trains.
use Rattle.std.specs.Prelude.{◌≡◌, ◌⊎◌, ◌<◌, ℕ, ℤ, List, length, Option, Some, None, Result, Err}
use Rattle.certificate.specs.Checked.{AnswersByNext}
use Rattle.certificate.specs.declared.group.Group.{Group}
use Rattle.legal_runs.specs.declared.runner.RunnerFault.{RunnerFault}
use Rattle.legal_runs.specs.declared.runner.RunnerFault.TheVariants.{Memory}
use Rattle.reach.specs.Position.{Position}
use Rattle.tables.specs.declared.rolling_stock.Kind.{Kind}
use Rattle.tables.specs.declared.roster.Company.{Company}
use Rattle.tables.specs.declared.round.Round.{Round}

-- what is read of a group for so many trains: the group, or none if it is malformed or claims more
-- runs
abbrev pub IsReadFor : ℕ → Option Group → Option Group → Type 0
IsReadFor trains None None = Unit {0}
IsReadFor trains None (Some read) = ⊥
IsReadFor trains (Some group) None = trains < length group.claim.runs
IsReadFor trains (Some group) (Some read) = read ≡ group

-- what a call returns by the next of some groups; or an allocation failed, and then nothing is said
-- of the groups that are left
abbrev pub AnswersByText : List (Option Group) → Position → Round → Company → List Kind → Result ℤ RunnerFault
    → List (Option Group) → Type 0
AnswersByText groups position round company trains answer left =
    (answer ≡ Err Memory) ⊎ AnswersByNext groups position round company trains answer left
