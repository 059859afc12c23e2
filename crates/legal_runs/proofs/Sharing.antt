-- A run that is legal after another shares no border with it; and what is legal by the marks of the
-- used borders is so by the borders themselves.
use Rattle.std.proofs.Common.{ℕ, inl, List, [], ◌∷◌, ◌++◌}
use Rattle.std.specs.List.{AllByRecursion}
use Rattle.reach.specs.Position.{Position, IsAmong}
use Rattle.reach.specs.declared.walk.WalkStep.{WalkStep}
use Rattle.tables.specs.declared.rolling_stock.Kind.{Kind}
use Rattle.tables.specs.declared.roster.Company.{Company}
use Rattle.legal_runs.specs.Law.{LegalByMarks, RunsShareNoBorder}
use Rattle.legal_runs.specs.Legal.{IsLegalRun, crossed}
use Rattle.legal_runs.specs.Marks.{borders_used}
use Rattle.legal_runs.proofs.Marks.{among_both, used_is}

-- borders that are none of some are none of others that are among these
pub apart :
    (used others : List ℕ) → ((border : ℕ) → IsAmong border others → IsAmong border used) → (borders : List ℕ) →
    AllByRecursion (λ border. ¬ IsAmong border used) borders
    → AllByRecursion (λ border. ¬ IsAmong border others) borders
apart used others makes [] free = tt
apart used others makes (border ∷ borders) free =
    (λ among. free.0 (makes border among), apart used others makes borders free.1)

pub share_none : RunsShareNoBorder
share_none position company kind used first second run =
    apart (crossed first ++ used) (crossed first) (λ border among. (among_both border (crossed first) used).1
    (inl among)) (crossed second) run.no_used_border

-- a run that is legal where some borders are used is so where others are that are among these
pub legal_over :
    (position : Position) (company : Company) (kind : Kind) (used others : List ℕ)
    → ((border : ℕ) → IsAmong border others → IsAmong border used) →
    (steps : List WalkStep) → IsLegalRun position company kind used steps → IsLegalRun position company kind others steps
legal_over position company kind used others makes steps run = record {
  walk = run.walk;
  begins = run.begins;
  ends = run.ends;
  two = run.two;
  most = run.most;
  no_stop_twice = run.no_stop_twice;
  own_token = run.own_token;
  no_border_twice = run.no_border_twice;
  no_used_border = apart used others makes (crossed steps) run.no_used_border;
  no_red_inside = run.no_red_inside;
  no_full_inside = run.no_full_inside;
}

pub legal_by_marks : LegalByMarks
legal_by_marks position company kind used marks steps are = (
  legal_over position company kind (borders_used marks) used
      (λ border among. (used_is marks border).0 ((are.exact border).1 among)) steps,
  legal_over position company kind used (borders_used marks)
      (λ border among. (are.exact border).0 ((used_is marks border).1 among)) steps,
)
