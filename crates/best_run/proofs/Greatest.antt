-- What the search finds is the greatest revenue, and the runs that the path gives earn it.
use Rattle.std.specs.Prelude.{◌≤◌}
use Rattle.std.proofs.Common.{◌≡◌, ℕ, ◌+◌, true, false, List, [], ◌∷◌, replicate, refl, sym, subst, ◌∙◌, arith}
use Rattle.std.specs.List.{AllByRecursion}
use Rattle.std.proofs.lemmas.List.{length-replicate}
use Rattle.reach.proofs.Collected.{none_marked}
use Rattle.reach.specs.Lawful.{IsLawful}
use Rattle.reach.specs.Position.{Position}
use Rattle.tables.specs.declared.rolling_stock.Kind.{Kind}
use Rattle.tables.specs.declared.roster.Company.{Company}
use Rattle.legal_runs.specs.Claim.{NameRuns}
use Rattle.legal_runs.specs.Law.{AreItsPlaces}
use Rattle.legal_runs.specs.Set.{IsGreatest, IsLegalSet, RunsLegally, TrainRun, revenue_of_runs}
use Rattle.legal_runs.specs.Written.{places_of}
use Rattle.legal_runs.proofs.Written.{legal_written}
use Rattle.best_run.specs.declared.memo.Found.{Found}
use Rattle.search_task.specs.declared.task.Task.{Task}
use Rattle.best_run.specs.declared.state.Assigned.{Assigned}
use Rattle.best_run.specs.declared.move_path.Mark.{Mark}
use Rattle.search_task.specs.Described.{Describes}
use Rattle.best_run.specs.Moves.{Earns, marks_of, start, total_after}
use Rattle.best_run.specs.Suffix.{IsTop}
use Rattle.best_run.specs.MovePath.{CanBeClaimed, marks_in, runs_of_marks, written}
use Rattle.best_run.proofs.Complete.{CanFinish}
use Rattle.best_run.proofs.Branches.{Used}
use Rattle.best_run.proofs.RunsOfSet.{finish_set}
use Rattle.best_run.proofs.Sets.{Avoids, IsWithin}
use Rattle.best_run.proofs.Sound.{RunsEarn, sound_from, two_at_least}

-- nothing is assigned at first
abbrev nothing : Assigned
nothing = record { next = 0; total = 0; kind = 0; cap = 0; used = replicate 279 false }

none_used : Used [] nothing
none_used =
    record {
      used = λ border. (
        λ marked. let wrong : true ≡ false =
            sym marked ∙ none_marked 279 border in cc,
        λ none. absurd none,
      );
      whole = length-replicate 279 false;
    }

-- all runs avoid no border
avoid_none : (runs : List TrainRun) → AllByRecursion (Avoids []) runs
avoid_none [] = tt
avoid_none (run ∷ runs) = ((λ border here none. none), avoid_none runs)

-- no train has run, so no run has a cap
within_none : (position : Position) (runs : List TrainRun) → AllByRecursion (IsWithin position 0 0) runs
within_none position [] = tt
within_none position (run ∷ runs) =
    ((λ same. absurd (omega (arith, same, two_at_least run.kind))), within_none position runs)

module _ (position : Position) (company : Company) (lawful : IsLawful position) where
  -- legal runs can be written in full, and their places name their walks
  pub can_claim : (runs : List TrainRun) → AllByRecursion (RunsLegally position company) runs
      → AllByRecursion CanBeClaimed runs
  can_claim [] legal = tt
  can_claim (run ∷ runs) legal =
      let places : AreItsPlaces position run.steps (places_of run.steps) =
      legal_written position company run.kind [] run.steps lawful legal.0 in
      (record { least = places.least; most = places.most }, can_claim runs legal.1)

  pub names_them : (runs : List TrainRun) → AllByRecursion (RunsLegally position company) runs
      → NameRuns position (written runs) runs
  names_them [] legal = tt
  names_them (run ∷ runs) legal =
      (refl, (legal_written position company run.kind [] run.steps lawful legal.0).name_it, names_them runs legal.1)

module _ (position : Position) (company : Company) (lawful : IsLawful position) (kinds : List Kind) (task : Task)
    (describes : Describes position company kinds task) where
  -- each legal set can be earned
  can_earn : (runs : List TrainRun) → IsLegalSet position company kinds runs
      → CanFinish task start (0 + revenue_of_runs position runs)
  can_earn runs set =
      finish_set position company kinds task describes lawful kinds runs [] nothing none_used describes.trains
      (record { legal = set.legal; each_once = set.each_once; apart = set.apart; avoid = avoid_none runs })
      (within_none position runs)

  -- the marks of moves from the start to the end give a legal set of runs
  pub record MarksEarn (marks : List Mark) (amount : ℕ) : Type 0 where
    pub set : IsLegalSet position company kinds (runs_of_marks kinds [] marks)
    pub earns : revenue_of_runs position (runs_of_marks kinds [] marks) ≡ amount

  pub marks_earn : (marks : List Mark) (amount : ℕ) → Earns task start marks amount → MarksEarn marks amount
  marks_earn marks amount earns =
      let read : RunsEarn position company lawful kinds task describes [] kinds nothing
      (total_after task start earns.moves) (runs_of_marks kinds [] (marks_of earns.moves)) =
      sound_from position company lawful kinds task describes earns.moves start earns.completes [] kinds none_used
      describes.trains in
      subst (λ (all : List Mark). MarksEarn all amount) (sym earns.marks_are)
      (record {
        set = record { legal = read.set.legal; each_once = read.set.each_once; apart = read.set.apart };
        earns = omega (arith, read.earns, earns.total);
      })

  -- what has been explored from the start is the greatest
  pub greatest_found : (found : Found) → IsTop task found → IsGreatest position company kinds found.amount
  greatest_found found top =
      let read : MarksEarn (marks_in found.move_path) found.amount =
      marks_earn (marks_in found.move_path) found.amount top.earns in
      record { earned = (runs_of_marks kinds [] (marks_in found.move_path), read.set, read.earns); most = most }
    where
      most : (runs : List TrainRun) → IsLegalSet position company kinds runs → revenue_of_runs position runs ≤ found.amount
      most runs set =
          let can : CanFinish task start (0 + revenue_of_runs position runs) = can_earn runs set in
          let low = top.most can.0 can.1 in
          omega (arith, low, can.2)
