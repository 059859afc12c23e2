-- What a verifier answers: by the next group of its text, of which no more runs are read than there
-- are trains.
use Rattle.std.proofs.Common.{◌≡◌, ℕ, ◌+◌, ◌<◌, ◌≤◌, inr, suc, ℤ, List, [], ◌∷◌, ◌++◌, length, refl, sym, ap, subst}
use Rattle.std.proofs.Common.{cond, true, false, arith}
use Rattle.std.proofs.lemmas.List.{length-append}
use Rattle.std.specs.Prelude.{Bool, Option, Some, None, Result, Ok, Err}
use Rattle.certificate.specs.Checked.{AnswersBy, AnswersByNext, Shows}
use Rattle.certificate.specs.declared.group.Group.{Group}
use Rattle.legal_runs.proofs.Choosing.{no_more_taken}
use Rattle.legal_runs.specs.Claim.{ClaimHolds, NameRuns}
use Rattle.legal_runs.specs.Set.{TrainRun, trains_that_run}
use Rattle.legal_runs.specs.declared.claim.Claim.{Claim}
use Rattle.legal_runs.specs.declared.claim.ClaimedRun.{ClaimedRun}
use Rattle.legal_runs.specs.declared.runner.RunnerFault.{RunnerFault}
use Rattle.legal_runs.specs.declared.runner.RunnerFault.TheVariants.{Refused}
use Rattle.order_grammar.specs.Line.{cert_reading_of}
use Rattle.order_grammar.specs.Words.{words_of}
use Rattle.order_grammar.specs.declared.fault.Fault.{Fault}
use Rattle.order_grammar.specs.declared.order.Order.{Order}
use Rattle.order_grammar.specs.declared.order.Order.TheVariants.{Blank, Claim as ClaimLine, Marks}
use Rattle.reach.specs.Position.{Position}
use Rattle.tables.specs.declared.rolling_stock.Kind.{Kind}
use Rattle.tables.specs.declared.roster.Company.{Company}
use Rattle.tables.specs.declared.round.Round.{Round}
use Rattle.umpire.proofs.GroupLemmas.{malformed}
use Rattle.umpire.specs.Groups.{begins_group, group_with_line, with_lines, with_reading, with_run}
use Rattle.umpire.specs.Verifier.{AnswersByText, IsReadFor}

-- each run that is claimed is of a train
claimed_counted : (position : Position) (claimed : List ClaimedRun) (runs : List TrainRun)
    → NameRuns position claimed runs → length claimed ≡ length (trains_that_run runs)
claimed_counted position [] [] named = refl
claimed_counted position [] (run ∷ runs) named = absurd named
claimed_counted position (claimed ∷ others) [] named = absurd named
claimed_counted position (claimed ∷ others) (run ∷ runs) named =
    ap suc (claimed_counted position others runs named.2)

few_claimed : (position : Position) (company : Company) (trains : List Kind) (claim : Claim)
    → ClaimHolds position company trains claim → length claim.runs ≤ length trains
few_claimed position company trains claim holds =
    omega (
      arith,
      claimed_counted position claim.runs holds.0 holds.1,
      no_more_taken trains (trains_that_run holds.0) holds.2.each_once,
    )

-- a group with more runs than trains stays so
run_grows : (group : Group) (run : ClaimedRun) (bits : List Bool) (most : ℕ) → most < length group.claim.runs
    → IsReadFor most (with_run group run bits) None
run_grows group run [] most many =
    let longer : length (group.claim.runs ++ run ∷ []) ≡ length group.claim.runs + 1 =
    length-append group.claim.runs (run ∷ []) in
    omega (arith, longer, many)
run_grows group run (bit ∷ bits) most many = tt

reading_grows : (group : Group) (words : List (List ℕ)) (reading : Result Order Fault) (most : ℕ)
    → most < length group.claim.runs → IsReadFor most (with_reading group words reading) None
reading_grows group words (Ok Blank) most many = many
reading_grows group words (Ok (ClaimLine kind run)) most many =
    run_grows group (record { kind = kind; run = run }) group.bits most many
reading_grows group words (Ok Marks) most many = many
reading_grows group words other most many = tt

line_grows : (group : Group) (line : List ℕ) (most : ℕ) → most < length group.claim.runs
    → IsReadFor most (group_with_line group line) None
unfolding group_with_line
line_grows group line most many = reading_grows group (words_of line) (cert_reading_of line) most many

too_many_by : (lines : List (List ℕ)) (next : Option Group) (most : ℕ) → IsReadFor most next None
    → IsReadFor most (with_lines lines next) None
too_many_by lines None most many =
    subst (λ (group : Option Group). IsReadFor most group None) (sym (malformed lines)) tt
too_many_by [] (Some group) most many = many
too_many_by (line ∷ lines) (Some group) most many =
    elim (begins_group line) as (λ b. IsReadFor most (cond b (Some group) (with_lines lines (group_with_line group line))) None)
    [ true ↦ many | false ↦ too_many_by lines (group_with_line group line) most (line_grows group line most many) ]

pub too_many : (lines : List (List ℕ)) (group : Group) (whole : Option Group) (most : ℕ)
    → most < length group.claim.runs → with_lines lines (Some group) ≡ whole → IsReadFor most whole None
too_many lines group whole most many is =
    subst (λ (made : Option Group). IsReadFor most made None) is (too_many_by lines (Some group) most many)

-- what is read is malformed, as the group is
pub none_of : (whole : Option Group) (most : ℕ) → whole ≡ None → IsReadFor most whole None
none_of whole most is = subst (λ (made : Option Group). IsReadFor most made None) (sym is) tt

module _ (position : Position) (round : Round) (company : Company) (trains : List Kind) where
  -- a group with more runs than trains shows nothing
  not_shown : (group : Group) → length trains < length group.claim.runs → Shows position round company trains group → ⊥
  not_shown group many shows =
      let few : length group.claim.runs ≤ length trains =
      few_claimed position company trains group.claim shows.accepted.claim_holds in
      first_of (omega (arith, few, many), grind (arith, few, many))

  refused_by_none : (whole : Option Group) → IsReadFor (length trains) whole None
      → AnswersBy position round company trains whole (Err Refused)
  refused_by_none None read = refl
  refused_by_none (Some group) read = λ shows. not_shown group read shows

  by_read : (whole : Option Group) (read : Group) (answer : Result ℤ RunnerFault)
      → IsReadFor (length trains) whole (Some read) → AnswersBy position round company trains (Some read) answer
      → AnswersBy position round company trains whole answer
  by_read None read answer is by = absurd is
  by_read (Some group) read answer is by =
      subst (λ (made : Group). AnswersBy position round company trains (Some made) answer) is by

  by_what_is_read : (whole read : Option Group) (answer : Result ℤ RunnerFault)
      → IsReadFor (length trains) whole read → AnswersBy position round company trains read answer
      → AnswersBy position round company trains whole answer
  by_what_is_read whole None answer is by =
      subst (λ (its : Result ℤ RunnerFault). AnswersBy position round company trains whole its) (sym by)
      (refused_by_none whole is)
  by_what_is_read whole (Some read) answer is by = by_read whole read answer is by

  -- the next one is read, and used
  pub next_used : (groups left : List (Option Group)) (whole read : Option Group) (answer : Result ℤ RunnerFault)
      → groups ≡ whole ∷ left → IsReadFor (length trains) whole read
      → AnswersBy position round company trains read answer
      → AnswersByText groups position round company trains answer left
  next_used groups left whole read answer is taken by =
      inr (subst (λ (some : List (Option Group)). AnswersByNext some position round company trains answer left) (sym is)
      (by_what_is_read whole read answer taken by, refl))
