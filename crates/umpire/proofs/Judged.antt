-- How the game of a file is judged by groups, by the calls of the runner that uses one for each.
use Rattle.std.proofs.Common.{◌≡◌, ℕ, ℤ, List, [], ◌∷◌, ◌++◌, Option, Some, None, Result, Ok, Err, sym, subst, inl, inr}
use Rattle.std.proofs.lemmas.List.{append-nil}
use Rattle.std.specs.Prelude.{IsOk}
use Rattle.certificate.specs.Checked.{AnswersBy, AnswersByNext}
use Rattle.certificate.specs.declared.group.Group.{Group}
use Rattle.legal_runs.specs.declared.runner.RunnerFault.{RunnerFault}
use Rattle.legal_runs.specs.declared.runner.RunnerFault.TheVariants as runner
use Rattle.operating.specs.Calls.{AreAnswered, AreCutShort, AreMade, Call, unanswered}
use Rattle.rounds.specs.Faults.{fault_in_turn}
use Rattle.rounds.specs.GameCalls.{ArePrefix, GameCalls, RefusedCallsAreAPrefix, SomeCalls}
use Rattle.rounds.specs.Play.{Played}
use Rattle.rounds.specs.StepsCall.{GamesAreAnswered}
use Rattle.rounds.specs.declared.fault.PlayFault.{PlayFault}
use Rattle.rounds.specs.declared.fault.PlayFault.TheVariants as play
use Rattle.sheets.specs.File.{IsAccepted}
use Rattle.tables.specs.declared.roster.Company.{Company}
use Rattle.tables.specs.declared.round.Round.{Round}
use Rattle.umpire.specs.Verifier.{AnswersByText}
use Rattle.umpire.specs.Verify.{HasAllGroups, HasGroup, HaveGroups, IsJudged, LacksGroup}

-- a call that succeeds by a group has it
has_group :
    (call : Call) (group : Option Group) (answer : Result ℤ RunnerFault) →
    AnswersBy call.position call.round call.company call.trains group answer → IsOk answer → HasGroup call group
has_group call None (Ok money) by answered = absurd cc
has_group call None (Err fault) by answered = absurd cc
has_group call (Some group) (Ok money) by answered = by.0
has_group call (Some group) (Err fault) by answered = absurd cc

-- a call that is answered, or refused, has used the next group
answered_by :
    (call : Call) (groups left : List (Option Group)) →
    AnswersByText groups call.position call.round call.company call.trains call.answer left → IsOk call.answer →
    AnswersByNext groups call.position call.round call.company call.trains call.answer left
answered_by call groups left (inl memory) answered =
    absurd (let wrong : IsOk {T = ℤ} (Err runner.Memory) =
    subst (λ (answer : Result ℤ RunnerFault). IsOk answer) memory answered in cc)
answered_by call groups left (inr by) answered = by

refused_by_next :
    (call : Call) (groups left : List (Option Group)) →
    AnswersByText groups call.position call.round call.company call.trains (Err runner.Refused) left →
    AnswersByNext groups call.position call.round call.company call.trains (Err runner.Refused) left
refused_by_next call groups left (inl memory) = absurd cc
refused_by_next call groups left (inr by) = by

-- calls that are made after others are made with them
pub made_after :
    (before between after : List (Option Group)) (earlier later : List Call)
    → AreMade AnswersByText before earlier between →
    AreMade AnswersByText between later after → AreMade AnswersByText before (earlier ++ later) after
made_after before between after [] later is made =
    subst (λ (from : List (Option Group)). AreMade AnswersByText from later after) is made
made_after before between after (call ∷ earlier) later made others =
    (made.0, made.1, made_after made.0 between after earlier later made.2 others)

-- so have calls that succeed, whatever is called after them
have_groups :
    (calls rest others : List Call) (groups left : List (Option Group))
    → AreMade AnswersByText groups (calls ++ rest) left →
    AreAnswered (calls ++ others) → HaveGroups calls groups
have_groups [] rest others groups left made answered = tt
have_groups (call ∷ calls) rest others [] left made answered =
    absurd (let wrong : IsOk {T = ℤ} (Err runner.Refused) =
    subst (λ (answer : Result ℤ RunnerFault). IsOk answer) (answered_by call [] made.0 made.1 answered.0).0 answered.0
    in cc)
have_groups (call ∷ calls) rest others (group ∷ groups) left made answered =
    let by = answered_by call (group ∷ groups) made.0 made.1 answered.0 in (
      has_group call group call.answer by.0 answered.0,
      have_groups calls rest others groups left (subst
          (λ (after : List (Option Group)). AreMade AnswersByText after (calls ++ rest) left) by.1 made.2) answered.1,
    )

-- so have all
have_all : (calls : List Call) (groups left : List (Option Group)) → AreMade AnswersByText groups calls left
    → AreAnswered calls → HaveGroups calls groups
have_all calls groups left made answered =
    have_groups calls [] [] groups left (subst (λ (all : List Call). AreMade AnswersByText groups all left)
    (sym (append-nil calls)) made)
    (subst AreAnswered (sym (append-nil calls)) answered)

-- a call that is refused has no group, where those before it are answered
lacks_group :
    (earlier others : List Call) (next : Call) (groups left : List (Option Group)) →
    AreMade AnswersByText groups (earlier ++ unanswered runner.Refused next ∷ []) left → AreAnswered (earlier ++ others)
    → HaveGroups (earlier ++ next ∷ []) groups → ⊥
lacks_group [] others next [] left made answered have = have
lacks_group [] others next (None ∷ groups) left made answered have = have.0
lacks_group [] others next (Some group ∷ groups) left made answered have =
    (refused_by_next next (Some group ∷ groups) made.0 made.1).0 have.0
lacks_group (call ∷ earlier) others next [] left made answered have = have
lacks_group (call ∷ earlier) others next (group ∷ groups) left made answered have =
    let by = answered_by call (group ∷ groups) made.0 made.1 answered.0 in
    lacks_group earlier others next groups left
    (subst (λ (after : List (Option Group)). AreMade AnswersByText after
    (earlier ++ unanswered runner.Refused next ∷ []) left) by.1 made.2) answered.1 have.1

-- the call that broke play off is the first that has no group
lacks :
    (file : List ℕ) (played : Played) (some whole : List Call) (groups left : List (Option Group)) (round : Round)
    (company : Company) (why : RunnerFault) →
    (short : AreCutShort why some whole) → play.Refused round company
    ≡ fault_in_turn why short.next.round short.next.company →
    GameCalls file (Ok played) whole → AreAnswered whole → AreMade AnswersByText groups some left
    → LacksGroup file groups round company
lacks file played some whole groups left round company runner.Memory short fault is answered made = absurd cc
lacks file played some whole groups left round company runner.Refused short fault is answered made =
    let cut = subst (λ (calls : List Call). AreMade AnswersByText groups calls left) short.cut made in
    let before = subst AreAnswered short.are answered in
    record {
      played = played;
      earlier = short.earlier;
      call = short.next;
      later = short.later;
      made = subst (λ (calls : List Call). GameCalls file (Ok played) calls) short.are is;
      of_round = cc;
      of_company = cc;
      have = have_groups short.earlier (unanswered runner.Refused short.next ∷ []) (short.next ∷ short.later) groups
          left cut before;
      lacks = lacks_group short.earlier (short.next ∷ short.later) short.next groups left cut before;
    }

-- a game that a refusal broke off
pub refused_lacks :
    (file : List ℕ) (groups : List (Option Group)) (fault : PlayFault) (round : Round) (company : Company)
    → fault ≡ play.Refused round company →
    IsJudged {A = List ℕ} file groups (Err fault) → LacksGroup file groups round company
refused_lacks file groups fault round company is judged =
    subst (λ (why : PlayFault). IsJudged {A = List ℕ} file groups (Err why)) is judged

module _ (answered : GamesAreAnswered) (some_calls : SomeCalls) (prefixes : RefusedCallsAreAPrefix) (file : List ℕ)
    (accepted : IsAccepted file) where
  -- play that was broken off by a refusal
  refused_by :
      (groups left : List (Option Group)) (round : Round) (company : Company) (some whole : List Call)
      (played : Played) →
      GameCalls file (Ok played) whole → AreMade AnswersByText groups some left
      → ArePrefix (play.Refused round company) some whole →
      LacksGroup file groups round company
  refused_by groups left round company some whole played is made prefix =
      elim prefix [
        | inl first ↦ absurd (let wrong : play.Refused round company ≡ play.Memory = first.0 in cc)
        | inr short ↦ lacks file played some whole groups left round company short.0 short.1 short.2 is
            (answered file played whole is) made
      ]

  -- a game whose calls succeed has all its groups
  pub answered_have :
      (groups left : List (Option Group)) (played : Played) (calls : List Call) → GameCalls file (Ok played) calls →
      AreMade AnswersByText groups calls left → HasAllGroups file groups
  answered_have groups left played calls is made =
      record {
        played = played;
        calls = calls;
        made = is;
        have =
            have_all calls groups left made (answered file played calls is);
      }

  -- a game that was broken off is judged by its last call
  pub broken_judged :
      (groups left : List (Option Group)) (fault : PlayFault) (calls : List Call) → GameCalls file (Err fault) calls →
      AreMade AnswersByText groups calls left → IsJudged {A = List ℕ} file groups (Err fault)
  broken_judged groups left play.Memory calls is made = tt
  broken_judged groups left (play.Refused round company) calls is made =
      let whole = some_calls file accepted in
      refused_by groups left round company calls whole.1 whole.0 whole.2 made
      (prefixes file (play.Refused round company) whole.0 calls whole.1 is whole.2)
