-- An input has one answer: its game has one list of calls, of which one is the first that has no
-- group, or none is; and one report.
use Rattle.std.proofs.Common.{◌≡◌, ℕ, List, [], ◌∷◌, ◌++◌, Option, Result, Ok, Err, refl, sym, ap, subst, ◌∙◌}
use Rattle.certificate.specs.declared.group.Group.{Group}
use Rattle.operating.specs.Calls.{Call}
use Rattle.report.specs.Report.{IsReport}
use Rattle.rounds.specs.GameCalls.{OneListOfCalls}
use Rattle.sheets.specs.File.{Content}
use Rattle.sheets.specs.declared.fault.FileFault.{FileFault}
use Rattle.tables.specs.declared.roster.Company.{Company}
use Rattle.tables.specs.declared.round.Round.{Round}
use Rattle.umpire.specs.Groups.{groups_of}
use Rattle.umpire.specs.OneAnswer.{OneAnswer}
use Rattle.umpire.specs.InputSplit.{certificates_of_input, order_file_of}
use Rattle.umpire.specs.Verify.{AnswersContent, AnswersGame, HasAllGroups, HaveGroups, LacksGroup}
use Rattle.umpire.specs.Verify.{content_of_input, uncertified_line}
use Rattle.umpire.specs.declared.fault.Fault.{Fault}
use Rattle.umpire.specs.declared.fault.Fault.TheVariants.{Read, Write, Memory, File, Certificate}

-- where calls have their groups, the first of them have
first_have : (earlier later : List Call) (call : Call) (groups : List (Option Group))
    → HaveGroups (earlier ++ call ∷ later) groups → HaveGroups (earlier ++ call ∷ []) groups
first_have [] later call [] have = have
first_have [] later call (group ∷ groups) have = (have.0, tt)
first_have (first ∷ earlier) later call [] have = have
first_have (first ∷ earlier) later call (group ∷ groups) have =
    (have.0, first_have earlier later call groups have.1)

-- the first call of a list, and those behind it
first_of_calls : Call → List Call → Call
first_of_calls other [] = other
first_of_calls other (call ∷ calls) = call

behind_first : List Call → List Call
behind_first [] = []
behind_first (call ∷ calls) = calls

same_first : (a b : Call) (some others : List Call) → a ∷ some ≡ b ∷ others → a ≡ b
unfolding first_of_calls
same_first a b some others is = ap (λ (calls : List Call). first_of_calls a calls) is

same_behind : (a b : Call) (some others : List Call) → a ∷ some ≡ b ∷ others → some ≡ others
unfolding behind_first
same_behind a b some others is = ap behind_first is

-- of one list of calls one is the first without its group
same_lack :
    (some others later behind : List Call) (a b : Call) (groups : List (Option Group)) →
    some ++ a ∷ later ≡ others ++ b ∷ behind → HaveGroups some groups → (HaveGroups (some ++ a ∷ []) groups → ⊥) →
    HaveGroups others groups → (HaveGroups (others ++ b ∷ []) groups → ⊥) → a ≡ b
same_lack [] [] later behind a b groups is have lacks have_others lack_others = same_first a b later behind is
same_lack [] (other ∷ others) later behind a b [] is have lacks have_others lack_others = absurd have_others
same_lack [] (other ∷ others) later behind a b (group ∷ groups) is have lacks have_others lack_others =
    let same : other ≡ a = sym (same_first a other later (others ++ b ∷ behind) is) in
    absurd (lacks (subst (λ (call : Call). HaveGroups (call ∷ []) (group ∷ groups)) same (have_others.0, tt)))
same_lack (call ∷ some) [] later behind a b [] is have lacks have_others lack_others = absurd have
same_lack (call ∷ some) [] later behind a b (group ∷ groups) is have lacks have_others lack_others =
    let same : call ≡ b = same_first call b (some ++ a ∷ later) behind is in
    absurd (lack_others (subst (λ (first : Call). HaveGroups (first ∷ []) (group ∷ groups)) same (have.0, tt)))
same_lack (call ∷ some) (other ∷ others) later behind a b [] is have lacks have_others lack_others = absurd have
same_lack (call ∷ some) (other ∷ others) later behind a b (group ∷ groups) is have lacks have_others lack_others =
    same_lack some others later behind a b groups
    (same_behind call other (some ++ a ∷ later) (others ++ b ∷ behind) is) have.1
    (λ more. lacks (have.0, more)) have_others.1 (λ more. lack_others (have_others.0, more))

module _ (one_list : OneListOfCalls)
    (one_report : (file a b : List ℕ) → IsReport file a → IsReport file b → a ≡ b) where
  -- no game has all groups and lacks one
  not_both : (file : List ℕ) (groups : List (Option Group)) (round : Round) (company : Company)
      → HasAllGroups file groups → LacksGroup file groups round company → ⊥
  not_both file groups round company all lack =
      let same : all.calls ≡ lack.earlier ++ lack.call ∷ lack.later =
      (one_list file all.played lack.played all.calls (lack.earlier ++ lack.call ∷ lack.later) all.made lack.made).1 in
      lack.lacks (first_have lack.earlier lack.later lack.call groups
      (subst (λ (calls : List Call). HaveGroups calls groups) same all.have))

  same_call : (file : List ℕ) (groups : List (Option Group)) (round other : Round) (company another : Company)
      → (a : LacksGroup file groups round company) → (b : LacksGroup file groups other another) → a.call ≡ b.call
  same_call file groups round other company another a b =
      same_lack a.earlier b.earlier a.later b.later a.call b.call groups
      (one_list file a.played b.played (a.earlier ++ a.call ∷ a.later) (b.earlier ++ b.call ∷ b.later) a.made b.made).1
      a.have a.lacks b.have b.lacks

  same_line : (file : List ℕ) (groups : List (Option Group)) (round other : Round) (company another : Company)
      (s t : List ℕ) → LacksGroup file groups round company → LacksGroup file groups other another
      → s ≡ uncertified_line round company → t ≡ uncertified_line other another
      → ◌≡◌ {A = Result (Unit {0}) Fault} (Err (Certificate round company)) (Err (Certificate other another)) × (s ≡ t)
  same_line file groups round other company another s t a b first second =
      let call = same_call file groups round other company another a b in
      let rounds : round ≡ other = sym a.of_round ∙ ap (λ (c : Call). c.round) call ∙ b.of_round in
      let companies : company ≡ another = sym a.of_company ∙ ap (λ (c : Call). c.company) call ∙ b.of_company in
      rw (first, second, rounds, companies) (refl, refl)

  -- of a game
  one_of_game : (file : List ℕ) (groups : List (Option Group)) (a b : Result (Unit {0}) Fault) (s t : List ℕ)
      → AnswersGame file groups a s → AnswersGame file groups b t → (a ≡ b) × (s ≡ t)
  one_of_game file groups (Ok a) (Ok b) s t some other = (refl, one_report file s t some.1 other.1)
  one_of_game file groups (Ok a) (Err (Certificate round company)) s t some other =
      absurd (not_both file groups round company some.0 other.0)
  one_of_game file groups (Ok a) (Err (File fault)) s t some other = absurd other
  one_of_game file groups (Ok a) (Err Read) s t some other = absurd other
  one_of_game file groups (Ok a) (Err Write) s t some other = absurd other
  one_of_game file groups (Ok a) (Err Memory) s t some other = absurd other
  one_of_game file groups (Err (Certificate round company)) (Ok b) s t some other =
      absurd (not_both file groups round company other.0 some.0)
  one_of_game file groups (Err (Certificate round company)) (Err (Certificate other another)) s t a b =
      same_line file groups round other company another s t a.0 b.0 a.1 b.1
  one_of_game file groups (Err (Certificate round company)) (Err (File fault)) s t some other = absurd other
  one_of_game file groups (Err (Certificate round company)) (Err Read) s t some other = absurd other
  one_of_game file groups (Err (Certificate round company)) (Err Write) s t some other = absurd other
  one_of_game file groups (Err (Certificate round company)) (Err Memory) s t some other = absurd other
  one_of_game file groups (Err (File fault)) b s t some other = absurd some
  one_of_game file groups (Err Read) b s t some other = absurd some
  one_of_game file groups (Err Write) b s t some other = absurd some
  one_of_game file groups (Err Memory) b s t some other = absurd some

  -- of an input, by what it says
  one_by : (input : List ℕ) (content : Result Content FileFault) (a b : Result (Unit {0}) Fault) (s t : List ℕ)
      → AnswersContent input content a s → AnswersContent input content b t → (a ≡ b) × (s ≡ t)
  one_by input (Ok content) a b s t some other =
      one_of_game (order_file_of input) (groups_of (certificates_of_input input)) a b s t some other
  one_by input (Err fault) a b s t some other = (some.0 ∙ sym other.0, some.1 ∙ sym other.1)

  pub one_answer : OneAnswer
  one_answer input a b s t some other = one_by input (content_of_input input) a b s t some other
