-- The runs of a claim are a legal set exactly if they are legal one after the other and no more
-- than the trains.
use Rattle.std.specs.Prelude.{Option}
use Rattle.std.specs.Prelude.{unwrap_or}
use Rattle.std.proofs.Common.{◌≡◌, ◌↔◌, ℕ, ◌+◌, ◌-◌, ◌≤◌, Bool, true, false, cond, if◌then◌else◌, count_by, inl}
use Rattle.std.proofs.Common.{inr, Some, List, [], ◌∷◌, ◌++◌, get_or, refl, ap, sym, ◌∙◌, subst, arith}
use Rattle.std.specs.List.{AllByRecursion, list_all}
use Rattle.std.proofs.lemmas.Bool.{and_from, and_parts, le-leb, leb-true}
use Rattle.std.proofs.lemmas.List.Recursion.{is_count_by}
use Rattle.std.proofs.lemmas.List.{length-replicate}
use Rattle.reach.specs.Position.{Position, IsAmong}
use Rattle.reach.specs.declared.walk.WalkStep.{WalkStep}
use Rattle.reach.proofs.Collected.{none_marked}
use Rattle.tables.specs.Train.{kinds, same_kind}
use Rattle.tables.specs.declared.rolling_stock.Kind.{Kind}
use Rattle.tables.specs.declared.rolling_stock.Kind.TheVariants.{Two, Three, Four, Five, Six, Diesel}
use Rattle.tables.specs.declared.roster.Company.{Company}
use Rattle.legal_runs.specs.Claim.{ClaimHolds, NameRuns}
use Rattle.legal_runs.specs.Fault.{named_steps}
use Rattle.legal_runs.specs.InTurn.{AreLegalInTurn, ClaimHoldsInTurn, has_enough, kinds_claimed}
use Rattle.legal_runs.specs.Legal.{IsLegalRun, crossed, earned}
use Rattle.legal_runs.specs.Marks.{MarksAre, borders_used, marked}
use Rattle.legal_runs.specs.Set.{AreApart, AreTakenFrom, IsLegalSet, RunsLegally, ShareNoBorder, TrainRun, in_number}
use Rattle.legal_runs.specs.Set.{revenue_of_runs, trains_that_run}
use Rattle.legal_runs.specs.TwoTrain.{none_used}
use Rattle.legal_runs.specs.declared.claim.Claim.{Claim}
use Rattle.legal_runs.specs.declared.claim.ClaimedRun.{ClaimedRun}
use Rattle.legal_runs.proofs.TallyOfWalk.{crossed_used}
use Rattle.legal_runs.proofs.Marks.{among_both}
use Rattle.legal_runs.proofs.Sharing.{legal_by_marks, legal_over}
use Rattle.legal_runs.proofs.Relabelled.{run_of}

among_all : (P : ℕ → Type 0) (things : List ℕ) → ((thing : ℕ) → IsAmong thing things → P thing)
    → AllByRecursion P things
among_all P [] each = tt
among_all P (thing ∷ things) each = grind (arith, among_all P things (λ other among. each other (inr among)))

pub all_among : (P : ℕ → Type 0) (things : List ℕ) → AllByRecursion P things → (thing : ℕ) → IsAmong thing things
    → P thing
all_among P [] holds thing among = absurd among
all_among P (first ∷ things) holds thing (inl is) = subst P is holds.0
all_among P (first ∷ things) holds thing (inr later) = all_among P things holds.1 thing later

each_run : (P Q : TrainRun → Type 0) (runs : List TrainRun) → ((run : TrainRun) → P run → Q run)
    → AllByRecursion P runs → AllByRecursion Q runs
each_run P Q [] makes holds = tt
each_run P Q (run ∷ runs) makes holds = (makes run holds.0, each_run P Q runs makes holds.1)

both_each : (P Q R : TrainRun → Type 0) (runs : List TrainRun) → ((run : TrainRun) → P run → Q run → R run)
    → AllByRecursion P runs → AllByRecursion Q runs → AllByRecursion R runs
both_each P Q R [] makes one two = tt
both_each P Q R (run ∷ runs) makes one two = (makes run one.0 two.0, both_each P Q R runs makes one.1 two.1)

-- a run crosses none of these borders
abbrev IsFreeOf : List ℕ → TrainRun → Type 0
IsFreeOf used run = (border : ℕ) → IsAmong border (crossed run.steps) → ¬ IsAmong border used

module _ (position : Position) (company : Company) where
  -- legal over used borders, and free of them
  alone : (kind : Kind) (used : List ℕ) (steps : List WalkStep) → IsLegalRun position company kind used steps
      → RunsLegally position company (run_of kind steps)
  alone kind used steps run = legal_over position company kind used [] (λ border none. absurd none) steps run

  free_of : (kind : Kind) (used : List ℕ) (steps : List WalkStep) → IsLegalRun position company kind used steps
      → IsFreeOf used (run_of kind steps)
  free_of kind used steps run = grind (arith, all_among)

  over : (used : List ℕ) (run : TrainRun) → RunsLegally position company run → IsFreeOf used run
      → IsLegalRun position company run.kind used run.steps
  over used run legal free = record {
    walk = legal.walk;
    begins = legal.begins;
    ends = legal.ends;
    two = legal.two;
    most = legal.most;
    no_stop_twice = legal.no_stop_twice;
    own_token = legal.own_token;
    no_border_twice = legal.no_border_twice;
    no_used_border = among_all (λ border. ¬ IsAmong border used) (crossed run.steps) free;
    no_red_inside = legal.no_red_inside;
    no_full_inside = legal.no_full_inside;
  }

  -- runs that the claimed ones name, where these borders are used before
  record AreItsRuns (claimed : List ClaimedRun) (used : List ℕ) (left : ℕ) : Type 0 where
    runs : List TrainRun
    named : NameRuns position claimed runs
    legal : AllByRecursion (RunsLegally position company) runs
    apart : AreApart runs
    free : AllByRecursion (IsFreeOf used) runs
    earn : revenue_of_runs position runs ≡ left

  one_more :
      (first : ClaimedRun) (later : List ClaimedRun) (used : List ℕ) (left : ℕ) (steps : List WalkStep) →
      named_steps position first.run ≡ steps → NameRuns position (first ∷ []) (run_of first.kind steps ∷ []) →
      IsLegalRun position company first.kind used steps → earned position steps ≤ left →
      AreItsRuns later (crossed steps ++ used) (left - earned position steps) → AreItsRuns (first ∷ later) used left
  one_more first later used left steps are named legal most rest = record {
    runs = run_of first.kind steps ∷ rest.runs;
    named = (named.0, named.1, rest.named);
    legal = (alone first.kind used steps legal, rest.legal);
    apart = (
      each_run (IsFreeOf (crossed steps ++ used)) (λ other. ShareNoBorder steps other.steps) rest.runs
          (λ other free border here there. free border there ((among_both border (crossed steps) used).1 (inl here)))
          rest.free,
      rest.apart,
    );
    free = (
      free_of first.kind used steps legal,
      each_run (IsFreeOf (crossed steps ++ used)) (IsFreeOf used) rest.runs
          (λ other free border there before. free border there
          ((among_both border (crossed steps) used).1 (inr before))) rest.free,
    );
    earn = omega (arith, rest.earn);
  }

  its_runs :
      (claimed : List ClaimedRun) (used : List ℕ) (marks : List Bool) (left : ℕ) → MarksAre used marks →
      AreLegalInTurn position company marks left claimed → AreItsRuns claimed used left
  its_runs [] used marks left are legal = grind arith
  its_runs (first ∷ later) used marks left are legal =
      let steps : List WalkStep = named_steps position first.run in
      let same : steps ≡ legal.0.0 = ap (λ (w : Option (List WalkStep)). unwrap_or w []) legal.0.1 in
      let run : IsLegalRun position company first.kind (borders_used marks) steps =
      subst (λ (s : List WalkStep). IsLegalRun position company first.kind (borders_used marks) s) (sym same) legal.0.2 in
      one_more first later used left steps refl (refl, legal.0.1 ∙ ap (λ (s : List WalkStep). Some s) (sym same), tt)
      ((legal_by_marks position company first.kind used marks steps are).0 run) legal.1
      (its_runs later (crossed steps ++ used) (marked marks (crossed steps)) (left - earned position steps)
      (crossed_used used marks steps are) legal.2)

  in_turn :
      (claimed : List ClaimedRun) (runs : List TrainRun) (used : List ℕ) (marks : List Bool) (left : ℕ)
      → MarksAre used marks →
      NameRuns position claimed runs → AllByRecursion (RunsLegally position company) runs → AreApart runs
      → AllByRecursion (IsFreeOf used) runs →
      revenue_of_runs position runs ≡ left → AreLegalInTurn position company marks left claimed
  in_turn [] [] used marks left are named legal apart free earn = sym earn
  in_turn [] (run ∷ runs) used marks left are named legal apart free earn = absurd named
  in_turn (first ∷ later) [] used marks left are named legal apart free earn = absurd named
  in_turn (first ∷ later) (run ∷ runs) used marks left are named legal apart free earn =
      let steps : List WalkStep = named_steps position first.run in
      let same : steps ≡ run.steps = ap (λ (w : Option (List WalkStep)). unwrap_or w []) named.1 in
      let here : IsLegalRun position company first.kind (borders_used marks) run.steps =
      subst (λ (k : Kind). IsLegalRun position company k (borders_used marks) run.steps) (sym named.0)
      ((legal_by_marks position company run.kind used marks run.steps are).1 (over used run legal.0 free.0)) in
      let worth : earned position steps ≡ earned position run.steps = ap (earned position) same in
      let all : earned position run.steps + revenue_of_runs position runs ≡ left = earn in
      let free_later : AllByRecursion (IsFreeOf (crossed steps ++ used)) runs =
      both_each (λ other. ShareNoBorder run.steps other.steps) (IsFreeOf used) (IsFreeOf (crossed steps ++ used)) runs
      (λ other apart_from free_from border there among. elim ((among_both border (crossed steps) used).0 among) [
        | inl mine ↦ apart_from border (subst (λ (s : List WalkStep). IsAmong border (crossed s)) same mine) there
        | inr before ↦ free_from border there before
      ]) apart.0 free.1 in (
        (run.steps, named.1, here),
        omega arith,
        in_turn later runs (crossed steps ++ used) (marked marks (crossed steps)) (left - earned position steps)
            (crossed_used used marks steps are) named.2 legal.1 apart.1 free_later (omega arith),
      )

-- the trains are those that run
same_kinds : (position : Position) (claimed : List ClaimedRun) (runs : List TrainRun) → NameRuns position claimed runs
    → kinds_claimed claimed ≡ trains_that_run runs
same_kinds position [] [] named = refl
same_kinds position [] (run ∷ runs) named = absurd named
same_kinds position (first ∷ later) [] named = absurd named
same_kinds position (first ∷ later) (run ∷ runs) named = grind (arith, same_kinds position later runs named.2)

free_of_none : (runs : List TrainRun) → AllByRecursion (IsFreeOf []) runs
free_of_none [] = tt
free_of_none (run ∷ runs) = (λ border there none. none, free_of_none runs)

-- there are enough trains exactly if there are of each kind
one_more_of : (b : Bool) (number : ℕ) → (if b then 1 else 0) + number ≡ cond b (1 + number) number
one_more_of true number = refl
one_more_of false number = omega arith

counted : (kind : Kind) (trains : List Kind) → in_number kind trains
    ≡ count_by (λ (train : Kind). same_kind train kind) trains
counted kind trains =
    is_count_by (in_number kind) (λ (train : Kind). same_kind train kind) refl
    (λ train others. one_more_of (same_kind train kind) (in_number kind others)) trains

counted_claimed : (kind : Kind) (claimed : List ClaimedRun)
    → in_number kind (kinds_claimed claimed) ≡ count_by (λ (run : ClaimedRun). same_kind run.kind kind) claimed
counted_claimed kind claimed =
    is_count_by (λ (runs : List ClaimedRun). in_number kind (kinds_claimed runs))
    (λ (run : ClaimedRun). same_kind run.kind kind) refl
    (λ run others. one_more_of (same_kind run.kind kind) (in_number kind (kinds_claimed others))) claimed

enough_is : (trains : List Kind) (claimed : List ClaimedRun) (kind : Kind)
    → (has_enough trains claimed kind ≡ true) ↔ (in_number kind (kinds_claimed claimed) ≤ in_number kind trains)
enough_is trains claimed kind = grind (arith, counted, counted_claimed, le-leb, leb-true)

pub taken_is : (trains : List Kind) (claimed : List ClaimedRun)
    → (list_all (has_enough trains claimed) kinds ≡ true) ↔ AreTakenFrom trains (kinds_claimed claimed)
taken_is trains claimed = (
  λ is.
      let two = and_parts (has_enough trains claimed Two) _ is in
      let three = and_parts (has_enough trains claimed Three) _ two.1 in
      let four = and_parts (has_enough trains claimed Four) _ three.1 in
      let five = and_parts (has_enough trains claimed Five) _ four.1 in
      let six = and_parts (has_enough trains claimed Six) _ five.1 in
      let diesel = and_parts (has_enough trains claimed Diesel) _ six.1 in
      each two.0 three.0 four.0 five.0 six.0 diesel.0,
  λ taken.
      and_from (has_enough trains claimed Two) _ (there Two taken)
      (and_from (has_enough trains claimed Three) _ (there Three taken)
      (and_from (has_enough trains claimed Four) _ (there Four taken)
      (and_from (has_enough trains claimed Five) _ (there Five taken)
      (and_from (has_enough trains claimed Six) _ (there Six taken)
      (and_from (has_enough trains claimed Diesel) _ (there Diesel taken) refl))))),
)
  where
    there : (kind : Kind) → AreTakenFrom trains (kinds_claimed claimed) → has_enough trains claimed kind ≡ true
    there kind taken = (enough_is trains claimed kind).1 (taken kind)

    each :
        has_enough trains claimed Two ≡ true → has_enough trains claimed Three ≡ true
        → has_enough trains claimed Four ≡ true →
        has_enough trains claimed Five ≡ true → has_enough trains claimed Six ≡ true
        → has_enough trains claimed Diesel ≡ true →
        (kind : Kind) → in_number kind (kinds_claimed claimed) ≤ in_number kind trains
    each two three four five six diesel Two = (enough_is trains claimed Two).0 two
    each two three four five six diesel Three = (enough_is trains claimed Three).0 three
    each two three four five six diesel Four = (enough_is trains claimed Four).0 four
    each two three four five six diesel Five = (enough_is trains claimed Five).0 five
    each two three four five six diesel Six = (enough_is trains claimed Six).0 six
    each two three four five six diesel Diesel = (enough_is trains claimed Diesel).0 diesel

-- no border is used at first
none : MarksAre [] none_used
none = record {
  for_each = length-replicate 279 false;
  exact = λ border. (
    λ used. let not : get_or none_used border false ≡ false =
        none_marked 279 border in let clash : false ≡ true = sym not ∙ used in absurd cc,
    λ among. absurd among,
  );
}

pub holds_in_turn : ClaimHoldsInTurn
holds_in_turn position company trains claim = (
  λ holds.
      let set : IsLegalSet position company trains holds.0 = holds.2 in (
        subst (λ (ks : List Kind). AreTakenFrom trains ks) (sym (same_kinds position claim.runs holds.0 holds.1))
            set.each_once,
        in_turn position company claim.runs holds.0 [] none_used claim.revenue none holds.1 set.legal set.apart
            (free_of_none holds.0) holds.3,
      ),
  λ in_order.
      let found : AreItsRuns position company claim.runs [] claim.revenue =
      its_runs position company claim.runs [] none_used claim.revenue none in_order.1 in (
        found.runs,
        found.named,
        record {
          legal = found.legal;
          each_once = subst (λ (ks : List Kind). AreTakenFrom trains ks)
              (same_kinds position claim.runs found.runs found.named) in_order.0;
          apart = found.apart;
        },
        found.earn,
      ),
)

-- a claim holds exactly if there are enough trains and its runs are legal in turn
pub held :
    (position : Position) (company : Company) (trains : List Kind) (claim : Claim) (runs : List ClaimedRun)
    (enough legal : Bool) → runs ≡ claim.runs →
    enough ≡ list_all (has_enough trains runs) kinds
    → (legal ≡ true) ↔ AreLegalInTurn position company none_used claim.revenue runs → enough ≡ true →
    (legal ≡ true) ↔ ClaimHolds position company trains claim
held position company trains claim runs enough legal same looked exactly is =
    let law = holds_in_turn position company trains claim in
    let along : AreLegalInTurn position company none_used claim.revenue runs
    → AreLegalInTurn position company none_used claim.revenue claim.runs =
    λ all. subst (λ (r : List ClaimedRun). AreLegalInTurn position company none_used claim.revenue r) same all in
    let back : AreLegalInTurn position company none_used claim.revenue claim.runs
    → AreLegalInTurn position company none_used claim.revenue runs =
    λ all. subst (λ (r : List ClaimedRun). AreLegalInTurn position company none_used claim.revenue r) (sym same) all in
    let taken : AreTakenFrom trains (kinds_claimed claim.runs) =
    subst (λ (r : List ClaimedRun). AreTakenFrom trains (kinds_claimed r)) same
    ((taken_is trains runs).0 (sym looked ∙ is)) in (
      λ b. law.1 (taken, along (exactly.0 b)),
      λ holds. exactly.1 (back ((law.0 holds).1)),
    )

pub not_held :
    (position : Position) (company : Company) (trains : List Kind) (claim : Claim) (runs : List ClaimedRun)
    (enough : Bool) → runs ≡ claim.runs →
    enough ≡ list_all (has_enough trains runs) kinds → enough ≡ false
    → (enough ≡ true) ↔ ClaimHolds position company trains claim
not_held position company trains claim runs enough same looked is =
    let law = holds_in_turn position company trains claim in (
      λ b. let clash : false ≡ true = sym is ∙ b in absurd cc,
      λ holds.
          looked
          ∙ (taken_is trains runs).1 (subst (λ (r : List ClaimedRun). AreTakenFrom trains (kinds_claimed r))
          (sym same) ((law.0 holds).0)),
    )
