-- Each legal set is the assigned runs of a leaf. Train by train, in their order, a run of the set
-- is taken for a train of its kind, or none if no run of that kind is left.
use Rattle.std.proofs.Common.{◌≡◌, ◌↔◌, ℕ, ◌+◌, ◌≤◌, Bool, true, false, ◌⊎◌, inl, inr, if◌then◌else◌, List, [], ◌∷◌}
use Rattle.std.proofs.Common.{refl, ap, subst, arith}
use Rattle.std.specs.List.{AllByRecursion}
use Rattle.map_tables.specs.declared.place.Stop.{Stop}
use Rattle.reach.specs.Lawful.{IsLawful}
use Rattle.reach.specs.Position.{Position, IsAmong}
use Rattle.reach.specs.Reached.{ReachesStop}
use Rattle.reach.specs.declared.walk.WalkStep.{WalkStep}
use Rattle.tables.specs.Train.{same_kind}
use Rattle.tables.specs.declared.rolling_stock.Kind.{Kind}
use Rattle.tables.specs.declared.rolling_stock.Kind.TheVariants.{Two, Three, Four, Five, Six, Diesel}
use Rattle.tables.specs.declared.roster.Company.{Company}
use Rattle.tables.proofs.TrainKinds.{kind_is}
use Rattle.legal_runs.specs.Legal.{crossed, earned}
use Rattle.legal_runs.specs.Set.{AreApart, IsLegalSet, RunsLegally, ShareNoBorder, TrainRun, in_number}
use Rattle.legal_runs.specs.Set.{revenue_of_runs, trains_that_run}
use Rattle.certificate.specs.Tree.{IsBelow, IsLeaf, Node, greatest_first, node_of, root_of, run_borders}
use Rattle.certificate.specs.TreeLaws.{AreItsRuns, LegalSetsAreLeaves}
use Rattle.certificate.proofs.Leaves.{same_number}
use Rattle.legal_runs.proofs.Marks.{among_both}
use Rattle.legal_runs.proofs.Relabelled.{of_kind}
use Rattle.certificate.proofs.RunBelow.{one_below, run_below}

-- a run is taken out of some, and these are left
abbrev TakenOut : TrainRun → List TrainRun → List TrainRun → Type 0
TakenOut run [] rest = ⊥
TakenOut run (first ∷ others) rest =
    ((first ≡ run) × (others ≡ rest)) ⊎ ((more : List TrainRun) × TakenOut run others more × ((first ∷ more) ≡ rest))

all_out : (P : TrainRun → Type 0) (run : TrainRun) (runs rest : List TrainRun) → TakenOut run runs rest
    → AllByRecursion P runs → P run × AllByRecursion P rest
all_out P run [] rest out holds = absurd out
all_out P run (first ∷ others) rest (inl is) holds =
    (subst P is.0 holds.0, subst (λ (l : List TrainRun). AllByRecursion P l) is.1 holds.1)
all_out P run (first ∷ others) rest (inr later) holds =
    let found = all_out P run others later.0 later.1 holds.1 in
    (found.0, subst (λ (l : List TrainRun). AllByRecursion P l) later.2 (holds.0, found.1))

among_out : (other run : TrainRun) (runs rest : List TrainRun) → TakenOut run runs rest
    → IsAmong other runs ↔ ((run ≡ other) ⊎ IsAmong other rest)
among_out other run [] rest out = absurd out
among_out other run (first ∷ others) rest (inl is) =
    subst (λ (l : List TrainRun). IsAmong other (first ∷ others) ↔ ((run ≡ other) ⊎ IsAmong other l)) is.1
    (subst (λ (r : TrainRun). ((first ≡ other) ⊎ IsAmong other others) ↔ ((r ≡ other) ⊎ IsAmong other others)) is.0
    (λ h. h, λ h. h))
among_out other run (first ∷ others) rest (inr later) =
    let found = among_out other run others later.0 later.1 in
    subst (λ (l : List TrainRun). IsAmong other (first ∷ others) ↔ ((run ≡ other) ⊎ IsAmong other l)) later.2 (
      λ h. elim h [
        | inl here ↦ inr (inl here)
        | inr there ↦ elim (found.0 there) [ inl it ↦ inl it | inr left ↦ inr (inr left) ]
      ],
      λ h. elim h [
        | inl it ↦ inr (found.1 (inl it))
        | inr left ↦ elim left [ inl here ↦ inl here | inr there ↦ inr (found.1 (inr there)) ]
      ],
    )

earns_out :
    (position : Position) (run : TrainRun) (runs rest : List TrainRun) → TakenOut run runs rest →
    revenue_of_runs position runs ≡ earned position run.steps + revenue_of_runs position rest
earns_out position run [] rest out = absurd out
earns_out position run (first ∷ others) rest (inl is) =
    subst (λ (l : List TrainRun). earned position first.steps + revenue_of_runs position others
    ≡ earned position run.steps + revenue_of_runs position l) is.1
    (ap (λ (r : TrainRun). earned position r.steps + revenue_of_runs position others) is.0)
earns_out position run (first ∷ others) rest (inr later) =
    let found = earns_out position run others later.0 later.1 in
    subst (λ (l : List TrainRun). earned position first.steps + revenue_of_runs position others
    ≡ earned position run.steps + revenue_of_runs position l) later.2
    (omega (arith, found))

number_out :
    (k : Kind) (run : TrainRun) (runs rest : List TrainRun) → TakenOut run runs rest →
    in_number k (trains_that_run runs) ≡ of_kind k run.kind + in_number k (trains_that_run rest)
number_out k run [] rest out = absurd out
number_out k run (first ∷ others) rest (inl is) =
    subst (λ (l : List TrainRun). of_kind k first.kind + in_number k (trains_that_run others)
    ≡ of_kind k run.kind + in_number k (trains_that_run l)) is.1
    (ap (λ (r : TrainRun). of_kind k r.kind + in_number k (trains_that_run others)) is.0)
number_out k run (first ∷ others) rest (inr later) =
    let found = number_out k run others later.0 later.1 in
    subst (λ (l : List TrainRun). of_kind k first.kind + in_number k (trains_that_run others)
    ≡ of_kind k run.kind + in_number k (trains_that_run l)) later.2
    (omega (arith, found))

turned_round : (steps others : List WalkStep) → ShareNoBorder steps others → ShareNoBorder others steps
turned_round steps others apart border there here = apart border here there

apart_out :
    (run : TrainRun) (runs rest : List TrainRun) → TakenOut run runs rest → AreApart runs →
    AllByRecursion (λ (other : TrainRun). ShareNoBorder run.steps other.steps) rest × AreApart rest
apart_out run [] rest out apart = absurd out
apart_out run (first ∷ others) rest (inl is) apart =
    subst (λ (l : List TrainRun). AllByRecursion (λ (other : TrainRun). ShareNoBorder run.steps other.steps) l
    × AreApart l) is.1 (
      subst (λ (r : TrainRun). AllByRecursion (λ (other : TrainRun). ShareNoBorder r.steps other.steps) others) is.0
          apart.0,
      apart.1,
    )
apart_out run (first ∷ others) rest (inr later) apart =
    let found = apart_out run others later.0 later.1 apart.1 in
    let parts = all_out (λ (other : TrainRun). ShareNoBorder first.steps other.steps) run others later.0 later.1
    apart.0 in
    subst (λ (l : List TrainRun). AllByRecursion (λ (other : TrainRun). ShareNoBorder run.steps other.steps) l
    × AreApart l) later.2
    ((turned_round first.steps run.steps parts.0, found.0), (parts.1, found.1))

-- a run of a train of a kind is found, or there is none
abbrev Found : Kind → List TrainRun → Type 0
Found kind runs =
    ((steps : List WalkStep) × (rest : List TrainRun) × TakenOut (record { kind = kind; steps = steps }) runs rest)
    ⊎ (in_number kind (trains_that_run runs) ≡ 0)

found_run : (kind : Kind) (runs : List TrainRun) → Found kind runs
found_run kind [] = inr refl
found_run kind (run ∷ runs) = by_test (same_kind run.kind kind) refl (found_run kind runs)
  where
    by_test : (b : Bool) → same_kind run.kind kind ≡ b → Found kind runs → Found kind (run ∷ runs)
    by_test true is later =
        inl (
          run.steps,
          runs,
          inl (
            ap (λ (k : Kind). let r : TrainRun = record { kind = k; steps = run.steps } in r)
                (kind_is run.kind kind is),
            refl,
          ),
        )
    by_test false is (inl later) = inl (later.0, run ∷ later.1, inr (later.1, later.2, refl))
    by_test false is (inr none) = inr (let not_it : of_kind kind run.kind ≡ 0 =
        ap (λ (b : Bool). if b then 1 else 0) is in omega arith)

-- a train is of its own kind
own_kind : (k : Kind) → of_kind k k ≡ 1
own_kind Two = refl
own_kind Three = refl
own_kind Four = refl
own_kind Five = refl
own_kind Six = refl
own_kind Diesel = refl

-- where none of a kind is left the trains after it are enough
enough :
    (kind k : Kind) (runs : List TrainRun) (later : List Kind) → in_number kind (trains_that_run runs) ≡ 0 →
    in_number k (trains_that_run runs) ≤ of_kind k kind + in_number k later
    → in_number k (trains_that_run runs) ≤ in_number k later
enough kind k runs later none few = by_test (same_kind kind k) refl
  where
    by_test : (b : Bool) → same_kind kind k ≡ b → in_number k (trains_that_run runs) ≤ in_number k later
    by_test true is =
        let zero : in_number k (trains_that_run runs) ≡ 0 =
        subst (λ (q : Kind). in_number q (trains_that_run runs) ≡ 0) (kind_is kind k is) none in omega arith
    by_test false is = let not_it : of_kind k kind ≡ 0 = ap (λ (b : Bool). if b then 1 else 0) is in omega arith

module _ (position : Position) (lawful : IsLawful position) (company : Company) (reached : List Stop)
    (exactly : (stop : Stop) → ReachesStop position company stop → IsAmong stop reached) (start : Node) where
  -- a run crosses none of the borders of the assigned ones
  abbrev IsFree : List TrainRun → TrainRun → Type 0
  IsFree assigned run = (border : ℕ) → IsAmong border (crossed run.steps) → ¬ IsAmong border (run_borders assigned)

  -- what is left of a set while some of its runs are assigned
  record IsLeft (assigned runs : List TrainRun) (trains : List Kind) : Type 0 where
    legal : AllByRecursion (RunsLegally position company) runs
    apart : AreApart runs
    free : AllByRecursion (IsFree assigned) runs
    enough_trains : (k : Kind) → in_number k (trains_that_run runs) ≤ in_number k trains

  -- a leaf with the runs that were assigned and those that were left
  record IsLeafOf (assigned runs : List TrainRun) : Type 0 where
    leaf : Node
    below : IsBelow position company reached start leaf
    is_leaf : IsLeaf leaf
    same : (run : TrainRun) → IsAmong run leaf.assigned ↔ (IsAmong run assigned ⊎ IsAmong run runs)
    earns : revenue_of_runs position leaf.assigned ≡ revenue_of_runs position assigned + revenue_of_runs position runs

  -- with one more run assigned
  still_free :
      (run : TrainRun) (assigned rest : List TrainRun)
      → AllByRecursion (λ (other : TrainRun). ShareNoBorder run.steps other.steps) rest →
      AllByRecursion (IsFree assigned) rest → AllByRecursion (IsFree (run ∷ assigned)) rest
  still_free run assigned [] apart free = tt
  still_free run assigned (other ∷ rest) apart free = (
    λ border among there. elim ((among_both border (crossed run.steps) (run_borders assigned)).0 there) [
      | inl here ↦ apart.0 border here among
      | inr later ↦ free.0 border among later
    ],
    still_free run assigned rest apart.1 free.1,
  )

  one_assigned : (assigned runs rest : List TrainRun) (run : TrainRun) → TakenOut run runs rest
      → IsLeafOf (run ∷ assigned) rest → IsLeafOf assigned runs
  one_assigned assigned runs rest run out found =
      record {
        leaf = found.leaf;
        below = found.below;
        is_leaf = found.is_leaf;
        same = λ other. (
          λ h. elim ((found.same other).0 h) [
            | inl one ↦ elim one [
              | inl it ↦ inr ((among_out other run runs rest out).1 (inl it))
              | inr there ↦ inl
                  there
            ]
            | inr left ↦ inr ((among_out other run runs rest out).1 (inr left))
          ],
          λ h. (found.same other).1 (elim h [
            | inl there ↦ inl (inr there)
            | inr among ↦ elim ((among_out other run runs rest out).0 among)
                [ inl it ↦ inl (inl it) | inr left ↦ inr left ]
          ]),
        );
        earns = omega (arith, found.earns, earns_out position run runs rest out);
      }

  all_assigned :
      (trains : List Kind) (assigned runs : List TrainRun)
      → IsBelow position company reached start (node_of assigned [] trains) →
      IsLeft assigned runs trains → IsLeafOf assigned runs
  all_assigned [] assigned [] below left =
      record {
        leaf = node_of assigned [] [];
        below = below;
        is_leaf = refl;
        same = λ run. (λ h. inl h, λ h. elim h [ inl there ↦ there | inr none ↦ absurd none ]);
        earns = omega arith;
      }
  all_assigned [] assigned (run ∷ runs) below left =
      absurd (let few = left.enough_trains run.kind in let one = own_kind run.kind in omega arith)
  all_assigned (kind ∷ later) assigned runs below left =
      by_run (found_run kind runs) (λ more rest there its. all_assigned later more rest there its)
    where
      by_run :
          Found kind runs →
          ((more rest : List TrainRun) → IsBelow position company reached start (node_of more [] later)
          → IsLeft more rest later → IsLeafOf more rest) →
          IsLeafOf assigned runs
      by_run (inr none) go_on =
          go_on assigned runs
          (one_below position company reached start (node_of assigned [] (kind ∷ later)) (node_of assigned [] later)
          below (inl refl))
          (record {
            legal = left.legal;
            apart = left.apart;
            free = left.free;
            enough_trains = λ k. enough kind k runs later none (left.enough_trains k);
          })
      by_run (inl found) go_on =
          let run : TrainRun = record { kind = kind; steps = found.0 } in
          let legal = all_out (RunsLegally position company) run runs found.1 found.2 left.legal in
          let free = all_out (IsFree assigned) run runs found.1 found.2 left.free in
          let apart = apart_out run runs found.1 found.2 left.apart in
          one_assigned assigned runs found.1 run found.2
          (go_on (run ∷ assigned) found.1
          (run_below position lawful company reached assigned kind later exactly start below found.0 legal.0 free.0)
          (record {
            legal = legal.1;
            apart = apart.1;
            free = still_free run assigned found.1 apart.0 free.1;
            enough_trains = λ k. omega (arith, number_out k run runs found.1 found.2, left.enough_trains k);
          }))

-- nothing is assigned at first
free_at_first :
    (runs : List TrainRun) →
    AllByRecursion (λ (run : TrainRun). (border : ℕ) → IsAmong border (crossed run.steps)
    → ¬ IsAmong border (run_borders [])) runs
free_at_first [] = tt
free_at_first (run ∷ runs) = (λ border among none. none, free_at_first runs)

-- a leaf with the runs of a set, where none was assigned before
its_leaf :
    (position : Position) (lawful : IsLawful position) (company : Company) (trains : List Kind) (reached : List Stop)
    (exactly : (stop : Stop) → ReachesStop position company stop → IsAmong stop reached) (runs : List TrainRun) →
    IsLeafOf position lawful company reached exactly (root_of trains) [] runs →
    (leaf : Node) × IsBelow position company reached (root_of trains) leaf × IsLeaf leaf
    × AreItsRuns position leaf.assigned runs
its_leaf position lawful company trains reached exactly runs found = (
  found.leaf,
  found.below,
  found.is_leaf,
  record {
    same = λ run. (
      λ h. elim ((found.same run).0 h) [ inl none ↦ absurd none | inr among ↦ among ],
      λ h. (found.same run).1 (inr h),
    );
    earn_same = omega (arith, found.earns);
  },
)

-- each legal set has one, where all stops are listed that are reached
pub set_is_leaf :
    (position : Position) → IsLawful position → (company : Company) (trains : List Kind) (reached : List Stop) →
    ((stop : Stop) → ReachesStop position company stop → IsAmong stop reached) → (runs : List TrainRun)
    → IsLegalSet position company trains runs →
    (leaf : Node) × IsBelow position company reached (root_of trains) leaf × IsLeaf leaf
    × AreItsRuns position leaf.assigned runs
set_is_leaf position lawful company trains reached exactly runs set =
    its_leaf position lawful company trains reached exactly runs
    (all_assigned position lawful company reached exactly (root_of trains) (greatest_first trains) [] runs
    ([], tt, refl) (record {
      legal = set.legal;
      apart = set.apart;
      free = free_at_first runs;
      enough_trains = λ k. omega (arith, set.each_once k, same_number k trains);
    }))

pub sets_are_leaves : LegalSetsAreLeaves
sets_are_leaves position company trains reach runs lawful is set =
    set_is_leaf position lawful company trains reach.stops (λ stop. (is.stops stop).1) runs set
