-- The legal runs of a company are finitely many: each is named by a list of at most 280 places, of
-- which there are finitely many. So are its legal sets, which have at most as many runs as there
-- are trains; and of a set of legal runs it is known whether it is legal.
use Rattle.std.specs.Prelude.{unwrap_or}
use Rattle.std.proofs.Common.{◌≡◌, ℕ, suc, ◌+◌, ◌<◌, ◌≤◌, lit<, Bool, true, false, eqb, ◌⊎◌, inl, inr, Option, Some}
use Rattle.std.proofs.Common.{None, List, [], ◌∷◌, ◌++◌, length, get_or, refl, ap, sym, ◌∙◌, subst, arith}
use Rattle.std.specs.List.{AllByRecursion}
use Rattle.std.proofs.lemmas.Bool.{eqb-true}
use Rattle.map_tables.specs.Hex.{hexes, index_of, site_of}
use Rattle.map_tables.specs.declared.hex.Hex.{Hex}
use Rattle.map_tables.specs.declared.hex.Hex.TheVariants.{A9}
use Rattle.map_tables.specs.declared.place.Place.{Place}
use Rattle.map_tables.specs.declared.place.StopNumber.{StopNumber}
use Rattle.map_tables.specs.declared.place.StopNumber.TheVariants.{First, Second}
use Rattle.reach.specs.Lawful.{IsLawful}
use Rattle.reach.specs.Position.{Position, IsAmong}
use Rattle.reach.specs.declared.walk.WalkStep.{WalkStep}
use Rattle.reach.proofs.Lists.{among_at}
use Rattle.reach.proofs.Decided.{Decided, both_decided, most_decided}
use Rattle.tables.specs.Train.{kinds}
use Rattle.tables.specs.declared.rolling_stock.Kind.{Kind}
use Rattle.tables.specs.declared.rolling_stock.Kind.TheVariants.{Two, Three, Four, Five, Six, Diesel}
use Rattle.tables.specs.declared.roster.Company.{Company}
use Rattle.legal_runs.specs.Fault.{named_steps, run_fault}
use Rattle.legal_runs.specs.Law.{AreItsPlaces, NameLegalRun}
use Rattle.legal_runs.specs.Legal.{IsLegalRun, crossed}
use Rattle.legal_runs.specs.Set.{AreApart, AreTakenFrom, IsLegalSet, RunsLegally, ShareNoBorder, TrainRun, in_number}
use Rattle.legal_runs.specs.Set.{trains_that_run}
use Rattle.map_tables.specs.declared.rules.RunRule.{RunRule}
use Rattle.legal_runs.proofs.Finite.{among_each_with, among_lists, each_with, lists_among, lists_of}
use Rattle.legal_runs.proofs.Lawful.{legal_where_unbroken}
use Rattle.legal_runs.proofs.Marks.{among_both}
use Rattle.legal_runs.proofs.Written.{each_named}

-- all places
hex_among : (hex : Hex) → IsAmong hex hexes
unfolding hexes index_of site_of
hex_among hex = subst (λ (h : Hex). IsAmong h hexes) (at_index hex) (among_at hexes (index_of hex) A9 (low hex))
  where
    at_index : (hex : Hex) → get_or hexes (index_of hex) A9 ≡ hex
    at_index A9 = refl
    at_index hex = refl

    low : (hex : Hex) → index_of hex < length hexes
    low A9 = lit< tt
    low hex = lit< tt

stops : List (Option StopNumber)
stops = None ∷ Some First ∷ Some Second ∷ []

stop_among : (stop : Option StopNumber) → IsAmong stop stops
unfolding stops
stop_among None = inl refl
stop_among (Some First) = inr (inl refl)
stop_among (Some Second) = inr (inr (inl refl))

abbrev place_at : Hex → Option StopNumber → Place
place_at hex stop = record { hex = hex; stop = stop }

places : List Place
places = each_with place_at hexes stops

place_among : (place : Place) → IsAmong place places
unfolding places
place_among place = among_each_with place_at hexes stops place.hex place.stop (hex_among place.hex)
    (stop_among place.stop)

-- all lists of places of a run
writings : ℕ → List (List Place)
writings most = lists_of most places

written_among : (most : ℕ) (list : List Place) → length list ≤ most → IsAmong list (writings most)
unfolding writings
written_among most list few = among_lists most places list few (λ place among. place_among place)

kind_among : (kind : Kind) → IsAmong kind kinds
kind_among Two = inl refl
kind_among Three = inr (inl refl)
kind_among Four = inr (inr (inl refl))
kind_among Five = inr (inr (inr (inl refl)))
kind_among Six = inr (inr (inr (inr (inl refl))))
kind_among Diesel = inr (inr (inr (inr (inr (inl refl)))))

-- something that holds of each kind or not is known for all kinds
decided_of_kinds : (P : Kind → Type 0) → ((kind : Kind) → Decided (P kind)) → Decided ((kind : Kind) → P kind)
decided_of_kinds P known = six (known Two) (known Three) (known Four) (known Five) (known Six) (known Diesel)
  where
    all : P Two → P Three → P Four → P Five → P Six → P Diesel → (kind : Kind) → P kind
    all a b c d e f Two = a
    all a b c d e f Three = b
    all a b c d e f Four = c
    all a b c d e f Five = d
    all a b c d e f Six = e
    all a b c d e f Diesel = f

    six : Decided (P Two) → Decided (P Three) → Decided (P Four) → Decided (P Five) → Decided (P Six)
        → Decided (P Diesel) → Decided ((kind : Kind) → P kind)
    six (inl a) (inl b) (inl c) (inl d) (inl e) (inl f) = grind arith
    six (inr fails) b c d e f = inr (λ each. fails (each Two))
    six a (inr fails) c d e f = inr (λ each. fails (each Three))
    six a b (inr fails) d e f = inr (λ each. fails (each Four))
    six a b c (inr fails) e f = inr (λ each. fails (each Five))
    six a b c d (inr fails) f = inr (λ each. fails (each Six))
    six a b c d e (inr fails) = inr (λ each. fails (each Diesel))

-- a border is among borders, or it is not
decided_among : (border : ℕ) (borders : List ℕ) → Decided (IsAmong border borders)
decided_among border [] = inr (λ among. among)
decided_among border (other ∷ borders) = by_test (eqb other border) refl (decided_among border borders)
  where
    by_test : (b : Bool) → eqb other border ≡ b → Decided (IsAmong border borders)
        → Decided ((other ≡ border) ⊎ IsAmong border borders)
    by_test true is later = inl (inl (eqb-true other border is))
    by_test false is (inl later) = inl (inr later)
    by_test false is (inr fails) = grind arith

-- two lists of borders share one, or none
decided_free : (borders others : List ℕ) → Decided ((border : ℕ) → IsAmong border borders → ¬ IsAmong border others)
decided_free [] others = inl (λ border among. absurd among)
decided_free (border ∷ borders) others = by_first (decided_among border others) (decided_free borders others)
  where
    by_first :
        Decided (IsAmong border others) → Decided ((b : ℕ) → IsAmong b borders → ¬ IsAmong b others) →
        Decided ((b : ℕ) → IsAmong b (border ∷ borders) → ¬ IsAmong b others)
    by_first (inl shared) rest = inr (λ free. free border (inl refl) shared)
    by_first (inr apart) (inl free) = grind arith
    by_first (inr apart) (inr fails) = inr (λ free. fails (λ b among. free b (inr among)))

decided_all : {A : Type 0} (P : A → Type 0) → ((thing : A) → Decided (P thing)) → (things : List A)
    → Decided (AllByRecursion P things)
decided_all P known [] = inl tt
decided_all P known (thing ∷ things) = grind (arith, decided_all P known things)

decided_apart : (runs : List TrainRun) → Decided (AreApart runs)
decided_apart [] = inl tt
decided_apart (run ∷ runs) =
    both_decided (AllByRecursion (λ (other : TrainRun). ShareNoBorder run.steps other.steps) runs) (AreApart runs)
    (decided_all (λ (other : TrainRun). ShareNoBorder run.steps other.steps)
    (λ other. decided_free (crossed run.steps) (crossed other.steps)) runs)
    (decided_apart runs)

decided_taken : (trains taken : List Kind) → Decided (AreTakenFrom trains taken)
decided_taken trains taken =
    decided_of_kinds (λ kind. in_number kind taken ≤ in_number kind trains)
    (λ kind. most_decided (in_number kind taken) (in_number kind trains))

-- a list of trains has this many of each kind
pub count_kinds : List Kind → ℕ
count_kinds trains = in_number Two trains + (in_number Three trains
    + (in_number Four trains + (in_number Five trains + (in_number Six trains + in_number Diesel trains))))

pub counted : (trains : List Kind) → length trains ≡ count_kinds trains
unfolding count_kinds
counted [] = refl
counted (Two ∷ trains) = let rest : length trains ≡ count_kinds trains = counted trains in omega arith
counted (Three ∷ trains) = let rest : length trains ≡ count_kinds trains = counted trains in omega arith
counted (Four ∷ trains) = let rest : length trains ≡ count_kinds trains = counted trains in omega arith
counted (Five ∷ trains) = let rest : length trains ≡ count_kinds trains = counted trains in omega arith
counted (Six ∷ trains) = let rest : length trains ≡ count_kinds trains = counted trains in omega arith
counted (Diesel ∷ trains) = let rest : length trains ≡ count_kinds trains = counted trains in omega arith

-- so no more trains are taken than there are
pub no_more_taken : (trains taken : List Kind) → AreTakenFrom trains taken → length taken ≤ length trains
unfolding count_kinds
no_more_taken trains taken each =
    omega (arith, counted trains, counted taken, each Two, each Three, each Four, each Five, each Six, each Diesel)

runs_counted : (runs : List TrainRun) → length (trains_that_run runs) ≡ length runs
runs_counted [] = refl
runs_counted (run ∷ runs) = ap suc (runs_counted runs)

module _ (position : Position) (company : Company) where
  -- a train with the walk that some places name
  abbrev run_by : Kind → List Place → TrainRun
  run_by kind list = record { kind = kind; steps = named_steps position list }

  kept : Option RunRule → TrainRun → List TrainRun → List TrainRun
  kept None run runs = run ∷ runs
  kept (Some fault) run runs = runs

  -- the legal runs that some lists of places name
  legal_of : Kind → List (List Place) → List TrainRun
  legal_of kind [] = []
  legal_of kind (list ∷ lists) = kept (run_fault position company kind [] list) (run_by kind list) (legal_of kind lists)

  legal_by : (kind : Kind) (list : List Place) → run_fault position company kind [] list ≡ None
      → RunsLegally position company (run_by kind list)
  legal_by kind list is =
      let run : NameLegalRun position company kind [] list =
      (legal_where_unbroken position company kind [] list).0 is in
      subst (λ (steps : List WalkStep). IsLegalRun position company kind [] steps) (sym (ap (λ (w : Option (List WalkStep)). unwrap_or w []) run.1)) run.2

  among_kept :
      (fault : Option RunRule) (run other : TrainRun) (runs : List TrainRun) → IsAmong other (kept fault run runs) →
      ((fault ≡ None) × (run ≡ other)) ⊎ IsAmong other runs
  unfolding kept
  among_kept None run other runs (inl is) = inl (refl, is)
  among_kept None run other runs (inr later) = inr later
  among_kept (Some fault) run other runs among = inr among

  kept_later : (fault : Option RunRule) (run other : TrainRun) (runs : List TrainRun) → IsAmong other runs
      → IsAmong other (kept fault run runs)
  unfolding kept
  kept_later None run other runs among = inr among
  kept_later (Some fault) run other runs among = among

  kept_here : (fault : Option RunRule) (run : TrainRun) (runs : List TrainRun) → fault ≡ None
      → IsAmong run (kept fault run runs)
  unfolding kept
  kept_here None run runs is = inl refl
  kept_here (Some fault) run runs is = absurd cc

  all_legal : (kind : Kind) (lists : List (List Place)) (run : TrainRun) → IsAmong run (legal_of kind lists)
      → RunsLegally position company run
  unfolding legal_of
  all_legal kind [] run among = absurd among
  all_legal kind (list ∷ lists) run among =
      elim (among_kept (run_fault position company kind [] list) (run_by kind list) run (legal_of kind lists) among) [
        | inl here ↦ subst (λ (r : TrainRun). RunsLegally position company r) here.1 (legal_by kind list here.0)
        | inr later ↦ all_legal kind lists run later
      ]

  legal_there :
      (kind : Kind) (lists : List (List Place)) (list : List Place) → IsAmong list lists
      → run_fault position company kind [] list ≡ None →
      IsAmong (run_by kind list) (legal_of kind lists)
  unfolding legal_of
  legal_there kind [] list among is = absurd among
  legal_there kind (other ∷ lists) list (inl here) is =
      subst (λ (l : List Place). IsAmong (run_by kind l)
      (kept (run_fault position company kind [] other) (run_by kind other) (legal_of kind lists))) here
      (kept_here (run_fault position company kind [] other) (run_by kind other) (legal_of kind lists)
      (ap (run_fault position company kind []) here ∙ is))
  legal_there kind (other ∷ lists) list (inr later) is =
      kept_later (run_fault position company kind [] other) (run_by kind other) (run_by kind list)
      (legal_of kind lists) (legal_there kind lists list later is)

  -- for trains of some kinds
  legal_runs : List Kind → ℕ → List TrainRun
  legal_runs [] most = []
  legal_runs (kind ∷ more) most = legal_of kind (writings most) ++ legal_runs more most

  each_legal : (some : List Kind) (most : ℕ) (run : TrainRun) → IsAmong run (legal_runs some most)
      → RunsLegally position company run
  unfolding legal_runs
  each_legal [] most run among = absurd among
  each_legal (kind ∷ more) most run among =
      elim ((among_both run (legal_of kind (writings most)) (legal_runs more most)).0 among) [
        | inl here ↦ all_legal kind (writings most) run here
        | inr later ↦ each_legal more most run later
      ]

  legal_here :
      (some : List Kind) (most : ℕ) (kind : Kind) (list : List Place) → IsAmong kind some → length list ≤ most →
      run_fault position company kind [] list ≡ None → IsAmong (run_by kind list) (legal_runs some most)
  unfolding legal_runs
  legal_here [] most kind list among few is = absurd among
  legal_here (first ∷ more) most kind list (inl here) few is =
      (among_both (run_by kind list) (legal_of first (writings most)) (legal_runs more most)).1
      (inl (subst (λ (k : Kind). IsAmong (run_by kind list) (legal_of k (writings most))) (sym here)
      (legal_there kind (writings most) list (written_among most list few) is)))
  legal_here (first ∷ more) most kind list (inr later) few is =
      (among_both (run_by kind list) (legal_of first (writings most)) (legal_runs more most)).1
      (inr (legal_here more most kind list later few is))

  -- each legal run is among them
  run_there : IsLawful position → (run : TrainRun) → RunsLegally position company run
      → IsAmong run (legal_runs kinds 280)
  run_there lawful run legal =
      let written : (list : List Place) × AreItsPlaces position run.steps list =
      each_named position company run.kind [] run.steps lawful legal in
      let unbroken : run_fault position company run.kind [] written.0 ≡ None =
      (legal_where_unbroken position company run.kind [] written.0).1 (run.steps, written.1.name_it, legal) in
      let steps : named_steps position written.0 ≡ run.steps = ap (λ (w : Option (List WalkStep)). unwrap_or w []) written.1.name_it in
      subst (λ (s : List WalkStep). IsAmong (let made : TrainRun = record { kind = run.kind; steps = s } in made)
      (legal_runs kinds 280)) steps
      (legal_here kinds 280 run.kind written.0 (kind_among run.kind) written.1.most unbroken)

  all_among : (P : TrainRun → Type 0) (runs : List TrainRun) → AllByRecursion P runs → (run : TrainRun)
      → IsAmong run runs → P run
  all_among P [] holds run among = absurd among
  all_among P (first ∷ runs) holds run (inl here) = subst P here holds.0
  all_among P (first ∷ runs) holds run (inr later) = all_among P runs holds.1 run later

  among_all : (P : TrainRun → Type 0) (runs : List TrainRun) → ((run : TrainRun) → IsAmong run runs → P run)
      → AllByRecursion P runs
  among_all P [] each = tt
  among_all P (run ∷ runs) each = (each run (inl refl), among_all P runs (λ other among. each other (inr among)))

  -- the lists of legal runs that are no more than the trains
  pub choices : List Kind → List (List TrainRun)
  choices trains = lists_of (length trains) (legal_runs kinds 280)

  -- each legal set is one of them
  pub set_there : IsLawful position → (trains : List Kind) (runs : List TrainRun)
      → IsLegalSet position company trains runs → IsAmong runs (choices trains)
  unfolding choices
  set_there lawful trains runs set =
      among_lists (length trains) (legal_runs kinds 280) runs
      (omega (arith, runs_counted runs, no_more_taken trains (trains_that_run runs) set.each_once))
      (λ run among. run_there lawful run (all_among (RunsLegally position company) runs set.legal run among))

  -- and of each of them it is known whether it is a legal set
  pub set_decided : (trains : List Kind) (runs : List TrainRun) → IsAmong runs (choices trains)
      → Decided (IsLegalSet position company trains runs)
  unfolding choices
  set_decided trains runs among =
      let legal : AllByRecursion (RunsLegally position company) runs =
      among_all (RunsLegally position company) runs (λ run there. each_legal kinds 280 run
      (lists_among (length trains) (legal_runs kinds 280) runs among run there)) in
      elim (both_decided (AreTakenFrom trains (trains_that_run runs)) (AreApart runs)
      (decided_taken trains (trains_that_run runs)) (decided_apart runs)) [
        | inl both ↦ inl (record { legal = legal; each_once = both.0; apart = both.1 })
        | inr fails ↦ inr (λ set. fails (set.each_once, set.apart))
      ]
