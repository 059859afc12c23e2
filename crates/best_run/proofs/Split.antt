-- Where a run is cut: at the first of the company's tokens that it comes by, in the order of their
-- numbers. What holds of a walk holds of its part from there on.
use Rattle.std.proofs.Common.{◌≡◌, ◌↔◌, ℕ, zero, suc, ◌+◌, ◌*◌, ◌<◌, ◌≤◌, Bool, true, false, ◌⊎◌, inl, inr, Some, List}
use Rattle.std.proofs.Common.{[], ◌∷◌, ◌++◌, length, refl, sym, ap, subst, ◌∙◌, arith, length-append}
use Rattle.std.proofs.lemmas.List.{append_assoc, length-replicate}
use Rattle.map_tables.specs.Hex.{index_of}
use Rattle.map_tables.specs.Place.{stop_index_of}
use Rattle.map_tables.specs.declared.place.Stop.{Stop}
use Rattle.reach.specs.Position.{Position, HasToken, IsAmong, IsFull, is_red}
use Rattle.reach.specs.Search.{spot_number}
use Rattle.reach.specs.Walk.{BeginsAt, GoesOn, IsWalk, PassesBy, PassesOnly, entered_at, left_at, stop_of}
use Rattle.reach.specs.declared.walk.Spot.{Spot}
use Rattle.reach.specs.declared.walk.WalkStep.{WalkStep}
use Rattle.reach.proofs.Collected.{none_marked}
use Rattle.reach.proofs.Spots.{stop_number}
use Rattle.tables.specs.declared.rolling_stock.Kind.{Kind}
use Rattle.tables.specs.declared.roster.Company.{Company}
use Rattle.legal_runs.specs.Legal.{AreDistinct, HasSuch, border_at, crossed, first_stop, listed, visited}
use Rattle.legal_runs.proofs.Marks.{among_both}
use Rattle.legal_runs.proofs.RunReached.{among_listed}
use Rattle.best_run.specs.Moves.{marked_if, own_before}
use Rattle.best_run.proofs.Advance.{node_left}
use Rattle.search_task.specs.declared.task.Task.{Task}
use Rattle.search_task.specs.Described.{Describes, IsStopNode}
use Rattle.search_task.specs.Spots.{node_at, own_in}
use Rattle.search_task.specs.Marks.{IsMarked}
use Rattle.search_task.proofs.Marked.{mark_more}
use Rattle.search_task.proofs.Described.{spot_low}
use Rattle.best_run.proofs.Backwards.{AreCanonical}
use Rattle.best_run.proofs.Complete.{AreAhead}
use Rattle.best_run.proofs.Prefix.{Holds, onto}
use Rattle.best_run.proofs.Hopeless.{mark_length}

-- the number of a stop, which is that of each of its spots
abbrev pub number_of : Stop → ℕ
number_of stop = 8 * index_of stop.hex + (6 + stop_index_of stop.number)

pub own_length : (task : Task) (n : ℕ) → length (own_before task n) ≡ 744
own_length task zero = length-replicate 744 false
own_length task (suc n) = mark_length (own_in (node_at task n)) (own_before task n) n ∙ own_length task n

-- one more number: marked if the company has a token there
marks_by : (task : Task) (n m : ℕ) (own : Bool) → n < 744 → own_in (node_at task n) ≡ own
    → (IsMarked (own_before task n) m → (m < n) × (own_in (node_at task m) ≡ true))
    → IsMarked (marked_if own (own_before task n) n) m → (m < suc n) × (own_in (node_at task m) ≡ true)
marks_by task n m true low is before has =
    elim ((mark_more (own_before task n) n m (omega (arith, low, own_length task n))).0 has) [
      | inl same ↦ (omega (arith, same), ap (λ (k : ℕ). own_in (node_at task k)) same ∙ is)
      | inr was ↦ (omega (arith, (before was).0), (before was).1)
    ]
marks_by task n m false low is before has = (omega (arith, (before has).0), (before has).1)

own_marks : (task : Task) (n m : ℕ) → n ≤ 744 → IsMarked (own_before task n) m
    → (m < n) × (own_in (node_at task m) ≡ true)
own_marks task zero m low marked = absurd (let wrong : true ≡ false = sym marked ∙ none_marked 744 m in cc)
own_marks task (suc n) m low marked =
    marks_by task n m (own_in (node_at task n)) (omega (arith, low)) refl (own_marks task n m (omega (arith, low)))
    marked

pub either_way : (m n : ℕ) → (m ≤ n) ⊎ (n ≤ m)
either_way zero n = inl (omega arith)
either_way (suc m) zero = inr (omega arith)
either_way (suc m) (suc n) = elim (either_way m n)
    [ inl low ↦ inl (omega (arith, low)) | inr low ↦ inr (omega (arith, low)) ]

-- the first of some stops that pass a test, by their numbers
record IsFirst (passes : Stop → Bool) (stops : List Stop) : Type 0 where
  pub stop : Stop
  pub among : IsAmong stop stops
  pub such : passes stop ≡ true
  pub least : (other : Stop) → IsAmong other stops → passes other ≡ true → number_of stop ≤ number_of other

find_first : (passes : Stop → Bool) (stops : List Stop)
    → IsFirst passes stops ⊎ ((stop : Stop) → IsAmong stop stops → passes stop ≡ true → ⊥)
find_first passes [] = inr (λ stop among is. among)
find_first passes (stop ∷ stops) = by_test (find_first passes stops) (passes stop) refl
  where
    by_test : (IsFirst passes stops ⊎ ((other : Stop) → IsAmong other stops → passes other ≡ true → ⊥))
        → (test : Bool) → passes stop ≡ test → IsFirst passes (stop ∷ stops)
        ⊎ ((other : Stop) → IsAmong other (stop ∷ stops) → passes other ≡ true → ⊥)
    by_test (inl rest) false fails =
        inl (record {
          stop = rest.stop;
          among = inr rest.among;
          such = rest.such;
          least = λ other among is. elim among [
            | inl here ↦ absurd (let wrong : false ≡ true = sym fails ∙ (ap passes here ∙ is) in cc)
            | inr later ↦ rest.least other later is
          ];
        })
    by_test (inr none) false fails =
        inr (λ other among is. elim among [
          | inl here ↦ let wrong : false ≡ true = sym fails ∙ (ap passes here ∙ is) in cc
          | inr later ↦ none other later is
        ])
    by_test (inr none) true is =
        inl (record {
          stop = stop;
          among = inl refl;
          such = is;
          least = λ other among test. elim among [
            | inl here ↦ omega (arith, ap number_of here)
            | inr later ↦ absurd (none other later test)
          ];
        })
    by_test (inl rest) true is =
        elim (either_way (number_of stop) (number_of rest.stop)) [
          | inl low ↦ inl (record {
            stop = stop;
            among = inl refl;
            such = is;
            least = λ other among test. elim among [
              | inl here ↦ omega (arith, ap number_of here)
              | inr later ↦ omega (arith, low, rest.least other later test)
            ];
          })
          | inr low ↦ inl (record {
            stop = rest.stop;
            among = inr rest.among;
            such = rest.such;
            least = λ other among test. elim among [
              | inl here ↦ omega (arith, low, ap number_of here)
              | inr later ↦ rest.least other later test
            ];
          })
        ]

-- each stop that is visited lies at a spot
spot_of : (steps : List WalkStep) (stop : Stop) → IsAmong stop (visited steps) → (spot : Spot) × (stop_of spot ≡ Some stop)
spot_of [] stop among = absurd among
spot_of (step ∷ before) stop among =
    elim ((among_both stop (listed (stop_of (left_at step))) (first_stop before step ++ visited before)).0 among) [
      | inl here ↦ (left_at step, among_listed (stop_of (left_at step)) stop here)
      | inr rest ↦ by_first before (λ earlier. spot_of before stop earlier) rest
    ]
  where
    by_first : (before : List WalkStep) → (IsAmong stop (visited before) → (spot : Spot) × (stop_of spot ≡ Some stop))
        → IsAmong stop (first_stop before step ++ visited before) → (spot : Spot) × (stop_of spot ≡ Some stop)
    by_first [] earlier rest =
        elim ((among_both stop (listed (stop_of (entered_at step))) []).0 rest) [
          | inl here ↦ (entered_at step, among_listed (stop_of (entered_at step)) stop here)
          | inr none ↦ absurd none
        ]
    by_first (one ∷ before) earlier rest = earlier rest

such_among : (P : Stop → Type 0) (stops : List Stop) → HasSuch P stops → (stop : Stop) × IsAmong stop stops × P stop
such_among P [] has = absurd has
such_among P (stop ∷ stops) (inl here) = (stop, inl refl, here)
such_among P (stop ∷ stops) (inr later) =
    let rest : (other : Stop) × IsAmong other stops × P other = such_among P stops later in (rest.0, inr rest.1, rest.2)

among_such : (P : Stop → Type 0) (stops : List Stop) (stop : Stop) → IsAmong stop stops → P stop → HasSuch P stops
among_such P [] stop among is = among
among_such P (other ∷ stops) stop among is =
    elim among [ inl here ↦ inl (subst P (sym here) is) | inr later ↦ inr (among_such P stops stop later is) ]

pub such_canonical : (P : Stop → Type 0) (stops others : List Stop) → AreCanonical stops others → HasSuch P stops
    → HasSuch P others
such_canonical P stops others canonical has =
    let one : (stop : Stop) × IsAmong stop stops × P stop = such_among P stops has in
    among_such P others one.0 ((canonical.among one.0).0 one.1) one.2

pub such_later : (P : Stop → Type 0) (first stops : List Stop) → HasSuch P stops → HasSuch P (first ++ stops)
such_later P [] stops has = has
such_later P (stop ∷ first) stops has = inr (such_later P first stops has)

module _ (position : Position) (company : Company) (kinds : List Kind) (task : Task)
    (describes : Describes position company kinds task) where
  -- the token from which a run is gone over
  pub record HasHome (steps : List WalkStep) : Type 0 where
    pub stop : Stop
    pub among : IsAmong stop (visited steps)
    pub token : HasToken position stop company
    pub ahead : AreAhead task (number_of stop) (visited steps)

  owns : (spot : Spot) (stop : Stop) → stop_of spot ≡ Some stop
      → (own_in (node_at task (number_of stop)) ≡ true) ↔ HasToken position stop company
  owns spot stop there =
      let node : IsStopNode position company stop (node_at task (spot_number spot)) =
      node_left position company kinds task describes spot (Some stop) there in
      subst (λ (n : ℕ). (own_in (node_at task n) ≡ true) ↔ HasToken position stop company)
      (stop_number spot stop there) node.own

  pub find_home : (steps : List WalkStep) → HasSuch (λ stop. HasToken position stop company) (visited steps) → HasHome steps
  find_home steps has =
      elim (find_first (λ stop. own_in (node_at task (number_of stop))) (visited steps)) [
        | inl first ↦
            let spot = spot_of steps first.stop first.among in
            record {
              stop = first.stop;
              among = first.among;
              token = (owns spot.0 first.stop spot.1).0 first.such;
              ahead = λ at stop there among marked.
                  let passed : (spot_number at < number_of first.stop)
                  × (own_in (node_at task (spot_number at)) ≡ true) =
                  own_marks task (number_of first.stop) (spot_number at)
                  (omega (arith, spot_low spot.0, stop_number spot.0 first.stop spot.1)) marked in
                  let number : spot_number at ≡ number_of stop = stop_number at stop there in
                  let least : number_of first.stop ≤ number_of stop =
                  first.least stop among (ap (λ (n : ℕ). own_in (node_at task n)) (sym number) ∙ passed.1) in
                  omega (arith, passed.0, number, least);
            }
        | inr none ↦
            let such : (stop : Stop) × IsAmong stop (visited steps) × HasToken position stop company =
            such_among (λ stop. HasToken position stop company) (visited steps) has in
            let spot = spot_of steps such.0 such.1 in
            absurd (none such.0 such.1 ((owns spot.0 such.0 spot.1).1 such.2))
      ]

-- a walk that ends at a stop, that begins there, or that comes by
pub record EndsThere (stop : Stop) (walk : List WalkStep) : Type 0 where
  pub step : WalkStep
  pub before : List WalkStep
  pub is : step ∷ before ≡ walk
  pub there : stop_of (left_at step) ≡ Some stop

pub record BeginsThere (stop : Stop) (walk : List WalkStep) : Type 0 where
  pub step : WalkStep
  pub later : List WalkStep
  pub is : onto later (step ∷ []) ≡ walk
  pub there : stop_of (entered_at step) ≡ Some stop

pub record ComesBy (stop : Stop) (walk : List WalkStep) : Type 0 where
  pub last : WalkStep
  pub before : List WalkStep
  pub step : WalkStep
  pub later : List WalkStep
  pub is : onto later (step ∷ last ∷ before) ≡ walk
  pub there : stop_of (left_at last) ≡ Some stop

abbrev pub IsCut : Stop → List WalkStep → Type 0
IsCut stop walk = EndsThere stop walk ⊎ (BeginsThere stop walk ⊎ ComesBy stop walk)

pub cut : (stop : Stop) (steps later : List WalkStep) → IsAmong stop (visited steps) → IsCut stop (onto later steps)
cut stop [] later among = absurd among
cut stop (step ∷ before) later among =
    elim ((among_both stop (listed (stop_of (left_at step))) (first_stop before step ++ visited before)).0 among) [
      | inl here ↦ by_later later (among_listed (stop_of (left_at step)) stop here)
      | inr rest ↦ by_before before (λ earlier. cut stop before (step ∷ later) earlier) rest
    ]
  where
    by_later : (later : List WalkStep) → stop_of (left_at step) ≡ Some stop → IsCut stop (onto later (step ∷ before))
    by_later [] there = inl (record { step = step; before = before; is = refl; there = there })
    by_later (next ∷ later) there = inr (inr (record
        { last = step; before = before; step = next; later = later; is = refl; there = there }))

    by_before : (before : List WalkStep) → (IsAmong stop (visited before) → IsCut stop (onto later (step ∷ before)))
        → IsAmong stop (first_stop before step ++ visited before) → IsCut stop (onto later (step ∷ before))
    by_before [] earlier rest =
        elim ((among_both stop (listed (stop_of (entered_at step))) []).0 rest) [
          | inl here ↦ inr (inl (record {
            step = step;
            later = later;
            is = refl;
            there =
                among_listed (stop_of (entered_at step)) stop here;
          }))
          | inr none ↦ absurd none
        ]
    by_before (one ∷ before) earlier rest = earlier rest

-- the later part of a list of distinct things
distinct_left : {A : Type 0} (first second : List A) → AreDistinct (first ++ second) → AreDistinct first
distinct_left [] second distinct = tt
distinct_left (x ∷ first) second distinct =
    ((λ among. distinct.0 ((among_both x first second).1 (inl among))), distinct_left first second distinct.1)

pub onto_put : {A : Type 0} (xs ys zs : List A) → onto xs (ys ++ zs) ≡ onto xs ys ++ zs
onto_put [] ys zs = refl
onto_put (x ∷ xs) ys zs = onto_put xs (x ∷ ys) zs

crossed_put : (later before : List WalkStep) → crossed (later ++ before) ≡ crossed later ++ crossed before
crossed_put [] before = refl
crossed_put (step ∷ later) before =
    ap (λ (bs : List ℕ). border_at (entered_at step).hex (entered_at step).end ++ bs) (crossed_put later before)
    ∙ sym (append_assoc (border_at (entered_at step).hex (entered_at step).end) (crossed later) (crossed before))

-- the part of a walk from a stop on begins there
visited_put : (step : WalkStep) (later : List WalkStep) (last : WalkStep) (before : List WalkStep) (home : Stop)
    → stop_of (left_at last) ≡ Some home → BeginsAt (λ stop. stop ≡ home) (step ∷ later)
    → visited (step ∷ later ++ last ∷ before) ≡ visited (step ∷ later) ++ (first_stop before last ++ visited before)
visited_put step [] last before home there begins =
    let rest = first_stop before last ++ visited before in
    let here = listed (stop_of (left_at step)) in
    let enters : stop_of (entered_at step) ≡ stop_of (left_at last) =
    begins.1 ∙ (ap (λ (s : Stop). Some s) begins.2 ∙ sym there) in
    let one : listed (stop_of (left_at last)) ++ rest ≡ (listed (stop_of (entered_at step)) ++ []) ++ rest =
    ap (λ o. listed o ++ rest) (sym enters) ∙ ap (λ (stops : List Stop). stops ++ rest)
    (sym (append_none (listed (stop_of (entered_at step))))) in
    ap (λ (stops : List Stop). here ++ stops) one ∙ sym
    (append_assoc here (listed (stop_of (entered_at step)) ++ []) rest)
  where
    append_none : (xs : List Stop) → xs ++ [] ≡ xs
    append_none [] = refl
    append_none (x ∷ xs) = ap (λ ys. x ∷ ys) (append_none xs)
visited_put step (earlier ∷ later) last before home there begins =
    let rest = first_stop before last ++ visited before in
    let here = listed (stop_of (left_at step)) in
    ap (λ (stops : List Stop). here ++ stops) (visited_put earlier later last before home there begins)
    ∙ sym (append_assoc here (visited (earlier ∷ later)) rest)

walk_part : (position : Position) (later before : List WalkStep) → IsWalk position (later ++ before) → IsWalk position later
walk_part position [] before walk = tt
walk_part position (step ∷ later) before walk = (walk.0, by_later later walk.1, walk_part position later before walk.2)
  where
    by_later : (later : List WalkStep) → GoesOn (later ++ before) step → GoesOn later step
    by_later [] goes = tt
    by_later (earlier ∷ later) goes = goes

passes_part : (P : Stop → Type 0) (later before : List WalkStep) → PassesOnly P (later ++ before) → PassesOnly P later
passes_part P [] before passes = tt
passes_part P (step ∷ later) before passes = (by_later later passes.0, passes_part P later before passes.1)
  where
    by_later : (later : List WalkStep) → PassesBy P (later ++ before) step → PassesBy P later step
    by_later [] by = tt
    by_later (earlier ∷ later) by = by

begins_some : (step : WalkStep) (later : List WalkStep) (home : Stop) → BeginsAt (λ stop. stop ≡ home) (step ∷ later)
    → BeginsAt (λ stop. Unit {0}) (step ∷ later)
begins_some step later home begins = (begins.0, begins.1, tt)

pub holds_part : (position : Position) (company : Company) (most : ℕ) (others : List ℕ) (step : WalkStep)
    (later : List WalkStep) (last : WalkStep) (before : List WalkStep) (home : Stop) → stop_of (left_at last) ≡ Some home
    → BeginsAt (λ stop. stop ≡ home) (step ∷ later)
    → Holds position company most others (step ∷ later ++ last ∷ before)
    → Holds position company most others (step ∷ later)
holds_part position company most others step later last before home there begins holds =
    let rest = first_stop before last ++ visited before in
    let visits = visited_put step later last before home there begins in
    let crosses = crossed_put (step ∷ later) (last ∷ before) in
    record {
      walk = walk_part position (step ∷ later) (last ∷ before) holds.walk;
      begins = begins_some step later home begins;
      few = omega (arith, holds.few, ap length visits, length-append (visited (step ∷ later)) rest);
      stops = distinct_left (visited (step ∷ later)) rest (subst AreDistinct visits holds.stops);
      borders = distinct_left (crossed (step ∷ later)) (crossed (last ∷ before))
          (subst AreDistinct crosses holds.borders);
      free = λ border among. holds.free border (subst (IsAmong border) (sym crosses)
          ((among_both border (crossed (step ∷ later)) (crossed (last ∷ before))).1 (inl among)));
      red = passes_part (λ stop. ¬ (is_red position stop ≡ true)) (step ∷ later) (last ∷ before) holds.red;
      full = passes_part (λ stop. ¬ IsFull position stop company) (step ∷ later) (last ∷ before) holds.full;
    }
