-- A walk from its other end: each step is taken the other way over its link, the last one first. It
-- visits the same stops, crosses the same borders and passes the same stops.
use Rattle.std.proofs.Common.{◌≡◌, ◌↔◌, ℕ, ◌+◌, true, ◌⊎◌, inl, inr, Option, Some, None, IfSome, List, [], ◌∷◌, ◌++◌}
use Rattle.std.proofs.Common.{length, refl, sym, ap, subst, ◌∙◌, arith}
use Rattle.map_tables.specs.declared.hex.Hex.{Hex}
use Rattle.map_tables.specs.declared.place.Stop.{Stop}
use Rattle.map_tables.specs.declared.track.TrackEnd.{TrackEnd}
use Rattle.map_tables.specs.declared.track.TrackEnd.TheVariants.{Side as AtSide, Stop as AtStop}
use Rattle.reach.specs.Lawful.{IsLawful}
use Rattle.reach.specs.Position.{Position, IsAmong, IsFull, is_red}
use Rattle.reach.specs.Walk.{AreJoined, BeginsAt, GoesOn, IsWalk, PassesBy, PassesOnly, begins_at, entered_at, left_at}
use Rattle.reach.specs.Walk.{stop_of}
use Rattle.reach.specs.declared.walk.Spot.{Spot}
use Rattle.reach.specs.declared.walk.WalkStep.{WalkStep}
use Rattle.reach.proofs.Spots.{back}
use Rattle.tables.specs.declared.roster.Company.{Company}
use Rattle.legal_runs.specs.Legal.{AreDistinct, EndsAtStop, border_at, crossed, first_stop, listed, visited, worth}
use Rattle.legal_runs.proofs.RunReached.{flip_enters, flip_leaves, flipped}
use Rattle.legal_runs.proofs.TwoTrain.{no_border, one_border, returning}
use Rattle.best_run.proofs.Prefix.{Holds, onto}

-- things of a list, one by one before others
pub onto_append : {A : Type 0} (xs ys zs : List A) → onto (xs ++ ys) zs ≡ onto ys (onto xs zs)
onto_append [] ys zs = refl
onto_append (x ∷ xs) ys zs = onto_append xs ys (x ∷ zs)

pub among_onto : {A : Type 0} (x : A) (xs ys : List A) → IsAmong x (onto xs ys) ↔ (IsAmong x xs ⊎ IsAmong x ys)
among_onto x [] ys = (λ is. inr is, λ is. elim is [ inl none ↦ absurd none | inr old ↦ old ])
among_onto x (y ∷ xs) ys =
    let rest = among_onto x xs (y ∷ ys) in (
      λ is. elim (rest.0 is) [
        | inl later ↦ inl (inr later)
        | inr found ↦ elim found
            [ inl here ↦ inl (inl here) | inr old ↦ inr old ]
      ],
      λ is. elim is [
        | inl found ↦ elim found [ inl here ↦ rest.1 (inr (inl here)) | inr later ↦ rest.1 (inl later) ]
        | inr old ↦ rest.1 (inr (inr old))
      ],
    )

length_onto : {A : Type 0} (xs ys : List A) → length (onto xs ys) ≡ length xs + length ys
length_onto [] ys = omega arith
length_onto (x ∷ xs) ys = let rest = length_onto xs (x ∷ ys) in omega arith

distinct_onto : {A : Type 0} (xs ys : List A) → AreDistinct xs → AreDistinct ys
    → ((x : A) → IsAmong x xs → IsAmong x ys → ⊥) → AreDistinct (onto xs ys)
distinct_onto [] ys once others apart = others
distinct_onto (x ∷ xs) ys once others apart =
    distinct_onto xs (x ∷ ys) once.1 (apart x (inl refl), others)
    (λ y here there. elim there [
      | inl is ↦ once.0 (subst (λ z. IsAmong z xs) (sym is) here)
      | inr old ↦ apart y (inr here) old
    ])

worth_onto : (position : Position) (xs ys : List Stop)
    → worth position (onto xs ys) ≡ worth position xs + worth position ys
worth_onto position [] ys = omega arith
worth_onto position (x ∷ xs) ys = let rest = worth_onto position xs (x ∷ ys) in omega arith

-- two lists have the same things, and as many
pub record AreCanonical {A : Type 0} (xs ys : List A) : Type 0 where
  pub among : (x : A) → IsAmong x xs ↔ IsAmong x ys
  pub long : length xs ≡ length ys

pub canonical_onto : {A : Type 0} (xs : List A) → AreCanonical xs (onto xs [])
canonical_onto xs =
    record {
      among = λ x. let both = among_onto x xs [] in (
        λ is. both.1 (inl is),
        λ is. elim (both.0 is)
            [ inl found ↦ found | inr none ↦ absurd none ],
      );
      long = let long = length_onto xs [] in omega arith;
    }

pub canonical_back : {A : Type 0} (xs ys : List A) → AreCanonical xs ys → AreCanonical ys xs
canonical_back xs ys canonical = record {
  among = λ x. ((canonical.among x).1, (canonical.among x).0);
  long =
      sym canonical.long;
}

pub worth_back : (position : Position) (stops : List Stop) → worth position (onto stops []) ≡ worth position stops
worth_back position stops = let both = worth_onto position stops [] in omega arith

onto_listed : (o : Option Stop) (stops : List Stop) → onto (listed o) stops ≡ listed o ++ stops
onto_listed None stops = refl
onto_listed (Some stop) stops = refl

listed_onto : (o : Option Stop) (stops : List Stop) → listed o ++ stops ≡ onto (listed o ++ []) stops
listed_onto None stops = refl
listed_onto (Some stop) stops = refl

two_listed : (o p : Option Stop) → listed p ++ (listed o ++ []) ≡ onto (listed o ++ (listed p ++ [])) []
two_listed None None = refl
two_listed None (Some stop) = refl
two_listed (Some stop) None = refl
two_listed (Some stop) (Some other) = refl

two_onto : (o p : Option Stop) → listed p ++ (listed o ++ []) ≡ onto (listed p) (onto (listed o) [])
two_onto None None = refl
two_onto None (Some stop) = refl
two_onto (Some stop) None = refl
two_onto (Some stop) (Some other) = refl

onto_border : (hex : Hex) (end : TrackEnd) (borders : List ℕ)
    → onto (border_at hex end) borders ≡ border_at hex end ++ borders
onto_border hex (AtSide side) borders = refl
onto_border hex (AtStop number) borders = refl

-- a walk begins at a spot
abbrev pub Starts : List WalkStep → Spot → Type 0
Starts [] at = ⊥
Starts (step ∷ before) at = begins_at step before ≡ at

-- the borders of the spots where the steps of a walk are left
abbrev borders_left : List WalkStep → List ℕ
borders_left [] = []
borders_left (step ∷ before) = border_at (left_at step).hex (left_at step).end ++ borders_left before

-- a walk goes on with what comes before another, the other way
abbrev Meets : List WalkStep → List WalkStep → Type 0
Meets done [] = Unit {0}
Meets done (step ∷ before) = GoesOn done (flipped step)

abbrev MeetsBy : (Stop → Type 0) → List WalkStep → List WalkStep → Type 0
MeetsBy P done [] = Unit {0}
MeetsBy P done (step ∷ before) = PassesBy P done (flipped step)

starts_back : (steps : List WalkStep) (first : WalkStep) (done : List WalkStep) (at : Spot) → Starts (first ∷ done) at
    → Starts (onto (returning steps) (first ∷ done)) at
starts_back [] first done at starts = starts
starts_back (step ∷ before) first done at starts = starts_back before (flipped step) (first ∷ done) at starts

begins_back : (steps : List WalkStep) (first : WalkStep) (done : List WalkStep) → BeginsAt (λ stop. Unit {0}) (first ∷ done)
    → BeginsAt (λ stop. Unit {0}) (onto (returning steps) (first ∷ done))
begins_back [] first done begins = begins
begins_back (step ∷ before) first done begins = begins_back before (flipped step) (first ∷ done) begins

-- where the way back ends
record Ends (walk : List WalkStep) (at : Spot) : Type 0 where
  pub last : WalkStep
  pub rest : List WalkStep
  pub is : walk ≡ last ∷ rest
  pub is_at : left_at last ≡ at

ends_back : (step : WalkStep) (before done : List WalkStep)
    → Ends (onto (returning (step ∷ before)) done) (begins_at step before)
ends_back step [] done = record { last = flipped step; rest = done; is = refl; is_at = flip_leaves step }
ends_back step (earlier ∷ before) done = ends_back earlier before (flipped step ∷ done)

crosses_back : (steps done : List WalkStep) → crossed (onto (returning steps) done)
    ≡ onto (borders_left steps) (crossed done)
crosses_back [] done = refl
crosses_back (step ∷ before) done =
    let at = left_at step in
    crosses_back before (flipped step ∷ done)
    ∙ ap (λ (s : Spot). onto (borders_left before) (border_at s.hex s.end ++ crossed done)) (flip_enters step)
    ∙ ap (λ (bs : List ℕ). onto (borders_left before) bs) (sym (onto_border at.hex at.end (crossed done)))
    ∙ sym (onto_append (border_at at.hex at.end) (borders_left before) (crossed done))

module _ (position : Position) (lawful : IsLawful position) where
  joined_back : (at next : Spot) → AreJoined at next → AreJoined next at
  joined_back at next (inl one) = inl (one.0, one.2, one.1)
  joined_back at next (inr over) = inr (back position lawful at next over).0

  pub one_stop : (at next : Spot) → AreJoined at next → stop_of at ≡ stop_of next
  one_stop at next (inl one) = one.1 ∙ sym one.2
  one_stop at next (inr over) =
      (back position lawful next at (back position lawful at next over).0).1 ∙ sym (back position lawful at next over).1

  border_joined : (at next : Spot) → AreJoined at next → border_at at.hex at.end ≡ border_at next.hex next.end
  border_joined at next (inl one) = no_border at.hex at.end one.0 one.1 ∙ sym (no_border next.hex next.end one.0 one.2)
  border_joined at next (inr over) = one_border lawful.borders_pair at next over

  walks_back : (steps done : List WalkStep) → IsWalk position steps → IsWalk position done → Meets done steps
      → IsWalk position (onto (returning steps) done)
  walks_back [] done walk before meets = before
  walks_back (step ∷ before) done walk after meets =
      walks_back before (flipped step ∷ done) walk.2 (walk.0, meets, after) (meets_next before walk.1)
    where
      meets_next : (before : List WalkStep) → GoesOn before step → Meets (flipped step ∷ done) before
      meets_next [] goes = tt
      meets_next (earlier ∷ before) goes =
          subst (λ (s : Spot). AreJoined (left_at (flipped step)) s) (sym (flip_enters earlier))
          (subst (λ (s : Spot). AreJoined s (left_at earlier)) (sym (flip_leaves step))
          (joined_back (left_at earlier) (entered_at step) goes))

  passes_back : (P : Stop → Type 0) (steps done : List WalkStep) → IsWalk position steps → PassesOnly P steps
      → PassesOnly P done → MeetsBy P done steps → PassesOnly P (onto (returning steps) done)
  passes_back P [] done walk passes after meets = after
  passes_back P (step ∷ before) done walk passes after meets =
      passes_back P before (flipped step ∷ done) walk.2 passes.1 (meets, after) (meets_next before walk.1 passes.0)
    where
      meets_next : (before : List WalkStep) → GoesOn before step → PassesBy P before step
          → MeetsBy P (flipped step ∷ done) before
      meets_next [] goes by = tt
      meets_next (earlier ∷ before) goes by =
          subst (λ (s : Spot). IfSome (stop_of s) P) (sym (flip_enters earlier))
          (subst (λ o. IfSome o P) (sym (one_stop (left_at earlier) (entered_at step) goes)) by)

  visits_back : (before : List WalkStep) (step first : WalkStep) (done : List WalkStep) → IsWalk position (step ∷ before)
      → visited (onto (returning (step ∷ before)) (first ∷ done))
      ≡ onto (first_stop before step ++ visited before) (visited (first ∷ done))
  visits_back [] step first done walk =
      ap (λ (s : Spot). listed (stop_of s) ++ visited (first ∷ done)) (flip_leaves step)
      ∙ listed_onto (stop_of (entered_at step)) (visited (first ∷ done))
  visits_back (earlier ∷ before) step first done walk =
      let rest = first_stop before earlier ++ visited before in
      let seen = visited (first ∷ done) in
      visits_back before earlier (flipped step) (first ∷ done) walk.2
      ∙ ap (λ (s : Spot). onto rest (listed (stop_of s) ++ seen)) (flip_leaves step)
      ∙ ap (λ o. onto rest (listed o ++ seen)) (sym (one_stop (left_at earlier) (entered_at step) walk.1))
      ∙ ap (λ (stops : List Stop). onto rest stops) (sym (onto_listed (stop_of (left_at earlier)) seen))
      ∙ sym (onto_append (listed (stop_of (left_at earlier))) rest seen)

  visited_back : (step : WalkStep) (before : List WalkStep) → IsWalk position (step ∷ before)
      → visited (onto (returning (step ∷ before)) []) ≡ onto (visited (step ∷ before)) []
  visited_back step [] walk =
      ap (λ (s : Spot). listed (stop_of s) ++ (listed (stop_of (entered_at (flipped step))) ++ [])) (flip_leaves step)
      ∙ ap (λ (s : Spot). listed (stop_of (entered_at step)) ++ (listed (stop_of s) ++ [])) (flip_enters step)
      ∙ two_listed (stop_of (left_at step)) (stop_of (entered_at step))
  visited_back step (earlier ∷ before) walk =
      let rest = first_stop before earlier ++ visited before in
      let here = stop_of (left_at step) in
      let there = stop_of (left_at earlier) in
      visits_back before earlier (flipped step) [] walk.2
      ∙ ap (λ (s : Spot). onto rest (listed (stop_of s) ++ (listed (stop_of (entered_at (flipped step))) ++ [])))
      (flip_leaves step)
      ∙ ap (λ (s : Spot). onto rest (listed (stop_of (entered_at step)) ++ (listed (stop_of s) ++ [])))
      (flip_enters step)
      ∙ ap (λ o. onto rest (listed o ++ (listed here ++ [])))
      (sym (one_stop (left_at earlier) (entered_at step) walk.1))
      ∙ ap (λ (stops : List Stop). onto rest stops) (two_onto here there)
      ∙ sym (onto_append (listed there) rest (onto (listed here) []))
      ∙ sym (onto_append (listed here) (listed there ++ rest) [])

  left_same : (step : WalkStep) (before : List WalkStep) → IsWalk position (step ∷ before)
      → BeginsAt (λ stop. Unit {0}) (step ∷ before) → borders_left (step ∷ before)
      ≡ border_at (left_at step).hex (left_at step).end ++ crossed (step ∷ before)
  left_same step [] walk begins =
      let at = entered_at step in
      ap (λ (bs : List ℕ). border_at (left_at step).hex (left_at step).end ++ (bs ++ []))
      (sym (no_border at.hex at.end begins.0 begins.1))
  left_same step (earlier ∷ before) walk begins =
      ap (λ (bs : List ℕ). border_at (left_at step).hex (left_at step).end ++ bs)
      (left_same earlier before walk.2 begins
      ∙ ap (λ (bs : List ℕ). bs ++ crossed (earlier ∷ before))
      (border_joined (left_at earlier) (entered_at step) walk.1))

  crossed_back : (step : WalkStep) (before : List WalkStep) → IsWalk position (step ∷ before)
      → BeginsAt (λ stop. Unit {0}) (step ∷ before) → EndsAtStop (step ∷ before)
      → crossed (onto (returning (step ∷ before)) []) ≡ onto (crossed (step ∷ before)) []
  crossed_back step before walk begins ends =
      let at = left_at step in
      crosses_back (step ∷ before) []
      ∙ ap (λ (bs : List ℕ). onto bs []) (left_same step before walk begins
      ∙ ap (λ (bs : List ℕ). bs ++ crossed (step ∷ before)) (no_border at.hex at.end ends.0 ends.1))

  -- a walk from stop to stop, turned about
  pub record Turned (company : Company) (most : ℕ) (others : List ℕ) (step : WalkStep) (before : List WalkStep) : Type 0 where
    pub last : WalkStep
    pub rest : List WalkStep
    pub is : onto (returning (step ∷ before)) [] ≡ last ∷ rest
    pub is_at : left_at last ≡ begins_at step before
    pub starts : begins_at last rest ≡ left_at step
    pub visits : visited (last ∷ rest) ≡ onto (visited (step ∷ before)) []
    pub crosses : crossed (last ∷ rest) ≡ onto (crossed (step ∷ before)) []
    pub holds : Holds position company most others (last ∷ rest)

  pub walk_turned :
      (company : Company) (most : ℕ) (others : List ℕ) (step : WalkStep) (before : List WalkStep)
      → Holds position company most others (step ∷ before) →
      EndsAtStop (step ∷ before) → Turned company most others step before
  walk_turned company most others step before holds ends =
      let all = step ∷ before in
      let end : Ends (onto (returning all) []) (begins_at step before) = ends_back step before [] in
      let visits : visited (end.last ∷ end.rest) ≡ onto (visited all) [] =
      subst (λ w. visited w ≡ onto (visited all) []) end.is (visited_back step before holds.walk) in
      let crosses : crossed (end.last ∷ end.rest) ≡ onto (crossed all) [] =
      subst (λ w. crossed w ≡ onto (crossed all) []) end.is
      (crossed_back step before holds.walk holds.begins ends) in
      record {
        last = end.last;
        rest = end.rest;
        is = end.is;
        is_at = end.is_at;
        starts = subst (λ w. Starts w (left_at step)) end.is
            (starts_back before (flipped step) [] (left_at step) (flip_enters step));
        visits = visits;
        crosses = crosses;
        holds = record {
          walk = subst (IsWalk position) end.is (walks_back all [] holds.walk tt tt);
          begins = subst (BeginsAt (λ stop. Unit {0})) end.is
              (begins_back before (flipped step) [] (ends.0, (ap stop_of (flip_enters step) ∙ ends.1), tt));
          few = let long = (canonical_onto (visited all)).long in omega (arith, ap length visits, holds.few);
          stops = subst AreDistinct (sym visits) (distinct_onto (visited all) [] holds.stops tt (λ x here none. none));
          borders = subst AreDistinct (sym crosses) (distinct_onto (crossed all) [] holds.borders tt
              (λ x here none. none));
          free = λ border among. holds.free border (((canonical_onto (crossed all)).among border).1
              (subst (IsAmong border) crosses among));
          red = subst (PassesOnly (λ stop. ¬ (is_red position stop ≡ true))) end.is
              (passes_back (λ stop. ¬ (is_red position stop ≡ true)) all [] holds.walk holds.red tt tt);
          full = subst (PassesOnly (λ stop. ¬ IsFull position stop company)) end.is
              (passes_back (λ stop. ¬ IsFull position stop company) all [] holds.walk holds.full tt tt);
        };
      }
