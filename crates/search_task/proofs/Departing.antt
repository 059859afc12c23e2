-- The legs from a stop, as they are found: by a segment to a stop there is one, by a segment to a
-- side those by the segments from there.
use Rattle.std.proofs.Common.{◌≡◌, ℕ, zero, suc, ◌+◌, ◌*◌, ◌<◌, ◌≤◌, Bool, true, false, ◌⊎◌, inl, inr, Option, Some}
use Rattle.std.proofs.Common.{None, List, [], ◌∷◌, ◌++◌, length, slice_get, take, refl, sym, ap, subst, ◌∙◌}
use Rattle.std.proofs.Common.{arith, length-append}
use Rattle.std.specs.List.{AllByRecursion}
use Rattle.std.specs.List.Sorted.{IsPermutation}
use Rattle.std.proofs.lemmas.List.{take_at, append_assoc}
use Rattle.std.proofs.lemmas.List.Elements.{All-from_recursion, recursion_from_All}
use Rattle.std.proofs.lemmas.List.Sorted.{All-permutation, IsPermutation-sym}
use Rattle.std.proofs.lemmas.Option.{slice_get_within}
use Rattle.reach.specs.Position.{IsAmong}
use Rattle.reach.specs.declared.walk.WalkStep.{WalkStep}
use Rattle.reach.proofs.Lists.{among_before, among_cases, among_end}
use Rattle.search_task.specs.declared.segments.Entry.{Entry}
use Rattle.search_task.specs.declared.task.Departures.{Departures}
use Rattle.search_task.specs.declared.task.Node.{Node}
use Rattle.search_task.specs.declared.task.Segment.{Segment}
use Rattle.search_task.specs.declared.task.Task.{Task}
use Rattle.search_task.specs.declared.task.Leg.{Leg}
use Rattle.search_task.specs.declared.legs.Path.{Path}
use Rattle.search_task.specs.Crossed.{marked_all, misses, numbers_in}
use Rattle.search_task.specs.Fit.{BordersFit, IsFit}
use Rattle.search_task.specs.Spots.{LeadsFrom, ends_in, node_at, segments_at, stop_in}
use Rattle.search_task.specs.Segments.{segments_from}
use Rattle.search_task.specs.Legs.{AddsBelow, AddsLegs, AddsLegsBy, AreDepartures, AreFree, AreLegsFrom, AreLegsOf}
use Rattle.search_task.specs.Legs.{AreReady, AreStops, HasLeg, Hop, IsMadeOf, IsSamePath, IsStop, LeadsTo}
use Rattle.search_task.specs.Legs.{borders_by, legs_at, legs_in, steps_by}
use Rattle.search_task.proofs.Marked.{marked_append}
use Rattle.search_task.proofs.Marks.{marked_fewer}
use Rattle.search_task.proofs.Places.{below_next, place_low}
use Rattle.legal_runs.specs.Law.{unused}
use Rattle.legal_runs.specs.TwoTrain.{none_used}

-- a segment over no border counts one
abbrev pub one_if_none : List ℕ → ℕ
one_if_none [] = 1
one_if_none (border ∷ borders) = 0

pub none_over : (borders : List ℕ) → 0 < length borders → one_if_none borders ≡ 0
none_over [] some = absurd (omega (arith, some))
none_over (border ∷ borders) some = refl

-- less is left after a segment
pub lead_less : (used : List Bool) (borders : List ℕ) → length used ≡ 279 → BordersFit borders
    → misses used borders ≡ true → 2 * unused (marked_all used borders) + 1 ≤ 2 * unused used + one_if_none borders
lead_less used [] whole fit free = omega arith
lead_less used (border ∷ borders) whole fit free =
    let fewer : unused (marked_all used (border ∷ borders)) + 1 ≤ unused used =
    marked_fewer used (border ∷ borders) whole fit (omega arith) free in
    omega (arith, fewer)

-- the first segment of such is free
pub free_first : (used : List Bool) (segment : Segment) (hops : List Hop) → AreFree used segment hops
    → misses used segment.borders.items ≡ true
free_first used segment [] free = free
free_first used segment (hop ∷ hops) free = free.0

-- a segment whose border is used adds none
pub adds_none :
    (task : Task) (used : List Bool) (walked : List WalkStep) (place : ℕ) (segment : Segment) (legs : List Leg) →
    misses used segment.borders.items ≡ false → AddsLegs task used walked place segment legs legs
adds_none task used walked place segment legs fails =
    record {
      kept = λ leg among. among;
      sound = λ leg among. inl among;
      complete = λ hops to leads free. absurd (let wrong : true ≡ false =
          sym (free_first used segment hops free) ∙ fails in cc);
    }

-- a segment to a stop is a leg
pub adds_stop :
    (task : Task) (used : List Bool) (walked : List WalkStep) (place : ℕ) (segment : Segment) (legs : List Leg)
    (leg : Leg) →
    misses used segment.borders.items ≡ true → stop_in (node_at task segment.to) ≡ true → leg.first ≡ place
    → leg.segment.to ≡ segment.to →
    leg.segment.borders.items ≡ numbers_in (marked_all used segment.borders.items)
    → leg.steps.items ≡ walked ++ segment.step ∷ [] →
    AddsLegs task used walked place segment legs (legs ++ leg ∷ [])
adds_stop task used walked place segment legs leg free stops place_is to_is borders steps =
    record {
      kept = λ other among. among_before legs other leg among;
      sound = λ other among. elim (among_cases legs other leg among) [
        | inl old ↦ inl old
        | inr new ↦ inr ([], subst (IsMadeOf task used walked place segment []) new made)
      ];
      complete = by_hops;
    }
  where
    made : IsMadeOf task used walked place segment [] leg
    made = record { leads = (stops, sym to_is); free = free; place_is = place_is; borders = borders; steps = steps }

    by_hops :
        (hops : List Hop) (to : ℕ) → LeadsTo task segment hops to → AreFree used segment hops →
        HasLeg task used walked place segment hops to (legs ++ leg ∷ [])
    by_hops [] to leads are_free =
        record {
          leg = leg;
          among = among_end legs leg;
          made = record {
            leads = (stops, sym to_is);
            free = free;
            place_is = place_is;
            borders = borders;
            steps =
                steps;
          };
          to_is = to_is ∙ leads.1;
        }
    by_hops (hop ∷ hops) to leads are_free = absurd (let wrong : true ≡ false = sym stops ∙ leads.0.0 in cc)

-- nor does one to a side that ends
pub adds_end :
    (task : Task) (used : List Bool) (walked : List WalkStep) (place : ℕ) (segment : Segment) (legs : List Leg) →
    stop_in (node_at task segment.to) ≡ false → ends_in (node_at task segment.to) ≡ true
    → AddsLegs task used walked place segment legs legs
adds_end task used walked place segment legs side ends =
    record { kept = λ leg among. among; sound = λ leg among. inl among; complete = by_hops }
  where
    by_hops : (hops : List Hop) (to : ℕ) → LeadsTo task segment hops to → AreFree used segment hops
        → HasLeg task used walked place segment hops to legs
    by_hops [] to leads free = absurd (let wrong : false ≡ true = sym side ∙ leads.0 in cc)
    by_hops (hop ∷ hops) to leads free = absurd (let wrong : true ≡ false = sym ends ∙ leads.0.1 in cc)

has_kept :
    (task : Task) (used : List Bool) (walked : List WalkStep) (place : ℕ) (segment : Segment) (hops : List Hop) (to : ℕ)
    (old new : List Leg) →
    ((leg : Leg) → IsAmong leg old → IsAmong leg new) → HasLeg task used walked place segment hops to old →
    HasLeg task used walked place segment hops to new
has_kept task used walked place segment hops to old new kept has =
    record { leg = has.leg; among = kept has.leg has.among; made = has.made; to_is = has.to_is }

one_segment : (task : Task) (spot place other : ℕ) (segment found : Segment) → LeadsFrom task spot place segment
    → LeadsFrom task spot other found → other ≡ place → segment ≡ found
one_segment task spot place other segment found leads finds same =
    let e : Some segment ≡ Some found = sym leads ∙ (ap (λ i. slice_get (segments_at task spot) i) (sym same)
    ∙ finds) in cc

pub below_more :
    (task : Task) (used : List Bool) (walked : List WalkStep) (place spot index : ℕ) (segment : Segment)
    (old middle new : List Leg) →
    LeadsFrom task spot index segment → AddsBelow task used walked place spot index old middle
    → AddsLegs task used walked place segment middle new →
    AddsBelow task used walked place spot (index + 1) old new
below_more task used walked place spot index segment old middle new here before by =
    record {
      kept = λ leg among. by.kept leg (before.kept leg among);
      sound = λ leg among. elim (by.sound leg among) [
        | inl sooner ↦ before.sound leg sooner
        | inr found ↦ inr (record { place = index; segment = segment }, here, found)
      ];
      complete = λ hop hops to low leads there free. elim (below_next hop.place index low) [
        | inl less ↦ has_kept task used walked place hop.segment hops to middle new by.kept
            (before.complete hop hops to less leads there free)
        | inr same ↦
            let one : segment ≡ hop.segment = one_segment task spot index hop.place segment hop.segment here leads
            same in
            subst (λ (p : Segment). LeadsTo task p hops to → AreFree used p hops
            → HasLeg task used walked place p hops to new) one (by.complete hops to) there free
      ];
    }

-- a segment to a side that may be passed
made_more :
    (task : Task) (used : List Bool) (walked : List WalkStep) (place : ℕ) (segment : Segment) (hop : Hop)
    (hops : List Hop) (leg : Leg) →
    misses used segment.borders.items ≡ true → stop_in (node_at task segment.to) ≡ false
    → ends_in (node_at task segment.to) ≡ false →
    LeadsFrom task segment.to hop.place hop.segment →
    IsMadeOf task (marked_all used segment.borders.items) (walked ++ segment.step ∷ []) place hop.segment hops leg →
    IsMadeOf task used walked place segment (hop ∷ hops) leg
made_more task used walked place segment hop hops leg free side passes leads made =
    record {
      leads = ((side, passes), leads, made.leads);
      free = (free, made.free);
      place_is = made.place_is;
      borders = made.borders ∙ ap numbers_in (marked_append used segment.borders.items (borders_by hop.segment hops));
      steps = made.steps ∙ append_assoc walked (segment.step ∷ []) (steps_by hop.segment hops);
    }

pub adds_side :
    (task : Task) (used : List Bool) (walked : List WalkStep) (place : ℕ) (segment : Segment) (index : ℕ)
    (old new : List Leg) →
    misses used segment.borders.items ≡ true → stop_in (node_at task segment.to) ≡ false
    → ends_in (node_at task segment.to) ≡ false →
    length (segments_at task segment.to) ≤ index →
    AddsBelow task (marked_all used segment.borders.items) (walked ++ segment.step ∷ []) place segment.to index old
    new →
    AddsLegs task used walked place segment old new
adds_side task used walked place segment index old new free side passes all below =
    record {
      kept = below.kept;
      sound = λ leg among. elim (below.sound leg among) [
        | inl sooner ↦ inl sooner
        | inr found ↦ inr (
          found.0 ∷ found.2.0,
          made_more task used walked place segment found.0 found.2.0 leg free
              side passes found.1 found.2.1,
        )
      ];
      complete = by_hops;
    }
  where
    by_hops : (hops : List Hop) (to : ℕ) → LeadsTo task segment hops to → AreFree used segment hops
        → HasLeg task used walked place segment hops to new
    by_hops [] to leads are_free = absurd (let wrong : false ≡ true = sym side ∙ leads.0 in cc)
    by_hops (hop ∷ hops) to leads are_free =
        let low : hop.place < index = omega (arith, all, place_low task segment.to hop.place hop.segment leads.1) in
        let has = below.complete hop hops to low leads.1 leads.2 are_free.1 in
        record {
          leg = has.leg;
          among = has.among;
          made = made_more task used walked place segment hop hops has.leg free side passes leads.1 has.made;
          to_is = has.to_is;
        }

-- the legs after a path that is the same are the same
pub adds_after : (task : Task) (used : List Bool) (old new : Path) (segment : Segment) (legs more : List Leg)
    → IsSamePath old new → AddsLegsBy task used new segment legs more → AddsLegsBy task used old segment legs more
adds_after task used old new segment legs more same adds =
    subst (λ (n : ℕ). AddsLegs task used old.steps.items n segment legs more) same.first
    (subst (λ (steps : List WalkStep). AddsLegs task used steps new.first segment legs more) same.steps adds)

pub same_both : (old middle new : Path) → IsSamePath old middle → IsSamePath middle new → IsSamePath old new
same_both old middle new first second =
    record { first = second.first ∙ first.first; steps = second.steps ∙ first.steps }

-- what was put after some is removed
pub went_back : {A : Type 0} (some more both back : List A) (count : ℕ) → count ≡ length some → both ≡ some ++ more
    → back ≡ take count both → back ≡ some
went_back some more both back count long are taken =
    taken ∙ (ap (take count) are ∙ take_at some more count (sym long))

pub from_more :
    (task : Task) (stop index : ℕ) (segment : Segment) (old new : List Leg) → LeadsFrom task stop index segment
    → AreLegsFrom task stop index old →
    AddsLegs task none_used [] index segment old new → AreLegsFrom task stop (index + 1) new
from_more task stop index segment old new here before by =
    record {
      sound = λ leg among. elim (by.sound leg among) [
        | inl sooner ↦ before.sound leg sooner
        | inr found ↦
            let place : index ≡ leg.first = sym found.1.place_is in (
              segment,
              subst (λ (i : ℕ). LeadsFrom task stop i segment) place here,
              (found.0, subst (λ (i : ℕ). IsMadeOf task none_used [] i segment found.0 leg) place found.1),
            )
      ];
      complete = λ place other hops to low leads there free. elim (below_next place index low) [
        | inl less ↦ has_kept task none_used [] place other hops to old new by.kept
            (before.complete place other hops to less leads there free)
        | inr same ↦
            let one : segment ≡ other = one_segment task stop index place segment other here leads same in
            subst (λ (i : ℕ). HasLeg task none_used [] i other hops to new) (sym same)
            (subst (λ (p : Segment). LeadsTo task p hops to → AreFree none_used p hops
            → HasLeg task none_used [] index p hops to new) one (by.complete hops to) there free)
      ];
    }

pub from_all : (task : Task) (stop index : ℕ) (legs : List Leg) → length (segments_at task stop) ≤ index
    → AreLegsFrom task stop index legs → AreLegsOf task stop legs
from_all task stop index legs all are =
    record {
      sound = are.sound;
      complete = λ place segment hops to leads leads_to free. are.complete place segment hops to
          (omega (arith, all, place_low task stop place segment leads)) leads leads_to free;
    }

-- what is said of each of some
all_of : {A : Type 0} (P : A → Type 0) (xs : List A) → ((x : A) → IsAmong x xs → P x) → AllByRecursion P xs
all_of P [] each = tt
all_of P (x ∷ xs) each = (each x (inl refl), all_of P xs (λ y among. each y (inr among)))

of_all : {A : Type 0} (P : A → Type 0) (xs : List A) → AllByRecursion P xs → (x : A) → IsAmong x xs → P x
of_all P [] all x among = absurd among
of_all P (y ∷ ys) all x (inl same) = subst P same all.0
of_all P (y ∷ ys) all x (inr among) = of_all P ys all.1 x among

-- the same things in another order
among_moved : {A : Type 0} (xs ys : List A) → IsPermutation xs ys → (x : A) → IsAmong x ys → IsAmong x xs
among_moved xs ys moved =
    of_all (λ x. IsAmong x xs) ys (recursion_from_All (λ x. IsAmong x xs) ys
    (All-permutation (λ x. IsAmong x xs) xs ys moved
    (All-from_recursion (λ x. IsAmong x xs) xs (all_of (λ x. IsAmong x xs) xs (λ x among. among)))))

pub legs_moved : (task : Task) (stop : ℕ) (legs moved : List Leg) → IsPermutation legs moved
    → AreLegsOf task stop legs → AreLegsOf task stop moved
legs_moved task stop legs moved are_same are =
    record {
      sound = λ leg among. are.sound leg (among_moved legs moved are_same leg among);
      complete = λ place segment hops to leads leads_to free. has_kept task none_used [] place segment hops to legs moved
          (among_moved moved legs (IsPermutation-sym legs moved are_same))
          (are.complete place segment hops to leads leads_to free);
    }

-- the departures, spot by spot
pub departs_more : (task : Task) (count : ℕ) (all : List Departures) (from : Departures)
    → AreDepartures task count all → (stop_in (node_at task count) ≡ true → AreLegsOf task count from.legs.items)
    → AreDepartures task (count + 1) (all ++ from ∷ [])
departs_more task count all from before here =
    record {
      long = omega (arith, before.long, length-append all (from ∷ []));
      each = λ stop found at stops. elim (at_end all stop found at) [
        | inl old ↦ before.each stop found old stops
        | inr last ↦
            let same : stop ≡ count = last.0 ∙ before.long in
            subst (λ (d : Departures). AreLegsOf task stop d.legs.items) last.1
            (subst (λ (n : ℕ). AreLegsOf task n from.legs.items) (sym same)
            (here (subst (λ (n : ℕ). stop_in (node_at task n) ≡ true) same stops)))
      ];
    }
  where
    at_end : (xs : List Departures) (i : ℕ) (y : Departures) → slice_get (xs ++ from ∷ []) i ≡ Some y
        → (slice_get xs i ≡ Some y) ⊎ ((i ≡ length xs) × (from ≡ y))
    at_end [] zero y at = inr (refl, let same : from ≡ y = cc in same)
    at_end [] (suc i) y at = absurd (omega (arith, slice_get_within (from ∷ []) (suc i) y at))
    at_end (z ∷ zs) zero y at = inl at
    at_end (z ∷ zs) (suc i) y at = elim (at_end zs i y at)
        [ inl old ↦ inl old | inr last ↦ inr (ap suc last.0, last.1) ]

-- the legs from a stop, by its number
pub none_at : {A : Type 0} (xs : List A) (i : ℕ) → slice_get xs i ≡ None → i < length xs → ⊥
none_at [] i none low = omega (arith, low)
none_at (x ∷ xs) zero none low = absurd cc
none_at (x ∷ xs) (suc i) none low = none_at xs i none (omega (arith, low))

-- what is said of legs is said of spots and segments alone
node_same : (a b : Task) → a.spots.items ≡ b.spots.items → (spot : ℕ) → node_at a spot ≡ node_at b spot
node_same a b same spot = ap (λ (nodes : List Node). slice_get nodes spot) same

leads_same : (a b : Task) → a.segments ≡ b.segments → (spot place : ℕ) (segment : Segment)
    → LeadsFrom a spot place segment → LeadsFrom b spot place segment
leads_same a b same spot place segment leads =
    subst (λ (entries : List Entry). slice_get (segments_from spot entries) place ≡ Some segment) same leads

to_same : (a b : Task) → a.spots.items ≡ b.spots.items → a.segments ≡ b.segments
    → (hops : List Hop) (segment : Segment) (to : ℕ) → LeadsTo a segment hops to → LeadsTo b segment hops to
to_same a b same segments [] segment to leads = (sym (ap stop_in (node_same a b same segment.to)) ∙ leads.0, leads.1)
to_same a b same segments (hop ∷ hops) segment to leads =
    let node = node_same a b same segment.to in (
      (sym (ap stop_in node) ∙ leads.0.0, sym (ap ends_in node) ∙ leads.0.1),
      leads_same a b segments segment.to
          hop.place hop.segment leads.1,
      to_same a b same segments hops hop.segment to leads.2,
    )

made_same :
    (a b : Task) → a.spots.items ≡ b.spots.items → a.segments ≡ b.segments →
    (used : List Bool) (walked : List WalkStep) (place : ℕ) (segment : Segment) (hops : List Hop) (leg : Leg) →
    IsMadeOf a used walked place segment hops leg → IsMadeOf b used walked place segment hops leg
made_same a b same segments used walked place segment hops leg made =
    record {
      leads = to_same a b same segments hops segment leg.segment.to made.leads;
      free = made.free;
      place_is =
          made.place_is;
      borders = made.borders;
      steps = made.steps;
    }

legs_same : (a b : Task) → a.spots.items ≡ b.spots.items → a.segments ≡ b.segments → (stop : ℕ) (legs : List Leg)
    → AreLegsOf a stop legs → AreLegsOf b stop legs
legs_same a b same segments stop legs are =
    record {
      sound = λ leg among.
          let found = are.sound leg among in (
            found.0,
            leads_same a b segments stop leg.first found.0 found.1,
            (found.2.0, made_same a b same segments none_used [] leg.first found.0 found.2.0 leg found.2.1),
          );
      complete = λ place segment hops to leads there free.
          let has = are.complete place segment hops to (leads_same b a (sym segments) stop place segment leads)
          (to_same b a (sym same) (sym segments) hops segment to there) free in
          record {
            leg = has.leg;
            among = has.among;
            made =
                made_same a b same segments none_used [] place segment hops has.leg has.made;
            to_is = has.to_is;
          };
    }

pub departs_same : (a b : Task) → a.spots.items ≡ b.spots.items → a.segments ≡ b.segments
    → (count : ℕ) (all : List Departures) → AreDepartures a count all → AreDepartures b count all
departs_same a b same segments count all are =
    record {
      long = are.long;
      each = λ stop from at stops. legs_same a b same segments stop from.legs.items
          (are.each stop from at (ap stop_in (node_same a b same stop) ∙ stops));
    }

pushed : (stops : List ℕ) (last place stop : ℕ) → slice_get (stops ++ last ∷ []) place ≡ Some stop
    → (slice_get stops place ≡ Some stop) ⊎ (last ≡ stop)
pushed [] last zero stop at = inr (let e : Some last ≡ Some stop = at in cc)
pushed [] last (suc place) stop at = inl at
pushed (first ∷ stops) last zero stop at = inl at
pushed (first ∷ stops) last (suc place) stop at = pushed stops last place stop at

push_keeps : (stops : List ℕ) (last place stop : ℕ) → slice_get stops place ≡ Some stop
    → slice_get (stops ++ last ∷ []) place ≡ Some stop
push_keeps [] last zero stop at = absurd cc
push_keeps [] last (suc place) stop at = absurd cc
push_keeps (first ∷ stops) last zero stop at = at
push_keeps (first ∷ stops) last (suc place) stop at = push_keeps stops last place stop at

push_at : (stops : List ℕ) (last : ℕ) → slice_get (stops ++ last ∷ []) (length stops) ≡ Some last
push_at [] last = refl
push_at (first ∷ stops) last = push_at stops last

length_pushed : (stops : List ℕ) (last : ℕ) → length (stops ++ last ∷ []) ≡ suc (length stops)
length_pushed [] last = refl
length_pushed (first ∷ stops) last = ap suc (length_pushed stops last)

pub listed_more : (task : Task) (count : ℕ) (stops : List ℕ) → IsStop task count → AreStops task count stops
    → AreStops task (count + 1) (stops ++ count ∷ [])
listed_more task count stops is before =
    record {
      each = λ stop low stop_there. elim (below_next stop count low) [
        | inl less ↦ elim (before.each stop less stop_there) [
          | inl none ↦ inl none
          | inr listed ↦ inr (
            listed.0,
            (let under = listed.1 in omega (arith, length_pushed stops count)),
            push_keeps
                stops count listed.0 stop listed.2,
          )
        ]
        | inr same ↦ inr (
          length stops,
          omega (arith, length_pushed stops count),
          subst
              (λ (n : ℕ). slice_get (stops ++ count ∷ []) (length stops) ≡ Some n) (sym same) (push_at stops count),
        )
      ];
      only = λ place stop at. elim (pushed stops count place stop at) [
        | inl old ↦ before.only place stop old
        | inr same ↦ subst (IsStop task) same is
      ];
    }

pub listed_same : (task : Task) (count : ℕ) (stops : List ℕ)
    → ((stop_in (node_at task count) ≡ false) ⊎ (legs_at task count ≡ [])) → AreStops task count stops
    → AreStops task (count + 1) stops
listed_same task count stops why before =
    record {
      each = λ stop low stop_there. elim (below_next stop count low) [
        | inl less ↦ before.each stop less stop_there
        | inr same ↦ elim why [
          | inl side ↦ absurd (let wrong : true ≡ false =
              sym stop_there ∙ (ap (λ (n : ℕ). stop_in (node_at task n)) same ∙ side) in cc)
          | inr none ↦ inl (ap (λ (n : ℕ). legs_at task n) same ∙ none)
        ]
      ];
      only = before.only;
    }

-- a stop from which no leg leads
pub no_legs : (task : Task) (stop : ℕ) (from : Departures) → slice_get task.departures.items stop ≡ Some from
    → length from.legs.items ≡ 0 → legs_at task stop ≡ []
no_legs task stop from at none = ap legs_in at ∙ empty from.legs.items none
  where
    empty : (legs : List Leg) → length legs ≡ 0 → legs ≡ []
    empty [] none = refl
    empty (leg ∷ legs) none = absurd (omega (arith, none))

-- the legs from a stop
pub legs_of : (task : Task) → AreReady task → (stop : ℕ) → IsStop task stop → AreLegsOf task stop (legs_at task stop)
legs_of task ready stop is = by_from (slice_get task.departures.items stop) refl
  where
    by_from : (found : Option Departures) → slice_get task.departures.items stop ≡ found
        → AreLegsOf task stop (legs_in found)
    by_from None at = absurd (none_at task.departures.items stop at (omega (arith, is.0, ready.long)))
    by_from (Some from) at = ready.each stop from at is.1

pub is_stop : (task : Task) → IsFit task → (spot : ℕ) → stop_in (node_at task spot) ≡ true → IsStop task spot
is_stop task fit spot stops = (by_node (node_at task spot) refl stops, stops)
  where
    by_node : (node : Option Node) → node_at task spot ≡ node → stop_in node ≡ true → spot < 744
    by_node None at is = absurd (let wrong : false ≡ true = is in cc)
    by_node (Some node) at is = omega (arith, fit.all, slice_get_within task.spots.items spot node at)
