-- The steps of a position, and the segments from its spots, as they are collected.
use Rattle.std.proofs.Common.{◌≡◌, ◌↔◌, ℕ, zero, suc, ◌+◌, ◌*◌, ◌/◌, ◌%◌, ◌<◌, ◌≤◌, Bool, true, false, ◌⊎◌, inl, inr}
use Rattle.std.proofs.Common.{Option, Some, None, option_map, List, [], ◌∷◌, ◌++◌, length, get_or, replicate, set}
use Rattle.std.proofs.Common.{slice_get, take, refl, sym, ap, subst, ◌∙◌, arith, length-set}
use Rattle.std.proofs.lemmas.Bool.{cases_eq, cases_lt}
use Rattle.std.proofs.lemmas.List.{take_all, take_more}
use Rattle.std.proofs.lemmas.Option.{slice_get_within}
use Rattle.map_tables.specs.Hex.{index_of}
use Rattle.map_tables.specs.Place.{joined_stop_of, stop_at, stop_index_of}
use Rattle.map_tables.specs.declared.hex.Hex.{Hex}
use Rattle.map_tables.specs.declared.place.Stop.{Stop}
use Rattle.map_tables.specs.declared.place.StopNumber.{StopNumber}
use Rattle.map_tables.specs.declared.track.TrackEnd.{TrackEnd}
use Rattle.map_tables.specs.declared.track.TrackEnd.TheVariants.{Side as AtSide, Stop as AtStop}
use Rattle.map_tables.specs.declared.track.Link.{Link}
use Rattle.reach.specs.Lawful.{IsLawful}
use Rattle.reach.specs.Position.{Position, IsAmong, links_of}
use Rattle.reach.specs.Search.{number_at, spot_number}
use Rattle.reach.specs.Walk.{IsTrack, across_end, entered_at, spot_at, stop_at_end, stop_of}
use Rattle.reach.specs.declared.walk.Spot.{Spot}
use Rattle.reach.specs.declared.walk.WalkStep.{WalkStep}
use Rattle.reach.proofs.Collected.{hexes_more, own_hex}
use Rattle.reach.proofs.Hexes.{index_low, same_index, same_stop_index, side_low, stop_index_low}
use Rattle.reach.proofs.Lists.{among_before, among_cases, among_end}
use Rattle.tables.specs.Train.{stops_of}
use Rattle.tables.specs.declared.rolling_stock.Kind.{Kind}
use Rattle.tables.specs.declared.roster.Company.{Company}
use Rattle.search_task.specs.declared.segments.Entry.{Entry}
use Rattle.search_task.specs.declared.task.Node.{Node}
use Rattle.search_task.specs.declared.task.Segment.{Segment}
use Rattle.search_task.specs.Segments.{AddsSegment, segments_from}
use Rattle.search_task.specs.Described.{Adds, AreLaid, AreNumbered, AreNumberedBefore, AreSegments, AreSegmentsFrom}
use Rattle.search_task.specs.Described.{ComesFrom, IsNodeAt, IsNumbered, IsSegmentOf, IsSideNode, IsStopNode}
use Rattle.search_task.specs.Described.{LaidBefore, StepsBefore, TakesStep, code_before, most_of, most_of_all}
use Rattle.search_task.specs.Described.{number_before, number_or_none}
use Rattle.search_task.proofs.Described.{spot_low}
use Rattle.search_task.proofs.Chained.{from_here, from_other, set_at}
use Rattle.search_task.proofs.Places.{below_next}

-- a link taken in a direction
abbrev pub taking : Link → Bool → WalkStep
taking link turned = record { link = link; turned = turned }

-- a step takes its link in one of the two directions
directions : (link : Link) (step : WalkStep) → step.link ≡ link → (taking link false ≡ step) ⊎ (taking link true ≡ step)
directions link step is = by_direction step.turned
  where
    by_direction : (turned : Bool) → (taking link false ≡ taking step.link turned)
        ⊎ (taking link true ≡ taking step.link turned)
    by_direction false = inl (ap (λ (l : Link). taking l false) (sym is))
    by_direction true = inr (ap (λ (l : Link). taking l true) (sym is))

-- both steps of a link are added
pub both_added : (link : Link) (old : List WalkStep)
    → Adds (λ other. other ≡ link) old ((old ++ taking link false ∷ []) ++ taking link true ∷ [])
both_added link old =
    record {
      kept = λ step among. among_before (old ++ taking link false ∷ []) step (taking link true)
          (among_before old step (taking link false) among);
      added = λ step is. elim (directions link step is) [
        | inl forward ↦ subst (λ s. IsAmong s ((old ++ taking link false ∷ []) ++ taking link true ∷ [])) forward
            (among_before (old ++ taking link false ∷ []) (taking link false) (taking link true)
            (among_end old (taking link false)))
        | inr turned ↦ subst (λ s. IsAmong s ((old ++ taking link false ∷ []) ++ taking link true ∷ [])) turned
            (among_end (old ++ taking link false ∷ []) (taking link true))
      ];
      only = λ step among. elim (among_cases (old ++ taking link false ∷ []) step (taking link true) among) [
        | inl before ↦ elim (among_cases old step (taking link false) before) [
          | inl first ↦ inl first
          | inr forward ↦ inr (sym (ap (λ (s : WalkStep). s.link) forward))
        ]
        | inr turned ↦ inr (sym (ap (λ (s : WalkStep). s.link) turned))
      ];
    }

-- no link has come
pub adds_none : (steps : List WalkStep) (links : List Link) → Adds (λ link. IsAmong link (take 0 links)) steps steps
adds_none steps links =
    record {
      kept = λ step among. among;
      added = λ step none. absurd none;
      only = λ step among. inl among;
    }

-- one more link has come
pub adds_next : (first steps new : List WalkStep) (links : List Link) (i : ℕ) (d : Link) → i < length links
    → Adds (λ link. IsAmong link (take i links)) first steps → Adds (λ other. other ≡ get_or links i d) steps new
    → Adds (λ link. IsAmong link (take (i + 1) links)) first new
adds_next first steps new links i d low before adds =
    record {
      kept = λ step among. adds.kept step (before.kept step among);
      added = λ step among. elim (among_cases (take i links) step.link (get_or links i d)
          (subst (λ ls. IsAmong step.link ls) (take_more links i d low) among)) [
            | inl sooner ↦ adds.kept step (before.added step sooner)
            | inr next ↦ adds.added step (sym next)
          ];
      only = λ step among. elim (adds.only step among) [
        | inl old ↦ elim (before.only step old) [
          | inl one ↦ inl one
          | inr sooner ↦ inr (subst (λ ls. IsAmong step.link ls) (sym (take_more links i d low))
              (among_before (take i links) step.link (get_or links i d) sooner))
        ]
        | inr next ↦ inr (subst (λ ls. IsAmong step.link ls) (sym (take_more links i d low))
            (subst (λ (l : Link). IsAmong l (take i links ++ get_or links i d ∷ [])) (sym next)
            (among_end (take i links) (get_or links i d))))
      ];
    }

-- all links have come
pub adds_all : (first steps : List WalkStep) (links : List Link) (i : ℕ) → length links ≤ i
    → Adds (λ link. IsAmong link (take i links)) first steps → Adds (λ link. IsAmong link links) first steps
adds_all first steps links i all adds = subst (λ ls. Adds (λ link. IsAmong link ls) first steps)
    (take_all i links all) adds

-- the steps of one more hex
pub steps_more : (position : Position) → IsLawful position → (hex : Hex) (index : ℕ) → index_of hex ≡ index
    → (old new : List WalkStep) → StepsBefore position old index
    → Adds (λ link. IsAmong link (links_of position hex)) old new → StepsBefore position new (index + 1)
steps_more position lawful hex index is old new before adds =
    record {
      added = λ step low track. elim (hexes_more position hex index is step.link low track) [
        | inl sooner ↦ adds.kept step (before.added step sooner track)
        | inr here ↦ adds.added step here
      ];
      only = λ step among. elim (adds.only step among) [
        | inl one ↦ before.only step one
        | inr here ↦ own_hex position lawful hex step.link here
      ];
    }

pub steps_all : (position : Position) (steps : List WalkStep) (index : ℕ) → 93 ≤ index → StepsBefore position steps index
    → (step : WalkStep) → IsAmong step steps ↔ IsTrack position step
steps_all position steps index all before step =
    (before.only step, λ track. before.added step (omega (arith, index_low step.link.hex)) track)

-- no step has come
segments_none : AreSegments [] []
segments_none number =
    record {
      sound = λ segment none. absurd none;
      complete = λ step none comes. absurd none;
    }

-- no hex has come
pub laid_none : (position : Position) → LaidBefore position 0 []
laid_none position =
    record {
      steps = [];
      before = record { added = λ step low track. absurd (omega (arith, low)); only = λ step none. absurd none };
      segments = segments_none;
    }

-- the steps of the first links of a hex have come, after those of the hexes before it
pub record LaidIn (position : Position) (index : ℕ) (links : List Link) (entries : List Entry) : Type 0 where
  pub first : List WalkStep
  pub before : StepsBefore position first index
  pub steps : List WalkStep
  pub adds : Adds (λ link. IsAmong link links) first steps
  pub segments : AreSegments steps entries

pub laid_in : (position : Position) (index : ℕ) (links : List Link) (entries : List Entry)
    → LaidBefore position index entries → LaidIn position index (take 0 links) entries
laid_in position index links entries laid =
    record {
      first = laid.steps;
      before = laid.before;
      steps = laid.steps;
      adds =
          adds_none laid.steps links;
      segments = laid.segments;
    }

pub laid_next : (position : Position) (index : ℕ) (here links : List Link) → here ≡ links
    → (i : ℕ) (d : Link) (old middle new : List Entry) → i < length here → LaidIn position index (take i links) old
    → TakesStep (taking (get_or here i d) false) old middle → TakesStep (taking (get_or here i d) true) middle new
    → LaidIn position index (take (i + 1) links) new
laid_next position index here links is i d old middle new low laid forward back =
    let link = get_or here i d in
    let before : Adds (λ l. IsAmong l (take i here)) laid.first laid.steps =
    subst (λ ls. Adds (λ l. IsAmong l (take i ls)) laid.first laid.steps) (sym is) laid.adds in
    let more = (laid.steps ++ taking link false ∷ []) ++ taking link true ∷ [] in
    record {
      first = laid.first;
      before = laid.before;
      steps = more;
      adds = subst (λ ls. Adds (λ l. IsAmong l (take (i + 1) ls)) laid.first more) is
          (adds_next laid.first laid.steps more here i d low before (both_added link laid.steps));
      segments = back (laid.steps ++ taking link false ∷ []) (forward laid.steps laid.segments);
    }

pub laid_hex : (position : Position) → IsLawful position → (hex : Hex) (index : ℕ) → index_of hex ≡ index
    → (here : List Link) → here ≡ links_of position hex → (i : ℕ) (entries : List Entry) → length here ≤ i
    → LaidIn position index (take i (links_of position hex)) entries → LaidBefore position (index + 1) entries
laid_hex position lawful hex index is here same i entries all laid =
    let links : List Link = links_of position hex in
    let adds : Adds (λ l. IsAmong l links) laid.first laid.steps =
    adds_all laid.first laid.steps links i (subst (λ (ls : List Link). length ls ≤ i) same all) laid.adds in
    record {
      steps = laid.steps;
      before = steps_more position lawful hex index is laid.first laid.steps laid.before
          adds;
      segments = laid.segments;
    }

-- all hexes have come
pub laid_all : (position : Position) (index : ℕ) (entries : List Entry) → 93 ≤ index
    → LaidBefore position index entries → AreLaid position entries
laid_all position index entries all laid =
    record { steps = laid.steps; all = steps_all position laid.steps index all laid.before; segments = laid.segments }

-- a spot from which a step is taken has a number
before_low : (hex : Hex) (end : TrackEnd) (number : ℕ) → number_before hex end ≡ Some number → number < 744
before_low hex (AtStop place) number is =
    let same : spot_number (spot_at hex (AtStop place)) ≡ number = cc in
    subst (λ (n : ℕ). n < 744) same (spot_low (spot_at hex (AtStop place)))
before_low hex (AtSide side) number is = by_across (across_end hex (AtSide side)) is
  where
    by_across : (found : Option Spot) → option_map spot_number found ≡ Some number → number < 744
    by_across None same = absurd cc
    by_across (Some from) same =
        let number_is : spot_number from ≡ number = cc in
        subst (λ (n : ℕ). n < 744) number_is (spot_low from)

comes_low : (number : ℕ) (step : WalkStep) → ComesFrom number step → (number < 744) × (code_before step ≡ number)
comes_low number step comes =
    (before_low (entered_at step).hex (entered_at step).end number comes, ap number_or_none comes)

-- a step comes from a spot exactly if its code is the spot's number
code_comes : (number : ℕ) (found : Option ℕ) → number < 744 → (number_or_none found ≡ number) ↔ (found ≡ Some number)
code_comes number None low = (λ is. absurd (omega (arith, low, is)), λ is. absurd cc)
code_comes number (Some other) low = (λ is. ap (λ (n : ℕ). Some n) is, λ is. let same : other ≡ number = cc in same)

comes_by_code : (number : ℕ) (step : WalkStep) → number < 744 → (code_before step ≡ number) ↔ ComesFrom number step
comes_by_code number step few = code_comes number (number_before (entered_at step).hex (entered_at step).end) few

-- the code of a step is known by the spot at which it is entered
pub code_is : (number : ℕ) (spot : Spot) (step : WalkStep) → spot ≡ entered_at step
    → number ≡ number_or_none (number_before spot.hex spot.end) → number ≡ code_before step
code_is number spot step same is = is ∙ ap (λ (s : Spot). number_or_none (number_before s.hex s.end)) same

-- the next step may not be taken
segments_same : (number : ℕ) (steps : List WalkStep) (segments : List Segment) (next : WalkStep) → (ComesFrom number next → ⊥)
    → AreSegmentsFrom number steps segments → AreSegmentsFrom number (steps ++ next ∷ []) segments
segments_same number steps segments next fails before =
    record {
      sound = λ segment among.
          let of = before.sound segment among in
          record {
            step = of.step;
            among = among_before steps of.step next of.among;
            comes = of.comes;
            segment_is =
                of.segment_is;
          };
      complete = λ step among comes. elim (among_cases steps step next among) [
        | inl sooner ↦ before.complete step sooner comes
        | inr same ↦ absurd (fails (subst (ComesFrom number) (sym same) comes))
      ];
    }

-- the segment of the next step is added
segments_more : (number : ℕ) (steps : List WalkStep) (segments : List Segment) (next : WalkStep) → ComesFrom number next
    → (segment : Segment) → IsSegmentOf next segment → AreSegmentsFrom number steps segments
    → AreSegmentsFrom number (steps ++ next ∷ []) (segments ++ segment ∷ [])
segments_more number steps segments next comes segment is before =
    record {
      sound = λ other among. elim (among_cases segments other segment among) [
        | inl old ↦
            let of = before.sound other old in
            record {
              step = of.step;
              among = among_before steps of.step next of.among;
              comes = of.comes;
              segment_is =
                  of.segment_is;
            }
        | inr same ↦ record {
          step = next;
          among = among_end steps next;
          comes = comes;
          segment_is =
              subst (IsSegmentOf next) same is;
        }
      ];
      complete = λ step among step_comes. elim (among_cases steps step next among) [
        | inl sooner ↦
            let has = before.complete step sooner step_comes in
            record {
              segment = has.segment;
              among = among_before segments has.segment segment has.among;
              segment_is =
                  has.segment_is;
            }
        | inr same ↦ record {
          segment = segment;
          among = among_end segments segment;
          segment_is =
              subst (λ (s : WalkStep). IsSegmentOf s segment) same is;
        }
      ];
    }

-- a side has a number whose rest by eight is below six
pub spot_side : (number : ℕ) (spot : Spot) → spot_number spot ≡ number → number % 8 < 6 → stop_of spot ≡ None
spot_side number spot is low = by_end spot.hex spot.end is
  where
    by_end : (hex : Hex) (end : TrackEnd) → number_at hex end ≡ number → stop_at_end hex end ≡ None
    by_end hex (AtSide side) same = refl
    by_end hex (AtStop place) same = absurd (omega (arith, stop_index_low place))

-- a stop has one whose rest is six or seven
pub spot_stop : (number : ℕ) (spot : Spot) → spot_number spot ≡ number → 6 ≤ number % 8 → (stop : Stop)
    → index_of stop.hex ≡ number / 8 → 6 + stop_index_of stop.number ≡ number % 8 → stop_of spot ≡ Some stop
spot_stop number spot is low stop hex_is number_is = by_end spot.hex spot.end is
  where
    by_end : (hex : Hex) (end : TrackEnd) → number_at hex end ≡ number → stop_at_end hex end ≡ Some stop
    by_end hex (AtSide side) same = absurd (omega (arith, side_low side))
    by_end hex (AtStop place) same =
        let joined = joined_stop_of (stop_at hex place) in
        let hexes : joined.hex ≡ stop.hex = same_index joined.hex stop.hex (omega (arith, stop_index_low place)) in
        let numbers : joined.number ≡ stop.number = same_stop_index joined.number stop.number
        (omega (arith, stop_index_low place)) in
        ap (λ (h : Hex). Some (stop_at h joined.number)) hexes
        ∙ ap (λ (n : StopNumber). Some (stop_at stop.hex n)) numbers

-- what is at the number of a side, and of a stop
numbered_side : (position : Position) (company : Company) (number : ℕ) (node : Node) → number % 8 < 6
    → IsSideNode (Some node) → IsNumbered position company number node
numbered_side position company number node low is =
    record {
      spot = λ spot at. subst (λ o. IsNodeAt position company o (Some node)) (sym (spot_side number spot at low)) is;
      value = omega (arith, is.value);
      side = λ side. is.value;
      first = λ first. is;
    }

pub numbered_stop :
    (position : Position) (company : Company) (number : ℕ) (node : Node) (stop : Stop) → 6 ≤ number % 8
    → index_of stop.hex ≡ number / 8 →
    6 + stop_index_of stop.number ≡ number % 8 → IsStopNode position company stop (Some node) → node.value ≤ 80
    → IsNumbered position company number node
numbered_stop position company number node stop low hex_is number_is is value =
    record {
      spot = λ spot at. subst (λ o. IsNodeAt position company o (Some node))
          (sym (spot_stop number spot at low stop hex_is number_is)) is;
      value = value;
      side = λ side. let wrong : true ≡ false = sym is.stops ∙ side in absurd cc;
      first = λ first. absurd (omega (arith, first, low));
    }

-- the sides alone, one more stop, the sides of the next hex, and all
pub numbered_none : (position : Position) (company : Company) (nodes : List Node) (side : Node)
    → IsSideNode (Some side) → nodes ≡ replicate 744 side → AreNumberedBefore position company 0 nodes
numbered_none position company nodes side is same =
    record {
      all = ap length same ∙ long 744;
      each = λ number node at which. elim which [
        | inl low ↦ absurd (omega (arith, low))
        | inr first ↦
            let one : side ≡ node = all_same 744 number node (subst (λ ns. slice_get ns number ≡ Some node) same at) in
            subst (λ (n : Node). IsNumbered position company number n) one
            (numbered_side position company number side first is)
      ];
    }
  where
    long : (n : ℕ) → length (replicate n side) ≡ n
    long zero = refl
    long (suc n) = ap suc (long n)

    all_same : (n i : ℕ) (found : Node) → slice_get (replicate n side) i ≡ Some found → side ≡ found
    all_same zero i found at = absurd (omega (arith, slice_get_within [] i found at))
    all_same (suc n) zero found at = let one : side ≡ found = cc in one
    all_same (suc n) (suc i) found at = all_same n i found at

pub numbered_next : (position : Position) (company : Company) (stop : ℕ) (nodes : List Node) (new : Node)
    → AreNumberedBefore position company stop nodes → IsNumbered position company stop new
    → AreNumberedBefore position company (stop + 1) (set nodes stop new)
numbered_next position company stop nodes new before is =
    record {
      all = length-set nodes stop new ∙ before.all;
      each = λ number node at which. elim (set_at nodes stop number new node at) [
        | inl here ↦
            subst (λ (n : Node). IsNumbered position company number n) here.1
            (subst (λ (k : ℕ). IsNumbered position company k new) (sym here.0) is)
        | inr other ↦ before.each number node other.1 (elim which [
          | inl low ↦ elim (below_next number stop low) [ inl less ↦ inl less | inr same ↦ absurd (other.0 same) ]
          | inr first ↦ inr first
        ])
      ];
    }

pub numbered_on : (position : Position) (company : Company) (hex : ℕ) (nodes : List Node)
    → AreNumberedBefore position company (8 * hex) nodes → AreNumberedBefore position company (8 * hex + 6) nodes
numbered_on position company hex nodes before =
    record {
      all = before.all;
      each = λ number node at which. before.each number node at (elim which [
        | inl low ↦ elim (cases_lt number (8 * hex)) [ inl less ↦ inl less | inr past ↦ inr (omega (arith, low, past)) ]
        | inr first ↦ inr first
      ]);
    }

pub numbered_all : (position : Position) (company : Company) (hex : ℕ) (nodes : List Node) → 93 ≤ hex
    → AreNumberedBefore position company (8 * hex) nodes → AreNumbered position company nodes
numbered_all position company hex nodes all before =
    record {
      all = before.all;
      each = λ number node at. before.each number node at
          (inl (omega (arith, all, before.all, slice_get_within nodes number node at)));
    }

-- the next step may be taken from no spot
pub takes_none : (step : WalkStep) (entries : List Entry) → 744 ≤ code_before step → TakesStep step entries entries
takes_none step entries none steps before number =
    segments_same number steps (segments_from number entries) step
    (λ comes. let low = comes_low number step comes in omega (arith, none, low.0, low.1)) (before number)

-- its segment is added after those from the spot from which it may be taken
pub takes_segment : (step : WalkStep) (old new : List Entry) (segment : Segment) → code_before step < 744
    → IsSegmentOf step segment → AddsSegment (code_before step) segment old new → TakesStep step old new
takes_segment step old new segment few is adds steps before number =
    elim (cases_eq adds.entry.from number) [
      | inl here ↦
          let more : segments_from number new ≡ segments_from number old ++ adds.entry.segment ∷ [] =
          ap (segments_from number) adds.more ∙ from_here number old adds.entry here in
          let code : code_before step ≡ number = sym adds.from_is ∙ here in
          let comes : ComesFrom number step = (comes_by_code number step (omega (arith, few, code))).0 code in
          subst (AreSegmentsFrom number (steps ++ step ∷ [])) (sym more)
          (segments_more number steps (segments_from number old) step comes adds.entry.segment
          (subst (IsSegmentOf step) (sym adds.segment_is) is) (before number))
      | inr apart ↦
          let same : segments_from number new ≡ segments_from number old =
          ap (segments_from number) adds.more ∙ from_other number old adds.entry apart in
          subst (AreSegmentsFrom number (steps ++ step ∷ [])) (sym same)
          (segments_same number steps (segments_from number old) step
          (λ comes. apart (adds.from_is ∙ (comes_low number step comes).1)) (before number))
    ]

-- one more train
pub most_more : (kinds : List Kind) (i : ℕ) (d : Kind) → i < length kinds
    → most_of_all (take (i + 1) kinds) ≡ most_of_all (take i kinds) ++ most_of (stops_of (get_or kinds i d)) ∷ []
most_more kinds i d low = ap most_of_all (take_more kinds i d low) ∙ most_end (take i kinds) (get_or kinds i d)
  where
    most_end : (first : List Kind) (kind : Kind) → most_of_all (first ++ kind ∷ [])
        ≡ most_of_all first ++ most_of (stops_of kind) ∷ []
    most_end [] kind = refl
    most_end (other ∷ first) kind = ap (λ most. most_of (stops_of other) ∷ most) (most_end first kind)
