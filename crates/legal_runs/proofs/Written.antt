-- A walk is named by its places, and each legal run is such a walk. The places lead a train step by
-- step: to where a step is left, if that is a stop, and otherwise to where it is entered. The next
-- place gives the side by which it leaves.
use Rattle.std.proofs.Common.{◌≡◌, ℕ, ◌+◌, ◌-◌, ◌<◌, Bool, true, false, ◌&&◌, ◌⊎◌, inl, inr, if◌then◌else◌}
use Rattle.std.proofs.Common.{Option, Some, None, IfSome, option_map, option_and_then, List, [], ◌∷◌, ◌++◌, length, ◌≤◌}
use Rattle.std.proofs.Common.{refl, ap, sym, ◌∙◌, subst, arith, find, lit<}
use Rattle.std.specs.List.{list_any}
use Rattle.std.proofs.lemmas.Bool.{and_parts, eqb-true, eq-eqb, ltb-true}
use Rattle.std.proofs.lemmas.List.{append-nil, append_assoc, length-append}
use Rattle.map_tables.specs.Border.{adjacent, closed_borders, joins, neighbour_of, open_to}
use Rattle.map_tables.specs.Hex.{column_of, hex_at, index_of, row_of, site_of}
use Rattle.map_tables.specs.Laws.{are_links, is_link, leads}
use Rattle.map_tables.specs.Place.{joined_hex, joined_stop_of, stop_at}
use Rattle.map_tables.specs.Side.{facing_of, sides}
use Rattle.map_tables.specs.Track.{end_order}
use Rattle.map_tables.specs.declared.hex.Hex.{Hex}
use Rattle.map_tables.specs.declared.hex.Hex.TheVariants.{A9, A11, I1, J2}
use Rattle.map_tables.specs.declared.place.Place.{Place}
use Rattle.map_tables.specs.declared.place.Stop.{Stop}
use Rattle.map_tables.specs.declared.place.StopNumber.{StopNumber}
use Rattle.map_tables.specs.declared.place.StopNumber.TheVariants.{First, Second}
use Rattle.map_tables.specs.declared.side.Side.{Side}
use Rattle.map_tables.specs.declared.side.Side.TheVariants.{SouthWest, West, NorthWest, NorthEast, East, SouthEast}
use Rattle.map_tables.specs.declared.track.TrackEnd.{TrackEnd}
use Rattle.map_tables.specs.declared.track.TrackEnd.TheVariants.{Side as AtSide, Stop as AtStop}
use Rattle.map_tables.specs.declared.track.Link.{Link}
use Rattle.map_tables.proofs.Searches.{found_passes}
use Rattle.reach.specs.Lawful.{IsLawful}
use Rattle.reach.specs.Position.{Position, IsAmong, links_of, is_red}
use Rattle.reach.specs.Walk.{AreJoined, BeginsAt, IsTrack, IsWalk, PassesOnly, entered_at, left_at, spot_at, stop_of}
use Rattle.reach.specs.declared.walk.Spot.{Spot}
use Rattle.reach.specs.declared.walk.WalkStep.{WalkStep}
use Rattle.reach.proofs.Lists.{found_among}
use Rattle.tables.specs.declared.rolling_stock.Kind.{Kind}
use Rattle.tables.specs.declared.roster.Company.{Company}
use Rattle.legal_runs.specs.Legal.{EndsAtStop, IsLegalRun, border_at, crossed, listed}
use Rattle.legal_runs.specs.Named.{arrived, is_hex, leg_by_stop, leg_over, leg_to, same_link, side_towards}
use Rattle.legal_runs.specs.Named.{step_between, step_over, taken, travelled, walk_named, with_leg}
use Rattle.legal_runs.specs.Law.{AreItsPlaces, EachLegalRunIsNamed}
use Rattle.legal_runs.specs.Written.{place_at, place_over, places_of, places_over}
use Rattle.legal_runs.specs.declared.leg.Leg.{Leg}
use Rattle.legal_runs.proofs.Counting.{no_more}
use Rattle.legal_runs.proofs.TallyOfWalk.{crossed_low}
use Rattle.legal_runs.proofs.Named.{hex_found}

-- what is found in a row and a column is there
place_found : (row column : ℕ) (hex : Hex) → hex_at row column ≡ Some hex
    → (row_of hex ≡ row) × (column_of hex ≡ column)
unfolding hex_at
place_found row column hex is = grind (arith, and_parts, eqb-true, found_passes)

-- a neighbour lies at the side
open_by : (next other : Hex) (closed : Bool) → (if closed then None else Some next) ≡ Some other
    → Some next ≡ Some other
open_by next other true is = cc
open_by next other false is = is

open_is : (hex : Hex) (found : Option Hex) (other : Hex) → option_and_then (open_to hex) found ≡ Some other
    → found ≡ Some other
open_is hex None other is = cc
open_is hex (Some next) other is = open_by next other (list_any (joins hex next) closed_borders) is

lies_at : (hex other : Hex) (side : Side) → neighbour_of hex side ≡ Some other → adjacent hex side ≡ Some other
unfolding neighbour_of
lies_at hex other side is = open_is hex (adjacent hex side) other is

-- where a hex lies that is beside another
abbrev row_beside : Side → ℕ → ℕ
row_beside SouthWest row = row + 1
row_beside West row = row
row_beside NorthWest row = row - 1
row_beside NorthEast row = row - 1
row_beside East row = row
row_beside SouthEast row = row + 1

abbrev column_beside : Side → ℕ → ℕ
column_beside SouthWest column = column - 1
column_beside West column = column - 2
column_beside NorthWest column = column - 1
column_beside NorthEast column = column + 1
column_beside East column = column + 2
column_beside SouthEast column = column + 1

beside_is :
    (hex other : Hex) (side : Side) → adjacent hex side ≡ Some other →
    (row_of other ≡ row_beside side (row_of hex)) × (column_of other ≡ column_beside side (column_of hex))
unfolding adjacent
beside_is hex other SouthWest is = place_found (row_of hex + 1) (column_of hex - 1) other is
beside_is hex other West is = place_found (row_of hex) (column_of hex - 2) other is
beside_is hex other NorthWest is = place_found (row_of hex - 1) (column_of hex - 1) other is
beside_is hex other NorthEast is = place_found (row_of hex - 1) (column_of hex + 1) other is
beside_is hex other East is = place_found (row_of hex) (column_of hex + 2) other is
beside_is hex other SouthEast is = place_found (row_of hex + 1) (column_of hex + 1) other is

-- a place beside another gives the side
side_is : (a b : Side) (row column : ℕ) → 0 < row → row_beside a row ≡ row_beside b row
    → column_beside a column ≡ column_beside b column → a ≡ b
side_is SouthWest SouthWest row column low r c = refl
side_is West West row column low r c = refl
side_is NorthWest NorthWest row column low r c = refl
side_is NorthEast NorthEast row column low r c = refl
side_is East East row column low r c = refl
side_is SouthEast SouthEast row column low r c = refl
side_is one another row column low r c = absurd (omega arith)

-- a hex lies at one side of another
row_low : (hex : Hex) → 0 < row_of hex
unfolding site_of
row_low A9 = lit< tt
row_low _ = lit< tt

one_side : (hex other : Hex) (a b : Side) → neighbour_of hex a ≡ Some other → neighbour_of hex b ≡ Some other → a ≡ b
one_side hex other a b first second =
    let at_a : (row_of other ≡ row_beside a (row_of hex)) × (column_of other ≡ column_beside a (column_of hex)) =
    beside_is hex other a (lies_at hex other a first) in
    let at_b : (row_of other ≡ row_beside b (row_of hex)) × (column_of other ≡ column_beside b (column_of hex)) =
    beside_is hex other b (lies_at hex other b second) in
    side_is a b (row_of hex) (column_of hex) (row_low hex) (sym at_a.0 ∙ at_b.0) (sym at_a.1 ∙ at_b.1)

-- a search finds something where something passes
finds_by :
    {A : Type 0} (test : A → Bool) (first thing : A) (rest : List A) (found : Option A) (b : Bool) → test first ≡ b
    → test thing ≡ true →
    (IsAmong thing rest → (other : A) × (found ≡ Some other)) → (first ≡ thing) ⊎ IsAmong thing rest →
    (other : A) × ((if b then Some first else found) ≡ Some other)
finds_by test first thing rest found true is passes later either = (first, refl)
finds_by test first thing rest found false is passes later (inl here) = grind arith
finds_by test first thing rest found false is passes later (inr among) = later among

finds : {A : Type 0} (test : A → Bool) (things : List A) (thing : A) → IsAmong thing things → test thing ≡ true
    → (other : A) × (find test things ≡ Some other)
finds test [] thing among passes = absurd among
finds test (first ∷ rest) thing among passes =
    finds_by test first thing rest (find test rest) (test first) refl passes
    (λ later. finds test rest thing later passes) among

side_among : (side : Side) → IsAmong side sides
side_among SouthWest = inl refl
side_among West = inr (inl refl)
side_among NorthWest = inr (inr (inl refl))
side_among NorthEast = inr (inr (inr (inl refl)))
side_among East = inr (inr (inr (inr (inl refl))))
side_among SouthEast = inr (inr (inr (inr (inr (inl refl)))))

is_found : (other : Hex) (found : Option Hex) → found ≡ Some other → is_hex other found ≡ true
is_found other found is = ap (is_hex other) is ∙ eq-eqb (index_of other) (index_of other) refl

-- the side at which a neighbour lies is the side towards it
towards_is : (hex other : Hex) (side : Side) → neighbour_of hex side ≡ Some other → side_towards hex other ≡ Some side
unfolding side_towards
towards_is hex other side is =
    let test : Side → Bool = λ s. is_hex other (neighbour_of hex s) in
    let found : (s : Side) × (find test sides ≡ Some s) =
    finds test sides side (side_among side) (is_found other (neighbour_of hex side) is) in
    found.1 ∙ ap Some (one_side hex other found.0 side
    (hex_found other (neighbour_of hex found.0) (found_passes test sides found.0 found.1)) is)

-- a link of a position joins a side to an end that comes after it
two_of_three : (a b c : Bool) → (a && b && c) ≡ true → (a ≡ true) × (c ≡ true)
two_of_three true true true h = (refl, refl)
two_of_three false b c h = cc
two_of_three true false c h = cc
two_of_three true true false h = cc

ordered_among : (links : List Link) (link : Link) → are_links links ≡ true → IsAmong link links → is_link link ≡ true
ordered_among [] link h among = absurd among
ordered_among (first ∷ rest) link h among =
    let parts : (is_link first ≡ true) × (are_links rest ≡ true) =
    two_of_three (is_link first) (leads first rest) (are_links rest) h in
    elim among [
      | inl here ↦ subst (λ (l : Link). is_link l ≡ true) here parts.0
      | inr later ↦ ordered_among rest link
          parts.1 later
    ]

pub record Ordered (link : Link) : Type 0 where
  pub from_side : end_order link.a < 6
  pub rising : end_order link.a < end_order link.b

pub ordered : (position : Position) → IsLawful position → (step : WalkStep) → IsTrack position step → Ordered step.link
ordered position lawful step track = grind (arith, ordered_among, and_parts, ltb-true)

-- the step from where it is entered to where it is left is the step itself
over_is :
    (hex : Hex) (a b : TrackEnd) (turned : Bool) → end_order a < end_order b →
    step_over hex (if turned then b else a) (if turned then a else b)
    ≡ record { link = record { hex = hex; a = a; b = b }; turned = turned }
over_is hex a b true rising = grind arith
over_is hex a b false rising = grind arith

link_same : (link other : Link) → link ≡ other → same_link link other ≡ true
link_same link other is = grind arith

-- and the position has it
between_is :
    (position : Position) → IsLawful position → (step : WalkStep) → IsTrack position step →
    step_between position step.link.hex (entered_at step).end (left_at step).end ≡ Some step
unfolding step_between
between_is position lawful step track =
    let hex : Hex = step.link.hex in
    let facts : Ordered step.link = ordered position lawful step track in
    let over : step_over hex (entered_at step).end (left_at step).end ≡ step =
    over_is hex step.link.a step.link.b step.turned facts.rising in
    let found : list_any (λ link. same_link link step.link) (links_of position hex) ≡ true =
    found_among same_link link_same (links_of position hex) step.link track in
    ap (λ (s : WalkStep). if list_any (λ link. same_link link s.link) (links_of position hex) then Some s else None) over
    ∙ ap (λ b. if b then Some step else None) found

-- no step leads from a stop to a stop
pub stop_to_stop :
    (link : Link) (turned : Bool) (n m : StopNumber) → Ordered link → (if turned then link.b else link.a) ≡ AtStop n →
    (if turned then link.a else link.b) ≡ AtStop m → ⊥
stop_to_stop link true n m facts enters leaves = grind arith
stop_to_stop link false n m facts enters leaves = grind arith

-- what names an area
joined_cases : (hex : Hex) → (joined_hex hex ≡ hex) ⊎ ((joined_hex hex ≡ J2) ⊎ (joined_hex hex ≡ A11))
joined_cases A9 = inr (inr refl)
joined_cases I1 = inr (inl refl)
joined_cases _ = inl refl

-- a step that comes over a border comes to one more place
one_over :
    (hex : Hex) (end : TrackEnd) (left : Spot) (places : List Place) (borders : List ℕ) → length places ≡ length borders →
    length (places ++ listed (place_over end left)) ≡ length (border_at hex end ++ borders)
one_over hex (AtSide side) left places borders same = omega (arith, length-append places (place_at left ∷ []), same)
one_over hex (AtStop number) left places borders same = ap length (append-nil places) ∙ same

as_many : (steps : List WalkStep) → length (places_over steps) ≡ length (crossed steps)
as_many [] = refl
as_many (step ∷ before) = grind (arith, one_over, as_many before)

module _ (position : Position) (lawful : IsLawful position) where
  -- some places lead a train to a spot by these steps
  record Led (at : Spot) (steps : List WalkStep) (places : List Place) : Type 0 where
    leads_on : (rest : List Place) → walk_named position (places ++ rest) ≡ travelled taken position at steps rest

  -- the first place
  led_first : (hex : Hex) (number : StopNumber) → Led (spot_at hex (AtStop number)) []
      (place_at (spot_at hex (AtStop number)) ∷ [])
  led_first hex number = record { leads_on = λ rest. refl }

  -- one more place
  led_further :
      (at : Spot) (steps : List WalkStep) (places : List Place) (place : Place) (leg : Leg)
      → leg_to position at place ≡ Some leg → Led at steps places →
      Led leg.at (with_leg taken steps leg) (places ++ (place ∷ []))
  led_further at steps places place leg is led = grind (arith, append_assoc)

  -- the leg by a step to a side, over the border there, and on
  leg_by_track :
      (from : Spot) (first : WalkStep) (side : Side) (place : Place) → neighbour_of from.hex side ≡ Some place.hex →
      step_between position from.hex from.end (AtSide side) ≡ Some first →
      leg_to position from place ≡ leg_by_stop position first place.hex (facing_of side) place.stop
  unfolding leg_to
  leg_by_track from first side place beside found =
      ap (option_and_then (leg_over position from place)) (towards_is from.hex place.hex side beside)
      ∙ ap (option_and_then (λ (step : WalkStep). leg_by_stop position step place.hex (facing_of side) place.stop)) found

  leg_through :
      (from : Spot) (first : WalkStep) (side : Side) (hex : Hex) → neighbour_of from.hex side ≡ Some hex →
      step_between position from.hex from.end (AtSide side) ≡ Some first →
      leg_to position from (record { hex = hex; stop = None })
      ≡ Some (record { first = first; second = None; at = spot_at hex (AtSide (facing_of side)) })
  leg_through from first side hex beside found =
      leg_by_track from first side (record { hex = hex; stop = None }) beside found

  leg_to_stop :
      (from : Spot) (first second : WalkStep) (side : Side) (hex : Hex) (number : StopNumber)
      → neighbour_of from.hex side ≡ Some hex →
      step_between position from.hex from.end (AtSide side) ≡ Some first →
      step_between position hex (AtSide (facing_of side)) (AtStop number) ≡ Some second →
      leg_to position from (record { hex = hex; stop = Some number })
      ≡ Some (record { first = first; second = Some second; at = spot_at hex (AtStop number) })
  leg_to_stop from first second side hex number beside found next =
      leg_by_track from first side (record { hex = hex; stop = Some number }) beside found
      ∙ ap (option_map (λ (s : WalkStep). let leg : Leg =
      record { first = first; second = Some s; at = spot_at hex (AtStop number) } in leg)) next

  -- where these places of a walk lead: before the step that is left at a side, after the one left
  -- at a stop
  abbrev NowAt : WalkStep → List WalkStep → List Place → TrackEnd → Type 0
  NowAt step before places (AtSide side) = Led (entered_at step) before places
  NowAt step before places (AtStop number) = Led (left_at step) (step ∷ before) places

  -- from a stop a step leads to a side
  from_stop :
      (step : WalkStep) (before : List WalkStep) (places : List Place) (number : StopNumber) → IsTrack position step
      → (entered_at step).end ≡ AtStop number →
      Led (entered_at step) before places → (end : TrackEnd) → (left_at step).end ≡ end → NowAt step before places end
  from_stop step before places number track enters led (AtSide side) leaves = led
  from_stop step before places number track enters led (AtStop other) leaves = grind (arith, ordered, stop_to_stop)

  -- the first step
  first_written :
      (step : WalkStep) → IsTrack position step → (end : TrackEnd) → (entered_at step).end ≡ end → (stop : Stop)
      → stop_of (spot_at step.link.hex end) ≡ Some stop →
      NowAt step [] (place_at (spot_at step.link.hex end) ∷ listed (place_over end (left_at step))) (left_at step).end
  first_written step track (AtSide side) enters stop is = cc
  first_written step track (AtStop number) enters stop is = grind (arith, led_first, from_stop)

  -- where a link ends at a stop, it is its second end
  enters_second : (link : Link) (turned : Bool) (n : StopNumber) → Ordered link
      → (if turned then link.b else link.a) ≡ AtStop n → link.b ≡ AtStop n
  enters_second link true n facts is = is
  enters_second link false n facts is = grind arith

  leaves_second : (link : Link) (turned : Bool) (n : StopNumber) → Ordered link
      → (if turned then link.a else link.b) ≡ AtStop n → link.b ≡ AtStop n
  leaves_second link false n facts is = is
  leaves_second link true n facts is = grind arith

  -- spots at one stop that is not red are one
  one_hex :
      (a b : Hex) (number : StopNumber) → joined_hex a ≡ joined_hex b → (number ≡ Second → joined_hex a ≡ a)
      → (number ≡ Second → joined_hex b ≡ b) →
      ¬ (is_red position (stop_at (joined_hex b) number) ≡ true) → a ≡ b
  one_hex a b Second same first second not_red = sym (first refl) ∙ same ∙ second refl
  one_hex a b First same first second not_red =
      elim (joined_cases a) [
        | inl here ↦ elim (joined_cases b) [
          | inl there ↦ sym here ∙ same ∙ there
          | inr red ↦ absurd (in_area b red not_red)
        ]
        | inr red ↦ absurd (in_area b (moved red) not_red)
      ]
    where
      in_area : (hex : Hex) → (joined_hex hex ≡ J2) ⊎ (joined_hex hex ≡ A11)
          → ¬ (is_red position (stop_at (joined_hex hex) First) ≡ true) → ⊥
      in_area hex (inl is) not_red = not_red (ap (λ (h : Hex). is_red position (stop_at h First)) is
          ∙ lawful.gulf_is_red)
      in_area hex (inr is) not_red = not_red (ap (λ (h : Hex). is_red position (stop_at h First)) is
          ∙ lawful.canadian_west_is_red)

      moved : (joined_hex a ≡ J2) ⊎ (joined_hex a ≡ A11) → (joined_hex b ≡ J2) ⊎ (joined_hex b ≡ A11)
      moved (inl is) = inl (sym same ∙ is)
      moved (inr is) = inr (sym same ∙ is)

  one_stop :
      (a b : Hex) (n m : StopNumber) → AreJoined (spot_at a (AtStop n)) (spot_at b (AtStop m))
      → (n ≡ Second → joined_hex a ≡ a) →
      (m ≡ Second → joined_hex b ≡ b) → ¬ (is_red position (joined_stop_of (stop_at b m)) ≡ true)
      → spot_at a (AtStop n) ≡ spot_at b (AtStop m)
  one_stop a b n m (inr over) first second not_red = cc
  one_stop a b n m (inl at) first second not_red =
      let same : Some (joined_stop_of (stop_at a n)) ≡ Some (joined_stop_of (stop_at b m)) = at.1 ∙ sym at.2 in
      let stop : joined_stop_of (stop_at a n) ≡ joined_stop_of (stop_at b m) = cc in
      let number : n ≡ m = ap (λ (s : Stop). s.number) stop in
      let hex : a ≡ b = one_hex a b m (ap (λ (s : Stop). s.hex) stop) (λ is. first (number ∙ is)) second not_red in
      ap (λ (h : Hex). spot_at h (AtStop n)) hex ∙ ap (λ (k : StopNumber). spot_at b (AtStop k)) number

  -- over a border
  beside_by :
      (found : Option Hex) (side : Side) (other : Hex) (end : TrackEnd)
      → option_map (λ h. spot_at h (AtSide (facing_of side))) found ≡ Some (spot_at other end) →
      (found ≡ Some other) × (end ≡ AtSide (facing_of side))
  beside_by None side other end is = cc
  beside_by (Some hex) side other end is =
      let spot : spot_at hex (AtSide (facing_of side)) ≡ spot_at other end = cc in
      (ap (λ (s : Spot). Some s.hex) spot, sym (ap (λ (s : Spot). s.end) spot))

  over_border :
      (hex other : Hex) (side : Side) (end : TrackEnd) → AreJoined (spot_at hex (AtSide side)) (spot_at other end) →
      (neighbour_of hex side ≡ Some other) × (end ≡ AtSide (facing_of side))
  over_border hex other side end (inl at) = let wrong : None ≡ Some at.0 = at.1 in cc
  over_border hex other side end (inr over) = beside_by (neighbour_of hex side) side other end over

  -- the step between these ends of its hex is the step itself
  between_ends :
      (step : WalkStep) (from to : TrackEnd) → IsTrack position step → (entered_at step).end ≡ from → (left_at step).end ≡ to →
      step_between position step.link.hex from to ≡ Some step
  between_ends step from to track enters leaves = grind (arith, between_is)

  -- a step that goes on over a border
  over_written :
      (step earlier : WalkStep) (before : List WalkStep) (places : List Place) (side : Side) → IsTrack position step
      → IsTrack position earlier →
      (left_at earlier).end ≡ AtSide side → neighbour_of earlier.link.hex side ≡ Some step.link.hex
      → (entered_at step).end ≡ AtSide (facing_of side) →
      Led (entered_at earlier) before places → (end : TrackEnd) → (left_at step).end ≡ end →
      NowAt step (earlier ∷ before) (places ++ (place_at (spot_at step.link.hex end) ∷ [])) end
  over_written step earlier before places side track was leaves beside enters led (AtSide on) goes =
      let hex : Hex = step.link.hex in
      let place : Place = place_at (spot_at hex (AtSide on)) in
      let first : step_between position earlier.link.hex (entered_at earlier).end (AtSide side) ≡ Some earlier =
      between_ends earlier (entered_at earlier).end (AtSide side) was refl leaves in
      subst (λ (e : TrackEnd). Led (spot_at hex e) (earlier ∷ before) (places ++ (place ∷ []))) (sym enters)
      (led_further (entered_at earlier) before places place
      (record { first = earlier; second = None; at = spot_at hex (AtSide (facing_of side)) })
      (leg_through (entered_at earlier) earlier side hex beside first) led)
  over_written step earlier before places side track was leaves beside enters led (AtStop number) goes =
      let hex : Hex = step.link.hex in
      let place : Place = place_at (spot_at hex (AtStop number)) in
      let first : step_between position earlier.link.hex (entered_at earlier).end (AtSide side) ≡ Some earlier =
      between_ends earlier (entered_at earlier).end (AtSide side) was refl leaves in
      let second : step_between position hex (AtSide (facing_of side)) (AtStop number) ≡ Some step =
      between_ends step (AtSide (facing_of side)) (AtStop number) track enters goes in
      subst (λ (e : TrackEnd). Led (spot_at hex e) (step ∷ earlier ∷ before) (places ++ (place ∷ []))) (sym goes)
      (led_further (entered_at earlier) before places place
      (record { first = earlier; second = Some step; at = spot_at hex (AtStop number) })
      (leg_to_stop (entered_at earlier) earlier step side hex number beside first second) led)

  -- and_parts steps are joined at their ends
  joined_ends :
      (earlier step : WalkStep) (left entered : TrackEnd) → (left_at earlier).end ≡ left → (entered_at step).end ≡ entered →
      AreJoined (left_at earlier) (entered_at step) → AreJoined (spot_at earlier.link.hex left)
      (spot_at step.link.hex entered)
  joined_ends earlier step left entered leaves enters joined = grind arith

  no_side_at_stop : (a b : Hex) (number : StopNumber) (side : Side)
      → AreJoined (spot_at a (AtStop number)) (spot_at b (AtSide side)) → ⊥
  no_side_at_stop a b number side (inl at) = let wrong : None ≡ Some at.0 = at.2 in cc
  no_side_at_stop a b number side (inr over) = cc

  -- a later step
  later_written :
      (step earlier : WalkStep) (before : List WalkStep) (places : List Place) → IsTrack position step
      → IsTrack position earlier →
      AreJoined (left_at earlier) (entered_at step) → IfSome (stop_of (entered_at step))
      (λ stop. ¬ (is_red position stop ≡ true)) → (left entered : TrackEnd) →
      (left_at earlier).end ≡ left → (entered_at step).end ≡ entered → NowAt earlier before places left →
      NowAt step (earlier ∷ before) (places ++ listed (place_over entered (left_at step))) (left_at step).end
  later_written step earlier before places track was joined not_red (AtSide side) entered leaves enters led =
      let over : (neighbour_of earlier.link.hex side ≡ Some step.link.hex)
      × ((entered_at step).end ≡ AtSide (facing_of side)) =
      over_border earlier.link.hex step.link.hex side (entered_at step).end
      (joined_ends earlier step (AtSide side) (entered_at step).end leaves refl joined) in
      subst (λ (e : TrackEnd). NowAt step (earlier ∷ before) (places ++ listed (place_over e (left_at step)))
      (left_at step).end) (sym over.1 ∙ enters)
      (over_written step earlier before places side track was leaves over.0 over.1 led (left_at step).end refl)
  later_written step earlier before places track was joined not_red (AtStop n) (AtSide side) leaves enters led =
      absurd (no_side_at_stop earlier.link.hex step.link.hex n side
      (joined_ends earlier step (AtStop n) (AtSide side) leaves enters joined))
  later_written step earlier before places track was joined not_red (AtStop n) (AtStop m) leaves enters led =
      let here : Hex = step.link.hex in
      let there : Hex = earlier.link.hex in
      let free : ¬ (is_red position (joined_stop_of (stop_at here m)) ≡ true) =
      subst (λ (e : TrackEnd). IfSome (stop_of (spot_at here e)) (λ stop. ¬ (is_red position stop ≡ true))) enters not_red in
      let was_second : earlier.link.b ≡ AtStop n = leaves_second earlier.link earlier.turned n
      (ordered position lawful earlier was) leaves in
      let is_second : step.link.b ≡ AtStop m = enters_second step.link step.turned m
      (ordered position lawful step track) enters in
      let one : spot_at there (AtStop n) ≡ spot_at here (AtStop m) =
      one_stop there here n m (joined_ends earlier step (AtStop n) (AtStop m) leaves enters joined)
      (λ is. lawful.parts_have_one_stop there earlier.link was (was_second ∙ ap AtStop is))
      (λ is. lawful.parts_have_one_stop here step.link track (is_second ∙ ap AtStop is)) free in
      subst (λ (list : List Place). NowAt step (earlier ∷ before) list (left_at step).end) (sym (append-nil places))
      (from_stop step (earlier ∷ before) places m track enters
      (subst (λ (e : TrackEnd). Led (spot_at here e) (earlier ∷ before) places) (sym enters)
      (subst (λ (spot : Spot). Led spot (earlier ∷ before) places) (ap (spot_at there) leaves ∙ one) led))
      (left_at step).end refl)

  -- the places of a walk lead along it
  written :
      (step : WalkStep) (before : List WalkStep) → IsWalk position (step ∷ before)
      → BeginsAt (λ stop. Unit {0}) (step ∷ before) →
      PassesOnly (λ stop. ¬ (is_red position stop ≡ true)) (step ∷ before)
      → NowAt step before (places_of (step ∷ before)) (left_at step).end
  written step [] walk begins passes = grind (arith, first_written, walk, begins)
  written step (earlier ∷ before) walk begins passes = grind (arith, later_written, walk, begins, written earlier before walk.2 begins passes.1)

  -- a step that is left at a stop came over a border
  over_one :
      (step : WalkStep) (before : List WalkStep) (number : StopNumber) → IsTrack position step
      → (left_at step).end ≡ AtStop number → (end : TrackEnd) →
      (entered_at step).end ≡ end → 1 ≤ length (border_at step.link.hex end ++ crossed before)
  over_one step before number track leaves (AtSide side) enters = omega arith
  over_one step before number track leaves (AtStop other) enters = grind (arith, ordered, stop_to_stop)

  -- at its end
  at_stop :
      (step : WalkStep) (before : List WalkStep) → IsTrack position step → length (crossed (step ∷ before)) ≤ 279
      → (end : TrackEnd) → (left_at step).end ≡ end →
      (stop : Stop) → stop_of (spot_at step.link.hex end) ≡ Some stop
      → NowAt step before (places_of (step ∷ before)) end →
      AreItsPlaces position (step ∷ before) (places_of (step ∷ before))
  at_stop step before track few (AtSide side) leaves stop is led = let wrong : None ≡ Some stop = is in absurd cc
  at_stop step before track few (AtStop number) leaves stop is led = record {
    name_it =
        ap (walk_named position) (sym (append-nil (places_of (step ∷ before)))) ∙ led.leads_on []
        ∙ ap (λ (e : TrackEnd). arrived e (step ∷ before)) leaves;
    least = omega (arith, as_many (step ∷ before), over_one step before number track leaves (entered_at step).end refl);
    most = omega (arith, as_many (step ∷ before), few);
  }

-- a walk that can be written in full: it leads from a stop to a stop, passes no red stop and crosses at
-- most 279 borders
record CanBeWritten (position : Position) (steps : List WalkStep) : Type 0 where
  walk : IsWalk position steps
  begins : BeginsAt (λ stop. Unit {0}) steps
  ends : EndsAtStop steps
  no_red_inside : PassesOnly (λ stop. ¬ (is_red position stop ≡ true)) steps
  few_borders : length (crossed steps) ≤ 279

-- the places of such a walk name it, and are from 2 to 280
walks_written :
    (position : Position) (steps : List WalkStep) → IsLawful position → CanBeWritten position steps →
    AreItsPlaces position steps (places_of steps)
walks_written position [] lawful walk = absurd walk.begins
walks_written position (step ∷ before) lawful walk =
    at_stop position lawful step before walk.walk.0 walk.few_borders (left_at step).end refl walk.ends.0 walk.ends.1
    (written position lawful step before walk.walk walk.begins walk.no_red_inside)

-- each legal run is such a walk
pub legal_written :
    (position : Position) (company : Company) (kind : Kind) (used : List ℕ) (steps : List WalkStep) → IsLawful position →
    IsLegalRun position company kind used steps → AreItsPlaces position steps (places_of steps)
legal_written position company kind used steps lawful run = walks_written position steps lawful (record {
  walk = run.walk;
  begins = run.begins;
  ends = run.ends;
  no_red_inside = run.no_red_inside;
  few_borders = no_more 279 (crossed steps) run.no_border_twice (crossed_low 279 steps (omega arith));
})

-- so each can be written in full
pub each_named : EachLegalRunIsNamed
each_named position company kind used steps lawful run =
    (places_of steps, legal_written position company kind used steps lawful run)
