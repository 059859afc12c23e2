-- Example for the chapter `best-runs`: two 2-trains of which one can run, so that 30 is the most.
-- PRR has its token on H12, its home, worth 10, and two 2-trains. A yellow city lies on H10, worth
-- 20, beside it. No other hex has track here, and of stops only the two red areas that each map
-- has. One border joins the two cities, so one train runs. The certificate of the chapter on
-- certificates shows that no set of runs earns more: its marks `befb8` are read over the tree. That
-- neighbours pair is the law `map_tables: neighbours_pair`.
use Rattle.std.proofs.Common.{◌≡◌, ◌∙◌, ap, sym, subst, refl, ◌≤◌, lit<, lit≤, get_or, Bool, true, false}
use Rattle.std.proofs.Common.{List, [], ◌∷◌, Some, None, ◌⊎◌, inl, inr, map, codes}
use Rattle.std.proofs.lemmas.List.{get_or-map}
use Rattle.certificate.proofs.Accepted.{accepted_is_greatest, marks_are_read}
use Rattle.certificate.specs.Digits.{bits_of_digits}
use Rattle.certificate.specs.Holding.{AreReached}
use Rattle.legal_runs.proofs.Lawful.{legal_where_unbroken}
use Rattle.legal_runs.specs.Claim.{ClaimHolds}
use Rattle.legal_runs.specs.Law.{NameLegalRun}
use Rattle.legal_runs.specs.Legal.{IsLegalRun, border_of}
use Rattle.legal_runs.specs.Fault.{run_fault}
use Rattle.legal_runs.specs.Named.{leg_to, side_towards, step_between, walk_named}
use Rattle.legal_runs.specs.Set.{AreTakenFrom, IsGreatest}
use Rattle.legal_runs.specs.declared.claim.Claim.{Claim}
use Rattle.map_tables.proofs.HexTables.{hex_at_index}
use Rattle.map_tables.specs.Border.{adjacent, neighbour_of}
use Rattle.map_tables.specs.Hex.{hex_at, hexes, index_of, site_of}
use Rattle.map_tables.specs.Laws.{AreLinksOf, NeighboursPair}
use Rattle.map_tables.specs.Place.{joined_hex, stop_at, stop_index_of}
use Rattle.map_tables.specs.declared.hex.Hex.{Hex}
use Rattle.map_tables.specs.declared.hex.Hex.TheVariants.{A9, A11, H10, H12, I1, J2}
use Rattle.map_tables.specs.declared.place.Place.{Place}
use Rattle.map_tables.specs.declared.place.Stop.{Stop}
use Rattle.map_tables.specs.declared.place.StopNumber.{StopNumber}
use Rattle.map_tables.specs.declared.place.StopNumber.TheVariants.{First, Second}
use Rattle.map_tables.specs.declared.side.Side.{Side}
use Rattle.map_tables.specs.declared.side.Side.TheVariants.{West, East}
use Rattle.map_tables.specs.declared.track.Link.{Link}
use Rattle.map_tables.specs.declared.track.TrackEnd.TheVariants.{Side as AtSide, Stop as AtStop}
use Rattle.reach.specs.Lawful.{IsLawful}
use Rattle.reach.specs.Position.{AtStop as Lies, InHex, IsAmong, Position, at_stop, empty_hex, in_hex, links_of}
use Rattle.reach.specs.Position.{no_stop}
use Rattle.reach.specs.Reached.{ReachesStop}
use Rattle.reach.specs.Walk.{EndsAt, IsWalk, TouchesStop, stop_at_end}
use Rattle.reach.specs.declared.walk.WalkStep.{WalkStep}
use Rattle.reach.proofs.Hexes.{index_in}
use Rattle.tables.specs.declared.rolling_stock.Kind.TheVariants.{Two}
use Rattle.tables.specs.declared.roster.Company.TheVariants.{Pennsylvania}

-- track from a side of a hex to its stop
abbrev spoke : Hex → Side → Link
spoke hex side = record { hex = hex; a = AtSide side; b = AtStop First }

abbrev red_area : Lies
red_area = record { value = 0; red = true; slots = 0; tokens = [] }

-- what is in a hex
abbrev on_map : Hex → InHex
on_map H10 = record {
  links = spoke H10 West ∷ spoke H10 East ∷ [];
  stops = record { value = 20; red = false; slots = 1; tokens = [] } ∷ [];
}
on_map H12 = record {
  links = record { hex = H12; a = AtSide West; b = AtSide East } ∷ spoke H12 West ∷ spoke H12 East ∷ [];
  stops = record { value = 10; red = false; slots = 1; tokens = Pennsylvania ∷ [] } ∷ [];
}
on_map J2 = record { links = []; stops = red_area ∷ [] }
on_map A11 = record { links = []; stops = red_area ∷ [] }
on_map hex = empty_hex

unfoldable pub small_map : Position
small_map = record { hexes = map on_map hexes }

-- the stops that PRR reaches
abbrev both : List Stop
both = stop_at H10 First ∷ stop_at H12 First ∷ []

-- the position has in a hex what is there
in_hex_is : (hex : Hex) → in_hex small_map hex ≡ on_map hex
unfolding small_map
in_hex_is hex = get_or-map on_map hexes (index_of hex) A9 empty_hex (index_in hex) ∙ ap on_map (hex_at_index hex)

-- and at a stop
abbrev standing_in : Hex → StopNumber → Lies
standing_in hex number = get_or (on_map hex).stops (stop_index_of number) no_stop

at_stop_is : (stop : Stop) → at_stop small_map stop ≡ standing_in (joined_hex stop.hex) stop.number
at_stop_is stop = ap (λ (here : InHex). get_or here.stops (stop_index_of stop.number) no_stop)
    (in_hex_is (joined_hex stop.hex))

-- the links of each hex are in order, no stop is worth more than 80, and no track leads to a second stop
in_order : (hex : Hex) → AreLinksOf hex (on_map hex).links
in_order H10 = record { in_order = refl; here = (refl, (refl, tt)); few = lit≤ tt }
in_order H12 = record { in_order = refl; here = (refl, (refl, (refl, tt))); few = lit≤ tt }
in_order hex = record { in_order = refl; here = tt; few = lit≤ tt }

worth : (hex : Hex) (number : StopNumber) → (standing_in hex number).value ≤ 80
worth H10 First = lit≤ tt
worth H10 Second = lit≤ tt
worth hex First = lit≤ tt
worth hex Second = lit≤ tt

none_second : (hex : Hex) (link : Link) → IsAmong link (on_map hex).links → link.b ≡ AtStop Second
    → joined_hex hex ≡ hex
none_second A9 link among second = absurd among
none_second I1 link among second = absurd among
none_second hex link among second = refl

-- so the position keeps the laws of positions
is_lawful : NeighboursPair → IsLawful small_map
is_lawful pair =
    record {
      links = λ hex. subst (λ (h : InHex). AreLinksOf hex h.links) (sym (in_hex_is hex)) (in_order hex);
      borders_pair = pair;
      values = λ stop. subst (λ s. s.value ≤ 80) (sym (at_stop_is stop)) (worth (joined_hex stop.hex) stop.number);
      gulf_is_red = ap (λ s. s.red) (at_stop_is (stop_at J2 First));
      canadian_west_is_red = ap (λ s. s.red) (at_stop_is (stop_at A11 First));
      parts_have_one_stop = λ hex link among second. none_second hex link
          (subst (λ (h : InHex). IsAmong link h.links) (in_hex_is hex) among) second;
    }

-- a token of PRR is at H12.0 alone
token_at : (hex : Hex) (number : StopNumber) → IsAmong Pennsylvania (standing_in hex number).tokens
    → stop_at hex number ≡ stop_at H12 First
token_at H12 First among = refl
token_at H12 Second among = absurd among
token_at hex First among = absurd among
token_at hex Second among = absurd among

-- what a link ends at is one of the two stops
some_is : (one other : Stop) → Some one ≡ Some other → one ≡ other
some_is one other same = cc

none_is : (stop : Stop) → None ≡ Some stop → IsAmong stop both
none_is stop same = absurd (let it : None ≡ Some stop = same in cc)

abbrev EndsAmong : Link → Type 0
EndsAmong link = (stop : Stop) → (stop_at_end link.hex link.a ≡ Some stop) ⊎ (stop_at_end link.hex link.b ≡ Some stop)
    → IsAmong stop both

spoke_of_h10 : (side : Side) → EndsAmong (spoke H10 side)
spoke_of_h10 side stop (inl same) = none_is stop same
spoke_of_h10 side stop (inr same) = inl (some_is (stop_at H10 First) stop same)

spoke_of_h12 : (side : Side) → EndsAmong (spoke H12 side)
spoke_of_h12 side stop (inl same) = none_is stop same
spoke_of_h12 side stop (inr same) = inr (inl (some_is (stop_at H12 First) stop same))

through_h12 : EndsAmong (record { hex = H12; a = AtSide West; b = AtSide East })
through_h12 stop (inl same) = none_is stop same
through_h12 stop (inr same) = none_is stop same

ends_among : (hex : Hex) (link : Link) → IsAmong link (on_map hex).links → EndsAmong link
ends_among H10 link (inl same) = subst EndsAmong same (spoke_of_h10 West)
ends_among H10 link (inr (inl same)) = subst EndsAmong same (spoke_of_h10 East)
ends_among H10 link (inr (inr none)) = absurd none
ends_among H12 link (inl same) = subst EndsAmong same through_h12
ends_among H12 link (inr (inl same)) = subst EndsAmong same (spoke_of_h12 West)
ends_among H12 link (inr (inr (inl same))) = subst EndsAmong same (spoke_of_h12 East)
ends_among H12 link (inr (inr (inr none))) = absurd none
ends_among hex link among = absurd among

step_among : (link : Link) (turned : Bool) → IsAmong link (links_of small_map link.hex) → (stop : Stop)
    → EndsAt stop (record { link = link; turned = turned }) → IsAmong stop both
step_among link true track stop (inl entered) = ends_among link.hex link
    (subst (λ (h : InHex). IsAmong link h.links) (in_hex_is link.hex) track) stop (inr entered)
step_among link true track stop (inr left) = ends_among link.hex link
    (subst (λ (h : InHex). IsAmong link h.links) (in_hex_is link.hex) track) stop (inl left)
step_among link false track stop (inl entered) = ends_among link.hex link
    (subst (λ (h : InHex). IsAmong link h.links) (in_hex_is link.hex) track) stop (inl entered)
step_among link false track stop (inr left) = ends_among link.hex link
    (subst (λ (h : InHex). IsAmong link h.links) (in_hex_is link.hex) track) stop (inr left)

touched : (stop : Stop) (steps : List WalkStep) → IsWalk small_map steps → TouchesStop stop steps → IsAmong stop both
touched stop [] walk none = absurd none
touched stop (step ∷ before) walk (inl ends) = step_among step.link step.turned walk.0 stop ends
touched stop (step ∷ before) walk (inr later) = touched stop before walk.2 later

-- the walk out of H12.0 to the west, and into the city of H10
abbrev walk_west : List WalkStep
walk_west =
    record { link = spoke H10 East; turned = false } ∷ record { link = spoke H12 West; turned = true } ∷ []

reaches_h10 : ReachesStop small_map Pennsylvania (stop_at H10 First)
unfolding small_map hexes index_of neighbour_of adjacent hex_at site_of
reaches_h10 =
    inr (
      walk_west,
      record {
        walk = (inr (inl refl), inr refl, (inr (inl refl), tt, tt));
        from_token = (stop_at H12 First, refl, inl refl);
        passes = (tt, (tt, tt));
      },
      inl (inr refl),
    )

reaches_h12 : ReachesStop small_map Pennsylvania (stop_at H12 First)
unfolding small_map hexes index_of site_of
reaches_h12 = inl (refl, inl refl)

-- PRR reaches these two stops and no other
reached_is : (stop : Stop) → IsAmong stop both → ReachesStop small_map Pennsylvania stop
reached_is stop (inl same) = subst (λ s. ReachesStop small_map Pennsylvania s) same reaches_h10
reached_is stop (inr (inl same)) = subst (λ s. ReachesStop small_map Pennsylvania s) same reaches_h12
reached_is stop (inr (inr none)) = absurd none

among_is : (stop : Stop) → ReachesStop small_map Pennsylvania stop → IsAmong stop both
among_is stop (inl token) = inr (inl (sym (sym token.0 ∙ token_at (joined_hex stop.hex) stop.number
    (subst (λ (here : Lies). IsAmong Pennsylvania here.tokens) (at_stop_is stop) token.1))))
among_is stop (inr walked) = touched stop walked.0 walked.1.walk walked.2

are_reached : AreReached small_map Pennsylvania both
unfolding hexes index_of site_of
are_reached = record { exact = λ stop. (reached_is stop, among_is stop); in_order = ((lit< tt, tt), (tt, tt)) }

-- the run from H12.0 to H10.0, and the claim that the two trains earn 30 by it
abbrev run : List Place
run = record { hex = H12; stop = Some First } ∷ record { hex = H10; stop = Some First } ∷ []

abbrev claim : Claim
claim = record { revenue = 30; runs = record { kind = Two; run = run } ∷ [] }

named : walk_named small_map run ≡ Some walk_west
unfolding small_map hexes index_of neighbour_of adjacent hex_at site_of side_towards step_between leg_to
named = refl

unbroken : run_fault small_map Pennsylvania Two [] run ≡ None
unfolding small_map hexes index_of neighbour_of adjacent hex_at site_of side_towards step_between leg_to border_of
unbroken = refl

walk_is : (one other : List WalkStep) → Some one ≡ Some other → one ≡ other
walk_is one other same = cc

is_legal : IsLegalRun small_map Pennsylvania Two [] walk_west
is_legal =
    let found : NameLegalRun small_map Pennsylvania Two [] run =
    (legal_where_unbroken small_map Pennsylvania Two [] run).0 unbroken in
    subst (λ (steps : List WalkStep). IsLegalRun small_map Pennsylvania Two [] steps)
    (walk_is found.0 walk_west (sym found.1 ∙ named)) found.2

each_once : AreTakenFrom (Two ∷ Two ∷ []) (Two ∷ [])
each_once Two = lit≤ tt
each_once kind = lit≤ tt

holds : ClaimHolds small_map Pennsylvania (Two ∷ Two ∷ []) claim
unfolding small_map hexes index_of site_of
holds = (
  record { kind = Two; steps = walk_west } ∷ [],
  (refl, named, tt),
  record { legal = (is_legal, tt); each_once = each_once; apart = (tt, tt) },
  refl,
)

-- the greatest revenue of two 2-trains is 30
pub most_is_30 : NeighboursPair → IsGreatest small_map Pennsylvania (Two ∷ Two ∷ []) 30
unfolding small_map hexes index_of neighbour_of adjacent hex_at site_of border_of
most_is_30 pair =
    accepted_is_greatest small_map Pennsylvania (Two ∷ Two ∷ []) claim (bits_of_digits (codes "befb8")) (is_lawful pair)
    (record {
      claim_holds = holds;
      are_marks =
          (marks_are_read small_map Pennsylvania (Two ∷ Two ∷ []) both 30 (bits_of_digits (codes "befb8")) are_reached).1
          (record { filling = false ∷ false ∷ false ∷ []; left = refl; fill = (lit≤ tt, (refl, (refl, (refl, tt)))) });
    })
