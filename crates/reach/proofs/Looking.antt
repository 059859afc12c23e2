-- Looking at a spot: the links by which a walk that has arrived there goes on, and what is left to
-- be looked at.
use Rattle.std.proofs.Common.{◌≡◌, ◌+◌, ◌*◌, true, false, Some, None, IfSome, ◌⊎◌, inl, inr, Bool, List, [], ◌∷◌, ◌++◌}
use Rattle.std.proofs.Common.{get_or, refl, ap, sym, ◌∙◌, subst}
use Rattle.map_tables.specs.Hex.{index_of}
use Rattle.map_tables.specs.Place.{joined_hex, joined_stop_of, stop_at, stop_index_of}
use Rattle.map_tables.specs.declared.hex.Hex.{Hex}
use Rattle.map_tables.specs.declared.hex.Hex.TheVariants.{A9, A11, I1, J2}
use Rattle.map_tables.specs.declared.place.Stop.{Stop}
use Rattle.map_tables.specs.declared.track.TrackEnd.{TrackEnd}
use Rattle.map_tables.specs.declared.track.TrackEnd.TheVariants.{Side as AtSide, Stop as AtStop}
use Rattle.map_tables.specs.declared.track.Link.{Link}
use Rattle.reach.specs.Lawful.{IsLawful}
use Rattle.reach.specs.Position.{Position, IsAmong, IsFull, links_of}
use Rattle.reach.specs.Search.{spot_number, twin_of, IsMarked, IsMarkedStop, IsEnteredAt, IsClosed, CanEnter}
use Rattle.reach.specs.Search.{CanEnterAt, CanTakeAll, AreTaken, GoesOnAt, LeadsTo, AreLookedAt, WasFollowed, Spreads}
use Rattle.reach.specs.Walk.{spot_at, stop_at_end, across_end, stop_of, across, entered_at, left_at, IsTrack}
use Rattle.reach.specs.declared.walk.Spot.{Spot}
use Rattle.reach.specs.declared.walk.WalkStep.{WalkStep}
use Rattle.reach.proofs.Marking.{waits_before, waits_cases}
use Rattle.reach.proofs.Spots.{are_one, stop_number, back}
use Rattle.tables.specs.declared.roster.Company.{Company}

-- the stop of a hex lies in the hex that names it, or in the other
twins : (hex : Hex) → (hex ≡ joined_hex hex) ⊎ (twin_of (joined_hex hex) ≡ Some hex)
twins A9 = inr refl
twins I1 = inr refl
twins hex = inl refl

-- the stop of the other hex is named by the hex
pub twin_joined : (hex twin : Hex) → twin_of hex ≡ Some twin → joined_hex twin ≡ hex
twin_joined J2 twin is = let same : I1 ≡ twin = cc in subst (λ h. joined_hex h ≡ J2) same refl
twin_joined A11 twin is = let same : A9 ≡ twin = cc in subst (λ h. joined_hex h ≡ A11) same refl
twin_joined hex twin is = cc

-- an end at a stop lies in one of the hexes of the stop
in_hexes : (stop : Stop) (hex : Hex) (end : TrackEnd) → stop_at_end hex end ≡ Some stop
    → (hex ≡ stop.hex) ⊎ (twin_of stop.hex ≡ Some hex)
in_hexes stop hex (AtSide side) is = cc
in_hexes stop hex (AtStop number) is =
    let same : joined_stop_of (stop_at hex number) ≡ stop = cc in
    let named : joined_hex hex ≡ stop.hex = ap (λ (s : Stop). s.hex) same in
    elim (twins hex) [
      | inl here ↦ inl (here ∙ named)
      | inr there ↦ inr (subst (λ h. twin_of h ≡ Some hex) named there)
    ]

-- a step is entered at a stop by any name of it
entered_there : (stop : Stop) (hex : Hex) → joined_hex hex ≡ stop.hex → (step : WalkStep)
    → stop_of (entered_at step) ≡ Some stop → IsEnteredAt (spot_at hex (AtStop stop.number)) step
entered_there stop hex joined step there =
    stop_number (entered_at step) stop there ∙ sym
    (stop_number (spot_at hex (AtStop stop.number)) stop (ap (λ h. Some (stop_at h stop.number)) joined))

-- the stop that names itself lies in its hex
pub own_hex_named : (stop : Stop) → joined_stop_of stop ≡ stop → joined_hex stop.hex ≡ stop.hex
own_hex_named stop named = ap (λ (s : Stop). s.hex) named

-- at a stop there is no border
no_border : (hex : Hex) (end : TrackEnd) (stop : Stop) → stop_at_end hex end ≡ Some stop → across_end hex end ≡ None
no_border hex (AtSide side) stop is = cc
no_border hex (AtStop number) stop is = refl

module _ (position : Position) (company : Company) where
  -- a stop that is marked and not full may be entered by any name of it
  pub stop_enters : (marks : List Bool) (stop : Stop) → IsMarkedStop marks stop → ¬ IsFull position stop company
      → (hex : Hex) → joined_hex hex ≡ stop.hex → CanEnter position company marks (spot_at hex (AtStop stop.number))
  stop_enters marks stop is free hex joined = (
    subst (λ n. get_or marks n false ≡ true)
        (ap (λ h. 8 * index_of h + (6 + stop_index_of stop.number)) (own_hex_named stop is.0 ∙ sym joined)) is.1,
    λ full. free (subst (λ s. IsFull position s company) (ap (λ h. stop_at h stop.number) joined) full),
  )

  -- where a walk goes on at a stop that lies in one hex, it takes a link of that
  pub goes_on_in : (stop : Stop) → joined_stop_of stop ≡ stop → twin_of stop.hex ≡ None → (step : WalkStep)
      → IsTrack position step → GoesOnAt position company stop (entered_at step)
      → IsAmong step.link (links_of position stop.hex) × IsEnteredAt (spot_at stop.hex (AtStop stop.number)) step
  goes_on_in stop named none step track on =
      elim (in_hexes stop (entered_at step).hex (entered_at step).end on.there) [
        | inl here ↦ (
          subst (λ h. IsAmong step.link (links_of position h)) here track,
          entered_there stop stop.hex
              (own_hex_named stop named) step on.there,
        )
        | inr twin ↦ absurd (let nowhere : None ≡ Some step.link.hex = sym none ∙ twin in cc)
      ]

  -- and at one that lies in two hexes, a link of one of them
  pub goes_on_in_both : (stop : Stop) → joined_stop_of stop ≡ stop → (twin : Hex) → twin_of stop.hex ≡ Some twin
      → (step : WalkStep) → IsTrack position step → GoesOnAt position company stop (entered_at step)
      → (IsAmong step.link (links_of position stop.hex) × IsEnteredAt (spot_at stop.hex (AtStop stop.number)) step)
      ⊎ (IsAmong step.link (links_of position twin) × IsEnteredAt (spot_at twin (AtStop stop.number)) step)
  goes_on_in_both stop named twin twin_is step track on =
      elim (in_hexes stop (entered_at step).hex (entered_at step).end on.there) [
        | inl here ↦ inl (
          subst (λ h. IsAmong step.link (links_of position h)) here track,
          entered_there stop stop.hex
              (own_hex_named stop named) step on.there,
        )
        | inr there ↦
            let same : step.link.hex ≡ twin = (let both : Some step.link.hex ≡ Some twin = sym there ∙ twin_is in cc) in
            inr (
              subst (λ h. IsAmong step.link (links_of position h)) same track,
              entered_there stop twin
                  (twin_joined stop.hex twin twin_is) step on.there,
            )
      ]

  -- a walk that has arrived at a stop goes on there
  pub goes_on_at : (from : Spot) (stop : Stop) → stop_of from ≡ Some stop → (at : Spot)
      → LeadsTo position company from at → GoesOnAt position company stop at
  goes_on_at from stop is at leads =
      let there : stop_of at ≡ Some stop =
      elim leads.joined [
        | inl both ↦ both.2 ∙ sym both.1 ∙ is
        | inr crosses ↦ absurd (let nowhere : None ≡ Some at =
            sym (no_border from.hex from.end stop is) ∙ crosses in cc)
      ]
      in record {
        there = there;
        may_pass = subst (λ o. IfSome o (λ s. ¬ IsFull position s company)) there leads.may_pass;
      }

  -- a walk that has arrived at a side goes on across it
  pub goes_across : (from at : Spot) → stop_of from ≡ None → across from ≡ Some at → (step : WalkStep)
      → IsTrack position step → LeadsTo position company from (entered_at step)
      → IsAmong step.link (links_of position at.hex) × IsEnteredAt at step
  goes_across from at side is step track leads =
      elim leads.joined [
        | inl both ↦ absurd (let nowhere : None ≡ Some both.0 = sym side ∙ both.1 in cc)
        | inr crosses ↦
            let same : entered_at step ≡ at = (let both : Some (entered_at step) ≡ Some at = sym crosses ∙ is in cc) in
            (subst (λ (s : Spot). IsAmong step.link (links_of position s.hex)) same track, ap (λ s. spot_number s) same)
      ]

  -- and nowhere where there is no border
  pub goes_nowhere : (from at : Spot) → stop_of from ≡ None → across from ≡ None → ¬ LeadsTo position company from at
  goes_nowhere from at side border leads =
      elim leads.joined [
        | inl both ↦ (let nowhere : None ≡ Some both.0 = sym side ∙ both.1 in cc)
        | inr crosses ↦ (let nowhere : None ≡ Some at = sym border ∙ crosses in cc)
      ]

  -- spots with one number lead to the same
  leads_same : (spot other at : Spot) → spot_number spot ≡ spot_number other → LeadsTo position company spot at
      → LeadsTo position company other at
  leads_same spot other at same leads =
      record {
        joined = elim leads.joined [
          | inl both ↦ inl (both.0, sym (are_one spot other same).0 ∙ both.1, both.2)
          | inr crosses ↦ inr (sym (are_one spot other same).1 ∙ crosses)
        ];
        may_pass = leads.may_pass;
      }

  -- once one that waited has been looked at
  pub looked_on : (rest : List Spot) (from : Spot) (old : List Bool) (first : Link → Type 0) (new : List Bool)
      (waiting : List Spot) (links : Link → Type 0) → AreLookedAt position company old (rest ++ from ∷ []) first
      → Spreads position company (λ taken. IsTrack position taken × LeadsTo position company from (entered_at taken))
      old rest first new waiting links → AreLookedAt position company new waiting links
  looked_on rest from old first new waiting links so_far spreads =
      record {
        known = λ spot waits. elim (spreads.known spot waits) [
          | inl before ↦ spreads.kept spot (so_far.known spot (waits_before rest from spot before))
          | inr is ↦ is
        ];
        looked = λ spot is. elim (spreads.fresh spot is) [
          | inr waits ↦ inl waits
          | inl was ↦ elim (so_far.looked spot was) [
            | inr done ↦ inr (λ step track leads.
                let followed = done step track leads in (
                  spreads.kept (left_at step) followed.0,
                  spreads.stay
                      step.link followed.1,
                ))
            | inl waits ↦ elim (waits_cases rest from spot waits) [
              | inl before ↦ inl (spreads.still spot before)
              | inr same ↦ inr (λ step track leads. spreads.followed step
                  (track, leads_same spot from (entered_at step) (sym same) leads))
            ]
          ]
        ];
      }

  -- where a link may be entered, a walk has arrived that leads there
  arrived_from : IsLawful position → (marks : List Bool) (hex : Hex) (end : TrackEnd)
      → CanEnterAt position company marks hex end → (from : Spot) × IsMarked marks from
      × LeadsTo position company from (spot_at hex end)
  arrived_from lawful marks hex (AtSide side) can = (
    can.0,
    can.2,
    record {
      joined = inr (back position lawful (spot_at hex (AtSide side)) can.0 can.1).0;
      may_pass = tt;
    },
  )
  arrived_from lawful marks hex (AtStop number) can = (
    spot_at hex (AtStop number),
    can.0,
    record {
      joined =
          inl (joined_stop_of (stop_at hex number), refl, refl);
      may_pass = can.1;
    },
  )

  -- once nothing waits, all steps that may be taken were followed
  all_followed : IsLawful position → (marks : List Bool) (links : Link → Type 0)
      → AreLookedAt position company marks [] links → (step : WalkStep) → IsTrack position step
      → CanEnter position company marks (entered_at step) → WasFollowed marks links step
  all_followed lawful marks links looked step track can =
      let came : (from : Spot) × IsMarked marks from × LeadsTo position company from (entered_at step) =
      arrived_from lawful marks (entered_at step).hex (entered_at step).end can in
      elim (looked.looked came.0 came.1) [
        | inl waits ↦ absurd waits
        | inr done ↦ done step track came.2
      ]

  -- so what is marked holds all walks
  pub all_looked_at : IsLawful position → (marks : List Bool) (links : Link → Type 0)
      → AreLookedAt position company marks [] links → IsClosed position company (IsTrack position) marks
  all_looked_at lawful marks links looked step track can = (all_followed lawful marks links looked step track can).0

  -- and the links that are kept are those that may be taken
  pub all_taken : IsLawful position → (marks : List Bool) (links : Link → Type 0)
      → AreLookedAt position company marks [] links → CanTakeAll position company marks links
      → AreTaken position company marks links
  all_taken lawful marks links looked taken link = (
    taken link,
    λ can. elim can.1 [
      | inl first ↦ (all_followed lawful marks links looked (record { link = link; turned = false }) can.0 first).1
      | inr second ↦ (all_followed lawful marks links looked (record { link = link; turned = true }) can.0 second).1
    ],
  )
