-- What the choices at a node are: steps that enter a link where the head is, and that pass a test.
use Rattle.std.proofs.Common.{◌≡◌, ℕ, ◌==◌, Bool, true, false, not, inl, inr, Option, Some, None, is_some}
use Rattle.std.proofs.Common.{option_map, if◌then◌else◌, List, [], ◌∷◌, refl, ap, sym, ◌∙◌, subst, arith}
use Rattle.std.proofs.lemmas.Bool.{and_from, and_parts, eq-eqb, eqb-true, not-true, ne_eqb}
use Rattle.map_tables.specs.Border.{neighbour_of}
use Rattle.map_tables.specs.Place.{joined_hex, joined_stop_of, stop_at}
use Rattle.map_tables.specs.Side.{facing_of}
use Rattle.map_tables.specs.Track.{end_order}
use Rattle.map_tables.specs.declared.hex.Hex.{Hex}
use Rattle.map_tables.specs.declared.hex.Hex.TheVariants.{A9, A11, I1, J2}
use Rattle.map_tables.specs.declared.place.Stop.{Stop}
use Rattle.map_tables.specs.declared.side.Side.{Side}
use Rattle.map_tables.specs.declared.track.TrackEnd.{TrackEnd}
use Rattle.map_tables.specs.declared.track.TrackEnd.TheVariants.{Side as AtSide, Stop as AtStop}
use Rattle.map_tables.specs.declared.track.Link.{Link}
use Rattle.reach.specs.Lawful.{IsLawful}
use Rattle.reach.specs.Position.{Position, IsAmong, links_of}
use Rattle.reach.specs.Walk.{IsTrack, across, entered_at, spot_at, stop_at_end, stop_of}
use Rattle.reach.specs.declared.walk.Spot.{Spot}
use Rattle.reach.specs.declared.walk.WalkStep.{WalkStep}
use Rattle.reach.proofs.Collected.{lies_there, own_hex}
use Rattle.legal_runs.specs.Fault.{has_border}
use Rattle.legal_runs.specs.Legal.{border_at, border_of}
use Rattle.certificate.specs.Tree.{Node, for_each, hexes_of, is_free_end, node_if, steps_at, steps_by, steps_from}
use Rattle.certificate.specs.Tree.{with_step, with_steps}
use Rattle.legal_runs.proofs.Borders.{faced}
use Rattle.legal_runs.proofs.Marks.{among_both, among_is}
use Rattle.legal_runs.proofs.Named.{same_end}
use Rattle.legal_runs.proofs.Written.{Ordered, ordered}
use Rattle.legal_runs.proofs.Tests.{to_not}

module _ {A B : Type 0} (make : A → List B) where
  pub among_for_each : (things : List A) (thing : A) (made : B) → IsAmong thing things → IsAmong made (make thing)
      → IsAmong made (for_each make things)
  among_for_each [] thing made among here = absurd among
  among_for_each (first ∷ things) thing made (inl is) here =
      (among_both made (make first) (for_each make things)).1
      (inl (subst (λ (a : A). IsAmong made (make a)) (sym is) here))
  among_for_each (first ∷ things) thing made (inr later) here =
      (among_both made (make first) (for_each make things)).1 (inr (among_for_each things thing made later here))

  pub for_each_among : (things : List A) (made : B) → IsAmong made (for_each make things)
      → (thing : A) × IsAmong thing things × IsAmong made (make thing)
  for_each_among [] made among = absurd among
  for_each_among (first ∷ things) made among =
      elim ((among_both made (make first) (for_each make things)).0 among) [
        | inl here ↦ (first, inl refl, here)
        | inr later ↦ let found = for_each_among things made later in (found.0, inr found.1, found.2)
      ]

pub node_if_among : (b : Bool) (node made : Node) → IsAmong made (node_if b node) → (b ≡ true) × (node ≡ made)
node_if_among true node made (inl is) = (refl, is)
node_if_among true node made (inr none) = absurd none
node_if_among false node made among = absurd among

pub among_node_if : (b : Bool) (node : Node) → b ≡ true → IsAmong node (node_if b node)
among_node_if true node is = inl refl
among_node_if false node is = absurd cc

module _ (test : WalkStep → Bool) (node : Node) (steps : List WalkStep) where
  pub with_steps_among :
      (made : Node) → IsAmong made (with_steps test node steps) →
      (step : WalkStep) × IsAmong step steps × (test step ≡ true) × (with_step node step ≡ made)
  with_steps_among made among =
      let found = for_each_among (λ (step : WalkStep). node_if (test step) (with_step node step)) steps made among in
      let parts = node_if_among (test found.0) (with_step node found.0) made found.2 in
      (found.0, found.1, parts.0, parts.1)

  pub among_with_steps : (step : WalkStep) → IsAmong step steps → test step ≡ true
      → IsAmong (with_step node step) (with_steps test node steps)
  among_with_steps step among passes =
      among_for_each (λ (step : WalkStep). node_if (test step) (with_step node step)) steps step (with_step node step)
      among (among_node_if (test step) (with_step node step) passes)

-- a step enters a link where it should
pub ways_are : (end : TrackEnd) (link : Link) (step : WalkStep) → IsAmong step (steps_by end link)
    → (step.link ≡ link) × ((entered_at step).end ≡ end)
ways_are end link step among =
    by_tests (end_order link.a == end_order end) (end_order link.b == end_order end) refl refl among
  where
    by_tests :
        (b c : Bool) → (end_order link.a == end_order end) ≡ b → (end_order link.b == end_order end) ≡ c →
        IsAmong step (if b then record { link = link; turned = false }
        ∷ [] else (if c then record { link = link; turned = true } ∷ [] else [])) →
        (step.link ≡ link) × ((entered_at step).end ≡ end)
    by_tests true c is also (inl here) = (
      ap (λ (s : WalkStep). s.link) (sym here),
      ap (λ (s : WalkStep). (entered_at s).end) (sym here)
          ∙ same_end link.a end (eqb-true (end_order link.a) (end_order end) is),
    )
    by_tests true c is also (inr none) = absurd none
    by_tests false true is also (inl here) = (
      ap (λ (s : WalkStep). s.link) (sym here),
      ap (λ (s : WalkStep). (entered_at s).end) (sym here)
          ∙ same_end link.b end (eqb-true (end_order link.b) (end_order end) also),
    )
    by_tests false true is also (inr none) = absurd none
    by_tests false false is also among = absurd among

way_itself :
    (link : Link) (turned : Bool) → Ordered link →
    IsAmong (let step : WalkStep = record { link = link; turned = turned } in step)
    (steps_by (if turned then link.b else link.a) link)
way_itself link false facts =
    subst (λ (b : Bool). IsAmong (let step : WalkStep = record { link = link; turned = false } in step)
    (if b then record { link = link; turned = false }
    ∷ [] else (if end_order link.b == end_order link.a then record { link = link; turned = true } ∷ [] else [])))
    (sym (eq-eqb (end_order link.a) (end_order link.a) refl)) (inl refl)
way_itself link true facts =
    let step : WalkStep = record { link = link; turned = true } in
    let other : WalkStep = record { link = link; turned = false } in
    let differ : (end_order link.a == end_order link.b) ≡ false =
    ne_eqb (end_order link.a) (end_order link.b) (λ same. omega (arith, facts.rising, same)) in
    subst (λ (b : Bool). IsAmong step (if b then other
    ∷ [] else (if end_order link.b == end_order link.b then step ∷ [] else []))) (sym differ)
    (subst (λ (b : Bool). IsAmong step (if b then step ∷ [] else []))
    (sym (eq-eqb (end_order link.b) (end_order link.b) refl)) (inl refl))

alone : (hex part : Hex) → joined_hex hex ≡ hex → IsAmong part (hex ∷ []) → joined_hex part ≡ hex
alone hex part names (inl is) = ap joined_hex (sym is) ∙ names
alone hex part names (inr none) = absurd none

-- the hexes of a stop are those whose stops it names
pub named_hex : (hex part : Hex) → joined_hex hex ≡ hex → IsAmong part (hexes_of hex) → joined_hex part ≡ hex
named_hex J2 part names (inl is) = ap joined_hex (sym is)
named_hex J2 part names (inr (inl is)) = ap joined_hex (sym is)
named_hex J2 part names (inr (inr none)) = absurd none
named_hex A11 part names (inl is) = ap joined_hex (sym is)
named_hex A11 part names (inr (inl is)) = ap joined_hex (sym is)
named_hex A11 part names (inr (inr none)) = absurd none
named_hex hex part names among = alone hex part names among

pub among_its_hexes : (hex : Hex) → IsAmong hex (hexes_of (joined_hex hex))
among_its_hexes I1 = inl refl
among_its_hexes J2 = inr (inl refl)
among_its_hexes A9 = inl refl
among_its_hexes A11 = inr (inl refl)
among_its_hexes hex = inl refl

-- a border of a hex that was not crossed
pub record LeadsOver (borders : List ℕ) (hex : Hex) (end : TrackEnd) : Type 0 where
  pub side : Side
  pub next : Hex
  pub at_side : end ≡ AtSide side
  pub beside : neighbour_of hex side ≡ Some next
  pub free : ¬ IsAmong (border_of hex side) borders

there_is : {A : Type 0} (found : Option A) → is_some found ≡ true → (thing : A) × (found ≡ Some thing)
there_is None is = absurd cc
there_is (Some thing) is = (thing, refl)

pub leads_over : (borders : List ℕ) (hex : Hex) (end : TrackEnd) → is_free_end borders hex end ≡ true
    → LeadsOver borders hex end
leads_over borders hex (AtSide side) is =
    let parts : (is_some (neighbour_of hex side) ≡ true) × (not (has_border (border_of hex side) borders) ≡ true) =
    and_parts (is_some (neighbour_of hex side)) (not (has_border (border_of hex side) borders)) is in
    let other : (next : Hex) × (neighbour_of hex side ≡ Some next) = there_is (neighbour_of hex side) parts.0 in
    record {
      side = side;
      next = other.0;
      at_side = refl;
      beside = other.1;
      free = λ among.
          let wrong : has_border (border_of hex side) borders ≡ true =
          (among_is (border_of hex side) borders).1 among in
          let none : has_border (border_of hex side) borders ≡ false =
          not-true (has_border (border_of hex side) borders) parts.1 in
          let clash : false ≡ true = sym none ∙ wrong in absurd cc;
    }
leads_over borders hex (AtStop number) is = absurd cc

pub over_leads : (borders : List ℕ) (hex : Hex) (end : TrackEnd) → LeadsOver borders hex end
    → is_free_end borders hex end ≡ true
over_leads borders hex end over =
    subst (λ (e : TrackEnd). is_free_end borders hex e ≡ true) (sym over.at_side)
    (and_from (is_some (neighbour_of hex over.side)) (not (has_border (border_of hex over.side) borders))
    (ap is_some over.beside)
    (to_not (has_border (border_of hex over.side) borders)
    (λ has. over.free ((among_is (border_of hex over.side) borders).0 has))))

-- a border is that of both its sides
pub border_both :
    (position : Position) → IsLawful position → (hex : Hex) (end : TrackEnd) (spot : Spot)
    → across (spot_at hex end) ≡ Some spot →
    border_at hex end ≡ border_at spot.hex spot.end
border_both position lawful hex (AtStop number) spot is = absurd cc
border_both position lawful hex (AtSide side) spot is = by_next (neighbour_of hex side) refl is
  where
    by_next :
        (found : Option Hex) → neighbour_of hex side ≡ found
        → option_map (λ other. spot_at other (AtSide (facing_of side))) found ≡ Some spot →
        border_of hex side ∷ [] ≡ border_at spot.hex spot.end
    by_next None beside is = absurd cc
    by_next (Some next) beside is =
        let there : spot_at next (AtSide (facing_of side)) ≡ spot = cc in
        ap (λ n. n ∷ []) (faced hex next side beside (lawful.borders_pair hex side next beside))
        ∙ ap (λ (s : Spot). border_at s.hex s.end) there

module _ (position : Position) (lawful : IsLawful position) where
  -- a step that enters a link at an end in a hex
  pub record IsWay (hex : Hex) (end : TrackEnd) (step : WalkStep) : Type 0 where
    pub track : IsTrack position step
    pub enters : entered_at step ≡ spot_at hex end

  pub step_is : (hex : Hex) (end : TrackEnd) (step : WalkStep) → IsAmong step (steps_at position hex end) → IsWay hex end step
  step_is hex end step among =
      let found = for_each_among (steps_by end) (links_of position hex) step among in
      let is = ways_are end found.0 step found.2 in
      let lies : found.0.hex ≡ hex = lies_there hex (links_of position hex) found.0 (lawful.links hex).here found.1 in
      record {
        track = subst (λ (l : Link). IsAmong l (links_of position l.hex)) (sym is.0)
            (own_hex position lawful hex found.0 found.1);
        enters = ap (λ (h : Hex). spot_at h (entered_at step).end) (ap (λ (l : Link). l.hex) is.0 ∙ lies)
            ∙ ap (spot_at hex) is.1;
      }

  pub step_there : (step : WalkStep) → IsTrack position step
      → IsAmong step (steps_at position step.link.hex (entered_at step).end)
  step_there step track =
      among_for_each (steps_by (entered_at step).end) (links_of position step.link.hex) step.link step track
      (way_itself step.link step.turned (ordered position lawful step track))

  -- a step that leaves a stop
  pub record Leaves (stop : Stop) (step : WalkStep) : Type 0 where
    pub track : IsTrack position step
    pub from_stop : stop_of (entered_at step) ≡ Some stop

  pub leaves_stop : (stop : Stop) → joined_stop_of stop ≡ stop → (step : WalkStep)
      → IsAmong step (steps_from position stop) → Leaves stop step
  leaves_stop stop names step among =
      let found = for_each_among (λ (hex : Hex). steps_at position hex (AtStop stop.number)) (hexes_of stop.hex) step
      among in
      let way : IsWay found.0 (AtStop stop.number) step = step_is found.0 (AtStop stop.number) step found.2 in
      record {
        track = way.track;
        from_stop = ap stop_of way.enters ∙ ap (λ (h : Hex). Some (stop_at h stop.number))
            (named_hex stop.hex found.0 (ap (λ (s : Stop). s.hex) names) found.1);
      }

  by_its_end :
      (stop : Stop) (step : WalkStep) → IsTrack position step → (end : TrackEnd) → (entered_at step).end ≡ end
      → stop_at_end step.link.hex end ≡ Some stop →
      IsAmong step (steps_from position stop)
  by_its_end stop step track (AtSide side) enters is = absurd cc
  by_its_end stop step track (AtStop number) enters is =
      let named : stop_at (joined_hex step.link.hex) number ≡ stop = cc in
      subst (λ (s : Stop). IsAmong step (steps_from position s)) named
      (among_for_each (λ (hex : Hex). steps_at position hex (AtStop number)) (hexes_of (joined_hex step.link.hex))
      step.link.hex step (among_its_hexes step.link.hex)
      (subst (λ (e : TrackEnd). IsAmong step (steps_at position step.link.hex e)) enters (step_there step track)))

  pub stop_left : (stop : Stop) (step : WalkStep) → IsTrack position step → stop_of (entered_at step) ≡ Some stop
      → IsAmong step (steps_from position stop)
  stop_left stop step track is = by_its_end stop step track (entered_at step).end refl is
