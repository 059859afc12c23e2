-- It is known of each position whether a company can run a 2-train.
use Rattle.std.proofs.Common.{◌≡◌, ℕ, zero, suc, ◌<◌, ◌≤◌, Bool, true, false, not, inl, inr, if◌then◌else◌, Option}
use Rattle.std.proofs.Common.{Some, None, List, [], ◌∷◌, length, get_or, set, count_by, refl, ap, sym, ◌∙◌, subst}
use Rattle.std.proofs.Common.{arith}
use Rattle.std.proofs.lemmas.Bool.{cases_eq}
use Rattle.std.proofs.Common.{length-set}
use Rattle.map_tables.specs.Hex.{hexes, index_of}
use Rattle.map_tables.specs.Track.{end_order}
use Rattle.map_tables.specs.declared.hex.Hex.{Hex}
use Rattle.map_tables.specs.declared.hex.Hex.TheVariants.{A9}
use Rattle.map_tables.specs.declared.place.Stop.{Stop}
use Rattle.map_tables.specs.declared.track.TrackEnd.{TrackEnd}
use Rattle.map_tables.specs.declared.track.TrackEnd.TheVariants.{Side as AtSide, Stop as AtStop}
use Rattle.map_tables.specs.declared.track.Link.{Link}
use Rattle.reach.proofs.Collected.{hexes_more, lies_there, own_hex}
use Rattle.map_tables.proofs.HexTables.{hexes_at}
use Rattle.reach.proofs.Hexes.{index_low, same_index}
use Rattle.reach.proofs.Spots.{same_order}
use Rattle.reach.specs.Lawful.{IsLawful}
use Rattle.reach.specs.Position.{HasToken, IsAmong, Position, links_of}
use Rattle.reach.specs.Reached.{stop_order}
use Rattle.reach.specs.Walk.{IsTrack, across, entered_at, left_at, spot_at, stop_of}
use Rattle.reach.specs.declared.walk.Spot.{Spot}
use Rattle.reach.specs.declared.walk.WalkStep.{WalkStep}
use Rattle.reach.proofs.Decided.{Decided}
use Rattle.tables.specs.declared.roster.Company.{Company}
use Rattle.legal_runs.proofs.Fewer.{fewer_free}
use Rattle.legal_runs.proofs.TallyOfWalk.{border_low}
use Rattle.legal_runs.proofs.Named.{same_end}
use Rattle.legal_runs.proofs.Tests.{has_token_is}
use Rattle.legal_runs.proofs.TwoTrain.{leads_nowhere, leads_over, leads_over_none, leads_to_stop, over_leads}
use Rattle.legal_runs.proofs.TwoTrain.{run_begins, run_found}
use Rattle.legal_runs.specs.Fault.{has_token_at_stop}
use Rattle.legal_runs.specs.Legal.{border_of}
use Rattle.legal_runs.specs.TwoTrain.{CanRun, LeadsFrom, LeadsOn, LeavesToken, crossing, crossing_end, none_used}

-- whether two stops are one, and two spots
stops_decided : (a b : Stop) → Decided (a ≡ b)
stops_decided a b =
    elim (cases_eq (stop_order a) (stop_order b)) [
      | inl same ↦ inl (same_order a b same)
      | inr other ↦ inr (λ is. other (ap stop_order is))
    ]

spots_decided : (a b : Spot) → Decided (a ≡ b)
spots_decided a b =
    elim (cases_eq (index_of a.hex) (index_of b.hex)) [
      | inr other ↦ inr (λ is. other (ap (λ (s : Spot). index_of s.hex) is))
      | inl hex ↦
          elim (cases_eq (end_order a.end) (end_order b.end)) [
            | inr other ↦ inr (λ is. other (ap (λ (s : Spot). end_order s.end) is))
            | inl end ↦ inl (ap (λ (h : Hex). spot_at h a.end) (same_index a.hex b.hex hex)
                ∙ ap (λ (e : TrackEnd). spot_at b.hex e) (same_end a.end b.end end))
          ]
    ]

-- whether one of some things is such
pub any_such : {A : Type 0} (P : A → Type 0) → ((thing : A) → Decided (P thing)) → (things : List A)
    → Decided ((thing : A) × IsAmong thing things × P thing)
any_such P known [] = inr (λ found. found.1)
any_such P known (thing ∷ things) =
    elim (known thing) [
      | inl holds ↦ inl (thing, inl refl, holds)
      | inr fails ↦
          elim (any_such P known things) [
            | inl later ↦ inl (later.0, inr later.1, later.2)
            | inr none ↦ inr (λ found. elim found.1 [
              | inl here ↦ fails (subst P (sym here) found.2)
              | inr later ↦ none (found.0, later, found.2)
            ])
          ]
    ]

-- whether a step by a link is such
by_link : (P : WalkStep → Type 0) → ((step : WalkStep) → Decided (P step)) → (link : Link)
    → Decided ((turned : Bool) × P (record { link = link; turned = turned }))
by_link P known link =
    elim (known (record { link = link; turned = true })) [
      | inl holds ↦ inl (true, holds)
      | inr fails ↦
          elim (known (record { link = link; turned = false })) [
            | inl holds ↦ inl (false, holds)
            | inr also ↦ inr (λ found. neither found.0 found.1 fails also)
          ]
    ]
  where
    neither : (turned : Bool) → P (record { link = link; turned = turned })
        → (P (record { link = link; turned = true }) → ⊥) → (P (record { link = link; turned = false }) → ⊥) → ⊥
    neither true holds fails also = fails holds
    neither false holds fails also = also holds

-- whether a step by one of some links is such
by_links : (P : WalkStep → Type 0) → ((step : WalkStep) → Decided (P step)) → (links : List Link)
    → Decided ((step : WalkStep) × IsAmong step.link links × P step)
by_links P known links =
    elim (any_such (λ link. (turned : Bool) × P (record { link = link; turned = turned })) (by_link P known) links) [
      | inl found ↦ inl (record { link = found.0; turned = found.2.0 }, found.1, found.2.1)
      | inr none ↦ inr (λ found. none (found.0.link, found.1, (found.0.turned, found.2)))
    ]

-- once a border is crossed, fewer are free
crossed_fewer : (b : Bool) (marks crossed : List Bool) (border : ℕ) → border < length marks
    → get_or marks border false ≡ b → (if b then None else Some (set marks border true)) ≡ Some crossed
    → (count_by not crossed < count_by not marks) × (length crossed ≡ length marks)
crossed_fewer true marks crossed border low was is = absurd cc
crossed_fewer false marks crossed border low was is = grind (arith, length-set, fewer_free)

fewer_at : (marks crossed : List Bool) (hex : Hex) (end : TrackEnd) → length marks ≡ 279
    → crossing_end marks hex end ≡ Some crossed → (count_by not crossed < count_by not marks)
    × (length crossed ≡ length marks)
fewer_at marks crossed hex (AtSide side) whole is =
    crossed_fewer (get_or marks (border_of hex side) false) marks crossed (border_of hex side)
    (omega (arith, border_low hex side)) refl is
fewer_at marks crossed hex (AtStop number) whole is = absurd cc

module _ (position : Position) (start : Stop) where
  -- whether a step leads on over some marks
  abbrev Known : List Bool → WalkStep → Type 0
  Known marks step = Decided (LeadsOn position start marks step)

  module _ (marks : List Bool) (step : WalkStep) (whole : length marks ≡ 279)
      (deeper : (crossed : List Bool) (next : WalkStep) → length crossed ≡ 279 → count_by not crossed < count_by not marks
      → Known crossed next) where
    -- once it is known of the steps that may follow, it is known
    by_crossing : stop_of (left_at step) ≡ None → (there : Spot) → across (left_at step) ≡ Some there
        → (found : Option (List Bool)) → crossing marks there ≡ found → Known marks step
    by_crossing none there over None closed = inr (λ leads. leads_over_none position start marks step none there over
        closed leads)
    by_crossing none there over (Some crossed) crosses =
        let fewer = fewer_at marks crossed there.hex there.end whole crosses in
        let known : (next : WalkStep) → Decided (LeadsFrom position start crossed there next) = λ next.
        elim (spots_decided (entered_at next) there) [
          | inr other ↦ inr (λ leads. other leads.0)
          | inl here ↦
              elim (deeper crossed next (fewer.1 ∙ whole) fewer.0) [
                | inl leads ↦ inl (here, leads)
                | inr fails ↦ inr (λ leads. fails leads.1)
              ]
        ]
        in
        elim (by_links (LeadsFrom position start crossed there) known (links_of position there.hex)) [
          | inl found ↦ inl (over_leads position start marks step none there over crossed crosses found.0 found.1
              found.2.0 found.2.1)
          | inr fails ↦ inr (λ leads. let on = leads_over position start marks step none there over crossed crosses
              leads in fails (on.0, on.1, (on.2, on.3)))
        ]

    by_across : stop_of (left_at step) ≡ None → (found : Option Spot) → across (left_at step) ≡ found → Known marks step
    by_across none None over = inr (λ leads. leads_nowhere position start marks step none over leads)
    by_across none (Some there) over = by_crossing none there over (crossing marks there) refl

    by_stop : (found : Option Stop) → stop_of (left_at step) ≡ found → Known marks step
    by_stop None none = by_across none (across (left_at step)) refl
    by_stop (Some stop) is =
        elim (stops_decided stop start) [
          | inl same ↦ inr (λ leads. leads_to_stop position start marks step stop is leads same)
          | inr other ↦ inl ([], (stop, is, other))
        ]

  known_below : (most : ℕ) (marks : List Bool) (step : WalkStep) → length marks ≡ 279 → count_by not marks < most
      → Known marks step
  known_below zero marks step whole few = absurd (omega arith)
  known_below (suc most) marks step whole few =
      by_stop marks step whole (λ crossed next still fewer. known_below most crossed next still (omega arith))
      (stop_of (left_at step)) refl

none_whole : length none_used ≡ 279
none_whole = refl

module _ (position : Position) (lawful : IsLawful position) (company : Company) where
  -- whether a stop has a token of the company
  token_decided : (stop : Stop) → Decided (HasToken position stop company)
  token_decided stop = by_test (has_token_at_stop position company stop) refl
    where
      by_test : (b : Bool) → has_token_at_stop position company stop ≡ b → Decided (HasToken position stop company)
      by_test true is = inl ((has_token_is position company stop).0 is)
      by_test false is = inr (λ has. let wrong : true ≡ false =
          sym ((has_token_is position company stop).1 has) ∙ is in cc)

  -- whether a run begins with a step
  leaves_decided : (step : WalkStep) → Decided (LeavesToken position company step)
  leaves_decided step = by_stop (stop_of (entered_at step)) refl
    where
      by_stop : (found : Option Stop) → stop_of (entered_at step) ≡ found → Decided (LeavesToken position company step)
      by_stop None none = inr (λ leaves. let wrong : None ≡ Some leaves.0 = sym none ∙ leaves.1 in cc)
      by_stop (Some start) is =
          elim (token_decided start) [
            | inr none ↦ inr (λ leaves. none (subst (λ (s : Stop). HasToken position s company)
                (let both : Some leaves.0 ≡ Some start = sym leaves.1 ∙ is in let same : leaves.0 ≡ start =
                cc in same) leaves.2))
            | inl token ↦
                elim (known_below position start (suc (count_by not none_used)) none_used step none_whole
                (omega arith)) [
                  | inl leads ↦ inl (start, is, token, leads)
                  | inr fails ↦ inr (λ leaves. fails (subst (λ (s : Stop). LeadsOn position s none_used step)
                      (let both : Some leaves.0 ≡ Some start = sym leaves.1 ∙ is in let same : leaves.0 ≡ start =
                      cc in same) leaves.3))
                ]
          ]

  -- whether one begins with a step in the first hexes of the map
  abbrev Begins : ℕ → Type 0
  Begins count = (step : WalkStep) × (index_of step.link.hex < count) × IsTrack position step
      × LeavesToken position company step

  begins_decided : (count : ℕ) → count ≤ 93 → Decided (Begins count)
  begins_decided zero few = inr (λ found. let low : index_of found.0.link.hex < 0 = found.1 in omega arith)
  begins_decided (suc count) few =
      let hex : Hex = get_or hexes count A9 in
      let is : index_of hex ≡ count = hexes_at count A9 (omega arith) in
      elim (begins_decided count (omega arith)) [
        | inl earlier ↦ inl (
          earlier.0,
          (let low : index_of earlier.0.link.hex < count = earlier.1 in omega arith),
          earlier.2,
          earlier.3,
        )
        | inr none ↦
            elim (by_links (LeavesToken position company) leaves_decided (links_of position hex)) [
              | inl found ↦
                  let own : IsAmong found.0.link (links_of position found.0.link.hex) =
                  own_hex position lawful hex found.0.link found.1 in
                  let here : found.0.link.hex ≡ hex = lies_there hex (links_of position hex) found.0.link
                  (lawful.links hex).here found.1 in
                  inl (
                    found.0,
                    (let low : index_of found.0.link.hex ≡ count = ap index_of here ∙ is in omega arith),
                    own,
                    found.2,
                  )
              | inr fails ↦ inr (λ found.
                  elim (hexes_more position hex count is found.0.link
                  (let low : index_of found.0.link.hex < suc count = found.1 in omega arith) found.2) [
                    | inl before ↦ none (found.0, before, found.2, found.3)
                    | inr among ↦ fails (found.0, among, found.3)
                  ])
            ]
      ]

  -- whether there is a run
  pub can_run_decided : Decided (CanRun position company)
  can_run_decided =
      elim (begins_decided 93 (omega arith)) [
        | inl found ↦ inl (run_found position company found.0 found.2 found.3)
        | inr none ↦ inr (λ run. let first = run_begins position lawful company run in none
            (first.0, index_low first.0.link.hex, first.1, first.2))
      ]
