-- What a company reaches in a lawful position can be found out: links are followed from its tokens
-- until nothing is added.
use Rattle.std.proofs.Common.{◌≡◌, ℕ, zero, suc, ◌+◌, ◌<◌, ◌≤◌, Bool, true, false, ◌⊎◌, inl, inr, List, [], ◌∷◌}
use Rattle.std.proofs.Common.{length, get_or, set, replicate, refl, sym, subst, ◌∙◌, arith}
use Rattle.std.proofs.lemmas.Bool.{cases_eq, false_from_ne_true}
use Rattle.std.proofs.lemmas.List.{length-replicate, length-set}
use Rattle.std.proofs.lemmas.List.Sums.{count_by-le-length}
use Rattle.legal_runs.proofs.RunDecided.{any_such}
use Rattle.map_tables.proofs.HexTables.{hexes_at}
use Rattle.map_tables.specs.Hex.{hexes, index_of}
use Rattle.map_tables.specs.Place.{joined_stop_of, stop_at}
use Rattle.map_tables.specs.declared.hex.Hex.{Hex}
use Rattle.map_tables.specs.declared.hex.Hex.TheVariants.{A9}
use Rattle.map_tables.specs.declared.place.Stop.{Stop}
use Rattle.map_tables.specs.declared.place.StopNumber.{StopNumber}
use Rattle.map_tables.specs.declared.place.StopNumber.TheVariants.{First, Second}
use Rattle.map_tables.specs.declared.track.TrackEnd.{TrackEnd}
use Rattle.map_tables.specs.declared.track.TrackEnd.TheVariants.{Side as AtSide, Stop as AtStop}
use Rattle.map_tables.specs.declared.track.Link.{Link}
use Rattle.reach.proofs.Collected.{all_tokens, none_marked, own_hex, spot_of, token_arrives}
use Rattle.reach.proofs.Decided.{Decided, both_decided, can_enter_decided, either_decided, mark_decided, not_decided}
use Rattle.reach.proofs.Decided.{token_decided}
use Rattle.reach.proofs.Hexes.{index_low, same_index, side_low, stop_index_low}
use Rattle.reach.proofs.Marking.{one_more, spreads_followed}
use Rattle.reach.specs.Lawful.{IsLawful}
use Rattle.reach.specs.Position.{HasToken, IsAmong, Position, links_of}
use Rattle.reach.specs.Reached.{stop_order}
use Rattle.reach.specs.Search.{AllArrive, CanEnter, HasAllTokens, IsClosed, IsKept, IsMarked, IsMarking, marked}
use Rattle.reach.specs.Search.{number_at, spot_number}
use Rattle.reach.specs.Walk.{IsTrack, entered_at, left_at}
use Rattle.reach.specs.declared.walk.Spot.{Spot}
use Rattle.reach.specs.declared.walk.WalkStep.{WalkStep}
use Rattle.tables.specs.declared.roster.Company.{Company}

-- one of the numbers under another
any_under : (P : ℕ → Type 0) → ((n : ℕ) → Decided (P n)) → (count : ℕ) → Decided ((n : ℕ) × (n < count) × P n)
any_under P each zero = inr (λ any. let low = any.1 in omega arith)
any_under P each (suc count) =
    elim (each count) [
      | inl is ↦ inl (count, omega arith, is)
      | inr off ↦ elim (any_under P each count) [
        | inl before ↦ inl (before.0, (let low = before.1 in omega arith), before.2)
        | inr none ↦ inr (λ any. elim (cases_eq any.0 count) [
          | inl same ↦ off (subst P same any.2)
          | inr other ↦ none (any.0, (let low = any.1 in omega arith), any.2)
        ])
      ]
    ]

-- a hex of the map
any_hex : (P : Hex → Type 0) → ((hex : Hex) → Decided (P hex)) → Decided ((hex : Hex) × P hex)
any_hex P each =
    let here : ℕ → Type 0 = λ n. P (get_or hexes n A9) in
    elim (any_under here (λ n. each (get_or hexes n A9)) 93) [
      | inl found ↦ inl (get_or hexes found.0 A9, found.2)
      | inr none ↦ inr (λ any. none (
        index_of any.0,
        index_low any.0,
        subst P
            (sym (same_index (get_or hexes (index_of any.0) A9) any.0
            (hexes_at (index_of any.0) A9 (index_low any.0)))) any.1,
      ))
    ]

-- a stop of a hex
pub any_number : (P : StopNumber → Type 0) → ((number : StopNumber) → Decided (P number))
    → Decided ((number : StopNumber) × P number)
any_number P each =
    elim (each First) [
      | inl is ↦ inl (First, is)
      | inr off ↦ elim (each Second) [
        | inl is ↦ inl (Second, is)
        | inr neither ↦ inr (λ any. (elim any.0 as (λ (number : StopNumber). P number → ⊥)
            [ First ↦ off | Second ↦ neither ]) any.1)
      ]
    ]

-- each end of a hex has a number less than 744
number_low : (hex : Hex) (end : TrackEnd) → number_at hex end < 744
number_low hex (AtSide side) = omega (arith, index_low hex, side_low side)
number_low hex (AtStop number) =
    let joined = joined_stop_of (stop_at hex number) in omega
    (arith, index_low joined.hex, stop_index_low joined.number)

-- marks of all that walks of the company reach
pub record Search (position : Position) (company : Company) : Type 0 where
  pub marks : List Bool
  pub arrive : AllArrive position company marks
  pub tokens : HasAllTokens position company marks
  pub closed : IsClosed position company (IsTrack position) marks

-- more marks than these, and walks arrive at all of them
record Further (position : Position) (company : Company) (old : List Bool) : Type 0 where
  new : List Bool
  long : length new ≡ 744
  arrive : AllArrive position company new
  more : marked old < marked new

module _ (position : Position) (company : Company) (lawful : IsLawful position) where
  -- a stop with a token that is not marked
  abbrev IsNewToken : List Bool → Stop → Type 0
  IsNewToken marks stop = HasToken position (joined_stop_of stop) company × ¬ IsMarked marks (spot_of stop)

  new_token : (marks : List Bool) → Decided ((hex : Hex)
      × ((number : StopNumber) × IsNewToken marks (stop_at hex number)))
  new_token marks =
      any_hex (λ hex. (number : StopNumber) × IsNewToken marks (stop_at hex number))
      (λ hex. any_number (λ number. IsNewToken marks (stop_at hex number))
      (λ number. let stop = stop_at hex number in both_decided (HasToken position (joined_stop_of stop) company)
      (¬ IsMarked marks (spot_of stop))
      (token_decided position (joined_stop_of stop) company)
      (not_decided (IsMarked marks (spot_of stop)) (mark_decided marks (spot_of stop)))))

  -- a step from what is marked to what is not
  abbrev IsNewStep : List Bool → WalkStep → Type 0
  IsNewStep marks step = CanEnter position company marks (entered_at step) × ¬ IsMarked marks (left_at step)

  step_decided : (marks : List Bool) (step : WalkStep) → Decided (IsNewStep marks step)
  step_decided marks step =
      both_decided (CanEnter position company marks (entered_at step)) (¬ IsMarked marks (left_at step))
      (can_enter_decided position company marks (entered_at step))
      (not_decided (IsMarked marks (left_at step)) (mark_decided marks (left_at step)))

  -- along a link, one way or the other
  abbrev IsNewLink : List Bool → Link → Type 0
  IsNewLink marks link = IsNewStep marks (record { link = link; turned = false })
      ⊎ IsNewStep marks (record { link = link; turned = true })

  new_link : (marks : List Bool) → Decided ((hex : Hex)
      × ((link : Link) × IsAmong link (links_of position hex) × IsNewLink marks link))
  new_link marks =
      any_hex (λ hex. (link : Link) × IsAmong link (links_of position hex) × IsNewLink marks link)
      (λ hex. any_such (IsNewLink marks)
      (λ link. either_decided (IsNewStep marks (record { link = link; turned = false }))
      (IsNewStep marks (record { link = link; turned = true }))
      (step_decided marks (record { link = link; turned = false }))
      (step_decided marks (record { link = link; turned = true }))) (links_of position hex))

  -- a step of the one or the other way is one along its link
  either_way : (marks : List Bool) (link : Link) (turned : Bool)
      → IsNewStep marks (record { link = link; turned = turned }) → IsNewLink marks link
  either_way marks link true new = inr new
  either_way marks link false new = inl new

  -- a token is marked
  by_token : (old : List Bool) → length old ≡ 744 → AllArrive position company old → (stop : Stop)
      → IsNewToken old stop → Further position company old
  by_token old long arrive stop is =
      let number : ℕ = spot_number (spot_of stop) in
      record {
        new = set old number true;
        long = length-set old number true ∙ long;
        arrive = token_arrives position company old stop (stop_order stop) refl is.0 arrive (set old number true) refl;
        more = omega (
          arith,
          one_more old number (omega (arith, long, number_low stop.hex (AtStop stop.number)))
              (false_from_ne_true (get_or old number false) is.1),
        );
      }

  -- the end of a step is
  by_step : (old : List Bool) → length old ≡ 744 → AllArrive position company old → (step : WalkStep)
      → IsTrack position step → IsNewStep old step →
      Further position company old
  by_step old long arrive step track is =
      let number : ℕ = spot_number (left_at step) in
      let low : number < length old = omega (arith, long, number_low (left_at step).hex (left_at step).end) in
      let off = false_from_ne_true (get_or old number false) is.1 in
      let marking : IsMarking (left_at step) old [] (set old number true) (left_at step ∷ []) =
      record { low = low; marks = rw off refl; waits = rw off refl } in
      let any : Link → Type 0 = λ link. Unit {0} in
      let kept : IsKept step.link any any = record { here = tt; stay = λ other is. tt; only = λ other is. inl tt } in
      let spreads =
      spreads_followed position company lawful step track (entered_at step) old [] any (set old number true)
      (left_at step ∷ []) any is.0
      (record { entered = λ same. marking; link = λ same. kept; other = λ apart. absurd (apart refl) }) in
      record {
        new = set old number true;
        long = spreads.length_kept ∙ long;
        arrive = spreads.arrive arrive;
        more = omega (arith, one_more old number low off);
      }

  by_link : (old : List Bool) → length old ≡ 744 → AllArrive position company old → (link : Link)
      → IsAmong link (links_of position link.hex) →
      IsNewLink old link → Further position company old
  by_link old long arrive link track (inl forward) =
      by_step old long arrive (record { link = link; turned = false }) track forward
  by_link old long arrive link track (inr back) =
      by_step old long arrive (record { link = link; turned = true }) track back

  -- what is not new is marked
  known : (marks : List Bool) (spot : Spot) → ¬ (¬ IsMarked marks spot) → IsMarked marks spot
  known marks spot is = elim (mark_decided marks spot) [ inl here ↦ here | inr off ↦ absurd (is off) ]

  -- there are more marks, or all is found
  next : (old : List Bool) → length old ≡ 744 → AllArrive position company old
      → Further position company old ⊎ Search position company
  next old long arrive =
      elim (new_token old) [
        | inl token ↦ inl (by_token old long arrive (stop_at token.0 token.1.0) token.1.1)
        | inr no_token ↦ elim (new_link old) [
          | inl new ↦ inl (let link = new.1.0 in by_link old long arrive link
              (own_hex position lawful new.0 link new.1.1) new.1.2)
          | inr no_link ↦ inr (record {
            marks = old;
            arrive = arrive;
            tokens = all_tokens position company old 186 (omega arith)
                (λ stop low token. known old (spot_of stop) (λ off. no_token (stop.hex, (stop.number, (token, off)))));
            closed = λ step track can. known old (left_at step)
                (λ off. no_link (step.link.hex, (step.link, track, either_way old step.link step.turned (can, off))));
          })
        ]
      ]

  -- the search ends: each time there is more, and there are no more marks than spots
  until_nothing : (left : ℕ) (old : List Bool) → length old ≡ 744 → 744 ≤ marked old + left
      → AllArrive position company old → Search position company
  until_nothing zero old long few arrive =
      elim (next old long arrive) [
        | inl further ↦ absurd (omega (
          arith,
          further.more,
          further.long,
          count_by-le-length (λ mark. mark)
              further.new,
          few,
        ))
        | inr all ↦ all
      ]
  until_nothing (suc left) old long few arrive =
      elim (next old long arrive) [
        | inl further ↦ until_nothing left further.new further.long (omega (arith, further.more, few)) further.arrive
        | inr all ↦ all
      ]

  -- what the company reaches is found
  pub found : Search position company
  found =
      until_nothing 744 (replicate 744 false) (length-replicate 744 false) (omega arith)
      (λ spot is. let wrong : true ≡ false = sym is ∙ none_marked 744 (spot_number spot) in cc)
