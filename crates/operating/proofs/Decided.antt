-- Whether the rules of the board find a piece of track or a stop reached can be tested.
use Rattle.std.proofs.Common.{◌≡◌, Bool, true, false, ◌⊎◌, ◌↔◌, IsTrue, inl, inr, Option, Some, None, sym, ap, subst}
use Rattle.std.proofs.Common.{refl, ◌∙◌}
use Rattle.std.proofs.lemmas.Bool.{cases_eq}
use Rattle.board.specs.LayRules.{IsConnected}
use Rattle.board.specs.TokenRules.{IsReachedPlace}
use Rattle.legal_runs.proofs.RunDecided.{any_such}
use Rattle.map_tables.specs.Lay.{laid_links_of}
use Rattle.map_tables.specs.Place.{joined_stop_of, stop_at, stop_of_place}
use Rattle.map_tables.specs.contracts.track.LinkPartialEq.TheImpl.{ghosts as link_ghosts}
use Rattle.map_tables.specs.declared.lay.Lay.{Lay}
use Rattle.map_tables.specs.declared.place.Place.{Place}
use Rattle.map_tables.specs.declared.place.Stop.{Stop}
use Rattle.map_tables.specs.declared.place.StopNumber.{StopNumber}
use Rattle.map_tables.specs.declared.track.TrackEnd.TheVariants.{Stop as AtStop}
use Rattle.map_tables.specs.declared.track.Link.{Link}
use Rattle.operating.proofs.Found.{Search, any_number, found}
use Rattle.reach.proofs.Decided.{Decided, among_decided, both_decided, can_enter_decided, decided_by, either_decided}
use Rattle.reach.proofs.Decided.{mark_decided}
use Rattle.reach.proofs.Equal.{link_same, same_link}
use Rattle.reach.proofs.Reaching.{link_marked, link_reached, stop_marked, stop_reached}
use Rattle.reach.proofs.Spots.{same_order}
use Rattle.reach.specs.Lawful.{IsLawful}
use Rattle.reach.specs.Position.{IsAmong, Position, links_of}
use Rattle.reach.specs.Reached.{ReachesLink, ReachesStop, stop_order}
use Rattle.reach.specs.Search.{CanEnter, CanEnterEither, CanTake, IsMarked, IsMarkedStop}
use Rattle.reach.specs.Walk.{spot_at}
use Rattle.tables.specs.declared.roster.Company.{Company}

-- a test of what is decided
pub record IsTested (P : Type 0) : Type 0 where
  pub test : Bool
  pub exact : IsTrue test ↔ P

-- what is decided has a test
tested : (P : Type 0) → Decided P → IsTested P
tested P (inl is) = record { test = true; exact = (λ yes. is, λ yes. refl) }
tested P (inr off) = record { test = false; exact = (λ (yes : false ≡ true). cc, λ is. absurd (off is)) }

-- a stop is listed under its own name
own_name : (stop : Stop) → Decided (joined_stop_of stop ≡ stop)
own_name stop =
    elim (cases_eq (stop_order (joined_stop_of stop)) (stop_order stop)) [
      | inl same ↦ inl (same_order (joined_stop_of stop) stop same)
      | inr other ↦ inr (λ is. other (ap stop_order is))
    ]

module _ (position : Position) (company : Company) (lawful : IsLawful position) where
  -- the marks of what the company reaches
  all_marks : Search position company
  all_marks = found position company lawful

  -- a link is reached
  link_decided : (link : Link) → Decided (ReachesLink position company link)
  link_decided link =
      let all : Search position company = all_marks in
      decided_by (CanTake position company all.marks link) (ReachesLink position company link)
      (link_reached position company lawful all.marks all.arrive all.tokens all.closed link)
      (link_marked position company lawful all.marks all.arrive all.tokens all.closed link)
      (both_decided (IsAmong link (links_of position link.hex)) (CanEnterEither position company all.marks link)
      (among_decided link_ghosts.eq same_link link_same link (links_of position link.hex))
      (either_decided (CanEnter position company all.marks (spot_at link.hex link.a))
      (CanEnter position company all.marks (spot_at link.hex link.b))
      (can_enter_decided position company all.marks (spot_at link.hex link.a))
      (can_enter_decided position company all.marks (spot_at link.hex link.b))))

  -- a stop is reached
  stop_decided : (stop : Stop) → Decided (ReachesStop position company stop)
  stop_decided stop =
      let all : Search position company = all_marks in
      decided_by (IsMarkedStop all.marks stop) (ReachesStop position company stop)
      (stop_reached position company lawful all.marks all.arrive all.tokens all.closed stop)
      (stop_marked position company lawful all.marks all.arrive all.tokens all.closed stop)
      (both_decided (joined_stop_of stop ≡ stop) (IsMarked all.marks (spot_at stop.hex (AtStop stop.number)))
      (own_name stop)
      (mark_decided all.marks (spot_at stop.hex (AtStop stop.number))))

  -- a piece of a tile is reached
  pub piece_tested : (lay : Lay) → IsTested (IsConnected position company lay)
  piece_tested lay =
      let by_link : Type 0 = (link : Link) × IsAmong link (laid_links_of lay) × ReachesLink position company link in
      let by_stop : Type 0 = (number : StopNumber) × ReachesStop position company (stop_at lay.hex number) in
      tested (IsConnected position company lay)
      (decided_by (by_link ⊎ by_stop) (IsConnected position company lay) (λ piece. record { piece = piece })
      (λ connected. connected.piece)
      (either_decided by_link by_stop (any_such (ReachesLink position company) link_decided (laid_links_of lay))
      (any_number (λ number. ReachesStop position company (stop_at lay.hex number))
      (λ number. stop_decided (stop_at lay.hex number)))))

  -- the stop of a place is reached
  named_decided : (place : Place) (found : Option Stop) → stop_of_place place ≡ found
      → Decided (IsReachedPlace position company place)
  named_decided place None none = inr (λ reached. let wrong : None ≡ Some reached.stop =
      sym none ∙ reached.is in let no : ⊥ = cc in no)
  named_decided place (Some stop) is =
      decided_by (ReachesStop position company (joined_stop_of stop)) (IsReachedPlace position company place)
      (λ reached. record { stop = stop; is = is; reached = reached })
      (λ reached. let same : reached.stop ≡ stop = (let both : Some reached.stop ≡ Some stop =
      sym reached.is ∙ is in cc) in subst
      (λ (s : Stop). ReachesStop position company (joined_stop_of s)) same reached.reached)
      (stop_decided (joined_stop_of stop))

  -- so is that of a place
  pub place_tested : (place : Place) → IsTested (IsReachedPlace position company place)
  place_tested place = tested (IsReachedPlace position company place) (named_decided place (stop_of_place place) refl)
