-- Before the first company of an operating round, and after its last, the new events are still, and
-- so stand aside.
use Rattle.std.proofs.Common.{◌≡◌, ℕ, ◌==◌, ◌||◌, not, Bool, true, List, [], ◌∷◌, ◌++◌, Some, refl}
use Rattle.std.proofs.Common.{arith}
use Rattle.std.specs.List.{list_all, range_with_len}
use Rattle.events.specs.declared.event.Event.{Event}
use Rattle.events.specs.declared.event.Event.TheVariants as event
use Rattle.events.specs.declared.ruling.PrivateRule.TheVariants as private_rule
use Rattle.events.specs.declared.ruling.Refusal.{Refusal}
use Rattle.events.specs.declared.ruling.Refusal.TheVariants as refusal
use Rattle.events.specs.declared.ruling.TrainRule.TheVariants as train_rule
use Rattle.totals.specs.LookBack.{Game, is_owner, owner_of}
use Rattle.totals.specs.Shares.{president_of}
use Rattle.order_grammar.specs.declared.order.Offer.{Offer}
use Rattle.order_grammar.specs.declared.order.Offer.TheVariants as offer
use Rattle.order_grammar.specs.declared.order.Order.{Order}
use Rattle.order_grammar.specs.declared.order.Order.TheVariants as order
use Rattle.order_grammar.specs.declared.play.PlayOrder.TheVariants as play
use Rattle.purchases.specs.Discard.{discard_judgement, is_president}
use Rattle.purchases.specs.Offer.{offer_judgement}
use Rattle.purchases.specs.Standing.{after_all_standing_lines, after_operating_standing_line}
use Rattle.purchases.specs.Standing.{has_place_before_companies, operating_standing_judgement}
use Rattle.purchases.specs.Standing.{operating_standing_ruling}
use Rattle.rounds.proofs.Growing.{◌⨾◌, Grows, GrowsPlainly, GrowsStill, and_plain, by_one_event}
use Rattle.rounds.proofs.Growing.{count_aside, is_still}
use Rattle.rounds.proofs.Growing.{passes_plain, passes_test, revenues_grow, stays, still_is_aside}
use Rattle.rounds.proofs.PlainRounds.{GrowsPlain, IsOfFamily, SheetsArePlain, of_mapped}
use Rattle.rounds.proofs.PlainRounds.{recorded_plain, ruling_plain}
use Rattle.rounds.proofs.PlainRounds.{standing_plain}
use Rattle.rounds.specs.OperatingRound.{left_events, lines_left, operating_round_finished, operating_round_opened}
use Rattle.sheets.specs.Part.{Numbered, parts_for}
use Rattle.sheets.specs.Taken.{after_all_before, after_each, after_lines_before}
use Rattle.tables.specs.Roster.{privates}
use Rattle.tables.specs.Rules.{Rule, first_broken}
use Rattle.tables.specs.Seat.{seat_at}
use Rattle.tables.specs.declared.round.Round.{Round}
use Rattle.tables.specs.declared.seat.Seat.{Seat}

-- by standing lines
standing_lines_grow : (seat : Seat) (events : List Event) (lines : List Numbered) →
    GrowsStill events (after_each (after_operating_standing_line seat) events lines)
standing_lines_grow seat events [] = stays
standing_lines_grow seat events (line ∷ lines) =
    by_one_event events (event.Ruled seat line.number (operating_standing_ruling events seat line)) refl
    ⨾ standing_lines_grow seat (after_operating_standing_line seat events line) lines

-- by those of each seat
standing_grows : (file : List ℕ) (round : Round) (events : List Event) (seats : List ℕ) →
    GrowsStill events (after_all_before after_operating_standing_line file round events seats)
standing_grows file round events [] = stays
standing_grows file round events (seat ∷ seats) =
    standing_lines_grow (seat_at seat) events (parts_for file round seat).before
    ⨾ standing_grows file round (after_lines_before after_operating_standing_line file round events seat)
    seats

-- by those and the revenues
pub opened_still : (file : List ℕ) (round : Round) (old : Game) →
    GrowsStill (old.events ++ event.Round round ∷ []) (operating_round_opened file round old).events
opened_still file round old =
    let begun : List Event = old.events ++ event.Round round ∷ [] in
    let ruled : List Event = after_all_standing_lines old.seats file round begun in
    standing_grows file round begun (range_with_len 0 old.seats)
    ⨾ passes_test is_still (revenues_grow old.seats ruled privates)

-- the counts of lines that were left are still and plain
left_aside : (file : List ℕ) (round : Round) (events : List Event) (seats : List ℕ) →
    list_all (and_plain is_still) (left_events file round events seats) ≡ true
left_aside file round events [] = refl
left_aside file round events (seat ∷ seats) =
    let count : ℕ = lines_left file round events (seat_at seat) in
    count_aside (seat_at seat) count (count == 0) (left_events file round events seats)
    (left_aside file round events seats)

-- by those counts
finished_grows : (file : List ℕ) (round : Round) (seats : ℕ) (events : List Event) →
    GrowsPlainly is_still events (operating_round_finished file round seats events)
finished_grows file round seats events =
    record { more = _; longer = refl; aside = left_aside file round events (range_with_len 0 seats) }

-- so it is still
pub finished_still : (file : List ℕ) (round : Round) (seats : ℕ) (events : List Event) →
    GrowsStill events (operating_round_finished file round seats events)
finished_still file round seats events = passes_test is_still (finished_grows file round seats
    events)

-- those events stand aside
pub opened_grows : (file : List ℕ) (round : Round) (old : Game) →
    Grows (old.events ++ event.Round round ∷ []) (operating_round_opened file round old).events
opened_grows file round old = still_is_aside (opened_still file round old)

-- an offer is refused by its rule, or not
abbrev one_rule : Refusal → Bool → List (Rule Refusal)
one_rule code broken = record { code = code; broken = broken } ∷ []

offered_of_family : (code : Refusal) (broken : Bool) → IsOfFamily (Some code)
    → IsOfFamily (first_broken (one_rule code broken))
offered_of_family code broken of = grind arith

offer_of_family : (events : List Event) (seat : Seat) (sale : Offer) → IsOfFamily (offer_judgement events seat sale)
offer_of_family events seat (offer.Train kind seller buyer price) =
    offered_of_family (refusal.Train train_rule.NoConsent)
    (price == 0 || not (is_president (president_of events seller) seat)) tt
offer_of_family events seat (offer.Private private buyer price) =
    offered_of_family (refusal.Private private_rule.NoConsent) (not (is_owner seat (owner_of events private))) tt

-- so are standing lines
standing_of_family : (events : List Event) (seat : Seat) (its : Order) → IsOfFamily (operating_standing_judgement events seat its)
standing_of_family events seat (order.Play (play.Discard company kind)) =
    of_mapped refusal.Train (λ rule. tt) (discard_judgement events seat company kind)
standing_of_family events seat (order.Play (play.Offer sale)) = offer_of_family events seat sale
standing_of_family events seat other = tt

-- where no sheet has a condition, the events before the first company are plain
pub opened_adds : (file : List ℕ) (round : Round) (old : Game) → SheetsArePlain file round →
    GrowsPlain (old.events ++ event.Round round ∷ []) (operating_round_opened file round old).events
opened_adds file round old sheets =
    let begun : List Event = old.events ++ event.Round round ∷ [] in
    let ruled : List Event = after_all_standing_lines old.seats file round begun in
    standing_plain after_operating_standing_line
    (λ seat events line plain. recorded_plain seat line.number (operating_standing_ruling events seat line) events
    (ruling_plain has_place_before_companies (operating_standing_judgement events seat) events line plain (standing_of_family events seat)))
    file round sheets begun (range_with_len 0 old.seats)
    ⨾ passes_plain is_still (revenues_grow old.seats ruled privates)

-- and those after its last
pub finished_adds : (file : List ℕ) (round : Round) (seats : ℕ) (events : List Event) →
    GrowsPlain events (operating_round_finished file round seats events)
finished_adds file round seats events = passes_plain is_still (finished_grows file round seats
    events)
