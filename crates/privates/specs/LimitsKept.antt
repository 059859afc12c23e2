-- The limits of this round are at most 99,999: only an obeyed LIMIT line changes one.
use Rattle.std.proofs.Common.{◌≡◌, ◌⊎◌, inl, inr, ℕ, ◌≤◌, ◌==◌, Bool, true, false, if◌then◌else◌, List, [], ◌∷◌, ◌++◌}
use Rattle.std.proofs.Common.{Option, Some, None, option_map, refl, sym, subst, ◌∙◌}
use Rattle.events.specs.Event.{obeyed_of}
use Rattle.events.specs.Orders.{limit_in, said_by}
use Rattle.events.specs.declared.event.Event.{Event}
use Rattle.events.specs.declared.event.Event.TheVariants as event
use Rattle.events.specs.declared.ruling.Ruling.{Ruling}
use Rattle.events.specs.declared.ruling.Ruling.TheVariants.{Obeyed, Refused, Faulty}
use Rattle.totals.proofs.EventAtEnd.{now_said_before, now_said_here}
use Rattle.totals.specs.LookBack.{in_round}
use Rattle.totals.specs.Orders.{bid_limit_of}
use Rattle.order_grammar.specs.declared.order.Order.{Order}
use Rattle.order_grammar.specs.declared.order.Order.TheVariants as order
use Rattle.order_grammar.specs.declared.play.PlayOrder.TheVariants as play
use Rattle.turns.specs.Small.{IsSmallOrder, IsSmallRuling}
use Rattle.privates.specs.Underway.{LimitsAreSmall}
use Rattle.tables.specs.Roster.{same_private}
use Rattle.tables.specs.declared.roster.Private.{Private}
use Rattle.tables.specs.declared.round.Round.{Round}
use Rattle.tables.specs.declared.seat.Seat.{Seat}

-- what an event says of a seat's limit for a private
abbrev pub limit_said : Private → Seat → Event → Option (Option ℕ)
limit_said private seat event = in_round (λ e. said_by seat (limit_in private) (obeyed_of e)) event

-- an event that says nothing of limits leaves them small
pub limits_kept : (events : List Event) (event : Event)
    → ((private : Private) (seat : Seat) → limit_said private seat event ≡ None) → LimitsAreSmall events
    → LimitsAreSmall (events ++ event ∷ [])
limits_kept events event silent small =
    λ private seat amount said. small private seat amount
    (sym (now_said_before (limit_said private seat) events event (silent private seat)) ∙ said)

-- in a round that begins there are no limits
pub no_limits : (events : List Event) (round : Round) → LimitsAreSmall (events ++ event.Round round ∷ [])
no_limits events round =
    λ private seat amount said. let none : bid_limit_of (events ++ event.Round round ∷ []) private seat ≡ None =
    now_said_here (limit_said private seat) events (event.Round round) None refl in cc

-- a small limit that a test lets through
named_small : (b : Bool) (limit amount : ℕ) → limit ≤ 99999 → (if b then Some limit else None) ≡ Some amount
    → amount ≤ 99999
named_small true limit amount small said = let same : limit ≡ amount = cc in subst (λ (n : ℕ). n ≤ 99999) same small
named_small false limit amount small said = cc

-- the limit of a small order is small
limit_small : (private : Private) (its : Order) (amount : ℕ) → IsSmallOrder its → limit_in private its ≡ Some amount
    → amount ≤ 99999
limit_small private (order.Play (play.Limit other limit)) amount small said =
    named_small (same_private other private) limit amount small said
limit_small private other amount small said = cc

-- a limit after an order that was obeyed: what it says, if it is of the seat, or what was said
-- before
after_said : (private : Private) (seat : Seat) (events : List Event) (event : Event) (said : Option ℕ) (amount : ℕ)
    → limit_said private seat event ≡ option_map Some said
    → bid_limit_of (events ++ event ∷ []) private seat ≡ Some amount
    → (said ≡ Some amount) ⊎ (bid_limit_of events private seat ≡ Some amount)
after_said private seat events event None amount silent is =
    inr (sym (now_said_before (limit_said private seat) events event silent) ∙ is)
after_said private seat events event (Some said) amount speaks is =
    inl (sym (now_said_here (limit_said private seat) events event (Some said) speaks) ∙ is)

-- what an obeyed order says of a seat's limit is small
said_small : (b : Bool) (private : Private) (its : Order) (amount : ℕ) → IsSmallOrder its
    → (if b then limit_in private its else None) ≡ Some amount → amount ≤ 99999
said_small true private its amount small said = limit_small private its amount small said
said_small false private its amount small said = cc

-- the ruling of a small order leaves limits small
pub limits_ruled : (events : List Event) (seat : Seat) (line : ℕ) (ruling : Ruling) → IsSmallRuling ruling
    → LimitsAreSmall events → LimitsAreSmall (events ++ event.Ruled seat line ruling ∷ [])
limits_ruled events seat line (Obeyed condition its) small limits =
    λ private other amount is.
    elim (after_said private other events (event.Ruled seat line (Obeyed condition its))
    (if seat.0 == other.0 then limit_in private its else None) amount refl is) [
      | inl said ↦ said_small (seat.0 == other.0) private its amount small said
      | inr before ↦ limits private other amount before
    ]
limits_ruled events seat line (Refused rule condition its) small limits =
    limits_kept events (event.Ruled seat line (Refused rule condition its)) (λ private other. refl) limits
limits_ruled events seat line (Faulty fault) small limits =
    limits_kept events (event.Ruled seat line (Faulty fault)) (λ private other. refl) limits
