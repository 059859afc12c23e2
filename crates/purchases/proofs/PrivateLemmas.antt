-- The purchase of a private that breaks no rule. The company can pay for it, so the game can be
-- played on once it is made. The rules say the same after the ruling of the line.
use Rattle.std.proofs.Common.{◌≡◌, ℕ, ◌+◌, ◌≤◌, ◌==◌, ◌||◌, Bool, true, false, nat_lt, if◌then◌else◌, List, []}
use Rattle.std.proofs.Common.{◌∷◌, ◌++◌, Option, Some, None, is_some, unwrap_or, pos, ◌≤ℤ◌, refl, ap, ◌∙◌}
use Rattle.std.proofs.Common.{arith}
use Rattle.std.proofs.lemmas.Bool.Decides.{nat_tests}
use Rattle.std.specs.Option.{option_flatten, option_map}
use Rattle.events.specs.Event.{obeyed_of, ownership_of, party_of_company, phase_set}
use Rattle.events.specs.RuleCodes.{code_of_private_rule}
use Rattle.events.specs.Offers.{offered_in}
use Rattle.events.specs.Orders.{said_by}
use Rattle.events.specs.declared.event.Event.{Event}
use Rattle.events.specs.declared.event.Event.TheVariants.{Ruled}
use Rattle.events.specs.declared.event.Holder.{Holder}
use Rattle.events.specs.declared.event.Holder.TheVariants as holder
use Rattle.events.specs.declared.ruling.PrivateRule.TheVariants as rule
use Rattle.events.specs.declared.ruling.Ruling.TheVariants.{Obeyed}
use Rattle.totals.proofs.EventAtEnd.{cash_of_before, last_said_before, president_of_before}
use Rattle.totals.specs.LookBack.{Game, cash_of, in_round, owner_of, owner_said, with_event}
use Rattle.totals.specs.Shares.{president_of}
use Rattle.totals.specs.Trains.{phase_of}
use Rattle.purchases.proofs.TrainLemmas.{not_less}
use Rattle.purchases.specs.Private.{is_given, owner_agrees, private_judgement, private_rules}
use Rattle.order_grammar.specs.declared.order.Offer.{Offer}
use Rattle.order_grammar.specs.declared.order.Offer.TheVariants as offer
use Rattle.order_grammar.specs.declared.order.Order.TheVariants.{Play}
use Rattle.order_grammar.specs.declared.play.PlayOrder.TheVariants.{BuyOwnedPrivate}
use Rattle.sheets.specs.Part.{Numbered}
use Rattle.tables.proofs.Rules.{not_broken}
use Rattle.tables.specs.Roster.{face_of}
use Rattle.tables.specs.Rules.{first_broken}
use Rattle.tables.specs.declared.rolling_stock.Kind.{Kind}
use Rattle.tables.specs.declared.rolling_stock.Kind.TheVariants.{Two}
use Rattle.tables.specs.declared.roster.Company.{Company}
use Rattle.tables.specs.declared.roster.Private.{Private}
use Rattle.tables.specs.declared.roster.Private.TheVariants.{SchuylkillValley, ChamplainStLawrence, DelawareHudson}
use Rattle.tables.specs.declared.roster.Private.TheVariants.{MohawkHudson, CamdenAmboy, BaltimoreOhio}
use Rattle.tables.specs.declared.seat.Seat.{Seat}

-- twice a face value is small
face_small : (private : Private) → face_of private ≤ 220
face_small SchuylkillValley = omega arith
face_small ChamplainStLawrence = omega arith
face_small DelawareHudson = omega arith
face_small MohawkHudson = omega arith
face_small CamdenAmboy = omega arith
face_small BaltimoreOhio = omega arith

-- what is not over this many is as small
no_more : (few many : Bool) (face price : ℕ) → nat_lt (face + face) price ≡ many → (few || many) ≡ false
    → price ≤ face + face
no_more true many face price is kept = absurd (cc)
no_more false many face price is kept = grind (arith, nat_tests, is, kept)

-- a purchase that breaks no rule
pub record MaySell (game : Game) (company : Company) (price : ℕ) : Type 0 where
  pub small : price ≤ 440
  pub pays : pos price ≤ℤ cash_of game.seats game.events (party_of_company company)

pub may_sell : (game : Game) (company : Company) (private : Private) (price : ℕ)
    → private_judgement game company private price ≡ None → MaySell game company price
may_sell game company private price none =
    let kept = not_broken code_of_private_rule (private_rules game company private price) none in
    let most = no_more (nat_lt (price + price) (face_of private)) (nat_lt (face_of private + face_of private) price)
    (face_of private) price refl (kept rule.WrongPrice) in
    record {
      small = omega (arith, most, face_small private);
      pays = not_less (cash_of game.seats game.events (party_of_company company)) (pos price)
          (kept rule.CashTooSmall);
    }

module _ (events : List Event) (seat : Seat) (line : Numbered) (private : Private) (price : ℕ) where
  -- the ruling of a line PRIVATE that is obeyed
  abbrev obeyed : Event
  obeyed = Ruled seat line.number (Obeyed line.condition (Play (BuyOwnedPrivate private price)))

  -- it offers nothing
  offers_none : (giver : Seat) (sale : Offer) → in_round (λ its. said_by giver (offered_in sale) (obeyed_of its))
      obeyed ≡ None
  offers_none giver sale =
      elim (seat.0 == giver.0) as (λ (b : Bool). option_map {T = Offer} Some (if b then None else None) ≡ None) [
        | true ↦ refl
        | false ↦ refl
      ]

  -- so the same consent
  same_given : (owner : Option Holder) (taker : Option Seat) (sale : Offer) →
      owner_agrees (events ++ obeyed ∷ []) owner taker sale ≡ owner_agrees events owner taker sale
  same_given (Some (holder.Seat giver)) (Some taker) sale =
      ap (λ (said : Option (Option Offer)). giver.0 == taker.0 || is_some (option_flatten said))
      (last_said_before (in_round (λ its. said_by giver (offered_in sale) (obeyed_of its))) (events ++ obeyed ∷ [])
      events obeyed refl (offers_none giver sale))
  same_given (Some (holder.Seat giver)) None sale = refl
  same_given (Some (holder.Company owner)) taker sale = refl
  same_given None taker sale = refl

  -- the same owns it
  same_owner : owner_of (events ++ obeyed ∷ []) private ≡ owner_of events private
  same_owner =
      ap option_flatten (last_said_before (λ its. owner_said private (ownership_of its)) (events ++ obeyed ∷ [])
      events obeyed refl refl)

  -- so the same is given
  same_sale : (company : Company) → is_given (events ++ obeyed ∷ []) company private price
      ≡ is_given events company private price
  same_sale company =
      let sale : Offer = offer.Private private company price in
      let after = events ++ obeyed ∷ [] in
      same_given (owner_of after private) (president_of after company) sale
      ∙ ap (λ (owner : Option Holder). owner_agrees events owner (president_of after company) sale) same_owner
      ∙ ap (λ (taker : Option Seat). owner_agrees events (owner_of events private) taker sale)
      (president_of_before events obeyed company refl)

  -- the phase is the same
  same_phase : phase_of (events ++ obeyed ∷ []) ≡ phase_of events
  same_phase =
      ap (λ (said : Option Kind). unwrap_or said Two)
      (last_said_before phase_set (events ++ obeyed ∷ []) events obeyed refl refl)

-- the rules say the same
pub same_after_line : (game ruled : Game) (seat : Seat) (line : Numbered) (company : Company) (private : Private)
    (price : ℕ) →
    ruled ≡ with_event game (Ruled seat line.number (Obeyed line.condition (Play (BuyOwnedPrivate private price)))) →
    private_judgement ruled company private price ≡ private_judgement game company private price
same_after_line game ruled seat line company private price is =
    let events = game.events in
    let its : Event = Ruled seat line.number (Obeyed line.condition (Play (BuyOwnedPrivate private price))) in
    let same : private_rules (with_event game its) company private price ≡ private_rules game company private price =
    cc (
      same_phase events seat line private price,
      same_sale events seat line private price company,
      cash_of_before game.seats events its (party_of_company company) refl,
    ) in
    ap (λ (g : Game). private_judgement g company private price) is ∙ ap first_broken same
