-- The least bid is the least that is not too low.
use Rattle.std.proofs.Common.{◌≡◌, ◌≤◌, ◌≤ℤ◌, ℕ, ℤ, ◌+◌, Bool, false, ◌||◌, nat_lt, List, Option, Some, None, pos}
use Rattle.std.proofs.Common.{refl, ap, sym, ◌∙◌, arith}
use Rattle.std.proofs.lemmas.Bool.{or_parts}
use Rattle.std.proofs.lemmas.Bool.Decides.{nat_tests}
use Rattle.std.specs.Int.Signed.{lt_z}
use Rattle.events.specs.RuleCodes.{code_of_opening_rule}
use Rattle.events.specs.declared.event.Event.{Event}
use Rattle.events.specs.declared.ruling.OpeningRule.{OpeningRule}
use Rattle.events.specs.declared.ruling.OpeningRule.TheVariants.{BidTooLow, CashTooSmall}
use Rattle.forced_purchase.proofs.CheapestTrain.{not_less_is}
use Rattle.moves.specs.Bids.{LeastBidIsLeast, least_bid_of, least_over, step_over}
use Rattle.privates.proofs.BidLemmas.{near_greatest}
use Rattle.privates.specs.Bank.{is_short}
use Rattle.privates.specs.Bid.{bid_rules, is_near, is_near_some, is_too_low}
use Rattle.purchases.proofs.TrainLemmas.{not_less}
use Rattle.tables.proofs.Rules.{is_some_broken, none_of_each, none_with_code, not_broken}
use Rattle.tables.specs.Roster.{face_of}
use Rattle.tables.specs.Rules.{first_broken}
use Rattle.tables.specs.declared.roster.Private.{Private}
use Rattle.tables.specs.declared.seat.Seat.{Seat}
use Rattle.totals.specs.Bids.{free_for, greatest_bid_of}

-- a bid that is high enough is no less than the least
no_less : (face amount : ℕ) (greatest : Option ℕ) → amount ≤ 4294967295 → nat_lt amount (face + 5) ≡ false
    → is_near amount greatest ≡ false → least_over (step_over face) greatest ≤ amount
no_less face amount None few over far = grind (arith, nat_tests)
no_less face amount (Some bid) few over far = grind (arith, nat_tests)

-- the least is then 5 over the face
over_face : (face amount : ℕ) (greatest : Option ℕ) → amount ≤ 4294967295 → nat_lt amount (face + 5) ≡ false
    → nat_lt (least_over (step_over face) greatest) (face + 5) ≡ false
over_face face amount None few over = grind (arith, nat_tests)
over_face face amount (Some bid) few over = grind (arith, nat_tests)

-- and over the greatest bid
over_bid : (face amount : ℕ) (greatest : Option ℕ) → amount ≤ 4294967295 → is_near amount greatest ≡ false
    → is_near (least_over (step_over face) greatest) greatest ≡ false
over_bid face amount None few far = refl
over_bid face amount (Some bid) few far = grind (arith, nat_tests)

-- less than what is at most a sum is at most that sum
at_most : (free : ℤ) (less sum : ℕ) → less ≤ sum → pos sum ≤ℤ free → pos less ≤ℤ free
at_most free less sum low fits = grind (arith)

-- who can spend a sum can spend less
spends_less : (free : ℤ) (less sum : ℕ) → less ≤ sum → lt_z free (pos sum) ≡ false → lt_z free (pos less) ≡ false
spends_less free less sum low fits =
    not_less_is free (pos less) (at_most free less sum low (not_less free (pos sum) fits))

-- the rules of a bid differ in two rows for another sum
least_keeps_each : (seats : ℕ) (events : List Event) (seat : Seat) (private : Private) (amount : ℕ)
    → first_broken (bid_rules seats events seat false private amount) ≡ None
    → is_too_low events private (least_bid_of events private) ≡ false
    → is_short seats events seat private (least_bid_of events private) ≡ false → (rule : OpeningRule)
    → is_some_broken code_of_opening_rule (bid_rules seats events seat false private (least_bid_of events private)) rule
    ≡ false
least_keeps_each seats events seat private amount none high fits BidTooLow = ap (λ (low : Bool). low || false) high
least_keeps_each seats events seat private amount none high fits CashTooSmall = ap (λ (short : Bool). short || false) fits
least_keeps_each seats events seat private amount none high fits rule =
    none_with_code code_of_opening_rule (bid_rules seats events seat false private amount) none rule

pub least_is_least : LeastBidIsLeast
least_is_least seats events seat private amount few none =
    let face = face_of private in
    let greatest = greatest_bid_of events private in
    let least = least_bid_of events private in
    let rules = bid_rules seats events seat false private amount in
    let kept = not_broken code_of_opening_rule rules none in
    let high = or_parts (nat_lt amount (face + 5)) (is_near_some amount events private) (kept BidTooLow) in
    let far : is_near amount greatest ≡ false = near_greatest private amount events ∙ high.1 in
    let no_more : least ≤ amount = no_less face amount greatest few high.0 far in
    let no_lower : is_too_low events private least ≡ false =
    ap (λ (low : Bool). low || is_near_some least events private) (over_face face amount greatest few high.0)
    ∙ sym (near_greatest private least events) ∙ over_bid face amount greatest few far in
    let fits = spends_less (free_for seats events seat private) least amount no_more (kept CashTooSmall) in (
      no_more,
      none_of_each code_of_opening_rule (bid_rules seats events seat false private least) (
          least_keeps_each seats events seat private amount none no_lower fits
          ),
    )
