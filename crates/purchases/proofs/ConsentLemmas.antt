-- Who sells has agreed, by the rules that are kept.
use Rattle.std.proofs.Common.{◌≡◌, ℕ, ◌<◌, ◌==◌, Bool, true, false, not, Option, Some, None, refl, arith}
use Rattle.std.proofs.lemmas.Bool.Decides.{nat_tests}
use Rattle.std.proofs.lemmas.Bool.{or_parts, not-false}
use Rattle.events.specs.RuleCodes.{code_of_private_rule, code_of_train_rule}
use Rattle.events.specs.declared.event.Holder.{Holder}
use Rattle.events.specs.declared.event.Holder.TheVariants as holder
use Rattle.events.specs.declared.ruling.PrivateRule.TheVariants as private_rule
use Rattle.events.specs.declared.ruling.TrainRule.TheVariants as train_rule
use Rattle.totals.specs.LookBack.{Game, owner_of}
use Rattle.totals.specs.Shares.{president_of}
use Rattle.purchases.specs.ConsentLaws.{CompaniesAgree, CompanyAgrees, OwnerAgrees, OwnersAgree}
use Rattle.purchases.specs.Discard.{has_train}
use Rattle.purchases.specs.Private.{is_given, owner_agrees, private_rules}
use Rattle.purchases.specs.Train.{presidents_agree, purchase_of, train_purchase_rules}
use Rattle.order_grammar.specs.declared.order.Offer.{Offer}
use Rattle.order_grammar.specs.declared.order.Offer.TheVariants as offer
use Rattle.order_grammar.specs.declared.order.TrainSource.TheVariants.{Company as OfCompany}
use Rattle.tables.proofs.Rules.{not_broken}
use Rattle.tables.specs.Roster.{same_company}
use Rattle.tables.specs.declared.rolling_stock.Kind.{Kind}
use Rattle.tables.specs.declared.roster.Company.{Company}
use Rattle.tables.specs.declared.roster.Private.{Private}
use Rattle.tables.specs.declared.seat.Seat.{Seat}

-- a price that is not 0
priced : (price : ℕ) → (price == 0) ≡ false → 0 < price
priced price is = grind (arith, nat_tests, is)

-- by who presides over the two
agree_by : (game : Game) (seller buyer : Company) (kind : Kind) (price : ℕ) (giver taker : Option Seat) →
    president_of game.events seller ≡ giver → president_of game.events buyer ≡ taker →
    presidents_agree game.events giver taker (offer.Train kind seller buyer price) ≡ true → 0 < price →
    has_train game.events seller kind ≡ true → same_company buyer seller ≡ false
    → CompanyAgrees game seller buyer kind price
agree_by game seller buyer kind price (Some giver) (Some taker) presides leads agrees some has apart =
    record {
      giver = giver;
      taker = taker;
      presides = presides;
      leads = leads;
      agrees = agrees;
      priced = some;
      has =
          has;
      another = apart;
    }
agree_by game seller buyer kind price (Some giver) None presides leads agrees some has apart = absurd (cc)
agree_by game seller buyer kind price None taker presides leads agrees some has apart = absurd (cc)

pub companies_agree : CompaniesAgree
companies_agree game buyer seller kind price none =
    let rules = train_purchase_rules game buyer (purchase_of kind (OfCompany seller price)) in
    let kept = not_broken code_of_train_rule rules none in
    let sale : Offer = offer.Train kind seller buyer price in
    let agree : Bool = presidents_agree game.events (president_of game.events seller) (president_of game.events buyer)
    sale in
    let given = or_parts (price == 0) (not agree) (kept train_rule.NoConsent) in
    let other = or_parts (not (has_train game.events seller kind)) (same_company buyer seller)
    (kept train_rule.NotSellers) in
    agree_by game seller buyer kind price (president_of game.events seller) (president_of game.events buyer) refl refl
    (not-false agree given.1) (priced price given.0) (not-false (has_train game.events seller kind) other.0) other.1

-- by who owns the private, and who presides over the buyer
given_by : (game : Game) (buyer : Company) (private : Private) (price : ℕ) (owner : Option Holder)
    (taker : Option Seat) →
    owner_of game.events private ≡ owner → president_of game.events buyer ≡ taker →
    owner_agrees game.events owner taker (offer.Private private buyer price) ≡ true
    → OwnerAgrees game buyer private price
given_by game buyer private price (Some (holder.Seat giver)) (Some taker) owns leads agrees =
    record { giver = giver; taker = taker; owns = owns; leads = leads; agrees = agrees }
given_by game buyer private price (Some (holder.Seat giver)) None owns leads agrees = absurd (cc)
given_by game buyer private price (Some (holder.Company other)) taker owns leads agrees = absurd (cc)
given_by game buyer private price None taker owns leads agrees = absurd (cc)

pub owners_agree : OwnersAgree
owners_agree game buyer private price none =
    let kept = not_broken code_of_private_rule (private_rules game buyer private price) none in
    given_by game buyer private price (owner_of game.events private) (president_of game.events buyer) refl refl
    (not-false (is_given game.events buyer private price) (kept private_rule.NoConsent))
