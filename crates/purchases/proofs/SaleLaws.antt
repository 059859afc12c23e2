-- Each sale to a company is agreed by the list before it, where one more event that is agreed is
-- added.
use Rattle.std.proofs.Common.{◌≡◌, false, List, [], ◌∷◌, ◌++◌, sym, subst}
use Rattle.std.proofs.lemmas.List.{append_assoc, append-nil}
use Rattle.events.specs.declared.event.Event.{Event}
use Rattle.events.specs.declared.event.Event.TheVariants as event
use Rattle.events.specs.declared.event.TrainSeller.TheVariants as seller
use Rattle.purchases.specs.SaleLaws.{AreAgreed, IsAgreed, OthersKeepAgreed, sells_to_company}

-- one more event that is agreed
pub one_more : (before events : List Event) (its : Event) → AreAgreed before events → IsAgreed (before ++ events) its →
    AreAgreed before (events ++ its ∷ [])
one_more before [] its agreed last =
    (subst (λ (list : List Event). IsAgreed list its) (append-nil before) last, tt)
one_more before (event ∷ events) its agreed last = (
  agreed.0,
  one_more (before ++ event ∷ []) events its agreed.1
      (subst (λ (list : List Event). IsAgreed list its) (sym (append_assoc before (event ∷ []) events)) last),
)

-- an event that sells nothing to a company needs no agreement
nothing_asked : (events : List Event) (its : Event) → sells_to_company its ≡ false → IsAgreed events its
nothing_asked events (event.Train buyer kind (seller.Company from) price) none = absurd (cc)
nothing_asked events (event.Train buyer kind seller.Bank price) none = tt
nothing_asked events (event.Train buyer kind seller.BankPool price) none = tt
nothing_asked events (event.PrivateBought private buyer giver price) none = absurd (cc)
nothing_asked events other none = tt

pub others_keep_agreed : OthersKeepAgreed
others_keep_agreed events its none agreed = one_more [] events its agreed (nothing_asked events its none)
