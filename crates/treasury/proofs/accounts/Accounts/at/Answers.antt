use Rattle.std.proofs.Common.{ℤ, refl, subst, sym, ◌∙◌, rules}
use Rattle.std.proofs.lemmas.Int.{to_z-of_z}
use Rattle.totals.specs.LookBack.{IsModerate}
use Rattle.treasury.proofs.Parties.{accounts_of, moderate_of}
use Rattle.treasury.proofs.accounts.Accounts.at.Goals as goal
use mir.Syntax.{w128}
use mir.Val.{SFits}

pub returns-clause-accounts : goal.returns-clause-accounts
returns-clause-accounts c =
    let fits : SFits w128 c.cash.result = search rules in
    accounts_of (record { seats = c.args.view.now.seats; events = c.args.view.now.events }) _ _ _ refl refl
    (to_z-of_z w128 c.cash.result fits ∙ c.cash.ensures.sum) c.cash_of_seats.ensures.cash
    c.cash_of_companies.ensures.cash

pub returns-clause-moderate : goal.returns-clause-moderate
returns-clause-moderate c =
    let fits : SFits w128 c.cash.result = search rules in
    moderate_of _ (subst (λ (z : ℤ). IsModerate z) (sym (to_z-of_z w128 c.cash.result fits)) c.cash.ensures.within)
    c.cash_of_seats.ensures.moderate
    c.cash_of_companies.ensures.moderate
