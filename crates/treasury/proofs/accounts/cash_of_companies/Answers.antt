use Rattle.std.proofs.Common.{◌≡◌, ℕ, ℤ, get_or, pos, ap, ◌∙◌, arith, rules}
use Rattle.std.proofs.lemmas.List.{length-set}
use Rattle.events.specs.declared.event.Holder.TheVariants as holder
use Rattle.events.specs.declared.event.Party.{Party}
use Rattle.events.specs.declared.event.Party.TheVariants as party
use Rattle.totals.specs.LookBack.{IsModerate, cash_of}
use Rattle.tables.proofs.Filled.{at_places}
use Rattle.tables.specs.Roster.{companies}
use Rattle.tables.specs.declared.roster.Company.{Company}
use Rattle.tables.specs.declared.roster.Company.TheVariants as company
use Rattle.treasury.proofs.Tables.{filled_more}
use Rattle.treasury.proofs.accounts.cash_of_companies.Goals as goal
use mir.Syntax.{w128}
use mir.Val.{SFits}

pub loop-place-preserved : goal.loop-place-preserved
loop-place-preserved c =
    let before = c.loop-place.invariant in
    let fits : SFits w128 c.cash.result = search rules in
    let of : Party → ℤ = λ party. cash_of c.args.now.now.seats c.args.now.now.events party in
    record {
      all_companies = length-set _ _ _ ∙ before.all_companies;
      cash = filled_more (λ (k : ℕ) (z : ℤ). z ≡ of (party.Holder
          (holder.Company (get_or companies k company.Pennsylvania)))) c.loop-place.cash c.loop-place.place
          c.cash.result (omega (arith, before.all_companies, c.loop-place-test.true)) fits
          (c.cash.ensures.sum ∙ ap of c.of_company.ensures) before.cash;
      moderate = filled_more (λ (k : ℕ) (z : ℤ). IsModerate z) c.loop-place.cash c.loop-place.place c.cash.result
          (omega (arith, before.all_companies, c.loop-place-test.true)) fits c.cash.ensures.within before.moderate;
    }

pub returns-clause-cash : goal.returns-clause-cash
returns-clause-cash c =
    at_places (λ (its : Company) (z : ℤ). z ≡ cash_of c.args.now.now.seats c.args.now.now.events
    (party.Holder (holder.Company its))) (pos 0) _
    (λ k less. c.loop-place.invariant.cash k (omega (arith, less, c.loop-place-test.false)))

pub returns-clause-moderate : goal.returns-clause-moderate
returns-clause-moderate c =
    at_places (λ (its : Company) (z : ℤ). IsModerate z) (pos 0) _
    (λ k less. c.loop-place.invariant.moderate k (omega (arith, less, c.loop-place-test.false)))
