use Rattle.std.proofs.Common.{ℕ, arith, ap, ◌∙◌, ◌<◌, ◌≡◌, List, rules}
use Rattle.events.specs.Event.{transfer_of}
use Rattle.totals.proofs.BalanceTables.{account_kept, account_moderate, balance_there}
use Rattle.totals.specs.Totals.{AreTotalsOf, shares_row}
use Rattle.totals.specs.LookBack.{balance}
use Rattle.totals.specs.Shares.{brought_to, taken_from, shares_of}
use Rattle.events.specs.declared.event.Event.{Event}
use Rattle.totals.proofs.look_back.GameView.shares.Goals as goal
use Rattle.tables.proofs.Companies.{company_low}

pub returns-in-Some-clause-sum : goal.returns-in-Some-clause-sum
returns-in-Some-clause-sum c =
    let all : AreTotalsOf c.in-Some.totals.now c.args.self.now.events = c.in-Some.ensures.totals in
    let has : shares_row c.args.place < 8 = omega
    (arith, c.entry_of_shares-entry.ensures, c.if-entry-lt64.true, company_low c.args.company) in
    account_kept c.start_shares-start.result _ _ c.args.self.now.events c.from.result _ c.totals.ensures.short
    (omega (arith, c.start_shares-start.type_inv)) c.from.ensures
    (balance_there _ _ _ _ _ _ c.entry_of_shares-entry.ensures (all.shares c.args.company c.args.place has))
    ∙ ap (λ (start : ℕ). balance start (λ e. brought_to c.args.company c.args.place (transfer_of e))
    (λ e. taken_from c.args.company c.args.place (transfer_of e)) c.args.self.now.events)
    c.start_shares-start.ensures

pub returns-in-Some-clause-within : goal.returns-in-Some-clause-within
returns-in-Some-clause-within c =
    let all : AreTotalsOf c.in-Some.totals.now c.args.self.now.events = c.in-Some.ensures.totals in
    let has : shares_row c.args.place < 8 = omega
    (arith, c.entry_of_shares-entry.ensures, c.if-entry-lt64.true, company_low c.args.company) in
    account_moderate c.start_shares-start.result _ _ c.args.self.now.events c.from.result _ c.totals.ensures.short
    (omega (arith, c.start_shares-start.type_inv)) c.from.ensures
    (balance_there _ _ _ _ _ _ c.entry_of_shares-entry.ensures (all.shares c.args.company c.args.place has))

pub returns-in_default-clause-sum : goal.returns-in_default-clause-sum
returns-in_default-clause-sum c =
    let is : c.balance.result ≡ shares_of c.args.self.now.events c.args.company c.args.place =
    c.balance.ensures.sum
    ∙ ap (λ (events : List Event). balance c.start_shares-start.result
    (λ e. brought_to c.args.company c.args.place (transfer_of e))
    (λ e. taken_from c.args.company c.args.place (transfer_of e)) events) c.events.ensures.events
    ∙ ap (λ (start : ℕ). balance start (λ e. brought_to c.args.company c.args.place (transfer_of e))
    (λ e. taken_from c.args.company c.args.place (transfer_of e)) c.args.self.now.events) c.start_shares-start.ensures
    in
    search rules
