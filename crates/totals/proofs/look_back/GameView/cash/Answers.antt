use Rattle.std.proofs.Common.{ℕ, arith, ◌∙◌, ap, ◌≡◌, List, rules}
use Rattle.events.specs.Event.{payment_of}
use Rattle.totals.proofs.BalanceTables.{account_kept, account_moderate, balance_there}
use Rattle.totals.specs.Totals.{AreTotalsOf}
use Rattle.totals.specs.LookBack.{balance, paid_by, paid_to, cash_of, start_of}
use Rattle.events.specs.declared.event.Event.{Event}
use Rattle.totals.proofs.look_back.GameView.cash.Goals as goal

pub returns-in-Some-clause-sum : goal.returns-in-Some-clause-sum
returns-in-Some-clause-sum c =
    let all : AreTotalsOf c.in-Some.totals.now c.args.self.now.events = c.in-Some.ensures.totals in
    account_kept c.start_of-start.result _ _ c.args.self.now.events c.from.result _ c.totals.ensures.short
    (omega (arith, c.start_of-start.type_inv)) c.from.ensures
    (balance_there _ _ _ _ _ _ c.entry_of_party-entry.ensures (all.cash c.args.party (omega
    (arith, c.entry_of_party-entry.ensures, c.if-entry-lt15.true))))
    ∙ ap (λ (start : ℕ). balance start (λ e. paid_to c.args.party (payment_of e))
    (λ e. paid_by c.args.party (payment_of e)) c.args.self.now.events) (c.start_of-start.ensures
    ∙ ap (λ (seats : ℕ). start_of seats c.args.party) c.seats.ensures)

pub returns-in-Some-clause-within : goal.returns-in-Some-clause-within
returns-in-Some-clause-within c =
    let all : AreTotalsOf c.in-Some.totals.now c.args.self.now.events = c.in-Some.ensures.totals in
    account_moderate c.start_of-start.result _ _ c.args.self.now.events c.from.result _ c.totals.ensures.short
    (omega (arith, c.start_of-start.type_inv)) c.from.ensures
    (balance_there _ _ _ _ _ _ c.entry_of_party-entry.ensures (all.cash c.args.party (omega
    (arith, c.entry_of_party-entry.ensures, c.if-entry-lt15.true))))

pub returns-in_default-clause-sum : goal.returns-in_default-clause-sum
returns-in_default-clause-sum c =
    let is : c.balance.result ≡ cash_of c.args.self.now.seats c.args.self.now.events c.args.party =
    c.balance.ensures.sum
    ∙ ap (λ (events : List Event). balance c.start_of-start.result (λ e. paid_to c.args.party (payment_of e))
    (λ e. paid_by c.args.party (payment_of e)) events) c.events.ensures.events
    ∙ ap (λ (start : ℕ). balance start (λ e. paid_to c.args.party (payment_of e))
    (λ e. paid_by c.args.party (payment_of e)) c.args.self.now.events) (c.start_of-start.ensures
    ∙ ap (λ (seats : ℕ). start_of seats c.args.party) c.seats.ensures)
    in
    search rules
