use Rattle.std.proofs.Common.{◌≡◌, ◌+ℤ◌, ◌<◌, ℕ, ℤ, get_or, length, pos, set, sym, subst, arith, rules}
use Rattle.std.proofs.lemmas.Int.{ints, to_z-of_z}
use Rattle.events.specs.declared.event.Holder.{Holder}
use Rattle.events.specs.declared.event.Holder.TheVariants as holder
use Rattle.events.specs.declared.event.Party.TheVariants as party
use Rattle.treasury.proofs.Parties.{company_changed}
use Rattle.treasury.specs.Accounts.{HasAccount, cash_in, part_of}
use Rattle.treasury.proofs.accounts.Accounts.add_to_holder.Goals as goal
use mir.Syntax.{w128}
use mir.Val.{SFits, of_z, to_z}

pub returns-in-Company : goal.returns-in-Company
returns-in-Company c =
    let self = c.args.self.now in
    let had : ℤ = get_or self.companies c.index.result (pos 0) in
    let had_fits : SFits w128 had = search rules in
    let change_fits : SFits w128 c.args.change = c.ranges.change in
    let within : c.index.result < length self.companies = search rules in
    let at_place : SFits w128 (get_or self.companies c.index.result (pos 0) +ℤ c.args.change) =
    subst (λ (n : ℕ). SFits w128 (get_or self.companies n (pos 0) +ℤ c.args.change)) (sym c.index.ensures.value)
    (subst (λ (h : Holder). HasAccount (party.Holder h) → SFits w128 (cash_in self (party.Holder h) +ℤ c.args.change))
    c.in-Company.is c.requires tt)
    in
    let is : to_z w128 (of_z w128 (to_z w128 (of_z w128 had) +ℤ to_z w128 (of_z w128 c.args.change)))
    ≡ had +ℤ c.args.change = omega (arith, ints) in
    λ other has. subst (λ (h : Holder). cash_in (record self {
      companies = set self.companies c.index.result
          (to_z w128 (of_z w128 (to_z w128 (of_z w128 had) +ℤ to_z w128 (of_z w128 c.args.change))));
    }) other
    ≡ cash_in self other +ℤ part_of (party.Holder h) other c.args.change) (sym c.in-Company.is)
    (company_changed self c.in-Company.company c.args.change _ c.index.result c.index.ensures.value within is
    other has)

pub add_to_seat-requires : goal.add_to_seat-requires
add_to_seat-requires c = λ has.
    subst (λ (z : ℤ). SFits w128 (cash_in c.args.self.now (party.Holder (holder.Seat c.in-Seat.seat)) +ℤ z))
    (sym (to_z-of_z w128 c.args.change c.ranges.change))
    (subst (λ (h : Holder). HasAccount (party.Holder h)
    → SFits w128 (cash_in c.args.self.now (party.Holder h) +ℤ c.args.change)) c.in-Seat.is c.requires has)
