use Rattle.std.proofs.Common.{◌+ℤ◌, ℤ, subst, sym}
use Rattle.std.proofs.lemmas.Int.{to_z-of_z}
use Rattle.events.specs.declared.event.Party.{Party}
use Rattle.events.specs.declared.event.Party.TheVariants as party
use Rattle.treasury.specs.Accounts.{HasAccount, cash_in}
use Rattle.treasury.proofs.accounts.Accounts.add.Goals as goal
use mir.Syntax.{w128}
use mir.Val.{SFits}

pub add_to_bank-requires : goal.add_to_bank-requires
add_to_bank-requires c =
    subst (λ (z : ℤ). SFits w128 (cash_in c.args.self.now party.Bank +ℤ z))
    (sym (to_z-of_z w128 c.args.change c.ranges.change))
    (subst (λ (p : Party). HasAccount p → SFits w128 (cash_in c.args.self.now p +ℤ c.args.change)) c.in-Bank.is
    c.requires tt)

pub add_to_holder-requires : goal.add_to_holder-requires
add_to_holder-requires c = λ has.
    subst (λ (z : ℤ). SFits w128 (cash_in c.args.self.now (party.Holder c.in-Holder.holder) +ℤ z))
    (sym (to_z-of_z w128 c.args.change c.ranges.change))
    (subst (λ (p : Party). HasAccount p → SFits w128 (cash_in c.args.self.now p +ℤ c.args.change)) c.in-Holder.is
    c.requires has)
