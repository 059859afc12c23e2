use Rattle.std.proofs.Common.{arith}
use Rattle.treasury.proofs.Parties.{no_account}
use Rattle.treasury.proofs.accounts.Accounts.add_to_seat.Goals as goal

pub returns-then-number-ge-PLAYERS_MOST : goal.returns-then-number-ge-PLAYERS_MOST
returns-then-number-ge-PLAYERS_MOST c =
    no_account c.args.self.now c.args.seat c.args.change (omega arith)
