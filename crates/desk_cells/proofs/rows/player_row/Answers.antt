use Rattle.std.proofs.Common.{◌≡◌, ◌∙◌, ap, to_z, of_z}
use Rattle.std.proofs.lemmas.Int.{to_z-of_z}
use mir.Syntax.{w128}
use Rattle.certs.specs.Counted.{counted_of}
use Rattle.desk_cells.specs.Rows.{cash_of_player, rank_of_player}
use Rattle.report.specs.EndWorth.{worth_of}
use Rattle.tables.specs.Roster.{certificate_limit_of}
use Rattle.totals.specs.Bids.{free_cash_of}
use Rattle.totals.specs.LookBack.{Game}
use Rattle.desk_cells.proofs.rows.player_row.Goals as goal

-- each figure is that of the game now or before, as the machine holds it
pub returns : goal.returns
returns c =
    let game = c.args.history.now in
    let seat = c.args.seat in
    let cash : to_z w128 (of_z w128 c.cash_of_player.result) ≡ cash_of_player game seat =
    to_z-of_z w128 c.cash_of_player.result (record { sfits = c.cash_of_player.type_inv }) ∙ c.cash_of_player.ensures
    ∙ ap (λ (its : Game). cash_of_player its seat) c.now-view.ensures in
    let before : to_z w128 (of_z w128 c.cash_of_player-2.result) ≡ cash_of_player c.args.before.now seat =
    to_z-of_z w128 c.cash_of_player-2.result (record { sfits = c.cash_of_player-2.type_inv })
    ∙ c.cash_of_player-2.ensures in
    let free : to_z w128 (of_z w128 c.free_cash.result) ≡ free_cash_of game.seats game.events seat =
    to_z-of_z w128 c.free_cash.result (record { sfits = c.free_cash.type_inv }) ∙ c.free_cash.ensures
    ∙ ap (λ (its : Game). free_cash_of its.seats its.events seat) c.now-view.ensures in
    let counted : to_z w128 (of_z w128 c.counted.result) ≡ counted_of game.events seat =
    to_z-of_z w128 c.counted.result (record { sfits = c.counted.type_inv }) ∙ c.counted.ensures
    ∙ c.counted_by_the_game.ensures _ _ _ c.of.ensures c.requires.one in
    let worth : to_z w128 (of_z w128 c.player_worth-worth.result) ≡ worth_of game seat =
    to_z-of_z w128 c.player_worth-worth.result (record { sfits = c.player_worth-worth.type_inv })
    ∙ c.player_worth-worth.ensures
    ∙ ap (λ (its : Game). worth_of its seat) c.now-view.ensures in
    let limit : c.certificate_limit.result ≡ certificate_limit_of game.seats =
    c.certificate_limit.ensures ∙ ap certificate_limit_of c.seats.ensures in
    let rank : c.rank_of_player.result ≡ rank_of_player game c.args.players (worth_of game seat) =
    c.rank_of_player.ensures ∙ ap (rank_of_player game c.args.players) worth in
    cc
