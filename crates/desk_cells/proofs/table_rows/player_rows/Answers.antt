use Rattle.std.proofs.Common.{◌≡◌, ◌∙◌, [], ap, arith, take}
use Rattle.std.proofs.lemmas.Grind.{common_steps}
use Rattle.std.specs.List.{flat_map}
use Rattle.tables.proofs.OneMore.{elements_step}
use Rattle.desk_cells.specs.Leaders.{six_seats}
use Rattle.desk_cells.specs.TableRows.{player_if}
use Rattle.desk_cells.proofs.table_rows.player_rows.Goals as goal

pub loop-seat-preserved : goal.loop-seat-preserved
loop-seat-preserved c =
    elements_step (player_if c.args.history.now c.args.before.now c.args.players) six_seats c.loop-seat.seat-index _ [] _ _
    c.loop-seat-test.true c.loop-seat.invariant c.in_ok-push_player.ensures

-- all seats have come
pub returns : goal.returns
returns c =
    let all : c.loop-seat.seat-index ≡ 6 =
    grind (arith, common_steps, c.loop-seat.auto.seat-index-end, c.loop-seat-test.false) in
    c.loop-seat.invariant
    ∙ ap (λ count. flat_map (player_if c.args.history.now c.args.before.now c.args.players) (take count six_seats)) all
