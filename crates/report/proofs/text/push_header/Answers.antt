use Rattle.std.proofs.Common.{◌≡◌, ◌++◌, ◌∷◌, [], ◌<◌, length, rules, arith}
use Rattle.std.specs.Prelude.{unwrap_or, slice_get}
use Rattle.sheets.specs.File.{players_of}
use Rattle.report.proofs.Seats.{names_step}
use Rattle.report.proofs.text.push_header.Goals as goal

pub loop-seat-preserved : goal.loop-seat-preserved
loop-seat-preserved c =
    let below : c.loop-seat.seat < length (players_of c.args.sheets.now) = grind arith in
    let after : c.push_name.new.out.items ≡ (c.loop-seat.out.items ++ 32 ∷ [])
    ++ unwrap_or (slice_get (players_of c.args.sheets.now) c.loop-seat.seat) [] = search rules in
    names_step (players_of c.args.sheets.now) c.loop-seat.seat _ _ _ below c.loop-seat.invariant after
