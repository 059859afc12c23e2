use Rattle.std.proofs.Common.{◌≡◌, ◌∙◌, ap, sym}
use Rattle.test_umpire.specs.FourStops.{standing_in}
use Rattle.test_umpire.proofs.FourStops.{at_stop_is, no_second}
use Rattle.map_tables.specs.Place.{joined_hex}
use Rattle.map_tables.specs.declared.place.Stop.{Stop}
use Rattle.map_tables.specs.declared.place.StopNumber.TheVariants.{First, Second}
use Rattle.test_umpire.proofs.four_stops.standing_at.Goals as goal

pub returns-in-First : goal.returns-in-First
returns-in-First c =
    let number : c.args.stop.number ≡ First = ap (λ (s : Stop). s.number) (sym c.joined_stop-stop.ensures)
    ∙ c.in-First.is in
    c.stop_of.ensures
    ∙ ap (λ (s : Stop). standing_in s.hex First) c.joined_stop-stop.ensures
    ∙ ap (standing_in (joined_hex c.args.stop.hex)) (sym number)
    ∙ sym (at_stop_is c.args.stop)

pub returns-in-Second : goal.returns-in-Second
returns-in-Second c =
    let number : c.args.stop.number ≡ Second = ap (λ (s : Stop). s.number) (sym c.joined_stop-stop.ensures)
    ∙ c.in-Second.is in
    sym (no_second (joined_hex c.args.stop.hex))
    ∙ ap (standing_in (joined_hex c.args.stop.hex)) (sym number)
    ∙ sym (at_stop_is c.args.stop)
