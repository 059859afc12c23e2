use Rattle.std.proofs.Common.{List, ℕ, ap, ◌∙◌}
use Rattle.std.specs.HashMap.{keys}
use Rattle.std.specs.Map.{lookup}
use Rattle.sheets.proofs.PlayerLemmas.{is_equal, seat_looked_up}
use Rattle.sheets.proofs.players.Players.seat_of.Goals as goal
use Rattle.tables.specs.declared.seat.Seat.{Seat}

pub returns : goal.returns
returns c =
    let name = c.args.name.now in
    let seats = c.self.inside.seats in
    rw (← c.self.view_is)
    (c.copied.ensures ∙ c.get.ensures.value ∙ ap (λ (entries : List (List ℕ × Seat)). lookup (is_equal name) entries)
    c.self.invariant
    ∙ seat_looked_up 0 (keys seats) name)
