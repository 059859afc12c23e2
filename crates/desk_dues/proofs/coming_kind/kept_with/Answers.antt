use Rattle.std.proofs.Common.{◌≡◌, ℤ, Some, ◌-ℤ◌, ap, ◌∙◌}
use Rattle.std.proofs.lemmas.Int.{to_z-of_z}
use mir.Syntax.{w64}
use Rattle.desk_dues.proofs.Numbers.{counted, moderates_less}
use Rattle.desk_dues.specs.NextKind.{rusting_held}
use Rattle.totals.specs.LookBack.{Game}
use Rattle.totals.specs.Trains.{train_count}
use Rattle.desk_dues.proofs.coming_kind.kept_with.Goals as goal

pub returns-clause-value : goal.returns-clause-value
returns-clause-value c =
    let events = c.args.history.now.events in
    let company = c.args.company in
    let all : c.from.result ≡ c.train_count.result =
    c.from.ensures ∙ to_z-of_z w64 c.train_count.result (record { sfits = c.train_count.type_inv }) in
    let gone : c.from-2.result ≡ c.rusting_held.result =
    c.from-2.ensures ∙ to_z-of_z w64 c.rusting_held.result (record { sfits = c.rusting_held.type_inv }) in
    ap (λ (z : ℤ). counted z c.from-2.result) all
    ∙ ap (counted c.train_count.result) gone
    ∙ moderates_less c.train_count.result c.rusting_held.result c.train_count.ensures.within c.rusting_held.ensures.within
    ∙ ap (λ (z : ℤ). z -ℤ c.rusting_held.result)
    (c.train_count.ensures.sum ∙ ap (λ (game : Game). train_count game.events (Some company)) c.now.ensures)
    ∙ ap (λ (z : ℤ). train_count events (Some company) -ℤ z)
    (c.rusting_held.ensures.held ∙ ap (rusting_held events company) c.rusted_with.ensures)
