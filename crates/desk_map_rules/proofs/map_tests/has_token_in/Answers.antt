use Rattle.std.proofs.Common.{◌∙◌, ap, List}
use Rattle.std.specs.List.{list_any}
use Rattle.desk_map_rules.proofs.Answered.{token_laid}
use Rattle.desk_map_rules.specs.LayAsked.{places_in}
use Rattle.events.specs.declared.event.Event.{Event}
use Rattle.desk_map_rules.proofs.map_tests.has_token_in.Goals as goal

-- some event has placed it
pub returns : goal.returns
returns c =
    c.is_token_placed.ensures
    ∙ ap (λ (events : List Event). list_any (places_in c.args.hex c.args.company) events) c.events.ensures.events
    ∙ token_laid c.args.view.now.events c.args.hex c.args.company
