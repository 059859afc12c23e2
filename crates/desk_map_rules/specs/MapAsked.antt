-- All rules of its kind that an order of the map breaks at a moment of a game: a lay, a token or a run.
use Rattle.std.specs.Prelude.{◌≡◌, List, []}
use Rattle.desk_map_rules.specs.LayAsked.{LayBroken, TokenBroken, lay_asker, token_asker}
use Rattle.desk_map_rules.specs.RunAsked.{run_broken}
use Rattle.events.specs.declared.ruling.Refusal.{Refusal}
use Rattle.operating.specs.MapState.{map_state_now}
use Rattle.order_grammar.specs.declared.order.Order.{Order}
use Rattle.order_grammar.specs.declared.order.Order.TheVariants as form
use Rattle.order_grammar.specs.declared.play.PlayOrder.TheVariants as play
use Rattle.tables.specs.declared.roster.Company.{Company}
use Rattle.totals.specs.LookBack.{Game}

-- These are the rules that an order of the map breaks, among the orders for this company: a lay, a token or a run. Other orders
-- break none.
abbrev pub MapBroken : Game → Company → Order → List Refusal → Type 0
MapBroken game company (form.Play (play.Lay lay)) rules =
    LayBroken (map_state_now game.events) (lay_asker game company) lay rules
MapBroken game company (form.Play (play.Token place)) rules =
    TokenBroken (map_state_now game.events) (token_asker game company) place rules
MapBroken game company (form.Run kind run) rules =
    rules ≡ run_broken game.events (map_state_now game.events) company kind run
MapBroken game company other rules = rules ≡ []
