-- Whether a company has a token at a stop is what the position has there.
use Rattle.std.proofs.Common.{◌≡◌, ◌∙◌, ap, sym, subst, true, false}
use Rattle.board_state.specs.MapState.{MapState, position_of}
use Rattle.map_tables.specs.OnMap.{has_token, is_stop}
use Rattle.map_tables.specs.Place.{joined_stop_of}
use Rattle.map_tables.specs.declared.place.Stop.{Stop}
use Rattle.reach.specs.Position.{AtStop, HasToken, IsAmong}
use Rattle.tables.specs.declared.roster.Company.{Company}
use Rattle.board_state.proofs.Positions.{shown}
use Rattle.board_state.proofs.Tokens.{among_is, stop_there, there_token}
use Rattle.board_state.proofs.on_map.token_on_map.Goals as goal

-- at a stop the tokens are those that name it
token_there : (map_state : MapState) (stop : Stop) (company : Company) → is_stop (joined_stop_of stop) ≡ true
    → has_token map_state.tokens (joined_stop_of stop) company ≡ true → HasToken (position_of map_state) stop company
token_there map_state stop company is has =
    subst (IsAmong company) (sym (ap (λ (s : AtStop). s.tokens) (shown map_state stop is)))
    (among_is map_state.tokens (joined_stop_of stop) company has)

pub returns-then-holds : goal.returns-then-holds
returns-then-holds g c =
    let laid = g.L.OnMap.laid c.args.board.now in
    let named = c.holds.ensures ∙ ap (λ stop. has_token laid.tokens stop c.args.company) c.joined_stop-stop.ensures in
    let asked = c.is_stop.ensures ∙ ap is_stop c.joined_stop-stop.ensures in (
      λ is. token_there laid c.args.stop c.args.company (sym asked ∙ is) (sym named ∙ c.if-holds.true),
      λ has. asked ∙ stop_there laid c.args.stop c.args.company has,
    )

pub returns-else-holds : goal.returns-else-holds
returns-else-holds g c =
    let laid = g.L.OnMap.laid c.args.board.now in
    let named = c.holds.ensures ∙ ap (λ stop. has_token laid.tokens stop c.args.company) c.joined_stop-stop.ensures in (
      λ has. absurd (let wrong : ⊥ = cc in wrong),
      λ has. absurd (let found : false ≡ true = sym c.if-holds.false
          ∙ (named ∙ there_token laid c.args.stop c.args.company has) in cc),
    )
