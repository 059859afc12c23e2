-- The first line of a company's orders is ruled by what is listed as its turn begins.
use Rattle.std.proofs.Common.{◌≡◌, Result, Ok, Err, ℤ, ap, ◌∙◌}
use Rattle.board.specs.LayRules.{IsLayAnswer}
use Rattle.board.specs.TokenRules.{IsTokenAnswer}
use Rattle.map_tables.specs.Laws.{HexesAreListedOnce, TilesAreListedOnce}
use Rattle.map_tables.specs.declared.rules.LayRule.{LayRule}
use Rattle.map_tables.specs.declared.rules.TokenRule.{TokenRule}
use Rattle.moves.proofs.ExactLemmas.{lays_exact, one_lay_answer, one_token_answer, tokens_exact}
use Rattle.moves.specs.TurnLaws.{IsLayRefused, IsTokenRefused, ListedLaysAreObeyed, ListedTokensAreObeyed}
use Rattle.moves.specs.TurnLaws.{OtherLaysAreRefused, OtherTokensAreRefused}
use Rattle.operating.specs.BoardAsker.{asker_of}
use Rattle.operating.specs.Lay.{lay_answered}
use Rattle.operating.specs.MapState.{map_state_now}
use Rattle.operating.specs.Progress.{at_start}
use Rattle.operating.specs.Token.{token_answered}
use Rattle.operating.specs.TurnState.{turn_state}

pub lays_obeyed : HexesAreListedOnce → TilesAreListedOnce → ListedLaysAreObeyed
lays_obeyed of_hexes of_tiles by game line lay listed new are leads price among =
    let laid = map_state_now game.events in
    let asker = asker_of game by.company at_start in
    let allowed : IsLayAnswer laid asker lay (Ok price) = (lays_exact of_hexes of_tiles laid asker listed are lay price).0 among in
    leads.after
    ∙ ap (λ (answer : Result ℤ LayRule). lay_answered by (turn_state game at_start) line lay answer)
    (one_lay_answer laid asker lay leads.answer (Ok price) leads.answered allowed)

pub other_lays_refused : HexesAreListedOnce → TilesAreListedOnce → OtherLaysAreRefused
other_lays_refused of_hexes of_tiles by game line lay listed new are leads none =
    let laid = map_state_now game.events in
    let asker = asker_of game by.company at_start in
    (elim leads.answer as (λ (answer : Result ℤ LayRule). IsLayAnswer laid asker lay answer
    → new ≡ lay_answered by (turn_state game at_start) line lay answer
    → IsLayRefused by (turn_state game at_start) line lay new) [
      | Ok price ↦ λ answered after. absurd (none price ((lays_exact of_hexes of_tiles laid asker listed are lay price).1 answered))
      | Err rule ↦ λ answered after. record { rule = rule; after = after }
    ])
    leads.answered leads.after

pub tokens_obeyed : HexesAreListedOnce → ListedTokensAreObeyed
tokens_obeyed of_hexes by game line place listed new are leads price among =
    let laid = map_state_now game.events in
    let asker = asker_of game by.company at_start in
    let allowed : IsTokenAnswer laid asker place (Ok price) = (tokens_exact of_hexes laid asker listed are place price).0 among in
    leads.after
    ∙ ap (λ (answer : Result ℤ TokenRule). token_answered by (turn_state game at_start) line place answer)
    (one_token_answer laid asker place leads.answer (Ok price) leads.answered allowed)

pub other_tokens_refused : HexesAreListedOnce → OtherTokensAreRefused
other_tokens_refused of_hexes by game line place listed new are leads none =
    let laid = map_state_now game.events in
    let asker = asker_of game by.company at_start in
    (elim leads.answer as (λ (answer : Result ℤ TokenRule). IsTokenAnswer laid asker place answer
    → new ≡ token_answered by (turn_state game at_start) line place answer
    → IsTokenRefused by (turn_state game at_start) line place new) [
      | Ok price ↦ λ answered after. absurd (none price ((tokens_exact of_hexes laid asker listed are place price).1 answered))
      | Err rule ↦ λ answered after. record { rule = rule; after = after }
    ])
    leads.answered leads.after
