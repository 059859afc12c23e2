-- A LAY: what is allowed, and from the outcome of the rules of the board to where the line leads.
use Rattle.std.proofs.Common.{◌≡◌, true, leb, refl, ◌≤◌, List, Option, Some, None, arith, ◌++◌, Ok, ℤ, sym, ◌∙◌, Result}
use Rattle.std.proofs.Common.{subst, ap, ℕ, Err, pos, ◌≤ℤ◌}
use Rattle.std.proofs.lemmas.Bool.{leb-true}
use Rattle.std.specs.Int.RustNames.{unsigned_abs}
use Rattle.board.proofs.RuleTables.{kept}
use Rattle.board.specs.LayRules.{IsLayAnswer, lay_cost_of, lay_reach_rules, map_rules}
use Rattle.board.specs.declared.turn.Asker.{Asker}
use Rattle.board_state.specs.MapState.{MapState}
use Rattle.events.specs.Event.{party_of_company}
use Rattle.events.specs.declared.event.Event.TheVariants as event
use Rattle.events.specs.declared.ruling.Refusal.TheVariants as refusal
use Rattle.events.specs.declared.ruling.Ruling.{Ruling}
use Rattle.events.specs.declared.ruling.Ruling.TheVariants.{Obeyed, Refused}
use Rattle.forced_purchase.specs.declared.operator.Operator.{Operator}
use Rattle.history.proofs.Payments.{lay_sound}
use Rattle.history.specs.Sound.{IsSound}
use Rattle.map_tables.specs.Hex.{index_of, hexes, site_of}
use Rattle.map_tables.specs.OnMap.{by_tile, tile_on}
use Rattle.map_tables.specs.Print.{groups, plain_hexes, print_of}
use Rattle.map_tables.specs.declared.hex.Hex.{Hex}
use Rattle.map_tables.specs.declared.hex.Hex.TheVariants.{A9}
use Rattle.map_tables.specs.declared.lay.Lay.{Lay}
use Rattle.map_tables.specs.declared.rules.LayRule.{LayRule}
use Rattle.operating.proofs.Allowed.{IsAllowed, none_of_first, none_where_ok, priced_well}
use Rattle.operating.proofs.Fitting.{lay_fits, same_after_ruling, same_cash}
use Rattle.operating.specs.BoardAsker.{asker_of}
use Rattle.operating.specs.Lay.{lay_answered}
use Rattle.operating.specs.MapState.{map_state_now}
use Rattle.operating.specs.Progress.{lay_done}
use Rattle.operating.specs.TurnState.{TurnState, turn_state}
use Rattle.operating.specs.declared.progress.Progress.{Progress}
use Rattle.order_grammar.specs.declared.order.Order.{Order}
use Rattle.order_grammar.specs.declared.order.Order.TheVariants as order
use Rattle.order_grammar.specs.declared.play.PlayOrder.TheVariants as play
use Rattle.sheets.specs.Part.{Numbered}
use Rattle.tables.proofs.Rules.{none_broken}
use Rattle.tables.specs.Rules.{first_broken}
use Rattle.tables.specs.declared.roster.Company.{Company}
use Rattle.tables.specs.declared.seat.Seat.{Seat}
use Rattle.totals.specs.LookBack.{Game, cash_of, with_event}
use Rattle.totals.specs.Operating.{lays_of}

-- no terrain costs more than 120
terrain_test : (hex : Hex) → leb (print_of hex).cost 120 ≡ true
unfolding index_of hexes site_of groups plain_hexes print_of
terrain_test A9 = refl
terrain_test _ = refl

-- nor does a lay
lay_small : (lays : List Lay) (hex : Hex) → lay_cost_of lays hex ≤ 120
unfolding lay_cost_of
lay_small lays hex =
    elim (tile_on lays hex) as (λ (found : Option Lay). by_tile (print_of hex).cost (λ lay. 0) found ≤ 120) [
      | None ↦ leb-true (print_of hex).cost 120 (terrain_test hex)
      | Some lay ↦ omega arith
    ]

-- a lay that is allowed
pub lay_allowed : (laid : MapState) (asker : Asker) (lay : Lay) (cost : ℤ) → IsLayAnswer laid asker lay (Ok cost)
    → IsAllowed (first_broken (map_rules laid asker lay) ≡ None) cost asker.cash (lay_cost_of laid.lays lay.hex)
lay_allowed laid asker lay cost answer =
    let priced = lay_cost_of laid.lays lay.hex in
    let rules = map_rules laid asker lay in
    let later = lay_reach_rules laid asker lay answer.reached in
    let is = none_where_ok cost priced (first_broken (rules ++ later)) answer.given in
    let first : first_broken rules ≡ None = none_of_first rules later is.0 in
    let both = none_broken later (sym (kept rules later first) ∙ is.0) in
    priced_well cost asker.cash priced first is.1 both.1.0 (lay_small laid.lays lay.hex)

-- the outcome of a lay, by the map state and the company
pub lay_by :
    (board laid : MapState) (asker its : Asker) (lay : Lay) (answer : Result ℤ LayRule) → board ≡ laid → asker ≡ its →
    IsLayAnswer board asker lay answer → IsLayAnswer laid its lay answer
lay_by board laid asker its lay answer is_board is_asker answered =
    subst (λ (g : MapState). IsLayAnswer g its lay answer) is_board
    (subst (λ (a : Asker). IsLayAnswer board a lay answer) is_asker answered)

-- how far a turn has come once a tile is laid, by the map state and the company
pub lay_done_by : (board laid : MapState) (asker its : Asker) (lay : Lay) (before after : Progress) → board ≡ laid
    → asker ≡ its →
    after ≡ lay_done board.lays asker lay before → after ≡ lay_done laid.lays its lay before
lay_done_by board laid asker its lay before after is_board is_asker is =
    is ∙ ap (λ (g : MapState). lay_done g.lays asker lay before) is_board
    ∙ ap (λ (a : Asker). lay_done laid.lays a lay before) is_asker

-- a lay that was obeyed, step by step
pub laid_steps : (by : Operator) (turn : TurnState) (line : Numbered) (lay : Lay) (cost : ℤ) (ruled paid : Game)
    (kept : Order) (amount : ℕ) (progress : Progress)
    → ruled ≡ with_event turn.game (event.Ruled by.president line.number (Obeyed line.condition kept))
    → kept ≡ order.Play (play.Lay lay) → paid ≡ with_event ruled (event.Laid by.company lay amount) → amount ≡ unsigned_abs cost
    → progress ≡ lay_done (lays_of turn.game.events) (asker_of turn.game by.company turn.progress) lay turn.progress
    → turn_state paid progress ≡ lay_answered by turn line lay (Ok cost)
laid_steps by turn line lay cost ruled paid kept amount progress is_ruled is_kept is_paid is_amount is_progress =
    ap (λ (g : Game). turn_state g progress) is_paid
    ∙ ap (λ (n : ℕ). turn_state (with_event ruled (event.Laid by.company lay n)) progress) is_amount
    ∙ ap (λ (g : Game). turn_state (with_event g (event.Laid by.company lay (unsigned_abs cost))) progress)
    (is_ruled ∙ ap (λ (o : Order). with_event turn.game
    (event.Ruled by.president line.number (Obeyed line.condition o))) is_kept)
    ∙ ap (λ (p : Progress). turn_state (with_event (with_event turn.game
    (event.Ruled by.president line.number (Obeyed line.condition (order.Play (play.Lay lay)))))
    (event.Laid by.company lay (unsigned_abs cost))) p) is_progress

-- a lay that was refused
pub lay_refused_steps :
    (by : Operator) (turn : TurnState) (line : Numbered) (lay : Lay) (rule : LayRule) (ruled : Game) (kept : Order) →
    ruled ≡ with_event turn.game (event.Ruled by.president line.number
    (Refused (refusal.Lay rule) line.condition kept)) →
    kept ≡ order.Play (play.Lay lay) → turn_state ruled turn.progress ≡ lay_answered by turn line lay (Err rule)
lay_refused_steps by turn line lay rule ruled kept is_ruled is_kept =
    ap (λ (g : Game). turn_state g turn.progress)
    (is_ruled ∙ ap (λ (o : Order). with_event turn.game
    (event.Ruled by.president line.number (Refused (refusal.Lay rule) line.condition o))) is_kept)

-- a game goes on after a lay that is allowed
pub laid_sound : (game ruled new : Game) (company : Company) (progress : Progress) (seat : Seat) (line : Numbered)
    (ruling : Ruling) (lay : Lay) (cost : ℤ) (amount : ℕ)
    → IsLayAnswer (map_state_now game.events) (asker_of game company progress) lay (Ok cost)
    → ruled ≡ with_event game (event.Ruled seat line.number ruling)
    → new ≡ with_event ruled (event.Laid company lay amount) → amount ≡ unsigned_abs cost → IsSound ruled → IsSound new
laid_sound game ruled new company progress seat line ruling lay cost amount answered is_ruled is_new is_amount sound =
    let asker : Asker = asker_of game company progress in
    let may = lay_allowed (map_state_now game.events) asker lay cost answered in
    let rules : first_broken (map_rules (map_state_now ruled.events) asker lay) ≡ None =
    subst (λ (g : MapState). first_broken (map_rules g asker lay) ≡ None)
    (sym (same_after_ruling game ruled seat line ruling is_ruled)) may.allowed in
    let pays : pos amount ≤ℤ cash_of ruled.seats ruled.events (party_of_company company) =
    subst (λ (n : ℕ). pos n ≤ℤ cash_of ruled.seats ruled.events (party_of_company company)) (sym is_amount)
    (subst (λ (z : ℤ). pos (unsigned_abs cost) ≤ℤ z)
    (sym (same_cash game ruled seat line ruling company is_ruled)) may.pays) in
    subst IsSound (sym is_new)
    (lay_sound ruled company lay amount pays (lay_fits ruled.events asker lay amount rules sound.fit) sound)
