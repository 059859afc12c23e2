-- A TOKEN: what is allowed, and from the outcome of the rules of the board to where the line leads.
use Rattle.std.proofs.Common.{◌≤◌, Bool, true, false, if◌then◌else◌, arith, ◌≡◌, ◌==◌, ◌++◌, None, Ok, ℤ, sym, ◌∙◌}
use Rattle.std.proofs.Common.{Result, subst, ℕ, ap, Err, pos, ◌≤ℤ◌}
use Rattle.std.specs.Int.RustNames.{unsigned_abs}
use Rattle.board.proofs.RuleTables.{kept}
use Rattle.board.specs.Powers.{is_dh_token}
use Rattle.board.specs.TokenRules.{IsTokenAnswer, laid_by, slot_rules, token_cost_of, token_reach_rules}
use Rattle.board.specs.declared.turn.Asker.{Asker}
use Rattle.board_state.specs.MapState.{MapState}
use Rattle.events.specs.Event.{party_of_company}
use Rattle.events.specs.declared.event.Event.TheVariants as event
use Rattle.events.specs.declared.ruling.Refusal.TheVariants as refusal
use Rattle.events.specs.declared.ruling.Ruling.{Ruling}
use Rattle.events.specs.declared.ruling.Ruling.TheVariants.{Obeyed, Refused}
use Rattle.forced_purchase.specs.declared.operator.Operator.{Operator}
use Rattle.history.proofs.Payments.{token_sound}
use Rattle.history.specs.Sound.{IsSound}
use Rattle.map_tables.specs.declared.place.Place.{Place}
use Rattle.map_tables.specs.declared.rules.TokenRule.{TokenRule}
use Rattle.operating.proofs.Allowed.{IsAllowed, none_of_first, none_where_ok, priced_well}
use Rattle.operating.proofs.Fitting.{same_after_ruling, same_cash, token_fits}
use Rattle.operating.specs.BoardAsker.{asker_of}
use Rattle.operating.specs.MapState.{map_state_now}
use Rattle.operating.specs.Progress.{token_done}
use Rattle.operating.specs.Token.{token_answered}
use Rattle.operating.specs.TurnState.{TurnState, turn_state}
use Rattle.operating.specs.declared.progress.Progress.{Progress}
use Rattle.order_grammar.specs.declared.order.Order.{Order}
use Rattle.order_grammar.specs.declared.order.Order.TheVariants as order
use Rattle.order_grammar.specs.declared.play.PlayOrder.TheVariants as play
use Rattle.sheets.specs.Part.{Numbered}
use Rattle.tables.proofs.Rules.{none_broken}
use Rattle.tables.specs.Rules.{first_broken}
use Rattle.tables.specs.declared.roster.Company.{Company}
use Rattle.tables.specs.declared.seat.Seat.{Seat}
use Rattle.totals.specs.LookBack.{Game, cash_of, with_event}

-- nor a token
token_price_test : (dhs none one : Bool) → (if dhs then 0 else if none then 0 else if one then 40 else 100) ≤ 120
token_price_test true none one = omega arith
token_price_test false true one = omega arith
token_price_test false false true = omega arith
token_price_test false false false = omega arith

-- a token that is allowed
pub token_allowed : (laid : MapState) (asker : Asker) (place : Place) (cost : ℤ)
    → IsTokenAnswer laid asker place (Ok cost) → IsAllowed (first_broken (slot_rules laid asker place) ≡ None) cost
    asker.cash (token_cost_of laid.tokens asker place.hex)
unfolding token_cost_of
token_allowed laid asker place cost answer =
    let priced = token_cost_of laid.tokens asker place.hex in
    let rules = slot_rules laid asker place in
    let later = token_reach_rules laid asker place answer.reached in
    let is = none_where_ok cost priced (first_broken (rules ++ later)) answer.given in
    let first : first_broken rules ≡ None = none_of_first rules later is.0 in
    let both = none_broken later (sym (kept rules later first) ∙ is.0) in
    priced_well cost asker.cash priced first is.1 both.1.0
    (token_price_test (is_dh_token asker place.hex) (laid_by laid.tokens asker.company == 0)
    (laid_by laid.tokens asker.company == 1))

-- and to a token
pub token_by :
    (board laid : MapState) (asker its : Asker) (place : Place) (answer : Result ℤ TokenRule) → board ≡ laid
    → asker ≡ its →
    IsTokenAnswer board asker place answer → IsTokenAnswer laid its place answer
token_by board laid asker its place answer is_board is_asker answered =
    subst (λ (g : MapState). IsTokenAnswer g its place answer) is_board
    (subst (λ (a : Asker). IsTokenAnswer board a place answer) is_asker answered)

-- a token that was obeyed
pub placed_steps : (by : Operator) (turn : TurnState) (line : Numbered) (place : Place) (cost : ℤ) (ruled paid : Game)
    (kept : Order) (amount : ℕ) (progress : Progress)
    → ruled ≡ with_event turn.game (event.Ruled by.president line.number (Obeyed line.condition kept))
    → kept ≡ order.Play (play.Token place) → paid ≡ with_event ruled (event.Token by.company place amount)
    → amount ≡ unsigned_abs cost → progress ≡ token_done turn.progress
    → turn_state paid progress ≡ token_answered by turn line place (Ok cost)
placed_steps by turn line place cost ruled paid kept amount progress is_ruled is_kept is_paid is_amount is_progress =
    ap (λ (g : Game). turn_state g progress) is_paid
    ∙ ap (λ (n : ℕ). turn_state (with_event ruled (event.Token by.company place n)) progress) is_amount
    ∙ ap (λ (g : Game). turn_state (with_event g (event.Token by.company place (unsigned_abs cost))) progress)
    (is_ruled ∙ ap (λ (o : Order). with_event turn.game
    (event.Ruled by.president line.number (Obeyed line.condition o))) is_kept)
    ∙ ap (λ (p : Progress). turn_state (with_event (with_event turn.game
    (event.Ruled by.president line.number (Obeyed line.condition (order.Play (play.Token place)))))
    (event.Token by.company place (unsigned_abs cost))) p) is_progress

-- a token that was refused
pub token_refused_steps :
    (by : Operator) (turn : TurnState) (line : Numbered) (place : Place) (rule : TokenRule) (ruled : Game)
    (kept : Order) →
    ruled ≡ with_event turn.game (event.Ruled by.president line.number
    (Refused (refusal.Token rule) line.condition kept)) →
    kept ≡ order.Play (play.Token place) → turn_state ruled turn.progress ≡ token_answered by turn line place (Err rule)
token_refused_steps by turn line place rule ruled kept is_ruled is_kept =
    ap (λ (g : Game). turn_state g turn.progress)
    (is_ruled ∙ ap (λ (o : Order). with_event turn.game
    (event.Ruled by.president line.number (Refused (refusal.Token rule) line.condition o))) is_kept)

-- and after a token
pub placed_sound : (game ruled new : Game) (company : Company) (progress : Progress) (seat : Seat) (line : Numbered)
    (ruling : Ruling) (place : Place) (cost : ℤ) (amount : ℕ)
    → IsTokenAnswer (map_state_now game.events) (asker_of game company progress) place (Ok cost)
    → ruled ≡ with_event game (event.Ruled seat line.number ruling)
    → new ≡ with_event ruled (event.Token company place amount) → amount ≡ unsigned_abs cost → IsSound ruled
    → IsSound new
placed_sound game ruled new company progress seat line ruling place cost amount answered is_ruled is_new is_amount
    sound =
    let asker : Asker = asker_of game company progress in
    let may = token_allowed (map_state_now game.events) asker place cost answered in
    let rules : first_broken (slot_rules (map_state_now ruled.events) asker place) ≡ None =
    subst (λ (g : MapState). first_broken (slot_rules g asker place) ≡ None)
    (sym (same_after_ruling game ruled seat line ruling is_ruled)) may.allowed in
    let pays : pos amount ≤ℤ cash_of ruled.seats ruled.events (party_of_company company) =
    subst (λ (n : ℕ). pos n ≤ℤ cash_of ruled.seats ruled.events (party_of_company company)) (sym is_amount)
    (subst (λ (z : ℤ). pos (unsigned_abs cost) ≤ℤ z)
    (sym (same_cash game ruled seat line ruling company is_ruled)) may.pays) in
    subst IsSound (sym is_new)
    (token_sound ruled company place amount pays (token_fits ruled.events asker place amount rules sound.fit) sound)
