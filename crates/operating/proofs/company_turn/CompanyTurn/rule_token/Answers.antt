use Rattle.std.proofs.Common.{Ok, Err, ap, refl, ◌∙◌}
use Rattle.std.specs.Int.RustNames.{unsigned_abs}
use Rattle.operating.proofs.Allowed.{amount_small, cost_kept}
use Rattle.operating.proofs.TokenLemmas.{placed_sound, placed_steps, token_allowed, token_by, token_refused_steps}
use Rattle.operating.specs.BoardAsker.{asker_of}
use Rattle.operating.specs.MapState.{map_state_now}
use Rattle.operating.specs.TurnState.{turn_state}
use Rattle.order_grammar.specs.declared.order.Order.TheVariants.{Play}
use Rattle.order_grammar.specs.declared.play.PlayOrder.TheVariants.{Token}
use Rattle.sheets.specs.Part.{line_with}
use Rattle.operating.proofs.company_turn.CompanyTurn.rule_token.Goals as goal

pub amount_of-cost-requires : goal.amount_of-cost-requires
amount_of-cost-requires c =
    let game = c.args.self.now.history in
    let cost = c.in-Ok.cost in
    let answered = token_by _ (map_state_now game.events) _
    (asker_of game c.args.self.now.by.company c.args.self.now.progress) c.args.place (Ok cost)
    c.in_ok-update_map_state.ensures.map_state c.asker-asker.ensures c.in-Ok.ensures in
    let kept = cost_kept _ cost _ _ (token_allowed (map_state_now game.events)
    (asker_of game c.args.self.now.by.company c.args.self.now.progress) c.args.place cost answered) in
    record { whole = kept.whole; small = kept.small }

pub append-requires : goal.append-requires
append-requires c =
    let game = c.args.self.now.history in
    let cost = c.in-Ok.cost in
    let answered = token_by _ (map_state_now game.events) _
    (asker_of game c.args.self.now.by.company c.args.self.now.progress) c.args.place (Ok cost)
    c.in_ok-update_map_state.ensures.map_state c.asker-asker.ensures c.in-Ok.ensures in
    let may = token_allowed (map_state_now game.events)
    (asker_of game c.args.self.now.by.company c.args.self.now.progress) c.args.place cost answered in
    amount_small cost c.amount_of-cost.result (c.amount_of-cost.ensures ∙ ap unsigned_abs may.kept) may.small

pub returns-in_ok-append-in-Ok-clause-turn : goal.returns-in_ok-append-in-Ok-clause-turn
returns-in_ok-append-in-Ok-clause-turn c =
    let game = c.args.self.now.history in
    let cost = c.in-Ok.cost in
    let answered = token_by _ (map_state_now game.events) _
    (asker_of game c.args.self.now.by.company c.args.self.now.progress) c.args.place (Ok cost)
    c.in_ok-update_map_state.ensures.map_state c.asker-asker.ensures c.in-Ok.ensures in
    let may = token_allowed (map_state_now game.events)
    (asker_of game c.args.self.now.by.company c.args.self.now.progress) c.args.place cost answered in
    record {
      answer = Ok cost;
      answered = answered;
      after = placed_steps c.args.self.now.by (turn_state game c.args.self.now.progress)
          (line_with c.args.line (Play (Token c.args.place))) c.args.place cost c.record.new.history c.append.new.self _
          c.amount_of-cost.result c.pass_token.new.self (rw c.requires.is at c.in_ok-record-in-Ok.ensures.ruling) refl
          c.in_ok-append-in-Ok.ensures.ok (c.amount_of-cost.ensures ∙ ap unsigned_abs may.kept)
          c.pass_token.ensures;
    }

pub returns-in_ok-append-in-Ok-clause-order : goal.returns-in_ok-append-in-Ok-clause-order
returns-in_ok-append-in-Ok-clause-order c =
    let game = c.args.self.now.history in
    let cost = c.in-Ok.cost in
    let answered = token_by _ (map_state_now game.events) _
    (asker_of game c.args.self.now.by.company c.args.self.now.progress) c.args.place (Ok cost)
    c.in_ok-update_map_state.ensures.map_state c.asker-asker.ensures c.in-Ok.ensures in
    let may = token_allowed (map_state_now game.events)
    (asker_of game c.args.self.now.by.company c.args.self.now.progress) c.args.place cost answered in
    record {
      by = refl;
      round = refl;
      sound = placed_sound game c.record.new.history c.append.new.self c.args.self.now.by.company
          c.args.self.now.progress c.args.self.now.by.president (line_with c.args.line (Play (Token c.args.place))) _
          c.args.place cost c.amount_of-cost.result answered (rw c.requires.is at c.in_ok-record-in-Ok.ensures.ruling)
          c.in_ok-append-in-Ok.ensures.ok (c.amount_of-cost.ensures ∙ ap unsigned_abs may.kept)
          c.in_ok-record-in-Ok.ensures.sound;
      prefix = c.in_ok-update_map_state.ensures.prefix;
    }

pub returns-in_ok-record-in-Err-Rule-clause-turn : goal.returns-in_ok-record-in-Err-Rule-clause-turn
returns-in_ok-record-in-Err-Rule-clause-turn c =
    let game = c.args.self.now.history in
    let rule = c.in-Err-Rule.rule in
    let answered = rw c.in-Err-Rule.field-0-is at c.in-Err-Rule.ensures in
    record {
      answer = Err rule;
      answered = token_by _ _ _ _ c.args.place (Err rule) c.in_ok-update_map_state.ensures.map_state
          c.asker-asker.ensures answered;
      after = token_refused_steps c.args.self.now.by (turn_state game c.args.self.now.progress)
          (line_with c.args.line (Play (Token c.args.place))) c.args.place rule c.record-in-Err-Rule.new.history _
          (rw c.in-Err-Rule.field-0-is at rw c.requires.is at c.in_ok-record-in-Err-Rule.ensures.ruling) refl;
    }
