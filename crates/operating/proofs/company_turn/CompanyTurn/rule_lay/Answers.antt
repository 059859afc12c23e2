use Rattle.std.proofs.Common.{Ok, Err, ap, refl, ◌∙◌}
use Rattle.std.specs.Int.RustNames.{unsigned_abs}
use Rattle.operating.proofs.Allowed.{amount_small, cost_kept}
use Rattle.operating.proofs.LayLemmas.{laid_sound, laid_steps, lay_allowed, lay_by, lay_done_by, lay_refused_steps}
use Rattle.operating.specs.BoardAsker.{asker_of}
use Rattle.operating.specs.MapState.{map_state_now}
use Rattle.operating.specs.TurnState.{turn_state}
use Rattle.order_grammar.specs.declared.order.Order.TheVariants.{Play}
use Rattle.order_grammar.specs.declared.play.PlayOrder.TheVariants.{Lay}
use Rattle.sheets.specs.Part.{line_with}
use Rattle.operating.proofs.company_turn.CompanyTurn.rule_lay.Goals as goal

pub amount_of-cost-requires : goal.amount_of-cost-requires
amount_of-cost-requires c =
    let game = c.args.self.now.history in
    let cost = c.in-Ok.cost in
    let answered = lay_by _ (map_state_now game.events) _
    (asker_of game c.args.self.now.by.company c.args.self.now.progress) c.args.lay (Ok cost)
    c.in_ok-update_map_state.ensures.map_state c.asker-asker.ensures c.in-Ok.ensures in
    let kept = cost_kept _ cost _ _ (lay_allowed (map_state_now game.events)
    (asker_of game c.args.self.now.by.company c.args.self.now.progress) c.args.lay cost answered) in
    record { whole = kept.whole; small = kept.small }

pub append-requires : goal.append-requires
append-requires c =
    let game = c.args.self.now.history in
    let cost = c.in-Ok.cost in
    let answered = lay_by _ (map_state_now game.events) _
    (asker_of game c.args.self.now.by.company c.args.self.now.progress) c.args.lay (Ok cost)
    c.in_ok-update_map_state.ensures.map_state c.asker-asker.ensures c.in-Ok.ensures in
    let may = lay_allowed (map_state_now game.events)
    (asker_of game c.args.self.now.by.company c.args.self.now.progress) c.args.lay cost answered in
    amount_small cost c.amount_of-cost.result (c.amount_of-cost.ensures ∙ ap unsigned_abs may.kept) may.small

pub returns-in_ok-append-in-Ok-clause-turn : goal.returns-in_ok-append-in-Ok-clause-turn
returns-in_ok-append-in-Ok-clause-turn c =
    let game = c.args.self.now.history in
    let cost = c.in-Ok.cost in
    let answered = lay_by _ (map_state_now game.events) _
    (asker_of game c.args.self.now.by.company c.args.self.now.progress) c.args.lay (Ok cost)
    c.in_ok-update_map_state.ensures.map_state c.asker-asker.ensures c.in-Ok.ensures in
    let may = lay_allowed (map_state_now game.events)
    (asker_of game c.args.self.now.by.company c.args.self.now.progress) c.args.lay cost answered in
    record {
      answer = Ok cost;
      answered = answered;
      after = laid_steps c.args.self.now.by (turn_state game c.args.self.now.progress)
          (line_with c.args.line (Play (Lay c.args.lay))) c.args.lay cost c.record.new.history c.append.new.self _
          c.amount_of-cost.result c.count_lay.new.self (rw c.requires.is at c.in_ok-record-in-Ok.ensures.ruling) refl
          c.in_ok-append-in-Ok.ensures.ok (c.amount_of-cost.ensures ∙ ap unsigned_abs may.kept)
          (lay_done_by _ (map_state_now game.events) _ (asker_of game c.args.self.now.by.company
          c.args.self.now.progress) c.args.lay c.args.self.now.progress c.count_lay.new.self
          c.in_ok-update_map_state.ensures.map_state c.asker-asker.ensures c.count_lay.ensures);
    }

pub returns-in_ok-append-in-Ok-clause-order : goal.returns-in_ok-append-in-Ok-clause-order
returns-in_ok-append-in-Ok-clause-order c =
    let game = c.args.self.now.history in
    let cost = c.in-Ok.cost in
    let answered = lay_by _ (map_state_now game.events) _
    (asker_of game c.args.self.now.by.company c.args.self.now.progress) c.args.lay (Ok cost)
    c.in_ok-update_map_state.ensures.map_state c.asker-asker.ensures c.in-Ok.ensures in
    let may = lay_allowed (map_state_now game.events)
    (asker_of game c.args.self.now.by.company c.args.self.now.progress) c.args.lay cost answered in
    record {
      by = refl;
      round = refl;
      sound = laid_sound game c.record.new.history c.append.new.self c.args.self.now.by.company
          c.args.self.now.progress c.args.self.now.by.president (line_with c.args.line (Play (Lay c.args.lay))) _ c.args.lay
          cost c.amount_of-cost.result answered (rw c.requires.is at c.in_ok-record-in-Ok.ensures.ruling) c.in_ok-append-in-Ok.ensures.ok
          (c.amount_of-cost.ensures ∙ ap unsigned_abs may.kept) c.in_ok-record-in-Ok.ensures.sound;
      prefix = c.in_ok-update_map_state.ensures.prefix;
    }

pub returns-in_ok-record-in-Err-Rule-clause-turn : goal.returns-in_ok-record-in-Err-Rule-clause-turn
returns-in_ok-record-in-Err-Rule-clause-turn c =
    let game = c.args.self.now.history in
    let rule = c.in-Err-Rule.rule in
    let answered = rw c.in-Err-Rule.field-0-is at c.in-Err-Rule.ensures in
    record {
      answer = Err rule;
      answered = lay_by _ _ _ _ c.args.lay (Err rule) c.in_ok-update_map_state.ensures.map_state c.asker-asker.ensures
          answered;
      after = lay_refused_steps c.args.self.now.by (turn_state game c.args.self.now.progress)
          (line_with c.args.line (Play (Lay c.args.lay))) c.args.lay rule c.record-in-Err-Rule.new.history _
          (rw c.in-Err-Rule.field-0-is at rw c.requires.is at c.in_ok-record-in-Err-Rule.ensures.ruling) refl;
    }
