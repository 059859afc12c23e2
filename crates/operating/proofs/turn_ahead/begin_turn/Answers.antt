-- A turn that has begun is in order, and stands where the home token lies.
use Rattle.std.proofs.Common.{ap, sym, subst, ◌∙◌}
use Rattle.std.specs.Prelude.{Box}
use Rattle.std.specs.Global.{Global}
use Rattle.board_state.specs.MapState.{MapState}
use Rattle.history.specs.Sound.{IsSound}
use Rattle.operating.proofs.PrefixStays.{home_prefix}
use Rattle.operating.specs.MapState.{IsPrefix}
use Rattle.operating.specs.Progress.{at_start}
use Rattle.operating.specs.TurnState.{turn_state}
use Rattle.operating.specs.declared.progress.Progress.{Progress}
use Rattle.totals.specs.LookBack.{Game}
use Rattle.operating.proofs.turn_ahead.begin_turn.Goals as goal

pub returns-clause-turn : goal.returns-clause-turn
returns-clause-turn c =
    ap (λ (game : Game). turn_state game c.begin.result.progress) c.begin.ensures.history
    ∙ ap (λ (progress : Progress). turn_state c.place_home.new.history progress) c.begin.ensures.progress
    ∙ ap (λ (game : Game). turn_state game at_start) c.in_ok-place_home.ensures.event

pub returns-clause-order : goal.returns-clause-order
returns-clause-order c =
    record {
      sound = subst IsSound (sym c.begin.ensures.history) c.in_ok-place_home.ensures.sound;
      prefix = subst (λ (board : Box MapState Global). IsPrefix board.value c.begin.result.history.events)
          (sym c.begin.ensures.board)
          (subst (λ (game : Game). IsPrefix c.args.game.board.value game.events) (sym c.begin.ensures.history)
          (home_prefix c.args.game.board.value c.args.game.history c.place_home.new.history c.args.by.company
          c.in_ok-place_home.ensures.event c.requires.prefix));
    }
