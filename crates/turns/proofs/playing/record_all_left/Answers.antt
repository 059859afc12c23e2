use Rattle.std.proofs.Common.{◌≡◌, ◌+◌, ◌<◌, ℕ, List, [], ◌++◌, ◌∷◌, drop, get_or, map, length, sym, ap, ◌∙◌, add-one}
use Rattle.std.proofs.Math.Seq.{drop-cons}
use Rattle.std.proofs.lemmas.List.Elements.{All-get_or}
use Rattle.history.proofs.Recording.{left_first}
use Rattle.totals.specs.LookBack.{Game, with_events}
use Rattle.events.specs.declared.event.Event.{Event}
use Rattle.history.specs.Record.{with_left}
use Rattle.sheets.proofs.TakenLemmas.{left_goes_on}
use Rattle.sheets.specs.Part.{SheetParts, written_turns_of, lines_in}
use Rattle.tables.specs.declared.seat.Seat.{Seat}
use Rattle.turns.specs.RoundOfTurns.{left_from}
use Rattle.turns.specs.Small.{IsReady}
use Rattle.turns.proofs.playing.record_all_left.Goals as goal

-- the sheets that are left begin with the next
next_sheet : (all : List SheetParts) (i : ℕ) (d : SheetParts) → i < length all → drop i all ≡ get_or all i d ∷ drop (i + 1) all
next_sheet all i d within =
    drop-cons all i d within ∙ ap (λ (k : ℕ). get_or all i d ∷ drop k all) (sym (add-one i))

pub loop-seat-preserved : goal.loop-seat-preserved
loop-seat-preserved g c =
    let all = c.args.unruled.now in
    let i = c.loop-seat.seat in
    let d = c.index-unruled-seat.result in
    let here = c.loop-seat.history in
    let ready : IsReady (get_or all i d) = All-get_or IsReady all i d c.loop-seat-test.true c.requires.ready in
    record {
      after =
          ap (λ (game : Game). with_events game
          (game.events ++ left_from (i + 1) (map written_turns_of (drop (i + 1) all))))
          c.in_ok-record_seat_left.ensures.recorded
          ∙ ap (λ (events : List Event). with_events here events)
          (left_goes_on with_left left_first here.events (here.events ++ with_left c.at.result c.count.result []) i
          c.count.result (get_or all i d) (drop (i + 1) all)
          (ap (λ (s : Seat). here.events ++ with_left s c.count.result []) c.at.ensures)
          (c.count.ensures ∙ ap lines_in c.index-unruled-seat.is) ready.is_at_head
          ∙ ap (λ (left : List SheetParts). here.events ++ left_from i (map written_turns_of left))
          (sym (next_sheet all i d c.loop-seat-test.true)))
          ∙ c.loop-seat.invariant.after;
      underway = c.in_ok-record_seat_left.ensures.underway;
    }
