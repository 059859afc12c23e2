-- What is written step by step, as a game is played, is the prefix of its report, and at the end
-- the whole of it.
use Rattle.std.proofs.Common.{◌≡◌, ℕ, zero, suc, false, List, [], ◌++◌, refl, sym, ap, subst, ◌∙◌, append_assoc}
use Rattle.std.specs.Prelude.{Option, Some, Result, Ok, Err, IsOk}
use Rattle.std.proofs.lemmas.List.{append-nil}
use Rattle.rounds.proofs.StepByStep.{same_place}
use Rattle.events.specs.declared.event.Event.TheVariants as event
use Rattle.totals.specs.LookBack.{Game}
use Rattle.report.specs.Laws.{PartsAreAPrefix, PartsAreTheReport}
use Rattle.report.specs.Parts.{IsTextOfSteps, end_text_if, end_text_of, next_text_of, text_of_last}
use Rattle.report.specs.Report.{IsGameReport, IsReportOf, end_text, header, report_text, rounds_text}
use Rattle.report.specs.Report.{unread_lines}
use Rattle.report.proofs.LastRound.{grows_by_last}
use Rattle.rounds.specs.Begun.{RoundsOnlyAdd}
use Rattle.rounds.specs.Play.{AreRounds, Between, IsRound, OneGame, Plays, before_play, end_of, goes_on}
use Rattle.rounds.specs.Steps.{PlaysNext, StepsPlay, StepsPlayTheGame, Underway, end_there, game_there, started}
use Rattle.rounds.specs.declared.fault.PlayFault.{PlayFault}
use Rattle.rounds.specs.declared.game.End.{End}
use Rattle.sheets.specs.File.{Content, content_of, unread_of}
use Rattle.sheets.specs.declared.fault.FileFault.{FileFault}

-- a round adds its own text
round_written : RoundsOnlyAdd → (file f : List ℕ) (old new : Between) → IsRound f old new
    → rounds_text file new.game ≡ rounds_text file old.game ++ text_of_last file (Some new.game)
round_written adds file f old new played =
    let added = adds f old new played in
    subst (λ (game : Game). rounds_text file game ≡ rounds_text file old.game ++ text_of_last file (Some game))
    (sym added.added)
    (grows_by_last file old.game.seats old.game.events added.more (event.Round played.round) refl added.no_round)

-- so do some rounds
rounds_written : RoundsOnlyAdd → (file f : List ℕ) (rounds : ℕ) (old new : Between) → AreRounds f rounds old new
    → (more : List ℕ) × (rounds_text file new.game ≡ rounds_text file old.game ++ more)
rounds_written adds file f zero old new played =
    ([], ap (λ (at : Between). rounds_text file at.game) (sym played) ∙ sym (append-nil (rounds_text file old.game)))
rounds_written adds file f (suc rounds) old new played =
    let before = rounds_written adds file f rounds old played.0 played.1 in
    let last = text_of_last file (Some new.game) in (
      before.0 ++ last,
      round_written adds file f played.0 new played.2 ∙ ap (λ (text : List ℕ). text ++ last) before.1
          ∙ append_assoc (rounds_text file old.game) before.0 last,
    )

-- where steps have led, and what was written of them
record IsTextSoFar (file : List ℕ) (play : Underway) (text : List ℕ) : Type 0 where
  of_file : play.file ≡ file
  at : Between
  there : play.there ≡ Ok at
  is : text ≡ rounds_text file at.game

-- a step adds the text of its round
step_written : RoundsOnlyAdd → (file : List ℕ) (old new : Underway) (before text : List ℕ) (round : _)
    → IsTextSoFar file old before → PlaysNext old round new → text ≡ before ++ next_text_of new
    → IsTextSoFar file new text
step_written adds file old new before text round written step is =
    let same : written.at ≡ step.from = same_place written.at step.from old.there written.there step.there in
    let of_file : new.file ≡ file = ap (λ (play : Underway). play.file) step.after ∙ written.of_file in
    let there : new.there ≡ Ok step.to = ap (λ (play : Underway). play.there) step.after in
    let next : next_text_of new ≡ text_of_last file (Some step.to.game) =
    ap (λ (at : Result Between PlayFault). text_of_last new.file (game_there at)) there
    ∙ ap (λ (f : List ℕ). text_of_last f (Some step.to.game)) of_file
    in
    let before_is : before ≡ rounds_text file step.from.game = written.is ∙ ap (λ (at : Between). rounds_text file at.game)
    same in
    record {
      of_file = of_file;
      at = step.to;
      there = there;
      is =
          is ∙ ap (λ (text : List ℕ). before ++ text) next
          ∙ ap (λ (text : List ℕ). text ++ text_of_last file (Some step.to.game)) before_is
          ∙ sym (round_written adds file old.file step.from step.to step.played);
    }

-- so all steps add the texts of their rounds
steps_written : RoundsOnlyAdd → (file : List ℕ) (steps : ℕ) (play : Underway) (text : List ℕ)
    → IsTextOfSteps steps (started file) play text → IsTextSoFar file play text
steps_written adds file zero play text written =
    record {
      of_file = ap (λ (at : Underway). at.file) written.0;
      at = before_play file;
      there = ap (λ (at : Underway). at.there) written.0;
      is = written.1;
    }
steps_written adds file (suc steps) play text written =
    step_written adds file written.0 play written.1 text written.3 (steps_written adds file steps written.0 written.1
    written.2) written.4 written.5

-- they are steps
are_steps : (steps : ℕ) (old new : Underway) (text : List ℕ) → IsTextOfSteps steps old new text → StepsPlay steps old new
are_steps zero old new text written = written.0
are_steps (suc steps) old new text written = (
  written.0,
  are_steps steps old written.0 written.1 written.2,
  written.3,
  written.4,
)

-- the report of an accepted file is that of its game
of_game : (file whole : List ℕ) (content : Result Content FileFault) → IsOk content → IsReportOf file content whole
    → IsGameReport file whole
of_game file whole (Ok content) accepted report = report
of_game file whole (Err fault) accepted report = absurd cc

-- and the other way round
as_report : (file whole : List ℕ) (content : Result Content FileFault) → IsOk content → IsGameReport file whole
    → IsReportOf file content whole
as_report file whole (Ok content) accepted report = report
as_report file whole (Err fault) accepted report = absurd cc

-- what follows the rounds of a game
abbrev after_rounds : List ℕ → Between → List ℕ
after_rounds file last = unread_lines 0 (unread_of file)
    ++ end_text file last.game (end_of last.next last.game.events)

-- the report of a game is its header, its rounds, and what follows them
in_parts : (file : List ℕ) (last : Between) → report_text file last.game
    (end_of last.next last.game.events) ≡ (header file ++ rounds_text file last.game) ++ after_rounds file last
in_parts file last =
    append_assoc (header file ++ rounds_text file last.game) (unread_lines 0 (unread_of file))
    (end_text file last.game (end_of last.next last.game.events))

-- what is written so far is a prefix of the report
pub text_is_prefix : OneGame → RoundsOnlyAdd → StepsPlayTheGame → PartsAreAPrefix
text_is_prefix one adds steps_play file steps play text whole accepted stepped report =
    let written = steps_written adds file steps play text stepped in
    let led = steps_play file steps play accepted (are_steps steps (started file) play text stepped) in
    let same : written.at ≡ led.0 = same_place written.at led.0 play.there written.there led.1 in
    let up_to = led.2 in
    let of_last = of_game file whole (content_of file) accepted report in
    let last : of_last.last ≡ up_to.last = one file of_last.last up_to.last of_last.game up_to.plays in
    let more = rounds_written adds file file up_to.later led.0 up_to.last up_to.ahead in
    let rounds : rounds_text file up_to.last.game ≡ text ++ more.0 =
    more.1 ∙ ap (λ (prefix : List ℕ). prefix ++ more.0)
    (ap (λ (at : Between). rounds_text file at.game) (sym same) ∙ sym written.is)
    in
    record {
      rest = more.0 ++ after_rounds file up_to.last;
      is =
          of_last.is
          ∙ ap (λ (at : Between). report_text file at.game (end_of at.next at.game.events)) last
          ∙ in_parts file up_to.last
          ∙ ap (λ (prefix : List ℕ). (header file ++ prefix) ++ after_rounds file up_to.last) rounds
          ∙ ap (λ (prefix : List ℕ). prefix ++ after_rounds file up_to.last)
          (sym (append_assoc (header file) text more.0))
          ∙ append_assoc (header file ++ text) more.0 (after_rounds file up_to.last);
    }

-- and if a step has returned that play has stopped it is the report
pub text_is_report : RoundsOnlyAdd → StepsPlayTheGame → PartsAreTheReport
text_is_report adds steps_play file steps before play end text accepted stepped stays =
    let written = steps_written adds file steps before text stepped in
    let led = steps_play file steps before accepted (are_steps steps (started file) before text stepped) in
    let last = stays.over.last in
    let same : written.at ≡ last = same_place written.at last before.there written.there stays.over.there in
    let here : led.0 ≡ last = same_place led.0 last before.there led.1 stays.over.there in
    let plays : Plays file last =
    record {
      rounds = steps;
      reached = subst (λ (at : Between). AreRounds file steps (before_play file) at) here led.2.reached;
      stopped = subst (λ (f : List ℕ). goes_on f last.next ≡ false) written.of_file stays.over.stopped;
    }
    in
    let why : Some end ≡ Some (end_of last.next last.game.events) = stays.why ∙ ap end_there stays.over.there in
    let rounds : text ≡ rounds_text file last.game = written.is ∙ ap (λ (at : Between). rounds_text file at.game) same in
    let end_is : end_text_of play ≡ after_rounds file last =
    ap end_text_of stays.after
    ∙ ap (λ (f : List ℕ). unread_lines 0 (unread_of f) ++ end_text_if f (game_there before.there) (Some end))
    written.of_file ∙ ap (λ (there : Result Between PlayFault). unread_lines 0 (unread_of file)
    ++ end_text_if file (game_there there) (Some end)) stays.over.there
    ∙ ap (λ (known : Option End). unread_lines 0 (unread_of file) ++ end_text_if file (Some last.game) known) why
    in
    as_report file (header file ++ text ++ end_text_of play) (content_of file) accepted
    (record {
      last = last;
      game = plays;
      is =
          ap (λ (prefix : List ℕ). (header file ++ prefix) ++ end_text_of play) rounds
          ∙ ap (λ (back : List ℕ). (header file ++ rounds_text file last.game) ++ back) end_is
          ∙ sym (in_parts file last);
    })
