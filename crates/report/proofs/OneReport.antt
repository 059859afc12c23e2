-- A file has at most one report, since it has at most one game, and each file has one.
use Rattle.std.proofs.Common.{◌≡◌, ℕ, List, ap, refl, sym, subst, ◌∙◌}
use Rattle.std.specs.Prelude.{Result, Ok, Err, IsOk}
use Rattle.report.specs.Report.{IsReport, IsReportOf, refusal_line, report_text}
use Rattle.rounds.specs.Play.{Between, Plays, end_of}
use Rattle.sheets.specs.File.{Content, IsAccepted, content_of}
use Rattle.sheets.specs.declared.fault.FileFault.{FileFault}

-- a file with this content has at most one report
one_report_of : ((file : List ℕ) (a b : Between) → Plays file a → Plays file b → a ≡ b)
    → (file : List ℕ) (content : Result Content FileFault) (a b : List ℕ) → IsReportOf file content a
    → IsReportOf file content b → a ≡ b
one_report_of one_game file (Err fault) a b of_a of_b = of_a ∙ sym of_b
one_report_of one_game file (Ok content) a b of_a of_b =
    of_a.is
    ∙ ap (λ (last : Between). report_text file last.game (end_of last.next last.game.events))
    (one_game file of_a.last of_b.last of_a.game of_b.game)
    ∙ sym of_b.is

-- a file has at most one report if it has at most one game
pub one_report_by : ((file : List ℕ) (a b : Between) → Plays file a → Plays file b → a ≡ b) → (file a b : List ℕ)
    → IsReport file a → IsReport file b → a ≡ b
one_report_by one_game file a b of_a of_b = one_report_of one_game file (content_of file) a b of_a of_b

-- a file with this content has a report
some_report_of : ((file : List ℕ) → IsAccepted file → (last : Between) × Plays file last)
    → (file : List ℕ) (content : Result Content FileFault) → content_of file ≡ content
    → (text : List ℕ) × IsReportOf file content text
some_report_of some_game file (Err fault) is = (refusal_line fault, refl)
some_report_of some_game file (Ok content) is =
    let accepted : IsAccepted file = subst (λ (r : Result Content FileFault). IsOk r) (sym is) refl in
    let played : (last : Between) × Plays file last = some_game file accepted in (
      report_text file played.0.game (end_of played.0.next played.0.game.events),
      record { last = played.0; game = played.1; is = refl },
    )

-- each file has a report if each accepted file has a game
pub some_report_by : ((file : List ℕ) → IsAccepted file → (last : Between) × Plays file last) → (file : List ℕ)
    → (text : List ℕ) × IsReport file text
some_report_by some_game file = some_report_of some_game file (content_of file) refl
