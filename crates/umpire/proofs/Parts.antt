-- A text that is written part by part.
use Rattle.std.proofs.Common.{◌≡◌, ℕ, zero, suc, ◌≤◌, List, [], ◌++◌, length, take, drop, ap, append_assoc}
use Rattle.std.proofs.Common.{take-append-drop, refl, sym, ◌∙◌, arith, subst}
use Rattle.std.specs.Prelude.{Option, Some, Bool, false}
use Rattle.std.specs.Io.KnownBytes.{Appends}
use Rattle.std.proofs.KnownBytes.{Appends-nil, Appends-trans}
use Rattle.std.proofs.lemmas.Grind.{common_steps}
use Rattle.std.proofs.lemmas.List.{append-nil}
use Rattle.report.specs.Laws.{PartsAreAPrefix, PartsAreTheReport}
use Rattle.report.specs.Parts.{end_text_of, next_text_of}
use Rattle.report.specs.Report.{IsReport, header}
use Rattle.rounds.specs.Steps.{PlaysNext, Underway, started}
use Rattle.sheets.specs.File.{IsAccepted}
use Rattle.tables.specs.declared.round.Round.{Round}
use Rattle.umpire.specs.Failure.{AppendsPrefix}
use Rattle.umpire.specs.Rounds.{WritesAllRounds, WritesPrefixOfRounds, WritesRounds}
use Rattle.umpire.proofs.Stopping.{stops_cut}
use Rattle.umpire.specs.Run.{IsCutShort, IsRefused, IsReported, IsWriteFault, NeverUncertified, Stops}
use Rattle.umpire.specs.declared.fault.Fault.{Fault}

-- of a text all was written but this
pub record LeavesRest (old new : Option (List ℕ)) (text rest : List ℕ) : Type 0 where
  pub done : List ℕ
  pub whole : done ++ rest ≡ text
  pub appended : Appends old new done

-- nothing of a text was written, and all of it is left
pub leaves_all : (old : Option (List ℕ)) (text : List ℕ) → LeavesRest old old text text
leaves_all old text = record { done = []; whole = refl; appended = Appends-nil old }

-- a part of what was left is written
pub leaves_less : (old mid new : Option (List ℕ)) (text before part rest : List ℕ) → LeavesRest old mid text before
    → before ≡ part ++ rest → Appends mid new part → LeavesRest old new text rest
leaves_less old mid new text before part rest left is written =
    record {
      done = left.done ++ part;
      whole = append_assoc left.done part rest ∙ ap (λ l. left.done ++ l) (sym is) ∙ left.whole;
      appended = Appends-trans old mid new left.done part left.appended written;
    }

-- what was written of a text is a prefix of it
pub prefix_of_text : (old new : Option (List ℕ)) (text rest : List ℕ) → LeavesRest old new text rest
    → AppendsPrefix old new text
prefix_of_text old new text rest left =
    let within : length left.done ≤ length text = rw (← left.whole) (grind (arith, common_steps)) in
    let prefix : take (length left.done) text ≡ left.done = rw (← left.whole) (grind (arith, common_steps)) in
    record { count = length left.done; within = within; appended = rw prefix left.appended }

-- a prefix of a part, after what was written before it, is a prefix of the whole
pub prefix_of_part : (old mid new : Option (List ℕ)) (text before part rest : List ℕ) → LeavesRest old mid text before
    → before ≡ part ++ rest → AppendsPrefix mid new part → AppendsPrefix old new text
prefix_of_part old mid new text before part rest left is prefix =
    let taken : List ℕ = take prefix.count part in
    let later : List ℕ = drop prefix.count part ++ rest in
    let parted : before ≡ taken ++ later = is ∙ ap (λ l. l ++ rest) (sym (take-append-drop prefix.count part))
    ∙ append_assoc taken (drop prefix.count part) rest in
    prefix_of_text old new text later (leaves_less old mid new text before taken later left parted prefix.appended)

-- nothing of a text is a prefix of it
pub none_of : (old : Option (List ℕ)) (text : List ℕ) → AppendsPrefix old old text
none_of old text = record { count = 0; within = omega arith; appended = Appends-nil old }

-- a prefix of a part that a text begins with is a prefix of the text
prefix_of_first : (old new : Option (List ℕ)) (text part rest : List ℕ) → text ≡ part ++ rest
    → AppendsPrefix old new part → AppendsPrefix old new text
prefix_of_first old new text part rest is prefix =
    prefix_of_part old old new text text part rest (leaves_all old text) is prefix

-- what was written whole is a prefix
pub whole_prefix : (old new : Option (List ℕ)) (text : List ℕ) → Appends old new text → AppendsPrefix old new text
whole_prefix old new text written =
    prefix_of_text old new text [] (record { done = text; whole = append-nil text; appended = written })

-- a prefix of the first of two parts is a prefix of both
pub prefix_of_first_part : (old new : Option (List ℕ)) (part rest : List ℕ) → AppendsPrefix old new part
    → AppendsPrefix old new (part ++ rest)
prefix_of_first_part old new part rest prefix = prefix_of_first old new (part ++ rest) part rest refl prefix

-- so is the first with a prefix of the second
pub prefix_of_second_part : (old mid new : Option (List ℕ)) (part rest : List ℕ) → Appends old mid part
    → AppendsPrefix mid new rest →
    AppendsPrefix old new (part ++ rest)
prefix_of_second_part old mid new part rest written prefix =
    let left : LeavesRest old mid (part ++ rest) rest = record { done = part; whole = refl; appended = written } in
    prefix_of_part old mid new (part ++ rest) rest rest [] left (sym (append-nil rest)) prefix

-- before the first round no text is written
pub writes_none : (file : List ℕ) (play : Underway) (old : Option (List ℕ)) → play ≡ started file
    → WritesRounds file play old old
writes_none file play old is = record { steps = zero; text = []; is_text = (is, refl); written = Appends-nil old }

-- the text of one more round is written
pub writes_more : (file : List ℕ) (old mid new : Option (List ℕ)) (play next : Underway) (round : Round)
    → WritesRounds file play old mid → PlaysNext play round next → Appends mid new (next_text_of next)
    → WritesRounds file next old new
writes_more file old mid new play next round rounds step written =
    record {
      steps = suc rounds.steps;
      text = rounds.text ++ next_text_of next;
      is_text = (play, rounds.text, rounds.is_text, round, step, refl);
      written = Appends-trans old mid new rounds.text (next_text_of next) rounds.written written;
    }

-- what was written so far is a prefix
pub written_prefix : (file : List ℕ) (old new : Option (List ℕ)) (play : Underway) → WritesRounds file play old new
    → WritesPrefixOfRounds file old new
written_prefix file old new play rounds =
    record {
      steps = rounds.steps;
      play = play;
      text = rounds.text;
      is_text = rounds.is_text;
      prefix =
          whole_prefix old new rounds.text rounds.written;
    }

-- so it is with a prefix of the text of one more round
pub more_prefix : (file : List ℕ) (old mid new : Option (List ℕ)) (play next : Underway) (round : Round)
    → WritesRounds file play old mid → PlaysNext play round next → AppendsPrefix mid new (next_text_of next)
    → WritesPrefixOfRounds file old new
more_prefix file old mid new play next round rounds step prefix =
    let part : List ℕ = next_text_of next in
    let left : LeavesRest old mid (rounds.text ++ part) part =
    record { done = rounds.text; whole = refl; appended = rounds.written } in
    record {
      steps = suc rounds.steps;
      play = next;
      text = rounds.text ++ part;
      is_text = (play, rounds.text, rounds.is_text, round, step, refl);
      prefix = prefix_of_part old mid new (rounds.text ++ part) part part [] left (sym (append-nil part)) prefix;
    }

module _ (prefixes : PartsAreAPrefix) (whole : PartsAreTheReport)
    (some : (file : List ℕ) → (text : List ℕ) × IsReport file text) (file : List ℕ) (accepted : IsAccepted file) where
  -- a prefix of the header is a prefix of the report
  pub cut_in_header : (old new : Option (List ℕ)) → AppendsPrefix old new (header file) → IsCutShort (Some file) old new
  cut_in_header old new prefix =
      let report = some file in
      let is = prefixes file zero (started file) [] report.0 accepted (refl, refl) report.1 in
      let parted : report.0 ≡ header file ++ is.rest =
      is.is ∙ ap (λ (text : List ℕ). text ++ is.rest) (append-nil (header file)) in
      record {
        file = file;
        text = report.0;
        whole = refl;
        report = report.1;
        prefix =
            prefix_of_first old new report.0 (header file) is.rest parted prefix;
      }

  -- so is the header with a prefix of the rounds
  pub cut_in_rounds : (old mid new : Option (List ℕ)) → Appends old mid (header file) → WritesPrefixOfRounds file mid new
      → IsCutShort (Some file) old new
  cut_in_rounds old mid new head cut =
      let report = some file in
      let is = prefixes file cut.steps cut.play cut.text report.0 accepted cut.is_text report.1 in
      let parted : header file ++ (cut.text ++ is.rest) ≡ report.0 =
      sym (append_assoc (header file) cut.text is.rest) ∙ sym is.is in
      let left : LeavesRest old mid report.0 (cut.text ++ is.rest) =
      record { done = header file; whole = parted; appended = head } in
      record {
        file = file;
        text = report.0;
        whole = refl;
        report = report.1;
        prefix =
            prefix_of_part old mid new report.0 (cut.text ++ is.rest) cut.text is.rest left refl cut.prefix;
      }

  -- so are the header, all rounds, and a prefix of the end
  pub cut_in_end : (old mid there new : Option (List ℕ)) (ended : Underway) → Appends old mid (header file)
      → WritesAllRounds file ended mid there → AppendsPrefix there new (end_text_of ended)
      → IsCutShort (Some file) old new
  cut_in_end old mid there new ended head all prefix =
      let rounds = all.rounds in
      let end : List ℕ = end_text_of ended in
      let text : List ℕ = (header file ++ rounds.text) ++ end in
      let done = Appends-trans old mid there (header file) rounds.text head rounds.written in
      let left : LeavesRest old there text end = record
      { done = header file ++ rounds.text; whole = refl; appended = done } in
      record {
        file = file;
        text = text;
        whole = refl;
        report = whole file rounds.steps all.last ended all.end rounds.text accepted rounds.is_text all.stays;
        prefix = prefix_of_part old there new text end end [] left (sym (append-nil end)) prefix;
      }

  -- and all of them are the report
  pub report_is_written : (old mid there new : Option (List ℕ)) (ended : Underway) → Appends old mid (header file)
      → WritesAllRounds file ended mid there → Appends there new (end_text_of ended) → IsReported (Some file) old new
  report_is_written old mid there new ended head all written =
      let rounds = all.rounds in
      let done = Appends-trans old mid there (header file) rounds.text head rounds.written in
      record {
        file = file;
        text = (header file ++ rounds.text) ++ end_text_of ended;
        whole = refl;
        accepted = accepted;
        report = whole file rounds.steps all.last ended all.end rounds.text accepted rounds.is_text all.stays;
        written = Appends-trans old there new (header file ++ rounds.text) (end_text_of ended) done written;
      }

-- what is said of a play that was started is said of its file
pub prefix_of_start : (file : List ℕ) (play : Underway) (old new : Option (List ℕ)) → play ≡ started file
    → WritesPrefixOfRounds play.file old new → WritesPrefixOfRounds file old new
prefix_of_start file play old new is prefix =
    subst (λ (f : List ℕ). WritesPrefixOfRounds f old new) (ap (λ (p : Underway). p.file) is) prefix

pub all_of_start : (file : List ℕ) (play ended : Underway) (old new : Option (List ℕ)) → play ≡ started file
    → WritesAllRounds play.file ended old new → WritesAllRounds file ended old new
all_of_start file play ended old new is all =
    subst (λ (f : List ℕ). WritesAllRounds f ended old new) (ap (λ (p : Underway). p.file) is) all

-- a report that is cut short, by a write that failed or by a failed allocation
pub stops_short : (file : List ℕ) (old new : Option (List ℕ)) (failed : Bool) (fault : Fault)
    → IsWriteFault failed fault → IsCutShort (Some file) old new → Stops (Some file) old new false failed fault
stops_short file old new failed fault is cut =
    stops_cut (IsCutShort (Some file) old new) (IsRefused (Some file) old new) NeverUncertified old new failed fault is cut
