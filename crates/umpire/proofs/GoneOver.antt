-- The laws of going over to version 2.
use Rattle.std.proofs.Common.{◌≡◌, ℕ, ◌≤◌, List, ◌++◌, Option, Some, None, Result, Ok, Err, length, refl, sym}
use Rattle.std.proofs.Common.{subst, arith}
use Rattle.std.specs.Prelude.{◌↔◌, is_some, IsOk}
use Rattle.order_grammar.specs.declared.condition.Version.{Version}
use Rattle.order_grammar.specs.declared.condition.Version.TheVariants.{One, Two}
use Rattle.report.specs.Laws.{DiffersInVersion, SamePartsSameReport}
use Rattle.report.specs.Report.{IsReport, game_line}
use Rattle.rounds.specs.ReadAlike.{AreReadAlike}
use Rattle.sheets.specs.File.{Content, IsAccepted, content_of, players_of, sheet_of, unread_of}
use Rattle.sheets.specs.File.{version_of}
use Rattle.sheets.specs.Laws.{SameParts}
use Rattle.sheets.specs.Limits.{file_most}
use Rattle.sheets.specs.Text.{written_lines}
use Rattle.sheets.specs.declared.fault.FileFault.{FileFault}
use Rattle.sheets.proofs.AcceptedLemmas.{accepted_short}
use Rattle.umpire.specs.Migrated.{file_in_two, migrated, migrated_from, named_version}
use Rattle.tables.specs.declared.round.Round.{Round}
use Rattle.umpire.specs.MigrationLaws.{AcceptedSaysTheSame, GoesOverOnce, GrowsNoLonger, MigrationChangesNoReport}
use Rattle.umpire.specs.MigrationLaws.{RefusedAlike, SaysTheSame}
use Rattle.umpire.proofs.HeaderLemmas.{file_fits}
use Rattle.umpire.proofs.MigrationLemmas.{accepted_names}
use Rattle.umpire.proofs.SheetsInTwo.{all_unread_alike, content_goes, goes_to_two, parts_alike, players_alike}
use Rattle.umpire.proofs.SheetsInTwo.{posted_alike, version_named, with_body}

-- what a file goes over to, by the version that it names
goes : (file : List ℕ) (named : Option Version) → named_version (written_lines file) ≡ named
    → migrated file ≡ migrated_from named file
unfolding migrated
goes file named e = rw e refl

once_from : (file : List ℕ) (named : Option Version) → named_version (written_lines file) ≡ named
    → migrated (migrated_from named file) ≡ migrated_from named file
once_from file None e = goes file None e
once_from file (Some One) e = goes (file_in_two file) (Some Two) (goes_to_two file e)
once_from file (Some Two) e = goes file (Some Two) e

pub goes_over_once : GoesOverOnce
goes_over_once file =
    let named : Option Version = named_version (written_lines file) in
    subst (λ (new : List ℕ). migrated new ≡ new) (sym (goes file named refl)) (once_from file named refl)

fits_from : (file : List ℕ) (named : Option Version) → named_version (written_lines file) ≡ named
    → length (migrated_from named file) ≤ length file
fits_from file None e = omega arith
fits_from file (Some One) e = file_fits file e
fits_from file (Some Two) e = omega arith

pub grows_no_longer : GrowsNoLonger
grows_no_longer file =
    let named : Option Version = named_version (written_lines file) in
    subst (λ (new : List ℕ). length new ≤ length file) (sym (goes file named refl)) (fits_from file named refl)

-- a fault stays, and what is no fault becomes none
fault_stays : (content : Result Content FileFault) (fault : FileFault)
    → (with_body content ≡ Err fault) ↔ (content ≡ Err fault)
fault_stays (Ok content) fault = (λ e. cc, λ e. cc)
fault_stays (Err other) fault = (λ e. e, λ e. e)

refused_from : (file : List ℕ) (fault : FileFault) (named : Option Version)
    → named_version (written_lines file) ≡ named → length file ≤ file_most
    → (content_of (migrated_from named file) ≡ Err fault) ↔ (content_of file ≡ Err fault)
refused_from file fault None e short = (λ same. same, λ same. same)
refused_from file fault (Some One) e short = rw (content_goes file e short) (fault_stays (content_of file) fault)
refused_from file fault (Some Two) e short = (λ same. same, λ same. same)

pub refused_alike : RefusedAlike
refused_alike file fault short =
    let named : Option Version = named_version (written_lines file) in
    subst (λ (new : List ℕ). (content_of new ≡ Err fault) ↔ (content_of file ≡ Err fault))
    (sym (goes file named refl)) (refused_from file fault named refl short)

still_ok : (content : Result Content FileFault) → IsOk content → IsOk (with_body content)
still_ok (Ok content) accepted = refl
still_ok (Err fault) accepted = absurd (cc)

-- what is said of the new file where it is this
record SaysItAgain (file new : List ℕ) : Type 0 where
  accepted : IsAccepted new
  version : version_of new ≡ Two
  players : players_of new ≡ players_of file
  unread : unread_of new ≡ unread_of file
  posted : (seat : ℕ) (round : Round) → is_some (sheet_of new seat round) ≡ is_some (sheet_of file seat round)
  parts : SameParts new file

says_from : (file : List ℕ) (version : Version) → IsAccepted file → named_version (written_lines file) ≡ Some version
    → SaysItAgain file (migrated_from (Some version) file)
says_from file One accepted e =
    let short = accepted_short file accepted in
    record {
      accepted = subst (λ (content : Result Content FileFault). IsOk content) (sym (content_goes file e short))
          (still_ok (content_of file) accepted);
      version = version_named (file_in_two file) Two (goes_to_two file e);
      players = players_alike file e short;
      unread = all_unread_alike file e short;
      posted = posted_alike file e short;
      parts = parts_alike file e short;
    }
says_from file Two accepted e =
    record {
      accepted = accepted;
      version = version_named file Two e;
      players = refl;
      unread = refl;
      posted = λ seat round. refl;
      parts = λ round seat. refl;
    }

pub says_the_same : AcceptedSaysTheSame
says_the_same file accepted =
    let named = accepted_names file accepted in
    let again : SaysItAgain file (migrated file) =
    subst (λ (new : List ℕ). SaysItAgain file new) (sym (goes file (Some (version_of file)) named))
    (says_from file (version_of file) accepted named) in
    record {
      accepted = again.accepted;
      version = again.version;
      players = again.players;
      unread = again.unread;
      posted = again.posted;
      parts = again.parts;
    }

-- so its report is that of the file
read_alike : (file : List ℕ) → SaysTheSame file → AreReadAlike file (migrated file)
read_alike file says =
    record {
      players = sym says.players;
      sheets = λ round. record {
        posted = λ seat. sym (says.posted seat round);
        parts =
            λ seat. sym (says.parts round seat);
      };
    }

pub changes_no_report : SamePartsSameReport → MigrationChangesNoReport
changes_no_report same_report file accepted text report =
    let says = says_the_same file accepted in
    let differs : DiffersInVersion file (migrated file) text =
    same_report file (migrated file) accepted says.accepted (read_alike file says) (sym says.unread) text report in
    record {
      rest = differs.rest;
      is = differs.is;
      report = subst (λ (version : Version). IsReport (migrated file) (game_line version ++ differs.rest))
          says.version differs.report;
    }
