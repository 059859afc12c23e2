-- Example for the chapter `streams`: what `run` leaves of a reader's bytes.
-- A reader gives the file of the chapter on opening rounds, and the writer had four bytes. Once
-- `run` has returned `Ok`, its report follows them. Of an empty file the line `FILE REFUSED F1`
-- follows, and `run` returns that fault.
use Rattle.std.proofs.Common.{◌++◌, refl, Some, codes}
use Rattle.rounds.specs.Example.{first_file}
use Rattle.rulebook.proofs.Report.{is_its_report, text}
use Rattle.sheets.specs.File.{begins, body_of, content_of, is_sheet_line, players_of, version_of}
use Rattle.sheets.specs.Text.{is_blank, written_lines}
use Rattle.sheets.specs.declared.fault.FileFault.TheVariants.{Header}
use Rattle.umpire.specs.Run.{IsRefused, IsReported}

pub the_report_follows : IsReported (Some first_file) (Some (codes "old\n")) (Some (codes "old\n" ++ text))
unfolding content_of written_lines players_of body_of version_of is_blank begins is_sheet_line
the_report_follows =
    record {
      file = first_file;
      text = text;
      whole = refl;
      accepted = refl;
      report = is_its_report;
      written = refl;
    }

pub the_refusal_follows :
    IsRefused (Some (codes "")) (Some (codes "old\n")) (Some (codes "old\nFILE REFUSED F1\n")) Header
unfolding content_of written_lines
the_refusal_follows = record { file = codes ""; whole = refl; refused = refl; written = refl }
