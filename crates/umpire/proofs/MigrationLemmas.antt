-- What going over to version 2 leaves: what is written of what was read is what is written of the
-- whole file.
use Rattle.std.proofs.Common.{◌≡◌, ℕ, Bool, true, false, cond, List, [], ◌∷◌, length, ap, refl, sym, subst, ◌∙◌}
use Rattle.std.specs.Prelude.{Option, Some, None, Result, Ok, Err, IfErr, IfSome, IsOk, OnErr, OnOk, is_some, nat_lt}
use Rattle.std.specs.Prelude.{unwrap_or}
use Rattle.std.specs.Io.KnownBytes.{Appends}
use Rattle.order_grammar.specs.Line.{reading_of}
use Rattle.order_grammar.specs.declared.condition.Version.{Version}
use Rattle.order_grammar.specs.declared.condition.Version.TheVariants.{One, Two}
use Rattle.report.specs.Report.{refusal_line}
use Rattle.sheets.specs.File.{Content, IsAccepted, content_of, header_version, lines_content, players_content}
use Rattle.sheets.specs.File.{version_in, version_of}
use Rattle.sheets.specs.Limits.{file_most}
use Rattle.sheets.specs.Text.{written_lines}
use Rattle.sheets.specs.declared.fault.FileFault.{FileFault}
use Rattle.sheets.specs.declared.fault.FileFault.TheVariants.{Header, TooLong}
use Rattle.umpire.specs.Failure.{AppendsPrefix}
use Rattle.umpire.specs.Migrated.{file_in_two, migrated, named_version}
use Rattle.umpire.specs.Migration.{IsMigrated, IsMigratedShort, StopsMigration, answer_to, migration_of}
use Rattle.umpire.proofs.Stopping.{stops_cut, stops_refused, stops_unread, stops_whole}
use Rattle.umpire.specs.Run.{IsReadFault, IsRefused, IsWriteFault, NeverUncertified, Refuses, as_read}
use Rattle.umpire.specs.declared.fault.Fault.{Fault}
use Rattle.umpire.specs.declared.fault.Fault.TheVariants.{Write}
use Rattle.umpire.proofs.Files.{Says, refusal_written, refused, says}
use Rattle.umpire.proofs.Parts.{none_of}

by_content : (whole file : List ℕ) (content : Result Content FileFault) → content_of file ≡ content
    → content_of whole ≡ content_of file → (IsAccepted file → whole ≡ file) → migration_of whole ≡ migration_of file
by_content whole file (Ok content) is same accepted =
    ap migration_of (accepted (subst (λ (r : Result Content FileFault). IsOk r) (sym is) refl))
by_content whole file (Err fault) is same accepted = rw (same, is) refl

of_whole : (given : Option (List ℕ)) (file : List ℕ) (says_all : Says given file)
    → migration_of says_all.whole ≡ migration_of file
of_whole given file says_all = by_content says_all.whole file (content_of file) refl says_all.content says_all.accepted

-- what was written whole
pub migrated_whole : (given old new : Option (List ℕ)) (file : List ℕ) → IfSome given (λ bytes. file ≡ as_read bytes)
    → IsMigrated (Some file) old new → IsMigrated given old new
migrated_whole given old new file read known =
    let says_all : Says given file = says given file read in
    let accepted : IsAccepted file = subst (λ (other : List ℕ). IsAccepted other) known.whole known.accepted in
    let same : says_all.whole ≡ known.file = says_all.accepted accepted ∙ sym known.whole in
    record {
      file = says_all.whole;
      whole = says_all.is_whole;
      accepted = subst (λ (other : List ℕ). IsAccepted other) (sym same) known.accepted;
      written = subst (λ (other : List ℕ). Appends old new (migrated other)) (sym same) known.written;
    }

-- what was cut short
cut_short : (given old new : Option (List ℕ)) (file : List ℕ) → IfSome given (λ bytes. file ≡ as_read bytes)
    → IsMigratedShort (Some file) old new → IsMigratedShort given old new
cut_short given old new file read known =
    let says_all : Says given file = says given file read in
    record {
      file = says_all.whole;
      whole = says_all.is_whole;
      prefix = subst (λ (text : List ℕ). AppendsPrefix old new text)
          (sym (of_whole given file says_all ∙ ap migration_of (sym known.whole))) known.prefix;
    }

-- what a fault leaves where this was read
pub migration_stops : (given old new : Option (List ℕ)) (file : List ℕ) (read_failed write_failed : Bool)
    (fault : Fault) → IfSome given (λ bytes. file ≡ as_read bytes) → read_failed ≡ false
    → StopsMigration (Some file) old new false write_failed fault
    → StopsMigration given old new read_failed write_failed fault
migration_stops given old new file read_failed write_failed fault read unfailed known =
    stops_whole (IsMigratedShort (Some file) old new) (IsMigratedShort given old new) (IsRefused (Some file) old new)
    (IsRefused given old new) NeverUncertified NeverUncertified (cut_short given old new file read)
    (λ refusal. refused given old new file refusal read) (λ round company never. never) old new read_failed write_failed
    fault unfailed known

-- where nothing is written yet
pub nothing_of_it : (given old : Option (List ℕ)) → IsMigratedShort given old old
nothing_of_it None old = record { file = []; whole = tt; prefix = none_of old (migration_of []) }
nothing_of_it (Some bytes) old = record { file = bytes; whole = refl; prefix = none_of old (migration_of bytes) }

-- what reading leaves where it stops early
pub migration_unread : (given old : Option (List ℕ)) (read_failed write_failed : Bool) (fault : Fault)
    → IsReadFault read_failed fault → write_failed ≡ false → StopsMigration given old old read_failed write_failed fault
migration_unread given old read_failed write_failed fault is unfailed =
    stops_unread (IsMigratedShort given old old) (IsRefused given old old) NeverUncertified old read_failed write_failed
    fault is unfailed (nothing_of_it given old)

-- what a write that failed leaves, or allocation fails, where this is written of the file
pub migration_cut : (file text : List ℕ) (old new : Option (List ℕ)) (failed : Bool) (fault : Fault)
    → IsWriteFault failed fault → migration_of file ≡ text → AppendsPrefix old new text
    → StopsMigration (Some file) old new false failed fault
migration_cut file text old new failed fault is of prefix =
    stops_cut (IsMigratedShort (Some file) old new) (IsRefused (Some file) old new) NeverUncertified old new failed fault
    is (record { file = file; whole = refl; prefix = rw of prefix })

by_answer : (file : List ℕ) (content : Result Content FileFault) → IsOk content → answer_to file content ≡ migrated file
by_answer file (Ok content) accepted = refl
by_answer file (Err fault) accepted = absurd (cc)

-- an accepted file goes over to what is written of it
pub accepted_goes : (file : List ℕ) → IsAccepted file → migration_of file ≡ migrated file
accepted_goes file accepted = by_answer file (content_of file) accepted

-- an accepted file names its version
header_named : (named : Option Version) (content : Result Content FileFault)
    → IsOk (cond (is_some named) content (Err Header)) → named ≡ Some (unwrap_or named One)
header_named None content accepted = absurd (cc)
header_named (Some version) content accepted = refl

lines_named : (lines : List (List ℕ)) → IsOk (lines_content lines) → named_version lines ≡ Some (version_in lines)
lines_named [] accepted = absurd (cc)
lines_named (line ∷ lines) accepted = header_named (header_version (reading_of line)) (players_content lines) accepted

not_too_long : (long : Bool) (content : Result Content FileFault) → IsOk (cond long (Err TooLong) content)
    → IsOk content
not_too_long true content accepted = absurd (cc)
not_too_long false content accepted = accepted

pub accepted_names : (file : List ℕ) → IsAccepted file → named_version (written_lines file) ≡ Some (version_of file)
unfolding content_of version_of
accepted_names file accepted =
    lines_named (written_lines file)
    (not_too_long (nat_lt file_most (length file)) (lines_content (written_lines file)) accepted)

-- a file of version 1 goes over, and one of version 2 stays
pub one_goes : (file : List ℕ) → IsAccepted file → One ≡ version_of file → migrated file ≡ file_in_two file
unfolding migrated
one_goes file accepted is = rw (accepted_names file accepted, ← is) refl

pub two_stays : (file : List ℕ) → IsAccepted file → Two ≡ version_of file → migrated file ≡ file
unfolding migrated
two_stays file accepted is = rw (accepted_names file accepted, ← is) refl

-- what was written of an accepted file
pub migrated_by : (result : Result (Unit {0}) Fault) (file text : List ℕ) (old new : Option (List ℕ))
    → IsAccepted file → migrated file ≡ text → OnOk result (Appends old new text)
    → OnOk result (IsMigrated (Some file) old new)
migrated_by (Ok done) file text old new accepted is written =
    record { file = file; whole = refl; accepted = accepted; written = rw is written }
migrated_by (Err fault) file text old new accepted is written = tt

pub cut_by : (result : Result (Unit {0}) Fault) (file text : List ℕ) (old new : Option (List ℕ)) (failed : Bool)
    → migration_of file ≡ text → IfErr result (IsWriteFault failed) → OnErr result (AppendsPrefix old new text)
    → IfErr result (StopsMigration (Some file) old new false failed)
cut_by (Ok done) file text old new failed of is prefix = tt
cut_by (Err fault) file text old new failed of is prefix = migration_cut file text old new failed fault is of prefix

-- only a write failed
pub write_failed : (result : Result (Unit {0}) Fault) (failed : Bool) → IfErr result (λ fault. fault ≡ Write)
    → OnErr result (failed ≡ true) → IfErr result (IsWriteFault failed)
write_failed (Ok done) failed is known = tt
write_failed (Err fault) failed is known = rw is known

-- the line of a refused file
refused_goes : (file : List ℕ) (fault : FileFault) → content_of file ≡ Err fault
    → migration_of file ≡ refusal_line fault
refused_goes file fault refused = ap (answer_to file) refused

refusal_cut : (file : List ℕ) (old new : Option (List ℕ)) (refusal : FileFault) → content_of file ≡ Err refusal
    → AppendsPrefix old new (refusal_line refusal) → IsMigratedShort (Some file) old new
refusal_cut file old new refusal is prefix =
    record { file = file; whole = refl; prefix = rw (refused_goes file refusal is) prefix }

-- what a refused file leaves
pub refusal_stops : (file : List ℕ) (old new : Option (List ℕ)) (failed : Bool) (refusal : FileFault) (fault : Fault)
    → content_of file ≡ Err refusal → Refuses refusal old new failed fault
    → StopsMigration (Some file) old new false failed fault
refusal_stops file old new failed refusal fault is refuses =
    stops_refused (IsMigratedShort (Some file) old new) (IsRefused (Some file) old new) NeverUncertified old new failed
    refusal fault (refusal_cut file old new refusal is) (refusal_written file old new refusal is) refuses
