-- What was read of a file says what the whole file says.
use Rattle.std.proofs.Common.{◌≡◌, ℕ, ◌<◌, ◌≤◌, ◌⊎◌, inl, inr, Bool, false, List, [], length, ap, refl, sym, subst}
use Rattle.std.proofs.Common.{arith, ◌∙◌}
use Rattle.std.specs.Prelude.{Option, Some, None, Result, Ok, Err, IfSome, IsOk}
use Rattle.std.proofs.KnownBytes.{Appends-nil}
use Rattle.std.proofs.lemmas.List.{take_all, length-take-le}
use Rattle.report.specs.Report.{IsReport, IsReportOf, refusal_line}
use Rattle.sheets.proofs.ContentLemmas.{too_long}
use Rattle.sheets.specs.File.{Content, IsAccepted, content_of}
use Rattle.sheets.specs.declared.fault.FileFault.{FileFault}
use Rattle.sheets.specs.declared.fault.FileFault.TheVariants.{TooLong}
use Rattle.umpire.specs.Failure.{AppendsPrefix}
use Rattle.std.specs.Io.KnownBytes.{Appends}
use Rattle.umpire.proofs.Stopping.{stops_refused, stops_unread, stops_whole}
use Rattle.umpire.specs.Run.{IsReported, IsRefused, IsCutShort, IsFileOf, IsReadFault, NeverUncertified, Refuses, Stops}
use Rattle.umpire.specs.Run.{as_read}
use Rattle.umpire.specs.declared.fault.Fault.{Fault}

-- all of a file was read, or it is too long and so is what was read of it
read_or_long : (bytes file : List ℕ) → file ≡ as_read bytes → (length bytes ≤ 67108864) ⊎ (67108864 < length bytes)
    → (bytes ≡ file) ⊎ ((content_of bytes ≡ Err TooLong) × (content_of file ≡ Err TooLong))
unfolding as_read
read_or_long bytes file read (inl within) = inl (sym (read ∙ take_all 67108865 bytes (grind arith)))
read_or_long bytes file read (inr over) =
    let many : length file ≡ 67108865 = rw read (length-take-le 67108865 bytes (grind arith)) in
    inr (too_long bytes over, too_long file (grind arith))

-- what a whole file says, where this was read of it
pub record Says (given : Option (List ℕ)) (file : List ℕ) : Type 0 where
  pub whole : List ℕ
  pub is_whole : IsFileOf given whole
  pub content : content_of whole ≡ content_of file
  pub accepted : IsAccepted file → whole ≡ file

-- the content of what was read is that of the whole file
says_by : (bytes file : List ℕ) → (bytes ≡ file)
    ⊎ ((content_of bytes ≡ Err TooLong) × (content_of file ≡ Err TooLong)) → Says (Some bytes) file
says_by bytes file (inl same) = record {
  whole = bytes;
  is_whole = refl;
  content = grind arith;
  accepted =
      λ accepted. same;
}
says_by bytes file (inr (a, b)) =
    record { whole = bytes; is_whole = refl; content = a ∙ sym b; accepted = λ accepted. absurd (cc) }

-- where all bytes are known they are the whole file, and otherwise what was read may be
pub says : (given : Option (List ℕ)) (file : List ℕ) → IfSome given (λ bytes. file ≡ as_read bytes) → Says given file
says None file read = record { whole = file; is_whole = tt; content = refl; accepted = λ accepted. refl }
says (Some bytes) file read = says_by bytes file (read_or_long bytes file read (grind arith))

-- the report of what was read is that of the whole file
report_of_whole : (whole file text : List ℕ) (content : Result Content FileFault) → content_of file ≡ content
    → content_of whole ≡ content_of file → (IsAccepted file → whole ≡ file) → IsReport file text → IsReport whole text
report_of_whole whole file text (Ok content) is same accepted report =
    subst (λ (other : List ℕ). IsReport other text)
    (sym (accepted (subst (λ (r : Result Content FileFault). IsOk r) (sym is) refl))) report
report_of_whole whole file text (Err fault) is same accepted report =
    subst (λ (r : Result Content FileFault). IsReportOf whole r text) (sym (same ∙ is))
    (subst (λ (r : Result Content FileFault). IsReportOf file r text) is report)

-- the report of the file that was read is that of the whole file
report_of_read : (given : Option (List ℕ)) (file known text : List ℕ) (says_all : Says given file) → known ≡ file
    → IsReport known text → IsReport says_all.whole text
report_of_read given file known text says_all is report =
    report_of_whole says_all.whole file text (content_of file) refl says_all.content says_all.accepted
    (subst (λ (other : List ℕ). IsReport other text) is report)

-- a report that was written whole
pub reported : (given old new : Option (List ℕ)) (file : List ℕ) → IfSome given (λ bytes. file ≡ as_read bytes)
    → IsReported (Some file) old new → IsReported given old new
reported given old new file read known =
    let says_all : Says given file = says given file read in
    let accepted : IsAccepted file = subst (λ (other : List ℕ). IsAccepted other) known.whole known.accepted in
    record {
      file = says_all.whole;
      text = known.text;
      whole = says_all.is_whole;
      accepted = subst (λ (other : List ℕ). IsAccepted other) (sym (says_all.accepted accepted)) accepted;
      report = report_of_read given file known.file known.text says_all known.whole known.report;
      written = known.written;
    }

-- a refusal that was written whole
pub refused : (given old new : Option (List ℕ)) (file : List ℕ) (fault : FileFault)
    → IfSome given (λ bytes. file ≡ as_read bytes) → IsRefused (Some file) old new fault → IsRefused given old new fault
refused given old new file fault read known =
    let says_all : Says given file = says given file read in
    record {
      file = says_all.whole;
      whole = says_all.is_whole;
      refused = says_all.content ∙ ap content_of (sym known.whole) ∙ known.refused;
      written = known.written;
    }

-- a report whose prefix was written
cut_short : (given old new : Option (List ℕ)) (file : List ℕ) → IfSome given (λ bytes. file ≡ as_read bytes)
    → IsCutShort (Some file) old new → IsCutShort given old new
cut_short given old new file read known =
    let says_all : Says given file = says given file read in
    record {
      file = says_all.whole;
      text = known.text;
      whole = says_all.is_whole;
      report = report_of_read given file known.file known.text says_all known.whole known.report;
      prefix = known.prefix;
    }

-- what a fault leaves where this was read
pub stops : (given old new : Option (List ℕ)) (file : List ℕ) (read_failed write_failed : Bool) (fault : Fault)
    → IfSome given (λ bytes. file ≡ as_read bytes) → read_failed ≡ false
    → Stops (Some file) old new false write_failed fault → Stops given old new read_failed write_failed fault
stops given old new file read_failed write_failed fault read unfailed known =
    stops_whole (IsCutShort (Some file) old new) (IsCutShort given old new) (IsRefused (Some file) old new)
    (IsRefused given old new) NeverUncertified NeverUncertified (cut_short given old new file read)
    (λ refusal. refused given old new file refusal read) (λ round company never. never) old new read_failed write_failed
    fault unfailed known

-- nothing of a report is a prefix of it
prefix_of_none : (given old : Option (List ℕ)) (file : List ℕ) → IsFileOf given file
    → (text : List ℕ) × IsReport file text → IsCutShort given old old
prefix_of_none given old file whole some =
    let none : AppendsPrefix old old some.0 = record { count = 0; within = omega arith; appended = Appends-nil old } in
    record { file = file; text = some.0; whole = whole; report = some.1; prefix = none }

-- where nothing is written yet, that is a prefix of the report, since each file has one
pub nothing_written : ((file : List ℕ) → (text : List ℕ) × IsReport file text) → (given old : Option (List ℕ))
    → IsCutShort given old old
nothing_written some None old = prefix_of_none None old [] tt (some [])
nothing_written some (Some bytes) old = prefix_of_none (Some bytes) old bytes refl (some bytes)

-- a prefix of the line that says why a file is refused is a prefix of its report
pub cut_in_refusal : (file : List ℕ) (old new : Option (List ℕ)) (fault : FileFault) → content_of file ≡ Err fault →
    AppendsPrefix old new (refusal_line fault) → IsCutShort (Some file) old new
cut_in_refusal file old new fault is prefix =
    let report : IsReport file (refusal_line fault) =
    subst (λ (r : Result Content FileFault). IsReportOf file r (refusal_line fault)) (sym is) refl in
    record { file = file; text = refusal_line fault; whole = refl; report = report; prefix = prefix }

-- the line that says why a file is refused
pub refusal_written : (file : List ℕ) (old new : Option (List ℕ)) (fault : FileFault) → content_of file ≡ Err fault
    → Appends old new (refusal_line fault) → IsRefused (Some file) old new fault
refusal_written file old new fault is written = record { file = file; whole = refl; refused = is; written = written }

-- what a refused file leaves
pub refusal_stops : (file : List ℕ) (old new : Option (List ℕ)) (failed : Bool) (refusal : FileFault) (fault : Fault)
    → content_of file ≡ Err refusal → Refuses refusal old new failed fault
    → Stops (Some file) old new false failed fault
refusal_stops file old new failed refusal fault is refuses =
    stops_refused (IsCutShort (Some file) old new) (IsRefused (Some file) old new) NeverUncertified old new failed refusal
    fault (cut_in_refusal file old new refusal is) (refusal_written file old new refusal is) refuses

-- what reading leaves where it stops early
pub read_stops : ((file : List ℕ) → (text : List ℕ) × IsReport file text)
    → (given old : Option (List ℕ)) (read_failed write_failed : Bool) (fault : Fault) → IsReadFault read_failed fault
    → write_failed ≡ false → Stops given old old read_failed write_failed fault
read_stops some given old read_failed write_failed fault is unfailed =
    stops_unread (IsCutShort given old old) (IsRefused given old old) NeverUncertified old read_failed write_failed fault
    is unfailed (nothing_written some given old)
