-- What a run of the program leaves, by what the reader gave and what the writer held.
use Rattle.std.specs.Prelude.{◌≡◌, ℕ, Bool, true, false, List, Option, take, IfSome, Err}
use Rattle.std.specs.Io.KnownBytes.{Appends, Keeps}
use Rattle.report.specs.Report.{IsReport, refusal_line}
use Rattle.sheets.specs.File.{IsAccepted, content_of}
use Rattle.sheets.specs.declared.fault.FileFault.{FileFault}
use Rattle.tables.specs.declared.roster.Company.{Company}
use Rattle.tables.specs.declared.round.Round.{Round}
use Rattle.umpire.specs.Failure.{AppendsPrefix}
use Rattle.umpire.specs.declared.fault.Fault.{Fault}
use Rattle.umpire.specs.declared.fault.Fault.TheVariants.{Read, Write, Memory, File, Certificate}

-- as much of a file as is read: one more byte than the most that a file may have
unfoldable pub as_read : List ℕ → List ℕ
as_read bytes = take 67108865 bytes

-- the first of the bytes that a reader gives, this many at most, if they are known
abbrev pub AreFirst : ℕ → Option (List ℕ) → List ℕ → Type 0
AreFirst most given bytes = IfSome given (λ all. bytes ≡ take most all)

-- what was read of a file
abbrev pub IsAsRead : Option (List ℕ) → List ℕ → Type 0
IsAsRead given file = IfSome given (λ bytes. file ≡ as_read bytes)

-- why reading stopped early: a read or an allocation failed
abbrev pub IsReadFault : Bool → Fault → Type 0
IsReadFault failed Read = failed ≡ true
IsReadFault failed Memory = failed ≡ false
IsReadFault failed Write = ⊥
IsReadFault failed (File fault) = ⊥
IsReadFault failed (Certificate round company) = ⊥

-- why writing stopped early: a write failed or took nothing, or an allocation failed
abbrev pub IsWriteFault : Bool → Fault → Type 0
IsWriteFault failed Write = failed ≡ true
IsWriteFault failed Memory = failed ≡ false
IsWriteFault failed Read = ⊥
IsWriteFault failed (File fault) = ⊥
IsWriteFault failed (Certificate round company) = ⊥

-- the file is all the bytes that the reader gives, if they are known
abbrev pub IsFileOf : Option (List ℕ) → List ℕ → Type 0
IsFileOf given file = IfSome given (λ bytes. file ≡ bytes)

-- the file is accepted, and its report follows what the writer held
pub record IsReported (given old new : Option (List ℕ)) : Type 0 where
  pub file : List ℕ
  pub text : List ℕ
  pub whole : IsFileOf given file
  pub accepted : IsAccepted file
  pub report : IsReport file text
  pub written : Appends old new text

-- the file is refused, and the line that says so follows what the writer held
pub record IsRefused (given old new : Option (List ℕ)) (fault : FileFault) : Type 0 where
  pub file : List ℕ
  pub whole : IsFileOf given file
  pub refused : content_of file ≡ Err fault
  pub written : Appends old new (refusal_line fault)

-- the file is refused, and a prefix of the line that says so follows what the writer held
pub record IsCutInRefusal (given old new : Option (List ℕ)) : Type 0 where
  pub file : List ℕ
  pub fault : FileFault
  pub whole : IsFileOf given file
  pub refused : content_of file ≡ Err fault
  pub prefix : AppendsPrefix old new (refusal_line fault)

-- a prefix of the file's report, or nothing, follows what the writer held
pub record IsCutShort (given old new : Option (List ℕ)) : Type 0 where
  pub file : List ℕ
  pub text : List ℕ
  pub whole : IsFileOf given file
  pub report : IsReport file text
  pub prefix : AppendsPrefix old new text

-- what a fault leaves if a file is refused: the line that says so, or a prefix of it if writing was
-- stopped
abbrev pub Refuses : FileFault → Option (List ℕ) → Option (List ℕ) → Bool → Fault → Type 0
Refuses refusal old new failed Read = ⊥
Refuses refusal old new failed Write = (failed ≡ true) × AppendsPrefix old new (refusal_line refusal)
Refuses refusal old new failed Memory = (failed ≡ false) × AppendsPrefix old new (refusal_line refusal)
Refuses refusal old new failed (File fault) = (failed ≡ false) × (fault ≡ refusal)
    × Appends old new (refusal_line refusal)
Refuses refusal old new failed (Certificate round company) = ⊥

-- What a fault leaves, and which calls of the reader and the writer have failed. If a read failed
-- nothing more is written. If a write failed, or memory ran out, the text is cut. What a refused
-- file or certificate leaves is written whole.
abbrev pub StopsBy : Type 0 → (FileFault → Type 0) → (Round → Company → Type 0) → Option (List ℕ) → Option (List ℕ)
    → Bool → Bool → Fault → Type 0
StopsBy cut refused uncertified old new read_failed write_failed Read =
    (read_failed ≡ true) × (write_failed ≡ false) × Keeps old new
StopsBy cut refused uncertified old new read_failed write_failed Write =
    (read_failed ≡ false) × (write_failed ≡ true) × cut
StopsBy cut refused uncertified old new read_failed write_failed Memory =
    (read_failed ≡ false) × (write_failed ≡ false) × cut
StopsBy cut refused uncertified old new read_failed write_failed (File fault) =
    (read_failed ≡ false) × (write_failed ≡ false) × refused fault
StopsBy cut refused uncertified old new read_failed write_failed (Certificate round company) =
    (read_failed ≡ false) × (write_failed ≡ false) × uncertified round company

-- no certificate is refused where none is asked for
abbrev pub NeverUncertified : Round → Company → Type 0
NeverUncertified round company = ⊥

-- what a fault leaves of a report
abbrev pub Stops : Option (List ℕ) → Option (List ℕ) → Option (List ℕ) → Bool → Bool → Fault → Type 0
Stops given old new = StopsBy (IsCutShort given old new) (IsRefused given old new) NeverUncertified old new
