-- What the program ends with: its exit status, and its word on standard error.
use Rattle.std.specs.Prelude.{ℕ, List, [], codes, Result, Ok, Err}
use Rattle.umpire.specs.declared.fault.Fault.{Fault}
use Rattle.umpire.specs.declared.fault.Fault.TheVariants.{Read, Write, Memory, File, Certificate}

-- 0 for a report, 2 for a refused file, 3 for a refused certificate, 4 if a read, a write or an
-- allocation failed
abbrev pub status_of : {A : Type 0} → Result A Fault → ℕ
status_of (Ok done) = 0
status_of (Err (File fault)) = 2
status_of (Err (Certificate round company)) = 3
status_of (Err other) = 4

-- the word for a fault; none for a refused file or certificate, of which a line was written
abbrev pub word_of : Fault → List ℕ
word_of Read = codes "Read"
word_of Write = codes "Write"
word_of Memory = codes "Memory"
word_of (File fault) = []
word_of (Certificate round company) = []
