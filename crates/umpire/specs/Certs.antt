-- What the writing of certificates leaves, by what the reader gave and what the writer held.
use Rattle.std.specs.Prelude.{◌⊎◌, ℕ, Bool, List, Option}
use Rattle.std.specs.Io.KnownBytes.{Appends, Keeps}
use Rattle.certificate.specs.declared.group.Group.{Group}
use Rattle.operating.specs.Calls.{Call}
use Rattle.rounds.specs.Steps.{Underway}
use Rattle.rounds.specs.StepsCall.{StepsCall}
use Rattle.sheets.specs.File.{IsAccepted}
use Rattle.umpire.specs.Certified.{AreCertified, CertifyGame}
use Rattle.umpire.specs.Failure.{AppendsPrefix}
use Rattle.umpire.specs.Run.{IsCutInRefusal, IsFileOf, IsRefused, NeverUncertified, StopsBy}
use Rattle.umpire.specs.Written.{certificates_text}
use Rattle.umpire.specs.declared.fault.Fault.{Fault}

-- the file is accepted, and the text of groups that certify its game follows what the writer held
pub record IsCertified (given old new : Option (List ℕ)) : Type 0 where
  pub file : List ℕ
  pub groups : List Group
  pub whole : IsFileOf given file
  pub accepted : IsAccepted file
  pub certify : CertifyGame file groups
  pub written : Appends old new (certificates_text groups)

-- a prefix of the text of groups follows what the writer held, and these certify the calls that the
-- first rounds of the file's game make, one step of play after the other
pub record IsCutInGroups (given old new : Option (List ℕ)) : Type 0 where
  pub file : List ℕ
  pub whole : IsFileOf given file
  pub accepted : IsAccepted file
  pub steps : ℕ
  pub play : Underway
  pub calls : List Call
  pub called : StepsCall steps file play calls
  pub groups : List Group
  pub certified : AreCertified calls groups
  pub prefix : AppendsPrefix old new (certificates_text groups)

-- nothing more is written, or such a prefix; or the file is refused, and it is a prefix of the line
-- that says so
abbrev pub AreCertificatesCut : Option (List ℕ) → Option (List ℕ) → Option (List ℕ) → Type 0
AreCertificatesCut given old new = Keeps old new ⊎ (IsCutInGroups given old new ⊎ IsCutInRefusal given old new)

-- what a fault leaves of certificates
abbrev pub StopsCerts : Option (List ℕ) → Option (List ℕ) → Option (List ℕ) → Bool → Bool → Fault → Type 0
StopsCerts given old new = StopsBy (AreCertificatesCut given old new) (IsRefused given old new) NeverUncertified old new
