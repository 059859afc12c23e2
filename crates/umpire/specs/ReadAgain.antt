-- Certificates are read as they were written, and accepted.
use Rattle.std.specs.Prelude.{◌≡◌, ℕ, ◌≤◌, Option, Some, Ok, List, [], ◌∷◌, ◌++◌, length, Bool}
use Rattle.std.specs.List.{AllByRecursion}
use Rattle.certificate.specs.Holding.{AreFilling}
use Rattle.certificate.specs.declared.group.Group.{Group}
use Rattle.order_grammar.specs.Spells.{HasSpelling}
use Rattle.order_grammar.specs.declared.order.Order.TheVariants.{Cert, Claim}
use Rattle.sheets.specs.File.{IsAccepted}
use Rattle.umpire.specs.Certified.{CertifyGame}
use Rattle.umpire.specs.Groups.{groups_of}
use Rattle.umpire.specs.InputSplit.{certificates_most}
use Rattle.umpire.specs.Verify.{AnswersInput}
use Rattle.umpire.specs.Written.{certificates_text}

-- a group can be written: its CERT line and its CLAIM lines have a spelling
pub record CanBeWritten (group : Group) : Type 0 where
  pub cert : HasSpelling (Cert group.round group.company group.claim.revenue)
  pub claims : AllByRecursion (λ claimed. HasSpelling (Claim claimed.kind claimed.run)) group.claim.runs

-- a group is read again: the last digit of its bits is filled up
pub record IsReadAgain (group : Group) (read : Option Group) : Type 0 where
  pub filling : List Bool
  pub fills : AreFilling filling
  pub is : read ≡ Some (record {
    round = group.round;
    company = group.company;
    claim = group.claim;
    bits =
        group.bits ++ filling;
  })

-- groups are read again, one after the other
abbrev pub AreReadAgain : List Group → List (Option Group) → Type 0
AreReadAgain [] [] = Unit {0}
AreReadAgain [] (read ∷ others) = ⊥
AreReadAgain (group ∷ groups) [] = ⊥
AreReadAgain (group ∷ groups) (read ∷ others) = IsReadAgain group read × AreReadAgain groups others

-- groups that can be written are read again
abbrev pub ReadsBack : Type 0
ReadsBack = (groups : List Group) → AllByRecursion CanBeWritten groups
    → AreReadAgain groups (groups_of (certificates_text groups))

-- groups that certify a game can be written
abbrev pub CertifyingCanBeWritten : Type 0
CertifyingCanBeWritten =
    (file : List ℕ) (groups : List Group) → IsAccepted file → CertifyGame file groups
    → AllByRecursion CanBeWritten groups

-- `verify` writes the report of a file if groups that certify its game come after it and one LF,
-- and their text is within its limit
abbrev pub AcceptsWhatWasWritten : Type 0
AcceptsWhatWasWritten = (file : List ℕ) (groups : List Group) → IsAccepted file → CertifyGame file groups →
    length (certificates_text groups) ≤ certificates_most →
    (text : List ℕ) × AnswersInput (file ++ 10 ∷ certificates_text groups) (Ok tt) text
