-- Each reason for which a file or a line is refused has a code of its own, the one that a report
-- prints, and a sentence.
use Rattle.std.specs.Prelude.{◌≡◌, ℕ, Bool, true, false, List}
use Rattle.order_grammar.specs.Fault.{code_of, sentence_of}
use Rattle.sheets.specs.File.{code_of_fault, sentence_of_fault}
use Rattle.sheets.specs.declared.fault.FileFault.{FileFault}
use Rattle.sheets.specs.declared.fault.FileFault.TheVariants as file
use Rattle.events.specs.RuleCodes.{code_of_refusal, sentence_of_refusal}
use Rattle.tables.specs.RuleTexts.{HasCode, HasNotCode}
use Rattle.desk_base.specs.declared.reason.Reason.{Reason}
use Rattle.desk_base.specs.declared.reason.Reason.TheVariants as reason

-- The code of a reason.
abbrev pub code_of_reason : Reason → List ℕ
code_of_reason (reason.File fault) = code_of_fault fault
code_of_reason (reason.Line fault) = code_of fault
code_of_reason (reason.Order rule) = code_of_refusal rule

-- The sentence of a reason.
abbrev pub sentence_of_reason : Reason → List ℕ
sentence_of_reason (reason.File fault) = sentence_of_fault fault
sentence_of_reason (reason.Line fault) = sentence_of fault
sentence_of_reason (reason.Order rule) = sentence_of_refusal rule

-- Whether a report prints the fault of a file: not that an allocation failed.
abbrev pub is_printed : FileFault → Bool
is_printed file.Memory = false
is_printed other = true

-- Whether a report prints the reason.
abbrev pub is_reported : Reason → Bool
is_reported (reason.File fault) = is_printed fault
is_reported other = true

-- A report prints the fault of a file, and a word is its code, in letters of either case.
abbrev pub HasFaultsCode : List ℕ → FileFault → Type 0
HasFaultsCode word fault = (is_printed fault ≡ true) × HasCode word (code_of_fault fault)

-- A word is the code of no fault of a file that a report prints.
abbrev pub NoFaultHasCode : List ℕ → Type 0
NoFaultHasCode word = (fault : FileFault) → is_printed fault ≡ true → HasNotCode word (code_of_fault fault)

-- A report prints the reason, and a word is its code, in letters of either case.
abbrev pub HasItsCode : List ℕ → Reason → Type 0
HasItsCode word reason = (is_reported reason ≡ true) × HasCode word (code_of_reason reason)

-- A word is the code of no reason that a report prints.
abbrev pub NoneHasCode : List ℕ → Type 0
NoneHasCode word = (reason : Reason) → is_reported reason ≡ true → HasNotCode word (code_of_reason reason)
