-- What a word that is the code of no fault and of no rule is the code of: nothing that a report
-- prints.
use Rattle.std.proofs.Common.{◌∙◌, ℕ, List, ap, arith, get_or, sym}
use Rattle.desk_base.specs.Reason.{NoFaultHasCode, NoneHasCode}
use Rattle.desk_base.specs.declared.reason.Reason.TheVariants as reason
use Rattle.events.specs.RuleCodes.{code_of_refusal}
use Rattle.events.specs.declared.ruling.Refusal.{Refusal}
use Rattle.order_grammar.specs.Fault.{code_of}
use Rattle.order_grammar.specs.declared.fault.Fault.{Fault}
use Rattle.sheets.specs.File.{code_of_fault}
use Rattle.sheets.specs.declared.fault.FileFault.TheVariants as file
use Rattle.tables.specs.RuleTexts.{HasCode, HasNotCode}

-- the code of a failed allocation is that of no fault that a report prints
pub memory_alone : (word : List ℕ) → HasCode word (code_of_fault file.Memory) → NoFaultHasCode word
memory_alone word is file.Memory printed other = cc
memory_alone word is _ printed other = omega (arith, ap (λ (codes : List ℕ). get_or codes 1 0) (other ∙ sym is))

-- each reason is a fault of a file, a fault of a line, or a rule of play
pub none_has : (word : List ℕ) → NoFaultHasCode word → ((fault : Fault) → HasNotCode word (code_of fault))
    → ((rule : Refusal) → HasNotCode word (code_of_refusal rule)) → NoneHasCode word
none_has word files lines rules (reason.File fault) reported = files fault reported
none_has word files lines rules (reason.Line fault) reported = lines fault
none_has word files lines rules (reason.Order rule) reported = rules rule
