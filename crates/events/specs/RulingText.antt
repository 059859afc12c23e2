-- A ruling as it is printed: what became of the line, and the spelling of its order.
use Rattle.std.specs.Prelude.{ℕ, List, []}
use Rattle.events.specs.declared.ruling.Ruling.{Ruling}
use Rattle.events.specs.declared.ruling.Ruling.TheVariants.{Obeyed, Refused, Faulty}
use Rattle.events.specs.declared.ruling.Verdict.{Verdict}
use Rattle.events.specs.declared.ruling.Verdict.TheVariants as verdict
use Rattle.order_grammar.specs.Print.{conditional_spelling}

-- what became of the line
abbrev pub verdict_of : Ruling → Verdict
verdict_of (Obeyed condition order) = verdict.Obeyed
verdict_of (Refused rule condition order) = verdict.Refused rule
verdict_of (Faulty fault) = verdict.Faulty fault

-- the spelling of its order, under its condition, if it has one; a fault has no order
abbrev pub order_text : Ruling → List ℕ
order_text (Obeyed condition order) = conditional_spelling condition order
order_text (Refused rule condition order) = conditional_spelling condition order
order_text (Faulty fault) = []
