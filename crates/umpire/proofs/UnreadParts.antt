-- The lines for unread lines, written a part at a time.
use Rattle.std.proofs.Common.{◌≡◌, ℕ, ◌+◌, List, [], ◌∷◌, ◌++◌, length, take, drop, ap, append_assoc, arith, sym}
use Rattle.std.proofs.Common.{take-append-drop, ◌∙◌}
use Rattle.std.specs.Prelude.{Option, codes, decimal}
use Rattle.std.specs.Io.KnownBytes.{Appends}
use Rattle.std.proofs.lemmas.List.{append-nil}
use Rattle.order_grammar.specs.Fault.{code_of}
use Rattle.order_grammar.specs.declared.fault.Fault.{Fault}
use Rattle.report.specs.Report.{unread_lines}
use Rattle.umpire.proofs.Parts.{LeavesRest}

-- a line, with lines of a part and more after it
line_parted : (first number code here there : List ℕ) →
    first ++ number ++ 32 ∷ code ++ 10 ∷ (here ++ there) ≡ (first ++ number ++ 32 ∷ code ++ 10 ∷ here) ++ there
line_parted first number code here there = simp append_assoc

-- the lines of a part, and then those of what comes after it
lines_parted : (before : ℕ) (part later : List Fault) →
    unread_lines before (part ++ later) ≡ unread_lines before part ++ unread_lines (before + length part) later
lines_parted before [] later = ap (λ n. unread_lines n later) (grind arith)
lines_parted before (fault ∷ part) later =
    let here : List ℕ = unread_lines (before + 1) part in
    let there : List ℕ = unread_lines (before + length (fault ∷ part)) later in
    let others : unread_lines (before + 1) (part ++ later) ≡ here ++ there =
    lines_parted (before + 1) part later ∙ ap (λ n. here ++ unread_lines n later) (grind arith) in
    rw others (line_parted (codes "UNREAD ") (decimal (before + 1)) (code_of fault) here there)

-- the lines of the first this many faults, and then those of the others
pub unread_parted : (before most : ℕ) (faults part later : List Fault) → part ≡ take most faults
    → later ≡ drop most faults →
    unread_lines before faults ≡ unread_lines before part ++ unread_lines (before + length part) later
unread_parted before most faults part later is_part is_later =
    let whole : faults ≡ part ++ later = rw (is_part, is_later) (sym (take-append-drop most faults)) in
    ap (λ all. unread_lines before all) whole ∙ lines_parted before part later

-- all are written, where none is left
pub all_unread_written : (old new : Option (List ℕ)) (text : List ℕ) (before : ℕ) (rest : List Fault) → rest ≡ [] →
    LeavesRest old new text (unread_lines before rest) → Appends old new text
all_unread_written old new text before rest none left =
    let nothing : unread_lines before rest ≡ [] = ap (λ faults. unread_lines before faults) none in
    let whole : left.done ≡ text = sym (append-nil left.done) ∙ ap (λ more. left.done ++ more) (sym nothing)
    ∙ left.whole in
    rw (← whole) left.appended
