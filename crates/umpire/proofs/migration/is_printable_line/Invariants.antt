use Rattle.std.proofs.Common.{◌≡◌, drop}
use Rattle.std.specs.List.{list_all}
use Rattle.order_grammar.specs.Words.{before_comment, is_printable}
use Rattle.umpire.proofs.migration.is_printable_line.Given as goal

-- the bytes ahead decide
abbrev pub invariant-loop-byte : goal.invariant-loop-byte
invariant-loop-byte l =
    list_all is_printable (before_comment l.line) ≡ list_all is_printable (before_comment (drop l.byte-index l.line))
