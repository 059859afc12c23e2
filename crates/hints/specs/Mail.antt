-- What a mail does to a line.
use Rattle.std.specs.Prelude.{ℕ, if◌then◌else◌}
use Rattle.order_grammar.specs.Words.{is_printable}

-- a byte, or a space in place of a stray one
abbrev pub clean : ℕ → ℕ
clean byte = if is_printable byte then byte else 32
