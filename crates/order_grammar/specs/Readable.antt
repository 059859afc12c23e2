-- Where a line is no longer read.
use Rattle.std.specs.Prelude.{ℕ, ◌==◌, Bool, ◌||◌, not}
use Rattle.order_grammar.specs.Words.{is_printable}

-- a byte that begins a comment, or is not printable
abbrev pub is_end : ℕ → Bool
is_end byte = byte == 35 || not (is_printable byte)
