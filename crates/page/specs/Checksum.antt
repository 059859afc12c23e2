-- What tells an order file from another: how many lines it has, and the checksum of 32 bits that
-- other programs name `crc32`. For that a text is divided, bit by bit, by a polynomial whose
-- coefficients are 0 or 1, and what is left is the checksum. The bits of each byte are taken from the lowest on, so
-- the polynomial stands with its bits reversed: 0xedb88320 is x to the power of 32, 26, 23, 22, 16,
-- 12, 11, 10, 8, 7, 5, 4, 2, 1 and 0, without the first.
use Rattle.std.specs.Prelude.{ℕ, ◌+◌, ◌/◌, ◌%◌, ◌==◌, Bool, false, not, if◌then◌else◌, bit_xor, List}
use Rattle.std.specs.List.{fold}

-- what is left after a bit
abbrev pub after_bit : ℕ → ℕ
after_bit rest = if rest % 2 == 1 then bit_xor (rest / 2) 0xedb8_8320 else rest / 2

-- what is left after four bits
abbrev pub after_four : ℕ → ℕ
after_four rest = after_bit (after_bit (after_bit (after_bit rest)))

-- what is left after a byte
abbrev pub after_byte : ℕ → ℕ → ℕ
after_byte rest byte = after_four (after_four (bit_xor rest byte))

-- the checksum of a text: at first all bits are set, and at last each is turned
abbrev pub checksum_of : List ℕ → ℕ
checksum_of text = bit_xor (fold after_byte 0xffff_ffff text) 0xffff_ffff

-- how many lines a text has up to here, and whether the last is not ended yet, after one more byte.
-- A line feed, 10, ends a line
abbrev pub lines_then : ℕ × Bool → ℕ → ℕ × Bool
lines_then lines byte = ((if lines.1 then lines.0 else lines.0 + 1), not (byte == 10))

-- how many lines a text has; an end without a line feed counts as one
abbrev pub line_count : List ℕ → ℕ
line_count text = (fold lines_then (0, false) text).0
