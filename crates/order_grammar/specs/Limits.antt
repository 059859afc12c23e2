-- The limits of lines.
use Rattle.std.specs.Prelude.{ℕ}

-- the most bytes of a line, without its LF and a CR before that
abbrev pub line_most : ℕ
line_most = 1024

-- the most bytes of a line of the text of a certificate, without its LF and a CR before that
abbrev pub cert_line_most : ℕ
cert_line_most = 2048
