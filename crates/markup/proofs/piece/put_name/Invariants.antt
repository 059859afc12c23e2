use Rattle.std.proofs.Common.{◌≡◌, ◌++◌, filter, take, true, None}
use Rattle.std.specs.Char.{is_ascii_alphanumeric}
use Rattle.markup.specs.Written.{is_apart}
use Rattle.markup.proofs.piece.put_name.Given as goal

-- the letters and digits so far are there
abbrev pub invariant-loop-byte : goal.invariant-loop-byte
invariant-loop-byte l =
    (is_apart l.out.spot ≡ true)
    × (l.out.fault ≡ None → l.out.text.items
    ≡ l.initial.out.text.items ++ filter is_ascii_alphanumeric (take l.byte-index l.name))
