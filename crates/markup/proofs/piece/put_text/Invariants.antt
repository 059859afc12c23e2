use Rattle.std.proofs.Common.{◌≡◌, ◌++◌, take, None}
use Rattle.std.specs.List.{flat_map}
use Rattle.markup.specs.Escaped.{escape_of}
use Rattle.markup.proofs.piece.put_text.Given as goal

-- what is written of the bytes so far is there
abbrev pub invariant-loop-byte : goal.invariant-loop-byte
invariant-loop-byte l = record {
  spot : l.out.spot ≡ l.initial.out.spot;
  before : l.out.fault ≡ None → l.initial.out.fault ≡ None;
  added : l.out.fault ≡ None →
      l.out.text.items ≡ l.initial.out.text.items ++ flat_map escape_of (take l.byte-index l.text);
}
