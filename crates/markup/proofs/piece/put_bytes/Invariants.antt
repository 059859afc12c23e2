use Rattle.std.proofs.Common.{◌≡◌, ◌++◌, take, true, None}
use Rattle.std.specs.List.{flat_map}
use Rattle.markup.specs.Written.{is_apart, plain_of}
use Rattle.markup.proofs.piece.put_bytes.Given as goal

-- the bytes so far are there
abbrev pub invariant-loop-byte : goal.invariant-loop-byte
invariant-loop-byte l = record {
  spot : is_apart l.initial.out.spot ≡ true → l.out.spot ≡ l.initial.out.spot;
  before : l.out.fault ≡ None → l.initial.out.fault ≡ None;
  added : is_apart l.initial.out.spot ≡ true → l.out.fault ≡ None →
      l.out.text.items ≡ l.initial.out.text.items ++ flat_map plain_of (take l.byte-index l.bytes);
}
