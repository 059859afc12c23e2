use Rattle.std.proofs.Common.{◌≡◌, ◌<◌, ◌++◌, length, sym, ◌∙◌, arith}
use Rattle.std.proofs.lemmas.Bool.{eq-eqb, eqb-true}
use Rattle.certificate.specs.Digits.{bits_of, bits_of_bytes}
use Rattle.certificate.proofs.Digits.{none_there, some_behind, some_bytes, some_in_hand}
use Rattle.certificate.proofs.bits.BitReader.is_empty.Goals.{then-self-gt0-via-then-self-gt0}
use Rattle.certificate.proofs.bits.BitReader.is_empty.Goals.{then-self-gt0-via-else-self-gt0+then-self-gt0-2}
use Rattle.certificate.proofs.bits.BitReader.is_empty.Goals as goal

pub returns-then-self-gt0 : goal.returns-then-self-gt0
returns-then-self-gt0 c =
    let i = c.self.inside in (
      λ wrong. absurd cc,
      λ is. absurd (elim c.then-self-gt0.branch [
        | then-self-gt0-via-then-self-gt0 w ↦
            let some : 0 < i.left = omega arith in
            some_in_hand i.left i.«open» (bits_of_bytes i.bytes.now ++ bits_of i.count i.last) some
            (c.self.view_is ∙ is)
        | then-self-gt0-via-else-self-gt0+then-self-gt0-2 w ↦
            let some : 0 < i.count = omega arith in
            some_behind (bits_of i.left i.«open») i.bytes.now i.count i.last some (c.self.view_is ∙ is)
      ]),
    )

pub returns : goal.returns
returns c =
    let i = c.self.inside in
    let none : i.left ≡ 0 = omega arith in
    let behind : i.count ≡ 0 = omega arith in (
      λ is.
          let bytes : length i.bytes.now ≡ 0 = eqb-true (length i.bytes.now) 0 (sym c.is_empty.ensures ∙ is) in
          sym c.self.view_is ∙ none_there i.left i.«open» i.bytes.now i.count i.last none behind bytes,
      λ is. c.is_empty.ensures ∙ eq-eqb (length i.bytes.now) 0
          (some_bytes i.left i.«open» i.bytes.now (bits_of i.count i.last) none (c.self.view_is ∙ is)),
    )
