use Rattle.std.proofs.Common.{◌≡◌, ◌<◌, ◌++◌, ap, ◌∙◌, arith}
use Rattle.certificate.specs.Digits.{bits_of, bits_of_bytes}
use Rattle.certificate.specs.declared.bits.BitReader.TheInside.{Inside}
use Rattle.certificate.proofs.Digits.{open_byte, open_last, read_first}
use Rattle.certificate.proofs.bits.BitReader.read.Goals.{then-self-eq0+in-Some}
use Rattle.certificate.proofs.bits.BitReader.read.Goals.{then-self-eq0+in_default+else-self-eq0-2, else-self-eq0}
use Rattle.certificate.proofs.bits.BitReader.read.Goals as goal

pub returns : goal.returns
returns c =
    let i = c.if-self-eq0.self-inside in
    elim c.if-self-eq0.branch [
      | then-self-eq0+in-Some w ↦
          let left : i.left ≡ 8 = ap (λ (a : Inside). a.left) w.self-inside-is in
          let some : 0 < i.left = omega arith in
          read_first i.left i.«open» (bits_of_bytes i.bytes.now ++ bits_of i.count i.last) c.args.self.now some
          (ap (λ (a : Inside). bits_of a.left a.«open» ++ (bits_of_bytes a.bytes.now ++ bits_of a.count a.last))
          w.self-inside-is
          ∙ open_byte c.self.inside.left c.self.inside.«open» c.self.inside.bytes.now w.in-Some.later.now
          w.in-Some.first.now c.self.inside.count c.self.inside.last
          c.args.self.now w.if-self-eq0.true w.in-Some.ensures.cases.0 c.self.view_is)
      | then-self-eq0+in_default+else-self-eq0-2 w ↦
          let left : i.left ≡ c.self.inside.count = ap (λ (a : Inside). a.left) w.self-inside-is in
          let more : c.self.inside.count ≡ 0 → ⊥ = w.if-self-eq0-2.false in
          let some : 0 < i.left = omega arith in
          read_first i.left i.«open» (bits_of_bytes i.bytes.now ++ bits_of i.count i.last) c.args.self.now some
          (ap (λ (a : Inside). bits_of a.left a.«open» ++ (bits_of_bytes a.bytes.now ++ bits_of a.count a.last))
          w.self-inside-is
          ∙ open_last c.self.inside.left c.self.inside.«open» c.self.inside.bytes.now c.self.inside.count
          c.self.inside.last
          c.args.self.now w.if-self-eq0.true w.in_default.ensures.cases c.self.view_is)
      | else-self-eq0 w ↦
          let left : i.left ≡ c.self.inside.left = ap (λ (a : Inside). a.left) w.self-inside-is in
          let more : c.self.inside.left ≡ 0 → ⊥ = w.if-self-eq0.false in
          let some : 0 < i.left = omega arith in
          read_first i.left i.«open» (bits_of_bytes i.bytes.now ++ bits_of i.count i.last) c.args.self.now some
          (ap (λ (a : Inside). bits_of a.left a.«open» ++ (bits_of_bytes a.bytes.now ++ bits_of a.count a.last))
          w.self-inside-is ∙ c.self.view_is)
    ]
