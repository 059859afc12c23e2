-- A spot that is not marked leaves room: no more wait than are marked.
use Rattle.std.proofs.Common.{◌≡◌, ℕ, ◌<◌, Bool, true, false, List, length, get_or, set, arith, length-set}
use Rattle.std.proofs.lemmas.List.Sums.{count_by-le-length}
use Rattle.reach.specs.Search.{marked}
use Rattle.reach.proofs.Marking.{one_more}
use Rattle.reach.proofs.search.Marks.mark.Goals as goal

-- where one is not marked not all are
not_all : (marks : List Bool) (n : ℕ) → n < length marks → get_or marks n false ≡ false → marked marks < length marks
not_all marks n low off =
    omega (
      arith,
      one_more marks n low off,
      count_by-le-length (λ mark. mark) (set marks n true),
      length-set marks n
          true,
    )

pub push-requires : goal.push-requires
push-requires c =
    let marks = c.args.self.now.marks in
    let off : get_or marks c.spot_number-number.result false ≡ false = c.if-not-self-number.true in
    let room : marked marks < length marks = not_all marks c.spot_number-number.result (omega arith) off in
    let low : length c.args.self.now.waiting < 744 = omega (arith, c.args.self.now.few) in
    low
