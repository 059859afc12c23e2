-- The number of a stop under its own name is marked where the stop is.
use Rattle.std.proofs.Common.{◌≡◌, ℕ, Bool, true, false, List, get_or, sym, ◌∙◌, subst, arith}
use Rattle.reach.proofs.Collected.{named_number}
use Rattle.reach.proofs.Equal.{same_stop, stop_same}
use Rattle.reach.proofs.search.Marks.has_stop.Goals as goal

-- what is marked at a number is marked at one that is equal
at_number : (marks : List Bool) (n m : ℕ) (found : Bool) → n ≡ m → found ≡ get_or marks n false → found ≡ true
    → get_or marks m false ≡ true
at_number marks n m found same is marked = subst (λ k. get_or marks k false ≡ true) same (sym is ∙ marked)

pub returns-then-is_marked : goal.returns-then-is_marked
returns-then-is_marked c =
    let marks = c.args.self.now.marks in
    let stop = c.args.stop in (
      λ same.
          let named = sym c.joined_stop.ensures ∙ same_stop c.joined_stop.result stop (sym c.eq.ensures ∙ same) in (
            named,
            at_number marks _ _ c.is_marked.result
                (omega (arith, named_number stop named, c.index.ensures.value, c.index-2.ensures.value))
                c.is_marked.ensures c.if-is_marked.true,
          ),
      λ is. c.eq.ensures ∙ stop_same c.joined_stop.result stop (c.joined_stop.ensures ∙ is.0),
    )
