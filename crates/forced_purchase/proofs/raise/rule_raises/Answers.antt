-- The line in hand is ruled before those that are left.
use Rattle.std.proofs.Common.{◌≡◌, List, [], ◌∷◌, length, refl, ap, sym, ◌∙◌, arith}
use Rattle.std.specs.Vec.Iter.{into_iter_items}
use Rattle.totals.specs.LookBack.{Game}
use Rattle.forced_purchase.specs.Raise.{after_raises}
use Rattle.sheets.specs.Part.{Numbered}
use Rattle.forced_purchase.proofs.raise.rule_raises.Goals as goal

-- none is left
nothing_left : (lines : List Numbered) → length lines ≡ 0 → lines ≡ []
nothing_left [] is = refl
nothing_left (line ∷ lines) is = absurd (omega arith)

pub loop-held-preserved : goal.loop-held-preserved
loop-held-preserved c =
    let by = c.args.by in
    let due = c.args.due in
    let items : into_iter_items c.loop-held.left ≡ c.in-Some.held ∷ into_iter_items c.next.new.self =
    c.in-Some.ensures.items in
    let was = c.loop-held.invariant.len in
    let gone = c.in-Some.ensures.len in
    let short = ap length items in
    record {
      seats = c.in_ok-rule_raise.ensures.seats ∙ c.loop-held.invariant.seats;
      after =
          ap (λ (game : Game). after_raises due by game (into_iter_items c.next.new.self))
          c.in_ok-rule_raise.ensures.after
          ∙ ap (after_raises due by c.loop-held.history) (sym items)
          ∙ c.loop-held.invariant.after;
      game = c.in_ok-rule_raise.ensures.game;
      len = omega arith;
    }

pub returns-clause-after : goal.returns-clause-after
returns-clause-after c =
    let none = c.in_default.ensures.cases in
    let empty : into_iter_items c.loop-held.left ≡ [] = nothing_left _ (sym c.loop-held.invariant.len ∙ none.0) in
    ap (after_raises c.args.due c.args.by c.loop-held.history) (sym empty) ∙ c.loop-held.invariant.after
