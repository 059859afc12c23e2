-- Each side adds its number to what the sides before it left.
use Rattle.std.proofs.Common.{sym, ◌∙◌}
use Rattle.std.specs.Prelude.{codes}
use Rattle.page_map.proofs.ClosedLemmas.{all_sides, said_behind}
use Rattle.page_map.proofs.hex_words.put_closed.Goals as goal

pub returns-then-has_closed_side : goal.returns-then-has_closed_side
returns-then-has_closed_side c fine =
    let sixth = c.put_closed_side-then-has_closed_side-5.ensures in
    let fifth = c.put_closed_side-then-has_closed_side-4.ensures in
    let fourth = c.put_closed_side-then-has_closed_side-3.ensures in
    let third = c.put_closed_side-then-has_closed_side-2.ensures in
    let second = c.put_closed_side-then-has_closed_side.ensures in
    let first = c.put_closed_side.ensures in
    let after_fifth = sixth.before fine in
    let after_fourth = fifth.before after_fifth in
    let after_third = fourth.before after_fourth in
    let after_second = third.before after_third in
    let after_first = second.before after_second in
    let after_words = first.before after_first in
    let within = c.within.ensures in
    let said = c.words.ensures in
    all_sides c.args.hex _ _ _ _ _ _ _ _ (sym c.has_closed_side.ensures ∙ c.if-has_closed_side.true)
    (said_behind _ _ _ _ (codes "; closed border at side") (within.added (said.before after_words)) within.spot
    (said.added after_words)) (first.added after_first) (second.added after_second) (third.added after_third)
    (fourth.added after_fourth) (fifth.added after_fifth) (sixth.added fine)
