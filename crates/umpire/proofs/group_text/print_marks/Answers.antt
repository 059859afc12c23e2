use Rattle.umpire.proofs.WrittenLemmas.{line_added}
use Rattle.umpire.proofs.group_text.print_marks.Goals as goal

pub returns-clause-printed : goal.returns-clause-printed
returns-clause-printed c =
    line_added c.args.text.now.items c.extend_from_slice.new.self.items c.print_digits.new.text.items
    c.push.new.self.items c.args.marks.now c.in_ok-extend_from_slice.ensures.items
    c.in_ok-print_digits.ensures.printed c.in_ok-push.ensures.items
