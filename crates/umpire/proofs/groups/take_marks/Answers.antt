use Rattle.umpire.proofs.GroupLemmas.{marks_taken, second_given}
use Rattle.umpire.proofs.groups.take_marks.Goals as goal

pub returns-in-Some : goal.returns-in-Some
returns-in-Some c =
    let word = second_given _ c.next.new.self c.next-2.new.self c.next.result c.next-2.result c.in-Some.digits
    c.next.ensures.steps c.next-2.ensures.steps c.in-Some.is in
    marks_taken c.args.group.now _ c.in-Some.digits.text.now c.add_digits.new.self c.add_digits.result word
    c.add_digits.ensures
