use Rattle.replay.proofs.ShownLemmas.{kept_step}
use Rattle.replay.proofs.merge.add_old.Goals as goal

pub returns-in_ok-push_part-in-Some-clause-added : goal.returns-in_ok-push_part-in-Some-clause-added
returns-in_ok-push_part-in-Some-clause-added c =
    kept_step c.args.parts.now.items c.add_new.new.parts.items c.push_part.new.parts.items c.args.old c.args.page.now
    c.args.taken c.in-Some.place c.args.number c.requires.before c.in-Some.ensures c.in_ok-add_new-in-Some.ensures
    c.in_ok-push_part-in-Some.ensures
