use Rattle.std.proofs.Common.{Result, refl, ap, ◌∙◌}
use Rattle.order_grammar.specs.Condition.{put_conditional}
use Rattle.order_grammar.specs.Form.{play_forms}
use Rattle.order_grammar.specs.declared.condition.Condition.{Condition}
use Rattle.order_grammar.specs.declared.fault.Fault.{Fault}
use Rattle.order_grammar.proofs.WalkLemmas.{under_read}
use Rattle.order_grammar.proofs.condition.read_under.Goals as goal

pub returns : goal.returns
returns c =
    ap (λ (r : Result Condition Fault). put_conditional r c.read_nearest-read.new.order) c.condition_if_read.ensures
    ∙ under_read c.args.condition c.args.words.now c.duplicate-rest.result c.next.new.self c.next.result
    c.in-Some.first play_forms c.read_nearest-read.result c.read_nearest-read.new.order
    c.duplicate-rest.ensures c.next.ensures.steps c.in-Some.is refl c.read_nearest-read.ensures
