-- The bound at a node where a run is begun.
use Rattle.std.proofs.Common.{◌≡◌, ℕ, ◌+◌, false, Option, drop, ap, sym, ◌∙◌, subst, length}
use Rattle.tables.specs.Train.{stops_of}
use Rattle.legal_runs.specs.Legal.{visited, worth}
use Rattle.certificate.specs.Ranking.{most_of}
use Rattle.legal_runs.specs.Set.{revenue_of_runs}
use Rattle.certificate.specs.Tree.{bound, may_all_earn, may_earn, new_values}
use Rattle.certificate.specs.Walked.{capped}
use Rattle.certificate.specs.Walking.{node_at, reached_in, trains_of_tree}
use Rattle.certificate.proofs.Walking.{bound_is, still_is}
use Rattle.certificate.proofs.tree_walk.ask.Goals as goal

pub returns : goal.returns
returns g c = λ position crossed assigned steps at_node.
    let stops = visited steps in
    let tree = c.args.tree.now in
    let begun = c.args.begun.now in
    let values = new_values position stops (reached_in tree) in
    let amount : ℕ = may_earn position (reached_in tree) begun.kind stops in
    let still : c.may_earn-still.result ≡ amount =
    c.may_earn-still.ensures position stops at_node.tree_is at_node.seen
    ∙ (ap (λ (left : Option ℕ). most_of left values) at_node.left
    ∙ sym (still_is (stops_of begun.kind) (length stops) values)) in
    let is : c.saturating_add-bound.result ≡ capped
    (bound position (reached_in tree) (node_at tree begun assigned steps)) =
    c.saturating_add-bound.ensures ∙ (ap (λ (n : ℕ). capped (n + begun.later)) c.saturating_add.ensures
    ∙ bound_is begun.value c.may_earn-still.result begun.later (revenue_of_runs position assigned) (worth position stops)
    amount (may_all_earn position (reached_in tree) (drop begun.next (trains_of_tree tree))) at_node.value still
    at_node.later) in
    subst (λ s. g.D.Decider.decides s (capped (bound position (reached_in tree) (node_at tree begun assigned steps)))
    false c.decide.result c.decide.new.self) (c.splits.ensures.«open» c.if-splits.false)
    (subst (λ (n : ℕ). g.D.Decider.decides c.splits.new.self n false c.decide.result c.decide.new.self) is
    c.decide.ensures)
