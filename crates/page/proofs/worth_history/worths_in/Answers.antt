use Rattle.std.proofs.Common.{◌∙◌}
use Rattle.std.proofs.lemmas.Int.{to_z-of_z}
use mir.Syntax.{w128}
use Rattle.page.proofs.WorthLemmas.{six_same}
use Rattle.page.specs.WorthHistory.{worths_in}
use Rattle.page.proofs.worth_history.worths_in.Goals as goal

-- each of the six is worth that
pub returns : goal.returns
unfolding worths_in
returns c =
    six_same (to_z-of_z w128 c.worth_if.result (record { sfits = c.worth_if.type_inv }) ∙ c.worth_if.ensures)
    (to_z-of_z w128 c.worth_if-2.result (record { sfits = c.worth_if-2.type_inv }) ∙ c.worth_if-2.ensures)
    (to_z-of_z w128 c.worth_if-3.result (record { sfits = c.worth_if-3.type_inv }) ∙ c.worth_if-3.ensures)
    (to_z-of_z w128 c.worth_if-4.result (record { sfits = c.worth_if-4.type_inv }) ∙ c.worth_if-4.ensures)
    (to_z-of_z w128 c.worth_if-5.result (record { sfits = c.worth_if-5.type_inv }) ∙ c.worth_if-5.ensures)
    (to_z-of_z w128 c.worth_if-6.result (record { sfits = c.worth_if-6.type_inv }) ∙ c.worth_if-6.ensures)
