-- What the walk has written are the marks of the tree.
use Rattle.std.proofs.Common.{◌≡◌, ◌≤◌, ℕ, Bool, None, is_some, List, [], ◌∷◌, ◌++◌, append-nil, refl, ap, sym, ◌∙◌}
use Rattle.std.proofs.Common.{subst, arith}
use Rattle.map_tables.specs.declared.place.Stop.{Stop}
use Rattle.reach.specs.Position.{Position}
use Rattle.tables.specs.declared.rolling_stock.Kind.{Kind}
use Rattle.tables.specs.declared.roster.Company.{Company}
use Rattle.certificate.specs.Filled.{AreMarksFilled}
use Rattle.certificate.specs.Holding.{AreMarks, Writes}
use Rattle.legal_runs.specs.Set.{IsGreatest}
use Rattle.certificate.specs.Tree.{Node, root_of}
use Rattle.certificate.specs.Walking.{AreCrossed, node_from, reached_in}
use Rattle.certificate.specs.declared.writer.Writer.{Writer}
use Rattle.certificate.proofs.Read.{reached_are, root_is, root_is_between, walk_writes, whole_written}
use Rattle.certificate.proofs.Walking.{none_crossed}
use Rattle.certificate.proofs.accept.write_marks.Goals as goal

pub returns-in-None : goal.returns-in-None
returns-in-None g c =
    let position : Position = g.N.Network.position c.args.network.now in
    let tree = c.of-tree.result in
    let reached : List Stop = reached_in tree in
    let trains : List Kind = c.args.trains.now in
    let revenue : ℕ = c.args.revenue in
    let low : revenue ≤ 4294967295 = omega arith in
    let start : Writer = record { bits = c.new.result; revenue = revenue; refused = None } in
    let nodes : List Node = node_from tree [] 0 ∷ [] in
    let walk = c.choose-whole.ensures.walks [] (root_is_between position tree c.of-tree.ensures.tree)
    (subst (λ (u : List Bool). AreCrossed u []) (sym c.new-used.ensures) none_crossed) (omega arith) in
    let made = walk_writes {S = Writer} (λ w. w.bits) (λ w. w.revenue) (λ w. is_some w.refused) position tree.company
    reached revenue low start c.choose-whole.new.decider nodes c.choose-whole.result refl walk in
    let written = whole_written {S = Writer} (λ w. w.bits) (λ w. w.revenue) (λ w. is_some w.refused) position
    tree.company reached revenue low c.choose-whole.result start c.choose-whole.new.decider nodes made
    (ap is_some c.in-None.is) in
    let at_root : Writes position c.args.company reached revenue (root_of trains ∷ []) written.0 =
    subst (λ (n : Node). Writes position c.args.company reached revenue (n ∷ []) written.0)
    (root_is tree trains c.of-tree.ensures.trains)
    (subst (λ (o : Company). Writes position o reached revenue nodes written.0) c.of-tree.ensures.company written.1) in
    let bits : c.choose-whole.new.decider.bits ≡ written.0 =
    written.2 ∙ ap (λ (l : List Bool). l ++ written.0) c.new.ensures in
    let filled : IsGreatest position c.args.company trains revenue
    → AreMarksFilled position c.args.company trains revenue written.0 =
    λ greatest filling fills. c.written_marks_hold.ensures position c.args.company trains reached revenue written.0
    filling c.keeps_laws.ensures (reached_are position c.args.company reached c.of-tree.ensures.reached) greatest
    at_root fills
    in
    record {
      marks = λ greatest. subst (λ (l : List Bool). AreMarks position c.args.company trains revenue l)
          (append-nil written.0 ∙ sym bits) (filled greatest [] (omega arith, tt));
      filled = λ greatest. subst (λ (l : List Bool). AreMarksFilled position c.args.company trains revenue l)
          (sym bits) (filled greatest);
    }
