-- What the walk has read over the tree, and what is left.
use Rattle.std.proofs.Common.{◌≡◌, ◌≤◌, ℕ, Bool, true, false, Some, None, List, [], ◌∷◌, refl, ap, sym, ◌∙◌, subst}
use Rattle.std.proofs.Common.{arith}
use Rattle.map_tables.specs.declared.place.Stop.{Stop}
use Rattle.reach.specs.Position.{Position}
use Rattle.tables.specs.declared.rolling_stock.Kind.{Kind}
use Rattle.tables.specs.declared.roster.Company.{Company}
use Rattle.certificate.specs.Holding.{left_over}
use Rattle.certificate.specs.Read.{AreZeros}
use Rattle.certificate.specs.Tree.{Node, root_of}
use Rattle.certificate.specs.Walking.{AreCrossed, node_from, reached_in}
use Rattle.certificate.specs.declared.reader.Reader.{Reader}
use Rattle.certificate.proofs.Read.{if_whole, reached_are, root_is, root_is_between, walk_reads}
use Rattle.certificate.proofs.Walking.{none_crossed}
use Rattle.certificate.proofs.accept.marks_hold.Goals as goal

pub returns-then-not-choose : goal.returns-then-not-choose
returns-then-not-choose g c =
    let position : Position = g.N.Network.position c.args.network.now in
    let tree = c.of-tree.result in
    let reached : List Stop = reached_in tree in
    let trains : List Kind = c.args.trains.now in
    let revenue : ℕ = c.args.revenue in
    let low : revenue ≤ 4294967295 = omega arith in
    let bits : List Bool = g.M.Marks.left c.args.marks in
    let rest : List Bool = g.M.Marks.left c.choose.new.decider.marks in
    let nodes : List Node = node_from tree [] 0 ∷ [] in
    let walk = c.choose.ensures.walks [] (root_is_between position tree c.of-tree.ensures.tree)
    (subst (λ (u : List Bool). AreCrossed u []) (sym c.new-used.ensures) none_crossed) (omega arith) in
    let read = walk_reads {S = Reader g.row.M.Denot} (λ s. g.M.Marks.left s.marks) (λ s. s.revenue) position
    tree.company reached revenue low (record { marks = c.args.marks; revenue = revenue }) c.choose.new.decider
    nodes c.choose.result refl walk in
    let over : left_over position c.args.company reached revenue (root_of trains ∷ []) bits ≡ if_whole false rest =
    subst (λ (n : Node). left_over position c.args.company reached revenue (n ∷ []) bits ≡ if_whole false rest)
    (root_is tree trains c.of-tree.ensures.trains)
    (subst (λ (o : Company). left_over position o reached revenue nodes bits ≡ if_whole false rest)
    c.of-tree.ensures.company (read ∙ ap (λ (b : Bool). if_whole b rest) c.if-not-choose.true)) in
    let law = c.marks_are_read.ensures position c.args.company trains reached revenue bits
    (reached_are position c.args.company reached c.of-tree.ensures.reached) in (
      λ wrong. absurd cc,
      λ marks. let found = law.0 marks in let wrong : None ≡ Some found.filling =
          sym over ∙ found.left in absurd cc,
    )

pub returns : goal.returns
returns g c =
    let position : Position = g.N.Network.position c.args.network.now in
    let tree = c.of-tree.result in
    let reached : List Stop = reached_in tree in
    let trains : List Kind = c.args.trains.now in
    let revenue : ℕ = c.args.revenue in
    let low : revenue ≤ 4294967295 = omega arith in
    let bits : List Bool = g.M.Marks.left c.args.marks in
    let rest : List Bool = g.M.Marks.left c.choose.new.decider.marks in
    let nodes : List Node = node_from tree [] 0 ∷ [] in
    let walk = c.choose.ensures.walks [] (root_is_between position tree c.of-tree.ensures.tree)
    (subst (λ (u : List Bool). AreCrossed u []) (sym c.new-used.ensures) none_crossed) (omega arith) in
    let read = walk_reads {S = Reader g.row.M.Denot} (λ s. g.M.Marks.left s.marks) (λ s. s.revenue) position
    tree.company reached revenue low (record { marks = c.args.marks; revenue = revenue }) c.choose.new.decider
    nodes c.choose.result refl walk in
    let over : left_over position c.args.company reached revenue (root_of trains ∷ []) bits ≡ if_whole true rest =
    subst (λ (n : Node). left_over position c.args.company reached revenue (n ∷ []) bits ≡ if_whole true rest)
    (root_is tree trains c.of-tree.ensures.trains)
    (subst (λ (o : Company). left_over position o reached revenue nodes bits ≡ if_whole true rest)
    c.of-tree.ensures.company (read ∙ ap (λ (b : Bool). if_whole b rest) c.if-not-choose.false)) in
    let law = c.marks_are_read.ensures position c.args.company trains reached revenue bits
    (reached_are position c.args.company reached c.of-tree.ensures.reached) in (
      λ yes. law.1 (record { filling = rest; left = over; fill = c.are_zeros.ensures.0 yes }),
      λ marks.
          let found = law.0 marks in
          let same : Some found.filling ≡ Some rest = sym found.left ∙ over in
          let left : found.filling ≡ rest = cc in
          c.are_zeros.ensures.1 (subst (λ (l : List Bool). AreZeros 3 l) left found.fill),
    )
