-- A walk over some nodes and then one over others is a walk over all of them; one that ends on the
-- way ends so.
use Rattle.std.proofs.Common.{ℕ, Bool, true, false, List, ◌++◌, append_assoc, subst}
use Rattle.map_tables.specs.declared.place.Stop.{Stop}
use Rattle.reach.specs.Position.{Position}
use Rattle.tables.specs.declared.roster.Company.{Company}
use Rattle.certificate.specs.Tree.{Node, children}
use Rattle.certificate.specs.Walked.{Walks, at_end, cuts, ends, splits}
use Rattle.certificate.specs.declared.decider.Decision.{Decision}

module _ {S : Type 0} (decides : S → ℕ → Bool → Decision → S → Type 0) (position : Position) (company : Company)
    (reached : List Stop) where
  abbrev Here : S → List Node → Bool → S → Type 0
  Here s nodes whole t = Walks decides position company reached s nodes whole t

  pub walks_both :
      (s t u : S) (first second : List Node) (whole : Bool) → Here s first true t → Here t second whole u
      → Here s (first ++ second) whole u
  walks_both s _ u _ second whole (at_end _) later = later
  walks_both s t u _ second whole (cuts _ middle _ node nodes _ decided walk) later =
      cuts s middle u node (nodes ++ second) whole decided (walks_both middle t u nodes second whole walk later)
  walks_both s t u _ second whole (splits _ middle _ node nodes _ decided walk) later =
      splits s middle u node (nodes ++ second) whole decided
      (subst (λ (all : List Node). Here middle all whole u)
      (append_assoc (children position company reached node) nodes second)
      (walks_both middle t u (children position company reached node ++ nodes) second whole walk later))

  pub walks_ended : (s t : S) (first second : List Node) → Here s first false t → Here s (first ++ second) false t
  walks_ended s t _ second (cuts _ middle _ node nodes _ decided walk) =
      cuts s middle t node (nodes ++ second) false decided (walks_ended middle t nodes second walk)
  walks_ended s t _ second (splits _ middle _ node nodes _ decided walk) =
      splits s middle t node (nodes ++ second) false decided
      (subst (λ (all : List Node). Here middle all false t)
      (append_assoc (children position company reached node) nodes second)
      (walks_ended middle t (children position company reached node ++ nodes) second walk))
  walks_ended s t _ second (ends _ _ node nodes decided) = ends s t node (nodes ++ second) decided
