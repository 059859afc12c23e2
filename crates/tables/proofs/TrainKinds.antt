-- Kinds of trains differ by their places among the kinds.
use Rattle.std.proofs.Common.{◌≡◌, ◌∙◌, ap, sym, refl, true, get_or}
use Rattle.std.proofs.lemmas.Bool.{eq-eqb, eqb-true}
use Rattle.tables.specs.Train.{index_of_kind, kinds, same_kind}
use Rattle.tables.specs.declared.rolling_stock.Kind.{Kind}
use Rattle.tables.specs.declared.rolling_stock.Kind.TheVariants.{Two}

-- a kind is at its place among the kinds
at_place : (kind : Kind) → get_or kinds (index_of_kind kind) Two ≡ kind
at_place Two = refl
at_place _ = refl

-- kinds that pass for one are one
pub kind_is : (a b : Kind) → same_kind a b ≡ true → a ≡ b
kind_is a b same =
    sym (at_place a) ∙ ap (λ n. get_or kinds n Two) (eqb-true (index_of_kind a) (index_of_kind b) same) ∙ at_place b

-- a kind passes for itself
pub kind_itself : (kind : Kind) → same_kind kind kind ≡ true
kind_itself kind = eq-eqb (index_of_kind kind) (index_of_kind kind) refl
