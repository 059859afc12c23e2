-- A train that sets out from a reached stop. Its run has visited that stop alone, so where it leaves
-- the stop, the walk is over the nodes at which the train has set out from there.
use Rattle.std.proofs.Common.{◌≡◌, ℕ, ◌+◌, ◌-◌, ◌<◌, Bool, true, false, ◌||◌, Some, option_map, List, [], ◌∷◌, length}
use Rattle.std.proofs.Common.{replicate, set, refl, sym, subst}
use Rattle.map_tables.specs.Place.{joined_stop_of}
use Rattle.map_tables.specs.declared.place.Stop.{Stop}
use Rattle.reach.specs.Position.{IsAmong, Position, value_of}
use Rattle.reach.specs.Reached.{stop_order}
use Rattle.reach.specs.Walk.{entered_at, stop_of}
use Rattle.reach.specs.declared.walk.WalkStep.{WalkStep}
use Rattle.tables.specs.Train.{stops_of}
use Rattle.tables.specs.declared.rolling_stock.Kind.{Kind}
use Rattle.legal_runs.specs.Fault.{has_token_at_stop}
use Rattle.legal_runs.specs.Set.{TrainRun}
use Rattle.certificate.specs.Tree.{Node, goes_over, run_borders, steps_from, taken_borders, with_steps}
use Rattle.certificate.specs.Walked.{capped}
use Rattle.certificate.specs.Walking.{AreCrossed, Continues, IsBetweenRuns, IsOnRun, WalksOver, earned_from, kind_from}
use Rattle.certificate.specs.Walking.{node_at, node_from, reached_in, trains_of_tree}
use Rattle.certificate.specs.declared.decider.Decision.{Decision}
use Rattle.certificate.specs.declared.tree.Tree.{Tree}
use Rattle.certificate.specs.declared.tree_walk.Begun.{Begun}
use Rattle.certificate.proofs.OnRun.{node_out, on_run_from, out_continues, same_state}

module _ {S : Type 0} (decides : S → ℕ → Bool → Decision → S → Type 0) (position : Position) (tree : Tree) where
  -- the nodes ahead of a stop, once it is left
  abbrev Ahead : Stop → Node → S → Bool → S → Type 0
  Ahead stop node s whole t =
      WalksOver decides position tree s (with_steps (goes_over (taken_borders node)) node (steps_from position stop)) whole t

  pub left_from :
      (value place : ℕ) (used marks : List Bool) (assigned : List TrainRun) (kind : Kind) (stop : Stop) (begun : Begun)
      (s t : S) (whole : Bool) →
      IsBetweenRuns position tree value assigned → AreCrossed used (run_borders assigned)
      → place < length (trains_of_tree tree) → kind_from tree.groups place ≡ Some kind → begun.kind ≡ kind →
      begun.next ≡ capped (place + 1) → begun.later ≡ capped (earned_from tree.groups (capped (place + 1)))
      → begun.value ≡ capped (value + value_of position stop) →
      begun.left ≡ option_map (λ n. n - 1) (stops_of kind)
      → begun.own_token ≡ (has_token_at_stop position tree.company stop || false) →
      marks ≡ set (replicate 186 false) (stop_order stop) true → IsAmong stop (reached_in tree)
      → ((steps : List WalkStep) (stops : List Stop) → IsOnRun position tree begun used marks assigned steps stops →
      ((step : WalkStep) → stop_of (entered_at step) ≡ Some stop → Continues steps stops step)
      → joined_stop_of stop ≡ stop → Ahead stop (node_at tree begun assigned steps) s whole t) →
      Ahead stop (node_from tree assigned place) s whole t
  left_from value place used marks assigned kind stop begun s t whole at_node crossed low is train next later amount left
      own marked among walks =
      let there : IsOnRun position tree begun used marks assigned [] (stop ∷ []) =
      same_state position tree begun used (set (replicate 186 false) (stop_order stop) true) used marks assigned []
      (stop ∷ []) refl marked (on_run_from position tree value place used assigned kind stop begun at_node crossed low train
      next later amount left own) in
      subst (λ (n : Node). Ahead stop n s whole t)
      (sym (node_out position tree value place assigned kind begun at_node low is train next))
      (walks [] (stop ∷ []) there (λ step at. out_continues stop step at) (at_node.tree_is.named stop among))
