-- Where a round was played, its bulletin fails only if allocation fails.
use Rattle.std.proofs.Common.{◌≡◌, ℕ, List, Option, None, Some, sym, ◌∙◌}
use Rattle.desk_base.specs.Played.{HasNoRound, IsRoundFault}
use Rattle.desk_base.specs.declared.fault.DeskFault.{DeskFault}
use Rattle.desk_base.specs.declared.fault.DeskFault.TheVariants.{File, Round, Memory}
use Rattle.events.specs.declared.event.Event.{Event}
use Rattle.tables.specs.declared.round.Round as the_round
use Rattle.totals.specs.LookBack.{round_of}

-- a game with a last round has a bulletin of it
pub has_bulletin :
    (fault : DeskFault) (events : List Event) (round : the_round.Round) (file : List ℕ) (asked : Option the_round.Round)
    → round_of events ≡ Some round → HasNoRound events fault → IsRoundFault file asked fault
has_bulletin Round events round file asked last none =
    let wrong : ◌≡◌ {A = Option the_round.Round} None (Some round) = sym none ∙ last in
    absurd cc
has_bulletin Memory events round file asked last none = tt
has_bulletin (File fault) events round file asked last none = absurd none
