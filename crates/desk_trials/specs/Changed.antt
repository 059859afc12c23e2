-- Which events of two games are compared: the rounds, the rulings and what was left of the sheets.
use Rattle.std.specs.Prelude.{Bool, true, false}
use Rattle.events.specs.declared.event.Event.{Event}
use Rattle.events.specs.declared.event.Event.TheVariants as event

-- an event is compared
abbrev pub is_said : Event → Bool
is_said (event.Round round) = true
is_said (event.Ruled seat line ruling) = true
is_said (event.Left seat lines) = true
is_said other = false
