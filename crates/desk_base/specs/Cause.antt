-- Why no slot of a stop is free for a token.
use Rattle.std.specs.Prelude.{Bool, false, nat_lt, if◌then◌else◌, Option, Some, None}
use Rattle.board_state.specs.MapState.{MapState}
use Rattle.desk_base.specs.declared.cause.Cause.{Cause}
use Rattle.desk_base.specs.declared.cause.Cause.TheVariants.{NoSlot, SlotIsKept}
use Rattle.map_tables.specs.OnMap.{slots_at, taken_at}
use Rattle.map_tables.specs.declared.place.Stop.{Stop}

-- a stop has a slot in which no token lies, whether it is kept for a home or not
abbrev pub has_empty_slot : MapState → Option Stop → Bool
has_empty_slot laid None = false
has_empty_slot laid (Some stop) = nat_lt (taken_at laid.tokens stop) (slots_at laid.lays stop)

-- of a token at a stop of a city: a slot that is left is kept, or none is left
abbrev pub cause_of_slot : MapState → Option Stop → Cause
cause_of_slot laid stop = if has_empty_slot laid stop then SlotIsKept else NoSlot
