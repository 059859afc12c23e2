-- The train that a company without one must buy once the first train of a kind has been sold, if
-- nothing else is bought, sold or given up until then than what the bank sells before it. It is
-- the cheapest that the bank or the pool sells then.
use Rattle.std.specs.Prelude.{◌&&◌, Bool, false, not, nat_lt, if◌then◌else◌, List, Option, None, Some, find, pos, unwrap_or}
use Rattle.std.specs.Int.Signed.{lt_z}
use Rattle.events.specs.declared.event.Event.{Event}
use Rattle.purchases.specs.Train.{is_left}
use Rattle.totals.specs.Trains.{trains_held}
use Rattle.tables.specs.Train.{index_of_kind, kinds, rusting_of, same_kind}
use Rattle.tables.specs.declared.rolling_stock.Kind.{Kind}
use Rattle.tables.specs.declared.rolling_stock.Kind.TheVariants.{Six, Diesel}

-- trains that rust with the first train of this kind, if with any, are gone with the first of a
-- kind: it is that one, or an earlier one
abbrev pub are_gone_with : Kind → Option Kind → Bool
are_gone_with new None = false
are_gone_with new (Some rusting) = not (nat_lt (index_of_kind new) (index_of_kind rusting))

-- the lowest kind that the bank sells then: a 6 may be left when the first D is sold; of every other
-- kind that has begun its phase some are left
abbrev pub least_then : List Event → Kind → Kind
least_then events new = if same_kind new Diesel && is_left events Six then Six else new

-- the pool has a train of a kind then
abbrev pub is_pooled_then : List Event → Kind → Kind → Bool
is_pooled_then events new kind =
    lt_z (pos 0) (trains_held events None kind) && not (are_gone_with new (rusting_of kind))

-- the pool has a train of a kind then that is cheaper than those of the bank
unfoldable pub is_cheaper_then : List Event → Kind → Kind → Bool
is_cheaper_then events new kind =
    nat_lt (index_of_kind kind) (index_of_kind (least_then events new)) && is_pooled_then events new kind

-- the cheapest train that is for sale then: the kinds are in the order of their price
unfoldable pub cheapest_then : List Event → Kind → Kind
cheapest_then events new = unwrap_or (find (is_cheaper_then events new) kinds) (least_then events new)
