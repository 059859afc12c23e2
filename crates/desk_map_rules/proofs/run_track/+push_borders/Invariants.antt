use Rattle.std.proofs.Common.{length}
use Rattle.desk_map_rules.proofs.run_track.+push_borders.Given as goal

-- each call has one place less
abbrev pub decreases-push_borders : goal.decreases-push_borders
decreases-push_borders l = length l.places.now
