use Rattle.std.proofs.Common.{length}
use Rattle.desk_map_rules.proofs.run_rules.+has_stop_twice.Given as goal

-- each call has one stop less
abbrev pub decreases-has_stop_twice : goal.decreases-has_stop_twice
decreases-has_stop_twice l = length l.stops.now
