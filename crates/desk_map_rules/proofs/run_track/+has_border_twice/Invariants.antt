use Rattle.std.proofs.Common.{length}
use Rattle.desk_map_rules.proofs.run_track.+has_border_twice.Given as goal

-- each call has one border less
abbrev pub decreases-has_border_twice : goal.decreases-has_border_twice
decreases-has_border_twice l = length l.borders.now
