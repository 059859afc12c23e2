use Rattle.std.proofs.Common.{length}
use Rattle.desk_trials.proofs.check_mail.+begins_with_one.Given as goal

abbrev pub decreases-begins_with_one : goal.decreases-begins_with_one
decreases-begins_with_one l = length l.heads.now
