-- How far a company's turn had come: a token, a run, a payment and the purchase that it must make
-- are steps that it has done in the round that began last.
use Rattle.std.specs.Prelude.{List, Option, Some, None, if◌then◌else◌}
use Rattle.std.specs.List.{fold}
use Rattle.desk_why.specs.declared.done.Done.{Done}
use Rattle.desk_why.specs.declared.done.Done.TheVariants as done
use Rattle.events.specs.declared.event.Event.{Event}
use Rattle.events.specs.declared.event.Event.TheVariants as event
use Rattle.tables.specs.Roster.{same_company}
use Rattle.tables.specs.declared.roster.Company.{Company}

-- after an event of one company, as seen by another: this step, if the two are the same
abbrev pub done_if_own : Company → Company → Done → Option Done → Option Done
done_if_own its company step before = if same_company its company then Some step else before

-- after one more event
abbrev pub done_then : Company → Option Done → Event → Option Done
done_then company before (event.Round round) = None
done_then company before (event.Token its place cost) = done_if_own its company done.Token before
done_then company before (event.Runs its revenue) = done_if_own its company done.Run before
done_then company before (event.Dividend its holder amount) = done_if_own its company done.Pay before
done_then company before (event.Withheld its amount) = done_if_own its company done.Pay before
done_then company before (event.Forced its) = done_if_own its company done.Purchase before
done_then company before other = before

-- the last step that a company has done
abbrev pub last_done : List Event → Company → Option Done
last_done events company = fold (done_then company) None events
