use Rattle.std.proofs.Common.{◌≡◌, take, None}
use Rattle.std.specs.List.{fold}
use Rattle.page_map.specs.News.{squares_then}
use Rattle.page_map.proofs.news.square_before_round.Given as goal

-- the squares by the events so far
abbrev pub invariant-loop-event : goal.invariant-loop-event
invariant-loop-event l = (l.before, l.now) ≡ fold (squares_then l.company) (None, None) (take l.event-index l.events)
