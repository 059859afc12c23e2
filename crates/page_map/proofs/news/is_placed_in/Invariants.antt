use Rattle.std.proofs.Common.{◌≡◌, take, false}
use Rattle.std.specs.List.{fold}
use Rattle.page_map.specs.News.{is_token_at, new_then}
use Rattle.page_map.proofs.news.is_placed_in.Given as goal

-- whether the events so far have something new
abbrev pub invariant-loop-event : goal.invariant-loop-event
invariant-loop-event l = l.is_new ≡ fold (new_then (is_token_at l.stop l.company)) false (take l.event-index l.events)
