-- The links before the next one have been followed.
use Rattle.std.proofs.Common.{take}
use Rattle.reach.specs.Position.{IsAmong, links_of}
use Rattle.reach.specs.Search.{IsEnteredAt, Spreads}
use Rattle.reach.proofs.search.follow_from.Given as goal

abbrev pub invariant-loop-link : goal.invariant-loop-link
invariant-loop-link g l =
    let position = g.N.Network.position l.network in
    let keeps = g.K.Keeper.keeps in
    Spreads position l.company (λ taken. IsAmong taken.link (take l.link-index (links_of position l.fn.at.hex))
    × IsEnteredAt l.fn.at taken) l.initial.marks.marks l.initial.marks.waiting (keeps l.initial.keeper)
    l.marks.marks l.marks.waiting (keeps l.keeper)
