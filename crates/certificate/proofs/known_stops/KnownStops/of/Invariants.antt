-- What is known so far is so.
use Rattle.std.proofs.Common.{◌≡◌, length}
use Rattle.certificate.proofs.KnownStops.{AreSo}
use Rattle.certificate.proofs.known_stops.KnownStops.of.Given as goal

abbrev pub invariant-loop-stop : goal.invariant-loop-stop
invariant-loop-stop g l =
    (length l.facts ≡ 186) × AreSo (g.N.Network.position l.network) l.company l.facts
