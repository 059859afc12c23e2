-- What is left of the places makes of what was kept so far what the whole run makes. The links in
-- hand are those of the hex where the train is.
use Rattle.std.proofs.Common.{◌≡◌, ◌*◌, ◌≤◌, drop, length}
use Rattle.legal_runs.specs.Named.{made_along, travelled}
use Rattle.legal_runs.specs.Tally.{counted, no_steps}
use Rattle.reach.specs.Position.{links_of}
use Rattle.legal_runs.proofs.check.tally_of.Given as goal

abbrev pub invariant-loop-place : goal.invariant-loop-place
invariant-loop-place g l =
    let position = g.N.Network.position l.network in
    record {
      left : travelled (counted position l.company) position l.at l.tally (drop l.place-index l.place-items)
          ≡ made_along (counted position l.company) position (no_steps l.used) l.run;
      here : l.links.items ≡ links_of position l.at.hex;
      short : length l.place-items ≤ 280;
      few : l.tally.stops ≤ 4 * l.place-index;
      low : l.tally.value ≤ 80 * l.tally.stops;
    }
