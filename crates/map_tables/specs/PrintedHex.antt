-- What the code keeps of the printed hex.
use Rattle.map_tables.specs.declared.print.PrintedHex.{PrintedHex}
use Rattle.map_tables.specs.Print.{Print}

-- the print that it keeps
abbrev pub print_seen : PrintedHex → Print
print_seen p =
    record {
      kind = p.kind;
      cost = p.cost;
      colour = p.colour;
      stops = p.stops;
      slots = p.slots;
      value =
          p.value;
      track = p.track.now;
    }
