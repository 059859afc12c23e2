-- What the roster says of the map: the stop where each company's first token is placed, and the
-- hexes of each private.
use Rattle.std.specs.Prelude.{List, [], ◌∷◌}
use Rattle.tables.specs.declared.roster.Company.{Company}
use Rattle.tables.specs.declared.roster.Company.TheVariants.{Pennsylvania, NewYorkCentral, CanadianPacific}
use Rattle.tables.specs.declared.roster.Company.TheVariants.{BaltimoreOhio, ChesapeakeOhio, Erie, NewHaven, BostonMaine}
use Rattle.tables.specs.declared.roster.Private.{Private}
use Rattle.tables.specs.declared.roster.Private.TheVariants.{SchuylkillValley, ChamplainStLawrence, DelawareHudson}
use Rattle.tables.specs.declared.roster.Private.TheVariants.{MohawkHudson, CamdenAmboy}
use Rattle.tables.specs.declared.roster.Private.TheVariants.{BaltimoreOhio as BaltimoreOhioPrivate}
use Rattle.map_tables.specs.declared.hex.Hex.{Hex}
use Rattle.map_tables.specs.declared.hex.Hex.TheVariants.{H12, E19, A19, I15, F6, E11, G19, E23, G15, B20, F16, D18}
use Rattle.map_tables.specs.declared.hex.Hex.TheVariants.{H18, I13}
use Rattle.map_tables.specs.declared.place.Stop.{Stop}
use Rattle.map_tables.specs.declared.place.StopNumber.TheVariants.{First}
use Rattle.map_tables.specs.Place.{stop_at}

-- where a company's first token is placed
abbrev pub home_of : Company → Stop
home_of Pennsylvania = stop_at H12 First
home_of NewYorkCentral = stop_at E19 First
home_of CanadianPacific = stop_at A19 First
home_of BaltimoreOhio = stop_at I15 First
home_of ChesapeakeOhio = stop_at F6 First
home_of Erie = stop_at E11 First
home_of NewHaven = stop_at G19 First
home_of BostonMaine = stop_at E23 First

-- the hexes of a private
abbrev pub hexes_of_private : Private → List Hex
hexes_of_private SchuylkillValley = G15 ∷ []
hexes_of_private ChamplainStLawrence = B20 ∷ []
hexes_of_private DelawareHudson = F16 ∷ []
hexes_of_private MohawkHudson = D18 ∷ []
hexes_of_private CamdenAmboy = H18 ∷ []
hexes_of_private BaltimoreOhioPrivate = I13 ∷ I15 ∷ []
