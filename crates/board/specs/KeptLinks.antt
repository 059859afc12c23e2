-- The links of a hex that are kept as a value: a number of them, the first of those in it.
use Rattle.std.specs.Prelude.{List, take}
use Rattle.board.specs.declared.kept_links.KeptLinks.{KeptLinks}
use Rattle.map_tables.specs.declared.track.Link.{Link}

-- the links that are kept
abbrev pub held : KeptLinks → List Link
held kept = take kept.count kept.links
