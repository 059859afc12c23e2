-- The colours of the tiles that may be laid in a phase, in words.
use Rattle.std.specs.Prelude.{ℕ, List, codes}
use Rattle.tables.specs.declared.rolling_stock.Kind.{Kind}
use Rattle.tables.specs.declared.rolling_stock.Kind.TheVariants.{Two, Three, Four, Five, Six, Diesel}

abbrev pub colours_of : Kind → List ℕ
colours_of Two = codes "yellow"
colours_of Three = codes "yellow, green"
colours_of Four = codes "yellow, green"
colours_of Five = codes "yellow, green, brown"
colours_of Six = codes "yellow, green, brown"
colours_of Diesel = codes "yellow, green, brown"
