-- Why the desk returns no text where it is asked for no round: the file is refused by this fault,
-- or allocation failed.
use Rattle.std.specs.Prelude.{◌≡◌, ℕ, List, Err, ⊤}
use Rattle.desk_base.specs.declared.fault.DeskFault.{DeskFault}
use Rattle.desk_base.specs.declared.fault.DeskFault.TheVariants.{File, Round, Memory}
use Rattle.sheets.specs.File.{content_of}

-- of a file there is no text, by this fault
abbrev pub HasNone : DeskFault → List ℕ → Type 0
HasNone (File fault) file = content_of file ≡ Err fault
HasNone Round file = ⊥
HasNone Memory file = ⊤
