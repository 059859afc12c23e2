-- Why there is no text of the desk.
use Rattle.std.proofs.Common.{ℕ, List}
use Rattle.desk_base.specs.Fault.{fault_of_file}
use Rattle.desk_base.specs.Refusal.{HasNone}
use Rattle.sheets.specs.File.{Fails, content_of}
use Rattle.sheets.specs.declared.fault.FileFault.{FileFault}
use Rattle.sheets.specs.declared.fault.FileFault.TheVariants.{Header, Players, TooLong, TooManySheets, Memory}

-- a file without sheets returns no text of the desk
pub none_where_it_fails : (fault : FileFault) (file : List ℕ) → Fails fault (content_of file)
    → HasNone (fault_of_file fault) file
none_where_it_fails Header file fails = fails
none_where_it_fails Players file fails = fails
none_where_it_fails TooLong file fails = fails
none_where_it_fails TooManySheets file fails = fails
none_where_it_fails Memory file fails = tt
