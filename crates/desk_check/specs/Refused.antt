-- Why a file is refused, if it is.
use Rattle.std.specs.Prelude.{Option, Some, None, Result, Ok, Err}
use Rattle.sheets.specs.File.{Content}
use Rattle.sheets.specs.declared.fault.FileFault.{FileFault}

-- the fault for which a file is refused that says this
abbrev pub refusal_in : Result Content FileFault → Option FileFault
refusal_in (Ok content) = None
refusal_in (Err fault) = Some fault
