-- Why the desk returns no text.
use Rattle.desk_base.specs.declared.fault.DeskFault.{DeskFault}
use Rattle.desk_base.specs.declared.fault.DeskFault.TheVariants as desk
use Rattle.sheets.specs.declared.fault.FileFault.{FileFault}
use Rattle.sheets.specs.declared.fault.FileFault.TheVariants as file

-- where a file has no sheets: it is refused, or memory was
abbrev pub fault_of_file : FileFault → DeskFault
fault_of_file file.Memory = desk.Memory
fault_of_file fault = desk.File fault
