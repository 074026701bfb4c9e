-- Why a file can't be opened. This project's own.
--     file_fault_text  what is told of that behind the refusal
use Rattle.std.specs.Prelude.{ℕ, List, codes}
use Rattle.xds_machine.specs.declared.files.FileFault.{FileFault}
use Rattle.xds_machine.specs.declared.files.FileFault.TheVariants.{NoFile, Forbidden, Unknown}

-- what is told of why a file can't be opened
abbrev pub file_fault_text : FileFault → List ℕ
file_fault_text NoFile = codes ": no such file"
file_fault_text Forbidden = codes ": not allowed"
file_fault_text Unknown = codes ""
