-- The line by which a fault is reported.
use Rattle.std.specs.Prelude.{ℕ, List, [], ◌∷◌, ◌++◌, codes, decimal, string_bytes}
use Rattle.rst2pseudoxml_run.specs.declared.end.End.{End}
use Rattle.rst2pseudoxml_run.specs.declared.end.End.TheVariants.{Done, Read, TooLong, NotUtf8, NoMemory, WriteErr, WriteOut, TooDeep}
use Rattle.rst2pseudoxml_run.specs.declared.reporting.Stop.{Stop}
use Rattle.rst2pseudoxml_run.specs.declared.reporting.Stop.TheVariants.{Words, Options, Refused, Open, Ran}
use Rattle.rst2pseudoxml_options.specs.declared.fault.OptionFault.{OptionFault}
use Rattle.rst2pseudoxml_options.specs.declared.fault.OptionFault.TheVariants.{Usage, BadLevel, BadTab, BadLimit, TwoLevels, NoMemory as NoRoom}

abbrev pub end_message : End → List ℕ
end_message (Done status) = []
end_message Read = codes "read failed"
end_message TooLong = codes "input too long"
end_message (NotUtf8 at) = codes "not UTF-8 at byte " ++ decimal at
end_message NoMemory = codes "out of memory"
end_message (WriteErr done) = codes "write failed"
end_message (WriteOut done) = codes "write failed"
end_message (TooDeep line) = codes "line " ++ decimal line ++ codes ": nesting too deep"

abbrev pub option_message : OptionFault → List ℕ
option_message Usage = codes "bad arguments"
option_message BadLevel = codes "bad level"
option_message BadTab = codes "bad tab width"
option_message BadLimit = codes "bad line limit"
option_message TwoLevels = codes "two levels"
option_message NoRoom = codes "out of memory"

-- a message after the program's name
abbrev pub fault_line : List ℕ → List ℕ → List ℕ
fault_line program message = program ++ (codes ": " ++ (message ++ 10 ∷ []))

-- the line of a fault, and nothing for a run that is done
abbrev pub fault_line_of : List ℕ → Stop → List ℕ
fault_line_of program Words = fault_line program (codes "bad arguments")
fault_line_of program (Options fault) = fault_line program (option_message fault)
fault_line_of program (Refused words) = fault_line program (string_bytes words)
fault_line_of program (Open source) = fault_line program (codes "cannot open " ++ string_bytes source)
fault_line_of program (Ran (Done status)) = []
fault_line_of program (Ran end) = fault_line program (end_message end)

abbrev pub status_of : Stop → ℕ
status_of Words = 2
status_of (Options fault) = 2
status_of (Refused words) = 2
status_of (Open source) = 1
status_of (Ran (Done status)) = status
status_of (Ran end) = 1
