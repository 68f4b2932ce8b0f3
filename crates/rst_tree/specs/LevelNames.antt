-- The levels of messages (Document Tree, 'system_message').
use Rattle.std.specs.Prelude.{ℕ, ◌==◌, if◌then◌else◌, List, codes}
use Rattle.rst_tree.specs.declared.note.Level.{Level}
use Rattle.rst_tree.specs.declared.note.Level.TheVariants.{Info, Warning, Error, Severe}

-- the name that is printed
unfoldable pub level_name : Level → List ℕ
level_name Info = codes "INFO"
level_name Warning = codes "WARNING"
level_name Error = codes "ERROR"
level_name Severe = codes "SEVERE"

-- the number that is printed
abbrev pub level_number : Level → ℕ
level_number Info = 1
level_number Warning = 2
level_number Error = 3
level_number Severe = 4

-- the level that has a number: where none has it, the gravest
abbrev pub level_by_number : ℕ → Level
level_by_number n = if n == 1 then Info else (if n == 2 then Warning else (if n == 3 then Error else Severe))
