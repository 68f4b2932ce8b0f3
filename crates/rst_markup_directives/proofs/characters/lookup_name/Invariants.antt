use Rattle.std.proofs.Common.{◌≡◌, drop}
use Rattle.std.specs.Str.{str_eq_ignore_ascii_case}
use Rattle.rst_markup_directives.specs.Characters.{lookup, table_of}
use Rattle.rst_markup_directives.proofs.characters.lookup_name.Given as goal

abbrev pub invariant-loop-word : goal.invariant-loop-word
invariant-loop-word g l = lookup (str_eq_ignore_ascii_case l.name) (table_of (drop l.word-index l.table)) ≡ lookup (str_eq_ignore_ascii_case l.name) (table_of l.table)
