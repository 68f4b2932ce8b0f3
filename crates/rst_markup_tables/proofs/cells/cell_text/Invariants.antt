use Rattle.std.proofs.Common.{◌≡◌, ◌++◌, drop, string_bytes, encode_utf8_all}
use Rattle.rst_markup_tables.specs.Cells.{characters}
use Rattle.rst_markup_tables.proofs.cells.cell_text.Given as goal

abbrev pub invariant-loop-place : goal.invariant-loop-place
invariant-loop-place l = string_bytes l.text ++ encode_utf8_all (characters (drop l.place-index l.places)) ≡ encode_utf8_all (characters l.places)
