-- Messages that are written out, for worked examples. No rule of markup.
use Prim.Native.String.{String}
use Rattle.std.specs.Prelude.{codes, None}
use Rattle.rst_tree.specs.declared.note.Level.{Level}
use Rattle.rst_tree.specs.declared.note.Note.{Note}

-- a message on the first line, without source text
abbrev pub note : Level → String → Note
note level text = record { level = level; line = 1; text = codes text; block = None }
