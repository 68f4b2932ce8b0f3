use Rattle.std.proofs.Common.{◌≡◌, ◌+◌, drop}
use Rattle.rst_markup_directives.specs.Lines.{texts_of}
use Rattle.rst_markup_directives.proofs.FieldLemmas.{deep_len}
use Rattle.rst_markup_directives.proofs.options.deep_len.Given as goal

abbrev pub invariant-loop-i : goal.invariant-loop-i
invariant-loop-i l = l.i + deep_len (texts_of (drop l.i l.run)) ≡ deep_len (texts_of l.run)
