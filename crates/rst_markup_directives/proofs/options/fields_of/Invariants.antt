use Rattle.std.proofs.Common.{◌≡◌, ◌-◌, drop, length}
use Rattle.rst_markup_directives.specs.Lines.{texts_of}
use Rattle.rst_markup_directives.specs.Options.{fields_in, field_texts}
use Rattle.rst_markup_directives.proofs.FieldLemmas.{after_fields}
use Rattle.rst_markup_directives.proofs.options.fields_of.Given as goal

abbrev pub invariant-loop-i : goal.invariant-loop-i
invariant-loop-i l = after_fields (field_texts l.fields.items) (fields_in l.parts (drop l.i (texts_of l.run))) ≡ fields_in l.parts (texts_of l.run)

abbrev pub decreases-loop-i : goal.decreases-loop-i
decreases-loop-i l = length l.run - l.i
