use Rattle.std.proofs.Common.{◌≡◌, ◌++◌, length}
use Rattle.std.specs.Str.{IsUtf8, chars}
use Rattle.rst_markup_directives.specs.Options.{choices_in}
use Rattle.rst_block_nodes.specs.Formulas.{formulas, formulas_from, holder_after, parts_of}
use Rattle.rst_block_nodes.proofs.formula.formulas.Given as goal

abbrev pub invariant-loop-part : goal.invariant-loop-part
invariant-loop-part l =
    IsUtf8 l.rest
    × (l.nodes.items ++ formulas_from (holder_after l.nodes.items) l.element (choices_in l.options) l.line (parts_of (chars l.rest)) ≡ formulas l.element (choices_in l.options) l.line (chars l.text))

abbrev pub decreases-loop-part : goal.decreases-loop-part
decreases-loop-part l = length l.rest
