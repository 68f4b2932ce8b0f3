use Rattle.std.proofs.Common.{◌≡◌, drop}
use Rattle.rst_markup_directives.specs.Lines.{texts_of}
use Rattle.rst_markup_directives.specs.Options.{least_indentation}
use Rattle.rst_markup_directives.proofs.Indentations.{least_with}
use Rattle.rst_markup_directives.proofs.options.least_indentation.Given as goal

abbrev pub invariant-loop-line : goal.invariant-loop-line
invariant-loop-line l = least_with l.least (texts_of (drop l.line-index l.lines)) ≡ least_indentation (texts_of l.lines)
