use Rattle.std.proofs.Common.{◌≡◌, ◌∷◌, drop, map}
use Rattle.std.specs.List.{fold}
use Rattle.rst_markup_directives.specs.Lines.{joined_nonempty, texts_of, with_line}
use Rattle.rst_markup_directives.proofs.options.joined_nonempty.Given as goal

abbrev pub invariant-loop-line : goal.invariant-loop-line
invariant-loop-line l = fold with_line l.text.items (map (drop l.cut) (texts_of (drop l.line-index l.lines))) ≡ joined_nonempty (l.fn.first.items ∷ map (drop l.cut) (texts_of l.lines))
