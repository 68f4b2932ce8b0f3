use Rattle.std.proofs.Common.{◌≡◌, ◌++◌, drop}
use Rattle.rst_text.specs.Source.{texts_with}
use Rattle.rst_markup_tables.proofs.Texts.{drop_each}
use Rattle.rst_markup_tables.proofs.cells.shortened.Given as goal

abbrev pub invariant-loop-k : goal.invariant-loop-k
invariant-loop-k l = texts_with l.short.items ++ drop_each l.n (texts_with (drop l.k-index l.k-items)) ≡ drop_each l.n (texts_with l.fn.texts.items)
