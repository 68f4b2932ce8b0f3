use Rattle.std.proofs.Common.{◌≡◌, ◌∷◌, drop}
use Rattle.rst_markup_tables.specs.SimpleTable.{AreInOrder, are_clear}
use Rattle.rst_markup_tables.proofs.simple_rows.are_clear.Given as goal

abbrev pub invariant-loop-span : goal.invariant-loop-span
invariant-loop-span l = record {
  clear : are_clear (l.before ∷ drop l.span-index l.others) l.row ≡ are_clear l.fn.spans l.row;
  order : AreInOrder 0 (l.before ∷ drop l.span-index l.others);
}
