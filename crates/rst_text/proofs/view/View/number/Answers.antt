use Rattle.std.proofs.Common.{◌+◌, arith}
use Rattle.rst_text.proofs.Cuts.{in_view, number_in_view}
use Rattle.rst_text.proofs.view.View.number.Goals as goal

pub overflow_add-self : goal.overflow_add-self
overflow_add-self c = omega (arith, in_view c.args.self.now c.args.i c.requires, c.args.self.now.few)

pub number-requires : goal.number-requires
number-requires c = in_view c.args.self.now c.args.i c.requires

pub returns-clause-value : goal.returns-clause-value
returns-clause-value c = let v = c.args.self.now in omega (arith, c.number.ensures (v.from + c.args.i) (omega arith), number_in_view v c.args.i c.requires)

pub returns-clause-from_first : goal.returns-clause-from_first
returns-clause-from_first c = let v = c.args.self.now in omega (arith, c.number.ensures (v.from + 0) (omega arith), number_in_view v 0 (omega arith))
