use Rattle.std.proofs.Common.{◌+◌, ◌∙◌, sym, arith}
use Rattle.rst_text.proofs.Cuts.{in_view, parts_in_view}
use Rattle.rst_text.proofs.view.View.parts.Goals as goal

pub returns-clause-value : goal.returns-clause-value
returns-clause-value c = let v = c.args.self.now in c.parts.ensures (v.from + c.args.i) (in_view v c.args.i (omega arith)) ∙ sym (parts_in_view v c.args.i (omega arith))

pub returns-clause-as_first : goal.returns-clause-as_first
returns-clause-as_first c _ = let v = c.args.self.now in c.parts.ensures (v.from + 0) (in_view v 0 (omega arith)) ∙ sym (parts_in_view v 0 (omega arith))
