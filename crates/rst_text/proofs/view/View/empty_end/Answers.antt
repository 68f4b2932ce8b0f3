use Rattle.std.proofs.Common.{arith}
use Rattle.rst_text.proofs.Cuts.{length-block_of, part_fits, empty_in_view}
use Rattle.rst_text.proofs.view.View.empty_end.Goals as goal

pub overflow_add-self : goal.overflow_add-self
overflow_add-self c = let v = c.args.self.now in omega (arith, part_fits v c.args.i c.requires, v.fits, v.few)

pub empty_end-requires-clause-in_order : goal.empty_end-requires-clause-in_order
empty_end-requires-clause-in_order c = part_fits c.args.self.now c.args.i c.requires

pub returns : goal.returns
returns c =
    let v = c.args.self.now in
    record {
      above = omega (arith, c.empty_end.ensures.above);
      within = omega (arith, c.empty_end.ensures.within, length-block_of v);
      empty = λ k low high. empty_in_view v k (omega (arith, c.empty_end.ensures.within, length-block_of v)) (c.empty_end.ensures.empty _ (omega arith) (omega arith));
    }
