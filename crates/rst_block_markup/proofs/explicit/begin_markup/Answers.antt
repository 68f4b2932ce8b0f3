use Rattle.std.proofs.Common.{arith, rules}
use Rattle.rst_text.specs.ViewBlock.{block_of}
use Rattle.rst_block_state.proofs.Calls.{close_refuses}
use Rattle.rst_block_markup.proofs.MarkupReads.{joined_markup, begun_markup, markup_refused, has_markup}
use Rattle.rst_block_state.proofs.NextConstructs.{has_ended}
use Rattle.rst_block_markup.proofs.explicit.begin_markup.Goals as goal

pub returns-then-matches-clause-read : goal.returns-then-matches-clause-read
returns-then-matches-clause-read c =
    joined_markup (block_of c.args.view.now) c.args.pass.now.numbers (search rules) (has_markup c.args.level.now c.args.end c.args.level.now.untitled)

pub returns-clause-kept : goal.returns-clause-kept
returns-clause-kept c = c.in_ok-close.ensures.closed.depth

pub returns-clause-read : goal.returns-clause-read
returns-clause-read c =
    begun_markup (search rules) (has_ended (block_of c.args.view.now) _ c.in_ok-close.ensures.closed) (has_markup c.close.new.self c.args.end c.close.new.self.untitled)

pub returns-in_err-close-clause-read : goal.returns-in_err-close-clause-read
returns-in_err-close-clause-read c =
    let l = c.args.level.now in
    close_refuses c.from_residual.result c.in_err-close.field-0.0 _ _ _ l (search rules) c.in_err-close.ensures.closed
    (λ line h. markup_refused l (block_of c.args.view.now) c.args.end _ line (search rules) h)

pub returns-then-matches-clause-run : goal.returns-then-matches-clause-run
returns-then-matches-clause-run c = omega arith

pub returns-clause-run : goal.returns-clause-run
returns-clause-run c = omega (arith, c.close.ensures.run)
