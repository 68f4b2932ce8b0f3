use Rattle.std.proofs.Common.{◌≡◌, ◌+◌, ℕ, length, slice_range, arith, rules, refl}
use Rattle.rst_text.specs.ViewBlock.{block_of}
use Rattle.rst_block_state.proofs.Changes.{moved_more}
use Rattle.rst_block_state.proofs.NextConstructs.{next_some, next_within}
use Rattle.rst_block_body.proofs.ReadLemmas.{alone_refused}
use Rattle.rst_block_body.proofs.TextsPaid.{flat_read, more_items, lines_looked}
use Rattle.rst_block_state.proofs.Views.{few_lines}
use Rattle.rst_block_body.proofs.adornment.wrong.Goals as goal

pub overflow_add-end : goal.overflow_add-end
overflow_add-end c = omega (arith, next_within c.requires.found c.requires.inside, few_lines c.args.view.now)

pub returns-in_err-close : goal.returns-in_err-close
returns-in_err-close c = alone_refused c.in_err-close.field-0.0 c.requires.found tt (search rules) c.in_err-close.ensures.closed

pub returns : goal.returns
returns c =
    let B = block_of c.args.view.now in
    let l = c.args.level.now in
    let found = c.requires.found in
    let stop : ℕ = l.at + c.args.form.lines in
    let looked : length (slice_range B l.at stop) ≡ c.args.form.lines = lines_looked B l.at _ (next_within found c.requires.inside) in
    let at : c.go_to.new.self.at ≡ stop = c.go_to.ensures.there (omega (arith, c.close.ensures.at, next_some found c.requires.inside)) in
    flat_read c.requires.inside found tt c.in_ok-close.ensures.closed
    (more_items _ (rw (c.in_ok-node.ensures, c.number_at-line.ensures, c.as_str.ensures.value, c.in_ok-block.ensures.bytes) refl) (moved_more c.go_to.ensures.moved at c.in_ok-push.ensures.more))
    (omega (arith, c.close.ensures.run, c.source.ensures.most)) (omega (arith, c.close.ensures.low, c.in_ok-block.ensures.each, looked))
