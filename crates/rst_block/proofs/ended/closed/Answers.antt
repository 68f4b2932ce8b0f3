use Rattle.std.proofs.Common.{◌++◌, rules, ap, ◌∙◌}
use Rattle.rst_text.specs.ViewBlock.{block_of, source_of}
use Rattle.rst_block_state.specs.Texts.{lines_in}
use Rattle.rst_block_state.specs.declared.open_block.OpenBlock.{OpenBlock}
use Rattle.rst_block_state.proofs.Calls.{refused_as, refuses}
use Rattle.rst_block.proofs.MachinePaid.{second_waits, last_waits}
use Rattle.rst_block.proofs.Waiting.{second_reads, last_reads}
use Rattle.rst_block.proofs.ended.closed.Goals as goal

pub returns-in-Some-clause-read : goal.returns-in-Some-clause-read
returns-in-Some-clause-read c =
    second_reads (source_of c.args.whole.now) c.args.frame c.args.level.now c.replace.result c.in-Some.second (block_of c.inside-part.result) c.append.new.self c.args.pass.now.numbers c.requires.inner c.in-Some.is
    (c.replace.ensures.value ∙ c.replace-done.ensures.after)
    (c.inside-part.ensures.block ∙ ap (λ Y. lines_in Y c.in-Some.second) c.at-view.ensures.block)
    (c.in_ok-append.ensures ∙ ap (λ (done : OpenBlock). c.args.frame.nodes ++ done.nodes) c.replace-done.ensures.value)

pub returns-in_err-next-in-None-clause-read : goal.returns-in_err-next-in-None-clause-read
returns-in_err-next-in-None-clause-read c =
    refuses c.from_residual-in_err-next-in-None.result c.in_err-next-in-None.field-0.0 _ _ (search rules)
    (refused_as c.in_err-next-in-None.field-0.0 _ _ _ _
    (last_reads (source_of c.args.whole.now) c.args.frame c.args.level.now c.replace-done.new.dest (block_of c.at-view.result) c.append.new.self c.args.pass.now.numbers c.requires.inner c.in-None.is c.replace-done.ensures.after c.at-view.ensures.block
    (c.in_ok-append.ensures ∙ ap (λ (done : OpenBlock). c.args.frame.nodes ++ done.nodes) c.replace-done.ensures.value))
    c.in_err-next-in-None.ensures.goes.read)

pub returns-clause-read : goal.returns-clause-read
returns-clause-read c =
    c.in_ok-next-in-None.ensures.goes.read
    ∙ last_reads (source_of c.args.whole.now) c.args.frame c.args.level.now c.replace-done.new.dest (block_of c.at-view.result) c.append.new.self c.args.pass.now.numbers c.requires.inner c.in-None.is c.replace-done.ensures.after c.at-view.ensures.block
    (c.in_ok-append.ensures ∙ ap (λ (done : OpenBlock). c.args.frame.nodes ++ done.nodes) c.replace-done.ensures.value)

pub returns-in-Some-clause-paid : goal.returns-in-Some-clause-paid
returns-in-Some-clause-paid c =
    second_waits (source_of c.args.whole.now) c.args.frame c.replace.result c.replace.new.dest c.in-Some.second (block_of c.inside-part.result) c.args.pass.now.looks c.in-Some.is
    (c.replace.ensures.value ∙ c.replace-done.ensures.after)
    (c.inside-part.ensures.block ∙ ap (λ Y. lines_in Y c.in-Some.second) c.at-view.ensures.block)
    (ap (λ (l : OpenBlock). l.depth) c.replace.ensures.after ∙ c.new.ensures.depth ∙ c.requires.depth)

pub returns-clause-paid : goal.returns-clause-paid
returns-clause-paid c =
    last_waits (source_of c.args.whole.now) c.args.frame c.replace-done.new.dest (block_of c.at-view.result) _ _ _ _ c.in-None.is c.replace-done.ensures.after c.at-view.ensures.block c.in_ok-next-in-None.ensures.goes.paid
