use Rattle.std.proofs.Common.{ℕ, List, drop, arith, refl, ap, ◌∙◌, sym}
use Rattle.rst_text.specs.Block.{Block, first_number}
use Rattle.rst_text.specs.ViewBlock.{block_of}
use Rattle.rst_block_markup.specs.MarkupSteps.{read_of_directive}
use Rattle.rst_block_state.specs.Directives.{titled_start}
use Rattle.rst_block_state.specs.Texts.{lines_in, span_source}
use Rattle.rst_block_state.proofs.NextConstructs.{span_to}
use Rattle.rst_block_markup.proofs.DirectiveReads.{titled_comes}
use Rattle.rst_block_markup.proofs.PartLemmas.{content_reads}
use Rattle.rst_block_markup.proofs.directive.titled_block.Goals as goal

pub returns : goal.returns
returns c =
    let B = block_of c.args.view.now in
    let l = c.args.level.now in
    let f = c.args.found.now in
    let X = lines_in B c.args.title in
    let line = c.number_at-line.result in
    let opened = c.opened.ensures in
    let start = sym (ap (λ (Y : Block). titled_start line (read_of_directive f) Y c.args.pass.now.numbers) c.inside-lines.ensures.block) ∙ c.in_ok-node.ensures.read in
    let new = c.opened.new.level in
    let lines : List ℕ = span_source B (span_to l.at f.end) in
    let waits = c.in_ok-waits.waits in
    let own = c.in_ok-waits.ensures in
    content_reads waits f.content opened.opened own.one (own.waiting B new.at) c.requires.right.content c.requires.right.later opened.moved opened.at
    (titled_comes l new B (read_of_directive f) X lines f.end c.args.pass.now.numbers c.titled_start.new.pass.numbers line (first_number (drop l.at B)) c.in_ok-node.node waits c.opened.result
    start c.number_at-line.ensures (λ ns. own.made new B ns) opened.opened opened.at opened.moved)
    refl (omega (arith, c.in_ok-node.ensures.looked)) (omega (arith, c.in_ok-node.ensures.looked, c.inside-lines.ensures.lines, own.looks))
