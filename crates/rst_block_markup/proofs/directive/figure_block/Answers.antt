use Rattle.std.proofs.Common.{◌≡◌, drop, arith, refl, sym, ◌∙◌, List, ap}
use Rattle.std.specs.Prelude.{encode_utf8_all}
use Rattle.std.specs.Str.{chars}
use Rattle.rst_block_state.specs.Directives.{figure_of}
use Rattle.std.proofs.lemmas.Str.{encodes-chars}
use Rattle.rst_text.specs.Block.{first_number}
use Rattle.rst_text.specs.ViewBlock.{block_of}
use Rattle.rst_block_markup.specs.MarkupSteps.{read_of_directive, reads_with}
use Rattle.rst_block_state.specs.machine.Meanings.{within_at, comes}
use Rattle.rst_block_state.specs.Texts.{span_source}
use Rattle.rst_block_markup.proofs.DirectiveReads.{figure_is}
use Rattle.rst_block_markup.proofs.PartLemmas.{content_reads}
use Rattle.rst_block_state.proofs.NextConstructs.{span_to}
use Rattle.rst_tree.specs.declared.node.Node.{Node}
use Rattle.rst_markup_directives.specs.Options.{choices_in}
use Rattle.rst_block_state.specs.Figures.{caption_error, figure_nodes}
use Rattle.rst_block_state.specs.Numbered.{Numbered}
use Rattle.rst_block_state.specs.declared.waits.Waits.TheVariants.{Figure}
use Rattle.rst_block_markup.proofs.MarkupReads.{content_comes}
use Rattle.rst_block_markup.proofs.directive.figure_block.Goals as goal

pub returns : goal.returns
returns c = λ pass.
    let B = block_of c.args.view.now in
    let l = c.args.level.now in
    let f = c.args.found.now in
    let n = pass.numbers in
    let t = c.args.uri.now in
    let line = c.number_at-line.result in
    let at = first_number (drop l.at B) in
    let figure = c.in_ok-figure-2.figure in
    let lines = span_source B (span_to l.at f.end) in
    let opened = c.opened.ensures in
    let encoded : encode_utf8_all (chars t) ≡ t = encodes-chars t c.utf8.uri in
    content_reads (Figure figure l.at f.end) f.content opened.opened tt tt c.requires.content c.requires.later opened.moved opened.at
    (ap (λ s. comes c.opened.new.level B s n) opened.opened
    ∙ content_comes B (Figure figure l.at f.end) f.content (figure_nodes figure (caption_error at lines)) n opened.moved opened.at (λ ns. refl)
    ∙ ap (λ (read : Numbered (List Node)). reads_with l B read f.end n)
    (figure_is (within_at l.depth) B (read_of_directive f) t lines line at c.as_slice-options.result.now c.in_ok-figure.field-0 c.in_ok-image_node.image_node figure
    c.in_ok-alone.field-0.items c.in_ok-figure.ensures c.in_ok-image_node.ensures c.in_ok-alone.ensures c.in_ok-figure-2.ensures (ap choices_in c.as_slice-options.ensures.value) c.number_at-line.ensures
    ∙ ap (λ address. figure_of (within_at l.depth) B at (read_of_directive f) address lines) (sym encoded)))
    refl (omega arith) (omega arith)
