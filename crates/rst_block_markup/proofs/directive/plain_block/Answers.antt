use Rattle.std.proofs.Common.{ℕ, List, [], ◌∷◌, drop, arith, refl, sym, ap, ◌∙◌}
use Rattle.rst_text.specs.Block.{first_number}
use Rattle.rst_text.specs.ViewBlock.{block_of}
use Rattle.rst_tree.specs.declared.node.Node.{Node}
use Rattle.rst_markup_directives.specs.Argument.{given_in}
use Rattle.rst_markup_directives.specs.Call.{is_empty}
use Rattle.rst_markup_directives.specs.Options.{choices_in}
use Rattle.rst_block_nodes.specs.Options.{directive_element}
use Rattle.rst_block_markup.specs.MarkupSteps.{read_of_directive}
use Rattle.rst_block_state.specs.Directives.{completed, holding}
use Rattle.rst_block_state.specs.Texts.{span_source}
use Rattle.rst_block_state.specs.machine.Meanings.{reads_from}
use Rattle.rst_block_state.specs.declared.waits.Waits.TheVariants.{Quotes}
use Rattle.rst_block_state.proofs.NextConstructs.{span_to}
use Rattle.rst_block_markup.proofs.DirectiveReads.{held, plain_comes}
use Rattle.rst_block_markup.proofs.PartLemmas.{content_reads}
use Rattle.rst_block_markup.proofs.directive.plain_block.Goals as goal

pub returns-in-Quotes : goal.returns-in-Quotes
returns-in-Quotes c =
    let B = block_of c.args.view.now in
    let l = c.args.level.now in
    let f = c.args.found.now in
    let x = c.in-Quotes in
    let at = first_number (drop l.at B) in
    let lines : List ℕ = span_source B (span_to l.at f.end) in
    let opened = c.opened.ensures in
    let new = c.opened.new.level in
    content_reads (Quotes x.class) f.content opened.opened tt tt c.requires.content c.requires.later opened.moved opened.at
    (plain_comes l new B (read_of_directive f) lines f.end c.args.pass.now.numbers at (Quotes x.class) c.opened.result
    (λ ns. ap (λ k. reads_from new B (holding k (choices_in f.options.items) (is_empty f.content) (directive_element f.kind.element (given_in f.argument) (choices_in f.options.items) at) at lines ns) new.at) (sym x.is))
    opened.opened opened.at opened.moved)
    refl (omega arith) (omega arith)

pub returns : goal.returns
returns c =
    let B = block_of c.args.view.now in
    let l = c.args.level.now in
    let f = c.args.found.now in
    let lines : List ℕ = span_source B (span_to l.at f.end) in
    let opened = c.opened-2.ensures in
    let new = c.opened-2.new.level in
    let node = c.in_ok-node.ensures ∙ ap (λ ss. directive_element f.kind.element (given_in f.argument) (choices_in ss) c.number_at-line.result) c.as_slice-options.ensures.value
    ∙ ap (directive_element f.kind.element (given_in f.argument) (choices_in f.options.items)) c.number_at-line.ensures in
    let at = first_number (drop l.at B) in
    let waits = c.in_ok-waits.waits in
    let own = c.in_ok-waits.ensures in
    content_reads waits f.content opened.opened own.one (own.waiting B new.at) c.requires.content c.requires.later opened.moved opened.at
    (plain_comes l new B (read_of_directive f) lines f.end c.args.pass.now.numbers at waits c.opened-2.result
    (λ ns. own.made new B ns ∙ ap (λ (x : List Node). reads_from new B x new.at)
    (ap (λ (x : Node). completed f.kind.content (choices_in f.options.items) x at lines ns) node
    ∙ sym (held f.kind.content (choices_in f.options.items) (is_empty f.content) _ at lines ns c.in_default.not-Quotes c.in_default.not-Classed)))
    opened.opened opened.at opened.moved)
    refl (omega arith) (omega (arith, own.looks))
