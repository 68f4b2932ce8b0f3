use Rattle.std.proofs.Common.{◌≡◌, ℕ, List, [], ◌∷◌, drop, false, true, arith, refl, rules, sym, ap, ◌∙◌}
use Rattle.rst_text.specs.Block.{first_number}
use Rattle.rst_text.specs.ViewBlock.{block_of}
use Rattle.rst_tree.specs.declared.node.Node.{Node}
use Rattle.rst_markup_directives.specs.Argument.{given_in}
use Rattle.rst_markup_directives.specs.Call.{is_empty}
use Rattle.rst_markup_directives.specs.Options.{choices_in}
use Rattle.rst_block_nodes.specs.Elements.{text_nodes}
use Rattle.rst_block_nodes.specs.Options.{directive_element}
use Rattle.rst_block_nodes.specs.Sections.{filled}
use Rattle.rst_block_markup.specs.MarkupSteps.{read_of_directive}
use Rattle.rst_block_state.specs.Directives.{class_nodes}
use Rattle.rst_block_state.specs.Texts.{span_source}
use Rattle.rst_block_state.specs.machine.Meanings.{reads_from}
use Rattle.rst_block_state.specs.declared.waits.Waits.TheVariants.{Classes, Element}
use Rattle.rst_block_state.proofs.NextConstructs.{span_to}
use Rattle.rst_block_markup.proofs.DirectiveReads.{class_held, plain_comes}
use Rattle.rst_block_markup.proofs.PartLemmas.{content_reads}
use Rattle.rst_block_markup.proofs.classes.class_block.Goals as goal

pub returns-then-not-is_empty : goal.returns-then-not-is_empty
returns-then-not-is_empty c =
    let B = block_of c.args.view.now in
    let l = c.args.level.now in
    let f = c.args.found.now in
    let at = first_number (drop l.at B) in
    let lines : List ℕ = span_source B (span_to l.at f.end) in
    let opened = c.opened.ensures in
    let new = c.opened.new.level in
    let element : Node = c.in_ok-element.element in
    let some = sym c.is_empty.ensures ∙ (let p : c.is_empty.result ≡ false = search rules in p) in
    let node = c.in_ok-element.ensures ∙ ap (λ ss. directive_element f.kind.element (given_in f.argument) (choices_in ss) c.number_at-line.result) c.as_slice-options.ensures.value
    ∙ ap (directive_element f.kind.element (given_in f.argument) (choices_in f.options.items)) c.number_at-line.ensures in
    content_reads (Classes element) f.content opened.opened tt tt c.requires.right.content c.requires.right.later opened.moved opened.at
    (plain_comes l new B (read_of_directive f) lines f.end c.args.pass.now.numbers at (Classes element) c.opened.result
    (λ ns. ap (λ (x : List Node). reads_from new B x new.at)
    (ap (λ (x : Node). class_nodes false x lines ns) node ∙ sym (class_held f.kind.content (choices_in f.options.items) (is_empty f.content) false _ at lines ns c.requires.content some)))
    opened.opened opened.at opened.moved)
    refl (omega arith) (omega arith)

pub returns : goal.returns
returns c =
    let B = block_of c.args.view.now in
    let l = c.args.level.now in
    let f = c.args.found.now in
    let at = first_number (drop l.at B) in
    let lines : List ℕ = span_source B (span_to l.at f.end) in
    let opened = c.opened-2.ensures in
    let new = c.opened-2.new.level in
    let element : Node = c.in_ok-element-2.element in
    let none = sym c.is_empty.ensures ∙ (let p : c.is_empty.result ≡ true = search rules in p) in
    let own = c.in_ok-element.ensures ∙ ap (λ ss. directive_element f.kind.element (given_in f.argument) (choices_in ss) c.number_at-line.result) c.as_slice-options.ensures.value
    ∙ ap (directive_element f.kind.element (given_in f.argument) (choices_in f.options.items)) c.number_at-line.ensures in
    let node = c.in_ok-element-2.ensures ∙ ap (filled c.in_ok-element.element) (c.in_ok-text_nodes.ensures ∙ ap text_nodes (c.as_str.ensures.value ∙ c.in_ok-lines.ensures.bytes))
    ∙ ap (λ (x : Node). filled x (text_nodes lines)) own in
    content_reads (Element element) f.content opened.opened tt tt c.requires.right.content c.requires.right.later opened.moved opened.at
    (plain_comes l new B (read_of_directive f) lines f.end c.args.pass.now.numbers at (Element element) c.opened-2.result
    (λ ns. ap (λ (x : List Node). reads_from new B x new.at)
    (ap (λ (x : Node). filled x ns ∷ []) node ∙ sym (class_held f.kind.content (choices_in f.options.items) (is_empty f.content) true _ at lines ns c.requires.content none)))
    opened.opened opened.at opened.moved)
    refl (omega (arith, c.in_ok-lines.ensures.each)) (omega (arith, c.source.ensures.most))
