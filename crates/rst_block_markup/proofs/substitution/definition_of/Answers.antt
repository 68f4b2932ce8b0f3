use Rattle.std.proofs.Common.{◌≡◌, cond, true, false, [], ◌∷◌, Some, drop, arith, rules, refl, sym, ap, ◌∙◌}
use Rattle.std.specs.Prelude.{string_bytes}
use Rattle.rst_text.specs.Block.{first_number}
use Rattle.rst_text.specs.ViewBlock.{block_of}
use Rattle.rst_tree.specs.declared.node.Node.{Node}
use Rattle.rst_markup_directives.specs.Kind.{has_blocks}
use Rattle.rst_block_nodes.specs.Elements.{substitution_definition_node}
use Rattle.rst_block_nodes.specs.Sections.{filled}
use Rattle.rst_block_state.specs.Directives.{element_by, first_paragraph, replacement}
use Rattle.rst_block_state.specs.Inside.{content_blocks}
use Rattle.rst_block_state.specs.machine.Meanings.{within_at}
use Rattle.rst_block_state.specs.Numbered.{just}
use Rattle.rst_block_state.specs.Texts.{span_source}
use Rattle.rst_block_state.proofs.NextConstructs.{span_to}
use Rattle.rst_block_markup.specs.MarkupSteps.{made_of_content, read_of_directive}
use Rattle.rst_block_markup.proofs.PartLemmas.{part_as, put_reads}
use Rattle.rst_block_markup.proofs.substitution.definition_of.Goals as goal

pub returns-then-has_blocks : goal.returns-then-has_blocks
returns-then-has_blocks c =
    let B = block_of c.args.view.now in
    let l = c.args.level.now in
    let f = c.args.found.now in
    let read = read_of_directive f in
    let line = first_number (drop l.at B) in
    let name = string_bytes c.args.name in
    let blocks : has_blocks f.kind.content ≡ true = sym c.has_blocks.ensures ∙ (let p : c.has_blocks.result ≡ true = search rules in p) in
    let made = made_of_content (within_at l.depth) B f.content (λ nodes. replacement name line (span_source B (span_to l.at f.end)) (first_paragraph nodes) ∷ []) in
    part_as c.replacement.ensures
    (ap (λ b. cond b made (just (filled (substitution_definition_node name line) (element_by read.argument (Some name) B line read ∷ []) ∷ []))) (sym blocks))
    (ap (λ b. cond b (content_blocks B f.content) []) (sym blocks)) refl (omega arith) (omega arith)

pub returns : goal.returns
returns c =
    let B = block_of c.args.view.now in
    let l = c.args.level.now in
    let f = c.args.found.now in
    let read = read_of_directive f in
    let at = first_number (drop l.at B) in
    let line = c.number_at-line.result in
    let name = string_bytes c.args.name in
    let none : has_blocks f.kind.content ≡ false = sym c.has_blocks.ensures ∙ (let p : c.has_blocks.result ≡ false = search rules in p) in
    let opened = made_of_content (within_at l.depth) B f.content (λ nodes. replacement name at (span_source B (span_to l.at f.end)) (first_paragraph nodes) ∷ []) in
    let element : c.in_ok-element.element ≡ element_by read.argument (Some name) B at read =
    c.in_ok-element.ensures.element ∙ ap (λ t. element_by read.argument (Some t) B line read) c.as_str-name.ensures.value ∙ ap (λ k. element_by read.argument (Some name) B k read) c.number_at-line.ensures in
    let definition : c.in_ok-definition.definition ≡ substitution_definition_node name at =
    c.in_ok-definition.ensures ∙ ap (λ t. substitution_definition_node t line) c.as_str-name.ensures.value ∙ ap (substitution_definition_node name) c.number_at-line.ensures in
    let node : c.in_ok-filled.field-0 ≡ filled (substitution_definition_node name at) (element_by read.argument (Some name) B at read ∷ []) =
    c.in_ok-filled.ensures ∙ ap (filled c.in_ok-definition.definition) (c.in_ok-alone.ensures ∙ ap (λ (n : Node). n ∷ []) element)
    ∙ ap (λ (n : Node). filled n (element_by read.argument (Some name) B at read ∷ [])) definition in
    put_reads c.in_ok-filled.field-0 c.put.ensures c.requires.right.later
    (ap (λ (n : Node). just (n ∷ [])) node ∙ ap (λ b. cond b opened (just (filled (substitution_definition_node name at) (element_by read.argument (Some name) B at read ∷ []) ∷ []))) (sym none))
    (ap (λ b. cond b (content_blocks B f.content) []) (sym none)) refl (omega (arith, c.in_ok-element.ensures.looked.0)) (omega (arith, c.in_ok-element.ensures.looked.1))
