use Rattle.std.proofs.Common.{◌≡◌, ◌∙◌, List, ◌∷◌, ◌++◌, sym, ap, rules}
use Rattle.std.specs.Str.{chars}
use Rattle.rst_text.specs.ViewBlock.{block_of}
use Rattle.rst_tree.specs.declared.node.Node.{Node}
use Rattle.rst_markup_directives.specs.Argument.{given_in}
use Rattle.rst_markup_directives.specs.Options.{choices_in}
use Rattle.rst_block_nodes.specs.Options.{directive_element, subtitle_chosen}
use Rattle.rst_block_nodes.specs.Readings.{subtitled}
use Rattle.rst_block_nodes.specs.Sections.{filled}
use Rattle.rst_block_markup.specs.MarkupSteps.{read_of_directive}
use Rattle.rst_block_state.specs.Directives.{titled_element}
use Rattle.rst_block_state.proofs.TextsRead.{titled_reads}
use Rattle.rst_block_markup.proofs.directive.titled_start.Goals as goal

pub returns-clause-read : goal.returns-clause-read
returns-clause-read c =
    let f = c.args.found.now in
    let line = c.args.line in
    let title = c.in_ok-title.title.element in
    let notes = c.in_ok-title.title.notes.items in
    let heads = c.in_ok-more.more.heads.items in
    let more = c.in_ok-more.more.notes.items in
    let slice = c.as_slice-options.ensures.value in
    let own : c.in_ok-own.own ≡ directive_element f.kind.element (given_in f.argument) (choices_in f.options.items) line =
    c.in_ok-own.ensures ∙ ap (λ ss. directive_element f.kind.element (given_in f.argument) (choices_in ss) line) slice in
    let made : c.match-element.node ≡ titled_element f.kind.element c.in_ok-own.own title = search rules in
    let nodes : c.append-3.new.nodes.items ≡ title ∷ heads ++ notes ++ more =
    c.in_ok-append-3.ensures
    ∙ ap (λ (ns : List Node). ns ++ more) (c.in_ok-append-2.ensures ∙ ap (λ (ns : List Node). ns ++ notes) (c.in_ok-append.ensures ∙ ap (λ (ns : List Node). ns ++ heads) c.in_ok-nodes.ensures)) in
    titled_reads line (read_of_directive f) (block_of c.args.lines.now) c.args.pass.now.numbers c.with_text.new.numbers c.subtitle.new.numbers title notes heads more c.in_ok-filled.field-0
    c.parts-parts.ensures.value c.first_line_or-title_line.ensures (ap chars c.as_str-text.ensures.value ∙ c.in_ok-text.ensures.text)
    c.in_ok-title.ensures.read
    (sym (ap (λ ss. subtitled c.parts-parts.result.now (subtitle_chosen (choices_in ss)) line c.with_text.new.numbers) slice) ∙ c.in_ok-more.ensures)
    (c.in_ok-filled.ensures ∙ ap (filled c.match-element.node) nodes
    ∙ ap (λ (n : Node). filled n (title ∷ heads ++ notes ++ more)) (made ∙ ap (λ (n : Node). titled_element f.kind.element n title) own))
