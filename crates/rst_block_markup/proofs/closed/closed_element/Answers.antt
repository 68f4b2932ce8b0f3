use Rattle.std.proofs.Common.{ℕ, List, Bor, Option, option_map, false, sym, ap, ◌∙◌}
use Rattle.std.specs.Str.{chars}
use Rattle.std.proofs.lemmas.Str.{encodes-chars}
use Rattle.rst_text.specs.ViewBlock.{block_of}
use Rattle.rst_markup_directives.specs.Argument.{given_in, uri}
use Rattle.rst_markup_directives.specs.Options.{choices_in}
use Rattle.rst_block_nodes.specs.Options.{image_element}
use Rattle.rst_block_state.specs.Directives.{element_by}
use Rattle.rst_block_markup.specs.MarkupSteps.{read_of_directive}
use Rattle.rst_block_markup.proofs.closed.closed_element.Goals as goal

pub returns-in_ok-image-in-Uri-clause-element : goal.returns-in_ok-image-in-Uri-clause-element
returns-in_ok-image-in-Uri-clause-element c =
    let B = block_of c.args.view.now in
    let read = read_of_directive c.args.found.now in
    let line = c.args.line in
    let alt : Option (List ℕ) = option_map (λ (text : Bor (List ℕ)). text.now) c.args.alt in
    let t = c.as_str.result.now in
    c.in_ok-image-in-Uri.ensures
    ∙ ap (λ os. image_element t (choices_in os) line false alt) c.as_slice-options.ensures.value
    ∙ ap (λ u. image_element u read.options line false alt) (sym (encodes-chars t c.as_str.utf8))
    ∙ ap (λ u. element_by (uri (chars u)) alt B line read) c.as_str.ensures.value
    ∙ ap (λ a. element_by (given_in a) alt B line read) (sym c.in-Uri.is)
