use Rattle.std.proofs.Common.{◌≡◌, ap, sym, ◌∙◌}
use Rattle.rst_markup_directives.specs.Options.{choices_in}
use Rattle.rst_block_nodes.specs.TableRequests.{asked_of}
use Rattle.rst_block_markup.proofs.DirectiveReads.{element_waits, table_waits}
use Rattle.rst_block_markup.proofs.directive.content_waits.Goals as goal

pub returns-in_ok-new-in-Some : goal.returns-in_ok-new-in-Some
returns-in_ok-new-in-Some c =
    let asked = c.in_ok-table_options-in-Some.ensures ∙ ap (λ os. asked_of (choices_in os)) c.as_slice.ensures.value in
    table_waits c.args.found.now c.args.start c.in-Some.directive c.args.element c.in_ok-table_options-in-Some.field-0 c.in_ok-new-in-Some.field-0 (sym c.in-Some.is ∙ c.table_directive.ensures) c.in_ok-new-in-Some.ensures.ok asked

pub returns-in-None : goal.returns-in-None
returns-in-None c = element_waits c.args.found.now c.args.start c.args.element (sym c.in-None.is ∙ c.table_directive.ensures)
