use Rattle.rst_text.specs.ViewBlock.{block_of}
use Rattle.rst_markup_directives.specs.Directive.{reading_in}
use Rattle.rst_markup_directives.proofs.DirectiveParts.{directive_in}
use Rattle.rst_markup_directives.proofs.calls.directive.Goals as goal

pub returns-in_ok-reading-in-Ok-clause-parts : goal.returns-in_ok-reading-in-Ok-clause-parts
returns-in_ok-reading-in-Ok-clause-parts c =
    directive_in (block_of c.args.view.now) c.in-Ok.kind _ c.args.block c.args.place c.args.paragraph _ (reading_in c.in_ok-reading-in-Ok.reading) c.judged_directive.result
    c.requires.block c.in_ok-reading-in-Ok.ensures.reading c.judged_directive.ensures
