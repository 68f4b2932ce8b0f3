use Rattle.std.proofs.Common.{sym, ap, ◌∙◌}
use Rattle.std.specs.Option.{option_copied}
use Rattle.rst_markup_directives.specs.Lines.{texts_of}
use Rattle.rst_markup_directives.proofs.Indentations.{least_with, least_of}
use Rattle.rst_markup_directives.proofs.options.least_indentation.Goals as goal

pub loop-line-init : goal.loop-line-init
loop-line-init c =
    ap (λ n. least_with n (texts_of c.args.lines.now)) c.indentation-least.ensures.value ∙ least_of c.args.lines.now c.in-Some.first.now (sym c.first.ensures.value ∙ ap option_copied c.in-Some.is)
