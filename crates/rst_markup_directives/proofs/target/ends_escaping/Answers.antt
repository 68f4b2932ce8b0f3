use Rattle.std.proofs.Common.{sym, ◌∙◌, ap, arith}
use Rattle.std.proofs.lemmas.List.{get_or_read}
use Rattle.rst_text.specs.Escapes.{escapes}
use Rattle.rst_text.proofs.EscapeLemmas.{is_escaped-start, is_escaped-more}
use Rattle.rst_markup_directives.proofs.target.ends_escaping.Goals as goal

pub loop-c-init : goal.loop-c-init
loop-c-init c = sym (is_escaped-start c.args.text.now 0)

pub loop-c-preserved : goal.loop-c-preserved
loop-c-preserved c =
    c.escapes-escaped.ensures ∙ ap (λ x. escapes x c.loop-c.escaped) (get_or_read c.args.text.now _ _ (omega arith) c.c-item.is 0) ∙ ap (escapes _) c.loop-c.invariant
    ∙ sym (is_escaped-more c.args.text.now 0 c.loop-c.c-index (omega arith))
