use Rattle.std.proofs.Common.{true, false, sym, ◌∙◌, ap, arith}
use Rattle.std.proofs.lemmas.Bool.Decides.{nat_tests}
use Rattle.std.proofs.lemmas.List.{get_or_read}
use Rattle.rst_text.proofs.PlacesLemmas.{NoneFrom-more}
use Rattle.rst_text.specs.Escapes.{escapes}
use Rattle.rst_text.proofs.EscapeLemmas.{is_escaped-start, is_escaped-more}
use Rattle.rst_markup_directives.specs.Escapes.{is_bare_backquote}
use Rattle.rst_markup_directives.proofs.Bare.{bare-at, bare-some, bare-none}
use Rattle.rst_markup_directives.proofs.target.has_bare_backquote.Goals as goal

pub loop-c-init : goal.loop-c-init
loop-c-init c = record { escaped = sym (is_escaped-start c.args.text.now 0); none = λ k low high. absurd (omega arith) }

pub loop-c-preserved : goal.loop-c-preserved
loop-c-preserved c =
    let item = get_or_read c.args.text.now _ _ (omega arith) c.c-item.is 0 in
    let here = bare-at c.args.text.now c.loop-c.c-index _ c.loop-c.escaped false (omega arith) item c.loop-c.invariant.escaped (grind (arith, nat_tests)) in
    record {
      escaped = c.escapes-escaped.ensures ∙ ap (λ x. escapes x c.loop-c.escaped) item ∙ ap (escapes _) c.loop-c.invariant.escaped ∙ sym (is_escaped-more c.args.text.now 0 c.loop-c.c-index (omega arith));
      none = NoneFrom-more (is_bare_backquote c.args.text.now) 0 c.loop-c.c-index c.loop-c.invariant.none (λ low. here);
    }

pub returns-then-not-escaped : goal.returns-then-not-escaped
returns-then-not-escaped c =
    let item = get_or_read c.args.text.now _ _ (omega arith) c.c-item.is 0 in
    bare-some c.args.text.now c.loop-c.c-index (omega arith)
    (bare-at c.args.text.now c.loop-c.c-index _ c.loop-c.escaped true (omega arith) item c.loop-c.invariant.escaped (grind (arith, nat_tests))) c.loop-c.invariant.none

pub returns : goal.returns
returns c = bare-none c.args.text.now c.loop-c.c-index (omega arith) c.loop-c.invariant.none
