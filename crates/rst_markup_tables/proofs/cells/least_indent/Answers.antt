use Rattle.std.specs.Prelude.{unwrap_or}
use Rattle.std.proofs.Common.{◌≡◌, ◌∙◌, true, false, min, sym, ap, arith}
use Rattle.rst_text.proofs.Least.{lower, lower-is, least_from, least_from-all}
use Rattle.rst_markup_tables.proofs.Lists.{read_more}
use Rattle.rst_markup_tables.proofs.CellLemmas.{least_from-blank, least_from-dark, least_from-none}
use Rattle.std.proofs.lemmas.List.{at_drop_all}
use Rattle.std.specs.Str.{chars}
use Rattle.rst_text.specs.Block.{indentation, is_blank}
use Rattle.rst_text.specs.Source.{texts_with}
use Rattle.rst_text.specs.Text.{chars_of}
use Rattle.rst_markup_tables.specs.Cells.{as_lines}
use Rattle.rst_markup_tables.proofs.cells.least_indent.Goals as goal

pub loop-text-preserved-then-is_blank : goal.loop-text-preserved-then-is_blank
loop-text-preserved-then-is_blank c =
    let item = c.loop-text-item.result in
    let blank : is_blank (chars_of item.1) ≡ true = sym (c.is_blank.ensures ∙ ap (λ bytes. is_blank (chars bytes)) c.as_str.ensures.value) ∙ c.if-is_blank.true in
    let step = read_more c.args.texts.now c.loop-text.text-index item (omega arith) c.loop-text-item.is in
    sym (ap (λ ts. least_from c.loop-text.least (as_lines (texts_with ts))) step ∙ least_from-blank _ _ _ blank) ∙ c.loop-text.invariant

pub loop-text-preserved : goal.loop-text-preserved
loop-text-preserved c =
    let item = c.loop-text-item.result in
    let dark : is_blank (chars_of item.1) ≡ false = sym (c.is_blank.ensures ∙ ap (λ bytes. is_blank (chars bytes)) c.as_str.ensures.value) ∙ c.if-is_blank.false in
    let step = read_more c.args.texts.now c.loop-text.text-index item (omega arith) c.loop-text-item.is in
    let found = c.min.ensures ∙ ap (λ m. min m c.indentation-spaces.result) c.unwrap_or.ensures ∙ lower-is c.loop-text.least _ ∙ ap (lower c.loop-text.least) (c.indentation-spaces.ensures.value ∙ ap (λ bytes. indentation (chars bytes)) c.as_str-in-loop-text.ensures.value) in
    rw found (sym (ap (λ ts. least_from c.loop-text.least (as_lines (texts_with ts))) step ∙ least_from-dark _ _ _ dark) ∙ c.loop-text.invariant)

pub returns : goal.returns
returns c =
    let texts = c.args.texts.now in
    let all = at_drop_all (λ ts. least_from c.loop-text.least (as_lines (texts_with ts))) texts c.loop-text.text-index (omega arith) in
    c.unwrap_or-2.ensures ∙ ap (λ o. unwrap_or o 0) (sym (all ∙ least_from-none _) ∙ c.loop-text.invariant) ∙ least_from-all (as_lines (texts_with texts))
