use Rattle.std.proofs.Common.{true≢false, true, length-drop, ◌≡◌, ◌∙◌, Some, None, sym, ap, drop, arith}
use Rattle.std.specs.Prelude.{is_some}
use Rattle.std.specs.Str.{chars}
use Rattle.rst_text.specs.Block.{Block, first_text}
use Rattle.rst_text.specs.Reach.{reach}
use Rattle.rst_text.specs.ViewBlock.{block_of}
use Rattle.rst_markup_lines.specs.ExplicitMarks.{dots, underscores}
use Rattle.rst_markup_blocks.proofs.ExplicitLaws.{explicit_within}
use Rattle.rst_markup_blocks.proofs.ExplicitLemmas.{explicit_in_at, explicit_ends_at, explicit_dots, explicit_anonymous, size_dots, size_other, indented_some}
use Rattle.rst_markup_blocks.specs.declared.forms.Explicit.TheVariants.{Anonymous}
use Rattle.rst_markup_blocks.proofs.RowLemmas.{kind_underscores}
use Rattle.rst_markup_lines.proofs.MarkBounds.{dots_within}
use Rattle.rst_markup_blocks.proofs.extents.explicit.Goals as goal

pub after_dots-requires-clause-marker : goal.after_dots-requires-clause-marker
after_dots-requires-clause-marker c = dots_within (chars c.line-text.result.now) c.in-Some.marker (sym c.dots.ensures ∙ c.in-Some.is)

pub unreachable-requires : goal.unreachable-requires
unreachable-requires c =
    let X : Block = drop c.args.i (block_of c.args.view.now) in
    let e : dots (first_text X) ≡ None = ap dots (sym c.line-text.ensures.text) ∙ sym c.dots.ensures ∙ c.in-None.is in
    let none : underscores (first_text X) ≡ None = ap underscores (sym c.line-text.ensures.text) ∙ sym c.underscores.ensures ∙ c.in_default.is in
    true≢false (sym (kind_underscores X c.requires.kind e) ∙ ap is_some none)

pub returns-in-Some : goal.returns-in-Some
returns-in-Some c =
    let B : Block = block_of c.args.view.now in
    let X : Block = drop c.args.i B in
    let e : dots (first_text X) ≡ Some c.in-Some.marker = ap dots (sym c.line-text.ensures.text) ∙ sym c.dots.ensures ∙ c.in-Some.is in
    let is = c.after_dots.ensures.explicit ∙ sym (explicit_dots c.args.i X c.in-Some.marker e) in
    record {
      explicit = is;
      within = explicit_in_at B c.args.i c.after_dots.result c.requires.inside is;
      end = explicit_ends_at c.args.i X c.after_dots.result is;
      looked = search (arith, (explicit_within true X (omega (arith, length-drop c.args.i B)) (ap is_some e)).0, size_dots X c.in-Some.marker e, ap (λ n. reach n X) (size_dots X c.in-Some.marker e));
    }

pub returns-in-Some-underscores : goal.returns-in-Some-underscores
returns-in-Some-underscores c =
    let B : Block = block_of c.args.view.now in
    let X : Block = drop c.args.i B in
    let e : dots (first_text X) ≡ None = ap dots (sym c.line-text.ensures.text) ∙ sym c.dots.ensures ∙ c.in-None.is in
    let f : underscores (first_text X) ≡ Some c.in-Some-underscores.marker = ap underscores (sym c.line-text.ensures.text) ∙ sym c.underscores.ensures ∙ c.in-Some-underscores.is in
    let is = ap (λ text. Anonymous text) c.target_part.ensures.part ∙ sym (explicit_anonymous c.args.i X c.in-Some-underscores.marker e f) in
    record {
      explicit = is;
      within = explicit_in_at B c.args.i _ c.requires.inside is;
      end = explicit_ends_at c.args.i X _ is;
      looked = search (arith, size_other X e, indented_some X);
    }
