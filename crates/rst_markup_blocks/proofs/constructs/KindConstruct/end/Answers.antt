use Rattle.std.proofs.Common.{Some, None, true, ◌+◌, ◌≡◌, ◌-◌, length, length-drop, drop, ap, sym, ◌∙◌, subst, IsTrue, arith}
use Rattle.std.specs.Option.{option_or}
use Rattle.std.specs.Str.{chars}
use Rattle.rst_text.specs.Block.{Block, first_text}
use Rattle.rst_text.specs.Reach.{reach}
use Rattle.rst_text.specs.ViewBlock.{block_of}
use Rattle.rst_text.proofs.Reaches.{looked_is}
use Rattle.rst_markup_lines.specs.ExplicitMarks.{dots}
use Rattle.rst_markup_lines.proofs.MarkBounds.{dots_within}
use Rattle.rst_markup_lines.specs.Marker.{bullet}
use Rattle.rst_markup_lines.specs.Enumerator.{enumerator_of}
use Rattle.rst_markup_blocks.specs.Ends.{row_reach, row_size}
use Rattle.rst_markup_blocks.specs.TableRows.{lines_through, simple_size}
use Rattle.rst_markup_blocks.specs.Kinds.{row_holds}
use Rattle.rst_markup_blocks.specs.declared.lines.LineTest.TheVariants.{Drawn}
use Rattle.rst_markup_blocks.proofs.TableLaws.{grid_drawn, while_some}
use Rattle.rst_markup_blocks.proofs.ExplicitLaws.{explicit_within}
use Rattle.rst_markup_blocks.proofs.ExplicitLemmas.{explicit_ends_at, explicit_dots, size_dots}
use Rattle.rst_markup_blocks.proofs.EndLemmas.{bullet_is, enumerator_is, enumerator_none}
use Rattle.rst_markup_blocks.proofs.TableLemmas.{grid_size-is, drawn_reach, simple_size-is, scan_some, scan_reach}
use Rattle.rst_markup_blocks.proofs.constructs.KindConstruct.end.Goals as goal

pub returns-in-Quote-clause-looked : goal.returns-in-Quote-clause-looked
returns-in-Quote-clause-looked c =
    let X : Block = drop c.args.i (block_of c.args.view.now) in search (arith, looked_is 1 X, ap (λ k. row_reach k c.args.titles X) c.in-Quote.is)

pub returns-in-Some : goal.returns-in-Some
returns-in-Some c =
    let X : Block = drop c.args.i (block_of c.args.view.now) in
    let size = bullet_is X c.in-Some.marker (ap bullet (sym c.line.ensures.text) ∙ sym c.bullet.ensures ∙ c.in-Some.is) in
    search (arith, size, ap (λ n. reach n X) size, ap (λ k. row_size k c.args.titles X) c.in-Bullet.is, ap (λ k. row_reach k c.args.titles X) c.in-Bullet.is)

pub returns-in-Some-enumerator_of : goal.returns-in-Some-enumerator_of
returns-in-Some-enumerator_of c =
    let X : Block = drop c.args.i (block_of c.args.view.now) in
    let size = enumerator_is X c.in-Some-enumerator_of.enumerator (ap enumerator_of (sym c.line-in-Enumerator.ensures.text) ∙ sym c.enumerator_of.ensures ∙ c.in-Some-enumerator_of.is) in
    search (arith, size, ap (λ n. reach n X) size, ap (λ k. row_size k c.args.titles X) c.in-Enumerator.is, ap (λ k. row_reach k c.args.titles X) c.in-Enumerator.is)

pub returns-in-None-enumerator_of : goal.returns-in-None-enumerator_of
returns-in-None-enumerator_of c =
    let X : Block = drop c.args.i (block_of c.args.view.now) in
    let size = enumerator_none X (ap enumerator_of (sym c.line-in-Enumerator.ensures.text) ∙ sym c.enumerator_of.ensures ∙ c.in-None-enumerator_of.is) in
    search (arith, size, ap (λ n. reach n X) size, ap (λ k. row_size k c.args.titles X) c.in-Enumerator.is, ap (λ k. row_reach k c.args.titles X) c.in-Enumerator.is)

pub returns-in-Simple : goal.returns-in-Simple
returns-in-Simple c =
    let B : Block = block_of c.args.view.now in
    let X : Block = drop c.args.i B in
    let all : c.len-in-Simple.result - c.args.i ≡ length X = omega (arith, length-drop c.args.i B) in
    let size : c.size.result ≡ simple_size X =
    c.size.ensures ∙ ap (λ n. lines_through n (option_or c.simple_borders.result.bottom c.simple_borders.result.head)) all
    ∙ simple_size-is X c.simple_borders.result.head c.simple_borders.result.bottom c.simple_borders.ensures.head c.simple_borders.ensures.bottom in
    record {
      end = search (arith, size, ap (λ k. row_size k c.args.titles X) c.in-Simple.is);
      looked = search (arith, scan_some X (omega (arith, length-drop c.args.i B)), scan_reach X, ap (λ k. row_reach k c.args.titles X) c.in-Simple.is);
    }

pub returns-in-Some-grid_bottom : goal.returns-in-Some-grid_bottom
returns-in-Some-grid_bottom c =
    let B : Block = block_of c.args.view.now in
    let X : Block = drop c.args.i B in
    let begins = subst (λ k. IsTrue (row_holds k X)) c.in-Grid.is c.requires.begins in
    let one = while_some Drawn X (omega (arith, length-drop c.args.i B)) (grid_drawn (first_text X) begins) in
    search (arith, one, drawn_reach X, grid_size-is X (Some c.in-Some-grid_bottom.k) c.in-Some-grid_bottom.ensures.bottom, ap (λ k. row_size k c.args.titles X) c.in-Grid.is, ap (λ k. row_reach k c.args.titles X) c.in-Grid.is)

pub returns-in-None-grid_bottom : goal.returns-in-None-grid_bottom
returns-in-None-grid_bottom c =
    let B : Block = block_of c.args.view.now in
    let X : Block = drop c.args.i B in
    let begins = subst (λ k. IsTrue (row_holds k X)) c.in-Grid.is c.requires.begins in
    let one = while_some Drawn X (omega (arith, length-drop c.args.i B)) (grid_drawn (first_text X) begins) in
    search (arith, one, drawn_reach X, grid_size-is X None c.in-None-grid_bottom.ensures.bottom, ap (λ k. row_size k c.args.titles X) c.in-Grid.is, ap (λ k. row_reach k c.args.titles X) c.in-Grid.is)

pub after_dots-requires-clause-marker : goal.after_dots-requires-clause-marker
after_dots-requires-clause-marker c = dots_within (chars c.line-text.result.now) c.in-Some-dots.marker (sym c.dots.ensures ∙ c.in-Some-dots.is)

pub returns-in-Some-dots : goal.returns-in-Some-dots
returns-in-Some-dots c =
    let B : Block = block_of c.args.view.now in
    let X : Block = drop c.args.i B in
    let begins = subst (λ k. IsTrue (row_holds k X)) c.in-Explicit.is c.requires.begins in
    let e : dots (first_text X) ≡ Some c.in-Some-dots.marker = ap dots (sym c.line-text.ensures.text) ∙ sym c.dots.ensures ∙ c.in-Some-dots.is in
    let size = size_dots X c.in-Some-dots.marker e in
    record {
      end = c.end.ensures ∙ explicit_ends_at c.args.i X c.after_dots.result (c.after_dots.ensures.explicit ∙ sym (explicit_dots c.args.i X c.in-Some-dots.marker e))
          ∙ ap (λ k. c.args.i + row_size k c.args.titles X) (sym c.in-Explicit.is);
      looked = search (arith, (explicit_within true X (omega (arith, length-drop c.args.i B)) begins).0, size, ap (λ n. reach n X) size, ap (λ k. row_reach k c.args.titles X) c.in-Explicit.is);
    }
