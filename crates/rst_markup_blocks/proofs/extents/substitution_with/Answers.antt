use Rattle.std.proofs.Common.{rules, ◌≡◌, ◌∙◌, false, Some, List, ℕ, length-drop, sym, ap, drop}
use Rattle.std.specs.Str.{chars}
use Rattle.rst_text.specs.Block.{Block, first_text}
use Rattle.rst_text.specs.ViewBlock.{block_of}
use Rattle.rst_markup_lines.specs.ExplicitMarks.{directive_mark_of}
use Rattle.rst_markup_lines.proofs.MarkBounds.{directive_within}
use Rattle.rst_text.proofs.LinesLemmas.{length-chars}
use Rattle.rst_markup_blocks.proofs.ExplicitLemmas.{substitution_some}
use Rattle.rst_markup_blocks.proofs.extents.substitution_with.Goals as goal

pub call_of-call-requires : goal.call_of-call-requires
call_of-call-requires c =
    let t : List ℕ = chars c.args.text.now in
    let e : directive_mark_of false (drop c.args.n t) ≡ Some c.in-Some.mark = ap (λ u. directive_mark_of false u) (sym c.skip.ensures.chars) ∙ sym c.directive_mark_of.ensures ∙ c.in-Some.is in
    let w = directive_within false (drop c.args.n t) c.in-Some.mark e in
    search (rules, w.0, w.1, length-drop c.args.n t, length-chars c.args.text.now c.utf8.text)

pub returns-in-Some-clause-explicit : goal.returns-in-Some-clause-explicit
returns-in-Some-clause-explicit c =
    let X : Block = drop c.args.i (block_of c.args.view.now) in
    let e : directive_mark_of false (drop c.args.n (first_text X)) ≡ Some c.in-Some.mark =
    ap (λ u. directive_mark_of false (drop c.args.n u)) (sym c.requires.text) ∙ ap (λ u. directive_mark_of false u) (sym c.skip.ensures.chars) ∙ sym c.directive_mark_of.ensures ∙ c.in-Some.is in
    substitution_some c.args.i c.args.n c.args.name c.in-Some.mark c.call_of-call.result X e c.call_of-call.ensures.call
