use Rattle.std.proofs.Common.{◌≡◌, ◌-◌, ◌&&◌, ◌||◌, Result, length, length-drop, drop, arith, rules, cond, [], sym, ap, ◌∙◌, subst, IfOk}
use Rattle.rst_text.specs.Block.{Block, cut, first_parts}
use Rattle.rst_text.specs.ViewBlock.{block_of}
use Rattle.rst_markup_blocks.specs.Lines.{lines_while}
use Rattle.rst_markup_blocks.proofs.ReachLaws.{reach_within}
use Rattle.rst_markup_blocks.proofs.RowLaws.{while_le}
use Rattle.rst_markup_blocks.specs.declared.lines.LineTest.TheVariants.{Blank}
use Rattle.rst_markup_directives.specs.Directive.{Read, reading_in, run_in}
use Rattle.rst_markup_directives.specs.Kind.{is_text}
use Rattle.rst_markup_directives.specs.Lines.{first_run, texts_of}
use Rattle.rst_markup_directives.specs.Wrong.{Wrong}
use Rattle.rst_markup_directives.proofs.FieldLemmas.{length_texts}
use Rattle.rst_markup_directives.proofs.BlockReads.{read-is}
use Rattle.rst_markup_directives.proofs.Parts.{length_cut}
use Rattle.rst_markup_directives.proofs.calls.read.Goals as goal

pub returns-clause-looked : goal.returns-clause-looked
returns-clause-looked c =
    let H : Block = block_of c.part-lines.result in
    let Y : Block = drop c.len.result H in
    let far = reach_within (lines_while Blank Y) Y (while_le Blank Y) in
    let len = ap length c.part-lines.ensures.block ∙ length_cut _ _ _ _ _ c.requires.block.ordered c.requires.block.within in
    search (arith, c.lines_end-rest.ensures.looks, far.1, length-drop c.len.result H, c.in_ok-run.ensures.through, c.in_ok-run.ensures.within, len)

pub returns-clause-reading : goal.returns-clause-reading
unfolding run_in
returns-clause-reading c =
    let H : Block = block_of c.part-lines.result in
    let len = ap length c.part-lines.ensures.block ∙ length_cut _ _ _ _ _ c.requires.block.ordered c.requires.block.within in
    let none : c.if-late.none ≡ (c.args.late && (is_text c.args.kind.content || (first_parts H).unmarked)) = search rules in
    let count : length c.deref.result.now ≡ length (texts_of c.deref.result.now) = sym (length_texts c.deref.result.now) in
    let same = read-is c.parts-parts.result.now c.args.kind c.args.late c.args.block (cut (block_of c.args.view.now) c.args.block.from c.args.block.to c.args.block.first_cut c.args.block.rest_cut)
    H (texts_of c.deref.result.now) (c.args.block.to - c.args.block.from) c.len.result c.lines_end-rest.result
    c.parts-parts.ensures.value c.part-lines.ensures.block len (ap texts_of c.deref.ensures.value ∙ c.in_ok-run.ensures.texts ∙ ap (λ none. cond none [] (first_run H)) none) (c.len.ensures ∙ sym c.deref.ensures.len ∙ count) c.lines_end-rest.ensures.end in
    let P : Result Read Wrong → Type 0 = λ r. IfOk c.read_run.result (λ reading. reading_in reading ≡ r) in
    subst P same c.read_run.ensures
