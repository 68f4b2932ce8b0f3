use Rattle.std.proofs.Common.{Option, arith, refl, sym, ap, ◌∙◌}
use Rattle.std.specs.Prelude.{string_bytes}
use Rattle.rst_text.specs.Block.{Block}
use Rattle.rst_text.specs.ViewBlock.{block_of}
use Rattle.rst_markup_blocks.specs.declared.forms.Invocation.{Invocation}
use Rattle.rst_block_state.specs.Directives.{substitution_nodes}
use Rattle.rst_block_state.specs.Inside.{substitution_blocks}
use Rattle.rst_block_state.specs.looks.Ledger.{unread_at}
use Rattle.rst_block_state.specs.machine.Meanings.{within_at}
use Rattle.rst_block_markup.proofs.PartLemmas.{put_reads}
use Rattle.rst_block_state.proofs.NextConstructs.{span_to}
use Rattle.rst_block_markup.proofs.SubstitutionReads.{none_holds}
use Rattle.rst_block_markup.proofs.substitution.substitution_definition.Goals as goal

pub returns-in_default : goal.returns-in_default
returns-in_default c =
    let B : Block = block_of c.args.view.now in
    let l = c.args.level.now in
    let s = span_to l.at c.args.end in
    put_reads c.in_ok-warning.warning c.put.ensures c.requires.later
    (none_holds (within_at l.depth) B s c.args.written.now (string_bytes c.in_ok-name.name) c.as_str.result.now c.as_str-in_default.result.now c.as_str-in_default-2.result.now c.number_at-line.result c.in_ok-warning.warning
    c.as_str.ensures.value c.in_ok-name.ensures (c.as_str-in_default.ensures.value ∙ c.in_ok-text.ensures) (c.as_str-in_default-2.ensures.value ∙ c.in_ok-lines.ensures.bytes) c.number_at-line.ensures c.in_ok-warning.ensures
    ∙ ap (substitution_nodes (within_at l.depth) B s c.args.written.now) (sym c.in_default.is))
    (ap (λ (embedded : Option Invocation). substitution_blocks embedded (unread_at l.depth) B l.at) (sym c.in_default.is)) refl
    (omega (arith, c.in_ok-lines.ensures.each)) (omega (arith, c.source.ensures.most, c.requires.later))
