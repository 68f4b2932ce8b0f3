use Rattle.std.proofs.Common.{◌≡◌, [], ◌∷◌, drop, refl, ap, ◌∙◌, arith, rules}
use Rattle.std.specs.Prelude.{string_bytes}
use Rattle.rst_text.specs.Block.{first_text}
use Rattle.rst_text.specs.ViewBlock.{block_of}
use Rattle.rst_block_nodes.specs.Sections.{filled}
use Rattle.rst_block_state.specs.Markup.{node_by_label_kind, noted}
use Rattle.rst_block_markup.specs.MarkupSteps.{reads_with}
use Rattle.rst_block_state.specs.machine.Meanings.{within_at}
use Rattle.rst_block_state.specs.Texts.{excerpt}
use Rattle.rst_block_state.specs.declared.waits.Waits.TheVariants.{Element}
use Rattle.rst_block_markup.proofs.MarkupPaid.{opens_part}
use Rattle.rst_block_markup.proofs.MarkupReads.{part_comes}
use Rattle.rst_block_state.proofs.PaidSteps.{opens_after}
use Rattle.rst_block_markup.proofs.explicit.labelled_block.Goals as goal

pub returns : goal.returns
returns c =
    let B = block_of c.args.view.now in
    let l = c.args.level.now in
    let n = c.args.pass.now.numbers in
    let body = c.args.body in
    let node = c.match-kind.element in
    let made : node ≡ node_by_label_kind c.args.kind (string_bytes c.in_ok-label.label) c.number_at-line.result = search rules in
    record {
      step = search rules;
      read = part_comes B (Element node) body (λ ns. filled node ns ∷ []) n c.go_to.ensures.moved (c.go_to.ensures.there c.requires.later) (λ ns. refl)
          ∙ ap (λ e. reads_with l B (noted (within_at l.depth) B e body) body.to n)
          (made
          ∙ ap (λ label. node_by_label_kind c.args.kind label c.number_at-line.result) (c.in_ok-label.ensures ∙ ap (λ t. excerpt t c.args.label) c.line.ensures.text)
          ∙ ap (node_by_label_kind c.args.kind (excerpt (first_text (drop l.at B)) c.args.label)) c.number_at-line.ensures);
      paid = opens_after (opens_part B node body c.line.new.looks c.go_to.ensures.moved (c.go_to.ensures.there c.requires.later)) (omega (arith, c.line.ensures.looks)) (omega (arith, c.line.ensures.looks));
    }
