use Rattle.std.proofs.Common.{◌≡◌, ◌∙◌, ℕ, List, ◌∷◌, ◌-◌, refl, ap, arith, rules}
use Rattle.rst_text.specs.ViewBlock.{block_of}
use Rattle.rst_tree.specs.declared.node.Node.{Node}
use Rattle.rst_tree.specs.declared.tag.Tag.TheVariants.{Comment as CommentTag}
use Rattle.rst_markup_blocks.specs.declared.forms.CommentCause.{CommentCause}
use Rattle.rst_block_nodes.specs.Elements.{preserved_node}
use Rattle.rst_block_state.specs.Markup.{cause_notes}
use Rattle.rst_block_state.specs.machine.Meanings.{reads_from}
use Rattle.rst_block_state.specs.Texts.{spelled}
use Rattle.rst_block_state.proofs.Changes.{more_more, moved_more, more_is_read}
use Rattle.rst_block_state.proofs.NumberedLemmas.{at_number}
use Rattle.rst_block_markup.proofs.PartLemmas.{opens_none}
use Rattle.rst_block_markup.proofs.explicit.comment.Goals as goal

comment_is : (cause : CommentCause) (line at : ℕ) (t u : List ℕ) (node : Node) → node ≡ preserved_node CommentTag line t → t ≡ u → line ≡ at
    → node ∷ cause_notes cause line ≡ preserved_node CommentTag at u ∷ cause_notes cause at
comment_is cause line at t u node e h l = rw (e, h, l) refl

pub returns : goal.returns
returns c =
    let B = block_of c.args.view.now in
    let part = c.args.text in
    let more = more_more (moved_more c.go_to.ensures.moved (c.go_to.ensures.there c.requires.later) c.in_ok-push.ensures.more) c.in_ok-put_cause.ensures.more in
    record {
      step = search rules;
      read = at_number c.args.pass.now.numbers (
          more_is_read B more
          ∙ ap (λ ns. reads_from c.args.level.now B ns part.to)
          (comment_is c.args.cause c.number_at-line.result _ c.as_str.result.now _ c.in_ok-node.node c.in_ok-node.ensures (c.as_str.ensures.value ∙ c.in_ok-lines.ensures.bytes ∙ ap spelled c.inside.ensures.block) c.number_at-line.ensures));
      paid = opens_none (part.to - part.from) B _ _ more (omega (arith, c.in_ok-lines.ensures.each)) (omega (arith, c.joined.ensures.most, c.inside.ensures.lines));
    }
