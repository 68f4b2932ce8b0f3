use Rattle.std.proofs.Common.{◌≡◌, [], ◌∷◌, ◌-◌, ◌*◌, ◌≤◌, arith, refl, sym, ap, ◌∙◌}
use Rattle.rst_text.specs.Block.{Block}
use Rattle.rst_text.specs.ViewBlock.{block_of}
use Rattle.rst_tree.specs.declared.node.Node.{Node}
use Rattle.rst_tree.specs.declared.tag.Tag.TheVariants.{Comment}
use Rattle.rst_markup_blocks.specs.Explicit.{explicit_end}
use Rattle.rst_block_nodes.specs.Elements.{preserved_node}
use Rattle.rst_block_state.specs.Directives.{substitution_nodes}
use Rattle.rst_block_state.specs.machine.Meanings.{within_at}
use Rattle.rst_block_state.specs.Numbered.{just}
use Rattle.rst_block_state.specs.Texts.{excerpt}
use Rattle.rst_block_state.proofs.NextConstructs.{span_to}
use Rattle.rst_block_markup.proofs.MarkupPaid.{form_in, embedded_in, form_read}
use Rattle.rst_block_markup.proofs.PartLemmas.{part_as, put_reads}
use Rattle.rst_block_markup.proofs.explicit.explicit_markup_of.Goals as goal

pub directive_block-requires-clause-begins : goal.directive_block-requires-clause-begins
directive_block-requires-clause-begins c =
    form_in _ _ c.args.found _ c.requires.explicit c.in-Directive.is

pub substitution_definition-requires-clause-begins : goal.substitution_definition-requires-clause-begins
substitution_definition-requires-clause-begins c =
    embedded_in _ c.args.end _ _ c.args.found _ _ c.requires.explicit c.in-Substitution.is c.requires.end

pub returns-in-Footnote : goal.returns-in-Footnote
returns-in-Footnote c =
    let ends = c.requires.end ∙ ap (explicit_end c.args.level.now.at) c.in-Footnote.is in
    form_read c.labelled_block.ensures c.in-Footnote.is (sym ends) refl (omega arith) (omega (arith, c.requires.later))

pub returns-in-Citation : goal.returns-in-Citation
returns-in-Citation c =
    let ends = c.requires.end ∙ ap (explicit_end c.args.level.now.at) c.in-Citation.is in
    form_read c.labelled_block-in-Citation.ensures c.in-Citation.is (sym ends) refl (omega arith) (omega (arith, c.requires.later))

pub returns-in-Target : goal.returns-in-Target
returns-in-Target c =
    let in_line : c.args.level.now.at ≤ c.in-Target.text.from = form_in _ _ c.args.found _ c.requires.explicit c.in-Target.is in
    let ends : c.args.end ≡ c.in-Target.text.to = c.requires.end ∙ ap (explicit_end c.args.level.now.at) c.in-Target.is in
    form_read c.target_block.ensures c.in-Target.is (sym ends) refl (omega arith) (omega (arith, c.requires.later, in_line, ends))

pub returns-in-Anonymous : goal.returns-in-Anonymous
returns-in-Anonymous c =
    let in_line : c.args.level.now.at ≤ c.in-Anonymous.text.from = form_in _ _ c.args.found _ c.requires.explicit c.in-Anonymous.is in
    let ends : c.args.end ≡ c.in-Anonymous.text.to = c.requires.end ∙ ap (explicit_end c.args.level.now.at) c.in-Anonymous.is in
    form_read c.target_block-in-Anonymous.ensures c.in-Anonymous.is (sym ends) refl (omega arith) (omega (arith, c.requires.later, in_line, ends))

pub returns-in-Comment : goal.returns-in-Comment
returns-in-Comment c =
    let in_line : c.args.level.now.at ≤ c.in-Comment.text.from = form_in _ _ c.args.found _ c.requires.explicit c.in-Comment.is in
    let ends : c.args.end ≡ c.in-Comment.text.to = c.requires.end ∙ ap (explicit_end c.args.level.now.at) c.in-Comment.is in
    form_read c.comment.ensures c.in-Comment.is (sym ends) refl (omega arith) (omega (arith, c.requires.later, in_line, ends))

pub returns-in_ok-node-in-EmptyComment : goal.returns-in_ok-node-in-EmptyComment
returns-in_ok-node-in-EmptyComment c =
    let node = c.in_ok-node-in-EmptyComment.ensures ∙ ap (λ line. preserved_node Comment line []) c.number_at.ensures in
    form_read {few = 0} {mid = c.args.pass.now} (put_reads c.in_ok-node-in-EmptyComment.node c.put.ensures c.requires.later (ap (λ (x : Node). just (x ∷ [])) node) refl refl (omega arith) (omega arith)) c.in-EmptyComment.is refl refl
    (omega arith) (omega arith)

pub returns-in-Directive : goal.returns-in-Directive
returns-in-Directive c =
    let ends : c.args.end ≡ c.in-Directive.invocation.block.to = c.requires.end ∙ ap (explicit_end c.args.level.now.at) c.in-Directive.is in
    form_read c.directive_block.ensures c.in-Directive.is (sym ends) refl (omega arith) (omega (arith, ends))

pub returns-in_ok-name-in-Substitution : goal.returns-in_ok-name-in-Substitution
returns-in_ok-name-in-Substitution c =
    let B : Block = block_of c.args.view.now in
    let l = c.args.level.now in
    let name = c.as_str.ensures.value ∙ c.in_ok-name-in-Substitution.ensures ∙ ap (λ t. excerpt t c.in-Substitution.name) c.line.ensures.text in
    let nodes = ap (λ t. substitution_nodes (within_at l.depth) B (span_to l.at c.args.end) t c.in-Substitution.embedded) name in
    form_read {few = 18 * (c.args.end - l.at)} (part_as {before = record c.args.pass.now { looks = c.line.new.looks }} c.substitution_definition.ensures nodes refl refl (omega arith) (omega arith)) c.in-Substitution.is refl refl
    (omega (arith, c.line.ensures.looks)) (omega (arith, c.requires.later, c.line.ensures.looks))
