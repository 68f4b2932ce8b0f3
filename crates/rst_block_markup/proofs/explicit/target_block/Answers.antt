use Rattle.std.proofs.Common.{◌≡◌, [], ◌∷◌, drop, option_map, arith, rules, refl, ap, ◌∙◌}
use Rattle.std.specs.Prelude.{string_bytes}
use Rattle.rst_text.specs.Block.{Block, first_number, first_text, first_parts}
use Rattle.rst_text.specs.Looked.{Looked}
use Rattle.rst_text.specs.ViewBlock.{block_of}
use Rattle.rst_tree.specs.declared.node.Node.{Node}
use Rattle.rst_block_nodes.specs.Targets.{target_node}
use Rattle.rst_block_state.specs.Numbered.{just}
use Rattle.rst_block_state.specs.Texts.{excerpt, lines_in, spelled}
use Rattle.rst_block_markup.proofs.PartLemmas.{put_reads}
use Rattle.rst_block_markup.proofs.explicit.target_block.Goals as goal

pub returns : goal.returns
returns c =
    let B : Block = block_of c.args.view.now in
    let X : Block = drop c.args.level.now.at B in
    let made : c.match-name.element ≡ target_node (first_parts X).mail (option_map (excerpt (first_text X)) c.args.name) (string_bytes c.in_ok-lines.lines) (first_number X) = search rules in
    let looked : Looked 0 1 c.joined.new.looks c.match-name.pass.looks = search rules in
    let node : c.match-name.element ≡ target_node (first_parts X).mail (option_map (excerpt (first_text X)) c.args.name) (spelled (lines_in B c.args.text)) (first_number X) =
    made ∙ ap (λ t. target_node (first_parts X).mail (option_map (excerpt (first_text X)) c.args.name) t (first_number X)) (c.in_ok-lines.ensures.bytes ∙ ap spelled c.inside.ensures.block) in
    put_reads c.match-name.element c.put.ensures c.requires.later (ap (λ (x : Node). just (x ∷ [])) node) refl (search rules)
    (omega (arith, c.in_ok-lines.ensures.each, looked.0)) (omega (arith, c.joined.ensures.most, c.inside.ensures.lines, looked.1))
