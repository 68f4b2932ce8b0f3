use Rattle.std.proofs.Common.{◌≡◌, ◌+◌, ℕ, [], ◌∷◌, drop, take, true, false, refl, sym, ap, ◌∙◌, arith}
use Rattle.rst_text.specs.Block.{Block, first_text, is_blank}
use Rattle.rst_text.specs.ViewBlock.{block_of}
use Rattle.rst_markup_blocks.specs.Lines.{lines_while}
use Rattle.rst_markup_blocks.specs.declared.lines.LineTest.TheVariants.{Begins}
use Rattle.rst_block_state.specs.Literals.{literal_node, quoting_text}
use Rattle.rst_block_state.proofs.Calls.{gives_map}
use Rattle.rst_block_state.proofs.Changes.{more_as, more_more, moved_more}
use Rattle.rst_block_body.proofs.LiteralLemmas.{quoted_node, quoted_whole, no_message, one_message, quoting_spaced, quoting_other}
use Rattle.rst_block_body.proofs.paragraph.quoted_literal.Goals.{then-begins_with, else-begins_with}
use Rattle.rst_block_body.proofs.paragraph.quoted_literal.Goals as goal

pub returns-then-is_blank-clause-gone : goal.returns-then-is_blank-clause-gone
returns-then-is_blank-clause-gone c =
    let B : Block = block_of c.args.view.now in
    let end : ℕ = c.lines_end-end.result in
    let n : ℕ = lines_while (Begins c.args.quote) (drop c.args.start B) in
    let e : end ≡ c.args.start + lines_while (Begins c.args.quote) (drop c.args.start B) = c.lines_end-end.ensures.end in
    let node : c.in_ok-node.node ≡ literal_node (take n (drop c.args.start B)) =
    c.in_ok-node.ensures ∙ quoted_node B c.args.start end c.args.quote c.number_at-line.result c.as_str.result.now c.requires.quoted e c.number_at-line.ensures (c.as_str.ensures.value ∙ c.in_ok-text.ensures.bytes) in
    let blank : is_blank (first_text (drop end B)) ≡ true = rw c.text_at-next.ensures.text at (sym c.is_blank.ensures ∙ c.if-is_blank.true) in
    let nodes : c.in_ok-node.node ∷ [] ≡ _ = quoted_whole B c.args.start end c.args.quote c.in_ok-node.node [] e node (sym (no_message n c.args.start end (quoting_text (first_text (drop end B))) B e blank)) in
    more_as nodes refl (moved_more c.go_to.ensures.moved (c.go_to.ensures.there (omega arith) ∙ e) c.in_ok-push.ensures.more)

pub returns-clause-gone : goal.returns-clause-gone
returns-clause-gone c =
    let B : Block = block_of c.args.view.now in
    let end : ℕ = c.lines_end-end.result in
    let n : ℕ = lines_while (Begins c.args.quote) (drop c.args.start B) in
    let e : end ≡ c.args.start + lines_while (Begins c.args.quote) (drop c.args.start B) = c.lines_end-end.ensures.end in
    let node : c.in_ok-node.node ≡ literal_node (take n (drop c.args.start B)) =
    c.in_ok-node.ensures ∙ quoted_node B c.args.start end c.args.quote c.number_at-line.result c.as_str.result.now c.requires.quoted e c.number_at-line.ensures (c.as_str.ensures.value ∙ c.in_ok-text.ensures.bytes) in
    let filled : is_blank (first_text (drop end B)) ≡ false = rw c.text_at-next.ensures.text at (sym c.is_blank.ensures ∙ c.if-is_blank.false) in
    let text : c.if-begins_with.text.now ≡ quoting_text (first_text (drop end B)) = elim c.if-begins_with.branch [
      | then-begins_with w ↦ ap (λ t. t.now) w.text-is ∙ quoting_spaced (first_text (drop end B)) (rw c.text_at-next.ensures.text at (sym c.begins_with.ensures ∙ w.if-begins_with.true))
      | else-begins_with w ↦ ap (λ t. t.now) w.text-is ∙ quoting_other (first_text (drop end B)) (rw c.text_at-next.ensures.text at (sym c.begins_with.ensures ∙ w.if-begins_with.false))
    ] in
    let error = one_message n c.args.start end c.number_at.result (quoting_text (first_text (drop end B))) c.if-begins_with.text.now B c.in_ok-error.error e filled c.number_at.ensures text c.in_ok-error.ensures in
    let nodes : c.in_ok-node.node ∷ c.in_ok-error.error ∷ [] ≡ _ = quoted_whole B c.args.start end c.args.quote c.in_ok-node.node (c.in_ok-error.error ∷ []) e node error in
    let first = moved_more c.go_to.ensures.moved (c.go_to.ensures.there (omega arith) ∙ e) c.in_ok-push.ensures.more in
    gives_map _ _ c.push-2.result c.push-2.ensures.more (λ _ g. more_as nodes refl (more_more first g))
