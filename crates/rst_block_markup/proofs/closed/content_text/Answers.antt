use Rattle.std.proofs.Common.{◌≡◌, ◌∷◌, [], ◌++◌, List, ℕ, length, append-nil, arith, sym, ap, ◌∙◌}
use Rattle.std.specs.Prelude.{string_bytes}
use Rattle.std.proofs.lemmas.List.{nil_from_length}
use Rattle.rst_text.specs.Block.{Block}
use Rattle.rst_text.specs.ViewBlock.{block_of}
use Rattle.rst_block_state.specs.Texts.{lines_in, spelled}
use Rattle.rst_block_state.proofs.Spelling.{spelled_append}
use Rattle.rst_block_markup.proofs.closed.content_text.Goals.{then-len-gt0+in_ok-push+in_ok-more+in_ok-push_str, else-len-gt0}
use Rattle.rst_block_markup.proofs.closed.content_text.Goals as goal

pub returns-then-len-eq0-clause-bytes : goal.returns-then-len-eq0-clause-bytes
returns-then-len-eq0-clause-bytes c =
    let B : Block = block_of c.args.view.now in
    let second : Block = lines_in B c.args.content.second in
    let none : lines_in B c.args.content.first ≡ [] = sym c.inside-first.ensures.block ∙ nil_from_length (block_of c.inside-first.result) (omega arith) in
    c.in_ok-joined.ensures.bytes ∙ ap spelled (c.inside-second.ensures.block ∙ ap (λ (X : Block). X ++ second) (sym none))

pub returns-clause-bytes : goal.returns-clause-bytes
returns-clause-bytes c =
    let B : Block = block_of c.args.view.now in
    let first : Block = lines_in B c.args.content.first in
    let second : Block = lines_in B c.args.content.second in
    let text : string_bytes c.in_ok-text.text ≡ spelled first = c.in_ok-text.ensures.bytes ∙ ap spelled c.inside-first.ensures.block in
    elim c.if-len-gt0.branch [
      | then-len-gt0+in_ok-push+in_ok-more+in_ok-push_str w ↦
          (ap string_bytes w.text-is ∙ w.in_ok-push_str.ensures.bytes
          ∙ ap (λ (x : List ℕ). x ++ w.as_str.result.now) (w.in_ok-push.ensures.bytes ∙ ap (λ x. string_bytes c.in_ok-text.text ++ x) (w.in_ok-push.ensures.ascii (omega arith)) ∙ ap (λ (x : List ℕ). x ++ 10 ∷ []) text)
          ∙ ap (λ x. (spelled first ++ 10 ∷ []) ++ x) (w.as_str.ensures.value ∙ w.in_ok-more.ensures.bytes ∙ ap spelled c.inside-second.ensures.block)
          ∙ sym (spelled_append first second (omega (arith, ap length c.inside-first.ensures.block)) (omega (arith, w.if-len-gt0.true, ap length c.inside-second.ensures.block))))
      | else-len-gt0 w ↦
          (let none : second ≡ [] = sym c.inside-second.ensures.block ∙ nil_from_length (block_of c.inside-second.result) (omega (arith, w.if-len-gt0.false)) in
          ap string_bytes w.text-is ∙ text ∙ ap spelled (sym (append-nil first) ∙ ap (λ (X : Block). first ++ X) (sym none)))
    ]
