use Rattle.std.proofs.Common.{◌≡◌, ◌<◌, ◌++◌, ◌∷◌, [], ◌⊎◌, inl, inr, ℕ, List, sym, ap, ◌∙◌, arith}
use Rattle.std.specs.Prelude.{string_bytes, encode_utf8_all}
use Rattle.std.proofs.lemmas.Str.{encodes-chars}
use Rattle.rst_text.specs.Block.{Block}
use Rattle.rst_text.specs.ViewBlock.{block_of}
use Rattle.std.proofs.lemmas.List.{take_all}
use Rattle.rst_block_state.specs.Texts.{spelled}
use Rattle.rst_block_state.proofs.Spelling.{spelled_step, chars_spelled}
use Rattle.rst_block_state.proofs.texts.joined.Goals.{then-i-gt0+in_ok-push, else-i-gt0}
use Rattle.rst_block_state.proofs.texts.joined.Goals as goal

pub loop-i-preserved : goal.loop-i-preserved
loop-i-preserved c =
    let B : Block = block_of c.args.view.now in
    let i : ℕ = c.loop-i.i in
    let prefix : List ℕ = string_bytes c.loop-i.text in
    let between : List ℕ = string_bytes c.if-i-gt0.text in
    let cases : ((0 < i) × (between ≡ prefix ++ 10 ∷ [])) ⊎ ((i ≡ 0) × (between ≡ prefix)) = elim c.if-i-gt0.branch [
      | then-i-gt0+in_ok-push w ↦ inl (w.if-i-gt0.true, ap string_bytes w.text-is ∙ w.in_ok-push.ensures.bytes ∙ ap (λ x. prefix ++ x) (w.in_ok-push.ensures.ascii (omega arith)))
      | else-i-gt0 w ↦ inr (omega (arith, w.if-i-gt0.false), ap string_bytes w.text-is)
    ] in
    record {
      text = spelled_step i B prefix between (string_bytes c.push_str.new.self) c.line.result.now (omega arith) c.loop-i.invariant.text
          (sym (encodes-chars c.line.result.now c.line.utf8) ∙ ap encode_utf8_all c.line.ensures.text) cases c.in_ok-push_str.ensures.bytes;
      looks = omega arith;
      low = omega arith;
    }

pub returns-clause-text : goal.returns-clause-text
returns-clause-text c =
    let B : Block = block_of c.args.view.now in
    chars_spelled c.loop-i.text B (c.loop-i.invariant.text ∙ ap spelled (take_all c.loop-i.i B (omega arith)))
