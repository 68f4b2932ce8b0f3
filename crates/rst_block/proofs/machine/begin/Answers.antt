use Rattle.std.proofs.Common.{◌∙◌, ap, rules}
use Rattle.rst_text.specs.ViewBlock.{block_of}
use Rattle.rst_block_state.specs.machine.Meanings.{done_of}
use Rattle.rst_block_state.specs.Numbered.{just}
use Rattle.rst_block.proofs.LastLevel.{flat_text, flat_text_fails}
use Rattle.rst_block.proofs.MachinePaid.{flat_paid}
use Rattle.rst_block.proofs.Waiting.{stops}
use Rattle.rst_block.proofs.machine.begin.Goals as goal

pub returns-in_err-not_blank-clause-goes : goal.returns-in_err-not_blank-clause-goes
returns-in_err-not_blank-clause-goes c =
    stops c.in_err-not_blank.field-0.0 (search rules) (flat_text_fails c.args.level.now (block_of c.args.view.now) c.args.pass.now.numbers c.in_err-not_blank.field-0.0 _ c.requires.depth c.in_err-not_blank.ensures.blank)

pub returns-clause-goes : goal.returns-clause-goes
returns-clause-goes c =
    let B = block_of c.args.view.now in
    let l = c.args.level.now in
    record {
      kept = search rules;
      read = ap (λ k. just (done_of l) k) c.in_ok-not_blank.ensures.numbers ∙ flat_text l B c.args.pass.now.numbers c.in_ok-not_blank.field-0 c.requires.depth c.in_ok-not_blank.ensures.blank c.requires.new;
      paid = flat_paid l l B _ _ c.requires.depth c.in_ok-not_blank.ensures.looked.1 c.in_ok-not_blank.ensures.each;
    }
