use Rattle.std.proofs.Common.{◌≡◌, ◌+◌, ◌≤◌, take}
use Rattle.std.specs.Prelude.{string_bytes}
use Rattle.rst_text.specs.Looked.{capped}
use Rattle.rst_text.specs.ViewBlock.{block_of}
use Rattle.rst_block_state.specs.Texts.{spelled}
use Rattle.rst_block_state.proofs.texts.joined.Given as goal

abbrev pub invariant-loop-i : goal.invariant-loop-i
invariant-loop-i l = record {
  text : string_bytes l.text ≡ spelled (take l.i (block_of l.fn.view));
  looks : l.looks ≤ l.fn.looks + l.i;
  low : capped (l.fn.looks + l.i) ≤ l.looks;
}
