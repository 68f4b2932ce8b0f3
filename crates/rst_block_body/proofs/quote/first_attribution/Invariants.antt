use Rattle.std.proofs.Common.{◌+◌, ◌-◌, ◌*◌, ◌≤◌, length}
use Rattle.rst_text.specs.Looked.{capped}
use Rattle.rst_text.specs.ViewBlock.{block_of}
use Rattle.rst_block_body.proofs.AttributionsFound.{Unfound}
use Rattle.rst_block_body.proofs.quote.first_attribution.Given as goal

abbrev pub invariant-loop-end : goal.invariant-loop-end
invariant-loop-end l = record {
  within : l.end ≤ length (block_of l.fn.lines);
  looks : l.looks ≤ l.fn.looks + 5 * l.end + 1;
  low : capped (l.fn.looks + l.end) ≤ l.looks;
  unfound : Unfound (block_of l.fn.lines) l.end;
}

abbrev pub decreases-loop-end : goal.decreases-loop-end
decreases-loop-end l = length (block_of l.fn.lines) - l.end
