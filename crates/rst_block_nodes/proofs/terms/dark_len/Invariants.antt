use Rattle.std.proofs.Common.{◌≡◌, ◌≤◌, drop}
use Rattle.rst_block_nodes.specs.Terms.{dark_len}
use Rattle.rst_block_nodes.proofs.TermLemmas.{dark_after}
use Rattle.rst_block_nodes.proofs.terms.dark_len.Given as goal

abbrev pub invariant-loop-i : goal.invariant-loop-i
invariant-loop-i l = record {
  value : dark_after l.len l.i (dark_len (drop l.i l.letters)) ≡ dark_len l.letters;
  within : l.len ≤ l.i;
}
