use Rattle.std.proofs.Common.{◌≡◌}
use Rattle.rst_block_nodes.specs.Texts.{messages_from}
use Rattle.rst_block_nodes.proofs.MessageLemmas.{number_after}
use Rattle.rst_block_nodes.proofs.texted.messages_of.Given as goal

abbrev pub invariant-loop-note : goal.invariant-loop-note
invariant-loop-note l = record {
  messages : l.messages.items ≡ messages_from l.first l.yielded;
  number : l.number ≡ number_after l.first l.yielded;
}
