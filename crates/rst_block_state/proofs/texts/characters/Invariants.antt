use Rattle.std.proofs.Common.{◌-◌}
use Rattle.std.specs.Prelude.{string_bytes}
use Rattle.rst_block_state.proofs.Spelling.{Copies}
use Rattle.rst_block_state.proofs.texts.characters.Given as goal

abbrev pub invariant-loop : goal.invariant-loop
invariant-loop l = Copies l.from l.fn.count l.text (string_bytes l.part) l.rest.rest.now (l.count - l.counter)
