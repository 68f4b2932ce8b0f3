use Rattle.std.proofs.Common.{◌+◌, ◌<◌, ◌≤◌, length, vec_len, vec_capacity}
use Rattle.rst_inline.proofs.WrittenLemmas.{Split}
use Rattle.rst_inline.proofs.written.with_starts.Given as goal

abbrev pub invariant-loop-at : goal.invariant-loop-at
invariant-loop-at l = record {
  split : Split l.text l.characters.items l.starts.items l.at-iterator.rest.now l.at-iterator.at;
  characters : vec_len l.characters + length l.at-iterator.rest.now ≤ vec_capacity l.characters;
  starts : vec_len l.starts + length l.at-iterator.rest.now < vec_capacity l.starts;
}
