use Rattle.std.proofs.Common.{◌≡◌, ◌++◌, ◌≤◌, drop, length, vec_len, vec_capacity}
use Rattle.rst_inline.proofs.written.with_ascii.Given as goal

abbrev pub invariant-loop-byte : goal.invariant-loop-byte
invariant-loop-byte l = record {
  all : l.characters.items ++ drop l.byte-index l.bytes ≡ l.bytes;
  len : vec_len l.characters ≡ l.byte-index;
  room : length l.bytes ≤ vec_capacity l.characters;
}
