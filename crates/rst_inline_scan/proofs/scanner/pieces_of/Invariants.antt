use Rattle.std.proofs.Common.{◌≡◌, ◌++◌, drop, map, length, vec_len, vec_capacity}
use Rattle.rst_inline_scan.specs.Calm.{byte_of}
use Rattle.rst_inline_scan.proofs.scanner.pieces_of.Given as goal

abbrev pub invariant-loop-c : goal.invariant-loop-c
invariant-loop-c l = record {
  all : l.bytes.items ++ map byte_of (drop l.c-index l.text) ≡ map byte_of l.text;
  len : vec_len l.bytes ≡ l.c-index;
  room : vec_capacity l.bytes ≡ length l.text;
}
