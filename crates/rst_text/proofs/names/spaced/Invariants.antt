use Rattle.std.proofs.Common.{string_bytes}
use Rattle.std.specs.Str.{chars}
use Rattle.rst_text.proofs.Words.{Spaces}
use Rattle.rst_text.proofs.names.spaced.Given as goal

abbrev pub invariant-loop-c : goal.invariant-loop-c
invariant-loop-c g l = Spaces g.C.Case.cased (chars l.text) (string_bytes l.out) l.c-iterator.rest.now l.begun l.due
