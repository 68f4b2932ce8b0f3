use Rattle.std.proofs.Common.{string_bytes}
use Rattle.std.specs.Str.{chars}
use Rattle.rst_text.proofs.Ids.{Identifies}
use Rattle.rst_text.proofs.names.identifier_of.Given as goal

abbrev pub invariant-loop-c : goal.invariant-loop-c
invariant-loop-c l = Identifies (chars l.decomposed) (string_bytes l.id) l.c-iterator.rest.now l.begun l.due
