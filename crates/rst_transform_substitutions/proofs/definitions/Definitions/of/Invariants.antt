use Rattle.std.proofs.Common.{map, take}
use Rattle.rst_transform_substitutions.specs.Definitions.{defined, definitions_among, AreKnown}
use Rattle.rst_transform_substitutions.proofs.definitions.Definitions.of.Given as goal

abbrev pub invariant-loop-one : goal.invariant-loop-one
invariant-loop-one l = AreKnown (map defined (take l.one-index l.one-items)) l.definitions

abbrev pub invariant-loop-name : goal.invariant-loop-name
invariant-loop-name l = AreKnown (definitions_among l.fn.nodes) l.definitions
