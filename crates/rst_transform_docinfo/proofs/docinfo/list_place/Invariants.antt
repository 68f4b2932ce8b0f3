use Rattle.std.proofs.Common.{◌≡◌, ◌+◌, drop}
use Rattle.std.specs.List.{prefix_len}
use Rattle.rst_transform_docinfo.specs.Docinfo.{may_lead}
use Rattle.rst_transform_docinfo.proofs.docinfo.list_place.Given as goal

abbrev pub invariant-loop-i : goal.invariant-loop-i
invariant-loop-i l = l.i + prefix_len may_lead (drop l.i l.nodes) ≡ prefix_len may_lead l.nodes
