use Rattle.std.proofs.Common.{◌≡◌, ◌+◌, drop, length}
use Rattle.rst_transform_docinfo.specs.Keywords.{behind}
use Rattle.rst_transform_docinfo.proofs.keywords.behind.Given as goal

abbrev pub invariant-loop-b : goal.invariant-loop-b
invariant-loop-b l = record {
  value : behind (drop l.b-index l.b-items) l.rest ≡ behind l.b-items l.text;
  length : length l.rest + l.b-index ≡ length l.text;
}
