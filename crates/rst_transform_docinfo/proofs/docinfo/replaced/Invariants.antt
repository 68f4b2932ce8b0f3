use Rattle.std.proofs.Common.{◌≡◌}
use Rattle.rst_transform_docinfo.specs.Gathered.{gathered, none_yet, so_far}
use Rattle.rst_transform_work.specs.Reports.{KeepsRest}
use Rattle.rst_transform_docinfo.proofs.docinfo.replaced.Given as goal

abbrev pub invariant-loop-node : goal.invariant-loop-node
invariant-loop-node l = record {
  taken : so_far l.bibliography l.context.reports.items ≡ gathered l.initial.context.first_number (none_yet l.fn.parts l.initial.context.reports.items) l.yielded;
  rest : KeepsRest l.initial.context l.context;
}
