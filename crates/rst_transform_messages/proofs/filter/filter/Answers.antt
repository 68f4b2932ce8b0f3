use Rattle.std.proofs.Common.{◌∙◌, ap}
use Rattle.rst_transform_messages.proofs.Showing.{filtered_reported}
use Rattle.rst_transform_messages.specs.Messages.{is_number_marked}
use Rattle.rst_transform_messages.specs.Reported.{are_all_reported}
use Rattle.rst_transform_messages.proofs.filter.filter.Goals as goal

pub returns-clause-reported : goal.returns-clause-reported
returns-clause-reported c = ap (are_all_reported c.args.report) c.in_ok-filter_in.ensures ∙ filtered_reported c.args.report (is_number_marked c.args.reported.now) c.args.document.children
