use Rattle.std.proofs.Common.{refl}
use Rattle.rst_markup_tables.proofs.Computing.{rst_markup_tables}
use Rattle.rst_markup_tables.proofs.rows.simple_spans.Goals as goal

pub returns : goal.returns
unfolding rst_markup_tables
returns c = record {
  rule = refl;
  row_before_another = refl;
  rule_first = refl;
  rules_that_join_nothing = refl;
  two_of_three_columns = refl;
  widest_line = refl;
}
