use Rattle.std.proofs.Common.{refl}
use Rattle.rst_markup_tables.proofs.Computing.{rst_markup_tables}
use Rattle.rst_markup_tables.proofs.rows.simple_faults.Goals as goal

pub returns : goal.returns
unfolding rst_markup_tables
returns c = record {
  margin = refl;
  margin_in_the_second_line = refl;
  wide_character_in_the_margin = refl;
  column_left_out = refl;
  rule_to_the_middle_of_a_column = refl;
  rule_from_a_margin = refl;
  rule_up_to_the_last_column = refl;
  rule_that_ends_no_row = refl;
  one_dash = refl;
  margin_below_a_text = refl;
  rule_below_a_text = refl;
  rules_before_margins = refl;
  longer_border = refl;
  shorter_head_border = refl;
  no_border = refl;
  head_border_alone = refl;
}
