use Rattle.std.proofs.Common.{refl}
use Rattle.rst_transform_names.proofs.Computing.{rst_transform_names}
use Rattle.rst_transform_names.proofs.rows.places.Goals as goal

pub returns : goal.returns
unfolding rst_transform_names
returns c = record {
  in_a_section = refl;
  after_messages_of_a_title = refl;
  before_a_target = refl;
  of_another_element = refl;
  in_a_text = refl;
  texts_before_elements = refl;
  of_a_term = refl;
  of_a_classifier = refl;
  of_a_field_name = refl;
  of_a_nested_line = refl;
  of_an_attribution = refl;
  of_a_caption = refl;
  of_an_image_in_a_reference = refl;
  of_an_image_in_a_definition = refl;
  of_an_image_in_a_figure = refl;
}
