use Rattle.std.proofs.Common.{◌≡◌, [], take, drop}
use Rattle.rst_markup_directives.specs.Options.{choices_in, choices_of, is_field_name, first_unknown, first_again, field_texts}
use Rattle.rst_markup_directives.proofs.ChoiceLemmas.{after_choices}
use Rattle.rst_markup_directives.proofs.options.settings_of.Given as goal

abbrev pub invariant-loop-field : goal.invariant-loop-field
invariant-loop-field l = first_unknown l.options (field_texts (drop l.field-index l.fields)) ≡ first_unknown l.options (field_texts l.fields)

abbrev pub invariant-loop-i : goal.invariant-loop-i
invariant-loop-i l = first_again (field_texts (take l.i l.fields)) (field_texts (drop l.i l.fields)) ≡ first_again [] (field_texts l.fields)

abbrev pub invariant-loop-choice : goal.invariant-loop-choice
invariant-loop-choice l = after_choices (choices_in l.settings.items) (choices_of l.options (field_texts (drop l.choice-index l.fields))) ≡ choices_of l.options (field_texts l.fields)

abbrev pub invariant-loop-before : goal.invariant-loop-before
invariant-loop-before l = is_field_name l.name (field_texts (drop l.before-index l.before-items)) ≡ is_field_name l.name (field_texts (take l.i l.fields))
