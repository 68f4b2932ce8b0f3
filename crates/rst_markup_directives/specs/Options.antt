-- The options of a directive's block (Markup Specification, 'Directives', 'Field Lists').
use Rattle.std.specs.Prelude.{ℕ, min, Bool, false, not, List, [], ◌∷◌, map, drop, slice_range, Option, Some, option_map, option_and_then, unwrap_or, ok_or, find, Result, Ok, Err, ◌++◌, None, if◌then◌else◌}
use Rattle.std.specs.List.{list_any, reduce}
use Rattle.std.specs.Option.{option_or, option_map_or}
use Rattle.std.specs.declared.vec.Vec.{Vec}
use Rattle.rst_settings.specs.declared.Parts.{Parts}
use Rattle.rst_text.specs.Block.{indentation}
use Rattle.rst_markup_lines.specs.Field.{field_of}
use Rattle.rst_markup_lines.specs.TextStart.{begins_with}
use Rattle.rst_markup_directives.specs.Characters.{Text, is_same_word}
use Rattle.rst_markup_directives.specs.Lines.{joined_nonempty}
use Rattle.rst_markup_directives.specs.Kind.{has_option}
use Rattle.rst_markup_directives.specs.OptionName.{option_named}
use Rattle.rst_markup_directives.specs.Value.{Meaning, meaning_of, option_meaning}
use Rattle.rst_markup_directives.specs.Wrong.{Wrong, and_then, unless, unknown, duplicate, invalid, wrong_in}
use Rattle.rst_markup_directives.specs.declared.fault.Detail.{Detail}
use Rattle.rst_markup_directives.specs.declared.kind.OptionSet.{OptionSet}
use Rattle.rst_markup_directives.specs.declared.option.OptionName.{OptionName}
use Rattle.rst_markup_directives.specs.declared.options.Field.{Field}
use Rattle.rst_markup_directives.specs.declared.options.Setting.{Setting}

-- the least indentation of lines, 0 where there are none
abbrev pub least_indentation : List Text → ℕ
least_indentation ts = unwrap_or (reduce min (map indentation ts)) 0

-- ---- fields

-- a field among the options: its name as it is written, and its value
abbrev pub FieldText : Type 0
FieldText = Text × Text

-- the field that a line begins, with the indented lines below it: the name between its colons, and the text after its mark
-- with these lines, their least indentation taken off
unfoldable pub option_field : Parts → Text → List Text → Option FieldText
option_field parts t below = option_map (λ mark. (slice_range t mark.name.from mark.name.to, joined_nonempty (drop mark.marker.cut t ∷ map (drop (least_indentation below)) below))) (field_of parts t)

-- a line, and the indented lines directly below it
abbrev pub Group : Type 0
Group = Text × List Text

-- a line before groups: the first of them belongs to it if that begins with an indented line
abbrev pub onto_groups : Text → List Group → List Group
onto_groups t [] = (t, []) ∷ []
onto_groups t (g ∷ gs) = if begins_with 32 g.0 then (t, g.0 ∷ g.1) ∷ gs else (t, []) ∷ g ∷ gs

-- the groups of lines
abbrev pub groups : List Text → List Group
groups [] = []
groups (t ∷ ts) = onto_groups t (groups ts)

-- a field before others, if it and they are fields
abbrev pub onto_fields : Option FieldText → Option (List FieldText) → Option (List FieldText)
onto_fields field fields = option_and_then (λ f. option_map (λ fs. f ∷ fs) fields) field

-- the fields that groups are, if each is one
abbrev pub fields_of : Parts → List Group → Option (List FieldText)
fields_of parts [] = Some []
fields_of parts (g ∷ gs) = onto_fields (option_field parts g.0 g.1) (fields_of parts gs)

-- the fields of lines, if each of their groups is one
abbrev pub fields_in : Parts → List Text → Option (List FieldText)
fields_in parts ts = fields_of parts (groups ts)

-- ---- what is wrong with them

-- the name of the first field that names no option of the directive
abbrev pub first_unknown : OptionSet → List FieldText → Option Text
first_unknown options fs = option_map (λ f. f.0) (find (λ f. not (option_map_or (has_option options) (option_named f.0) false)) fs)

-- the name is that of one of the fields
abbrev pub is_field_name : Text → List FieldText → Bool
is_field_name name fs = list_any (λ f. is_same_word f.0 name) fs

-- the name of the first of some fields that has the name of one before it; before all of them are others
abbrev pub first_again : List FieldText → List FieldText → Option Text
first_again before [] = None
first_again before (f ∷ fs) = if is_field_name f.0 before then Some f.0 else first_again (before ++ f ∷ []) fs

-- an option and the meaning of its value
abbrev pub OptionSetting : Type 0
OptionSetting = OptionName × Meaning

-- what a field chooses, if there is such an option, and it can have the value
abbrev pub option_setting : OptionSet → FieldText → Option OptionSetting
option_setting options f = option_and_then (λ option. option_map (λ meaning. (option, meaning)) (option_meaning options option f.1)) (option_named f.0)

-- a choice before others; without one the value of the option of this name is invalid
abbrev pub onto_choices : Option OptionSetting → Text → Result (List OptionSetting) Wrong → Result (List OptionSetting) Wrong
onto_choices choice name choices = and_then (λ first. and_then (λ others. Ok (first ∷ others)) choices) (ok_or choice (invalid name))

-- what fields choose, or the first that can't have its value
abbrev pub choices_of : OptionSet → List FieldText → Result (List OptionSetting) Wrong
choices_of options [] = Ok []
choices_of options (f ∷ fs) = onto_choices (option_setting options f) f.0 (choices_of options fs)

-- What the fields of a directive choose, or what is wrong: of all fields an unknown option, then a duplicate one, then a
-- value that an option can't have.
unfoldable pub settings_in : OptionSet → List FieldText → Result (List OptionSetting) Wrong
settings_in options fs = unless (option_or (option_map unknown (first_unknown options fs)) (option_map duplicate (first_again [] fs))) (choices_of options fs)

-- ---- as they are kept

-- a field's name and value
abbrev pub field_text : Field → FieldText
field_text field = (field.name.items, field.value.items)

-- the names and values of fields
abbrev pub field_texts : List Field → List FieldText
field_texts fields = map field_text fields

-- what a setting chooses
abbrev pub choice_in : Setting → OptionSetting
choice_in setting = (setting.option, meaning_of setting.value)

-- what settings choose
abbrev pub choices_in : List Setting → List OptionSetting
choices_in settings = map choice_in settings

-- what settings choose, or what is wrong with them
abbrev pub choices_or_fault : {A : Type 0} → Result (Vec Setting A) Detail → Result (List OptionSetting) Wrong
choices_or_fault (Ok settings) = Ok (choices_in settings.items)
choices_or_fault (Err detail) = Err (wrong_in detail)
