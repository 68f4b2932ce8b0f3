-- What can be wrong with a directive, over characters (Markup Specification, 'Directives').
use Rattle.std.specs.Prelude.{Option, Some, None, Result, Ok, Err}
use Rattle.rst_text.specs.Text.{chars_of}
use Rattle.rst_markup_directives.specs.Characters.{Text}
use Rattle.rst_markup_directives.specs.declared.fault.Detail.{Detail}
use Rattle.rst_markup_directives.specs.declared.fault.Detail.TheVariants.{InvalidOptionBlock, UnknownOption, DuplicateOption, InvalidValue, NoArgument, ManyArguments, ContentNotPermitted, NotOneParagraph}
use Rattle.rst_markup_directives.specs.declared.fault.DirectiveFault.{DirectiveFault}
use Rattle.rst_markup_directives.specs.declared.fault.DirectiveFault.TheVariants.{NotInSubstitution, Unknown, Inside, NoContent, TopicNotHere, SidebarNotHere, LoneSubtitle, ReplaceNotHere, Disabled, InvalidClasses, NoRows, NoTable}

-- what is wrong inside a directive; an option's name is given as it is written
pub data Wrong : Type 0 where
  option_block : Wrong
  unknown : Text → Wrong
  duplicate : Text → Wrong
  invalid : Text → Wrong
  no_argument : Wrong
  many_arguments : Wrong
  content_not_permitted : Wrong
  not_one_paragraph : Wrong

-- what the next step makes of a value, where nothing was wrong before it
abbrev pub and_then : {A B E : Type 0} → (A → Result B E) → Result A E → Result B E
and_then next (Ok value) = next value
and_then next (Err wrong) = Err wrong

-- a value, unless something is wrong
abbrev pub unless : {A E : Type 0} → Option E → Result A E → Result A E
unless (Some wrong) value = Err wrong
unless None value = value

-- what is wrong with a directive
pub data Fault : Type 0 where
  not_in_substitution : Fault
  unknown_directive : Fault
  inside : Wrong → Fault
  no_content : Fault
  no_rows : Fault
  no_table : Fault
  topic_not_here : Fault
  sidebar_not_here : Fault
  lone_subtitle : Fault
  replace_not_here : Fault
  disabled : Fault
  invalid_classes : Text → Fault

-- ---- as they are kept

-- the meaning of what is wrong inside a directive
abbrev pub wrong_in : Detail → Wrong
wrong_in InvalidOptionBlock = option_block
wrong_in (UnknownOption name) = unknown (chars_of name)
wrong_in (DuplicateOption name) = duplicate (chars_of name)
wrong_in (InvalidValue name) = invalid (chars_of name)
wrong_in NoArgument = no_argument
wrong_in ManyArguments = many_arguments
wrong_in ContentNotPermitted = content_not_permitted
wrong_in NotOneParagraph = not_one_paragraph

-- the same of what is wrong with a directive
abbrev pub fault_in : DirectiveFault → Fault
fault_in NotInSubstitution = not_in_substitution
fault_in Unknown = unknown_directive
fault_in (Inside detail) = inside (wrong_in detail)
fault_in NoContent = no_content
fault_in NoRows = no_rows
fault_in NoTable = no_table
fault_in TopicNotHere = topic_not_here
fault_in SidebarNotHere = sidebar_not_here
fault_in LoneSubtitle = lone_subtitle
fault_in ReplaceNotHere = replace_not_here
fault_in Disabled = disabled
fault_in (InvalidClasses text) = invalid_classes (chars_of text)
