-- What a directive is: its kind, argument, options and content, or what is wrong with it (Markup Specification,
-- 'Directives'; the sections of Directives are in Kind, Judgement and Value).
use Rattle.std.specs.Prelude.{ℕ, ◌-◌, Bool, ◌&&◌, ◌||◌, nat_lt, List, [], take, drop, length, option_map, Option, Some, None, Result, Ok, Err, ok_or, if◌then◌else◌}
use Rattle.std.specs.Option.{option_or}
use Rattle.std.specs.Result.{result_map_both}
use Rattle.rst_settings.specs.declared.Parts.{Parts}
use Rattle.rst_text.specs.Block.{Block, cut, first_parts}
use Rattle.rst_markup_directives.specs.Argument.{ArgumentMeaning, classes, given_in, argument_of}
use Rattle.rst_markup_directives.specs.Call.{called_at, part_of, content_block, content_of, is_empty}
use Rattle.rst_markup_directives.specs.Characters.{Text}
use Rattle.rst_markup_directives.specs.Judgement.{permitted, content_fault, has_title, option_fault}
use Rattle.rst_markup_directives.specs.Kind.{is_text}
use Rattle.rst_markup_directives.specs.Layout.{layout_of}
use Rattle.rst_markup_directives.specs.Lines.{first_run}
use Rattle.rst_markup_directives.specs.Options.{fields_in, OptionSetting, choices_in, settings_in}
use Rattle.rst_markup_directives.specs.Wrong.{Wrong, Fault, and_then, unless, option_block, inside, invalid_classes, wrong_in, fault_in}
use Rattle.rst_markup_directives.specs.declared.calls.Reading.{Reading}
use Rattle.rst_markup_directives.specs.declared.fault.Detail.{Detail}
use Rattle.rst_markup_directives.specs.declared.found.Content.{Content}
use Rattle.rst_markup_directives.specs.declared.found.Directive.{Directive}
use Rattle.rst_markup_directives.specs.declared.found.Directive.TheVariants.{Found as FoundDirective, Handed as HandedDirective, Wrong as WrongDirective}
use Rattle.rst_markup_directives.specs.declared.found.Place.{Place}
use Rattle.rst_markup_directives.specs.declared.kind.Kind.{Kind}
use Rattle.rst_markup_directives.specs.declared.kind.OptionSet.{OptionSet}
use Rattle.rst_markup_directives.specs.declared.layout.Layout.{Layout}
use Rattle.rst_markup_blocks.specs.declared.forms.Invocation.{Invocation}
use Rattle.rst_markup_blocks.specs.declared.part.Part.{Part}

-- ---- the block

-- The lines that hold the argument and the options: those before the first blank one. There are none in a block that begins late, not in the line
-- after the directive's, if the content is a text, and under the part `unmarked` for any content.
unfoldable pub run_in : Kind → Bool → Block → List Text
run_in kind late H = if late && (is_text kind.content || (first_parts H).unmarked) then [] else first_run H

-- a directive whose options and argument are right
pub record Read : Type 0 where
  pub kind : Kind
  pub argument : ArgumentMeaning
  pub options : List OptionSetting
  pub content : Content

-- the options that lines are; lines that aren't fields alone are an invalid option block
abbrev pub directive_options : Parts → OptionSet → List Text → Result (List OptionSetting) Wrong
directive_options parts options lines = and_then (settings_in options) (ok_or (fields_in parts lines) option_block)

-- a directive by its argument and its options, where what is wrong with an option counts first
abbrev pub read_parts : Kind → Content → Result ArgumentMeaning Wrong → Result (List OptionSetting) Wrong → Result Read Wrong
read_parts kind content given choices = and_then (λ options. and_then (λ argument. Ok (record { kind = kind; argument = argument; options = options; content = content })) given) choices

-- a directive by the run of lines that its block of `all` lines begins with, and by where the parts of the block are
unfoldable pub directive_by_layout : Parts → Kind → Part → ℕ → List Text → Layout → Result Read Wrong
directive_by_layout parts kind block all run layout =
    read_parts kind (content_of (content_block kind.content block) layout all) (argument_of kind.argument (take layout.argument run) (part_of block 0 layout.argument)) (directive_options parts kind.options (drop layout.options run))

-- what the block of a directive holds, or the first that is wrong: its options, then its argument
unfoldable pub read_block : Kind → Bool → Part → Block → Result Read Wrong
read_block kind late block H = directive_by_layout (first_parts H) kind block (length H) (run_in kind late H) (layout_of kind (run_in kind late H) H)

-- ---- the directive

-- what a directive is; a wrong one has the lines that it is in
pub data Outcome : Type 0 where
  found : Read → Outcome
  handed : Outcome
  wrong : Fault → Part → Outcome

-- the outcome for a directive in these lines
abbrev pub directive_outcome_at : Part → Result Read Fault → Outcome
directive_outcome_at source (Ok read) = found read
directive_outcome_at source (Err fault) = wrong fault source

-- the lines that a directive is in
abbrev pub source_lines_at : ℕ → Part → Part
source_lines_at at block = record { from = at; to = block.to; first_cut = 0; rest_cut = 0 }

-- a block begins after the line after the directive's
abbrev pub is_late : ℕ → Part → Bool
is_late at block = nat_lt at block.from && nat_lt 1 (block.from - at)

-- what a block holds; what is wrong with it is wrong inside its directive
abbrev pub of_block : Result Read Wrong → Result Read Fault
of_block read = result_map_both (λ read. read) inside read

-- a directive of this kind, by its block
abbrev pub read_at : Block → ℕ → Part → Kind → Result Read Fault
read_at B at block kind = of_block (read_block kind (is_late at block) block (cut B block.from block.to block.first_cut block.rest_cut))

-- a word among class names has no id
abbrev pub classes_fault : ArgumentMeaning → Option Fault
classes_fault (classes text None) = Some (invalid_classes text)
classes_fault _ = None

-- what is wrong with the options, the content or the place of a directive, or else with class names
abbrev pub fault_of : Place → Bool → Read → Option Fault
fault_of place paragraph read =
    option_or (option_map fault_in (option_or (option_fault (has_title read.argument) read.options) (content_fault read.kind (is_empty read.content) place paragraph))) (classes_fault read.argument)

-- a directive, unless something is wrong with it
abbrev pub judged_directive : Place → Bool → Read → Result Read Fault
judged_directive place paragraph read = unless (fault_of place paragraph read) (Ok read)

-- the kind of a directive, if there is one and it is allowed there, or the fault
abbrev pub named_directive : Option Kind → Place → Result Kind Fault
named_directive kind place = result_map_both (λ kind. kind) fault_in (permitted kind place)

-- What the directive of a kind is that is called in the line at a place of a block, with this block of its own; `paragraph` is true if
-- that is a single paragraph. The faults are looked for in this order: of its name, of its options, of its argument, of its content, of class names.
unfoldable pub directive_of : Option Kind → Block → ℕ → Part → Place → Bool → Outcome
directive_of kind B at block place paragraph = directive_outcome_at (source_lines_at at block) (and_then (judged_directive place paragraph) (and_then (read_at B at block) (named_directive kind place)))

-- what the directive is that is called there; `code` is true if those for program code are directives
abbrev pub directive_at : Bool → Block → ℕ → Invocation → Place → Bool → Outcome
directive_at code B at call place paragraph = directive_of (called_at code B at call) B at call.block place paragraph

-- ---- as it is kept

-- the meaning of a right directive
abbrev pub read_in : Reading → Read
read_in reading = record { kind = reading.kind; argument = given_in reading.argument; options = choices_in reading.options.items; content = reading.content }

-- the meaning of a right directive, or what is wrong with it
abbrev pub reading_in : Result Reading Detail → Result Read Wrong
reading_in (Ok reading) = Ok (read_in reading)
reading_in (Err detail) = Err (wrong_in detail)

-- the meaning of a directive, right or wrong
abbrev pub directive_outcome : Directive → Outcome
directive_outcome (FoundDirective kind argument options content) = found (record { kind = kind; argument = given_in argument; options = choices_in options.items; content = content })
directive_outcome HandedDirective = handed
directive_outcome (WrongDirective fault source) = wrong (fault_in fault) source
