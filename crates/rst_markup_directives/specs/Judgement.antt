-- Where directives are allowed, and with which content (Directives, 'Specific Admonitions', 'Generic Admonition',
-- 'Topic', 'Sidebar', 'Image', 'Figure', 'Code', 'Replacement Text'; Markup Specification, 'Substitution Definitions').
use Rattle.std.specs.Prelude.{Bool, true, false, not, ◌&&◌, List, [], ◌∷◌, Option, Some, None, Result, Ok, Err, if◌then◌else◌}
use Rattle.std.specs.Option.{option_or}
use Rattle.rst_markup_directives.specs.Argument.{ArgumentMeaning, title}
use Rattle.rst_markup_directives.specs.Options.{OptionSetting}
use Rattle.rst_markup_directives.specs.declared.fault.Detail.TheVariants.{ContentNotPermitted, NotOneParagraph}
use Rattle.rst_markup_directives.specs.declared.fault.DirectiveFault.{DirectiveFault}
use Rattle.rst_markup_directives.specs.declared.fault.DirectiveFault.TheVariants.{NotInSubstitution, Unknown, Inside, NoContent, NoRows, NoTable, TopicNotHere, SidebarNotHere, LoneSubtitle, ReplaceNotHere, Disabled}
use Rattle.rst_markup_directives.specs.declared.found.Place.{Place}
use Rattle.rst_markup_directives.specs.declared.found.Place.TheVariants.{Top, Substitution}
use Rattle.rst_markup_directives.specs.declared.kind.Allowed.{Allowed}
use Rattle.rst_markup_directives.specs.declared.kind.Allowed.TheVariants.{Sections, Beside, Substitution as SubstitutionAlone, Anywhere, Nowhere}
use Rattle.rst_markup_directives.specs.declared.kind.ContentKind.{ContentKind}
use Rattle.rst_markup_directives.specs.declared.kind.ContentKind.TheVariants.{Empty, Paragraph, Caption, Classed, Entries, Rows, OneTable}
use Rattle.rst_markup_directives.specs.declared.kind.Kind.{Kind}
use Rattle.rst_markup_directives.specs.declared.option.OptionName.{OptionName}
use Rattle.rst_markup_directives.specs.declared.option.OptionName.TheVariants.{File, Subtitle, Url}

-- the place is a substitution definition
abbrev pub is_definition_place : Place → Bool
is_definition_place Substitution = true
is_definition_place _ = false

-- a substitution definition may hold it
abbrev pub is_substitutable : Allowed → Bool
is_substitutable SubstitutionAlone = true
is_substitutable Anywhere = true
is_substitutable _ = false

-- there has to be a directive of the name and, in a substitution definition, one that this may hold
abbrev pub permitted_by : Option Kind → Bool → Result Kind DirectiveFault
permitted_by (Some kind) substitution = if substitution && not (is_substitutable kind.allowed) then Err NotInSubstitution else Ok kind
permitted_by None substitution = if substitution then Err NotInSubstitution else Err Unknown

-- the kind of a directive, if there is one and it is allowed there; or the fault
unfoldable pub permitted : Option Kind → Place → Result Kind DirectiveFault
permitted kind place = permitted_by kind (is_definition_place place)

-- a topic, a sidebar or a table of contents is allowed at the level of sections alone, a replacement text in a substitution definition alone, and what reads files nowhere
abbrev pub place_fault : Allowed → Place → Option DirectiveFault
place_fault Sections Top = None
place_fault Sections _ = Some TopicNotHere
place_fault Beside Top = None
place_fault Beside _ = Some SidebarNotHere
place_fault SubstitutionAlone Substitution = None
place_fault SubstitutionAlone _ = Some ReplaceNotHere
place_fault Nowhere _ = Some Disabled
place_fault _ place = None

-- The fault of a content by what it has to be, whether it is empty, and whether it is a single paragraph. A figure's is judged once its
-- elements are read, and what gives classes may have one or none.
abbrev pub fault_by : ContentKind → Bool → Bool → Option DirectiveFault
fault_by Caption empty paragraph = None
fault_by Classed empty paragraph = None
fault_by Empty empty paragraph = if empty then None else Some (Inside ContentNotPermitted)
fault_by Entries empty paragraph = if empty then None else Some (Inside ContentNotPermitted)
fault_by Paragraph empty paragraph = if empty then Some NoContent else if paragraph then None else Some (Inside NotOneParagraph)
fault_by Rows empty paragraph = if empty then Some NoRows else None
fault_by OneTable empty paragraph = if empty then Some NoTable else None
fault_by _ empty paragraph = if empty then Some NoContent else None

-- the argument is a title
abbrev pub has_title : ArgumentMeaning → Bool
has_title (title part) = true
has_title _ = false

-- no option may name a file, and none may be a subtitle where there is no title
abbrev pub fault_of_option : Bool → OptionName → Option DirectiveFault
fault_of_option titled File = Some Disabled
fault_of_option titled Url = Some Disabled
fault_of_option false Subtitle = Some LoneSubtitle
fault_of_option titled _ = None

-- the fault of the first option that has one
abbrev pub option_fault : Bool → List OptionSetting → Option DirectiveFault
option_fault titled [] = None
option_fault titled (setting ∷ more) = option_or (fault_of_option titled setting.0) (option_fault titled more)

-- the fault of a directive's content, which is empty or not, and maybe a single paragraph; or else of its place
unfoldable pub content_fault : Kind → Bool → Place → Bool → Option DirectiveFault
content_fault kind empty place paragraph = option_or (fault_by kind.content empty paragraph) (place_fault kind.allowed place)
