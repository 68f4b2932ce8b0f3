-- The directives: their names, what they take, where they are allowed, and which part of the profile has them (Directives, 'Specific
-- Admonitions', 'Generic Admonition', 'Topic', 'Rubric', 'Image', 'Figure', 'Code', 'Parsed Literal Block', 'Raw Data Pass-Through', 'Including an
-- External Document Fragment', 'Compound Paragraph', 'Container', 'Class', 'Line Block', 'Math', 'Table of Contents', 'Table', 'List Table', 'Replacement Text', 'Common
-- Options'; Markup Specification, 'Substitution Definitions').
use Prim.Native.String.{String}
use Rattle.std.specs.Prelude.{ℕ, Bool, true, false, not, ◌&&◌, List, [], ◌∷◌, codes, Option, Some, None, option_and_then, if◌then◌else◌}
use Rattle.std.specs.List.{list_any}
use Rattle.std.specs.Option.{option_map_or}
use Rattle.std.specs.Str.{str_eq_ignore_ascii_case}
use Rattle.rst_settings.specs.declared.Parts.{Parts}
use Rattle.rst_tree.specs.declared.tag.Tag.{Tag}
use Rattle.rst_tree.specs.declared.tag.Tag.TheVariants as tag
use Rattle.rst_markup_directives.specs.Characters.{Text, is_word, lookup}
use Rattle.rst_markup_directives.specs.declared.kind.Allowed.{Allowed}
use Rattle.rst_markup_directives.specs.declared.kind.Allowed.TheVariants.{Body, Sections, Beside, Substitution, Anywhere, Nowhere}
use Rattle.rst_markup_directives.specs.declared.kind.ArgumentKind.{ArgumentKind}
use Rattle.rst_markup_directives.specs.declared.kind.ArgumentKind.TheVariants.{Absent, Title, OptionalTitle, Uri, Language, Formats, Classes, OptionalClasses}
use Rattle.rst_markup_directives.specs.declared.kind.ContentKind.{ContentKind}
use Rattle.rst_markup_directives.specs.declared.kind.ContentKind.TheVariants.{Empty as NoContent, Lines, Marked, Verse, Formulas, Blocks, Paragraph, Caption, Classed, Quotes, Entries, Rows, OneTable}
use Rattle.rst_markup_directives.specs.declared.kind.Kind.{Kind}
use Rattle.rst_markup_directives.specs.declared.kind.OptionSet.{OptionSet}
use Rattle.rst_markup_directives.specs.declared.kind.OptionSet.TheVariants.{Empty as NoOptions, Common, NameAlone, Sidebar as SidebarOptions, Raw as RawOptions, Include, Image, Figure, Contents, Table, ListTable}
use Rattle.rst_markup_directives.specs.declared.kind.PartName.{PartName}
use Rattle.rst_markup_directives.specs.declared.kind.QuoteClass.{QuoteClass}
use Rattle.rst_markup_directives.specs.declared.kind.QuoteClass.TheVariants.{Epigraph, Highlights, PullQuote}
use Rattle.rst_markup_directives.specs.declared.kind.PartName.TheVariants.{Usual, Code, Wider}
use Rattle.rst_markup_directives.specs.declared.option.OptionName.{OptionName}
use Rattle.rst_markup_directives.specs.declared.option.OptionName.TheVariants.{Class, Name, Width, Align, FigureWidth, FigureClass, Subtitle, File, Url, Inclusion, Depth, Local, Backlinks, HeaderRows, StubColumns, Widths}

-- a directive by its element, its argument, its options, its content, and where it is allowed
abbrev pub kind : Tag → ArgumentKind → OptionSet → ContentKind → Allowed → Kind
kind element argument options content allowed =
    record { element = element; argument = argument; options = options; content = content; allowed = allowed }

-- a directive and the part of the profile that has it
abbrev pub PartKind : Type 0
PartKind = PartName × Kind

-- the same by its name
abbrev pub row : String → PartName → Tag → ArgumentKind → OptionSet → ContentKind → Allowed → Text × PartKind
row name part element argument options content allowed = (codes name, (part, kind element argument options content allowed))

-- the directives by their names
abbrev pub directives : List (Text × PartKind)
directives =
    row "code" Code tag.LiteralBlock Language Common Lines Body
    ∷ row "code-block" Code tag.LiteralBlock Language Common Lines Body
    ∷ row "sourcecode" Code tag.LiteralBlock Language Common Lines Body
    ∷ row "attention" Usual tag.Attention Absent Common Blocks Body
    ∷ row "caution" Usual tag.Caution Absent Common Blocks Body
    ∷ row "danger" Usual tag.Danger Absent Common Blocks Body
    ∷ row "error" Usual tag.Error Absent Common Blocks Body
    ∷ row "hint" Usual tag.Hint Absent Common Blocks Body
    ∷ row "important" Usual tag.Important Absent Common Blocks Body
    ∷ row "note" Usual tag.Note Absent Common Blocks Body
    ∷ row "tip" Usual tag.Tip Absent Common Blocks Body
    ∷ row "warning" Usual tag.Warning Absent Common Blocks Body
    ∷ row "admonition" Usual tag.Admonition Title Common Blocks Body
    ∷ row "topic" Usual tag.Topic Title Common Blocks Sections
    ∷ row "image" Usual tag.Image Uri Image NoContent Anywhere
    ∷ row "figure" Usual tag.Figure Uri Figure Caption Body
    ∷ row "replace" Usual tag.Paragraph Absent NoOptions Paragraph Substitution
    ∷ row "rubric" Wider tag.Rubric Title Common NoContent Body
    ∷ row "raw" Wider tag.Raw Formats RawOptions Lines Anywhere
    ∷ row "parsed-literal" Wider tag.LiteralBlock Absent Common Marked Body
    ∷ row "include" Wider tag.LiteralBlock Title Include NoContent Nowhere
    ∷ row "compound" Wider tag.Compound Absent Common Blocks Body
    ∷ row "container" Wider tag.Container OptionalClasses NameAlone Blocks Body
    ∷ row "class" Wider tag.Class Classes NoOptions Classed Body
    ∷ row "sidebar" Wider tag.Sidebar OptionalTitle SidebarOptions Blocks Beside
    ∷ row "epigraph" Wider tag.BlockQuote Absent NoOptions (Quotes Epigraph) Body
    ∷ row "highlights" Wider tag.BlockQuote Absent NoOptions (Quotes Highlights) Body
    ∷ row "pull-quote" Wider tag.BlockQuote Absent NoOptions (Quotes PullQuote) Body
    ∷ row "line-block" Wider tag.LineBlock Absent Common Verse Body
    ∷ row "math" Wider tag.MathBlock Absent Common Formulas Body
    ∷ row "contents" Wider tag.Topic OptionalTitle Contents Entries Beside
    ∷ row "table" Wider tag.Table OptionalTitle Table OneTable Body
    ∷ row "list-table" Wider tag.Table OptionalTitle ListTable Rows Body
    ∷ []

-- a part of the profile is on; `code` is true if the directive for program code is
abbrev pub is_on : Parts → Bool → PartName → Bool
is_on parts code Usual = true
is_on parts code Code = code
is_on parts code Wider = parts.directives

-- a directive, if its part is on
abbrev pub if_on : Parts → Bool → PartKind → Option Kind
if_on parts code row = if is_on parts code row.0 then Some row.1 else None

-- the directive that a text names, if its part is on; `code` is true if the one for program code is among them
unfoldable pub directive_named : Parts → Text → Bool → Option Kind
directive_named parts t code = option_and_then (if_on parts code) (lookup (is_word t) directives)

-- the part is that of the directives of the wider profile
abbrev pub is_wider : PartName → Bool
is_wider Wider = true
is_wider _ = false

-- the text, in bytes, names a directive of the wider profile
unfoldable pub is_wider_directive : List ℕ → Bool
is_wider_directive name = option_map_or (λ row. is_wider row.0) (lookup (str_eq_ignore_ascii_case name) directives) false

-- the three names of the directive for program code
abbrev pub code_names : List Text
code_names = codes "code" ∷ codes "code-block" ∷ codes "sourcecode" ∷ []

-- the text is one of them
unfoldable pub is_code : Text → Bool
is_code t = list_any (is_word t) code_names

-- ---- options

-- the option names a file, or a text elsewhere
abbrev pub reads_file : OptionName → Bool
reads_file File = true
reads_file Url = true
reads_file _ = false

-- the option is one of a table of contents alone
abbrev pub is_of_contents : OptionName → Bool
is_of_contents Depth = true
is_of_contents Local = true
is_of_contents Backlinks = true
is_of_contents _ = false

-- the option is one of a table alone
abbrev pub is_of_tables : OptionName → Bool
is_of_tables HeaderRows = true
is_of_tables StubColumns = true
is_of_tables Widths = true
is_of_tables _ = false

-- none, `class` and `name`, `name` alone, those of a sidebar, those of raw data, those of a file's inclusion, those of a table of contents, those of a
-- table, those of a table made of lists, those of an image, or these and those of a figure
abbrev pub has_option : OptionSet → OptionName → Bool
has_option NoOptions option = false
has_option Common Class = true
has_option Common Name = true
has_option Common _ = false
has_option NameAlone Name = true
has_option NameAlone _ = false
has_option SidebarOptions Class = true
has_option SidebarOptions Name = true
has_option SidebarOptions Subtitle = true
has_option SidebarOptions _ = false
has_option RawOptions Class = true
has_option RawOptions option = reads_file option
has_option Include Class = true
has_option Include Name = true
has_option Include Inclusion = true
has_option Include _ = false
has_option Contents Class = true
has_option Contents option = is_of_contents option
has_option Table Class = true
has_option Table Name = true
has_option Table Width = true
has_option Table Align = true
has_option Table Widths = true
has_option Table _ = false
has_option ListTable Class = true
has_option ListTable Name = true
has_option ListTable Width = true
has_option ListTable Align = true
has_option ListTable option = is_of_tables option
has_option _ Subtitle = false
has_option _ File = false
has_option _ Url = false
has_option _ Inclusion = false
has_option Image FigureWidth = false
has_option Image FigureClass = false
has_option _ option = not (is_of_contents option) && not (is_of_tables option)

-- a figure may not be aligned vertically, nor a table
abbrev pub has_vertical : OptionSet → Bool
has_vertical Figure = false
has_vertical Table = false
has_vertical ListTable = false
has_vertical _ = true

-- a table may keep the widths that are drawn; one made of lists has none
abbrev pub has_drawn : OptionSet → Bool
has_drawn Table = true
has_drawn _ = false

-- ---- content

-- the content is one text, with inline markup or without
abbrev pub is_text : ContentKind → Bool
is_text Lines = true
is_text Marked = true
is_text Verse = true
is_text Formulas = true
is_text _ = false

-- the content is a single paragraph
abbrev pub is_paragraph : ContentKind → Bool
is_paragraph Paragraph = true
is_paragraph _ = false

-- how many columns of its indentation the content keeps: by one, its lines are block quotes
abbrev pub kept_columns : ContentKind → ℕ
kept_columns (Quotes class) = 1
kept_columns _ = 0

-- the class of block quotes, as it is written
abbrev pub quote_class : QuoteClass → List ℕ
quote_class Epigraph = codes "epigraph"
quote_class Highlights = codes "highlights"
quote_class PullQuote = codes "pull-quote"

-- the content is blocks
abbrev pub has_blocks : ContentKind → Bool
has_blocks Blocks = true
has_blocks (Quotes class) = true
has_blocks Paragraph = true
has_blocks Caption = true
has_blocks Classed = true
has_blocks Rows = true
has_blocks OneTable = true
has_blocks _ = false
