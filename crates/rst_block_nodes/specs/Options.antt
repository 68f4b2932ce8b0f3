-- What the options of directives do to elements (Directives, 'Common Options', 'Image', 'Figure', 'Sidebar', 'Code', 'Rubric', 'Parsed
-- Literal Block', 'Raw Data Pass-Through', 'Container', 'Table of Contents').
use Rattle.std.specs.Prelude.{ℕ, Bool, if◌then◌else◌, List, [], ◌∷◌, ◌++◌, map, codes, Option, Some, None, option_map, encode_utf8_all}
use Rattle.std.specs.Option.{option_or, option_to_list}
use Rattle.std.specs.Str.{chars}
use Rattle.rst_inline.specs.Elements.{handed_node}
use Rattle.rst_text.specs.Characters.{Text}
use Rattle.rst_text.specs.Names.{name_of, normalized_white}
use Rattle.rst_tree.specs.Attributes.{attr, value_of, with_attr, without_key}
use Rattle.rst_tree.specs.Forest.{bare}
use Rattle.rst_tree.specs.declared.attrs.Attr.{Attr}
use Rattle.rst_tree.specs.declared.attrs.Value.{Value}
use Rattle.rst_tree.specs.declared.attrs.Value.TheVariants.{Text as TextValue, Number, List as Listed}
use Rattle.rst_tree.specs.declared.key.Key.{Key}
use Rattle.rst_tree.specs.declared.key.Key.TheVariants.{Align, Alt, Backlinks, Classes, Depth, Format, Height, Local, Name, OwnName, Rawsource, Refname, Refuri, Scale, Uri, Width, XmlSpace}
use Rattle.rst_tree.specs.declared.node.Node.{Node}
use Rattle.rst_tree.specs.declared.node.Node.TheVariants.{Element, Text as Words}
use Rattle.rst_tree.specs.declared.tag.Tag.{Tag}
use Rattle.rst_tree.specs.declared.tag.Tag.TheVariants.{Figure as FigureTag, Image as ImageTag, Reference}
use Rattle.rst_markup_directives.specs.Argument.{ArgumentMeaning, language, formats, classes}
use Rattle.rst_markup_directives.specs.Contents.{backlinks_name}
use Rattle.rst_markup_directives.specs.Options.{OptionSetting}
use Rattle.rst_markup_directives.specs.Target.{Destination, named, located}
use Rattle.rst_markup_directives.specs.Value.{Meaning, plain, measured, numbered, placed, classed, linked, called, led_back, sized}
use Rattle.rst_markup_directives.specs.Widths.{columns_class}
use Rattle.rst_markup_directives.specs.declared.measure.Alignment.{Alignment}
use Rattle.rst_markup_directives.specs.declared.measure.Alignment.TheVariants.{Top, Middle, Bottom, Left, Center, Right}
use Rattle.rst_markup_directives.specs.declared.option.OptionName.{OptionName}
use Rattle.rst_markup_directives.specs.declared.option.OptionName.TheVariants.{Alt as AltOption, Height as HeightOption, Width as WidthOption, Scale as ScaleOption, Align as AlignOption, Class as ClassOption, Name as NameOption, FigureWidth, FigureClass, Subtitle, Depth as DepthOption, Local as LocalOption, Backlinks as BacklinksOption}
use Rattle.rst_block_nodes.specs.declared.settings.Holder.{Holder}
use Rattle.rst_block_nodes.specs.declared.settings.Holder.TheVariants.{Image, FigureImage, Figure, Body, Further, Entries}
use Rattle.rst_block_nodes.specs.Elements.{element_of, preserving, text_nodes}

-- ---- options as attributes

-- the attribute that an option gives an element; the alignment of an image in a figure is the figure's. Of elements with a body tables alone have a
-- width and an alignment.
abbrev pub option_key : Holder → OptionName → Option Key
option_key Figure AlignOption = Some Align
option_key Figure FigureWidth = Some Width
option_key Figure FigureClass = Some Classes
option_key Figure _ = None
option_key Entries DepthOption = Some Depth
option_key Entries LocalOption = Some Local
option_key Entries BacklinksOption = Some Backlinks
option_key Entries _ = None
option_key _ ClassOption = Some Classes
option_key Further _ = None
option_key _ NameOption = Some OwnName
option_key Body WidthOption = Some Width
option_key Body AlignOption = Some Align
option_key Body _ = None
option_key _ AltOption = Some Alt
option_key _ HeightOption = Some Height
option_key _ WidthOption = Some Width
option_key _ ScaleOption = Some Scale
option_key Image AlignOption = Some Align
option_key _ _ = None

-- what an alignment is called
abbrev pub alignment_name : Alignment → List ℕ
alignment_name Top = codes "top"
alignment_name Middle = codes "middle"
alignment_name Bottom = codes "bottom"
alignment_name Left = codes "left"
alignment_name Center = codes "center"
alignment_name Right = codes "right"

-- the meaning of an option's value as the value of an attribute
abbrev pub value_meant : Meaning → Value
value_meant (plain text) = TextValue (encode_utf8_all text)
value_meant (measured text) = TextValue (encode_utf8_all text)
value_meant (numbered n) = Number n
value_meant (placed alignment) = TextValue (alignment_name alignment)
value_meant (classed ids) = Listed (map encode_utf8_all ids)
value_meant (linked to source) = TextValue (encode_utf8_all source)
value_meant (called name) = TextValue (encode_utf8_all name)
value_meant (led_back backlinks) = TextValue (backlinks_name backlinks)
value_meant (sized columns) = TextValue (columns_class columns)

-- attributes with a value, if there is a key for it
abbrev pub with_value_at : Option Key → Value → List Attr → List Attr
with_value_at (Some key) value attrs = with_attr key value attrs
with_value_at None value attrs = attrs

-- attributes with those that the choices of options give, one after the other
abbrev pub with_choices : Holder → List OptionSetting → List Attr → List Attr
with_choices holder [] attrs = attrs
with_choices holder (ch ∷ more) attrs = with_choices holder more (with_value_at (option_key holder ch.0) (value_meant ch.1) attrs)

-- attributes with those that the options of a directive give which isn't a figure or an image
abbrev pub body_attrs : List OptionSetting → List Attr → List Attr
body_attrs choices attrs = with_choices Body choices attrs

-- ---- arguments as attributes

-- `code`, the language, and then the classes of the options
abbrev pub code_classes : Option (List ℕ) → Option Value → Value
code_classes word (Some (Listed more)) = Listed (codes "code" ∷ option_to_list word ++ more)
code_classes word _ = Listed (codes "code" ∷ option_to_list word)

-- attributes with the classes of program code in a language
abbrev pub code_attrs : Option (List ℕ) → List Attr → List Attr
code_attrs word attrs = with_attr Classes (code_classes word (value_of Classes attrs)) (without_key Classes attrs)

-- attributes with those that the argument of a directive gives: the language of program code, the formats of raw data, or class names
abbrev pub given_attrs : ArgumentMeaning → List Attr → List Attr
given_attrs (language word) attrs = code_attrs (option_map encode_utf8_all word) attrs
given_attrs (formats text) attrs = with_attr Format (TextValue (encode_utf8_all text)) attrs
given_attrs (classes text (Some ids)) attrs = with_attr Classes (Listed (map encode_utf8_all ids)) attrs
given_attrs _ attrs = attrs

-- ---- figures, admonitions and topics

-- a figure, still without content
abbrev pub figure_element : List OptionSetting → ℕ → Node
figure_element choices line = Element FigureTag (with_choices Figure choices []) bare line

-- the element of a directive with a body, still without content
abbrev pub directive_element : Tag → ArgumentMeaning → List OptionSetting → ℕ → Node
directive_element element given choices line = Element element (given_attrs given (body_attrs choices [])) bare line

-- a directive that is handed back, by its name and its lines
abbrev pub handed_directive_node : List ℕ → List ℕ → ℕ → Node
handed_directive_node name source line = handed_node (codes "directive") name (chars source) line

-- ---- subtitles

-- the text of a choice, if it is a `subtitle`
abbrev pub subtitle_meant : OptionName → Meaning → Option Text
subtitle_meant Subtitle (plain text) = Some text
subtitle_meant _ _ = None

-- the text of the first `subtitle` among choices
abbrev pub subtitle_chosen : List OptionSetting → Option Text
subtitle_chosen [] = None
subtitle_chosen (ch ∷ more) = option_or (subtitle_meant ch.0 ch.1) (subtitle_chosen more)

-- ---- texts

-- a directive whose content is a text without inline markup
abbrev pub literal_element : Tag → ArgumentMeaning → List OptionSetting → List ℕ → ℕ → Node
literal_element element given choices text line = element_of element (given_attrs given (body_attrs choices preserving)) (text_nodes text) line

-- an element that holds the text of a directive, with the attributes that its options give; white characters stay where `literal` is true
abbrev pub with_options : Bool → List OptionSetting → Node → Node
with_options literal choices (Element t a c l) = Element t (body_attrs choices (if literal then with_attr XmlSpace (TextValue (codes "preserve")) a else a)) c l
with_options literal choices (Words t) = Words t

-- ---- images

-- attributes with a text instead of the image, if there is one
abbrev pub with_alt : Option (List ℕ) → List Attr → List Attr
with_alt (Some text) attrs = with_attr Alt (TextValue text) attrs
with_alt None attrs = attrs

-- the image by itself, with an alternate text unless the choices have one
abbrev pub image_node : List ℕ → List OptionSetting → ℕ → Bool → Option (List ℕ) → Node
image_node uri choices line in_figure alt =
    Element ImageTag (with_choices (if in_figure then FigureImage else Image) choices (with_alt alt (attr Uri (TextValue uri) ∷ []))) bare line

-- the attributes of a reference to a name, or to a URI, which also has its source
abbrev pub link_attrs : Destination → List ℕ → List Attr
link_attrs (named name) source =
    attr Name (TextValue (encode_utf8_all (normalized_white name))) ∷ attr Rawsource (TextValue source) ∷ attr Refname (TextValue (encode_utf8_all (name_of name))) ∷ []
link_attrs (located uri) source = attr Rawsource (TextValue source) ∷ attr Refuri (TextValue (encode_utf8_all uri)) ∷ []

-- the reference round an image
abbrev pub linked_node : Node → Destination → List ℕ → ℕ → Node
linked_node image to source line = element_of Reference (link_attrs to source) (image ∷ []) line

-- what a choice refers to, with its source, if it is a `target`
abbrev pub link_meant : Meaning → Option (Destination × List ℕ)
link_meant (linked to source) = Some (to, encode_utf8_all source)
link_meant _ = None

-- what the first `target` among choices refers to
abbrev pub link_chosen : List OptionSetting → Option (Destination × List ℕ)
link_chosen [] = None
link_chosen (ch ∷ more) = option_or (link_meant ch.1) (link_chosen more)

-- an image, with the reference round it, if it leads anywhere
abbrev pub linked_by : Option (Destination × List ℕ) → Node → ℕ → Node
linked_by (Some (to, source)) image line = linked_node image to source line
linked_by None image line = image

-- an image, in a figure or not, with an alternate text unless the choices have one; it is in a reference if they have a `target`
abbrev pub image_element : List ℕ → List OptionSetting → ℕ → Bool → Option (List ℕ) → Node
image_element uri choices line in_figure alt = linked_by (link_chosen choices) (image_node uri choices line in_figure alt) line
