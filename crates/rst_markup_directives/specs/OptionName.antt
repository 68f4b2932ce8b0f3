-- The options of directives (Directives, 'Common Options', 'Image', 'Figure', 'Sidebar', 'Raw Data Pass-Through', 'Including an External Document
-- Fragment', 'Table of Contents', 'List Table').
use Rattle.std.specs.Prelude.{List, [], ◌∷◌, ◌++◌, codes, map, Option}
use Rattle.rst_markup_directives.specs.Characters.{Text, is_word, lookup}
use Rattle.rst_markup_directives.specs.declared.option.OptionName.{OptionName}
use Rattle.rst_markup_directives.specs.declared.option.OptionName.TheVariants.{Alt, Height, Width, Scale, Align, Target, Class, Name, FigureWidth, FigureClass, Subtitle, File, Url, Inclusion, Depth, Local, Backlinks, HeaderRows, StubColumns, Widths}

-- the names of the options that `include` alone has
abbrev pub inclusion_names : List Text
inclusion_names =
    codes "literal" ∷ codes "code" ∷ codes "number-lines" ∷ codes "start-line" ∷ codes "end-line" ∷ codes "start-after" ∷ codes "end-before" ∷ codes "tab-width" ∷ []

-- the options by their names
abbrev pub options : List (Text × OptionName)
options =
    (codes "alt", Alt) ∷ (codes "height", Height) ∷ (codes "width", Width) ∷ (codes "scale", Scale) ∷ (codes "align", Align) ∷ (codes "target", Target)
    ∷ (codes "class", Class) ∷ (codes "name", Name) ∷ (codes "figwidth", FigureWidth) ∷ (codes "figclass", FigureClass) ∷ (codes "subtitle", Subtitle) ∷ (codes "file", File) ∷ (codes "url", Url)
    ∷ (map (λ name. (name, Inclusion)) inclusion_names ++ (codes "depth", Depth) ∷ (codes "local", Local) ∷ (codes "backlinks", Backlinks) ∷ (codes "header-rows", HeaderRows)
    ∷ (codes "stub-columns", StubColumns) ∷ (codes "widths", Widths) ∷ [])

-- the option that a text names
unfoldable pub option_named : Text → Option OptionName
option_named t = lookup (is_word t) options
