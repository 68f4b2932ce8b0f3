-- The roles of interpreted text (Docutils, 'Interpreted Text Roles').
use Prim.Native.String.{String}
use Rattle.std.specs.Prelude.{ℕ, Bool, true, false, ◌&&◌, is_none, is_some, List, [], ◌∷◌, map, Option, Some, None, codes, option_and_then, if◌then◌else◌}
use Rattle.std.specs.Borrow.{Bor}
use Rattle.std.specs.Map.{lookup}
use Rattle.std.specs.Str.{bytes_eq, str_eq_ignore_ascii_case}
use Rattle.rst_inline.specs.declared.roles.Holder.{Holder}
use Rattle.rst_inline.specs.declared.roles.Holder.TheVariants.{Base, Wider}
use Rattle.rst_inline.specs.declared.roles.Role.{Role}
use Rattle.rst_inline.specs.declared.roles.Role.TheVariants.{Element, Pep, Rfc, Math, Code, Raw, Unimplemented}
use Rattle.rst_tree.specs.declared.tag.Tag.TheVariants.{Abbreviation, Acronym, Emphasis, Strong, Literal, Subscript, Superscript, TitleReference}

-- a role by its name, with the profile that has it
abbrev pub Row : Type 0
Row = List ℕ × (Holder × Role)

abbrev pub row : String → Holder → Role → Row
row name holder role = (codes name, (holder, role))

-- the roles by their names
abbrev pub roles : List Row
roles =
    row "emphasis" Base (Element Emphasis)
    ∷ row "strong" Base (Element Strong)
    ∷ row "literal" Base (Element Literal)
    ∷ row "subscript" Base (Element Subscript)
    ∷ row "sub" Base (Element Subscript)
    ∷ row "superscript" Base (Element Superscript)
    ∷ row "sup" Base (Element Superscript)
    ∷ row "title-reference" Base (Element TitleReference)
    ∷ row "title" Base (Element TitleReference)
    ∷ row "t" Base (Element TitleReference)
    ∷ row "abbreviation" Wider (Element Abbreviation)
    ∷ row "ab" Wider (Element Abbreviation)
    ∷ row "acronym" Wider (Element Acronym)
    ∷ row "ac" Wider (Element Acronym)
    ∷ row "code" Wider Code
    ∷ row "math" Wider Math
    ∷ row "pep-reference" Wider Pep
    ∷ row "pep" Wider Pep
    ∷ row "rfc-reference" Wider Rfc
    ∷ row "rfc" Wider Rfc
    ∷ row "raw" Wider Raw
    ∷ row "index" Wider Unimplemented
    ∷ row "i" Wider Unimplemented
    ∷ row "named-reference" Wider Unimplemented
    ∷ row "anonymous-reference" Wider Unimplemented
    ∷ row "uri-reference" Wider Unimplemented
    ∷ row "uri" Wider Unimplemented
    ∷ row "url" Wider Unimplemented
    ∷ row "footnote-reference" Wider Unimplemented
    ∷ row "citation-reference" Wider Unimplemented
    ∷ row "substitution-reference" Wider Unimplemented
    ∷ row "target" Wider Unimplemented
    ∷ []

-- A text is the name of a role: the wider profile doesn't look at the case of letters of ASCII, other than the base
-- (docs/DOCUTILS.md, 'Roles').
abbrev pub is_name : Bool → List ℕ → List ℕ → Bool
is_name wider text name = if wider then str_eq_ignore_ascii_case text name else bytes_eq text name

-- the rows of a table of the program
abbrev pub rows_of : List (Bor (List ℕ) × (Holder × Role)) → List Row
rows_of table = map (λ row. (row.0.now, row.1)) table

-- a role, if the profile has it
abbrev pub if_held : Bool → Holder × Role → Option Role
if_held wider (Base, role) = Some role
if_held wider (Wider, role) = if wider then Some role else None

-- the role that a text names in the base, or in the wider profile
unfoldable pub role_named : Bool → List ℕ → Option Role
role_named wider text = option_and_then (if_held wider) (lookup (is_name wider text) roles)

-- the text names a role in the wider profile alone
unfoldable pub is_wider_role : List ℕ → Bool
is_wider_role text = is_some (role_named true text) && is_none (role_named false text)
