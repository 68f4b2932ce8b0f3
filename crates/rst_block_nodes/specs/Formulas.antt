-- Formulas (Directives, 'Math').
use Rattle.std.specs.Prelude.{ℕ, ◌&&◌, ◌==◌, List, [], ◌∷◌, encode_utf8_all, if◌then◌else◌}
use Rattle.std.specs.List.{onto_first}
use Rattle.rst_tree.specs.declared.node.Node.{Node}
use Rattle.rst_tree.specs.declared.tag.Tag.{Tag}
use Rattle.rst_markup_directives.specs.Options.{OptionSetting}
use Rattle.rst_block_nodes.specs.Elements.{element_of, preserving, text_nodes}
use Rattle.rst_block_nodes.specs.Options.{with_choices}
use Rattle.rst_block_nodes.specs.declared.settings.Holder.{Holder}
use Rattle.rst_block_nodes.specs.declared.settings.Holder.TheVariants.{Body, Further}

-- the parts of a text between its pairs of line feeds
abbrev pub parts_of : List ℕ → List (List ℕ)
parts_of [] = [] ∷ []
parts_of (c ∷ []) = (c ∷ []) ∷ []
parts_of (c ∷ d ∷ cs) = if c == 10 && d == 10 then [] ∷ parts_of cs else onto_first c (parts_of (d ∷ cs))

-- the element of a formula, with the attributes that options give it
abbrev pub formula : Holder → Tag → List OptionSetting → ℕ → List ℕ → Node
formula holder element choices line text = element_of element (with_choices holder choices preserving) (text_nodes (encode_utf8_all text)) line

-- the formulas of parts, of which empty ones give none; only the first formula has the name that the options give
abbrev pub formulas_from : Holder → Tag → List OptionSetting → ℕ → List (List ℕ) → List Node
formulas_from holder element choices line [] = []
formulas_from holder element choices line ([] ∷ parts) = formulas_from holder element choices line parts
formulas_from holder element choices line ((c ∷ cs) ∷ parts) = formula holder element choices line (c ∷ cs) ∷ formulas_from Further element choices line parts

-- the formulas of a text
abbrev pub formulas : Tag → List OptionSetting → ℕ → List ℕ → List Node
formulas element choices line text = formulas_from Body element choices line (parts_of text)

-- ---- as they are made

-- what the options give attributes to after these formulas
abbrev pub holder_after : List Node → Holder
holder_after [] = Body
holder_after (n ∷ ns) = Further
