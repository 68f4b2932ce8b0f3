-- What a document means, as the tree of it before any transform, for worked examples. No rule of markup.
use Prim.Native.String.{String}
use Rattle.std.specs.Prelude.{◌≡◌, ℕ, true, List, [], ◌∷◌, encode_utf8_all, Result, Ok, Err}
use Rattle.rst_settings.specs.Parts.{all_parts, handing, no_parts}
use Rattle.rst_settings.specs.declared.Parts.{Parts}
use Rattle.rst_text.specs.Lines.{lines_of}
use Rattle.rst_text.specs.Written.{written}
use Rattle.rst_tree.specs.Print.{print_of}
use Rattle.rst_tree.specs.declared.node.Node.{Node}
use Rattle.rst_block_nodes.specs.Whole.{whole}
use Rattle.rst_block_nodes.specs.Sections.{document_of}
use Rattle.rst_block_state.specs.Nodes.{document_items}
use Rattle.rst_block_state.specs.Numbered.{◌>>=◌, just}

-- The document of some lines, by the parts of the wider profile that are asked for, where blocks may be nested this deep; and how many messages on
-- texts were counted.
abbrev pub document_of_lines : Parts → ℕ → List String → Result (Node × ℕ) ℕ
document_of_lines parts levels text = (do
  items ← document_items (record { nesting = levels; line_limit = 1000; code = true; docinfo = true }) (lines_of parts 8 (written text))
  just (document_of items)) 0

-- what is printed of a document that was read
abbrev pub print_if : Result (Node × ℕ) ℕ → Result (List ℕ) ℕ
print_if (Ok (root, count)) = Ok (print_of root)
print_if (Err line) = Err line

-- of these lines this tree is printed
abbrev pub Reads : List String → List String → Type 0
Reads text tree = print_if (document_of_lines no_parts 9 text) ≡ Ok (encode_utf8_all (written tree))

-- these lines begin a block that is nested too deeply at a line, where blocks may be nested this deep
abbrev pub IsTooDeep : ℕ → List String → ℕ → Type 0
IsTooDeep levels text line = document_of_lines no_parts levels text ≡ Err line

-- all that a document contains that was read, and how many messages on texts were counted
abbrev pub whole_if : Result (Node × ℕ) ℕ → Result (List ℕ × ℕ) ℕ
whole_if (Ok (root, count)) = Ok (whole (root ∷ []), count)
whole_if (Err line) = Err line

-- These lines mean a document whose whole content is this tree, and this many messages on texts are counted. A message is counted also where the
-- text is dropped.
abbrev pub Means : List String → ℕ → List String → Type 0
Means text count tree = whole_if (document_of_lines no_parts 9 text) ≡ Ok (encode_utf8_all (written tree), count)

-- the same where every part of the wider profile is asked for
abbrev pub MeansWider : List String → ℕ → List String → Type 0
MeansWider text count tree = whole_if (document_of_lines all_parts 9 text) ≡ Ok (encode_utf8_all (written tree), count)

-- the same where, besides, these names are handed back
abbrev pub MeansHanding : String → List String → ℕ → List String → Type 0
MeansHanding names text count tree = whole_if (document_of_lines (handing names) 9 text) ≡ Ok (encode_utf8_all (written tree), count)

-- the same of a block that is nested too deeply
abbrev pub IsTooDeepWider : ℕ → List String → ℕ → Type 0
IsTooDeepWider levels text line = document_of_lines all_parts levels text ≡ Err line
