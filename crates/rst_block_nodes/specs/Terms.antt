-- Terms and classifiers, and their parts (Markup Specification, 'Definition Lists').
use Rattle.std.specs.Prelude.{ℕ, zero, suc, Bool, true, false, ◌&&◌, ◌==◌, not, List, [], ◌∷◌, ◌++◌, Option, None, Some, take, map, if◌then◌else◌, encode_utf8_all}
use Rattle.rst_text.specs.Characters.{is_white}
use Rattle.std.specs.List.{flat_map}
use Rattle.rst_text.specs.Escapes.{escapes}
use Rattle.rst_inline_scan.specs.declared.piece.Kind.{Kind}
use Rattle.rst_inline_scan.specs.declared.piece.Kind.TheVariants.{Plain}
use Rattle.rst_inline_scan.specs.declared.piece.Piece.{Piece}
use Rattle.rst_inline.specs.Parts.{source}
use Rattle.rst_tree.specs.declared.node.Node.{Node}
use Rattle.rst_tree.specs.declared.node.Node.TheVariants.{Element, Text as Words}
use Rattle.rst_tree.specs.declared.tag.Tag.TheVariants.{Term, Classifier}
use Rattle.rst_block_nodes.specs.declared.terms.Letter.{Letter}
use Rattle.rst_block_nodes.specs.Elements.{element_of}
use Rattle.rst_block_nodes.specs.Texts.{counting}

-- the characters that are left when escapes are gone
abbrev pub letters_from : Bool → List ℕ → List Letter
letters_from escaped [] = []
letters_from escaped (c ∷ cs) =
    if escapes c escaped then letters_from true cs
    else if escaped && is_white c then letters_from false cs
    else record { character = c; escaped = escaped } ∷ letters_from false cs

-- the letter is this character, and not escaped
abbrev pub is_bare : Letter → ℕ → Bool
is_bare l c = l.character == c && not l.escaped

-- how many of a letter and those after it come before the spaces at the end, given the number of those after it that do
abbrev pub dark_onto : Letter → ℕ → ℕ
dark_onto l zero = if is_bare l 32 then 0 else 1
dark_onto l (suc n) = suc (suc n)

-- how many letters come before the spaces at the end
abbrev pub dark_len : List Letter → ℕ
dark_len [] = 0
dark_len (l ∷ ls) = dark_onto l (dark_len ls)

-- the last of some letters, of which this is the first, is a space that isn't escaped
abbrev pub ends_in_space_after : Letter → List Letter → Bool
ends_in_space_after l [] = is_bare l 32
ends_in_space_after l (m ∷ ls) = ends_in_space_after m ls

-- the last letter is a space that isn't escaped
abbrev pub ends_in_space : List Letter → Bool
ends_in_space [] = false
ends_in_space (l ∷ ls) = ends_in_space_after l ls

-- the first letter is a space that isn't escaped
abbrev pub begins_with_space : List Letter → Bool
begins_with_space [] = false
begins_with_space (l ∷ ls) = is_bare l 32

-- a colon with a space on both sides
abbrev pub is_delimiter : List Letter → Letter → List Letter → Bool
is_delimiter before l following = is_bare l 58 && (ends_in_space before && begins_with_space following)

-- the text that letters spell, unless there is none
abbrev pub spelled : List Letter → List (Option Node)
spelled [] = []
spelled (l ∷ ls) = Some (Words (encode_utf8_all (map (λ l. l.character) (l ∷ ls)))) ∷ []

-- The texts of letters cut at delimiters, without the spaces round them; each delimiter is None. `part` comes first; the spaces at the front
-- are skipped.
abbrev pub cut_at_delimiters : Bool → List Letter → List Letter → List (Option Node)
cut_at_delimiters skipping part [] = spelled part
cut_at_delimiters skipping part (l ∷ ls) =
    if skipping && is_bare l 32 then cut_at_delimiters true part ls
    else if is_delimiter part l ls then spelled (take (dark_len part) part) ++ None ∷ cut_at_delimiters true [] ls
    else cut_at_delimiters false (part ++ l ∷ []) ls

-- the parts of a piece of a kind with some letters, where it is text without markup and has a letter
abbrev pub parts_by : Kind → List Letter → List (List (Option Node))
parts_by Plain (l ∷ ls) = cut_at_delimiters false [] (l ∷ ls) ∷ []
parts_by kind ls = []

-- the parts of the texts among the nodes of pieces, text after text
abbrev pub parts_of_pieces : List ℕ → List Piece → List (List (Option Node))
parts_of_pieces t pieces = flat_map (λ p. parts_by p.kind (letters_from false (source t p))) pieces

-- ---- their elements

-- nodes where each text consists of its parts, text after text; None ends the term and each classifier
abbrev pub with_parts : List (List (Option Node)) → List Node → List (Option Node)
with_parts texts [] = None ∷ []
with_parts [] (node ∷ nodes) = Some node ∷ with_parts [] nodes
with_parts (parts ∷ texts) (Words t ∷ nodes) = parts ++ with_parts texts nodes
with_parts (parts ∷ texts) (Element t a c l ∷ nodes) = Some (Element t a c l) ∷ with_parts (parts ∷ texts) nodes

-- a node at the front of the first group
abbrev pub led : Node → List (List Node) → List (List Node)
led node [] = []
led node (group ∷ groups) = (node ∷ group) ∷ groups

-- the nodes before each None
abbrev pub ended_groups : List (Option Node) → List (List Node)
ended_groups [] = []
ended_groups (None ∷ nodes) = [] ∷ ended_groups nodes
ended_groups (Some node ∷ nodes) = led node (ended_groups nodes)

-- the nodes of the term and of each classifier
abbrev pub groups_of : List (List (Option Node)) → List Node → List (List Node)
groups_of texts nodes = ended_groups (with_parts texts nodes)

-- a classifier of a line
abbrev pub classifier_node : ℕ → List Node → Node
classifier_node line nodes = element_of Classifier [] nodes line

-- The first group is that of the term, which has the number of messages; the others are those of classifiers.
abbrev pub heads_of : ℕ → ℕ → List (List Node) → List Node
heads_of notes line [] = []
heads_of notes line (group ∷ groups) = element_of Term (counting notes) group line ∷ map (classifier_node line) groups
