-- Letters of terms.
use Rattle.std.proofs.Common.{◌≡◌, ◌==◌, ℕ, zero, suc, ◌+◌, ◌<◌, false, List, [], ◌∷◌, ◌++◌, length, get_or, drop, Option, Some, Vec, Global, refl, sym, ap, ◌∙◌}
use Rattle.std.specs.Prelude.{encode_utf8_all, map}
use Rattle.std.proofs.lemmas.List.{nil_from_length, at_drop_more}
use Rattle.rst_tree.specs.declared.node.Node.{Node}
use Rattle.rst_tree.specs.declared.node.Node.TheVariants.{Text as Words}
use Rattle.rst_inline_scan.specs.declared.piece.Kind.TheVariants.{Plain}
use Rattle.rst_inline_scan.specs.declared.piece.Piece.{Piece}
use Rattle.rst_inline.specs.Parts.{source}
use Rattle.rst_block_nodes.proofs.HeadLemmas.{lists_of}
use Rattle.rst_block_nodes.specs.declared.terms.Letter.{Letter}
use Rattle.rst_block_nodes.specs.Terms.{is_bare, ends_in_space_after, ends_in_space, letters_from, cut_at_delimiters, spelled, parts_by, parts_of_pieces}

-- how many letters come before the spaces at the end, where of the first i these are `len`, and of those after them n
abbrev pub dark_after : ℕ → ℕ → ℕ → ℕ
dark_after len i zero = len
dark_after len i (suc n) = i + suc n

pub ends_in_space_after_append : (l : Letter) (ls : List Letter) (m : Letter) → ends_in_space_after l (ls ++ m ∷ []) ≡ is_bare m 32
ends_in_space_after_append l [] m = refl
ends_in_space_after_append l (k ∷ ls) m = ends_in_space_after_append k ls m

pub ends_in_space_append : (ls : List Letter) (m : Letter) → ends_in_space (ls ++ m ∷ []) ≡ is_bare m 32
ends_in_space_append [] m = refl
ends_in_space_append (l ∷ ls) m = ends_in_space_after_append l ls m

-- a letter spells a text
pub spelled_some : (ls : List Letter) → (length ls == 0) ≡ false → spelled ls ≡ Some (Words (encode_utf8_all (map (λ l. l.character) ls))) ∷ []
spelled_some [] some = absurd (cc)
spelled_some (l ∷ ls) some = refl

-- ---- the parts of pieces

-- a piece past the end
abbrev pub no_piece : Piece
no_piece = record { kind = Plain; from = 0; content_from = 0; content_to = 0; to = 0 }

some_parts : (ls : List Letter) → (length ls == 0) ≡ false → parts_by Plain ls ≡ cut_at_delimiters false [] ls ∷ []
some_parts [] some = absurd (cc)
some_parts (l ∷ ls) some = refl

lists_more : (vs : List (Vec (Option Node) Global)) (v : Vec (Option Node) Global) (rest : List (List (Option Node))) → lists_of (vs ++ v ∷ []) ++ rest ≡ lists_of vs ++ v.items ∷ rest
lists_more [] v rest = refl
lists_more (w ∷ vs) v rest = ap (λ xs. w.items ∷ xs) (lists_more vs v rest)

texts_at : (t : List ℕ) (pieces : List Piece) (i : ℕ) (ls : List Letter) → i < length pieces → (get_or pieces i no_piece).kind ≡ Plain → ls ≡ letters_from false (source t (get_or pieces i no_piece)) → parts_of_pieces t (drop i pieces) ≡ parts_by Plain ls ++ parts_of_pieces t (drop (i + 1) pieces)
texts_at t pieces i ls within plain are =
    at_drop_more (parts_of_pieces t) pieces i no_piece within
    ∙ ap (λ k. parts_by k (letters_from false (source t (get_or pieces i no_piece))) ++ parts_of_pieces t (drop (i + 1) pieces)) plain
    ∙ ap (λ xs. parts_by Plain xs ++ parts_of_pieces t (drop (i + 1) pieces)) (sym are)

-- a piece without markup and with letters
pub texts_more : (t : List ℕ) (pieces : List Piece) (i : ℕ) (ls : List Letter) (us vs : List (Vec (Option Node) Global)) (v : Vec (Option Node) Global) → i < length pieces → (get_or pieces i no_piece).kind ≡ Plain → ls ≡ letters_from false (source t (get_or pieces i no_piece)) → (length ls == 0) ≡ false → v.items ≡ cut_at_delimiters false [] ls → us ≡ vs ++ v ∷ [] → lists_of us ++ parts_of_pieces t (drop (i + 1) pieces) ≡ lists_of vs ++ parts_of_pieces t (drop i pieces)
texts_more t pieces i ls us vs v within plain are some parts put =
    ap (λ xs. lists_of xs ++ parts_of_pieces t (drop (i + 1) pieces)) put
    ∙ lists_more vs v (parts_of_pieces t (drop (i + 1) pieces))
    ∙ ap (λ xs. lists_of vs ++ xs ∷ parts_of_pieces t (drop (i + 1) pieces)) parts
    ∙ ap (λ xs. lists_of vs ++ xs) (ap (λ xs. xs ++ parts_of_pieces t (drop (i + 1) pieces)) (sym (some_parts ls some)) ∙ sym (texts_at t pieces i ls within plain are))

-- one without letters
pub texts_same : (t : List ℕ) (pieces : List Piece) (i : ℕ) (ls : List Letter) (us vs : List (Vec (Option Node) Global)) → i < length pieces → (get_or pieces i no_piece).kind ≡ Plain → ls ≡ letters_from false (source t (get_or pieces i no_piece)) → length ls ≡ 0 → us ≡ vs → lists_of us ++ parts_of_pieces t (drop (i + 1) pieces) ≡ lists_of vs ++ parts_of_pieces t (drop i pieces)
texts_same t pieces i ls us vs within plain are none same =
    ap (λ xs. lists_of xs ++ parts_of_pieces t (drop (i + 1) pieces)) same
    ∙ ap (λ xs. lists_of vs ++ xs) (ap (λ xs. parts_by Plain xs ++ parts_of_pieces t (drop (i + 1) pieces)) (sym (nil_from_length ls none)) ∙ sym (texts_at t pieces i ls within plain are))
