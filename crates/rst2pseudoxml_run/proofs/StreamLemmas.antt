-- Lemmas on pieces that are written one after another.
use Rattle.std.proofs.Common.{◌≡◌, ◌∙◌, ℕ, ◌+◌, ◌<◌, List, [], ◌∷◌, ◌++◌, length, take, drop, get_or, Bor, sym, ap, append_assoc, codes, append-nil, take-append-drop}
use Rattle.std.specs.List.{flat_map}
use Rattle.std.proofs.lemmas.Grind.{flat_map-append}
use Rattle.std.proofs.lemmas.List.{take_more}

-- the pieces as one text
abbrev pub joined : List (Bor (List ℕ)) → List ℕ
joined pieces = flat_map (λ (piece : Bor (List ℕ)). piece.now) pieces

-- the text of one more piece
pub one_more : (pieces : List (Bor (List ℕ))) (i : ℕ) (d : Bor (List ℕ)) (text : List ℕ) → i < length pieces → text ≡ (get_or pieces i d).now → joined (take i pieces) ++ text ≡ joined (take (i + 1) pieces)
one_more pieces i d text within same =
    ap (λ l. joined (take i pieces) ++ l) (same ∙ sym (append-nil (get_or pieces i d).now))
    ∙ sym (ap joined (take_more pieces i d within) ∙ flat_map-append (λ (piece : Bor (List ℕ)). piece.now) (take i pieces) (get_or pieces i d ∷ []))

-- the first pieces and those after them
pub parted : (pieces : List (Bor (List ℕ))) (n : ℕ) → joined (take n pieces) ++ joined (drop n pieces) ≡ joined pieces
parted pieces n = sym (flat_map-append (λ (piece : Bor (List ℕ)). piece.now) (take n pieces) (drop n pieces)) ∙ ap joined (take-append-drop n pieces)

pub line-joined : (p b d a : List ℕ) → p ++ (codes ": " ++ (b ++ (d ++ (a ++ 10 ∷ [])))) ≡ p ++ (codes ": " ++ (((b ++ d) ++ a) ++ 10 ∷ []))
line-joined p b d a = simp append_assoc
