-- The pieces that are found one after the other are those of the text.
use Rattle.std.proofs.Common.{◌≡◌, inl, inr, ℕ, zero, suc, ◌+◌, ◌<◌, ◌≤◌, Bool, true, false, List, [], ◌∷◌, ◌++◌, Option, Some, None, length, append_assoc, ap₂, le_of_lt, refl, sym, ap, ◌∙◌, subst, arith, lt-ltb, le-ltb, true≢false}
use Rattle.std.specs.Prelude.{is_some}
use Rattle.std.proofs.lemmas.Bool.{cases_lt}
use Rattle.rst_text.specs.Places.{IsFirst}
use Rattle.rst_text.proofs.PlacesLemmas.{first_from-first, first_from-is}
use Rattle.rst_text.specs.Characters.{Text}
use Rattle.rst_inline_scan.specs.Pieces.{piece_at, HasNoStart, plain_from, IsPieces, nothing, last, other, plain}
use Rattle.rst_inline_scan.specs.Reading.{next_start, pieces_by, pieces_from, pieces_of, plain_if}
use Rattle.rst_inline_scan.specs.Calm.{IsScanned}
use Rattle.rst_inline_scan.specs.declared.piece.Piece.{Piece}
use Rattle.rst_inline_scan.proofs.PieceLemmas.{piece_at-fits, inside_at, is-plain}

some_piece : (o : Option Piece) → is_some o ≡ true → (q : Piece) × (o ≡ Some q)
some_piece (Some q) h = (q, refl)
some_piece None h = absurd (true≢false (sym h))

no_piece : (o : Option Piece) → is_some o ≡ false → o ≡ None
no_piece (Some q) h = absurd (true≢false h)
no_piece None h = refl

-- no start is left
at_end : (mail registered : Bool) (t : Text) (from : ℕ) → from ≤ length t → HasNoStart mail registered t from from (length t) → IsPieces mail registered t from (plain_if from (length t))
at_end mail registered t from within h = elim (cases_lt from (length t)) [
  | inl less ↦ rw (lt-ltb from (length t) less) (last (plain_from from (length t)) (is-plain mail registered t from (length t) less (omega arith) h) refl)
  | inr more ↦ rw (le-ltb from (length t) more) (let end : from ≡ length t = omega arith in nothing end)
]

-- a piece begins at i, and none before
at_start : (mail registered : Bool) (t : Text) (from i : ℕ) (q : Piece) (ps : List Piece) → from ≤ i → i ≤ length t → HasNoStart mail registered t from from i → piece_at mail registered t from i ≡ Some q → IsPieces mail registered t q.to ps → IsPieces mail registered t from (plain_if from i ++ q ∷ ps)
at_start mail registered t from i q ps above within h begins rest = elim (cases_lt from i) [
  | inl less ↦ rw (lt-ltb from i less) (plain (plain_from from i) q ps (is-plain mail registered t from i less within h) begins rest)
  | inr more ↦ rw (le-ltb from i more) (let same : i ≡ from = omega arith in other q ps (subst (λ k. piece_at mail registered t from k ≡ Some q) same begins) rest)
]

-- ---- the pieces so far

-- whatever completes the rest completes the whole
abbrev pub Gathered : Bool → Bool → Text → ℕ → List Piece → Type 0
Gathered mail registered t from items = (ps : List Piece) → IsPieces mail registered t from ps → IsPieces mail registered t 0 (items ++ ps)

pub gathered-more : (mail registered : Bool) (t : Text) (from i : ℕ) (escaped : Bool) (items : List Piece) (q : Piece) → Gathered mail registered t from items → IsScanned mail registered t from i escaped → piece_at mail registered t from i ≡ Some q → Gathered mail registered t q.to ((items ++ plain_if from i) ++ q ∷ [])
gathered-more mail registered t from i escaped items q gathered known begins ps h =
    rw (append_assoc, append_assoc) (gathered (plain_if from i ++ q ∷ ps) (at_start mail registered t from i q ps known.above known.within known.none begins h))

pub gathered-all : (mail registered : Bool) (t : Text) (from i : ℕ) (escaped : Bool) (items : List Piece) → Gathered mail registered t from items → IsScanned mail registered t from i escaped → length t ≤ i → IsPieces mail registered t 0 (items ++ plain_if from i)
gathered-all mail registered t from i escaped items gathered known end =
    let same : i ≡ length t = omega (arith, known.within) in
    rw same (gathered (plain_if from (length t)) (at_end mail registered t from (omega (arith, known.above)) (subst (HasNoStart mail registered t from from) same known.none)))

-- ---- from left to right

-- all pieces after a place later than this one are found so
abbrev FindsAfter : Bool → Bool → Text → ℕ → ℕ → Type 0
FindsAfter mail registered t n from = (k : ℕ) → from < k → k ≤ length t → IsPieces mail registered t k (pieces_from mail registered t n k)

-- by the next start
by_start : (mail registered : Bool) (t : Text) (n from : ℕ) → from ≤ length t → FindsAfter mail registered t n from → (r : Option ℕ) → IsFirst (λ i. is_some (piece_at mail registered t from i)) from (length t) r
    → IsPieces mail registered t from (pieces_by mail registered t from r (λ following. pieces_from mail registered t n following))
by_start mail registered t n from within finds None h = at_end mail registered t from within (λ i low high. no_piece (piece_at mail registered t from i) (h i low high))
by_start mail registered t n from within finds (Some i) h =
    let q = some_piece (piece_at mail registered t from i) h.2 in
    let within : i ≤ length t = omega (arith, h.1) in
    let fits = piece_at-fits mail registered t from i q.0 within q.1 in
    let rest = finds q.0.to (omega (arith, fits.some, h.0)) fits.within in
    rw q.1 (at_start mail registered t from i q.0 (pieces_from mail registered t n q.0.to) h.0 within (λ k low high. no_piece (piece_at mail registered t from k) (h.3 k low high)) q.1 rest)

found_from : (mail registered : Bool) (t : Text) (n from : ℕ) → length t < from + n → from ≤ length t → IsPieces mail registered t from (pieces_from mail registered t n from)
found_from mail registered t zero from e within = absurd (omega arith)
found_from mail registered t (suc n) from e within =
    by_start mail registered t n from within (λ k above short. found_from mail registered t n k (omega arith) short) (next_start mail registered t from) (first_from-first (λ i. is_some (piece_at mail registered t from i)) from (length t) within)

pub pieces_of-pieces : (mail registered : Bool) (t : Text) → IsPieces mail registered t 0 (pieces_of mail registered t)
unfolding pieces_of
pieces_of-pieces mail registered t = found_from mail registered t (suc (length t)) 0 (omega arith) (omega arith)

-- ---- no others are

by_next : (mail registered : Bool) (t : Text) (n from : ℕ) (ps : List Piece) (r : Option ℕ) → IsFirst (λ i. is_some (piece_at mail registered t from i)) from (length t) r
    → ps ≡ pieces_by mail registered t from r (λ following. pieces_from mail registered t n following) → ps ≡ pieces_from mail registered t (suc n) from
by_next mail registered t n from ps r h e =
    subst (λ r. ps ≡ pieces_by mail registered t from r (λ following. pieces_from mail registered t n following)) (first_from-is (λ i. is_some (piece_at mail registered t from i)) from (length t) r h) e

only_from : (mail registered : Bool) (t : Text) (n from : ℕ) (ps : List Piece) → length t < from + n → from ≤ length t → IsPieces mail registered t from ps → ps ≡ pieces_from mail registered t n from
only_from mail registered t zero from ps e within h = absurd (omega arith)
only_from mail registered t (suc n) from _ e within (nothing end) = by_next mail registered t n from [] None (λ i low high. absurd (omega arith)) (rw (le-ltb from (length t) (omega arith)) refl)
only_from mail registered t (suc n) from _ e within (last p a end) =
    by_next mail registered t n from (p ∷ []) None (λ i low high. ap is_some (a.none i low (omega arith)))
    (rw (lt-ltb from (length t) (omega (arith, a.some))) (ap (λ q. q ∷ []) (a.is_plain ∙ ap (plain_from from) end)))
only_from mail registered t (suc n) from _ e within (other p ps begins rest) =
    let fits = piece_at-fits mail registered t from from p within begins in
    let later = only_from mail registered t n p.to ps (omega (arith, fits.some)) fits.within rest in
    by_next mail registered t n from (p ∷ ps) (Some from) (omega arith, inside_at mail registered t from from p within begins, ap is_some begins, λ i low high. absurd (omega arith))
    (rw (le-ltb from from (omega arith), begins) (ap (λ l. p ∷ l) later))
only_from mail registered t (suc n) from _ e within (plain p q ps a begins rest) =
    let fits = piece_at-fits mail registered t from p.to q a.within begins in
    let later = only_from mail registered t n q.to ps (omega (arith, fits.some, a.some)) fits.within rest in
    by_next mail registered t n from (p ∷ q ∷ ps) (Some p.to) (le_of_lt a.some, inside_at mail registered t from p.to q a.within begins, ap is_some begins, λ i low high. ap is_some (a.none i low high))
    (rw (lt-ltb from p.to a.some, begins) (ap₂ (λ p ps. p ∷ q ∷ ps) a.is_plain later))

pub pieces_of-only : (mail registered : Bool) (t : Text) (ps : List Piece) → IsPieces mail registered t 0 ps → ps ≡ pieces_of mail registered t
unfolding pieces_of
pieces_of-only mail registered t ps h = only_from mail registered t (suc (length t)) 0 ps (omega arith) (omega arith) h
