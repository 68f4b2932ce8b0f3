-- The pieces of an inline text (Markup Specification, 'Inline markup recognition rules', 'Recognition order').
use Rattle.std.specs.Prelude.{◌≡◌, ℕ, ◌-◌, ◌<◌, ◌≤◌, Bool, true, false, not, ◌&&◌, ◌||◌, ◌==◌, List, [], ◌∷◌, Option, None, Some, slice_index, length, option_and_then, if◌then◌else◌}
use Rattle.std.specs.Option.{option_or}
use Rattle.rst_text.specs.Characters.{Text}
use Rattle.rst_inline_scan.specs.Characters.{may_precede_start}
use Rattle.rst_text.specs.Escapes.{is_escaped}
use Rattle.rst_inline_scan.specs.Marked.{markup_of, marked}
use Rattle.rst_inline_scan.specs.Names.{reference}
use Rattle.rst_inline_scan.specs.Footnotes.{label}
use Rattle.rst_inline_scan.specs.Uri.{uri}
use Rattle.rst_inline_scan.specs.Registered.{registered_uri}
use Rattle.rst_inline_scan.specs.Mail.{address}
use Rattle.rst_inline_scan.specs.declared.piece.Kind.TheVariants.{Plain}
use Rattle.rst_inline_scan.specs.declared.piece.Piece.{Piece}

-- the piece that the first kind of markup gives that holds at the place, standalone hyperlinks apart
unfoldable pub unlinked_at : Text → ℕ → Option Piece
unlinked_at t i = option_or (option_and_then (λ markup. marked markup t i) (markup_of t i)) (option_or (label t i) (reference t i))

-- the same with the URIs of the base
unfoldable pub markup_at : Text → ℕ → Option Piece
markup_at t i = option_or (unlinked_at t i) (uri t i)

-- A start may occur at i: it is not escaped, and what precedes it fits. Plain text before i begins at `from`: no backslash
-- before that counts.
unfoldable pub is_free : Text → ℕ → ℕ → Bool
is_free t from i = not (is_escaped t from i) && (i == 0 || may_precede_start (slice_index t (i - 1)))

-- the piece that begins at i, if a start may occur there and markup begins
abbrev pub markup_from : Text → ℕ → ℕ → Option Piece
markup_from t from i = if is_free t from i then markup_at t i else None

-- A standalone hyperlink of the wider profile may begin at i: it is not escaped, and what precedes it fits, or plain text begins there.
unfoldable pub is_free_link : Text → ℕ → ℕ → Bool
is_free_link t from i = not (is_escaped t from i) && (i == from || may_precede_start (slice_index t (i - 1)))

-- by the wider profile: the same without the URIs of the base or, where nothing begins, a URI of a registered scheme
unfoldable pub marked_or_registered : Text → ℕ → ℕ → Option Piece
marked_or_registered t from i = option_or (if is_free t from i then unlinked_at t i else None) (if is_free_link t from i then registered_uri t i else None)

-- the address that begins at i, if it may begin there
abbrev pub address_from : Text → ℕ → ℕ → Option Piece
address_from t from i = if is_free_link t from i then address t i else None

-- the piece that begins at i, by the base or with the URIs of registered schemes
abbrev pub unaddressed : Bool → Text → ℕ → ℕ → Option Piece
unaddressed false t from i = markup_from t from i
unaddressed true t from i = marked_or_registered t from i

-- the piece that begins at i: where addresses are asked for and nothing else begins, an address
unfoldable pub piece_at : Bool → Bool → Text → ℕ → ℕ → Option Piece
piece_at false registered t from i = unaddressed registered t from i
piece_at true registered t from i = option_or (unaddressed registered t from i) (address_from t from i)

-- there is no start at the places from `low` below `high`
abbrev pub HasNoStart : Bool → Bool → Text → ℕ → ℕ → ℕ → Type 0
HasNoStart mail registered t from low high = (i : ℕ) → low ≤ i → i < high → piece_at mail registered t from i ≡ None

-- plain text from one place up to another
abbrev pub plain_from : ℕ → ℕ → Piece
plain_from from to = record { kind = Plain; from = from; content_from = from; content_to = to; to = to }

-- a plain piece from `from`: it is not empty, and holds no start
pub record IsPlain (mail registered : Bool) (t : Text) (from : ℕ) (p : Piece) : Type 0 where
  pub is_plain : p ≡ plain_from from p.to
  pub some : from < p.to
  pub within : p.to ≤ length t
  pub none : HasNoStart mail registered t from from p.to

-- The pieces of the text from `from` on. A plain piece runs to the least start after it, or to the end where there is none;
-- any other begins at a start.
pub data IsPieces (mail registered : Bool) (t : Text) : ℕ → List Piece → Type 0 where
  nothing : {from : ℕ} → from ≡ length t → IsPieces mail registered t from []
  last : {from : ℕ} (p : Piece) → IsPlain mail registered t from p → p.to ≡ length t → IsPieces mail registered t from (p ∷ [])
  other : {from : ℕ} (p : Piece) (ps : List Piece) → piece_at mail registered t from from ≡ Some p → IsPieces mail registered t p.to ps → IsPieces mail registered t from (p ∷ ps)
  plain : {from : ℕ} (p q : Piece) (ps : List Piece) → IsPlain mail registered t from p → piece_at mail registered t from p.to ≡ Some q → IsPieces mail registered t q.to ps → IsPieces mail registered t from (p ∷ q ∷ ps)

-- A piece lies within the text and is not empty, and what its markup encloses lies within the piece.
pub record IsWithin (t : Text) (p : Piece) : Type 0 where
  pub some : p.from < p.to
  pub begins : p.from ≤ p.content_from
  pub ends : p.content_from ≤ p.content_to
  pub limit : p.content_to ≤ p.to
  pub within : p.to ≤ length t
