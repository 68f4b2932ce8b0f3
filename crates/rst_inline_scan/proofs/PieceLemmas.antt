-- The pieces of a text.
use Rattle.std.proofs.Common.{◌≡◌, ℕ, ◌+◌, ◌<◌, ◌≤◌, Bool, true, false, List, [], ◌∷◌, ◌&&◌, cond, Option, Some, None, IfSome, length, option_and_then, refl, sym, subst, arith}
use Rattle.std.proofs.lemmas.Bool.{and_parts}
use Rattle.std.proofs.lemmas.List.Elements.{All-nil, All-cons}
use Rattle.std.specs.Prelude.{All}
use Rattle.rst_text.specs.Characters.{Text, has, is_alnum_at}
use Rattle.rst_inline_scan.specs.Characters.{is_free_after}
use Rattle.rst_text.specs.SimpleNames.{name_stop}
use Rattle.rst_inline_scan.specs.Footnotes.{label_stop, closes_label, label_piece, label}
use Rattle.rst_inline_scan.specs.Pieces.{unlinked_at, markup_at, is_free, is_free_link, marked_or_registered, address_from, unaddressed, piece_at, HasNoStart, plain_from, IsPlain, IsWithin, IsPieces, nothing, last, other, plain}
use Rattle.rst_inline_scan.specs.Marked.{markup_of, marked}
use Rattle.rst_inline_scan.specs.declared.piece.Markup.{Markup}
use Rattle.rst_inline_scan.specs.declared.piece.Piece.{Piece}
use Rattle.rst_inline_scan.proofs.FitLemmas.{Fits, Fit, Fit-none, Fit-some, Fit-or, has-lt}
use Rattle.rst_text.proofs.Choices.{either, chosen}
use Rattle.rst_inline_scan.proofs.NameLemmas.{name_stop-fits, reference-fits}
use Rattle.rst_inline_scan.proofs.MarkedLemmas.{marked-fits}
use Rattle.rst_inline_scan.specs.Mail.{address}
use Rattle.rst_inline_scan.specs.Registered.{registered_uri}
use Rattle.rst_inline_scan.proofs.UriLemmas.{uri-fits}
use Rattle.rst_inline_scan.proofs.RegisteredLemmas.{registered_uri-fits}
use Rattle.rst_inline_scan.proofs.MailLemmas.{address-fits}

-- ---- a reference to a footnote

from-above : (i j : ℕ) (r : Option ℕ) → i ≤ j → IfSome r (λ e. j ≤ e) → IfSome r (λ e. i ≤ e)
from-above i j (Some e) h k = omega (arith, k)
from-above i j None h k = tt

label_stop-fits : (t : Text) (i : ℕ) → IfSome (label_stop t i) (λ e. i ≤ e)
unfolding label_stop
label_stop-fits t i =
    let Above : Option ℕ → Type 0 = λ r. IfSome r (λ e. i ≤ e) in
    either (has t i 42) (Some (i + 1)) _ Above (λ star. omega arith)
    (either (has t i 35) (cond (is_alnum_at t (i + 1)) (name_stop t (i + 1)) (Some (i + 1))) (name_stop t i) Above
    (λ hash. either (is_alnum_at t (i + 1)) (name_stop t (i + 1)) (Some (i + 1)) Above (λ alnum. from-above i (i + 1) (name_stop t (i + 1)) (omega arith) (name_stop-fits t (i + 1))) (omega arith))
    (name_stop-fits t i))

label_piece-fits : (t : Text) (i : ℕ) (r : Option ℕ) → IfSome r (λ e. i + 1 ≤ e) → Fit t i (option_and_then (label_piece t i) r)
label_piece-fits t i (Some e) h = either (closes_label t e) (Some _) None (Fit t i)
    (λ closes.
    let second = (and_parts (has t e 93) (has t (e + 1) 95 && is_free_after t (e + 2)) closes).1 in
    let less : e + 1 < length t = has-lt t (e + 1) 95 (and_parts (has t (e + 1) 95) (is_free_after t (e + 2)) second).0 in
    Fit-some t i _ (record { begins = refl; some = omega (arith, h); within = omega arith; above = omega arith; order = h; limit = omega arith }))
    (Fit-none t i)
label_piece-fits t i None h = Fit-none t i

label-fits : (t : Text) (i : ℕ) → Fit t i (label t i)
unfolding label
label-fits t i = either (has t i 91) (option_and_then (label_piece t i) (label_stop t (i + 1))) None (Fit t i) (λ bracket. label_piece-fits t i (label_stop t (i + 1)) (label_stop-fits t (i + 1))) (Fit-none t i)

-- ---- any markup

marked_any-fits : (t : Text) (i : ℕ) (r : Option Markup) → Fit t i (option_and_then (λ markup. marked markup t i) r)
marked_any-fits t i (Some markup) = marked-fits markup t i
marked_any-fits t i None = Fit-none t i

unlinked_at-fits : (t : Text) (i : ℕ) → Fit t i (unlinked_at t i)
unfolding unlinked_at
unlinked_at-fits t i = Fit-or t i _ _ (marked_any-fits t i (markup_of t i)) (Fit-or t i _ _ (label-fits t i) (reference-fits t i))

markup_at-fits : (t : Text) (i : ℕ) → i ≤ length t → Fit t i (markup_at t i)
unfolding markup_at
markup_at-fits t i within = Fit-or t i _ _ (unlinked_at-fits t i) (uri-fits t i within)

-- ---- any piece

chosen-fits : (t : Text) (i : ℕ) (b : Bool) (r : Option Piece) → Fit t i r → Fit t i (cond b r None)
chosen-fits t i b r fit p h = fit p (chosen b r p h).1

unaddressed-fits : (registered : Bool) (t : Text) (from i : ℕ) → i ≤ length t → Fit t i (unaddressed registered t from i)
unfolding marked_or_registered
unaddressed-fits false t from i within = chosen-fits t i (is_free t from i) (markup_at t i) (markup_at-fits t i within)
unaddressed-fits true t from i within = Fit-or t i _ _ (chosen-fits t i (is_free t from i) (unlinked_at t i) (unlinked_at-fits t i)) (chosen-fits t i (is_free_link t from i) (registered_uri t i) (registered_uri-fits t i))

address_from-fits : (t : Text) (from i : ℕ) → i ≤ length t → Fit t i (address_from t from i)
address_from-fits t from i within = chosen-fits t i (is_free_link t from i) (address t i) (address-fits t i within)

pub piece_at-fits : (mail registered : Bool) (t : Text) (from i : ℕ) (p : Piece) → i ≤ length t → piece_at mail registered t from i ≡ Some p → Fits t i p
unfolding piece_at
piece_at-fits false registered t from i p within h = unaddressed-fits registered t from i within p h
piece_at-fits true registered t from i p within h = Fit-or t i (unaddressed registered t from i) (address_from t from i) (unaddressed-fits registered t from i within) (address_from-fits t from i within) p h

pub is-plain : (mail registered : Bool) (t : Text) (from at : ℕ) → from < at → at ≤ length t → HasNoStart mail registered t from from at → IsPlain mail registered t from (plain_from from at)
is-plain mail registered t from at some within none = record { is_plain = refl; some = some; within = within; none = none }

-- a start is within the text, as there is nothing past its end: a piece there would reach further
pub inside_at : (mail registered : Bool) (t : Text) (from i : ℕ) (p : Piece) → i ≤ length t → piece_at mail registered t from i ≡ Some p → i < length t
inside_at mail registered t from i p within h = let fits = piece_at-fits mail registered t from i p within h in omega (arith, fits.some, fits.within)

-- ---- each piece lies within the text

fits-within : (t : Text) (i : ℕ) (p : Piece) → Fits t i p → IsWithin t p
fits-within t i p fits =
    let begins = fits.begins in
    let some = fits.some in
    let above = fits.above in
    record { some = omega arith; begins = omega arith; ends = fits.order; limit = fits.limit; within = fits.within }

plain-within : (mail registered : Bool) (t : Text) (from : ℕ) (p : Piece) → IsPlain mail registered t from p → IsWithin t p
plain-within mail registered t from p a =
    let within = a.within in
    let some = a.some in
    subst (IsWithin t) (sym a.is_plain) (record { some = some; begins = omega arith; ends = omega arith; limit = omega arith; within = within })

pub IsPieces-within : (mail registered : Bool) (t : Text) (from : ℕ) (ps : List Piece) → from ≤ length t → IsPieces mail registered t from ps → All (IsWithin t) ps
IsPieces-within mail registered t from _ h (nothing e) = All-nil (IsWithin t)
IsPieces-within mail registered t from _ h (last p a e) = All-cons (IsWithin t) p [] (plain-within mail registered t from p a) (All-nil (IsWithin t))
IsPieces-within mail registered t from _ h (other p ps a rest) =
    let fits = piece_at-fits mail registered t from from p h a in All-cons (IsWithin t) p ps (fits-within t from p fits) (IsPieces-within mail registered t p.to ps fits.within rest)
IsPieces-within mail registered t from _ h (plain p q ps a s rest) =
    let fits = piece_at-fits mail registered t from p.to q a.within s in
    All-cons (IsWithin t) p (q ∷ ps) (plain-within mail registered t from p a) (All-cons (IsWithin t) q ps (fits-within t p.to q fits) (IsPieces-within mail registered t q.to ps fits.within rest))
