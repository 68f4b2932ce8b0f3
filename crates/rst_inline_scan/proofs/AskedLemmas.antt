-- Where no hyperlink of the wider profile can be, the pieces are those of the base.
use Rattle.std.proofs.Common.{◌≡◌, ⊎_elim, ℕ, Bool, true, false, ◌&&◌, cond, List, Option, Some, None, true≢false, refl, sym, ap, ◌∙◌}
use Rattle.std.specs.Option.{option_or}
use Rattle.std.proofs.lemmas.Bool.{or_parts}
use Rattle.rst_text.specs.Characters.{Text}
use Rattle.rst_inline_scan.specs.Mail.{holds_at_sign, address}
use Rattle.rst_inline_scan.specs.Registered.{holds_colon, registered_uri}
use Rattle.rst_inline_scan.specs.Quiet.{may_hold_links}
use Rattle.rst_inline_scan.specs.Uri.{uri}
use Rattle.rst_inline_scan.specs.Pieces.{unlinked_at, markup_at, is_free, markup_from, is_free_link, marked_or_registered, address_from, unaddressed, piece_at, IsPlain, IsPieces, nothing, last, other, plain}
use Rattle.rst_inline_scan.specs.declared.piece.Piece.{Piece}
use Rattle.rst_inline_scan.proofs.MailLemmas.{no-address}
use Rattle.rst_inline_scan.proofs.RegisteredLemmas.{colonless-registered, colonless-uri}

no-other : (r s : Option Piece) → s ≡ None → option_or r s ≡ r
no-other (Some p) s h = refl
no-other None s h = h

none-by : (b : Bool) (r : Option Piece) → r ≡ None → cond b r None ≡ None
none-by true r h = h
none-by false r h = refl

-- ---- addresses

same-address : (registered : Bool) (t : Text) → holds_at_sign t ≡ false → (from i : ℕ) → piece_at true registered t from i ≡ piece_at false registered t from i
unfolding piece_at
same-address registered t h from i = no-other (unaddressed registered t from i) (address_from t from i) (none-by (is_free_link t from i) (address t i) (no-address t i h))

-- ---- URIs

same-registered : (t : Text) → holds_colon t ≡ false → (from i : ℕ) → marked_or_registered t from i ≡ markup_from t from i
unfolding marked_or_registered markup_at
same-registered t h from i =
    no-other (cond (is_free t from i) (unlinked_at t i) None) _ (none-by (is_free_link t from i) (registered_uri t i) (colonless-registered t i h))
    ∙ ap (λ r. cond (is_free t from i) r None) (sym (no-other (unlinked_at t i) (uri t i) (colonless-uri t i h)))

same-uri : (mail : Bool) (t : Text) → holds_colon t ≡ false → (from i : ℕ) → piece_at mail true t from i ≡ piece_at mail false t from i
unfolding piece_at
same-uri false t h from i = same-registered t h from i
same-uri true t h from i = ap (λ r. option_or r (address_from t from i)) (same-registered t h from i)

-- ---- all pieces

module _ (mail registered addressed named : Bool) (t : Text) (same : (from i : ℕ) → piece_at mail registered t from i ≡ piece_at addressed named t from i) where
  same-plain : (from : ℕ) (p : Piece) → IsPlain addressed named t from p → IsPlain mail registered t from p
  same-plain from p a = record { is_plain = a.is_plain; some = a.some; within = a.within; none = λ i low high. same from i ∙ a.none i low high }

  pub same-pieces : (from : ℕ) (ps : List Piece) → IsPieces addressed named t from ps → IsPieces mail registered t from ps
  same-pieces from _ (nothing end) = nothing end
  same-pieces from _ (last p a end) = last p (same-plain from p a) end
  same-pieces from _ (other p ps begins rest) = other p ps (same from from ∙ begins) (same-pieces p.to ps rest)
  same-pieces from _ (plain p q ps a begins rest) = plain p q ps (same-plain from p a) (same from p.to ∙ begins) (same-pieces q.to ps rest)

-- the pieces are the same where addresses are asked for, and no @ is in the text,
pub unaddressed-pieces : (registered : Bool) (t : Text) (ps : List Piece) → holds_at_sign t ≡ false → IsPieces false registered t 0 ps → IsPieces true registered t 0 ps
unaddressed-pieces registered t ps none h = same-pieces true registered false registered t (same-address registered t none) 0 ps h

-- and where URIs of registered schemes are, and no colon is
pub colonless-pieces : (mail : Bool) (t : Text) (ps : List Piece) → holds_colon t ≡ false → IsPieces mail false t 0 ps → IsPieces mail true t 0 ps
colonless-pieces mail t ps none h = same-pieces mail true mail false t (same-uri mail t none) 0 ps h

with_addresses : (mail registered : Bool) (t : Text) (ps : List Piece) → (mail ≡ true → holds_at_sign t ≡ false) → IsPieces false registered t 0 ps → IsPieces mail registered t 0 ps
with_addresses true registered t ps none h = unaddressed-pieces registered t ps (none refl) h
with_addresses false registered t ps none h = h

with_registered : (registered : Bool) (t : Text) (ps : List Piece) → (registered ≡ true → holds_colon t ≡ false) → IsPieces false false t 0 ps → IsPieces false registered t 0 ps
with_registered true t ps none h = colonless-pieces false t ps (none refl) h
with_registered false t ps none h = h

-- the pieces of the base are those that are asked for, where neither can be
pub asked-pieces : (mail registered : Bool) (t : Text) (ps : List Piece) → may_hold_links mail registered t ≡ false → IsPieces false false t 0 ps → IsPieces mail registered t 0 ps
asked-pieces mail registered t ps none h =
    let parts = or_parts (mail && holds_at_sign t) (registered && holds_colon t) none in
    with_addresses mail registered t ps (absent mail (holds_at_sign t) parts.0) (with_registered registered t ps (absent registered (holds_colon t) parts.1) h)
  where
    absent : (asked held : Bool) → (asked && held) ≡ false → asked ≡ true → held ≡ false
    absent true held h asked = h
    absent false held h asked = absurd (true≢false (sym asked))
