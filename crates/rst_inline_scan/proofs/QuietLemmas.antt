-- In a quiet text nothing begins.
use Rattle.std.proofs.Common.{◌≡◌, ⊎_elim, ℕ, ◌+◌, ◌<◌, ◌≤◌, Bool, true, false, not, ◌&&◌, ◌||◌, ◌==◌, List, [], ◌∷◌, Option, Some, None, length, option_and_then, get_or, true≢false, refl, sym, ap, ap₂, ◌∙◌, subst, arith}
use Rattle.std.specs.Prelude.{nat_lt}
use Rattle.std.specs.Str.{chars, IsUtf8}
use Rattle.std.proofs.Math.Utf8.{encode, encodes}
use Rattle.std.proofs.lemmas.Str.{encode_ascii, encodes-chars}
use Rattle.std.proofs.lemmas.Bool.{ltb-true, eqb-true, eq-eqb, ne_eqb, and_parts, and_left, and_right, cases_lt, cond_both, false_from_ne_true, not-true}
use Rattle.rst_inline_scan.specs.Marked.{markup_of}
use Rattle.std.proofs.lemmas.Bool.Decides.{nat_tests}
use Rattle.std.proofs.lemmas.List.Elements.{All-from_get_or}
use Rattle.std.proofs.lemmas.List.Folds.{list_all_at, list_all-append}
use Rattle.std.proofs.lemmas.List.Sums.{AllPass-from_list_all, list_all-from_AllPass}
use Rattle.rst_text.specs.Characters.{Text, has}
use Rattle.rst_text.specs.Escapes.{has_backslash}
use Rattle.rst_inline_scan.specs.Footnotes.{label_stop, closes_label, label_piece, label}
use Rattle.rst_inline_scan.specs.Pieces.{piece_at, plain_from, IsPieces, nothing, last}
use Rattle.rst_text.specs.Runs.{IsRun}
use Rattle.rst_inline_scan.specs.Mail.{holds_at_sign}
use Rattle.rst_inline_scan.specs.Registered.{holds_colon}
use Rattle.rst_inline_scan.proofs.MailLemmas.{absent-chars}
use Rattle.rst_inline_scan.proofs.AskedLemmas.{asked-pieces}
use Rattle.rst_inline_scan.specs.Quiet.{is_quiet, quiet, may_hold_links}
use Rattle.rst_inline_scan.specs.declared.piece.Piece.{Piece}
use Rattle.rst_inline_scan.proofs.WordLemmas.{IsBarred, unmarked, differs, no-piece-barred}
use Rattle.rst_inline_scan.proofs.NameLemmas.{no-underscore}

abbrev IsQuiet : Text → Type 0
IsQuiet t = quiet false t ≡ true

-- a character that isn't quiet occurs nowhere
absent : (t : Text) (c : ℕ) → IsQuiet t → is_quiet c ≡ false → (i : ℕ) → has t i c ≡ false
absent t c h loud i = false_from_ne_true (has t i c) (λ here.
    let parts = and_parts (nat_lt i (length t)) (get_or t i 0 == c) here in
    true≢false (sym (AllPass-from_list_all is_quiet t h i 0 (ltb-true i (length t) parts.0)) ∙ ap is_quiet (eqb-true (get_or t i 0) c parts.1) ∙ loud))

none-marked : (t : Text) (i : ℕ) → IsQuiet t → markup_of t i ≡ None
none-marked t i h = unmarked t i (absent t 42 h refl i) (absent t 96 h refl i) (and_left _ _ (absent t 95 h refl i)) (absent t 124 h refl i) (absent t 58 h refl i)

-- ---- references need an underscore, and URIs a colon

bars : (t : Text) (i : ℕ) → IsQuiet t → i < length t → IsBarred t i (length t)
bars t i h less = record {
  above = omega arith;
  unended = λ k more upto. no-underscore t k (absent t 95 h refl k);
  colon = λ k more upto. absent t 58 h refl k;
  name = λ inside. absurd (omega arith);
  letter = λ inside. absurd (omega arith);
}

open-label : (t : Text) (e : ℕ) → has t (e + 1) 95 ≡ false → closes_label t e ≡ false
open-label t e h = rw h (grind (arith, nat_tests))

no-label_piece : (t : Text) (i : ℕ) (r : Option ℕ) → IsQuiet t → option_and_then (label_piece t i) r ≡ None
no-label_piece t i (Some e) h = rw (open-label t e (absent t 95 h refl (e + 1))) refl
no-label_piece t i None h = refl

no-label : (t : Text) (i : ℕ) → IsQuiet t → label t i ≡ None
unfolding label
no-label t i h =
    cond_both (has t i 91) (option_and_then (label_piece t i) (label_stop t (i + 1))) None (λ r. r ≡ None) (λ e. no-label_piece t i (label_stop t (i + 1)) h) (λ e. refl)

-- ---- one plain piece

no-piece : (t : Text) (from i : ℕ) → IsQuiet t → i < length t → piece_at false false t from i ≡ None
no-piece t from i h less = no-piece-barred t from i (length t) (bars t i h less) (none-marked t i h) (no-label t i h)

-- the whole text as one plain piece, or none where it is empty
abbrev pub whole : Text → List Piece
whole [] = []
whole (c ∷ cs) = plain_from 0 (length (c ∷ cs)) ∷ []

marked-pieces : (t : Text) → IsQuiet t → IsPieces false false t 0 (whole t)
marked-pieces [] h = nothing refl
marked-pieces (c ∷ cs) h =
    last (plain_from 0 (length (c ∷ cs))) (record { is_plain = refl; some = omega arith; within = omega arith; none = λ i low less. no-piece (c ∷ cs) 0 i h less }) refl

-- no @ is in it, either, where addresses are asked for
quiet-parts : (t : Text) → quiet true t ≡ true → (quiet false t ≡ true) × (holds_at_sign t ≡ false)
quiet-parts t h = let parts = and_parts (quiet false t) (not (holds_at_sign t)) h in (parts.0, not-true (holds_at_sign t) parts.1)

quiet-base : (mail : Bool) (t : Text) → quiet mail t ≡ true → IsQuiet t
quiet-base false t h = h
quiet-base true t h = (quiet-parts t h).0

unmailed : (mail : Bool) (t : Text) → quiet mail t ≡ true → (mail && holds_at_sign t) ≡ false
unmailed false t h = refl
unmailed true t h = (quiet-parts t h).1

colonless : (t : Text) → IsQuiet t → holds_colon t ≡ false
colonless [] h = refl
colonless (c ∷ cs) h =
    let parts = and_parts (is_quiet c) (quiet false cs) h in
    ap (λ b. b || holds_colon cs) (differs is_quiet c 58 parts.0 refl) ∙ colonless cs parts.1

no-links : (mail registered : Bool) (t : Text) → quiet mail t ≡ true → may_hold_links mail registered t ≡ false
no-links mail registered t h = ap₂ (λ a b. a || b) (unmailed mail t h) (and_right registered (holds_colon t) (colonless t (quiet-base mail t h)))

pub quiet-pieces : (mail registered : Bool) (t : Text) → quiet mail t ≡ true → IsPieces mail registered t 0 (whole t)
quiet-pieces mail registered t h = asked-pieces mail registered t (whole t) (no-links mail registered t h) (marked-pieces t (quiet-base mail t h))

pub quiet-one : (mail registered : Bool) (t : Text) → quiet mail t ≡ true → 0 < length t → IsPieces mail registered t 0 (plain_from 0 (length t) ∷ [])
quiet-one mail registered [] h some = absurd (omega arith)
quiet-one mail registered (c ∷ cs) h some = quiet-pieces mail registered (c ∷ cs) h

-- ---- its characters

past-ascii : (c : ℕ) → 128 ≤ c → is_quiet c ≡ true
past-ascii c high = grind (arith, nat_tests)

spelled : (cs : List ℕ) → IsQuiet (encodes cs) → IsQuiet cs
spelled [] h = refl
spelled (c ∷ cs) h =
    let parts = and_parts (quiet false (encode c)) (quiet false (encodes cs)) (sym (list_all-append is_quiet (encode c) (encodes cs)) ∙ h) in
    let first : is_quiet c ≡ true = ⊎_elim
    (λ low. (and_parts (is_quiet c) true (subst IsQuiet (encode_ascii c low) parts.0)).0)
    (λ high. past-ascii c high)
    (cases_lt c 128) in
    rw first (spelled cs parts.1)

-- a text is quiet whose bytes are
chars-quiet : (bs : List ℕ) → IsUtf8 bs → quiet false bs ≡ true → quiet false (chars bs) ≡ true
chars-quiet bs utf8 h = spelled (chars bs) (subst IsQuiet (sym (encodes-chars bs utf8)) h)

pub quiet-chars : (mail : Bool) (bs : List ℕ) → IsUtf8 bs → quiet mail bs ≡ true → quiet mail (chars bs) ≡ true
quiet-chars false bs utf8 h = chars-quiet bs utf8 h
quiet-chars true bs utf8 h =
    let parts = quiet-parts bs h in
    ap₂ (λ a b. a && not b) (chars-quiet bs utf8 parts.0) (absent-chars bs utf8 parts.1)

bare : (t : Text) → IsQuiet t → has_backslash t ≡ false
bare [] h = refl
bare (c ∷ cs) h =
    let parts = and_parts (is_quiet c) (quiet false cs) h in
    ap (λ b. b || has_backslash cs) (differs is_quiet c 92 parts.0 refl) ∙ bare cs parts.1

pub quiet-plain : (mail : Bool) (t : Text) → quiet mail t ≡ true → has_backslash t ≡ false
quiet-plain false t h = bare t h
quiet-plain true t h = bare t (quiet-parts t h).0

-- a text is quiet where its run of quiet characters is all of it
pub quiet-run : (t : Text) (to : ℕ) → IsRun is_quiet t 0 to → (to == length t) ≡ quiet false t
quiet-run t to run = ⊎_elim
    (λ less. ne_eqb to (length t) (λ e. omega arith) ∙ sym (list_all_at is_quiet t to 0 less (run.stops less)))
    (λ end. let within = run.within in eq-eqb to (length t) (omega arith) ∙ sym (list_all-from_AllPass is_quiet t (All-from_get_or (λ c. is_quiet c ≡ true) t 0 (λ i less. run.pass i (omega arith) (omega arith)))))
    (cases_lt to (length t))
