-- Markup between a start-string and an end-string.
use Rattle.std.proofs.Common.{◌≡◌, ◌≢◌, ℕ, ◌+◌, ◌-◌, ◌<◌, ◌≤◌, [], ◌∷◌, true, false, not, ◌&&◌, ◌==◌, get_or, Option, Some, None, length, unwrap_or, option_map, refl, sym, ap, ◌∙◌, subst, arith}
use Rattle.std.proofs.lemmas.Bool.{and_parts}
use Rattle.std.proofs.lemmas.Bool.Decides.{nat_tests}
use Rattle.rst_text.specs.Places.{IsFirst}
use Rattle.rst_text.proofs.PlacesLemmas.{first_from-is, first_from-IsFirst}
use Rattle.std.specs.Option.{is_some, option_or}
use Rattle.rst_text.specs.Characters.{Text, has, is_dark}
use Rattle.rst_inline_scan.specs.Characters.{has_string}
use Rattle.rst_inline_scan.specs.Tails.{name_tail, role_tail, bare_tail}
use Rattle.rst_inline_scan.specs.Names.{role_end}
use Rattle.rst_inline_scan.specs.Marked.{start_string, end_string, mark, start_len, end_len, has_start, has_end, has_escapes, start_of, starts, tail_of, ends, markup_end, unended_piece, ended_piece, marked_piece, marked_from, marked}
use Rattle.rst_inline_scan.specs.Missing.{IsUnended}
use Rattle.rst_inline_scan.specs.declared.piece.Markup.{Markup}
use Rattle.rst_inline_scan.specs.declared.piece.Markup.TheVariants.{Strong, Emphasis, Literal, Target, Substitution, Interpreted}
use Rattle.rst_inline_scan.specs.declared.piece.Tail.{Tail}
use Rattle.rst_text.proofs.EscapeLemmas.{IsBare, has-bare, is_escaped-agree}
use Rattle.rst_inline_scan.proofs.FitLemmas.{Fits, Fit, Fit-none, Fit-some, has-lt, TailFits, TailFits-or, bare_tail-fits, name_tail-fits, role_tail-fits}
use Rattle.rst_text.proofs.Choices.{either}
use Rattle.rst_inline_scan.proofs.NameLemmas.{role_end-fits}

-- ---- marks lie within the text, and begin with no backslash

string-fits : (t s : Text) (i : ℕ) → 0 < length s → has_string t i s ≡ true → i + length s ≤ length t
string-fits t [] i some h = absurd (omega arith)
string-fits t (c ∷ []) i some h = let l : i < length t = has-lt t i c (and_parts (has t i c) true h).0 in omega arith
string-fits t (c ∷ d ∷ cs) i some h = let rest = string-fits t (d ∷ cs) (i + 1) (omega arith) (and_parts (has t i c) (has_string t (i + 1) (d ∷ cs)) h).1 in omega arith

-- start-strings and end-strings are not empty, and no start-string begins with a backslash
strings : (markup : Markup) → (0 < start_len markup) × (0 < end_len markup) × ((get_or (start_string markup) 0 0 == 92) ≡ false)
strings Strong = (omega arith, omega arith, refl)
strings _ = (omega arith, omega arith, refl)

pub start-some : (markup : Markup) → 0 < start_len markup
start-some markup = (strings markup).0

start-stands : (markup : Markup) (t : Text) (q : ℕ) → has_start markup t q ≡ true → has_string t q (start_string markup) ≡ true
start-stands markup t q h = (and_parts (has_string t q (start_string markup)) _ h).0

pub start-fits : (markup : Markup) (t : Text) (q : ℕ) → has_start markup t q ≡ true → q + start_len markup ≤ length t
start-fits markup t q h = string-fits t (start_string markup) q (start-some markup) (start-stands markup t q h)

end-fits : (markup : Markup) (t : Text) (k : ℕ) → has_end markup t k ≡ true → k + end_len markup ≤ length t
end-fits markup t k h = string-fits t (end_string markup) k (strings markup).1 h

bare-string : (t s : Text) (q : ℕ) → 0 < length s → (get_or s 0 0 == 92) ≡ false → has_string t q s ≡ true → IsBare t q
bare-string t [] q some other h = absurd (omega arith)
bare-string t (c ∷ cs) q some other h = has-bare t q c other (and_parts (has t q c) (has_string t (q + 1) cs) h).0

pub start-bare : (markup : Markup) (t : Text) (q : ℕ) → has_start markup t q ≡ true → IsBare t q
start-bare markup t q h = bare-string t (start_string markup) q (start-some markup) (strings markup).2 (start-stands markup t q h)

-- it ends only at the character of which its end-string consists
no-string : (t s : Text) (i : ℕ) → 0 < length s → get_or t i 0 ≢ get_or s 0 0 → has_string t i s ≡ false
no-string t [] i some h = absurd (omega arith)
no-string t (c ∷ cs) i some h = grind (arith, nat_tests)

pub no-end : (markup : Markup) (t : Text) (i k : ℕ) → get_or t k 0 ≢ mark markup → ends markup t i k ≡ false
unfolding ends
no-end markup t i k h = rw (no-string t (end_string markup) k (strings markup).1 h) refl

ends-end : (markup : Markup) (t : Text) (i k : ℕ) → ends markup t i k ≡ true → has_end markup t k ≡ true
unfolding ends
ends-end markup t i k h = (and_parts (has_end markup t k) _ h).0

at_or_after : (r : Option ℕ) (i : ℕ) → ((e : ℕ) → r ≡ Some e → i < e) → i ≤ unwrap_or r i
at_or_after (Some e) i h = let less : i < e = h e refl in omega arith
at_or_after None i h = omega arith

start_of-above : (markup : Markup) (t : Text) (i : ℕ) → i ≤ start_of markup t i
unfolding start_of
start_of-above Interpreted t i = at_or_after (role_end t i) i (λ e h. (role_end-fits t i e h).0)
start_of-above _ t i = omega arith

-- ---- the piece

further : (t : Text) (k e : ℕ) → k ≤ e → (r : Option Tail) → TailFits t e r → TailFits t k r
further t k e h r fits tail made = let found = fits tail made in (let above : e ≤ tail.to = found.0 in omega arith, found.1)

tail-fits : (markup : Markup) (t : Text) (k : ℕ) → has_end markup t k ≡ true → TailFits t k (tail_of markup t k)
unfolding tail_of
tail-fits Strong t k h = further t k (k + 2) (omega arith) (bare_tail t (k + 2)) (bare_tail-fits t (k + 2) (end-fits Strong t k h))
tail-fits Emphasis t k h = further t k (k + 1) (omega arith) (bare_tail t (k + 1)) (bare_tail-fits t (k + 1) (end-fits Emphasis t k h))
tail-fits Literal t k h = further t k (k + 2) (omega arith) (bare_tail t (k + 2)) (bare_tail-fits t (k + 2) (end-fits Literal t k h))
tail-fits Target t k h = further t k (k + 1) (omega arith) (bare_tail t (k + 1)) (bare_tail-fits t (k + 1) (end-fits Target t k h))
tail-fits Substitution t k h =
    further t k (k + 1) (omega arith) (option_or (name_tail t (k + 1)) (bare_tail t (k + 1)))
    (TailFits-or t (k + 1) (name_tail t (k + 1)) (bare_tail t (k + 1)) (name_tail-fits t (k + 1)) (bare_tail-fits t (k + 1) (end-fits Substitution t k h)))
tail-fits Interpreted t k h =
    further t k (k + 1) (omega arith) (option_or (name_tail t (k + 1)) (option_or (role_tail t (role_end t (k + 1))) (bare_tail t (k + 1))))
    (TailFits-or t (k + 1) (name_tail t (k + 1)) (option_or (role_tail t (role_end t (k + 1))) (bare_tail t (k + 1))) (name_tail-fits t (k + 1))
    (TailFits-or t (k + 1) (role_tail t (role_end t (k + 1))) (bare_tail t (k + 1)) (role_tail-fits t (k + 1) (role_end t (k + 1)) (role_end-fits t (k + 1)))
    (bare_tail-fits t (k + 1) (end-fits Interpreted t k h))))

unended-fits : (markup : Markup) (t : Text) (i q : ℕ) → i ≤ q → q + start_len markup ≤ length t → Fits t i (unended_piece markup i q)
unended-fits markup t i q order within = let some : 0 < start_len markup = start-some markup in record { begins = refl; some = omega arith; within = within; above = omega arith; order = omega arith; limit = omega arith }

ended-fits : (markup : Markup) (t : Text) (i q k : ℕ) (r : Option Tail) → i ≤ q → q + start_len markup ≤ length t → q + start_len markup < k → TailFits t k r → Fits t i (unwrap_or (option_map (ended_piece markup i q k) r) (unended_piece markup i q))
ended-fits markup t i q k (Some tail) order within above fits =
    let found = fits tail refl in
    let past : k ≤ tail.to = found.0 in
    record { begins = refl; some = omega arith; within = found.1; above = omega arith; order = omega arith; limit = past }
ended-fits markup t i q k None order within above fits = unended-fits markup t i q order within

piece-fits : (markup : Markup) (t : Text) (i q high : ℕ) (r : Option ℕ) → i ≤ q → q + start_len markup ≤ length t → IsFirst (ends markup t i) (q + start_len markup + 1) high r → Fits t i (marked_piece markup t i q r)
piece-fits markup t i q high (Some k) order within h =
    let above : q + start_len markup + 1 ≤ k = h.0 in
    ended-fits markup t i q k (tail_of markup t k) order within (omega arith) (tail-fits markup t k (ends-end markup t i k h.2))
piece-fits markup t i q high None order within h = unended-fits markup t i q order within

pub starts-mark : (markup : Markup) (t : Text) (i q : ℕ) → starts markup t i q ≡ true → has_start markup t q ≡ true
unfolding starts
starts-mark markup t i q h = (and_parts (has_start markup t q) _ h).0

marked_from-fits : (markup : Markup) (t : Text) (i q : ℕ) → i ≤ q → Fit t i (marked_from markup t i q)
unfolding markup_end
marked_from-fits markup t i q order = either (starts markup t i q) (Some (marked_piece markup t i q (markup_end markup t i q))) None (Fit t i)
    (λ begins. let low : ℕ = q + start_len markup + 1 in Fit-some t i _ (piece-fits markup t i q (low + (length t - low)) (markup_end markup t i q) order
    (start-fits markup t q (starts-mark markup t i q begins)) (first_from-IsFirst (ends markup t i) low (length t - low))))
    (Fit-none t i)

pub marked-fits : (markup : Markup) (t : Text) (i : ℕ) → Fit t i (marked markup t i)
unfolding marked
marked-fits markup t i = marked_from-fits markup t i (start_of markup t i) (start_of-above markup t i)

-- ---- no end

ends-agree : (markup : Markup) (t : Text) (i q k : ℕ) → i ≤ q → q < k → has_start markup t q ≡ true → ends markup t i k ≡ ends markup t q k
unfolding ends
ends-agree markup t i q k order less mark = ap (λ escaped. has_end markup t k && (is_dark t (k - 1) && (not (has_escapes markup && escaped) && is_some (tail_of markup t k)))) (is_escaped-agree t i q k order less (start-bare markup t q mark))

-- where a start-string has no end, no later one has
pub unended : (markup : Markup) (t : Text) (i q : ℕ) → i ≤ q → has_start markup t q ≡ true → markup_end markup t i q ≡ None → IsUnended markup t q
unfolding markup_end
unended markup t i q order mark none j r after later mark′ =
    let low : ℕ = q + start_len markup + 1 in
    let past : IsFirst (ends markup t i) low (low + (length t - low)) None = subst (IsFirst (ends markup t i) low (low + (length t - low))) none (first_from-IsFirst (ends markup t i) low (length t - low)) in
    sym (first_from-is (ends markup t j) (r + start_len markup + 1) (length t) None (λ k above below.
    ends-agree markup t j r k after (omega arith) mark′ ∙ sym (ends-agree markup t q r k later (omega arith) mark′) ∙ sym (ends-agree markup t i q k order (omega arith) mark) ∙ past k (omega arith) (omega arith)))
