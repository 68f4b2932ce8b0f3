-- Inside words nothing begins.
use Rattle.std.proofs.Common.{◌≡◌, inl, inr, ⊎_elim, ℕ, ◌+◌, ◌-◌, ◌<◌, ◌≤◌, Bool, true, false, not, ◌&&◌, ◌||◌, ◌==◌, cond, List, [], ◌∷◌, Some, None, length, option_and_then, option_map, get_or, true≢false, refl, sym, ap, ◌∙◌, subst, arith}
use Rattle.std.specs.Prelude.{nat_lt, find}
use Rattle.std.specs.List.{list_all}
use Rattle.std.specs.Char.{is_ascii_alphanumeric, to_ascii_lowercase}
use Rattle.std.proofs.lemmas.Bool.{cond_both, ne_eqb, lt-ltb, eqb-true, eq-eqb, not-true, and_parts, and_left, or_parts, cases_lt}
use Rattle.std.proofs.lemmas.Bool.Decides.{nat_tests}
use Rattle.std.proofs.Math.Bool.{and-true, and-false}
use Rattle.rst_text.specs.Characters.{is_white, Text, has, is_alnum_at}
use Rattle.rst_text.specs.Places.{all_from}
use Rattle.rst_text.proofs.CharacterLemmas.{is_alphanumeric-ascii}
use Rattle.rst_text.proofs.PlacesLemmas.{cases_bool, lt_eq_gt, all_from-at, all_from-stop, last_from-is}
use Rattle.rst_inline_scan.specs.Characters.{may_precede_start, may_follow}
use Rattle.rst_text.specs.Escapes.{is_escaped, escapes}
use Rattle.rst_text.specs.SimpleNames.{is_name_at}
use Rattle.rst_inline_scan.specs.Names.{ends_name, is_reference, name_end, reference_to, reference}
use Rattle.rst_inline_scan.specs.Marked.{markup_of}
use Rattle.rst_inline_scan.specs.Footnotes.{label}
use Rattle.rst_inline_scan.specs.Uri.{has_letter, has_any_case, schemes, scheme_end, uri_piece, uri}
use Rattle.std.proofs.Math.Nat.{eq-or-lt_of_le}
use Rattle.rst_inline_scan.specs.Words.{IsWord, goes_on}
use Rattle.rst_inline_scan.specs.Calm.{IsScanned}
use Rattle.rst_inline_scan.specs.Pieces.{unlinked_at, markup_at, is_free, is_free_link, marked_or_registered, piece_at, HasNoStart}
use Rattle.rst_text.proofs.EscapeLemmas.{other-bare, is_escaped-bare, is_escaped-more, is_escaped-start}
use Rattle.rst_inline_scan.proofs.NameLemmas.{no-underscore, not_reference, is_reference-past}
use Rattle.rst_inline_scan.proofs.UriLemmas.{letter_at, uri_end-none}

-- ---- letters and digits

abbrev IsLetter : ℕ → Type 0
IsLetter c = is_ascii_alphanumeric c ≡ true

pub letter-low : (c : ℕ) → IsLetter c → c < 128
letter-low c h = grind (arith, nat_tests)

-- what holds of each character of ASCII
below : (p : ℕ → Bool) → all_from p 0 128 ≡ true → (c : ℕ) → c < 128 → p c ≡ true
below p all c low = all_from-at p 0 128 all c (omega arith) (omega arith)

abbrev unless : Bool → Bool → Bool
unless a b = not a || b

unless-so : (a b : Bool) → unless a b ≡ true → a ≡ true → b ≡ true
unless-so true b h k = h
unless-so false b h k = absurd (cc)

-- none comes before a start
pub letter-before : (c : ℕ) → IsLetter c → may_precede_start c ≡ false
unfolding may_precede_start is_white
letter-before c h = not-true _ (unless-so _ _ (below (λ c. unless (is_ascii_alphanumeric c) (not (may_precede_start c))) refl c (letter-low c h)) h)

-- nor after an end
pub letter-may_not_follow : (c : ℕ) → IsLetter c → may_follow c ≡ false
unfolding may_follow is_white
letter-may_not_follow c h = not-true _ (unless-so _ _ (below (λ c. unless (is_ascii_alphanumeric c) (not (may_follow c))) refl c (letter-low c h)) h)

-- a character that passes a test is none that fails it
pub differs : (p : ℕ → Bool) (c d : ℕ) → p c ≡ true → p d ≡ false → (c == d) ≡ false
differs p c d h k = ne_eqb c d (λ same. true≢false (sym h ∙ ap p same ∙ k))

-- ---- the run

other-at : (t : Text) (i to k c : ℕ) → IsWord t i to → i ≤ k → k < to → is_ascii_alphanumeric c ≡ false → has t k c ≡ false
other-at t i to k c word above less e =
    rw (differs is_ascii_alphanumeric (get_or t k 0) c (word.letters k above less) e) (grind (arith, nat_tests))

-- ---- references

-- what follows a word that nothing goes on with
record Ends (t : Text) (i : ℕ) : Type 0 where
  pub underscore : has t i 95 ≡ false
  pub colon : has t i 58 ≡ false
  pub name : i < length t → is_name_at t i ≡ false

within-false : (i n : ℕ) (b : Bool) → (nat_lt i n && b) ≡ false → i < n → b ≡ false
within-false i n b h less = sym (ap (λ a. a && b) (lt-ltb i n less)) ∙ h

ends-by : (t : Text) (i : ℕ) → goes_on t i ≡ false → Ends t i
unfolding goes_on
ends-by t i h =
    let first = or_parts (has t i 95) (has t i 58 || (nat_lt i (length t) && is_name_at t i)) h in
    let second = or_parts (has t i 58) (nat_lt i (length t) && is_name_at t i) first.1 in
    record { underscore = first.0; colon = second.0; name = within-false i (length t) (is_name_at t i) second.1 }

-- No name or scheme that begins at i goes past e: up to there none ends, and no place of a name is there.
pub record IsBarred (t : Text) (i e : ℕ) : Type 0 where
  pub above : i ≤ e
  pub unended : (k : ℕ) → i < k → k ≤ e → ends_name t k ≡ false
  pub colon : (k : ℕ) → i ≤ k → k ≤ e → has t k 58 ≡ false
  pub name : e < length t → is_name_at t e ≡ false
  pub letter : e < length t → is_ascii_alphanumeric (get_or t e 0) ≡ false

-- so where a word ends with which nothing goes on
word-bars : (t : Text) (i to : ℕ) → IsWord t i to → goes_on t to ≡ false → IsBarred t i to
word-bars t i to word stops =
    let ends = ends-by t to stops in
    let none : (k c : ℕ) → i ≤ k → k ≤ to → is_ascii_alphanumeric c ≡ false → has t to c ≡ false → has t k c ≡ false = λ k c above upto other last. ⊎_elim
    (λ inside. other-at t i to k c word above inside other)
    (λ past. let same : k ≡ to = omega arith in subst (λ n. has t n c ≡ false) (sym same) last)
    (cases_lt k to) in
    record {
      above = word.above;
      unended = λ k above upto. no-underscore t k (none k 95 (omega arith) upto refl ends.underscore);
      colon = λ k above upto. none k 58 above upto refl ends.colon;
      name = ends.name;
      letter = word.stops;
    }

no-reference : (t : Text) (i e : ℕ) → IsBarred t i e → reference t i ≡ None
unfolding reference name_end
no-reference t i e bar =
    ap (option_and_then (reference_to t i)) (sym (last_from-is (is_reference t i) (i + 1) (length t) None (λ k more less.
    ⊎_elim
    (λ low. not_reference t i k (bar.unended k (omega arith) (omega arith)))
    (λ high. is_reference-past t i k (all_from-stop (is_name_at t) i e k bar.above (omega arith) (bar.name (omega arith))))
    (cases_lt k (e + 1)))))

-- ---- URIs

-- letters and digits, and a colon after them
abbrev named : List ℕ → Bool
named [] = false
named (c ∷ cs) = c == 58 || (is_ascii_alphanumeric c && named cs)

pub lower-colon : (c : ℕ) → to_ascii_lowercase c ≡ 58 → c ≡ 58
lower-colon c h = grind (arith, nat_tests)

pub lower-letter : (c : ℕ) → IsLetter (to_ascii_lowercase c) → IsLetter c
lower-letter c h = grind (arith, nat_tests)

no-scheme : (t : Text) (i e : ℕ) (word : List ℕ) → IsBarred t i e → named word ≡ true → has_any_case t i word ≡ true → ⊥
no-scheme t i e [] bar n h = true≢false (sym n)
no-scheme t i e (c ∷ cs) bar n h =
    let here = and_parts (has_letter t i c) (has_any_case t (i + 1) cs) h in
    let letter = letter_at t i c here.0 in
    let within : i < length t = letter.0 in
    let same : to_ascii_lowercase (get_or t i 0) ≡ c = letter.1 in
    let order : i ≤ e = bar.above in
    ⊎_elim
    (λ is_colon.
    let stands : get_or t i 0 ≡ 58 = lower-colon (get_or t i 0) (same ∙ eqb-true c 58 is_colon) in
    let colon_here : has t i 58 ≡ true = rw (stands, lt-ltb i (length t) within) refl in
    true≢false (sym colon_here ∙ bar.colon i (omega arith) order))
    (λ other.
    let rest = and_parts (is_ascii_alphanumeric c) (named cs) (subst (λ b. (b || (is_ascii_alphanumeric c && named cs)) ≡ true) other n) in
    ⊎_elim
    (λ inside. no-scheme t (i + 1) e cs
    (record { above = omega arith; unended = λ k above upto. bar.unended k (omega arith) upto; colon = λ k above upto. bar.colon k (omega arith) upto; name = bar.name; letter = bar.letter })
    rest.1 here.1)
    (λ past.
    let last : i ≡ e = omega arith in
    let mine : IsLetter (get_or t i 0) = lower-letter (get_or t i 0) (ap is_ascii_alphanumeric same ∙ rest.0) in
    true≢false (sym mine ∙ ap (λ n. is_ascii_alphanumeric (get_or t n 0)) last ∙ bar.letter (omega arith)))
    (cases_lt i e))
    (cases_bool (c == 58))

no-first : (t : Text) (i e : ℕ) (words : List (List ℕ)) → IsBarred t i e → list_all named words ≡ true → find (has_any_case t i) words ≡ None
no-first t i e [] bar all = refl
no-first t i e (word ∷ words) bar all =
    let parts = and_parts (named word) (list_all named words) all in
    ⊎_elim
    (λ yes. absurd (no-scheme t i e word bar parts.0 yes))
    (λ no. ap (λ b. cond b (Some word) (find (has_any_case t i) words)) no ∙ no-first t i e words bar parts.1)
    (cases_bool (has_any_case t i word))

no-uri : (t : Text) (i e : ℕ) → IsBarred t i e → uri t i ≡ None
unfolding uri scheme_end
no-uri t i e bar = ap (option_map (uri_piece i)) (uri_end-none t i (ap (option_map (λ scheme. i + length scheme)) (no-first t i e schemes bar refl)))

-- ---- other markup

pub absent : (p : ℕ → Bool) (t : Text) (i c : ℕ) → p (get_or t i 0) ≡ true → p c ≡ false → has t i c ≡ false
absent p t i c h k = rw (differs p (get_or t i 0) c h k) (grind (arith, nat_tests))

pub unmarked : (t : Text) (i : ℕ) → has t i 42 ≡ false → has t i 96 ≡ false → (has t i 95 && has t (i + 1) 96) ≡ false → has t i 124 ≡ false → has t i 58 ≡ false → markup_of t i ≡ None
unfolding markup_of
unmarked t i star grave target bar colon = rw (star, grave, target, bar, colon) refl

pub no-label : (t : Text) (i : ℕ) → has t i 91 ≡ false → label t i ≡ None
unfolding label
no-label t i h = rw h refl

no-unlinked : (t : Text) (i e : ℕ) → IsBarred t i e → markup_of t i ≡ None → label t i ≡ None → unlinked_at t i ≡ None
unfolding unlinked_at
no-unlinked t i e bar none no_label = rw (none, no_label, no-reference t i e bar) refl

no-markup : (t : Text) (i e : ℕ) → IsBarred t i e → markup_of t i ≡ None → label t i ≡ None → markup_at t i ≡ None
unfolding markup_at
no-markup t i e bar none no_label = rw (no-unlinked t i e bar none no_label) (no-uri t i e bar)

-- nothing begins at a place where none of these does
pub no-piece-barred : (t : Text) (from i e : ℕ) → IsBarred t i e → markup_of t i ≡ None → label t i ≡ None → piece_at false false t from i ≡ None
unfolding piece_at
no-piece-barred t from i e bar none no_label = cond_both (is_free t from i) (markup_at t i) None (λ r. r ≡ None) (λ free. no-markup t i e bar none no_label) (λ stuck. refl)

-- nothing begins where a word does, if nothing goes on with it,
pub no-piece : (t : Text) (from i to : ℕ) → IsWord t i to → i < to → goes_on t to ≡ false → piece_at false false t from i ≡ None
no-piece t from i to run some h =
    let letter = run.letters i (omega arith) some in
    let none : (c : ℕ) → is_ascii_alphanumeric c ≡ false → has t i c ≡ false = λ c other. absent is_ascii_alphanumeric t i c letter other in
    no-piece-barred t from i to (word-bars t i to run h) (unmarked t i (none 42 refl) (none 96 refl) (and_left _ _ (none 95 refl)) (none 124 refl) (none 58 refl)) (no-label t i (none 91 refl))

-- and further on in it nothing does.
inside-word : (mail registered : Bool) (t : Text) (from i to k : ℕ) → IsWord t i to → from ≤ i → i < k → k ≤ to → piece_at mail registered t from k ≡ None
unfolding piece_at marked_or_registered is_free is_free_link
inside-word mail registered t from i to k run order above upto =
    let before : may_precede_start (get_or t (k - 1) 0) ≡ false = letter-before _ (run.letters (k - 1) (omega arith) (omega arith)) in
    let past : (k == 0) ≡ false = ne_eqb k 0 (λ same. omega arith) in
    let later : (k == from) ≡ false = ne_eqb k from (λ same. omega arith) in
    by mail registered before past later
  where
    by : (mail registered : Bool) → may_precede_start (get_or t (k - 1) 0) ≡ false → (k == 0) ≡ false → (k == from) ≡ false → piece_at mail registered t from k ≡ None
    by false false before past later = rw (before, past, and-false (not (is_escaped t from k))) refl
    by true false before past later = rw (before, past, later, and-false (not (is_escaped t from k))) refl
    by false true before past later = rw (before, past, later, and-false (not (is_escaped t from k))) refl
    by true true before past later = rw (before, past, later, and-false (not (is_escaped t from k))) refl

none-word : (mail registered : Bool) (t : Text) (from i to : ℕ) → IsWord t i to → from ≤ i → HasNoStart mail registered t from from i → piece_at mail registered t from i ≡ None → HasNoStart mail registered t from from (to + 1)
none-word mail registered t from i to run order none here k low high =
    ⊎_elim
    (λ before. none k low before)
    (λ rest. ⊎_elim
    (λ same. subst (λ n. piece_at mail registered t from n ≡ None) (sym same) here)
    (λ past. inside-word mail registered t from i to k run order past (omega arith))
    rest)
    (lt_eq_gt k i)

-- whether what follows a run is escaped, which doesn't end with a backslash
pub escaped-after : (t : Text) (from i to : ℕ) (escaped : Bool) → from ≤ i → i ≤ to → escaped ≡ is_escaped t from i → (i < to → (get_or t (to - 1) 0 == 92) ≡ false) → (escaped && i == to) ≡ is_escaped t from to
escaped-after t from i to escaped order above known other = elim (eq-or-lt_of_le above) [
  | inl same ↦ rw (eq-eqb i to same) (and-true escaped ∙ known ∙ ap (is_escaped t from) same)
  | inr less ↦
      let back : to - 1 + 1 ≡ to = omega arith in
      rw (ne_eqb i to (λ same. omega arith)) (and-false escaped ∙ sym (ap (is_escaped t from) (sym back) ∙ is_escaped-bare t from (to - 1) (omega arith) (other-bare t (to - 1) (other less))))
]

-- no plain text yet
pub scanned-none : (mail registered : Bool) (t : Text) (from : ℕ) → from ≤ length t → IsScanned mail registered t from from false
scanned-none mail registered t from within = record { above = omega arith; within = within; none = λ i low high. absurd (omega arith); escaped = sym (is_escaped-start t from) }

-- so a word is passed
word-over : (mail registered : Bool) (t : Text) (from i to : ℕ) (escaped : Bool) → IsWord t i to → piece_at mail registered t from i ≡ None → IsScanned mail registered t from i escaped → IsScanned mail registered t from to (escaped && i == to)
word-over mail registered t from i to escaped run here known = record {
  above = omega (arith, known.above, run.above);
  within = run.within;
  none = λ k low high. none-word mail registered t from i to run known.above known.none here k low (omega arith);
  escaped = escaped-after t from i to escaped known.above run.above known.escaped
      (λ some. differs is_ascii_alphanumeric (get_or t (to - 1) 0) 92 (run.letters (to - 1) (omega arith) (omega arith)) refl);
}

pub word-scanned : (mail registered : Bool) (t : Text) (from i to : ℕ) (escaped : Bool) → IsWord t i to → piece_at mail registered t from i ≡ None → IsScanned mail registered t from i escaped → i < to → IsScanned mail registered t from to false
word-scanned mail registered t from i to escaped run here known some = subst (IsScanned mail registered t from to) (ap (λ b. escaped && b) (ne_eqb i to (λ same. omega arith)) ∙ and-false escaped) (word-over mail registered t from i to escaped run here known)

-- and the character after it, where nothing begins either
pub word-passed : (mail registered : Bool) (t : Text) (from i to : ℕ) (escaped : Bool) → IsWord t i to → piece_at mail registered t from i ≡ None → IsScanned mail registered t from i escaped → to < length t
    → IsScanned mail registered t from (to + 1) (escapes (get_or t to 0) (escaped && i == to))
word-passed mail registered t from i to escaped run here known inside =
    let word = word-over mail registered t from i to escaped run here known in
    let above = word.above in
    record {
      above = omega arith;
      within = omega arith;
      none = none-word mail registered t from i to run known.above known.none here;
      escaped = ap (escapes (get_or t to 0)) word.escaped ∙ sym (is_escaped-more t from to above);
    }

-- ---- what goes on with no word

pub no-letter-at : (t : Text) (i c : ℕ) → get_or t i 0 ≡ c → c < 128 → is_ascii_alphanumeric c ≡ false → is_alnum_at t i ≡ false
no-letter-at t i c h low e = rw (h, sym (is_alphanumeric-ascii c low) ∙ e) (grind (arith, nat_tests))
