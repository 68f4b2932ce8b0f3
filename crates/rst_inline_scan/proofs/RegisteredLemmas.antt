-- URIs of registered schemes.
use Rattle.std.proofs.Common.{◌≡◌, ⊎_elim, ℕ, ◌+◌, ◌-◌, ◌<◌, ◌≤◌, Bool, true, false, not, ◌&&◌, ◌||◌, ◌==◌, cond, List, [], ◌∷◌, Option, Some, None, length, option_and_then, option_map, drop, map, get_or, inl, inr, Bor, true≢false, refl, sym, ap, ap₂, ◌∙◌, subst, arith}
use Rattle.std.specs.Prelude.{nat_lt, find}
use Rattle.std.specs.List.{list_all, list_any}
use Rattle.std.specs.Char.{is_ascii_alphanumeric, to_ascii_lowercase}
use Rattle.std.proofs.lemmas.Bool.{lt-ltb, ltb-true, le-ltb, eqb-true, and_parts, and_left, cases_lt}
use Rattle.std.proofs.lemmas.Bool.Decides.{nat_tests}
use Rattle.std.proofs.lemmas.List.{get_or_past, drop_more, at_drop_all}
use Rattle.std.proofs.lemmas.List.Folds.{list_any_at}
use Rattle.rst_text.specs.Characters.{Text, has}
use Rattle.rst_text.specs.Places.{last_from, IsLast}
use Rattle.rst_text.proofs.PlacesLemmas.{cases_bool, last_from-is, last_from-last}
use Rattle.rst_text.proofs.Choices.{some_is, none_is}
use Rattle.rst_inline_scan.specs.Uri.{has_letter, has_any_case, schemes, scheme_end, uri_piece, uri}
use Rattle.rst_inline_scan.specs.Words.{IsWord}
use Rattle.rst_inline_scan.specs.Registered.{registered, registered_end, may_name_scheme, holds_colon, is_uric, is_uric_at, uric_stop, is_link_last, ends_link, part_stop, uri_limit, last_end, registered_uri}
use Rattle.rst_inline_scan.proofs.FitLemmas.{Fit, Fit-none, Fit-some}
use Rattle.rst_inline_scan.proofs.RunLemmas.{Runs, run-stop}
use Rattle.rst_inline_scan.proofs.UriLemmas.{letter_at, uri_end-none}
use Rattle.rst_inline_scan.proofs.WordLemmas.{lower-letter, lower-colon}

-- ---- the scheme

-- one of :-.+
abbrev is_mark : ℕ → Bool
is_mark c = c == 58 || (c == 45 || (c == 46 || c == 43))

lower-mark : (c : ℕ) → is_mark (to_ascii_lowercase c) ≡ true → is_mark c ≡ true
lower-mark c h = grind (arith, nat_tests)

mark-other : (c : ℕ) → is_mark c ≡ true → is_ascii_alphanumeric c ≡ false
mark-other c h = grind (arith, nat_tests)

-- letters and digits, and a mark after them
abbrev schemed : List ℕ → Bool
schemed [] = false
schemed (c ∷ cs) = is_mark c || (is_ascii_alphanumeric c && schemed cs)

mark-at : (t : Text) (i : ℕ) → i < length t → is_mark (get_or t i 0) ≡ true → may_name_scheme t i ≡ true
mark-at t i within h = rw (lt-ltb i (length t) within) h

word-later : (t : Text) (i e : ℕ) → IsWord t i e → i < e → IsWord t (i + 1) e
word-later t i e word less = record { above = omega arith; within = word.within; letters = λ k low high. word.letters k (omega arith) high; stops = word.stops }

-- a scheme goes past the word that it begins with
no-scheme : (t : Text) (i e : ℕ) (word : List ℕ) → IsWord t i e → may_name_scheme t e ≡ false → schemed word ≡ true → has_any_case t i word ≡ true → ⊥
no-scheme t i e [] run stops s h = true≢false (sym s)
no-scheme t i e (c ∷ cs) run stops s h =
    let here = and_parts (has_letter t i c) (has_any_case t (i + 1) cs) h in
    let letter = letter_at t i c here.0 in
    let within : i < length t = letter.0 in
    let same : to_ascii_lowercase (get_or t i 0) ≡ c = letter.1 in
    let order : i ≤ e = run.above in
    ⊎_elim
    (λ marks.
    let mine : is_mark (get_or t i 0) ≡ true = lower-mark (get_or t i 0) (ap is_mark same ∙ marks) in
    ⊎_elim
    (λ inside. true≢false (sym (run.letters i (omega arith) inside) ∙ mark-other (get_or t i 0) mine))
    (λ past.
    let last : i ≡ e = omega arith in
    true≢false (sym (mark-at t i within mine) ∙ ap (may_name_scheme t) last ∙ stops))
    (cases_lt i e))
    (λ other.
    let rest = and_parts (is_ascii_alphanumeric c) (schemed cs) (subst (λ b. (b || (is_ascii_alphanumeric c && schemed cs)) ≡ true) other s) in
    ⊎_elim
    (λ inside. no-scheme t (i + 1) e cs (word-later t i e run inside) stops rest.1 here.1)
    (λ past.
    let last : i ≡ e = omega arith in
    let mine : is_ascii_alphanumeric (get_or t i 0) ≡ true = lower-letter (get_or t i 0) (ap is_ascii_alphanumeric same ∙ rest.0) in
    true≢false (sym mine ∙ ap (λ n. is_ascii_alphanumeric (get_or t n 0)) last ∙ run.stops (omega arith)))
    (cases_lt i e))
    (cases_bool (is_mark c))

-- none of the words is there, if a test that all pass holds of none that is
none-there : (t : Text) (i : ℕ) (p : List ℕ → Bool) (words : List (List ℕ)) → ((word : List ℕ) → p word ≡ true → has_any_case t i word ≡ true → ⊥) → list_all p words ≡ true → find (has_any_case t i) words ≡ None
none-there t i p [] none all = refl
none-there t i p (word ∷ words) none all =
    let parts = and_parts (p word) (list_all p words) all in
    ⊎_elim
    (λ yes. absurd (none word parts.0 yes))
    (λ no. ap (λ b. cond b (Some word) (find (has_any_case t i) words)) no ∙ none-there t i p words none parts.1)
    (cases_bool (has_any_case t i word))

unregistered : (t : Text) (i : ℕ) → find (has_any_case t i) registered ≡ None → registered_uri t i ≡ None
unfolding registered_uri registered_end
unregistered t i h = ap (λ r. option_map (uri_piece i) (option_and_then (last_end t) (option_map (λ scheme. i + length scheme) r))) h

pub no-registered : (t : Text) (i e : ℕ) → IsWord t i e → may_name_scheme t e ≡ false → registered_uri t i ≡ None
no-registered t i e run stops = unregistered t i (none-there t i schemed registered (λ word s h. no-scheme t i e word run stops s h) refl)

-- the first that is there is one of the words
find-here : (p : List ℕ → Bool) (words : List (Bor (List ℕ))) (k : ℕ) (d : Bor (List ℕ)) → k < length words → p (get_or words k d).now ≡ true → find p (map (λ word. word.now) (drop k words)) ≡ Some (get_or words k d).now
find-here p words k d below holds = rw (drop_more words k d below, holds) refl

pub found-end : (t : Text) (i : ℕ) (words : List (Bor (List ℕ))) (k : ℕ) (d : Bor (List ℕ)) → k < length words → has_any_case t i (get_or words k d).now ≡ true
    → find (has_any_case t i) (map (λ word. word.now) (drop k words)) ≡ find (has_any_case t i) registered → Some (i + length (get_or words k d).now) ≡ registered_end t i
unfolding registered_end
found-end t i words k d below holds same = ap (option_map (λ scheme. i + length scheme)) (sym (find-here (has_any_case t i) words k d below holds) ∙ same)

pub no-end : (t : Text) (i : ℕ) (words : List (Bor (List ℕ))) (k : ℕ) → length words ≤ k
    → find (has_any_case t i) (map (λ word. word.now) (drop k words)) ≡ find (has_any_case t i) registered → None ≡ registered_end t i
unfolding registered_end
no-end t i words k past same = ap (option_map (λ scheme. i + length scheme)) (sym (at_drop_all (λ rest. find (has_any_case t i) (map (λ word. word.now) rest)) words k past) ∙ same)

-- a scheme isn't empty
first-above : (t : Text) (i : ℕ) (words : List (List ℕ)) (e : ℕ) → list_all (λ word. nat_lt 0 (length word)) words ≡ true → option_map (λ scheme. i + length scheme) (find (has_any_case t i) words) ≡ Some e → i < e
first-above t i [] e all h = absurd (none_is h)
first-above t i (word ∷ words) e all h =
    let some = and_parts (nat_lt 0 (length word)) (list_all (λ word. nat_lt 0 (length word)) words) all in
    let long : 0 < length word = ltb-true 0 (length word) some.0 in
    elim (cases_bool (has_any_case t i word)) [
      | inl stands ↦
          (let same : Some (i + length word) ≡ Some e = rw stands at h in
          subst (λ n. i < n) (some_is same) (let less : i < i + length word = omega arith in less))
      | inr other ↦ first-above t i words e some.1 (rw other at h)
    ]

pub registered_end-above : (t : Text) (i e : ℕ) → Some e ≡ registered_end t i → i < e
unfolding registered_end
registered_end-above t i e h = first-above t i registered e refl (sym h)

-- ---- without a colon

abbrev colons : List ℕ → Bool
colons word = list_any (λ c. c == 58) word

no-colon : (t : Text) (i : ℕ) (word : List ℕ) → holds_colon t ≡ false → colons word ≡ true → has_any_case t i word ≡ true → ⊥
no-colon t i [] none has h = true≢false (sym has)
no-colon t i (c ∷ cs) none has h =
    let here = and_parts (has_letter t i c) (has_any_case t (i + 1) cs) h in
    let letter = letter_at t i c here.0 in
    ⊎_elim
    (λ yes.
    let stands : get_or t i 0 ≡ 58 = lower-colon (get_or t i 0) (letter.1 ∙ eqb-true c 58 yes) in
    true≢false (sym (list_any_at (λ c. c == 58) t i 0 letter.0 (ap (λ c. c == 58) stands)) ∙ none))
    (λ other. no-colon t (i + 1) cs none (subst (λ b. (b || colons cs) ≡ true) other has) here.1)
    (cases_bool (c == 58))

pub colonless-registered : (t : Text) (i : ℕ) → holds_colon t ≡ false → registered_uri t i ≡ None
colonless-registered t i none = unregistered t i (none-there t i colons registered (λ word s h. no-colon t i word none s h) refl)

pub colonless-uri : (t : Text) (i : ℕ) → holds_colon t ≡ false → uri t i ≡ None
unfolding uri scheme_end
colonless-uri t i none =
    ap (option_map (uri_piece i)) (uri_end-none t i (ap (option_map (λ scheme. i + length scheme)) (none-there t i colons schemes (λ word s h. no-colon t i word none s h) refl)))

-- ---- past the end

pub has-past : (t : Text) (k c : ℕ) → length t ≤ k → has t k c ≡ false
has-past t k c past = ap (λ b. b && get_or t k 0 == c) (le-ltb k (length t) past)

none-zero : is_uric 0 ≡ false
unfolding is_uric Rattle.rst_inline_scan.specs.Uri.is_uri_char
none-zero = refl

pub is_uric_at-past : (t : Text) (k : ℕ) → length t ≤ k → is_uric_at t k ≡ false
is_uric_at-past t k past = ap₂ (λ a b. a || b) (ap is_uric (get_or_past t k 0 past) ∙ none-zero) (and_left (has t k 92) (not (has t (k + 1) 92)) (has-past t k 92 past))

no-last : is_link_last 0 ≡ false
unfolding is_link_last
no-last = refl

pub ends_link-past : (t : Text) (e : ℕ) → length t < e → ends_link t e ≡ false
unfolding ends_link
ends_link-past t e past =
    and_left _ _ (ap₂ (λ a b. a || b) (ap is_link_last (get_or_past t (e - 1) 0 (omega arith)) ∙ no-last) (and_left _ _ (has-past t e 62 (omega arith))))

-- ---- the end

pub uric_stop-is : (t : Text) (i stop : ℕ) → Runs (is_uric_at t) i (length t) stop → stop ≡ uric_stop t i
unfolding uric_stop
uric_stop-is t i stop run = run-stop (is_uric_at t) i (length t) stop run

pub last_end-is : (t : Text) (i limit : ℕ) (r : Option ℕ) → limit ≡ uri_limit t i → IsLast (ends_link t) (i + 1) (limit + 1) r → r ≡ last_end t i
last_end-is t i limit r same h =
    let many : limit + 1 - (i + 1) ≡ limit - i = omega arith in
    subst (λ n. r ≡ last_from (ends_link t) (i + 1) n) (many ∙ ap (λ l. l - i) same) (last_from-is (ends_link t) (i + 1) (limit + 1) r h)

last-within : (t : Text) (i n e : ℕ) → last_from (ends_link t) (i + 1) n ≡ Some e → (i < e) × (e ≤ length t)
last-within t i n e h =
    let many : i + 1 + n - (i + 1) ≡ n = omega arith in
    let found : IsLast (ends_link t) (i + 1) (i + 1 + n) (Some e) = subst (IsLast (ends_link t) (i + 1) (i + 1 + n)) (ap (last_from (ends_link t) (i + 1)) many ∙ h) (last_from-last (ends_link t) (i + 1) (i + 1 + n) (omega arith)) in
    let above : i + 1 ≤ e = found.0 in
    (omega arith, ⊎_elim (λ past. absurd (true≢false (sym found.2 ∙ ends_link-past t e past))) (λ within. within) (cases_lt (length t) e))

-- ---- the whole

after_scheme-fits : (t : Text) (i : ℕ) (r : Option (List ℕ)) (e : ℕ) → option_and_then (last_end t) (option_map (λ (scheme : List ℕ). i + length scheme) r) ≡ Some e → (i < e) × (e ≤ length t)
after_scheme-fits t i (Some scheme) e h =
    let fits = last-within t (i + length scheme) (uri_limit t (i + length scheme) - (i + length scheme)) e h in
    let less : i + length scheme < e = fits.0 in
    (omega arith, fits.1)
after_scheme-fits t i None e h = absurd (none_is h)

piece-fits : (t : Text) (i : ℕ) (r : Option ℕ) → ((e : ℕ) → r ≡ Some e → (i < e) × (e ≤ length t)) → Fit t i (option_map (uri_piece i) r)
piece-fits t i (Some e) h = let found = h e refl in Fit-some t i _ (record { begins = refl; some = found.0; within = found.1; above = omega arith; order = (let less = found.0 in omega arith); limit = omega arith })
piece-fits t i None h = Fit-none t i

pub registered_uri-fits : (t : Text) (i : ℕ) → Fit t i (registered_uri t i)
unfolding registered_uri registered_end
registered_uri-fits t i = piece-fits t i (option_and_then (last_end t) (option_map (λ scheme. i + length scheme) (find (has_any_case t i) registered))) (λ e h. after_scheme-fits t i (find (has_any_case t i) registered) e h)
