-- Standalone URIs.
use Rattle.std.proofs.Common.{◌≡◌, ◌↔◌, ⊎_elim, inl, inr, ℕ, ◌+◌, ◌-◌, ◌<◌, ◌≤◌, Bool, true, false, not, ◌&&◌, ◌==◌, cond, List, [], ◌∷◌, ◌++◌, Option, Some, None, length, drop, map, option_and_then, option_map, get_or, unwrap_or, true≢false, refl, sym, ap, ◌∙◌, subst, arith}
use Rattle.std.specs.Prelude.{nat_lt, find}
use Rattle.std.specs.List.{list_all, zip}
use Rattle.std.proofs.lemmas.List.{drop_more}
use Rattle.std.specs.Char.{to_ascii_lowercase}
use Rattle.std.specs.Str.{chars, IsUtf8}
use Rattle.std.proofs.Math.Utf8.{encodes}
use Rattle.std.proofs.lemmas.Str.{encode_ascii, encodes-chars, chars_from_encodes}
use Rattle.std.proofs.lemmas.Bool.{ltb-true, lt-ltb, eqb-true, not-false, and_parts, cases_lt}
use Rattle.std.proofs.lemmas.List.Elements.{All-from_get_or}
use Rattle.std.proofs.lemmas.List.Sums.{AllPass-from_list_all, list_all-from_AllPass}
use Rattle.std.proofs.lemmas.Bool.Decides.{nat_tests}
use Rattle.rst_text.specs.Places.{first_from, last_from, NoneFrom, IsFirst, IsLast}
use Rattle.rst_text.proofs.PlacesLemmas.{cases_bool, lt_eq_gt, first_from-is, first_from-IsFirst, last_from-is, last_from-last, NoneFrom-within}
use Rattle.rst_text.specs.Characters.{Text}
use Rattle.rst_inline_scan.specs.Characters.{is_free_after}
use Rattle.rst_inline_scan.specs.Uri.{has_letter, has_any_case, schemes, scheme_end, is_uri_char, is_uri_trail, uri_stop, uri_close, uri_after_scheme, if_free, uri_end, uri_piece, uri, IsUri, is_uri_from, is_ascii_uri}
use Rattle.rst_inline_scan.proofs.FitLemmas.{Fit, Fit-none, Fit-some}
use Rattle.rst_text.proofs.Choices.{some_is, none_is, chosen}

-- ---- the scheme

-- the character is within the text, and in lower case it is the one
pub letter_at : (t : Text) (i c : ℕ) → has_letter t i c ≡ true → (i < length t) × (to_ascii_lowercase (get_or t i 0) ≡ c)
letter_at t i c h =
    let parts = and_parts (nat_lt i (length t)) (to_ascii_lowercase (get_or t i 0) == c) h in
    (ltb-true i (length t) parts.0, eqb-true _ _ parts.1)

upper-uri : (c : ℕ) → nat_lt c 65 ≡ false → nat_lt c 91 ≡ true → is_uri_char c ≡ true
unfolding is_uri_char
upper-uri c high upper = grind (arith, nat_tests)

-- a character is one of a URI, if it is in lower case
lower-uri : (c : ℕ) → is_uri_char (to_ascii_lowercase c) ≡ true → is_uri_char c ≡ true
lower-uri c h = elim (cases_bool (nat_lt c 65)) [
  | inl low ↦ rw low at h
  | inr high ↦ elim (cases_bool (nat_lt c 91)) [ inl upper ↦ upper-uri c high upper | inr past ↦ rw (high, past) at h ]
]

abbrev AllUri : List ℕ → Type 0
AllUri word = list_all is_uri_char word ≡ true

same-uri : (a b : ℕ) → a ≡ b → is_uri_char b ≡ true → is_uri_char a ≡ true
same-uri a b e h = ap is_uri_char e ∙ h

scheme-uri : (t : Text) (i : ℕ) (word : List ℕ) → has_any_case t i word ≡ true → AllUri word → (k : ℕ) → i ≤ k → k < i + length word → is_uri_char (get_or t k 0) ≡ true
scheme-uri t i [] h all k above below = absurd (omega arith)
scheme-uri t i (c ∷ cs) h all k above below =
    let here = and_parts (has_letter t i c) (has_any_case t (i + 1) cs) h in
    let letter = letter_at t i c here.0 in
    let fits = and_parts (is_uri_char c) (list_all is_uri_char cs) all in
    ⊎_elim
    (λ less. absurd (omega arith))
    (λ rest. ⊎_elim
    (λ same. subst (λ k. is_uri_char (get_or t k 0) ≡ true) (sym same) (lower-uri (get_or t i 0) (same-uri (to_ascii_lowercase (get_or t i 0)) c letter.1 fits.0)))
    (λ more. scheme-uri t (i + 1) cs here.1 fits.1 k (omega arith) (omega arith))
    rest)
    (lt_eq_gt k i)

pub scheme-fits : (t : Text) (i : ℕ) (word : List ℕ) → has_any_case t i word ≡ true → i ≤ length t → i + length word ≤ length t
scheme-fits t i [] h within = omega arith
scheme-fits t i (c ∷ cs) h within =
    let here = and_parts (has_letter t i c) (has_any_case t (i + 1) cs) h in
    let letter = letter_at t i c here.0 in
    let less : i < length t = letter.0 in
    let rest : i + 1 + length cs ≤ length t = scheme-fits t (i + 1) cs here.1 (omega arith) in
    omega arith

-- a word that is longer than the rest of the text is not there
pub begins-short : (t word : Text) (i : ℕ) → i ≤ length t → (length word ≤ length t - i → ⊥) → has_any_case t i word ≡ false
begins-short t word i within long = by (has_any_case t i word) (λ stands. scheme-fits t i word stands within)
  where
    by : (b : Bool) → (b ≡ true → i + length word ≤ length t) → b ≡ false
    by true fits = absurd (long (let e = fits refl in omega arith))
    by false fits = refl

-- one that is not is compared a character at a time
pub begins-pairs : (t word : Text) (i : ℕ) → length word ≤ length t - i → list_all (λ (p : ℕ × ℕ). to_ascii_lowercase p.0 == p.1) (zip (drop i t) word) ≡ has_any_case t i word
begins-pairs t [] i fits = none (drop i t)
  where
    none : (rest : Text) → list_all (λ (p : ℕ × ℕ). to_ascii_lowercase p.0 == p.1) (zip rest []) ≡ true
    none [] = refl
    none (c ∷ cs) = refl
begins-pairs t (c ∷ cs) i fits =
    let here : drop i t ≡ get_or t i 0 ∷ drop (i + 1) t = drop_more t i 0 (omega arith) in
    rw (here, lt-ltb i (length t) (omega arith)) (ap (λ b. to_ascii_lowercase (get_or t i 0) == c && b) (begins-pairs t cs (i + 1) (omega arith)))

-- a word that is not there is not the first of some that is
pub find-more : {W : Type 0} (p : Text → Bool) (word : W → Text) (words : List W) (i : ℕ) (d : W) → i < length words → p (word (get_or words i d)) ≡ false → find p (map word (drop (i + 1) words)) ≡ find p (map word (drop i words))
find-more p word words i d below fails = rw (drop_more words i d below, fails) refl

-- the characters of a scheme are some of a URI
pub record Begins (t : Text) (i limit : ℕ) : Type 0 where
  pub above : i ≤ limit
  pub within : i ≤ length t → limit ≤ length t
  pub chars : (k : ℕ) → i ≤ k → k < limit → is_uri_char (get_or t k 0) ≡ true

-- the place after the first of the words that is at the place
abbrev scheme_of : Text → ℕ → List Text → Option ℕ
scheme_of t i words = option_map (λ scheme. i + length scheme) (find (has_any_case t i) words)

first-begins : (t : Text) (i : ℕ) (words : List Text) (limit : ℕ) → list_all (λ word. list_all is_uri_char word) words ≡ true → scheme_of t i words ≡ Some limit → Begins t i limit
first-begins t i [] limit all h = absurd (none_is h)
first-begins t i (word ∷ words) limit all h =
    let fits = and_parts (list_all is_uri_char word) (list_all (λ word. list_all is_uri_char word) words) all in
    elim (cases_bool (has_any_case t i word)) [
      | inl stands ↦
          (let same : Some (i + length word) ≡ Some limit = rw stands at h in
          subst (Begins t i) (some_is same) (record { above = omega arith; within = λ within. scheme-fits t i word stands within; chars = scheme-uri t i word stands fits.0 }))
      | inr other ↦ first-begins t i words limit fits.1 (rw other at h)
    ]

schemes-uri : list_all (λ word. list_all is_uri_char word) schemes ≡ true
unfolding is_uri_char
schemes-uri = refl

pub scheme_end-begins : (t : Text) (i limit : ℕ) → scheme_end t i ≡ Some limit → Begins t i limit
unfolding scheme_end
scheme_end-begins t i limit h = first-begins t i schemes limit schemes-uri h

-- ---- the run after it

abbrev pub StopTest : Text → ℕ → Bool
StopTest t k = not (is_uri_char (get_or t k 0))

pub uri_stop-found : (t : Text) (i s : ℕ) → IsFirst (StopTest t) i (length t) (Some s) → s ≡ uri_stop t i
unfolding uri_stop
uri_stop-found t i s h = ap (λ r. unwrap_or r (length t)) (first_from-is (StopTest t) i (length t) (Some s) h)

pub uri_stop-end : (t : Text) (i : ℕ) → NoneFrom (StopTest t) i (length t) → length t ≡ uri_stop t i
unfolding uri_stop
uri_stop-end t i h = ap (λ r. unwrap_or r (length t)) (first_from-is (StopTest t) i (length t) None h)

-- what is known of the end of a run that begins within the text
pub record Stops (t : Text) (i stop : ℕ) : Type 0 where
  pub above : i ≤ stop
  pub within : stop ≤ length t
  pub none : NoneFrom (StopTest t) i stop
  pub stops : stop < length t → StopTest t stop ≡ true

stops_by : (t : Text) (i high : ℕ) (r : Option ℕ) → i ≤ length t → high ≡ length t → IsFirst (StopTest t) i high r → Stops t i (unwrap_or r (length t))
stops_by t i high (Some s) h e f = record { above = f.0; within = (let less = f.1 in omega arith); none = f.3; stops = λ less. f.2 }
stops_by t i high None h e f = record { above = h; within = omega arith; none = λ k above below. f k above (omega arith); stops = λ less. absurd (omega arith) }

pub uri_stop-stops : (t : Text) (i : ℕ) → i ≤ length t → Stops t i (uri_stop t i)
unfolding uri_stop
uri_stop-stops t i h = stops_by t i (i + (length t - i)) (first_from (StopTest t) i (length t - i)) h (omega arith) (first_from-IsFirst (StopTest t) i (length t - i))

-- where a run stops, one that begins in it stops, too
stops-later : (t : Text) (i stop : ℕ) → i ≤ stop → stop ≤ length t → NoneFrom (StopTest t) i stop → (stop < length t → StopTest t stop ≡ true) → uri_stop t i ≡ stop
stops-later t i stop order within none stops = ⊎_elim
    (λ less. sym (uri_stop-found t i stop (order, less, stops less, none)))
    (λ end. let e : length t ≡ stop = omega arith in sym (uri_stop-end t i (subst (NoneFrom (StopTest t) i) (sym e) none)) ∙ e)
    (cases_lt stop (length t))

-- ---- its end

abbrev pub CloseTest : Text → ℕ → Bool
CloseTest t e = not (is_uri_trail (get_or t (e - 1) 0))

pub uri_close-is : (t : Text) (i stop : ℕ) (r : Option ℕ) → IsLast (CloseTest t) (i + 1) (stop + 1) r → r ≡ uri_close t i stop
unfolding uri_close
uri_close-is t i stop r h =
    let e : stop + 1 - (i + 1) ≡ stop - i = omega arith in
    subst (λ n. r ≡ last_from (CloseTest t) (i + 1) n) e (last_from-is (CloseTest t) (i + 1) (stop + 1) r h)

pub uri_close-last : (t : Text) (i stop e : ℕ) → uri_close t i stop ≡ Some e → IsLast (CloseTest t) (i + 1) (stop + 1) (Some e)
unfolding uri_close
uri_close-last t i stop e h = ⊎_elim
    (λ order.
    let same : stop + 1 - (i + 1) ≡ stop - i = omega arith in
    subst (IsLast (CloseTest t) (i + 1) (stop + 1)) h (subst (λ n. IsLast (CloseTest t) (i + 1) (stop + 1) (last_from (CloseTest t) (i + 1) n)) same (last_from-last (CloseTest t) (i + 1) (stop + 1) (omega arith))))
    (λ past. let none : stop - i ≡ 0 = omega arith in absurd (none_is (sym (ap (last_from (CloseTest t) (i + 1)) none) ∙ h)))
    (cases_lt i (stop + 1))

-- ---- the whole

pub uri_end-none : (t : Text) (i : ℕ) → scheme_end t i ≡ None → uri_end t i ≡ None
unfolding uri_end
uri_end-none t i h = ap (λ r. option_and_then (if_free t) (option_and_then (uri_after_scheme t) r)) h

pub uri_end-empty : (t : Text) (i m : ℕ) → scheme_end t i ≡ Some m → uri_close t m (uri_stop t m) ≡ None → uri_end t i ≡ None
unfolding uri_end
uri_end-empty t i m h k = ap (λ r. option_and_then (if_free t) (option_and_then (uri_after_scheme t) r)) h ∙ ap (option_and_then (if_free t)) k

pub uri_end-found : (t : Text) (i m e : ℕ) → scheme_end t i ≡ Some m → uri_close t m (uri_stop t m) ≡ Some e → is_free_after t e ≡ true → uri_end t i ≡ Some e
unfolding uri_end
uri_end-found t i m e h k free = ap (λ r. option_and_then (if_free t) (option_and_then (uri_after_scheme t) r)) h ∙ ap (option_and_then (if_free t)) k ∙ ap (λ b. cond b (Some e) None) free

pub uri_end-stuck : (t : Text) (i m e : ℕ) → scheme_end t i ≡ Some m → uri_close t m (uri_stop t m) ≡ Some e → is_free_after t e ≡ false → uri_end t i ≡ None
unfolding uri_end
uri_end-stuck t i m e h k stuck = ap (λ r. option_and_then (if_free t) (option_and_then (uri_after_scheme t) r)) h ∙ ap (option_and_then (if_free t)) k ∙ ap (λ b. cond b (Some e) None) stuck

-- where what follows a URI doesn't fit, none begins in it
inside : (t : Text) (start m e i : ℕ) (r : Option ℕ) → start ≤ length t → scheme_end t start ≡ Some m → uri_close t m (uri_stop t m) ≡ Some e → is_free_after t e ≡ false → start ≤ i → i < e → scheme_end t i ≡ r → uri_end t i ≡ None
inside t start m e i None within h k stuck above below r = uri_end-none t i r
inside t start m e i (Some n) within h k stuck above below r =
    let first = scheme_end-begins t start m h in
    let later = scheme_end-begins t i n r in
    let stop = uri_stop t m in
    let run = uri_stop-stops t m (first.within within) in
    let close = uri_close-last t m stop e k in
    let less : e < stop + 1 = close.1 in
    let upto : stop ≤ length t = run.within in
    let past : i ≤ n = later.above in
    let bound : n ≤ length t = later.within (omega arith) in
    let all : NoneFrom (StopTest t) start stop = λ j low high. ⊎_elim
    (λ scheme. ap not (first.chars j low scheme)) (λ limit. run.none j limit high) (cases_lt j m) in
    let order : n ≤ stop = ⊎_elim
    (λ over. absurd (true≢false (sym (run.stops (omega arith)) ∙ ap not (later.chars stop (omega arith) over)))) (λ good. good) (cases_lt stop n) in
    let same : uri_stop t n ≡ stop = stops-later t n stop order upto (NoneFrom-within (StopTest t) start stop n stop (omega arith) (omega arith) all) run.stops in
    ⊎_elim
    (λ before. uri_end-stuck t i n e r (ap (uri_close t n) same ∙ sym (uri_close-is t n stop (Some e) (omega arith, less, close.2, close.3))) stuck)
    (λ after. uri_end-empty t i n r (ap (uri_close t n) same ∙ sym (uri_close-is t n stop None (NoneFrom-within (CloseTest t) (e + 1) (stop + 1) (n + 1) (stop + 1) (omega arith) (omega arith) close.3))))
    (cases_lt n e)

pub none-inside : (t : Text) (start m e : ℕ) → start ≤ length t → scheme_end t start ≡ Some m → uri_close t m (uri_stop t m) ≡ Some e → is_free_after t e ≡ false → (i : ℕ) → start ≤ i → i < e → uri_end t i ≡ None
none-inside t start m e within h k stuck i above below = inside t start m e i (scheme_end t i) within h k stuck above below refl

-- ---- the piece

if_free-some : (t : Text) (r : Option ℕ) (e : ℕ) → option_and_then (if_free t) r ≡ Some e → r ≡ Some e
if_free-some t (Some f) e h = (chosen (is_free_after t f) (Some f) e h).1
if_free-some t None e h = absurd (none_is h)

after_scheme-fits : (t : Text) (i : ℕ) (r : Option ℕ) (e : ℕ) → i ≤ length t → scheme_end t i ≡ r → option_and_then (uri_after_scheme t) r ≡ Some e → (i < e) × (e ≤ length t)
after_scheme-fits t i (Some m) e within h k =
    let begins = scheme_end-begins t i m h in
    let above : i ≤ m = begins.above in
    let run = uri_stop-stops t m (begins.within within) in
    let upto = run.within in
    let close = uri_close-last t m (uri_stop t m) e k in
    let from : m + 1 ≤ e = close.0 in
    let less = close.1 in
    (omega arith, omega arith)
after_scheme-fits t i None e within h k = absurd (none_is k)

pub uri_end-fits : (t : Text) (i e : ℕ) → i ≤ length t → uri_end t i ≡ Some e → (i < e) × (e ≤ length t)
unfolding uri_end
uri_end-fits t i e within h = after_scheme-fits t i (scheme_end t i) e within refl (if_free-some t (option_and_then (uri_after_scheme t) (scheme_end t i)) e h)

uri_piece-fits : (t : Text) (i : ℕ) (r : Option ℕ) → ((e : ℕ) → r ≡ Some e → (i < e) × (e ≤ length t)) → Fit t i (option_map (uri_piece i) r)
uri_piece-fits t i (Some e) h = let found = h e refl in Fit-some t i _ (record { begins = refl; some = found.0; within = found.1; above = omega arith; order = (let less = found.0 in omega arith); limit = omega arith })
uri_piece-fits t i None h = Fit-none t i

pub uri-fits : (t : Text) (i : ℕ) → i ≤ length t → Fit t i (uri t i)
unfolding uri
uri-fits t i within = uri_piece-fits t i (uri_end t i) (λ e h. uri_end-fits t i e within h)

-- ---- a text that is one URI

past-uri : (c : ℕ) → 128 ≤ c → is_uri_char c ≡ false
unfolding is_uri_char
past-uri c h = grind (arith, nat_tests)

uri-ascii : (c : ℕ) → is_uri_char c ≡ true → c < 128
uri-ascii c h = ⊎_elim (λ low. low) (λ past. absurd (true≢false (sym h ∙ past-uri c past))) (cases_lt c 128)

-- each character of a URI is one byte
encodes-uri : (cs : List ℕ) → AllUri cs → encodes cs ≡ cs
encodes-uri [] h = refl
encodes-uri (c ∷ cs) h =
    let parts = and_parts (is_uri_char c) (list_all is_uri_char cs) h in
    ap (λ l. l ++ encodes cs) (encode_ascii c (uri-ascii c parts.0)) ∙ ap (λ l. c ∷ l) (encodes-uri cs parts.1)

-- bytes of a URI are its characters
bytes-chars : (bytes : List ℕ) → IsUtf8 bytes → AllUri bytes → bytes ≡ chars bytes
bytes-chars bytes good h = chars_from_encodes bytes bytes good (encodes-uri bytes h)

chars-bytes : (bytes : List ℕ) → IsUtf8 bytes → AllUri (chars bytes) → chars bytes ≡ bytes
chars-bytes bytes good h = sym (encodes-uri (chars bytes) h) ∙ encodes-chars bytes good

free-at-end : (t : Text) → is_free_after t (length t) ≡ true
free-at-end t = grind (arith, nat_tests)

IsUri-from : (t : Text) (r : Option ℕ) → scheme_end t 0 ≡ r → is_uri_from t r ≡ true → IsUri t
IsUri-from t (Some m) scheme h =
    let first = and_parts (nat_lt m (length t)) (list_all is_uri_char t && not (is_uri_trail (get_or t (length t - 1) 0))) h in
    let second = and_parts (list_all is_uri_char t) (not (is_uri_trail (get_or t (length t - 1) 0))) first.1 in
    let less : m < length t = ltb-true m (length t) first.0 in
    let stop : length t ≡ uri_stop t m = uri_stop-end t m (λ k above below. ap not (AllPass-from_list_all is_uri_char t second.0 k 0 below)) in
    let close : uri_close t m (uri_stop t m) ≡ Some (length t) =
    ap (uri_close t m) (sym stop) ∙ sym (uri_close-is t m (length t) (Some (length t)) (omega arith, omega arith, second.1, λ k above below. absurd (omega arith))) in
    uri_end-found t 0 m (length t) scheme close (free-at-end t)
IsUri-from t None scheme h = absurd (cc)

after_scheme-uri : (t : Text) (r : Option ℕ) → scheme_end t 0 ≡ r → option_and_then (uri_after_scheme t) r ≡ Some (length t) → is_uri_from t r ≡ true
after_scheme-uri t (Some m) scheme h =
    let begins = scheme_end-begins t 0 m scheme in
    let run = uri_stop-stops t m (begins.within (omega arith)) in
    let close = uri_close-last t m (uri_stop t m) (length t) h in
    let above : m + 1 ≤ length t = close.0 in
    let below : length t < uri_stop t m + 1 = close.1 in
    let all : AllUri t = list_all-from_AllPass is_uri_char t (All-from_get_or (λ c. is_uri_char c ≡ true) t 0 (λ k less. ⊎_elim
    (λ in_scheme. begins.chars k (omega arith) in_scheme)
    (λ back. not-false (is_uri_char (get_or t k 0)) (run.none k back (omega arith)))
    (cases_lt k m))) in
    rw (lt-ltb m (length t) (omega arith), all) close.2
after_scheme-uri t None scheme h = absurd (none_is h)

from-IsUri : (t : Text) → IsUri t → is_ascii_uri t ≡ true
unfolding uri_end
from-IsUri t h = after_scheme-uri t (scheme_end t 0) refl (if_free-some t (option_and_then (uri_after_scheme t) (scheme_end t 0)) (length t) h)

all-of-uri : (t : Text) (r : Option ℕ) → is_uri_from t r ≡ true → AllUri t
all-of-uri t (Some m) h =
    let first = and_parts (nat_lt m (length t)) (list_all is_uri_char t && not (is_uri_trail (get_or t (length t - 1) 0))) h in
    (and_parts (list_all is_uri_char t) (not (is_uri_trail (get_or t (length t - 1) 0))) first.1).0
all-of-uri t None h = absurd (cc)

is_ascii_uri-is : (bytes : List ℕ) → IsUtf8 bytes → is_ascii_uri bytes ≡ true → IsUri (chars bytes)
is_ascii_uri-is bytes good h = subst IsUri (bytes-chars bytes good (all-of-uri bytes (scheme_end bytes 0) h)) (IsUri-from bytes (scheme_end bytes 0) refl h)

IsUri-ascii : (bytes : List ℕ) → IsUtf8 bytes → IsUri (chars bytes) → is_ascii_uri bytes ≡ true
IsUri-ascii bytes good h =
    let found = from-IsUri (chars bytes) h in
    subst (λ t. is_ascii_uri t ≡ true) (chars-bytes bytes good (all-of-uri (chars bytes) (scheme_end (chars bytes) 0) found)) found

-- so the bytes show at once whether the text is one URI
pub plain-bytes : (bytes : List ℕ) (answer : Bool) → answer ≡ is_ascii_uri bytes → IsUtf8 bytes → (answer ≡ true) ↔ IsUri (chars bytes)
plain-bytes bytes answer is good = (λ h. is_ascii_uri-is bytes good (sym is ∙ h), λ h. is ∙ IsUri-ascii bytes good h)
