-- Between calm characters nothing begins.
use Rattle.std.proofs.Common.{◌≡◌, ⊎_elim, ◌⊎◌, inl, inr, ℕ, zero, suc, ◌+◌, ◌-◌, ◌<◌, ◌≤◌, [], ◌∷◌, map, Bool, true, false, not, ◌&&◌, ◌||◌, ◌==◌, None, length, get_or, true≢false, refl, sym, ap, ap₂, ◌∙◌, subst, arith}
use Rattle.std.specs.Prelude.{nat_lt}
use Rattle.std.specs.Char.{is_ascii_alphanumeric}
use Rattle.std.proofs.lemmas.List.{length-map, get_or_past}
use Rattle.std.proofs.lemmas.Bool.{lt-ltb, le-ltb, eqb-true, and_parts, and_left, and_right, or_parts, cases_lt}
use Rattle.std.proofs.lemmas.Bool.Decides.{nat_tests}
use Rattle.rst_text.specs.Runs.{PassBetween}
use Rattle.rst_text.proofs.PlacesLemmas.{cases_bool, lt_eq_gt}
use Rattle.rst_text.specs.Characters.{Text, has}
use Rattle.rst_inline_scan.specs.Characters.{is_free_after}
use Rattle.rst_text.specs.SimpleNames.{is_joint, is_name_at}
use Rattle.rst_inline_scan.specs.Names.{ends_name}
use Rattle.rst_inline_scan.specs.Tails.{name_tail}
use Rattle.rst_inline_scan.specs.Calm.{AreBytesOf, byte_of, is_calm, is_calm_at, AreCalm, is_of_name, IsScanned}
use Rattle.rst_inline_scan.specs.Pieces.{piece_at}
use Rattle.rst_inline_scan.proofs.WordLemmas.{escaped-after, differs, absent, letter-may_not_follow, unmarked, no-label, no-letter-at, IsBarred, no-piece-barred}
use Rattle.rst_inline_scan.proofs.NameLemmas.{no-underscore}

-- from one place up to another all are calm, and the last is none of a name, or the other is the text's end
pub record IsCalm (t : Text) (from to : ℕ) : Type 0 where
  pub above : from ≤ to
  pub within : to ≤ length t
  pub calm : AreCalm t from to
  pub edge : from < to → to < length t → is_of_name (get_or t (to - 1) 0) ≡ false

-- ---- a calm place

-- an underscore is there, with a letter or a digit after it
abbrev IsInner : Text → ℕ → Type 0
IsInner t i = ((get_or t i 0 == 95) ≡ true) × (is_ascii_alphanumeric (get_or t (i + 1) 0) ≡ true)

either : (t : Text) (i : ℕ) → is_calm_at t i ≡ true → (is_calm (get_or t i 0) ≡ true) ⊎ IsInner t i
either t i h = ⊎_elim
    (λ calm. inl calm)
    (λ other. inr (and_parts (get_or t i 0 == 95) (is_ascii_alphanumeric (get_or t (i + 1) 0)) (subst (λ b. (b || (get_or t i 0 == 95 && is_ascii_alphanumeric (get_or t (i + 1) 0))) ≡ true) other h)))
    (cases_bool (is_calm (get_or t i 0)))

abbrev is_loose : ℕ → Bool
is_loose c = is_calm c || c == 95

loose : (t : Text) (i : ℕ) → is_calm_at t i ≡ true → is_loose (get_or t i 0) ≡ true
loose t i h = ⊎_elim
    (λ calm. ap (λ b. b || get_or t i 0 == 95) calm)
    (λ inner. ap is_loose (eqb-true (get_or t i 0) 95 inner.0))
    (either t i h)

calm-target : (t : Text) (i : ℕ) → is_calm_at t i ≡ true → (has t i 95 && has t (i + 1) 96) ≡ false
calm-target t i h = ⊎_elim
    (λ calm. and_left _ _ (absent is_calm t i 95 calm refl))
    (λ inner. and_right _ _ (absent is_ascii_alphanumeric t (i + 1) 96 inner.1 refl))
    (either t i h)

letter-within : (t : Text) (k : ℕ) → is_ascii_alphanumeric (get_or t k 0) ≡ true → k < length t
letter-within t k letter = ⊎_elim (λ inside. inside) (λ past. absurd (true≢false (sym letter ∙ ap is_ascii_alphanumeric (get_or_past t k 0 past)))) (cases_lt k (length t))

-- after an underscore no name ends where a letter or a digit is
letter-unended : (t : Text) (k : ℕ) → is_ascii_alphanumeric (get_or t (k + 1) 0) ≡ true → ends_name t k ≡ false
unfolding ends_name name_tail
letter-unended t k letter =
    let within = letter-within t (k + 1) letter in
    let second = absent is_ascii_alphanumeric t (k + 1) 95 letter refl in
    let following : is_free_after t (k + 1) ≡ false = rw (letter-may_not_follow (get_or t (k + 1) 0) letter, lt-ltb (k + 1) (length t) within) refl in
    rw (second, following) (grind (arith, nat_tests))

calm-unended : (t : Text) (k : ℕ) → is_calm_at t k ≡ true → ends_name t k ≡ false
calm-unended t k h = ⊎_elim
    (λ calm. no-underscore t k (absent is_calm t k 95 calm refl))
    (λ inner. letter-unended t k inner.1)
    (either t k h)

-- ---- a run of them

pub calm-longer : (t : Text) (from at to : ℕ) → AreCalm t from at → get_or t at 0 ≡ 95 → is_ascii_alphanumeric (get_or t (at + 1) 0) ≡ true → PassBetween is_calm t (at + 1) to → AreCalm t from to
calm-longer t from at to calm underscore letter run k above less = ⊎_elim
    (λ before. calm k above before)
    (λ rest. ⊎_elim
    (λ here. subst (λ n. is_calm_at t n ≡ true) (sym here) (rw (underscore, letter) refl))
    (λ past. ap (λ b. b || (get_or t k 0 == 95 && is_ascii_alphanumeric (get_or t (k + 1) 0))) (run k (omega arith) less))
    rest)
    (lt_eq_gt k at)

-- what no name holds
record IsOther (c : ℕ) : Type 0 where
  low : c < 128
  letter : is_ascii_alphanumeric c ≡ false
  joint : is_joint c ≡ false

other : (c : ℕ) → is_of_name c ≡ false → IsOther c
other c h =
    let first = or_parts (not (nat_lt c 128)) (is_ascii_alphanumeric c || is_joint c) h in
    let rest = or_parts (is_ascii_alphanumeric c) (is_joint c) first.1 in
    record { low = below first.0; letter = rest.0; joint = rest.1 }
  where
    below : not (nat_lt c 128) ≡ false → c < 128
    below e = grind (arith, nat_tests)

no-name-at : (t : Text) (i : ℕ) → IsOther (get_or t i 0) → is_name_at t i ≡ false
unfolding is_name_at
no-name-at t i here = rw (no-letter-at t i (get_or t i 0) refl here.low here.letter, here.joint) refl

-- past the text's end all are calm
AreCalm-past : (t : Text) (from to : ℕ) → AreCalm t from to → length t ≤ to → AreCalm t from (to + 1)
AreCalm-past t from to calm past k above less = ⊎_elim
    (λ inside. calm k above inside)
    (λ following. ap (λ c. is_calm c || (c == 95 && is_ascii_alphanumeric (get_or t (k + 1) 0))) (get_or_past t k 0 (omega arith)))
    (cases_lt k to)

bars-calm : (t : Text) (i e : ℕ) → i ≤ e → AreCalm t i (e + 1) → (e < length t → IsOther (get_or t e 0)) → IsBarred t i e
bars-calm t i e order calm last = record {
  above = order;
  unended = λ k more upto. calm-unended t k (calm k (omega arith) (omega arith));
  colon = λ k more upto. absent is_loose t k 58 (loose t k (calm k more (omega arith))) refl;
  name = λ inside. no-name-at t e (last inside);
  letter = λ inside. (last inside).letter;
}

none-calm : (t : Text) (begin from to i : ℕ) → IsCalm t from to → from ≤ i → i < to → piece_at false false t begin i ≡ None
none-calm t begin from to i run above less =
    let calm : AreCalm t i to = λ k more below. run.calm k (omega arith) below in
    let here = loose t i (calm i (omega arith) less) in
    let none : (e : ℕ) → IsBarred t i e → piece_at false false t begin i ≡ None = λ e bar. no-piece-barred t begin i e bar
    (unmarked t i (absent is_loose t i 42 here refl) (absent is_loose t i 96 here refl) (calm-target t i (calm i (omega arith) less)) (absent is_loose t i 124 here refl) (absent is_loose t i 58 here refl))
    (no-label t i (absent is_loose t i 91 here refl)) in
    ⊎_elim
    (λ inside. none (to - 1) (bars-calm t i (to - 1) (omega arith) (λ k more below. calm k more (omega arith)) (λ before. other (get_or t (to - 1) 0) (run.edge (omega arith) inside))))
    (λ end. none to (bars-calm t i to (omega arith) (AreCalm-past t i to calm end) (λ before. absurd (omega arith))))
    (cases_lt to (length t))

-- ---- the bytes of a text

bytes-get : (t : Text) (k : ℕ) → get_or (map byte_of t) k 0 ≡ byte_of (get_or t k 0)
bytes-get [] k = refl
bytes-get (c ∷ cs) zero = refl
bytes-get (c ∷ cs) (suc k) = bytes-get cs k

-- the byte for a byte is itself
pub bytes-of_bytes : (t : Text) → map byte_of (map byte_of t) ≡ map byte_of t
bytes-of_bytes [] = refl
bytes-of_bytes (c ∷ cs) = ap₂ (λ b bs. b ∷ bs) (grind (arith, nat_tests)) (bytes-of_bytes cs)

-- a test finds a character and its byte alike, if it finds all past ASCII alike
alike : (p : ℕ → Bool) → ((c : ℕ) → 128 ≤ c → p c ≡ p 128) → (t bytes : Text) (k : ℕ) → AreBytesOf t bytes → p (get_or t k 0) ≡ p (get_or bytes k 0)
alike p high t bytes k of = sym (by_byte (get_or t k 0)) ∙ ap p (sym (bytes-get t k) ∙ ap (λ l. get_or l k 0) (sym of) ∙ bytes-get bytes k) ∙ by_byte (get_or bytes k 0)
  where
    by_byte : (c : ℕ) → p (byte_of c) ≡ p c
    by_byte c = ⊎_elim (λ low. rw (lt-ltb c 128 low) refl) (λ past. rw (le-ltb c 128 past) (sym (high c past))) (cases_lt c 128)

calm-at_same : (t bytes : Text) (k : ℕ) → AreBytesOf t bytes → is_calm_at t k ≡ is_calm_at bytes k
calm-at_same t bytes k of =
    ap₂ (λ a b. a || b) (alike is_calm (λ c high. grind (arith, nat_tests)) t bytes k of)
    (ap₂ (λ a b. a && b) (alike (λ c. c == 95) (λ c high. grind (arith, nat_tests)) t bytes k of) (alike is_ascii_alphanumeric (λ c high. grind (arith, nat_tests)) t bytes (k + 1) of))

pub long-same : (t bytes : Text) → AreBytesOf t bytes → length bytes ≡ length t
long-same t bytes of = simp length-map at (ap length of)

pub calm-same : (t bytes : Text) (from to : ℕ) → AreBytesOf t bytes → IsCalm bytes from to → IsCalm t from to
calm-same t bytes from to of run =
    let long = long-same t bytes of in
    record {
      above = run.above;
      within = omega (arith, run.within);
      calm = λ k above less. calm-at_same t bytes k of ∙ run.calm k above less;
      edge = λ some inside. alike is_of_name (λ c high. grind (arith, nat_tests)) t bytes (to - 1) of ∙ run.edge some (omega arith);
    }

-- ---- steps

pub calm-scanned : (t bytes : Text) (from place to : ℕ) (escaped : Bool) → AreBytesOf t bytes → IsCalm bytes place to → IsScanned false false t from place escaped → IsScanned false false t from to (escaped && place == to)
calm-scanned t bytes from place to escaped of calm known =
    let run = calm-same t bytes place to of calm in
    record {
      above = omega (arith, known.above, run.above);
      within = run.within;
      none = λ i low less. ⊎_elim (λ before. known.none i low before) (λ past. none-calm t from place to i run past less) (cases_lt i place);
      escaped = escaped-after t from place to escaped known.above run.above known.escaped
          (λ some. differs is_loose (get_or t (to - 1) 0) 92 (loose t (to - 1) (run.calm (to - 1) (omega arith) (omega arith))) refl);
    }
