-- Roles and references.
use Rattle.std.proofs.Common.{◌≡◌, ℕ, ◌+◌, ◌-◌, ◌<◌, ◌≤◌, Bool, true, false, not, cond, Option, Some, None, IfSome, length, option_and_then, option_map, refl, sym, subst, ◌∙◌, arith}
use Rattle.std.proofs.lemmas.Bool.Decides.{nat_tests}
use Rattle.std.proofs.Math.Bool.{and-true}
use Rattle.rst_text.specs.Places.{first_from, last_from, all_from, NoneFrom, IsFirst, IsLast}
use Rattle.rst_text.proofs.PlacesLemmas.{first_from-IsFirst, NoneFrom-join, last_from-is, last_from-IsLast, IsLast-new, IsLast-one, all_from-at, all_from-all, all_from-more, all_from-stop}
use Rattle.rst_text.specs.Characters.{Text, has, is_alnum_at}
use Rattle.rst_inline_scan.specs.Tails.{name_tail}
use Rattle.rst_text.specs.SimpleNames.{is_name_at, name_stop}
use Rattle.rst_inline_scan.specs.Names.{after_colon, role_end, ends_name, is_reference, name_end, reference_piece, reference_to, reference}
use Rattle.rst_inline_scan.specs.declared.piece.Tail.{Tail}
use Rattle.rst_inline_scan.proofs.FitLemmas.{Fit, Fit-none, Fit-some, has-lt, TailFits, name_tail-fits}
use Rattle.rst_text.proofs.Choices.{some_is, none_is, either, chosen}

-- ---- simple names

first-above : (p : ℕ → Bool) (low high : ℕ) (r : Option ℕ) → IsFirst p low high r → IfSome r (λ e. low ≤ e)
first-above p low high (Some e) h = h.0
first-above p low high None h = tt

pub name_stop-fits : (t : Text) (i : ℕ) → IfSome (name_stop t i) (λ e. i ≤ e)
unfolding name_stop
name_stop-fits t i = either (is_alnum_at t i) (first_from (λ k. not (is_name_at t k)) i (length t - i)) None (λ r. IfSome r (λ e. i ≤ e))
    (λ alnum. first-above _ i _ _ (first_from-IsFirst (λ k. not (is_name_at t k)) i (length t - i))) tt

-- ---- roles

after_colon-fits : (t : Text) (i : ℕ) (r : Option ℕ) (e : ℕ) → IfSome r (λ s. i ≤ s) → option_and_then (after_colon t) r ≡ Some e → (i < e) × (e ≤ length t)
after_colon-fits t i (Some s) e h k =
    let found = chosen (has t s 58) (Some (s + 1)) e k in
    let less : s < length t = has-lt t s 58 found.0 in
    let same : s + 1 ≡ e = some_is found.1 in
    (omega arith, omega arith)
after_colon-fits t i None e h k = absurd (none_is k)

pub role_end-fits : (t : Text) (i e : ℕ) → role_end t i ≡ Some e → (i < e) × (e ≤ length t)
unfolding role_end
role_end-fits t i e h =
    let found = after_colon-fits t (i + 1) (name_stop t (i + 1)) e (name_stop-fits t (i + 1)) (chosen (has t i 58) (option_and_then (after_colon t) (name_stop t (i + 1))) e h).1 in
    (omega (arith, found.0), found.1)

-- ---- references

pub is_reference-here : (t : Text) (i j : ℕ) → is_alnum_at t i ≡ true → all_from (is_name_at t) i (j - i) ≡ true → is_reference t i j ≡ ends_name t j
unfolding is_reference
is_reference-here t i j a b = rw (a, b) (and-true (ends_name t j))

pub is_reference-past : (t : Text) (i j : ℕ) → all_from (is_name_at t) i (j - i) ≡ false → is_reference t i j ≡ false
unfolding is_reference
is_reference-past t i j b = rw b (grind (arith, nat_tests))

pub is_reference-none : (t : Text) (i j : ℕ) → is_alnum_at t i ≡ false → is_reference t i j ≡ false
unfolding is_reference
is_reference-none t i j a = rw a (grind (arith, nat_tests))

pub no-underscore : (t : Text) (j : ℕ) → has t j 95 ≡ false → ends_name t j ≡ false
unfolding ends_name name_tail
no-underscore t j h = rw h (grind (arith, nat_tests))

pub not_reference : (t : Text) (i j : ℕ) → ends_name t j ≡ false → is_reference t i j ≡ false
unfolding is_reference
not_reference t i j e = rw e (grind (arith, nat_tests))

-- a run of name characters from i up to the place, and the greatest end of a reference's name that is in it, at its end or before
pub record IsNamed (t : Text) (i place : ℕ) (found : Option ℕ) : Type 0 where
  pub above : i ≤ place
  pub below : place < length t
  pub alnum : is_alnum_at t i ≡ true
  pub names : all_from (is_name_at t) i (place - i) ≡ true
  pub last : IsLast (is_reference t i) (i + 1) (place + 1) found

pub named-start : (t : Text) (i : ℕ) → i < length t → is_alnum_at t i ≡ true → IsNamed t i i None
named-start t i below alnum = record { above = omega arith; below = below; alnum = alnum; names = all_from-all (is_name_at t) i (i - i) (λ k low high. absurd (omega arith)); last = λ k low high. absurd (omega arith) }

-- one place more, where a name ends or doesn't
pub named-more : (t : Text) (i place : ℕ) (found : Option ℕ) (b : Bool) → IsNamed t i place found → place + 1 < length t → is_name_at t place ≡ true → ends_name t (place + 1) ≡ b
    → IsNamed t i (place + 1) (cond b (Some (place + 1)) found)
named-more t i place found b run below name ends =
    let above = run.above in
    let names = all_from-more (is_name_at t) i place above run.names name in
    let here = is_reference-here t i (place + 1) run.alnum names ∙ ends in
    record { above = omega arith; below = below; alnum = run.alnum; names = names; last = last b here }
  where
    last : (b : Bool) → is_reference t i (place + 1) ≡ b → IsLast (is_reference t i) (i + 1) (place + 1 + 1) (cond b (Some (place + 1)) found)
    last true here = IsLast-new (is_reference t i) (i + 1) (place + 1) (let above = run.above in omega arith) here
    last false here = IsLast-one (is_reference t i) (i + 1) (place + 1) found here run.last

-- where the run ends, or only the last character is left
pub record IsNameEnd (t : Text) (i place : ℕ) (found : Option ℕ) : Type 0 where
  pub exact : found ≡ name_end t i
  pub within : IfSome found (λ end. end < length t)
  pub reach : found ≡ None → (j : ℕ) → i ≤ j → j < place → name_end t j ≡ None

last-more : (p : ℕ → Bool) (low high top : ℕ) (r : Option ℕ) → high ≤ top → NoneFrom p high top → IsLast p low high r → IsLast p low top r
last-more p low high top (Some k) order none h = (h.0, omega (arith, h.1), h.2, NoneFrom-join p (k + 1) high top h.3 none)
last-more p low high top None order none h = NoneFrom-join p low high top h none

last-below : (p : ℕ → Bool) (low high : ℕ) (r : Option ℕ) → IsLast p low high r → IfSome r (λ end. end < high)
last-below p low high (Some k) h = h.1
last-below p low high None h = tt

pub named-end : (t : Text) (i place : ℕ) (found : Option ℕ) → IsNamed t i place found → (place + 1 < length t → is_name_at t place ≡ false) → IsNameEnd t i place found
unfolding name_end
named-end t i place found run stop =
    let above = run.above in
    let below = run.below in
    let past : (j : ℕ) → j ≤ place → NoneFrom (is_reference t j) (place + 1) (length t) = λ j order k more less.
    is_reference-past t j k (all_from-stop (is_name_at t) j place k order (omega arith) (stop (omega arith))) in
    let whole = last-more (is_reference t i) (i + 1) (place + 1) (length t) found (omega arith) (past i above) run.last in
    let no_end : IsLast (is_reference t i) (i + 1) (place + 1) None → NoneFrom (ends_name t) (i + 1) (place + 1) = λ none k more less.
    sym (is_reference-here t i k run.alnum (all_from-all (is_name_at t) i (k - i) (λ n a b. all_from-at (is_name_at t) i (place - i) run.names n a (omega arith)))) ∙ none k more less in
    record {
      exact = last_from-is (is_reference t i) (i + 1) (length t) found whole;
      within = last-below (is_reference t i) (i + 1) (length t) found whole;
      reach = λ none j from to. sym (last_from-is (is_reference t j) (j + 1) (length t) None (NoneFrom-join (is_reference t j) (j + 1) (place + 1) (length t)
          (λ k more less. not_reference t j k (no_end (subst (IsLast (is_reference t i) (i + 1) (place + 1)) none run.last) k (omega arith) less)) (past j (omega arith))));
    }

-- ---- the piece

reference_piece-fits : (t : Text) (i j : ℕ) (r : Option Tail) → i < j → TailFits t j r → Fit t i (option_map (reference_piece i j) r)
reference_piece-fits t i j (Some tail) some fits =
    let within = fits tail refl in
    let above : j ≤ tail.to = within.0 in
    Fit-some t i _ (record { begins = refl; some = omega arith; within = within.1; above = omega arith; order = omega arith; limit = above })
reference_piece-fits t i j None some fits = Fit-none t i

reference_to-fits : (t : Text) (i high : ℕ) (r : Option ℕ) → IsLast (is_reference t i) (i + 1) high r → Fit t i (option_and_then (reference_to t i) r)
reference_to-fits t i high (Some j) h = let above : i + 1 ≤ j = h.0 in reference_piece-fits t i j (name_tail t j) (omega arith) (name_tail-fits t j)
reference_to-fits t i high None h = Fit-none t i

pub reference-fits : (t : Text) (i : ℕ) → Fit t i (reference t i)
unfolding reference name_end
reference-fits t i = reference_to-fits t i (i + 1 + (length t - (i + 1))) (last_from (is_reference t i) (i + 1) (length t - (i + 1))) (last_from-IsLast (is_reference t i) (i + 1) (length t - (i + 1)))
