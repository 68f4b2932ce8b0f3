-- Chains through indirect targets: as many steps as there are places are enough, since no chain comes to a place that one came to before.
use Rattle.std.proofs.Common.{cond, ◌≡◌, ℕ, zero, suc, ◌+◌, ◌-◌, ◌<◌, ◌≤◌, ◌⊎◌, inl, inr, List, [], ◌∷◌, get_or, length, map, replicate, refl, sym, ◌∙◌, ap, arith}
use Rattle.std.specs.Prelude.{count_by, is_some, slice_set, if◌then◌else◌, Option, Some, None}
use Rattle.std.specs.List.{range_with_len}
use Rattle.std.proofs.lemmas.Bool.{cases_eq, cases_lt}
use Rattle.std.proofs.lemmas.List.{get_or_past, get_or-set_other, get_or-set_same, length-replicate, length-set, places}
use Rattle.std.proofs.lemmas.List.FromFn.{get_or-map-range_with_len, length-map-range_with_len}
use Rattle.std.proofs.lemmas.List.Sums.{count_by-le-length, sum_by-set}
use Rattle.rst_transform_references.specs.declared.chains.Answer.{Answer}
use Rattle.rst_transform_references.specs.declared.chains.Answer.TheVariants.{Circular}
use Rattle.rst_transform_references.specs.declared.chains.Step.{Step}
use Rattle.rst_transform_references.specs.declared.chains.Step.TheVariants.{To, Ends}
use Rattle.rst_transform_references.specs.Chains.{comes_to, next_of, next_on, stopped}
use Rattle.rst_transform_work.specs.Lists.{at_place}

pub at_get : {A : Type 0} (list : List (Option A)) (place : ℕ) → at_place list place ≡ get_or list place None
at_get [] place = refl
at_get (x ∷ xs) zero = refl
at_get (x ∷ xs) (suc place) = at_get xs place

-- how many places a chain came to
abbrev pub number : List (Option ℕ) → ℕ
number = count_by is_some

-- a chain goes on only from a place that none came to
next_from : (start : Option ℕ) (step : Option Step) (next : ℕ) → (if is_some start then None else next_of step) ≡ Some next → (start ≡ None) × (step ≡ Some (To next))
next_from (Some start) step next h = absurd (cc)
next_from None None next h = absurd (cc)
next_from None (Some (Ends answer)) next h = absurd (cc)
next_from None (Some (To other)) next h = (refl, cc)

module _ (steps : List (Option Step)) where
  -- what the chain from a place comes to within some steps, and at all
  abbrev within : ℕ → ℕ → Option Answer
  within n place = comes_to steps n (at_place steps place)

  abbrev pub end : ℕ → Option Answer
  end = within (length steps)

  earlier : (n m : ℕ) (step : Option Step) → m ≤ n → comes_to steps n step ≡ Some Circular → comes_to steps m step ≡ Some Circular
  earlier n m None low is = is
  earlier n m (Some (Ends answer)) low is = is
  earlier n zero (Some (To place)) low is = refl
  earlier zero (suc m) (Some (To place)) low is = absurd (omega (arith, low))
  earlier (suc n) (suc m) (Some (To place)) low is = earlier n m (at_place steps place) (omega (arith, low)) is

  -- A chain from a start, which came to a place after `count` steps. Before it chains came to `before` places. What they come to is known, and to
  -- each of the others this one came after fewer steps.
  pub record Walk (start : ℕ) (starts : List (Option ℕ)) (place : ℕ) : Type 0 where
    pub before : ℕ
    pub count : ℕ
    pub all : length starts ≡ length steps
    pub passed : before + count ≡ number starts
    pub far : (n : ℕ) → within (count + n) start ≡ within n place
    pub each : (p s : ℕ) → get_or starts p None ≡ Some s
        → ((s < start) × ((n : ℕ) → before ≤ n → within n p ≡ end s)) ⊎ ((s ≡ start) × ((j : ℕ) × (j < count) × ((n : ℕ) → within (j + n) start ≡ within n p)))

  module _ (start : ℕ) (starts : List (Option ℕ)) (place : ℕ) (w : Walk start starts place) where
    -- ---- it goes on

    module _ (next : ℕ) (goes : next_on steps starts place ≡ Some next) where
      from : (at_place starts place ≡ None) × (at_place steps place ≡ Some (To next))
      from = next_from (at_place starts place) (at_place steps place) next goes

      here : place < length starts
      here = elim (cases_lt place (length steps)) [
        | inl low ↦ omega (arith, low, w.all)
        | inr past ↦ absurd (let e : None ≡ Some (To next) = sym (get_or_past steps place None past) ∙ sym (at_get steps place) ∙ from.1 in cc)
      ]

      -- it comes to one place more
      pub one_more : (number (slice_set starts place (Some start)) ≡ number starts + 1) × (number (slice_set starts place (Some start)) ≤ length steps)
      one_more =
          let set = sum_by-set (λ (s : Option ℕ). cond (is_some s) 1 0) starts place (Some start) None here in
          (omega (arith, set, ap {B = ℕ} (λ (s : Option ℕ). cond (is_some s) 1 0) (sym (at_get starts place) ∙ from.0)), omega (arith, w.all, count_by-le-length is_some (slice_set starts place (Some start)), length-set starts place (Some start)))

      pub Walk-more : Walk start (slice_set starts place (Some start)) next
      Walk-more = record {
        before = w.before;
        count = w.count + 1;
        all = length-set starts place (Some start) ∙ w.all;
        passed = omega (arith, one_more.0, w.passed);
        far = λ n. ap (λ k. within k start) (omega arith) ∙ w.far (suc n) ∙ ap (comes_to steps (suc n)) from.1;
        each = λ p s is. elim (cases_eq p place) [
          | inl same ↦
              let own : Some start ≡ Some s = sym (get_or-set_same starts place (Some start) None here) ∙ ap (λ i. get_or (slice_set starts place (Some start)) i None) (sym same) ∙ is in
              inr (cc, (w.count, omega arith, λ n. w.far n ∙ ap (within n) (sym same)))
          | inr other ↦ elim (w.each p s (sym (get_or-set_other starts place p (Some start) None other) ∙ is)) [
            | inl known ↦ inl known
            | inr on ↦ inr (on.0, (on.1.0, omega (arith, on.1.1), on.1.2))
          ]
        ];
      }

    -- ---- it stops

    -- at a place that it came to before: it goes round
    round : (next i : ℕ) → at_place steps place ≡ Some (To next) → i < w.count → ((n : ℕ) → within (i + n) start ≡ within n place) → (n : ℕ) → (m : ℕ) × (n ≤ m) × (within m place ≡ Some Circular)
    round next i to low same zero = (0, omega arith, ap (comes_to steps 0) to)
    round next i to low same (suc n) =
        let more = round next i to low same n in
        (w.count - i + more.0, omega (arith, low, more.1), sym (same (w.count - i + more.0)) ∙ ap (λ k. within k start) (omega (arith, low)) ∙ w.far more.0 ∙ more.2)

    module _ (answers : List (Option Answer)) (stops : next_on steps starts place ≡ None) (known : answers ≡ map end (range_with_len 0 start)) where
      after : (n : ℕ) (answer : Option Answer) → number starts ≤ n → ((m : ℕ) → w.before ≤ m → within m place ≡ answer) → within n start ≡ answer
      after n answer low is = ap (λ k. within k start) (omega (arith, low, w.passed)) ∙ w.far (n - w.count) ∙ is (n - w.count) (omega (arith, low, w.passed))

      settled : (step : Option Step) (s : Option ℕ) → at_place steps place ≡ step → at_place starts place ≡ s → (if is_some s then None else next_of step) ≡ None
          → (n : ℕ) → number starts ≤ n → within n start ≡ stopped step s answers
      settled None s to is none n low = after n None low (λ m more. ap (comes_to steps m) to)
      settled (Some (Ends answer)) s to is none n low = after n (Some answer) low (λ m more. ap (comes_to steps m) to)
      settled (Some (To next)) None to is none n low = absurd (cc)
      settled (Some (To next)) (Some s) to is none n low =
          elim (w.each place s (sym (at_get starts place) ∙ is)) [
            | inl old ↦ after n (end s) low old.1 ∙ sym (ap (λ l. get_or l s (Some Circular)) known ∙ get_or-map-range_with_len end 0 start s s (Some Circular) old.0 (omega arith))
            | inr own ↦
                let more = round next own.1.0 to own.1.1 own.1.2 n in
                earlier (w.count + more.0) n (at_place steps start) (omega (arith, more.1)) (w.far more.0 ∙ more.2)
                ∙ sym (get_or_past answers s (Some Circular) (omega (arith, own.0, ap length known, length-map-range_with_len end 0 start)))
          ]

      pub answered : stopped (at_place steps place) (at_place starts place) answers ≡ end start
      answered = sym (settled (at_place steps place) (at_place starts place) refl refl stops (length steps) (omega (arith, w.all, count_by-le-length is_some starts)))

      pub Walk-next : Walk (start + 1) starts (start + 1)
      Walk-next = record {
        before = number starts;
        count = 0;
        all = w.all;
        passed = omega arith;
        far = λ n. ap (λ k. within k (start + 1)) (omega arith);
        each = λ p s is. inl (elim (w.each p s is) [
          | inl old ↦ (omega (arith, old.0), λ n low. old.1 n (omega (arith, low, w.passed)))
          | inr own ↦ (
            omega (arith, own.0),
            λ n low. sym (own.1.2 n) ∙ settled (at_place steps place) (at_place starts place) refl refl stops (own.1.0 + n) (omega (arith, low)) ∙ answered ∙ ap end (sym own.0),
          )
        ]);
      }

  pub Walk-init : (starts : List (Option ℕ)) → starts ≡ replicate (length steps) None → Walk 0 starts 0
  Walk-init starts is = record {
    before = number starts;
    count = 0;
    all = ap length is ∙ length-replicate (length steps) None;
    passed = omega arith;
    far = λ n. ap (λ k. within k 0) (omega arith);
    each = λ p s at. absurd (let e : get_or starts p None ≡ None = rw is (grind (arith, places)) in cc);
  }
