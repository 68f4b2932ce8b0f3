-- The numbers that footnotes were written with, found one after the other.
use mathlib.Core.Bool.{or-false}
use Rattle.std.proofs.Common.{◌≡◌, ℕ, zero, suc, ◌+◌, ◌-◌, ◌<◌, List, [], ◌∷◌, ◌++◌, length, take, get_or, replicate, refl, sym, ◌∙◌, ap, ap₂, arith, Bool, true, false, not, inl, inr, slice_set}
use Rattle.std.specs.Prelude.{if◌then◌else◌, nat_eq, ◌||◌, Option, Some, None}
use Rattle.std.specs.List.{cons_option, filter, list_any, range_with_len, repeat}
use Rattle.std.proofs.lemmas.Bool.{cases_Bool, eqb-false, eqb-true, or_right}
use Rattle.std.proofs.lemmas.List.{append-nil, append_assoc, get_or_default, get_or-set_other, get_or-set_same, length-append, length-replicate, length-set, places}
use Rattle.std.proofs.lemmas.List.Sums.{fold_more}
use Rattle.std.proofs.lemmas.Option.{unwrap_or-slice_get}
use Rattle.rst_tree.specs.declared.node.Node.{Node}
use Rattle.rst_tree.specs.declared.node.Node.TheVariants.{Text}
use Rattle.rst_transform_names.specs.Ids.{number_in}
use Rattle.rst_transform_references.specs.FootnoteLabels.{free_numbers, is_written}
use Rattle.rst_transform_references.specs.Links.{all, node_at}
use Rattle.rst_transform_references.specs.Orders.{written_label}
use Rattle.rst_transform_references.specs.Table.{Links}

-- ---- the numbers that footnotes were written with

-- the numbers with one more that was written, if there is one
abbrev pub with_written : Option ℕ → List Bool → List Bool
with_written None written = written
with_written (Some number) written = slice_set written number true

abbrev pub all_written : List Node → List Bool → List Bool
all_written = all (λ node. with_written (number_in (written_label node)))

-- a number that an element has is found, or was found
written_or_found : (found_number : Option ℕ) (rest : List ℕ) (written : List Bool) (number : ℕ) → number < length written
    → (get_or (with_written found_number written) number false || list_any (nat_eq number) rest) ≡ (get_or written number false || list_any (nat_eq number) (cons_option found_number rest))
written_or_found None rest written number within = refl
written_or_found (Some n) rest written number within =
    elim (cases_Bool (nat_eq number n)) [
      | inl is ↦
          let same : number ≡ n = eqb-true number n is in
          let set : get_or (with_written (Some n) written) number false ≡ true = ap (λ i. get_or (with_written (Some n) written) i false) same ∙ get_or-set_same written n true false (omega (arith, within, same)) in
          rw (set, is, or_right (get_or written number false) true refl) refl
      | inr other ↦ rw (get_or-set_other written n number true false (eqb-false number n other), other) refl
    ]

written_length : (written : List Bool) (found_number : Option ℕ) → length (with_written found_number written) ≡ length written
written_length written None = refl
written_length written (Some n) = length-set written n true

written_all : (linked : List Node) (written : List Bool) → length (all_written linked written) ≡ length written
written_all [] written = refl
written_all (node ∷ more) written = written_all more (with_written (number_in (written_label node)) written) ∙ written_length written (number_in (written_label node))

-- all that were written are found
found : (linked : List Node) (written : List Bool) (number : ℕ) → number < length written → get_or (all_written linked written) number false ≡ (get_or written number false || is_written number linked)
found [] written number within = sym (or-false (get_or written number false))
found (node ∷ more) written number within =
    let own = number_in (written_label node) in
    found more (with_written own written) number (omega (arith, within, written_length written own)) ∙ written_or_found own _ written number within

same_filter : (p q : ℕ → Bool) (n a : ℕ) → ((x : ℕ) → x < a + n → p x ≡ q x) → filter p (range_with_len a n) ≡ filter q (range_with_len a n)
same_filter p q zero a same = refl
same_filter p q (suc n) a same = ap₂ (λ (b : Bool) (l : List ℕ). if b then a ∷ l else l) (same a (omega arith)) (same_filter p q n (a + 1) (λ x low. same x (omega (arith, low))))

pub written_more : (links : Links) (written start : List Bool) (place : ℕ) → written ≡ all_written (take place links.linked) start → place < length links.linked
    → with_written (number_in (written_label (node_at place links))) written ≡ all_written (take (place + 1) links.linked) start
written_more links written start place before within =
    ap₂ (λ node list. with_written (number_in (written_label node)) list) (unwrap_or-slice_get links.linked place (Text [])) before
    ∙ sym (fold_more (λ list node. with_written (number_in (written_label node)) list) start links.linked place (Text []) within)

pub free_are : (linked : List Node) (written : List Bool) → written ≡ all_written linked (replicate (length linked) false ++ false ∷ []) → filter (λ number. not (get_or written number true)) (range_with_len 1 (length written - 1)) ≡ free_numbers linked
free_are linked written is =
    let start : List Bool = replicate (length linked) false ++ false ∷ [] in
    let long : length start ≡ length linked + 1 = length-append (replicate (length linked) false) (false ∷ []) ∙ ap (λ n. n + 1) (length-replicate (length linked) false) in
    let every : length written ≡ length linked + 1 = ap length is ∙ written_all linked start ∙ long in
    let count : length written - 1 ≡ length linked = omega (arith, every) in
    rw count (same_filter (λ number. not (get_or written number true)) (λ number. not (is_written number linked)) (length linked) 1 (λ number low.
    let none : get_or (replicate (length linked) false ++ false ∷ []) number false ≡ false = grind (arith, places) in
    ap not (get_or_default written number true false (omega (arith, low, every)) ∙ ap (λ l. get_or l number false) is ∙ found linked start number (omega (arith, low, long)) ∙ ap (λ b. b || is_written number linked) none)))

-- a text once more, before or after
pub repeat_more : {A : Type 0} (n : ℕ) (xs : List A) → repeat n xs ++ xs ≡ xs ++ repeat n xs
repeat_more zero xs = sym (append-nil xs)
repeat_more (suc n) xs = append_assoc xs (repeat n xs) xs ∙ ap (λ more. xs ++ more) (repeat_more n xs)
