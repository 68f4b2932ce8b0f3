-- There is a free number for each footnote that is to be numbered.
use Rattle.std.proofs.Common.{get_or, ◌≡◌, ℕ, suc, ◌+◌, ◌≤◌, List, [], ◌∷◌, length, refl, sym, ◌∙◌, ap, arith, Bool, true, false, not, codes, nat_eq}
use Rattle.std.specs.Prelude.{if◌then◌else◌, Option, Some, None}
use Rattle.std.specs.List.{cons_option, filter, filter_map, list_any, range_with_len, starts_with}
use Rattle.std.proofs.lemmas.Bool.{and_parts, eqb-true, ne_eqb}
use Rattle.std.proofs.lemmas.Cmp.{nat_eq_equiv}
use Rattle.std.proofs.lemmas.List.Filters.{length-filter_both}
use Rattle.std.proofs.lemmas.List.FromFn.{get_or-range_with_len, length-range_with_len}
use Rattle.std.proofs.lemmas.List.Kept.{AllPairs-filter}
use Rattle.std.proofs.lemmas.Map.Keys.{IsDistinct-from_apart}
use Rattle.std.proofs.lemmas.Map.Made.{length-le_from_is_member}
use Rattle.std.proofs.lemmas.Map.Views.{any-filter_same}
use Rattle.rst_transform_names.specs.Ids.{number_in}
use Rattle.rst_transform_names.proofs.IdNumbers.{no_first}
use Rattle.rst_tree.specs.declared.node.Node.{Node}
use Rattle.rst_transform_references.specs.Orders.{written_label}
use Rattle.rst_transform_references.specs.FootnoteLabels.{free_numbers, is_to_number, is_written, to_number}

-- ---- no more numbers are written than elements have

abbrev numbers_in : List Node → List ℕ
numbers_in = filter_map (λ node. number_in (written_label node))

written_within : (linked : List Node) → length (filter (λ number. is_written number linked) (range_with_len 1 (length linked))) ≤ length (numbers_in linked)
written_within linked =
    let tried : List ℕ = range_with_len 1 (length linked) in
    let found : List ℕ = filter (λ number. is_written number linked) tried in
    length-le_from_is_member nat_eq_equiv found (numbers_in linked)
    (IsDistinct-from_apart nat_eq found (AllPairs-filter (λ x y. nat_eq x y ≡ false) (λ number. is_written number linked) tried (λ i j d low past.
    ne_eqb (get_or tried i d) (get_or tried j d) (λ same. absurd (omega (arith, low, past, length-range_with_len 1 (length linked), same, get_or-range_with_len 1 (length linked) i d (omega (arith, low, past, length-range_with_len 1 (length linked))), get_or-range_with_len 1 (length linked) j d (omega (arith, past, length-range_with_len 1 (length linked)))))))))
    (λ q h. (and_parts (is_written q linked) (list_any (nat_eq q) tried) (sym (any-filter_same (nat_eq q) (λ number. is_written number linked) (is_written q linked) (λ k is. ap (λ number. is_written number linked) (sym (eqb-true q k is))) tried) ∙ h)).0)

-- ---- what is to be numbered was written with no number

no_number : (mark : List ℕ) → starts_with nat_eq mark (codes "#") ≡ true → number_in mark ≡ None
no_number [] h = absurd (cc)
no_number (c ∷ cs) h = no_first (c ∷ cs) (grind (arith, h))

one_more : (b : Bool) (found_number : Option ℕ) (one : Node) (rest : List Node) (numbers : List ℕ) (count : ℕ) → (b ≡ true → found_number ≡ None) → length numbers + length rest ≤ count
    → length (cons_option found_number numbers) + length (if b then one ∷ rest else rest) ≤ suc count
one_more true None one rest numbers count none h = omega (arith, h)
one_more true (Some n) one rest numbers count none h = absurd (let e : Some n ≡ None = none refl in cc)
one_more false None one rest numbers count none h = omega (arith, h)
one_more false (Some n) one rest numbers count none h = omega (arith, h)

numbers_apart : (linked : List Node) → length (numbers_in linked) + length (to_number linked) ≤ length linked
numbers_apart [] = omega arith
numbers_apart (one ∷ more) = one_more (is_to_number one) (number_in (written_label one)) one (to_number more) (numbers_in more) (length more) (no_number (written_label one)) (numbers_apart more)

pub enough : (linked : List Node) → length (to_number linked) ≤ length (free_numbers linked)
enough linked =
    let parts = length-filter_both (λ number. is_written number linked) (λ number. not (is_written number linked)) (λ number. refl) (range_with_len 1 (length linked)) in
    omega (arith, parts, length-range_with_len 1 (length linked), written_within linked, numbers_apart linked)
