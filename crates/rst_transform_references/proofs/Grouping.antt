-- The references to each target, one reference after another.
use Rattle.std.proofs.Common.{◌≡◌, ◌∙◌, ℕ, ◌+◌, ◌<◌, List, [], ◌∷◌, ◌++◌, length, map, get_or, refl, sym, ap, ap₂, arith, inl, inr, append-nil}
use Rattle.std.specs.Prelude.{filter, slice_set, if◌then◌else◌, Option, Some, None}
use Rattle.std.specs.List.{range_with_len}
use Rattle.std.specs.declared.vec.Vec.{Vec}
use Rattle.std.proofs.lemmas.Bool.{cases_eq, eq-eqb, ne_eqb}
use Rattle.std.proofs.lemmas.List.{get_or-map, get_or-set_other, get_or-set_same, length-map, length-set, map-set}
use Rattle.std.proofs.lemmas.List.Elements.{filter-append}
use Rattle.std.proofs.lemmas.List.FromFn.{fill_by_all, get_or-map-range_with_len, length-map-range_with_len}
use Rattle.rst_transform_work.specs.Lists.{at_place}
use Rattle.rst_transform_references.specs.Indirect.{is_this_place, lists_now, with_reference}
use Rattle.rst_transform_references.proofs.Each.{range_more}

-- the references to a target that are before a place
abbrev pub found : List (Option ℕ) → ℕ → ℕ → List ℕ
found targets place target = filter (λ p. is_this_place target (at_place targets p)) (range_with_len 0 place)

found_more : (targets : List (Option ℕ)) (place target : ℕ) → found targets (place + 1) target ≡ found targets place target ++ (if is_this_place target (at_place targets place) then place ∷ [] else [])
found_more targets place target =
    ap (filter (λ p. is_this_place target (at_place targets p))) (range_more 0 place place (omega arith)) ∙ filter-append (λ p. is_this_place target (at_place targets p)) (range_with_len 0 place) (place ∷ [])

with_length : (meant : Option ℕ) (place : ℕ) (lists : List (List ℕ)) → length (with_reference meant place lists) ≡ length lists
with_length None place lists = refl
with_length (Some target) place lists = length-set lists target (get_or lists target [] ++ place ∷ [])

with_at : (meant : Option ℕ) (place target : ℕ) (lists : List (List ℕ)) → target < length lists → get_or (with_reference meant place lists) target [] ≡ get_or lists target [] ++ (if is_this_place target meant then place ∷ [] else [])
with_at None place target lists within = sym (append-nil (get_or lists target []))
with_at (Some other) place target lists within =
    elim (cases_eq other target) [
      | inl is ↦
          let here : get_or (slice_set lists other (get_or lists other [] ++ place ∷ [])) target [] ≡ get_or lists other [] ++ place ∷ [] =
          ap (λ n. get_or (slice_set lists other (get_or lists other [] ++ place ∷ [])) n []) (sym is) ∙ get_or-set_same lists other (get_or lists other [] ++ place ∷ []) [] (omega (arith, within, is)) in
          rw (eq-eqb other target is) (here ∙ ap (λ n. get_or lists n [] ++ place ∷ []) is)
      | inr differs ↦
          rw (ne_eqb other target differs) (get_or-set_other lists other target (get_or lists other [] ++ place ∷ []) [] (λ same. differs (sym same)) ∙ sym (append-nil (get_or lists target [])))
    ]

pub found_with : (targets : List (Option ℕ)) (place : ℕ) (meant : Option ℕ) → meant ≡ at_place targets place
    → with_reference meant place (map (found targets place) (range_with_len 0 (length targets))) ≡ map (found targets (place + 1)) (range_with_len 0 (length targets))
found_with targets place meant is =
    let lists : List (List ℕ) = map (found targets place) (range_with_len 0 (length targets)) in
    let long : length lists ≡ length targets = length-map-range_with_len (found targets place) 0 (length targets) in
    fill_by_all (found targets (place + 1)) (with_reference meant place lists) (length targets) [] (with_length meant place lists ∙ long) (λ target within.
    with_at meant place target lists (omega (arith, within, long)) ∙ ap₂ (λ list m. list ++ (if is_this_place target m then place ∷ [] else [])) (get_or-map-range_with_len (found targets place) 0 (length targets) target target [] within (omega arith)) is ∙ sym (found_more targets place target))

-- one more place in a list
pub one_referred : {A : Type 0} (lists : List (Vec ℕ A)) (target place : ℕ) (list more : Vec ℕ A) → target < length lists → list ≡ get_or lists target list → more.items ≡ list.items ++ place ∷ []
    → lists_now (slice_set lists target more) ≡ slice_set (lists_now lists) target (get_or (lists_now lists) target [] ++ place ∷ [])
one_referred lists target place list more within at is =
    map-set (λ list. list.items) lists target more ∙ ap (slice_set (lists_now lists) target) (is ∙ ap (λ l. l ++ place ∷ []) (ap (λ l. l.items) at ∙ sym (get_or-map (λ list. list.items) lists target list [] within)))

-- the list at a place, where each is a function of its place
pub list_at : {A : Type 0} (f : ℕ → List ℕ) (n : ℕ) (lists : List (Vec ℕ A)) (place : ℕ) (one : Vec ℕ A) → lists_now lists ≡ map f (range_with_len 0 n) → place < length lists → one ≡ get_or lists place one → one.items ≡ f place
list_at f n lists place one is within at =
    let same : length lists ≡ n = sym (length-map lists (λ list. list.items)) ∙ ap length is ∙ length-map-range_with_len f 0 n in
    ap (λ list. list.items) at ∙ sym (get_or-map (λ list. list.items) lists place one [] within) ∙ ap (λ (ls : List (List ℕ)). get_or ls place []) is ∙ get_or-map-range_with_len f 0 n place place [] (omega (arith, within, same)) (omega arith)

pub lists_length : {A : Type 0} (f : ℕ → List ℕ) (n : ℕ) (lists : List (Vec ℕ A)) → lists_now lists ≡ map f (range_with_len 0 n) → length lists ≡ n
lists_length f n lists is = sym (length-map lists (λ list. list.items)) ∙ ap length is ∙ length-map-range_with_len f 0 n
