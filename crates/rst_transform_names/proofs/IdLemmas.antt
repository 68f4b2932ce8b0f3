-- Ids, as they are given and taken.
use Rattle.std.proofs.Common.{◌≡◌, ◌≢◌, ℕ, zero, suc, ◌+◌, ◌^◌, ◌<◌, Bool, true, false, not, ◌||◌, List, [], ◌∷◌, length, Option, Some, None, option_map, unwrap_or, nat_eq, nat_le, nat_lt, map, ◌-◌, bytes_eq, Result, Ok, Err, ◌≤◌, refl, sym, ap, ap₂, subst, ◌∙◌, arith, string_bytes, string_cmp, nat_cmp, ⊎_elim, ltb-true, le-leb, leb-true, leb-false, ltb-false, true≢false, Global}
use Rattle.std.specs.Prelude.{if◌then◌else◌}
use Rattle.std.specs.declared.string.String.{String}
use Rattle.std.specs.BTreeMap.{BTreeMap, get_by_text, is_at}
use Rattle.std.specs.BTreeSet.{BTreeSet, btree_set_len, contains_text, UpdatesBy}
use Rattle.std.specs.List.{list_any}
use Rattle.std.specs.Cmp.Lexicographic.{slice_cmp, nat_list_eq_equiv}
use Rattle.std.proofs.lemmas.List.{length-map}
use Rattle.std.proofs.lemmas.Map.Steps.{le-length_from_below}
use Rattle.std.proofs.lemmas.Map.Text.{btree_set_updates_text, is_eq-slice_cmp}
use Rattle.std.proofs.lemmas.Bool.{lt-leb, eq-eqb, cases_Bool, cond_both, cond-true, cond-false, false_from_ne_true, or_parts, or_right}
use Rattle.std.specs.Cmp.Lexicographic.{bytes_decides}
use Rattle.rst_text.specs.Names.{identifier}
use Rattle.std.specs.declared.alloc.AllocError.{AllocError}
use Rattle.rst_tree.specs.declared.tag.Tag.{Tag}
use Rattle.rst_transform_names.specs.declared.ids.Ids.{Ids}
use Rattle.rst_tree.specs.TagNames.{hyphenated, tag_name}
use Rattle.rst_transform_names.specs.Ids.{id_with_number, id_number, last_number, taken_by, has_id, is_taken, id_by, kind_id, least_free, least_failing_from, numbered_id, AreTaken, IsLeastFree, TakesId, TakesNone, GivesId, GivesNumber, GivesNumbered}
use Rattle.rst_transform_names.proofs.IdNumbers.{id_number-id_with_number, some_same, id_number-is}

-- ---- ids taken

-- two ids of which other things are read aren't the same
read_apart : (xs ys : List ℕ) (p q : Option (List ℕ × ℕ)) → id_number xs ≡ p → id_number ys ≡ q → p ≢ q → bytes_eq xs ys ≡ false
read_apart xs ys p q x y apart = false_from_ne_true _ (λ t. apart (sym x ∙ ap id_number ((bytes_decides xs ys).0 t) ∙ y))

-- a text put into a set, and whether it wasn't there
pub added : {Y : Type 0} (old new : BTreeSet (String Y)) (id : List ℕ) → UpdatesBy string_cmp (λ k. slice_cmp nat_cmp id (string_bytes k)) old new true
    → (other : List ℕ) → contains_text new other ≡ (if bytes_eq other id then true else contains_text old other)
added old new id h other = btree_set_updates_text id old new true h other ∙ ap (λ b. if b then true else contains_text old other) (nat_list_eq_equiv.symm id other)

pub was_there : (there free : Bool) → free ≡ not there → there ≡ (if free then false else true)
was_there true free e = rw e refl
was_there false free e = rw e refl

module _ (old new : Ids) (id : List ℕ) where
  -- an id without a number
  pub took_named : id_number id ≡ None → ((other : List ℕ) → contains_text new.named other ≡ (if bytes_eq other id then true else contains_text old.named other))
      → new.hindering ≡ old.hindering → new.last ≡ old.last → TakesId id old new
  took_named none named hindering last other = by (id_number other) refl
    where
      by : (o : Option (List ℕ × ℕ)) → id_number other ≡ o → taken_by new other o ≡ (if bytes_eq other id then true else taken_by old other o)
      by None e = named other
      by (Some p) e =
          let apart = read_apart other id (Some p) None e none (λ s. absurd (cc)) in
          rw (apart, hindering, last) refl

  -- an id with a number above those that were given
  pub took_hindering : (base : List ℕ) (n : ℕ) → id_number id ≡ Some (base, n) → ((other : List ℕ) → contains_text new.hindering other ≡ (if bytes_eq other id then true else contains_text old.hindering other))
      → new.named ≡ old.named → new.last ≡ old.last → TakesId id old new
  took_hindering base n read hindering named last other = by (id_number other) refl
    where
      both : (a b c : Bool) → (a || (if b then true else c)) ≡ (if b then true else (a || c))
      both true true c = refl
      both true false c = refl
      both false b c = refl

      by : (o : Option (List ℕ × ℕ)) → id_number other ≡ o → taken_by new other o ≡ (if bytes_eq other id then true else taken_by old other o)
      by None e =
          let apart = read_apart other id None (Some (base, n)) e read (λ s. absurd (cc)) in
          rw (apart, named) refl
      by (Some p) e = rw (last, hindering other) (both (nat_le p.1 (last_number old p.0)) (bytes_eq other id) (contains_text old.hindering other))

-- nothing is taken with one that was
took_taken : (ids : Ids) (id : List ℕ) → is_taken ids id ≡ true → TakesId id ids ids
took_taken ids id taken other = cond_both _ _ _ (λ z. is_taken ids other ≡ z) (λ t. ap (is_taken ids) ((bytes_decides other id).0 t) ∙ taken) (λ f. refl)

-- the id of a text and a number is taken up to the last number, and where a name gave it
module _ (ids : Ids) (base : List ℕ) (n : ℕ) (some : 0 < n) (small : n < 2 ^ 64) where
  taken_as : (a b : Bool) → nat_le n (last_number ids base) ≡ a → contains_text ids.hindering (id_with_number base n) ≡ b → is_taken ids (id_with_number base n) ≡ (a || b)
  taken_as a b up_to hinders = ap (taken_by ids (id_with_number base n)) (id_number-id_with_number base n some small) ∙ ap₂ (λ x y. x || y) up_to hinders

  pub taken_up_to : n ≤ last_number ids base → is_taken ids (id_with_number base n) ≡ true
  taken_up_to l = taken_as true _ (le-leb n (last_number ids base) l) refl

  pub taken_by_name : contains_text ids.hindering (id_with_number base n) ≡ true → is_taken ids (id_with_number base n) ≡ true
  taken_by_name h = taken_as _ true refl h ∙ or_right (nat_le n (last_number ids base)) true refl

  pub free_after : last_number ids base < n → contains_text ids.hindering (id_with_number base n) ≡ false → is_taken ids (id_with_number base n) ≡ false
  free_after l h = taken_as false false (lt-leb n (last_number ids base) l) h

-- ---- ids that hinder

-- how far the number in an id is above another
abbrev number_past_first : {Y : Type 0} → ℕ → String Y → ℕ
number_past_first first id = unwrap_or (option_map (λ (parts : List ℕ × ℕ). parts.1) (id_number (string_bytes id))) 0 - first

any_mapped : {A : Type 0} (test : A → Bool) (f : A → ℕ) (q : ℕ) → ((x : A) → test x ≡ true → f x ≡ q) → (xs : List A) → list_any test xs ≡ true → list_any (nat_eq q) (map f xs) ≡ true
any_mapped test f q is [] h = absurd (true≢false (sym h))
any_mapped test f q is (x ∷ xs) h = ⊎_elim
    (λ t. ap (λ b. b || list_any (nat_eq q) (map f xs)) (eq-eqb q (f x) (sym (is x t))))
    (λ e. ap (λ b. nat_eq q (f x) || b) (any_mapped test f q is xs (sym (ap (λ b. b || list_any test xs) e) ∙ h)) ∙ or_right (nat_eq q (f x)) true refl) (cases_Bool (test x))

-- each of them hinders one number at most
module _ (ids : Ids) (base : List ℕ) (first count : ℕ) (some : 0 < first) (small : first + count ≤ 2 ^ 64) where
  one_number : {Y : Type 0} (q : ℕ) → q < count → (id : String Y) → is_at (λ (k : String Y). slice_cmp nat_cmp (id_with_number base (first + q)) (string_bytes k)) id ≡ true → number_past_first first id ≡ q
  one_number q less id e =
      let same : id_with_number base (first + q) ≡ string_bytes id = (bytes_decides (id_with_number base (first + q)) (string_bytes id)).0 (sym (is_eq-slice_cmp (id_with_number base (first + q)) (string_bytes id)) ∙ e) in
      let read : id_number (string_bytes id) ≡ Some (base, first + q) = ap id_number (sym same) ∙ id_number-id_with_number base (first + q) (omega arith) (omega arith) in
      ap (λ (o : Option (List ℕ × ℕ)). unwrap_or (option_map (λ (parts : List ℕ × ℕ). parts.1) o) 0 - first) read ∙ omega arith

  no_more_hindered : ((m : ℕ) → first ≤ m → m < first + count → contains_text ids.hindering (id_with_number base m) ≡ true) → count ≤ btree_set_len ids.hindering
  no_more_hindered all =
      subst (λ l. count ≤ l) (length-map ids.hindering.keys (number_past_first first))
      (le-length_from_below (map (number_past_first first) ids.hindering.keys) count (λ q less.
      any_mapped (λ k. is_at (λ k. slice_cmp nat_cmp (id_with_number base (first + q)) (string_bytes k)) k) (number_past_first first) q (one_number q less) ids.hindering.keys (all (first + q) (omega arith) (omega arith))))

-- after the last number of a text all are hindered up to one
module _ (ids : Ids) (base : List ℕ) (first n : ℕ) (next : first ≡ last_number ids base + 1) (from : first ≤ n) (small : n < 2 ^ 64)
    (hindered : (m : ℕ) → first ≤ m → m < n → contains_text ids.hindering (id_with_number base m) ≡ true) where
  pub unhindered : contains_text ids.hindering (id_with_number base n) ≡ false → IsLeastFree (is_taken ids) base n
  unhindered free = record {
    from_one = omega (arith, next);
    is_free = free_after ids base n (omega (arith, next)) small (omega (arith, next)) free;
    is_least = λ m some less. ⊎_elim
        (λ t. taken_up_to ids base m some (omega arith) (leb-true m (last_number ids base) t))
        (λ f. taken_by_name ids base m some (omega arith) (hindered m (omega (arith, next, leb-false m (last_number ids base) f)) less)) (cases_Bool (nat_le m (last_number ids base)));
  }

  -- and these are as many as the ids that hinder
  pub after_all : n ≡ first + btree_set_len ids.hindering → IsLeastFree (is_taken ids) base n
  after_all counted = unhindered (⊎_elim (λ t. absurd (one_too_many t)) (λ f. f) (cases_Bool (contains_text ids.hindering (id_with_number base n))))
    where
      one_too_many : contains_text ids.hindering (id_with_number base n) ≡ true → ⊥
      one_too_many here =
          let within = no_more_hindered ids base first (btree_set_len ids.hindering + 1) (omega (arith, next)) (omega (arith, counted)) (λ m low less. ⊎_elim
          (λ t. hindered m low (ltb-true m n t))
          (λ f. let at : m ≡ n = omega (arith, counted, ltb-false m n f) in ap (λ k. contains_text ids.hindering (id_with_number base k)) at ∙ here) (cases_Bool (nat_lt m n))) in
          omega (arith, within)

-- the least free number of a text, when all ids up to it are taken at once
module _ (old : Ids) (last : BTreeMap (String Global) ℕ) (base : List ℕ) (n : ℕ) (free : IsLeastFree (is_taken old) base n) (small : n < 2 ^ 64)
    (last_is : (other : List ℕ) → unwrap_or (get_by_text last other) 0 ≡ (if bytes_eq other base then n else last_number old other)) where
  abbrev used : Ids
  used = record { named = old.named; last = last; hindering = old.hindering }

  read_id : id_number (id_with_number base n) ≡ Some (base, n)
  read_id = id_number-id_with_number base n free.from_one small

  -- it is after the last one
  is_later : last_number old base < n
  is_later = leb-false n (last_number old base) (or_parts (nat_le n (last_number old base)) _ (sym (ap (taken_by old (id_with_number base n)) read_id) ∙ free.is_free)).0

  abbrev Wanted : List ℕ → Option (List ℕ × ℕ) → Type 0
  Wanted other o = taken_by used other o ≡ (if bytes_eq other (id_with_number base n) then true else taken_by old other o)

  -- the id of another text
  of_other : (other b : List ℕ) (m : ℕ) → id_number other ≡ Some (b, m) → bytes_eq b base ≡ false → Wanted other (Some (b, m))
  of_other other b m e f =
      let apart = read_apart other (id_with_number base n) (Some (b, m)) (Some (base, n)) e read_id (λ s. absurd (true≢false (sym ((bytes_decides b base).1 (ap (λ (q : List ℕ × ℕ). q.0) (some_same (b, m) (base, n) s))) ∙ f))) in
      rw (apart, last_is b ∙ cond-false _ _ _ f) refl

  -- the text's ids up to the number
  up_to : (other : List ℕ) (m : ℕ) → id_number other ≡ Some (base, m) → m ≤ n → Wanted other (Some (base, m))
  up_to other m e low = cond_both (bytes_eq other (id_with_number base n)) _ _ (λ z. taken_by used other (Some (base, m)) ≡ z) (λ t. now) apart
    where
      now : taken_by used other (Some (base, m)) ≡ true
      now = rw (last_is base ∙ cond-true _ _ _ ((bytes_decides base base).1 refl), le-leb m n low) refl

      apart : bytes_eq other (id_with_number base n) ≡ false → taken_by used other (Some (base, m)) ≡ taken_by old other (Some (base, m))
      apart f =
          let is = id_number-is other base m e in
          let below : m < n = ⊎_elim (λ t. ltb-true m n t)
          (λ g.
          let at : m ≡ n = omega (arith, ltb-false m n g) in
          absurd (true≢false (sym ((bytes_decides other (id_with_number base n)).1 (is.0 ∙ ap (id_with_number base) at)) ∙ f))) (cases_Bool (nat_lt m n)) in
          let before : is_taken old other ≡ true = ap (is_taken old) is.0 ∙ free.is_least m is.1 below in
          now ∙ sym (sym (ap (taken_by old other) e) ∙ before)

  -- and those beyond it
  beyond : (other : List ℕ) (m : ℕ) → id_number other ≡ Some (base, m) → n < m → Wanted other (Some (base, m))
  beyond other m e high =
      let apart = read_apart other (id_with_number base n) (Some (base, m)) (Some (base, n)) e read_id (λ s. let at : m ≡ n = ap (λ (q : List ℕ × ℕ). q.1) (some_same (base, m) (base, n) s) in absurd (omega arith)) in
      rw (apart, last_is base ∙ cond-true _ _ _ ((bytes_decides base base).1 refl), lt-leb m n high, lt-leb m (last_number old base) (omega (arith, is_later))) refl

  pub used_up : TakesId (id_with_number base n) old used
  used_up other = by (id_number other) refl
    where
      by : (o : Option (List ℕ × ℕ)) → id_number other ≡ o → Wanted other o
      by None e =
          let apart = read_apart other (id_with_number base n) None (Some (base, n)) e read_id (λ s. absurd (cc)) in
          rw apart refl
      by (Some (b, m)) e = ⊎_elim
          (λ t.
          let at : b ≡ base = (bytes_decides b base).0 t in
          let read : id_number other ≡ Some (base, m) = e ∙ ap (λ l. Some (l, m)) at in
          subst (λ l. Wanted other (Some (l, m))) (sym at) (⊎_elim (λ l. up_to other m read (leb-true m n l)) (λ f. beyond other m read (omega (arith, leb-false m n f))) (cases_Bool (nat_le m n))))
          (λ f. of_other other b m e f) (cases_Bool (bytes_eq b base))

-- ---- the ids that are taken, as a list

module _ (taken : List (List ℕ)) (base : List ℕ) where
  -- which number from one on an id of the text has
  abbrev place : List ℕ → ℕ
  place id = unwrap_or (option_map (λ (parts : List ℕ × ℕ). parts.1) (id_number id)) 0 - 1

  place_is : (q : ℕ) → q + 1 < 2 ^ 64 → (id : List ℕ) → bytes_eq (id_with_number base (q + 1)) id ≡ true → place id ≡ q
  place_is q small id e =
      let read : id_number id ≡ Some (base, q + 1) =
      ap id_number (sym ((bytes_decides (id_with_number base (q + 1)) id).0 e)) ∙ id_number-id_with_number base (q + 1) (omega arith) small in
      ap (λ (o : Option (List ℕ × ℕ)). unwrap_or (option_map (λ (parts : List ℕ × ℕ). parts.1) o) 0 - 1) read ∙ omega arith

  -- no more numbers are used up than there are ids
  no_more_than_all : (count : ℕ) → count < 2 ^ 64 → ((m : ℕ) → 0 < m → m < count + 1 → has_id taken (id_with_number base m) ≡ true) → count ≤ length taken
  no_more_than_all count small all =
      subst (λ l. count ≤ l) (length-map taken place)
      (le-length_from_below (map place taken) count (λ q less.
      any_mapped (bytes_eq (id_with_number base (q + 1))) place q (place_is q (omega arith)) taken (all (q + 1) (omega arith) (omega arith))))

-- the least number that passes no test is found if enough are tried
least_from_is : (test : ℕ → Bool) (n first count : ℕ) → test n ≡ false → ((m : ℕ) → first ≤ m → m < n → test m ≡ true) → first ≤ n → n ≤ first + count → n ≡ least_failing_from test first count
least_from_is test n first zero free below low high = omega arith
least_from_is test n first (suc more) free below low high = ⊎_elim
    (λ t.
    let other : n ≢ first = λ at. absurd (true≢false (sym t ∙ ap test (sym at) ∙ free)) in
    least_from_is test n (first + 1) more free (λ m above less. below m (omega arith) less) (omega (arith, other)) (omega arith) ∙ sym (cond-true _ _ _ t))
    (λ f. ⊎_elim (λ less. absurd (true≢false (sym (below first (omega arith) (ltb-true first n less)) ∙ f))) (λ no. omega (arith, ltb-false first n no) ∙ sym (cond-false _ _ _ f)) (cases_Bool (nat_lt first n)))
    (cases_Bool (test first))

pub least_free_is : (ids : Ids) (taken : List (List ℕ)) (base : List ℕ) (n : ℕ) → n < 2 ^ 64 → AreTaken ids taken → IsLeastFree (is_taken ids) base n → n ≡ least_free taken base
least_free_is ids taken base n small are free =
    let below : (m : ℕ) → 0 < m → m < n → has_id taken (id_with_number base m) ≡ true = λ m some less. sym (are (id_with_number base m)) ∙ free.is_least m some less in
    let few = no_more_than_all taken base (n - 1) (omega arith) (λ m some less. below m some (omega (arith, free.from_one))) in
    least_from_is (λ m. has_id taken (id_with_number base m)) n 1 (length taken) (sym (are (id_with_number base n)) ∙ free.is_free) below free.from_one (omega (arith, few))

or_is : (b x : Bool) → (if b then true else x) ≡ (b || x)
or_is true x = refl
or_is false x = refl

pub taken_after : (old new : Ids) (id : List ℕ) (taken : List (List ℕ)) → AreTaken old taken → TakesId id old new → AreTaken new (id ∷ taken)
taken_after old new id taken are takes other =
    takes other ∙ ap (λ t. if bytes_eq other id then true else t) (are other) ∙ or_is (bytes_eq other id) (has_id taken other)

pub taken_still : (old new : Ids) (taken : List (List ℕ)) → AreTaken old taken → TakesNone old new → AreTaken new taken
taken_still old new taken are none other = none other ∙ are other

-- ---- ids given

-- nothing is taken with one that was
none_by_taken : (a b : Ids) (id : List ℕ) → is_taken a id ≡ true → TakesId id a b → TakesNone a b
none_by_taken a b id taken takes other = takes other ∙ sym (took_taken a id taken other)

-- a number that is given, and the id of a text with one
pub gives_number : (base : List ℕ) (old new : Ids) (n : ℕ) → n < 2 ^ 64 → IsLeastFree (is_taken old) base n → TakesId (id_with_number base n) old new → GivesNumber base old new (Ok n)
gives_number base old new n small free takes taken are = (least_free_is old taken base n small are free, taken_after old new (id_with_number base n) taken are takes)

pub gives_numbered : (base id : List ℕ) (old new : Ids) (n : ℕ) → n < 2 ^ 64 → id ≡ id_with_number base n → IsLeastFree (is_taken old) base n → TakesId (id_with_number base n) old new
    → GivesNumbered base old new (Ok id)
gives_numbered base id old new n small is free takes taken are =
    (is ∙ ap (id_with_number base) (least_free_is old taken base n small are free), subst (λ i. AreTaken new (i ∷ taken)) (sym is) (taken_after old new (id_with_number base n) taken are takes))

-- no id is wanted
kind_of_nothing : (taken : List (List ℕ)) (tag : Tag) (wanted : List ℕ) → length wanted ≡ 0 → kind_id taken tag ≡ id_by taken tag wanted
kind_of_nothing taken tag [] none = refl
kind_of_nothing taken tag (c ∷ cs) none = absurd (omega (arith, none))

pub gives_kind : (tag : Tag) (name wanted : List ℕ) (old new : Ids) (r : Result (List ℕ) AllocError) → wanted ≡ identifier name → length wanted ≡ 0
    → GivesNumbered (hyphenated (tag_name tag)) old new r → GivesId tag name old new r
gives_kind tag name wanted old new (Ok id) is none h = λ taken are.
    let given = h taken are in (given.0 ∙ kind_of_nothing taken tag wanted none ∙ ap (id_by taken tag) is, given.1)
gives_kind tag name wanted old new (Err refused) is none h = h

-- the id that is wanted, where it is free or taken
by_wanted : (taken : List (List ℕ)) (tag : Tag) (wanted id : List ℕ) → 0 < length wanted → id ≡ (if has_id taken wanted then numbered_id taken wanted else wanted) → id ≡ id_by taken tag wanted
by_wanted taken tag [] id some is = absurd (omega arith)
by_wanted taken tag (c ∷ cs) id some is = is

pub gives_after : (tag : Tag) (name wanted : List ℕ) (old mid new : Ids) (r : Result (List ℕ) AllocError) → wanted ≡ identifier name → 0 < length wanted
    → is_taken old wanted ≡ true → TakesId wanted old mid → GivesNumbered wanted mid new r → GivesId tag name old new r
gives_after tag name wanted old mid new (Ok id) is some was takes h = λ taken are.
    let given = h taken (taken_still old mid taken are (none_by_taken old mid wanted was takes)) in
    (by_wanted taken tag wanted id some (given.0 ∙ sym (cond-true _ _ _ (sym (are wanted) ∙ was))) ∙ ap (id_by taken tag) is, given.1)
gives_after tag name wanted old mid new (Err refused) is some was takes h = λ other. h other ∙ none_by_taken old mid wanted was takes other
