-- Properties of texts that cutting, joining, unescaping and making names keep.
use Rattle.std.proofs.Common.{◌≡◌, ℕ, ◌≤◌, Bool, true, List, [], ◌∷◌, ◌++◌, take, drop, arith, refl, sym, ap, ◌∙◌}
use Rattle.std.specs.Prelude.{◌==◌, nat_le, encode_utf8_all, filter}
use Rattle.std.specs.List.{AllByRecursion, list_all, join_with_byte, slice_split, onto_first}
use Rattle.std.specs.Str.{chars, all_scalars, trim, trim_end, trim_start}
use Rattle.std.proofs.lemmas.Bool.{and_parts, and_from, cond_both}
use Rattle.std.proofs.lemmas.Str.{chars-encodes, encode_ascii, encodes-append}
use Rattle.unicode.specs.CaseFolding.{simple_fold}
use Rattle.rst_text.specs.Characters.{Text, is_white}
use Rattle.rst_text.specs.Escapes.{unescaped}
use Rattle.rst_text.specs.Names.{name_in, normalized_white, name_of, words_of}
use Rattle.rst_tree_laws.proofs.Cuts.{dropped_kept, skipped_kept, split_spelled}
use Rattle.rst_tree_laws.proofs.Lists.{all_append, all_drop, all_map, all_take}
use Rattle.rst_tree_laws.specs.Texts.{Kept, Spells, Suits, is_fixed}
use borrow.Author.Tests.{leb-true}

pub all_filter : {A : Type 0} (Q : A → Type 0) (test : A → Bool) (xs : List A) → AllByRecursion Q xs → AllByRecursion Q (filter test xs)
all_filter Q test [] h = tt
all_filter Q test (x ∷ xs) h = cond_both (test x) _ _ (AllByRecursion Q) (λ e. (h.0, all_filter Q test xs h.1)) (λ e. all_filter Q test xs h.1)

-- the characters of fixed texts are their bytes
fixed_bytes : (t : List ℕ) → list_all is_fixed t ≡ true → t ≡ encode_utf8_all t
fixed_bytes [] e = refl
fixed_bytes (c ∷ cs) e =
    let both = and_parts (is_fixed c) _ e in
    let low = leb-true c 126 (and_parts (nat_le c 126) _ both.0).0 in
    sym (ap (λ bs. bs ++ encode_utf8_all cs) (encode_ascii c (omega (arith, low))) ∙ ap (λ bs. c ∷ bs) (sym (fixed_bytes cs both.1)))

-- ---- of characters

module _ (P : ℕ → Bool) where
  pub part_kept : (t : Text) (low high : ℕ) → Kept P t → Kept P (drop low (take high t))
  part_kept t low high h = all_drop _ low (take high t) (all_take _ high t h)

  pub unescaped_kept : (cs : Text) → Kept P cs → Kept P (unescaped cs)
  unescaped_kept [] h = tt
  unescaped_kept (c ∷ []) h = cond_both (c == 92) [] (c ∷ []) (Kept P) (λ e. tt) (λ e. h)
  unescaped_kept (c ∷ d ∷ cs) h =
      cond_both (c == 92) _ _ (Kept P)
      (λ e. cond_both (is_white d) _ _ (Kept P) (λ i. unescaped_kept cs h.1.1) (λ i. (h.1.0, unescaped_kept cs h.1.1))) (λ e. (h.0, unescaped_kept (d ∷ cs) h.1))

  pub onto_kept : (c : ℕ) (parts : List Text) → P c ≡ true → AllByRecursion (Kept P) parts → AllByRecursion (Kept P) (onto_first c parts)
  onto_kept c [] p h = ((p, tt), tt)
  onto_kept c (part ∷ parts) p h = ((p, h.0), h.1)

  pub split_kept : (test : ℕ → Bool) (cs : Text) → Kept P cs → AllByRecursion (Kept P) (slice_split test cs)
  split_kept test [] h = (tt, tt)
  split_kept test (c ∷ cs) h = cond_both (test c) _ _ (AllByRecursion (Kept P)) (λ e. (tt, split_kept test cs h.1)) (λ e. onto_kept c (slice_split test cs) h.0 (split_kept test cs h.1))

  pub join_kept : (c : ℕ) (parts : List Text) → P c ≡ true → AllByRecursion (Kept P) parts → Kept P (join_with_byte c parts)
  join_kept c [] p h = tt
  join_kept c (part ∷ []) p h = h.0
  join_kept c (part ∷ next ∷ parts) p h = all_append _ part _ h.0 (p, join_kept c (next ∷ parts) p h.1)

-- ---- of texts

-- A property that texts have whose characters pass a test, and how it is kept. What is said of the texts of trees is said of any property of this kind.
pub record Suited (P : ℕ → Bool) (T : List ℕ → Type 0) : Type 0 where
  pub fixed : (c : ℕ) → is_fixed c ≡ true → P c ≡ true
  pub folds : (c : ℕ) → P c ≡ true → P (simple_fold c) ≡ true
  pub encoded : (cs : Text) → Kept P cs → T (encode_utf8_all cs)
  pub decoded : (t : List ℕ) → T t → Kept P (chars t)
  pub append : (t u : List ℕ) → T t → T u → T (t ++ u)
  pub split : (c : ℕ) (t : List ℕ) → c ≤ 127 → T t → AllByRecursion T (slice_split (λ x. x == c) t)

pub scalars_kept : (P : ℕ → Bool) → Suits P → (cs : Text) → Kept P cs → all_scalars cs ≡ true
scalars_kept P s [] h = refl
scalars_kept P s (c ∷ cs) h = and_from _ _ (s.scalar c h.0) (scalars_kept P s cs h.1)

-- of texts whose characters pass a test
pub spelled_suited : (P : ℕ → Bool) → Suits P → Suited P (Spells P)
spelled_suited P s = record {
  fixed = s.fixed;
  folds = s.folds;
  encoded = λ cs h. (cs, refl, h);
  decoded = chars_kept;
  split = split_spelled P;
  append = λ t u h k. (h.0 ++ k.0, rw (h.1, k.1) (sym (encodes-append h.0 k.0)), all_append _ h.0 k.0 h.2 k.2);
}
  where
    chars_kept : (t : List ℕ) → Spells P t → Kept P (chars t)
    chars_kept t (cs, e, h) = rw (e, chars-encodes cs (scalars_kept P s cs h)) h

module _ (P : ℕ → Bool) (T : List ℕ → Type 0) (s : Suited P T) where
  pub normalized_kept : (cs : Text) → Kept P cs → Kept P (normalized_white cs)
  unfolding normalized_white
  normalized_kept cs h = join_kept P 32 (words_of cs) (s.fixed 32 refl) (all_filter (Kept P) _ (slice_split is_white cs) (split_kept P is_white cs h))

  pub name_kept : (cs : Text) → Kept P cs → Kept P (name_of cs)
  unfolding name_of
  name_kept cs h = all_map _ _ simple_fold s.folds (normalized_white cs) (normalized_kept cs h)

  fixed_kept : (t : List ℕ) → list_all is_fixed t ≡ true → Kept P t
  fixed_kept [] e = tt
  fixed_kept (c ∷ cs) e = let both = and_parts (is_fixed c) _ e in (s.fixed c both.0, fixed_kept cs both.1)

  pub fixed_has : (t : List ℕ) → list_all is_fixed t ≡ true → T t
  fixed_has t e = rw (fixed_bytes t e) (s.encoded t (fixed_kept t e))

  pub name_has : (cs : Text) → Kept P cs → T (encode_utf8_all (name_of cs))
  name_has cs h = s.encoded (name_of cs) (name_kept cs h)

  pub name_in_has : (t : List ℕ) → T t → T (name_in t)
  name_in_has t h = name_has (chars t) (s.decoded t h)

  pub trimmed_has : (t : List ℕ) → T t → T (trim t)
  unfolding trim_start trim_end
  trimmed_has t h = s.encoded _ (dropped_kept P _ (s.decoded _ (s.encoded _ (skipped_kept P _ (s.decoded t h)))))
