-- A text in which values take the place of keywords consists of its characters and of fixed ones.
use Rattle.std.proofs.Common.{◌≡◌, ℕ, Bool, true, List, [], ◌∷◌, ◌++◌, length, drop, Option, Some, None, refl}
use Rattle.std.specs.Prelude.{◌==◌, nat_lt, chars, codes, option_map, unwrap_or}
use Rattle.std.specs.Char.{is_ascii_alphabetic}
use Rattle.std.specs.List.{AllByRecursion, prefix_len}
use Rattle.std.specs.Option.{IfSome, option_or}
use Rattle.std.proofs.lemmas.Bool.{cond_both}
use Rattle.rst_text.specs.Characters.{Text}
use Rattle.rst_transform_docinfo.specs.declared.keywords.Form.{Form}
use Rattle.rst_transform_docinfo.specs.declared.keywords.Form.TheVariants.{File, Named}
use Rattle.rst_transform_docinfo.specs.Keywords.{behind, behind_name, by_dollars, closed, day_of, end_of, first_date, is_date, line_value, opened, shape, text_without_keywords, valued, with_days, with_values, without_keywords}
use Rattle.rst_tree_laws.specs.Texts.{Kept}
use Rattle.rst_tree_laws.proofs.Lists.{all_append, all_drop, all_map, all_take}
use Rattle.rst_tree_laws.proofs.Properties.{Suited, join_kept, split_kept}

module _ (P : ℕ → Bool) (T : List ℕ → Type 0) (s : Suited P T) where
  abbrev IfKept : Option Text → Type 0
  IfKept o = IfSome o (Kept P)

  or_kept : (o : Option Text) (f : Text → Text) (other : Text) → IfKept o → ((text : Text) → Kept P text → Kept P (f text)) → Kept P other → Kept P (unwrap_or (option_map f o) other)
  or_kept None f other h k g = g
  or_kept (Some text) f other h k g = k text h

  behind_kept : (marks : List ℕ) (text : Text) → Kept P text → IfKept (behind marks text)
  behind_kept [] text h = h
  behind_kept (mark ∷ marks) [] h = tt
  behind_kept (mark ∷ marks) (c ∷ cs) h = cond_both (shape c == mark) _ None IfKept (λ _. behind_kept marks cs h.1) (λ _. tt)

  -- ---- dates

  day_kept : (text : Text) → Kept P text → Kept P (day_of text)
  day_kept text h = all_map _ _ _ (λ c p. cond_both (c == 47) 45 c (λ d. P d ≡ true) (λ _. s.fixed 45 refl) (λ _. p)) _ (all_take _ 10 (drop 6 text) (all_drop _ 6 text h))

  first_kept : (pieces : List Text) → AllByRecursion (Kept P) pieces → IfKept (first_date pieces)
  first_kept [] h = tt
  first_kept (p ∷ []) h = tt
  first_kept (p ∷ q ∷ more) h = cond_both (is_date p) (Some p) None IfKept (λ _. h.0) (λ _. tt)

  days_kept : (pieces : List Text) → AllByRecursion (Kept P) pieces → Kept P (with_days pieces)
  days_kept [] h = tt
  days_kept (p ∷ []) h = h.0
  days_kept (p ∷ q ∷ more) h =
      all_append _ p _ h.0
      (or_kept (first_date (q ∷ more)) (λ date. day_of date ++ with_days more) _ (first_kept (q ∷ more) h.1) (λ date k. all_append _ (day_of date) _ (day_kept date k) (days_kept more h.1.1))
      (s.fixed 36 refl, days_kept (q ∷ more) h.1))

  -- ---- other keywords

  name_kept : (text : Text) → Kept P text → IfKept (behind_name text)
  name_kept text h =
      let letters : ℕ = prefix_len is_ascii_alphabetic text in cond_both (letters == 0) None _ IfKept (λ _. tt) (λ _. behind_kept (codes ": ") (drop letters text) (all_drop _ letters text h))

  opened_kept : (form : Form) (text : Text) → Kept P text → IfKept (opened form text)
  opened_kept File text h = behind_kept (codes "$rcsfile: ") text h
  opened_kept Named [] h = tt
  opened_kept Named (c ∷ cs) h = cond_both (c == 36) _ None IfKept (λ _. name_kept cs h.1) (λ _. tt)

  either_kept : (c : ℕ) (later here : Option Text) → P c ≡ true → IfKept later → IfKept here → IfKept (option_or (option_map (λ more. c ∷ more) later) here)
  either_kept c None here p l h = h
  either_kept c (Some more) here p l h = (p, l)

  closed_kept : (form : Form) (text : Text) → Kept P text → IfKept (closed form text)
  closed_kept form [] h = tt
  closed_kept form (c ∷ cs) h = either_kept c (closed form cs) (behind (end_of form) (c ∷ cs)) h.0 (closed_kept form cs h.1) (behind_kept (end_of form) (c ∷ cs) h)

  valued_kept : (form : Form) (line rest : Text) → Kept P line → Kept P rest → Kept P (valued form line rest)
  valued_kept form line [] h k = h
  valued_kept form line (c ∷ cs) h k = or_kept (closed form cs) (λ more. c ∷ more) line (closed_kept form cs k.1) (λ more g. (k.0, g)) h

  line_kept : (form : Form) (line : Text) → Kept P line → Kept P (line_value form line)
  line_kept form [] h = tt
  line_kept form (c ∷ cs) h =
      or_kept (opened form (c ∷ cs)) (valued form (c ∷ cs)) _ (opened_kept form (c ∷ cs) h) (λ rest k. valued_kept form (c ∷ cs) rest h k) (h.0, line_kept form cs h.1)

  values_kept : (form : Form) (text : Text) → Kept P text → Kept P (with_values form text)
  values_kept form text h = join_kept P 10 _ (s.fixed 10 refl) (all_map _ _ (line_value form) (line_kept form) _ (split_kept P (λ c. c == 10) text h))

  pub keywords_kept : (text : Text) → Kept P text → Kept P (without_keywords text)
  keywords_kept text h =
      cond_both (nat_lt (length (with_days (by_dollars text))) (length text)) _ _ (Kept P) (λ _. days_kept (by_dollars text) (split_kept P (λ c. c == 36) text h))
      (λ _. cond_both (nat_lt (length (with_values File text)) (length text)) _ _ (Kept P) (λ _. values_kept File text h) (λ _. values_kept Named text h))

  pub text_kept : (text : List ℕ) → T text → T (text_without_keywords text)
  text_kept text h = s.encoded _ (keywords_kept (chars text) (s.decoded text h))
