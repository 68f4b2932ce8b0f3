-- Values of attributes that become texts, and the texts of the messages and problematics of transforms.
use Rattle.std.proofs.Common.{◌≡◌, ℕ, zero, suc, Bool, true, List, [], ◌∷◌, ◌++◌, None, Some, refl, sym, subst, ap, ◌∙◌}
use Rattle.std.specs.Prelude.{◌==◌, ◌||◌, slice_get, slice_set, unwrap_or}
use Rattle.std.specs.List.{AllByRecursion, list_all}
use Rattle.std.specs.Option.{IfSome}
use Rattle.std.proofs.lemmas.Bool.{cond_both}
use Rattle.rst_tree.specs.declared.attrs.Attr.{Attr}
use Rattle.rst_tree.specs.declared.attrs.Value.TheVariants.{Text, Number, List as Listed}
use Rattle.rst_tree.specs.declared.key.Key.{Key}
use Rattle.rst_tree.specs.declared.key.Key.TheVariants.{OwnName}
use Rattle.rst_tree.specs.declared.note.Level.{Level}
use Rattle.rst_tree.specs.Attributes.{as_text, value_of}
use Rattle.rst_tree.specs.KeyNames.{is_same, key_code}
use Rattle.rst_transform_work.specs.declared.report.Report.{Report}
use Rattle.rst_transform_work.specs.Known.{Known}
use Rattle.rst_transform_work.specs.Problematics.{problematic, problematic_of, reported_problematic}
use Rattle.rst_transform_work.specs.Reports.{reported}
use Rattle.rst_transform_laws.proofs.Held.{KnownHas}
use Rattle.rst_tree_laws.proofs.Lists.{all_append}
use Rattle.rst_tree_laws.proofs.Properties.{Suited, fixed_has}
use Rattle.rst_tree_laws.specs.Texts.{AttrsHave, NodeHas, ValueHas, becomes_text, is_fixed}
use borrow.Author.Tests.{eqb-true}

pub all_get : {A : Type 0} (Q : A → Type 0) (xs : List A) (i : ℕ) → AllByRecursion Q xs → IfSome (slice_get xs i) Q
all_get Q [] i h = tt
all_get Q (x ∷ xs) zero h = h.0
all_get Q (x ∷ xs) (suc i) h = all_get Q xs i h.1

pub all_set : {A : Type 0} (Q : A → Type 0) (xs : List A) (i : ℕ) (x : A) → Q x → AllByRecursion Q xs → AllByRecursion Q (slice_set xs i x)
all_set Q [] i x h k = tt
all_set Q (y ∷ xs) zero x h k = (h, k.1)
all_set Q (y ∷ xs) (suc i) x h k = (k.0, all_set Q xs i x h k.1)

-- ---- values of attributes

abbrev becomes_at : ℕ → Bool
becomes_at code = code == 1 || code == 28 || code == 30 || code == 32

becomes_by_code : (k : Key) → becomes_text k ≡ becomes_at (key_code k)
becomes_by_code OwnName = refl
becomes_by_code _ = refl

module _ (P : ℕ → Bool) (T : List ℕ → Type 0) (s : Suited P T) where
  pub value_has : (k : Key) (attrs : List Attr) → becomes_text k ≡ true → AttrsHave T attrs → IfSome (as_text (value_of k attrs)) T
  value_has k [] e h = tt
  value_has k (a ∷ more) e h =
      cond_both (is_same a.key k) _ _ (λ v. IfSome (as_text v) T)
      (λ same. elim a.value as (λ v. ValueHas T true v → IfSome (as_text (Some v)) T) [ Text t ↦ λ g. g | Number n ↦ λ g. tt | Listed ts ↦ λ g. tt ]
      (subst (λ b. ValueHas T b a.value) (becomes_by_code a.key ∙ ap becomes_at (eqb-true (key_code a.key) (key_code k) same) ∙ sym (becomes_by_code k) ∙ e) h.0)) (λ _. value_has k more e h.1)

  pub value_or_empty_has : (k : Key) (attrs : List Attr) → becomes_text k ≡ true → AttrsHave T attrs → T (unwrap_or (as_text (value_of k attrs)) [])
  value_or_empty_has k attrs e h = elim (as_text (value_of k attrs)) as (λ o. IfSome o T → T (unwrap_or o [])) [ None ↦ λ g. s.encoded [] tt | Some t ↦ λ g. g ] (value_has k attrs e h)

  -- ---- messages

  pub quoted_has : (before name after : List ℕ) → list_all is_fixed before ≡ true → list_all is_fixed after ≡ true → T name → T (before ++ (name ++ after))
  quoted_has before name after e f h = s.append before _ (fixed_has P T s before e) (s.append name after h (fixed_has P T s after f))

  pub reported_has : (level : Level) (line : ℕ) (text : List ℕ) (own : Bool) (known : Known) → T text → KnownHas T known → KnownHas T (reported level line text own known)
  reported_has level line text own known h k = all_append (λ (r : Report). T r.text) known.reports _ k (h, tt)

  -- ---- problematics

  pub problematic_has : (place : ℕ) (known : Known) → KnownHas T known → AttrsHave T (problematic place known).0 × KnownHas T (problematic place known).1
  problematic_has place known k =
      elim (slice_get known.reports place) as (λ o. IfSome o (λ r. T r.text) → AttrsHave T (problematic_of o place known).0 × KnownHas T (problematic_of o place known).1)
      [ None ↦ λ h. ((tt, tt), k) | Some r ↦ λ h. ((tt, (tt, (tt, tt))), all_set (λ (r : Report). T r.text) known.reports place _ h k) ] (all_get (λ (r : Report). T r.text) known.reports place k)

  pub reported_problematic_has : (place : ℕ) (source : List ℕ) (line : ℕ) (known : Known) → T source → KnownHas T known
      → NodeHas T (reported_problematic place source line known).0 × KnownHas T (reported_problematic place source line known).1
  reported_problematic_has place source line known h k = let done = problematic_has place known k in ((done.0, (h, tt)), done.1)
