-- What is measured of definitions, one after the other.
use Rattle.std.proofs.Common.{◌≡◌, ℕ, zero, suc, List, [], ◌∷◌, replicate, refl, subst, ap}
use Rattle.std.specs.Prelude.{slice_get, slice_set, Option, Some, None}
use Rattle.rst_tree.specs.Forest.{Forest}
use Rattle.rst_transform_work.specs.Lists.{at_place}
use Rattle.rst_transform_substitutions.specs.declared.definitions.Definitions.{Definitions}
use Rattle.rst_transform_substitutions.specs.declared.sizes.Measured.{Measured}
use Rattle.rst_transform_substitutions.specs.Sizes.{AreMeasured, IsMeasuredBy}

-- where something is put in a place that had nothing
set_case : (xs : List (Option Measured)) (n p : ℕ) (v x : Measured) → at_place (slice_set xs n (Some v)) p ≡ Some x → (P : Type 0) → (at_place xs p ≡ Some x → P) → (n ≡ p → v ≡ x → P) → P
set_case [] n p v x is P old new = old is
set_case (y ∷ xs) zero zero v x is P old new = new refl (cc)
set_case (y ∷ xs) zero (suc p) v x is P old new = old is
set_case (y ∷ xs) (suc n) zero v x is P old new = old is
set_case (y ∷ xs) (suc n) (suc p) v x is P old new = set_case xs n p v x is P old (λ same. new (ap suc same))

kept : (xs : List (Option Measured)) (n p : ℕ) (v x : Measured) → at_place xs n ≡ None → at_place xs p ≡ Some x → at_place (slice_set xs n (Some v)) p ≡ Some x
kept [] n p v x none is = is
kept (y ∷ xs) zero zero v x none is = absurd (cc)
kept (y ∷ xs) zero (suc p) v x none is = is
kept (y ∷ xs) (suc n) zero v x none is = is
kept (y ∷ xs) (suc n) (suc p) v x none is = kept xs n p v x none is

module _ (known : Definitions) (old : List (Option Measured)) (place : ℕ) (one : Measured) (none : at_place old place ≡ None) where
  still : (content : Forest) (x : Measured) → IsMeasuredBy known old content x → IsMeasuredBy known (slice_set old place (Some one)) content x
  still content x is = (λ more left path above small. is.0 more left path (λ p other at whole low. above p other (kept old place p one other none at) whole low) small, is.1)

  -- one more is measured
  pub measured_more : (content : Forest) → AreMeasured known old → slice_get known.contents.items place ≡ Some content → IsMeasuredBy known old content one → AreMeasured known (slice_set old place (Some one))
  measured_more content are there is = λ p x at.
      let Right : Type 0 = (content : Forest) × (slice_get known.contents.items p ≡ Some content) × IsMeasuredBy known (slice_set old place (Some one)) content x in
      set_case old place p one x at Right (λ before. let it = are p x before in (it.0, it.1, still it.0 x it.2))
      (λ same equal. (content, subst (λ q. slice_get known.contents.items q ≡ Some content) same there, subst (IsMeasuredBy known (slice_set old place (Some one)) content) equal (still content one is)))

none_at : (n p : ℕ) → at_place {A = Measured} (replicate n None) p ≡ None
none_at zero p = refl
none_at (suc n) zero = refl
none_at (suc n) (suc p) = none_at n p

pub none_measured : (known : Definitions) (measured : List (Option Measured)) (n : ℕ) → measured ≡ replicate n None → AreMeasured known measured
none_measured known measured n is = λ place one there. let none : at_place measured place ≡ None = rw is (none_at n place) in absurd (cc)
