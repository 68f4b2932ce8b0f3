-- Names that pass to other elements, one after another.
use Rattle.std.proofs.Common.{◌≡◌, ℕ, List, [], ◌∷◌, ◌++◌, Option, refl, sym, ap₂, subst, ◌∙◌}
use Rattle.std.specs.Prelude.{if◌then◌else◌}
use Rattle.std.specs.Str.{bytes_eq}
use Rattle.rst_transform_names.specs.Names.{entry_named, with_holder, AreRegistered, Knows}
use Rattle.rst_transform_names.specs.declared.names.NameEntry.{NameEntry}
use Rattle.rst_transform_names.specs.declared.names.Holder.{Holder}
use Rattle.rst_transform_names.specs.declared.names.Names.{Names}
use Rattle.rst_transform_structure.specs.Passing.{holder_of, passed, Passes}

passed-append : (xs ys : List (List ℕ × Option ℕ)) (entries : List ℕ → Option NameEntry) → passed (xs ++ ys) entries ≡ passed ys (passed xs entries)
passed-append [] ys entries = refl
passed-append (x ∷ xs) ys entries = passed-append xs ys _

-- names pass, and then others
pub Passes-then : (xs ys : List (List ℕ × Option ℕ)) (a b c : Names) → Passes xs a b → Passes ys b c → Passes (xs ++ ys) a c
Passes-then xs ys a b c h k entries are = subst (λ f. AreRegistered c f) (sym (passed-append xs ys entries)) (k (passed xs entries) (h entries are))

-- one name passes
Passes-one : (y : List ℕ) (number : Option ℕ) (b c : Names) → Knows y (with_holder (holder_of number) (entry_named b y)) b c → Passes ((y, number) ∷ []) b c
Passes-one y number b c k entries are name = k name ∙ ap₂ (λ p q. if bytes_eq name y then with_holder (holder_of number) p else q) (are y) (are name)

-- names pass, and then one more, by what the call is given
pub Passes-more : (xs : List (List ℕ × Option ℕ)) (x : List ℕ × Option ℕ) (y : List ℕ) (w : Holder) (a b c : Names) → Passes xs a b → y ≡ x.0 → w ≡ holder_of x.1 → Knows y (with_holder w (entry_named b y)) b c
    → Passes (xs ++ x ∷ []) a c
Passes-more xs x y w a b c h is by k =
    let k1 : Knows y (with_holder (holder_of x.1) (entry_named b y)) b c = subst (λ u. Knows y (with_holder u (entry_named b y)) b c) by k in
    let k2 : Knows x.0 (with_holder (holder_of x.1) (entry_named b x.0)) b c = subst (λ v. Knows v (with_holder (holder_of x.1) (entry_named b v)) b c) is k1 in
    Passes-then xs (x ∷ []) a b c h (Passes-one x.0 x.1 b c k2)
