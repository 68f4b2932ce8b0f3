-- What registration needs of a node stays, where its classes change.
use Rattle.std.proofs.Common.{◌≡◌, ℕ, ◌∙◌, ◌++◌, true, false, List, [], ◌∷◌, refl, sym, ap, true≢false}
use Rattle.std.specs.Prelude.{◌||◌, if◌then◌else◌, map, nat_lt}
use Rattle.rst_tree.specs.Attributes.{attr, value_of, with_attr, without_key}
use Rattle.rst_tree.specs.KeyNames.{key_code, is_same}
use Rattle.rst_tree.specs.declared.attrs.Attr.{Attr}
use Rattle.rst_tree.specs.declared.attrs.Value.{Value}
use Rattle.rst_tree.specs.declared.attrs.Value.TheVariants.{List as Listed}
use Rattle.rst_tree.specs.declared.key.Key.{Key}
use Rattle.rst_tree.specs.declared.key.Key.TheVariants.{Classes, Message, OwnName}
use Rattle.rst_tree.specs.declared.node.Node.{Node}
use Rattle.rst_tree.specs.declared.node.Node.TheVariants.{Element, Text}
use Rattle.rst_tree_index.specs.Classes.{classes_in, with_classes}
use Rattle.rst_tree_index.specs.Marks.{marks_of, path_of, places}
use Rattle.rst_tree_index.specs.Registered.{has_registered_key, is_registered, is_registered_key, is_registered_kind}

no_key : (k : Key) → is_same k Classes ≡ true → is_registered_key k ≡ false
no_key OwnName same = absurd (true≢false (sym same))
no_key Message same = absurd (true≢false (sym same))
no_key k same = refl

key_stays : (v : Value) (xs : List Attr) → has_registered_key (with_attr Classes v xs) ≡ has_registered_key xs
key_stays v [] = refl
key_stays v (a ∷ xs) =
    elim (nat_lt (key_code a.key) (key_code Classes)) as (λ b. has_registered_key (if b then a ∷ with_attr Classes v xs
    else (if is_same a.key Classes then attr Classes v ∷ xs else attr Classes v ∷ a ∷ xs)) ≡ has_registered_key (a ∷ xs)) [
      | true ↦ ap (λ b. is_registered_key a.key || b) (key_stays v xs)
      | false ↦
          elim (is_same a.key Classes) as (λ b. (is_same a.key Classes ≡ b) → has_registered_key (if b then attr Classes v ∷ xs else attr Classes v ∷ a ∷ xs) ≡ has_registered_key (a ∷ xs)) [
            | true ↦ λ e. ap (λ b. b || has_registered_key xs) (sym (no_key a.key e))
            | false ↦ λ e. refl
          ] refl
    ]

key_left : (xs : List Attr) → has_registered_key (without_key Classes xs) ≡ has_registered_key xs
key_left [] = refl
key_left (a ∷ xs) =
    elim (is_same a.key Classes) as (λ b. (is_same a.key Classes ≡ b) → has_registered_key (if b then xs else a ∷ without_key Classes xs) ≡ has_registered_key (a ∷ xs)) [
      | true ↦ λ e. ap (λ b. b || has_registered_key xs) (sym (no_key a.key e))
      | false ↦ λ e. ap (λ b. is_registered_key a.key || b) (key_left xs)
    ] refl

-- its marks are those that it had
pub marks_stay : (more : List (List ℕ)) (n : Node) → marks_of is_registered (with_classes more n) ≡ marks_of is_registered n
marks_stay more (Element t a c l) =
    ap (λ b. (if is_registered_kind t || b then [] ∷ [] else []) ++ map path_of (places is_registered c)) (key_stays (Listed (classes_in (value_of Classes a) ++ more)) (without_key Classes a) ∙ key_left a)
marks_stay more (Text t) = refl
