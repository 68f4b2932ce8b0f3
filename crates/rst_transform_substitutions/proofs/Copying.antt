-- Two expansions of the same nodes come to the same nodes, if both come to some.
use Rattle.std.proofs.Common.{◌≡◌, ℕ, zero, suc, ◌-◌, ◌++◌, ◌==◌, List, [], ◌∷◌, Bool, true, false, refl, sym, ap, ap₂, ◌∙◌}
use Rattle.std.specs.Prelude.{if◌then◌else◌, nat_le, Option, Some, None, Ok, Err}
use Rattle.std.specs.List.{list_any}
use Rattle.rst_tree.specs.declared.attrs.Attr.{Attr}
use Rattle.rst_tree.specs.declared.node.Node.{Node}
use Rattle.rst_tree.specs.declared.node.Node.TheVariants.{Text}
use Rattle.rst_tree.specs.declared.tag.Tag.{Tag}
use Rattle.rst_tree.specs.Forest.{Forest, bare, element, words}
use Rattle.rst_tree.specs.Nodes.{forest_of}
use Rattle.rst_tree.proofs.Changes.{nodes_of-forest_of}
use Rattle.rst_tree_index.specs.Kinds.{is_substitution_reference}
use Rattle.rst_transform_substitutions.specs.declared.expansion.ExpansionFault.{ExpansionFault}
use Rattle.rst_transform_substitutions.specs.declared.expansion.ExpansionFault.TheVariants.{Circular, TooLarge}
use Rattle.rst_transform_substitutions.specs.Expansion.{after_nodes, copied_element, element_around, entering, expanded_copies, given_within, refname_of, size_of, then_expanded, Expansion}
use Rattle.rst_transform_substitutions.specs.Sizes.{GivesCopy}

-- two expansions come to the same nodes, if both come to some
abbrev pub Agree : Expansion → Expansion → Type 0
Agree (Ok a) (Ok b) = a.0 ≡ b.0
Agree (Err fault) b = Unit {0}
Agree a (Err fault) = Unit {0}

unless : (p q : Bool) (f g : ExpansionFault) (a b : Expansion) → Agree a b → Agree (if p then Err f else a) (if q then Err g else b)
unless true q f g a b agree = tt
unless false true f g (Ok a) b agree = tt
unless false true f g (Err fault) b agree = tt
unless false false f g a b agree = agree

fitting : (p q : Bool) (a b : Expansion) → Agree a b → Agree (if p then a else Err TooLarge) (if q then b else Err TooLarge)
fitting false q a b agree = tt
fitting true false (Ok a) b agree = tt
fitting true false (Err fault) b agree = tt
fitting true true a b agree = agree

after : (xs ys : List Node) (a b : Expansion) → xs ≡ ys → Agree a b → Agree (after_nodes xs a) (after_nodes ys b)
after xs ys (Ok a) (Ok b) same agree = ap₂ (λ (m n : List Node). m ++ n) same agree
after xs ys (Ok a) (Err fault) same agree = tt
after xs ys (Err fault) b same agree = tt

followed_by : (a b : Expansion) (f g : ℕ → Expansion) → Agree a b → ((m n : ℕ) → Agree (f m) (g n)) → Agree (then_expanded a f) (then_expanded b g)
followed_by (Ok a) (Ok b) f g agree rest = after a.0 b.0 (f a.1) (g b.1) agree (rest a.1 b.1)
followed_by (Ok a) (Err fault) f g agree rest = failing (after_nodes a.0 (f a.1))
  where
    failing : (e : Expansion) → Agree e (Err fault)
    failing (Ok x) = tt
    failing (Err x) = tt
followed_by (Err fault) b f g agree rest = tt

around : (t : Tag) (a : List Attr) (l : ℕ) (x y : Expansion) → Agree x y → Agree (element_around t a l x) (element_around t a l y)
around t a l (Ok x) (Ok y) agree = ap (λ nodes. copied_element t a nodes l ∷ []) agree
around t a l (Ok x) (Err fault) agree = tt
around t a l (Err fault) y agree = tt

module _ (one two : List ℕ → ℕ → Expansion) (same : (name : List ℕ) (m n : ℕ) → Agree (one name m) (two name n)) where
  here : (is : Bool) (t : Tag) (a : List Attr) (c : Forest) (l m n : ℕ) → Agree (expanded_copies one c m) (expanded_copies two c n)
      → Agree (if is then one (refname_of a) m else element_around t a l (expanded_copies one c m)) (if is then two (refname_of a) n else element_around t a l (expanded_copies two c n))
  here true t a c l m n agree = same (refname_of a) m n
  here false t a c l m n agree = around t a l (expanded_copies one c m) (expanded_copies two c n) agree

  copies_agree : (c : Forest) (m n : ℕ) → Agree (expanded_copies one c m) (expanded_copies two c n)
  copies_agree bare m n = refl
  copies_agree (words t r) m n =
      fitting (nat_le (size_of (Text t)) m) (nat_le (size_of (Text t)) n) _ _ (after (Text t ∷ []) (Text t ∷ []) _ _ refl (copies_agree r (m - size_of (Text t)) (n - size_of (Text t))))
  copies_agree (element t a c l r) m n =
      fitting (nat_le 1 m) (nat_le 1 n) _ _ (followed_by _ _ (λ k. expanded_copies one r k) (λ k. expanded_copies two r k) (here (is_substitution_reference t) t a c l (m - 1) (n - 1) (copies_agree c (m - 1) (n - 1))) (copies_agree r))

-- references to a name
module _ (found : List ℕ → Option (ℕ × Forest)) where
  entered_agree : (one : Option (ℕ × Forest)) (p q name : List ℕ) (f g : ℕ × Forest → Expansion) → ((x : ℕ × Forest) → Agree (f x) (g x)) → Agree (entering p name one f) (entering q name one g)
  entered_agree None p q name f g agree = tt
  entered_agree (Some x) p q name f g agree = unless (list_any (λ place. place == x.0) p) (list_any (λ place. place == x.0) q) (Circular name) (Circular name) (f x) (g x) (agree x)

  given_agree : (i j : ℕ) (p q name : List ℕ) (m n : ℕ) → Agree (given_within found i p name m) (given_within found j q name n)
  unfolding given_within
  given_agree zero zero p q name m n = entered_agree (found name) p q name (λ x. Err TooLarge) (λ x. Err TooLarge) (λ x. tt)
  given_agree zero (suc j) p q name m n = entered_agree (found name) p q name (λ x. Err TooLarge) (λ x. expanded_copies (given_within found j (q ++ x.0 ∷ [])) x.1 n) (λ x. tt)
  given_agree (suc i) zero p q name m n = entered_agree (found name) p q name (λ x. expanded_copies (given_within found i (p ++ x.0 ∷ [])) x.1 m) (λ x. Err TooLarge) (λ x. failing (expanded_copies (given_within found i (p ++ x.0 ∷ [])) x.1 m))
    where
      failing : (e : Expansion) → Agree e (Err TooLarge)
      failing (Ok x) = tt
      failing (Err x) = tt
  given_agree (suc i) (suc j) p q name m n =
      entered_agree (found name) p q name (λ x. expanded_copies (given_within found i (p ++ x.0 ∷ [])) x.1 m) (λ x. expanded_copies (given_within found j (q ++ x.0 ∷ [])) x.1 n)
      (λ x. copies_agree (given_within found i (p ++ x.0 ∷ [])) (given_within found j (q ++ x.0 ∷ [])) (λ inner k l. given_agree i j (p ++ x.0 ∷ []) (q ++ x.0 ∷ []) inner k l) x.1 m n)

  -- an expansion that came to nodes tells what others come to
  pub copy_given : (i j : ℕ) (p q : List ℕ) (c : Forest) (m n rest : ℕ) (nodes : List Node) → after_nodes [] (expanded_copies (given_within found i p) c m) ≡ Ok (nodes, rest) → GivesCopy (forest_of nodes) (expanded_copies (given_within found j q) c n)
  copy_given i j p q c m n rest nodes is =
      gives (expanded_copies (given_within found i p) c m) (expanded_copies (given_within found j q) c n) (copies_agree (given_within found i p) (given_within found j q) (λ name k l. given_agree i j p q name k l) c m n) is
    where
      gives : (a b : Expansion) → Agree a b → after_nodes [] a ≡ Ok (nodes, rest) → GivesCopy (forest_of nodes) b
      gives (Ok a) (Ok b) agree is = let same : a.0 ≡ nodes = cc in sym agree ∙ same ∙ sym (nodes_of-forest_of nodes)
      gives (Ok a) (Err fault) agree is = tt
      gives (Err fault) b agree is = absurd (cc)
