-- Elements that are taken in, one after the other.
use Rattle.std.proofs.Common.{◌≡◌, ℕ, ◌+◌, List, [], ◌∷◌, ◌++◌, append_assoc, true, length, refl, arith}
use Rattle.std.specs.Prelude.{reverse, Option}
use Rattle.std.proofs.lemmas.List.{nil_from_length, reverse-append}
use Rattle.rst_tree.specs.declared.node.Node.{Node}
use Rattle.rst_tree.specs.declared.node.Node.TheVariants.{Element, Text}
use Rattle.rst_tree.specs.declared.reading.Left.{Left}
use Rattle.rst_tree.specs.declared.attrs.Attr.{Attr}
use Rattle.rst_tree.specs.declared.tag.Tag.{Tag}
use Rattle.rst_tree.specs.Forest.{Forest, bare, element, words}
use Rattle.rst_tree.specs.Nodes.{are_plain, forest_of}
use Rattle.rst_tree.specs.Read.{AreRead}

-- how much there is to go through in nodes
abbrev pub weight : Forest → ℕ
weight bare = 1
weight (words t r) = weight r + 1
weight (element t a c l r) = weight c + weight r + 1

-- and in those that are left, the innermost first
abbrev pub left_weight : List Left → ℕ
left_weight [] = 0
left_weight (one ∷ outer) = weight (forest_of one.nodes.now) + left_weight outer

module _ {S : Type 0} (takes : S → Option ℕ → Node → S → Option ℕ → Type 0) where
  -- where no element is, none is taken in
  none_read : (level : Option ℕ) (c : Forest) (s : S) → are_plain c ≡ true → AreRead takes level c s s
  none_read level bare s plain = refl
  none_read level (words t bare) s plain = refl
  none_read level _ s plain = cc

  -- the elements among those that are left are taken in
  abbrev pub LeftRead : List Left → S → S → Type 0
  LeftRead [] old new = new ≡ old
  LeftRead (one ∷ outer) old new = (inside : S) × AreRead takes one.level (forest_of one.nodes.now) old inside × LeftRead outer inside new

  -- once the rest and those that are left are taken in, all are
  abbrev pub Reading : Option ℕ → Forest → S → List Node → Option ℕ → List Left → S → Type 0
  Reading level all old rest at left now = (inside new : S) → AreRead takes at (forest_of rest) now inside → LeftRead (reverse left) inside new → AreRead takes level all old new

  module _ (level : Option ℕ) (all : Forest) (old now : S) (rest following : List Node) (at : Option ℕ) (left : List Left) (n : Node) where
    pub read_text : (t : List ℕ) → rest ≡ n ∷ following → n ≡ Text t → Reading level all old rest at left now → Reading level all old following at left now
    read_text t parts is before inside new first more = before inside new (rw (parts, is) first) more

    pub read_plain : (t : Tag) (a : List Attr) (c : Forest) (l : ℕ) (taken : S) (inner : Option ℕ) → rest ≡ n ∷ following → n ≡ Element t a c l → takes now at n taken inner → are_plain c ≡ true
        → Reading level all old rest at left now → Reading level all old following at left taken
    read_plain t a c l taken inner parts is took plain before inside new first more =
        before inside new (rw (parts, is) (taken, inner, taken, rw is at took, none_read inner c taken plain, first)) more

    pub read_element : (t : Tag) (a : List Attr) (c : Forest) (l : ℕ) (taken : S) (inner : Option ℕ) (one : Left) (then : List Left) (its : List Node) → rest ≡ n ∷ following → n ≡ Element t a c l → takes now at n taken inner
        → one.nodes.now ≡ following → one.level ≡ at → then ≡ left ++ one ∷ [] → c ≡ forest_of its → Reading level all old rest at left now → Reading level all old its inner then taken
    read_element t a c l taken inner one then its parts is took nodes outside pushed holds before inside new first more =
        go (rw (pushed, reverse-append left (one ∷ [])) at more)
      where
        go : LeftRead (one ∷ reverse left) inside new → AreRead takes level all old new
        go put = before put.0 new (rw (parts, is) (taken, inner, inside, rw is at took, rw holds first, rw (nodes, outside) at put.1)) put.2

    -- after the last of its nodes nothing is left
    pub read_last : (t : Tag) (a : List Attr) (c : Forest) (l : ℕ) (taken : S) (inner : Option ℕ) (its : List Node) → rest ≡ n ∷ following → n ≡ Element t a c l → takes now at n taken inner → length following ≡ 0 → c ≡ forest_of its
        → Reading level all old rest at left now → Reading level all old its inner left taken
    read_last t a c l taken inner its parts is took none holds before inside new first more =
        before inside new (rw (parts, is) (taken, inner, inside, rw is at took, rw holds first, rw (nil_from_length following none) refl)) more

  module _ (level : Option ℕ) (all : Forest) (old now : S) (at : Option ℕ) where
    pub read_after_last : (rest : List Node) (left then : List Left) (one : Left) → length rest ≡ 0 → left ≡ then ++ one ∷ [] → Reading level all old rest at left now → Reading level all old one.nodes.now one.level then now
    read_after_last [] left then one none popped before inside new first more = before now new refl (rw (popped, reverse-append then (one ∷ [])) (inside, first, more))
    read_after_last (n ∷ ns) left then one none popped before inside new first more = absurd (omega arith)

    pub read_whole : (rest : List Node) (left : List Left) → length rest ≡ 0 → length left ≡ 0 → Reading level all old rest at left now → AreRead takes level all old now
    read_whole [] [] none last before = before now now refl refl
    read_whole _ _ none last before = absurd (omega arith)

-- an element's own, what is in it, and what is after it, one added after the other
pub three_added : {A : Type 0} (old own inside following x y z : List A) → x ≡ old ++ own → y ≡ x ++ inside → z ≡ y ++ following → z ≡ old ++ (own ++ (inside ++ following))
three_added old own inside following x y z first second third = rw (third, second, first, append_assoc (old ++ own) inside following, append_assoc old own (inside ++ following)) refl
