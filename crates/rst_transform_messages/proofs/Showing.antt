-- Nodes that are printed.
use Rattle.std.proofs.Common.{◌≡◌, ℕ, ◌+◌, ◌<◌, ◌≤◌, List, [], ◌∷◌, ◌++◌, length, take, drop, set, get_or, Bool, true, false, append_assoc, append-nil, arith, refl, ap, sym, ◌∙◌}
use Rattle.std.proofs.lemmas.Bool.{not-true, not-false}
use Rattle.std.proofs.lemmas.List.{drop_all, drop-set-lt, take_all, take_more_set}
use Rattle.std.proofs.lemmas.List.Elements.{filter-append}
use Rattle.std.specs.Prelude.{filter, if◌then◌else◌}
use Rattle.rst_tree.proofs.Changes.{nodes_of-forest_of, forest_of-nodes_of}
use Rattle.rst_tree.proofs.EachNode.{drop_item}
use Rattle.rst_tree.proofs.Rewrites.{Same, Same-init, Same-more}
use Rattle.rst_settings.specs.declared.Threshold.{Threshold}
use Rattle.rst_tree.specs.declared.attrs.Attr.{Attr}
use Rattle.rst_tree.specs.declared.node.Node.{Node}
use Rattle.rst_tree.specs.declared.node.Node.TheVariants.{Element, Text}
use Rattle.rst_tree.specs.declared.tag.Tag.{Tag}
use Rattle.rst_tree.specs.Forest.{Forest, bare, element, words}
use Rattle.rst_tree.specs.Nodes.{forest_of, nodes_of}
use Rattle.rst_tree.specs.Tree.{text_all, text_in}
use Rattle.rst_transform_messages.specs.Filtered.{filtered, is_unexplained}
use Rattle.rst_transform_messages.specs.Reported.{is_below, may_stay, are_all_reported}

-- given from which level on messages are printed, and which are
module _ (report : Threshold) (reported : ℕ → Bool) where
  -- what is left of nodes without the messages below the report level
  abbrev pub remaining : List Node → List Node
  remaining ns = filter (may_stay report) ns

  -- what is left of nodes in the end
  abbrev pub kept : List Node → List Node
  kept ns = nodes_of (filtered report reported (forest_of ns))

  -- a node becomes another one, which vanishes if it is a message below the report level
  abbrev pub Becomes : Node → Node → Type 0
  Becomes old new = (rest : List Node) → kept (old ∷ rest) ≡ remaining (new ∷ []) ++ kept rest

  pub text_becomes : (old : Node) (t : List ℕ) → old ≡ Text t → Becomes old old
  text_becomes old t is rest = rw is refl

  pub low_becomes : (old : Node) → may_stay report old ≡ false → Becomes old old
  low_becomes (Text t) gone rest = cc
  low_becomes (Element t a c l) gone rest = rw (not-false (is_below report t a) gone) refl

  pub unexplained_becomes : (old : Node) (t : List ℕ) → may_stay report old ≡ true → is_unexplained reported old ≡ true → t ≡ text_in old → Becomes old (Text t)
  unexplained_becomes (Text x) t stays lost is rest = cc
  unexplained_becomes (Element tag a c l) t stays lost is rest = rw (not-true (is_below report tag a) stays, lost, is) refl

  pub element_becomes : (old : Node) (t : Tag) (a : List Attr) (c inside : Forest) (l : ℕ) → old ≡ Element t a c l → may_stay report old ≡ true → is_unexplained reported old ≡ false → inside ≡ filtered report reported c
      → Becomes old (Element t a inside l)
  element_becomes old t a c inside l is stays explained nodes rest =
      let high : is_below report t a ≡ false = not-true (is_below report t a) (rw is at stays) in
      let other : is_unexplained reported (Element t a c l) ≡ false = rw is at explained in
      rw (is, high, other, nodes) refl

  -- nodes filtered in place, up to a place: what remains of them, with what is left of those after it, is left in the end; some go, or all are left
  pub record Sifting (old now : Forest) (leaves : Bool) (i : ℕ) : Type 0 where
    pub same : Same old now i
    pub nodes : remaining (take i (nodes_of now)) ++ kept (drop i (nodes_of now)) ≡ kept (nodes_of old)
    pub all : leaves ≡ false → remaining (take i (nodes_of now)) ≡ take i (nodes_of now)

  pub Sifting-init : (f : Forest) → Sifting f f false 0
  Sifting-init f = record { same = Same-init f; nodes = refl; all = λ h. refl }

  pub Sifting-more : (old now : Forest) (leaves after : Bool) (i : ℕ) (child new : Node) → Sifting old now leaves i → i < length (nodes_of now) → child ≡ get_or (nodes_of now) i child → Becomes child new
      → (after ≡ false → (leaves ≡ false) × (may_stay report new ≡ true)) → Sifting old (forest_of (set (nodes_of now) i new)) after (i + 1)
  Sifting-more old now leaves after i child new s fits is becomes keeps =
      let ns = nodes_of now in
      let set_is : nodes_of (forest_of (set ns i new)) ≡ set ns i new = nodes_of-forest_of (set ns i new) in
      let remaining_taken : remaining (take i ns ++ new ∷ []) ≡ remaining (take i ns) ++ remaining (new ∷ []) = filter-append (may_stay report) (take i ns) (new ∷ []) in
      let following : drop (i + 1) (set ns i new) ≡ drop (i + 1) ns = drop-set-lt (i + 1) ns i new (omega arith) in
      let parts : drop i ns ≡ child ∷ drop (i + 1) ns = drop_item ns i child fits is in
      record {
        same = Same-more old now i new s.same fits;
        nodes = rw (set_is, take_more_set ns i new fits, following, remaining_taken, append_assoc (remaining (take i ns)) (remaining (new ∷ [])) (kept (drop (i + 1) ns)), ← becomes (drop (i + 1) ns))
            (ap (λ xs. remaining (take i ns) ++ kept xs) (sym parts) ∙ s.nodes);
        all = λ h. rw (set_is, take_more_set ns i new fits, remaining_taken, s.all (keeps h).0, (keeps h).1) refl;
      }

  -- in the end those that leave are taken out
  pub Sifting-some : (old now done : Forest) (leaves : Bool) (i : ℕ) → Sifting old now leaves i → length (nodes_of now) ≤ i → done ≡ forest_of (remaining (nodes_of now)) → done ≡ filtered report reported old
  Sifting-some old now done leaves i s all is =
      let remaining_kept : remaining (nodes_of now) ≡ kept (nodes_of old) = sym (append-nil (remaining (nodes_of now))) ∙ (rw (take_all i (nodes_of now) all, drop_all i (nodes_of now) all) at s.nodes) in
      is ∙ ap forest_of remaining_kept ∙ forest_of-nodes_of (filtered report reported (forest_of (nodes_of old))) ∙ ap (filtered report reported) (forest_of-nodes_of old)

  pub Sifting-whole : (old now : Forest) (leaves : Bool) (i : ℕ) → Sifting old now leaves i → length (nodes_of now) ≤ i → leaves ≡ false → now ≡ filtered report reported old
  Sifting-whole old now leaves i s all none =
      let stay : remaining (nodes_of now) ≡ nodes_of now = rw (take_all i (nodes_of now) all) at s.all none in
      Sifting-some old now now leaves i s all (sym (ap forest_of stay ∙ forest_of-nodes_of now))

-- no message below the report level is left
pub filtered_reported : (report : Threshold) (reported : ℕ → Bool) (f : Forest) → are_all_reported report (filtered report reported f) ≡ true
filtered_reported report reported bare = refl
filtered_reported report reported (words t r) = filtered_reported report reported r
filtered_reported report reported (element t a c l r) =
    by (is_below report t a) (is_unexplained reported (Element t a c l)) refl (filtered_reported report reported c) (filtered_reported report reported r)
  where
    by : (low unexplained : Bool) → is_below report t a ≡ low → are_all_reported report (filtered report reported c) ≡ true → are_all_reported report (filtered report reported r) ≡ true
        → are_all_reported report (if low then filtered report reported r else (if unexplained then words (text_all c) (filtered report reported r) else element t a (filtered report reported c) l (filtered report reported r))) ≡ true
    by true unexplained is inside more = more
    by false true is inside more = more
    by false false is inside more = rw (is, inside) more
