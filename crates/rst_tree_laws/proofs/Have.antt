-- Nodes whose texts have a property.
use Rattle.std.proofs.Common.{ℕ, Bool, true, false, List, [], ◌∷◌, Option, None, Some}
use Rattle.std.specs.Prelude.{nat_lt}
use Rattle.std.specs.Option.{IfSome}
use Rattle.std.proofs.lemmas.Bool.{cond_both}
use Rattle.rst_tree.specs.declared.attrs.Attr.{Attr}
use Rattle.rst_tree.specs.declared.attrs.Value.{Value}
use Rattle.rst_tree.specs.declared.attrs.Value.TheVariants.{Text as TextValue}
use Rattle.rst_tree.specs.declared.key.Key.{Key}
use Rattle.rst_tree.specs.declared.node.Node.{Node}
use Rattle.rst_tree.specs.declared.node.Node.TheVariants.{Element, Text as Words}
use Rattle.rst_tree.specs.Attributes.{with_attr, without_key}
use Rattle.rst_tree.specs.Forest.{Forest, bare, element, words}
use Rattle.rst_tree.specs.KeyNames.{is_same, key_code}
use Rattle.rst_tree.specs.Messages.{note_nodes}
use Rattle.rst_tree.specs.Nodes.{forest_of, nodes_of}
use Rattle.rst_tree.specs.Tree.{text_all, text_in}
use Rattle.rst_tree_laws.proofs.Properties.{Suited}
use Rattle.rst_tree_laws.specs.Texts.{AttrsHave, NodeHas, NodesHave, TextsHave, ValueHas, becomes_text}

module _ (T : List ℕ → Type 0) where
  -- ---- attributes

  pub with_attr_has : (k : Key) (v : Value) (attrs : List Attr) → ValueHas T (becomes_text k) v → AttrsHave T attrs → AttrsHave T (with_attr k v attrs)
  with_attr_has k v [] h g = (h, tt)
  with_attr_has k v (a ∷ more) h g =
      cond_both (nat_lt (key_code a.key) (key_code k)) _ _ (AttrsHave T) (λ e. (g.0, with_attr_has k v more h g.1))
      (λ e. cond_both (is_same a.key k) _ _ (AttrsHave T) (λ i. (h, g.1)) (λ i. (h, g)))

  pub without_key_has : (k : Key) (attrs : List Attr) → AttrsHave T attrs → AttrsHave T (without_key k attrs)
  without_key_has k [] g = tt
  without_key_has k (a ∷ more) g = cond_both (is_same a.key k) _ _ (AttrsHave T) (λ e. g.1) (λ e. (g.0, without_key_has k more g.1))

  -- ---- nodes and messages

  pub nodes_have : (f : Forest) → TextsHave T f → NodesHave T (nodes_of f)
  nodes_have bare h = tt
  nodes_have (element t a c l r) h = ((h.0, h.1), nodes_have r h.2)
  nodes_have (words t r) h = (h.0, nodes_have r h.1)

  pub note_has : (text : List ℕ) (block : Option (List ℕ)) (line : ℕ) → T text → IfSome block T → TextsHave T (forest_of (note_nodes text block line))
  note_has text None line h k = (tt, (h, tt), tt)
  note_has text (Some lines) line h k = (tt, (h, tt), ((tt, tt), (k, tt), tt))

  module _ (P : ℕ → Bool) (s : Suited P T) where
    pub all_has : (f : Forest) → TextsHave T f → T (text_all f)
    all_has bare h = s.encoded [] tt
    all_has (element t a c l r) h = s.append (text_all c) (text_all r) (all_has c h.1) (all_has r h.2)
    all_has (words t r) h = s.append t (text_all r) h.0 (all_has r h.1)

    pub text_in_has : (n : Node) → NodeHas T n → T (text_in n)
    text_in_has (Element t a c l) h = all_has c h.1
    text_in_has (Words t) h = h

-- ---- a weaker property

module _ (T U : List ℕ → Type 0) (weaker : (t : List ℕ) → T t → U t) where
  value_weaker : (b : Bool) (v : Value) → ValueHas T b v → ValueHas U b v
  value_weaker true (TextValue t) h = weaker t h
  value_weaker true _ h = tt
  value_weaker false _ h = tt

  attrs_weaker : (attrs : List Attr) → AttrsHave T attrs → AttrsHave U attrs
  attrs_weaker [] h = tt
  attrs_weaker (a ∷ attrs) h = (value_weaker (becomes_text a.key) a.value h.0, attrs_weaker attrs h.1)

  texts_weaker : (f : Forest) → TextsHave T f → TextsHave U f
  texts_weaker bare h = tt
  texts_weaker (element t a c l r) h = (attrs_weaker a h.0, texts_weaker c h.1, texts_weaker r h.2)
  texts_weaker (words t r) h = (weaker t h.0, texts_weaker r h.1)

  pub node_weaker : (n : Node) → NodeHas T n → NodeHas U n
  node_weaker (Element t a c l) h = (attrs_weaker a h.0, texts_weaker c h.1)
  node_weaker (Words t) h = weaker t h
