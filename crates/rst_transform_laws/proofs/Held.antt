-- Nodes of few levels whose texts have a property.
use Rattle.std.proofs.Common.{ℕ, ◌≤◌, Bool, true, false, List, [], ◌∷◌, None, Some, arith}
use Rattle.std.specs.List.{AllByRecursion}
use Rattle.rst_tree.specs.declared.attrs.Attr.{Attr}
use Rattle.rst_tree.specs.declared.attrs.Value.TheVariants.{List as Listed}
use Rattle.rst_tree.specs.declared.key.Key.{Key}
use Rattle.rst_tree.specs.declared.key.Key.TheVariants.{Dupnames, Ids, Names}
use Rattle.rst_tree.specs.declared.node.Node.{Node}
use Rattle.rst_tree.specs.declared.node.Node.TheVariants.{Element, Text}
use Rattle.rst_tree.specs.Forest.{Forest, bare, element, words, height}
use Rattle.rst_tree.specs.Nodes.{forest_of, join_node, nodes_of, node_height}
use Rattle.rst_transform_work.specs.declared.document.Document.{Document}
use Rattle.rst_transform_work.specs.declared.report.Report.{Report}
use Rattle.rst_transform_work.specs.Known.{Known}
use Rattle.rst_transform_work.specs.Lists.{listed_texts, with_list_of, with_listed, with_names}
use Rattle.rst_transform_work.specs.Reports.{id_attrs, report_node}
use Rattle.rst_tree_laws.specs.Texts.{AttrsHave, NodeHas, TextsHave, ValueHas, becomes_text}
use Rattle.rst_tree_laws.proofs.Have.{with_attr_has, without_key_has}
use Rattle.rst_tree_laws.proofs.Lists.{all_append}

module _ (T : List ℕ → Type 0) where
  abbrev pub Held : ℕ → Node → Type 0
  Held m n = (node_height n ≤ m) × NodeHas T n

  abbrev pub AllHeld : ℕ → List Node → Type 0
  AllHeld m ns = AllByRecursion (Held m) ns

  abbrev pub ForestHeld : ℕ → Forest → Type 0
  ForestHeld m f = (height f ≤ m) × TextsHave T f

  -- a document's nodes have few levels and texts with the property, and its own attributes have it, too
  abbrev pub DocumentHeld : ℕ → Document → Type 0
  DocumentHeld m d = ForestHeld m d.children × AttrsHave T d.attrs

  pub held_more : (m k : ℕ) (ns : List Node) → m ≤ k → AllHeld m ns → AllHeld k ns
  held_more m k [] h l = tt
  held_more m k (n ∷ ns) h l = ((omega (arith, h, l.0.0), l.0.1), held_more m k ns h l.1)

  pub held_joined : (m : ℕ) (n : Node) (f : Forest) → Held m n → ForestHeld m f → ForestHeld m (join_node n f)
  held_joined m (Element t a c l) f h g = (omega (arith, h.0, g.0), (h.1.0, h.1.1, g.1))
  held_joined m (Text t) f h g = (omega (arith, h.0, g.0), (h.1, g.1))

  pub held_forest : (m : ℕ) (ns : List Node) → AllHeld m ns → ForestHeld m (forest_of ns)
  held_forest m [] h = (omega arith, tt)
  held_forest m (n ∷ ns) h = held_joined m n (forest_of ns) h.0 (held_forest m ns h.1)

  pub held_nodes : (m : ℕ) (f : Forest) → ForestHeld m f → AllHeld m (nodes_of f)
  held_nodes m bare h = tt
  held_nodes m (element t a c l r) h = ((omega (arith, h.0), (h.1.0, h.1.1)), held_nodes m r (omega (arith, h.0), h.1.2))
  held_nodes m (words t r) h = ((omega (arith, h.0), h.1.0), held_nodes m r (omega (arith, h.0), h.1.1))

  -- ---- what is known between transforms

  abbrev pub ReportsHave : List Report → Type 0
  ReportsHave reports = AllByRecursion (λ (r : Report). T r.text) reports

  abbrev pub KnownHas : Known → Type 0
  KnownHas known = ReportsHave known.reports

  pub report_held : (m : ℕ) (r : Report) → 3 ≤ m → T r.text → Held m (report_node r)
  report_held m r h t =
      let ids = elim r.id as (λ o. AttrsHave T (id_attrs o)) [ None ↦ tt | Some id ↦ (tt, tt) ] in
      (omega (arith, h), ((tt, all_append _ (id_attrs r.id) _ ids (tt, (tt, tt))), (tt, (t, tt), tt)))

  -- ---- attributes that list ids and names

  pub listed_has : (b : Bool) (texts : List (List ℕ)) → ValueHas T b (Listed texts)
  listed_has true texts = tt
  listed_has false texts = tt

  pub with_listed_has : (k : Key) (texts : List (List ℕ)) (attrs : List Attr) → AttrsHave T attrs → AttrsHave T (with_listed k texts attrs)
  with_listed_has k [] attrs h = h
  with_listed_has k (text ∷ more) attrs h = with_attr_has T k _ _ (listed_has (becomes_text k) _) (without_key_has T k attrs h)

  pub with_names_has : (from attrs : List Attr) → AttrsHave T attrs → AttrsHave T (with_names from attrs)
  with_names_has from attrs h =
      with_listed_has Dupnames (listed_texts Dupnames from) (with_list_of Names from (with_list_of Ids from attrs))
      (with_listed_has Names (listed_texts Names from) (with_list_of Ids from attrs) (with_listed_has Ids (listed_texts Ids from) attrs h))
