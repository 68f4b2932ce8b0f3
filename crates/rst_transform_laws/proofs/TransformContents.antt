-- Tables of contents add at most 194 levels: those of sections in sections, two for each level of entries, and those of a topic. Their texts are
-- those of titles and the alternate texts of images.
use Rattle.std.proofs.Common.{ℕ, ◌+◌, ◌*◌, ◌-◌, ◌≤◌, Bool, List, [], ◌∷◌, length, max, take, Option, Some, None, arith, refl}
use Rattle.std.specs.Prelude.{◌&&◌, if◌then◌else◌, is_some, nat_lt, not, codes}
use Rattle.std.specs.Option.{IfSome}
use Rattle.std.proofs.lemmas.Bool.{and_parts, cond_both, ltb-true}
use Rattle.rst_tree.specs.declared.attrs.Attr.{Attr}
use Rattle.rst_tree.specs.declared.attrs.Value.TheVariants.{Text as Says}
use Rattle.rst_tree.specs.declared.key.Key.TheVariants.{Alt, Local, Refid}
use Rattle.rst_tree.specs.declared.node.Node.{Node}
use Rattle.rst_tree.specs.declared.node.Node.TheVariants.{Element}
use Rattle.rst_tree.specs.declared.tag.Tag.{Tag}
use Rattle.rst_tree.specs.declared.tag.Tag.TheVariants.{CitationReference, FootnoteReference, Image, Problematic, Reference, Target}
use Rattle.rst_tree.specs.Attributes.{as_text, value_of}
use Rattle.rst_tree.specs.Forest.{Forest, bare, element, words, height}
use Rattle.rst_tree.specs.Nodes.{forest_of, nodes_of}
use Rattle.rst_tree.specs.Rewritten.{rewritten}
use Rattle.rst_transform_names.specs.NameMessages.{is_section}
use Rattle.rst_transform_names.specs.Ids.{numbered_id}
use Rattle.rst_transform_work.specs.declared.document.Document.{Document}
use Rattle.rst_transform_work.specs.Known.{Known}
use Rattle.rst_transform_contents.specs.Contents.{after_element, first_inside, holds_table, inside_section, is_title, is_topic, no_leads, others, place_of, placed, tabled, topic, topic_by, with_contents, with_lead, with_refid, with_tables, Leading}
use Rattle.rst_transform_contents.specs.declared.entries.Backlinks.{Backlinks}
use Rattle.rst_transform_contents.specs.Entries.{backlinks_of, entries, entry, entry_node, first_id, item, levels_of, most_levels, refid_attrs, sublist, Left}
use Rattle.rst_transform_contents.specs.Outline.{outline, title_nodes}
use Rattle.rst_transform_contents.specs.Title.{entry_nodes, holds_reference, shown, text_node}
use Rattle.rst_tree_laws.specs.Texts.{AttrsHave, TextsHave}
use Rattle.rst_tree_laws.proofs.Have.{with_attr_has}
use Rattle.rst_tree_laws.proofs.Lists.{all_append, all_take}
use Rattle.rst_tree_laws.proofs.Properties.{Suited}
use Rattle.rst_transform_laws.proofs.Held.{AllHeld, DocumentHeld, ForestHeld, Held, KnownHas, held_forest, held_more, held_nodes}
use Rattle.rst_transform_laws.proofs.ReportTexts.{value_has}

module _ (P : ℕ → Bool) (T : List ℕ → Type 0) (s : Suited P T) where
  -- ---- what an entry has of a title

  text_held : (m : ℕ) (o : Option (List ℕ)) → 1 ≤ m → IfSome o T → AllHeld T m (text_node o)
  text_held m None some h = tt
  text_held m (Some t) some h = ((omega (arith, some), h), tt)

  shown_held : (m : ℕ) (t : Tag) (a : List Attr) (inside : List Node) (l : ℕ) → 1 ≤ m → AttrsHave T a → AllHeld T (m - 1) inside → AllHeld T m (shown t a inside l)
  shown_held m FootnoteReference a inside l some own h = tt
  shown_held m CitationReference a inside l some own h = tt
  shown_held m Image a inside l some own h = text_held m (as_text (value_of Alt a)) some (value_has P T s Alt a refl own)
  shown_held m Problematic a inside l some own h = held_more T (m - 1) m inside (omega arith) h
  shown_held m Reference a inside l some own h = held_more T (m - 1) m inside (omega arith) h
  shown_held m Target a inside l some own h = held_more T (m - 1) m inside (omega arith) h
  shown_held m _ a inside l some own h = let f = held_forest T (m - 1) inside h in ((omega (arith, f.0, some), (own, f.1)), tt)

  entry_held : (m : ℕ) (f : Forest) → ForestHeld T m f → AllHeld T m (entry_nodes f)
  entry_held m bare h = tt
  entry_held m (words t r) h = ((omega (arith, h.0), h.1.0), entry_held m r (omega (arith, h.0), h.1.1))
  entry_held m (element t a c l r) h =
      all_append _ (shown t a (entry_nodes c) l) (entry_nodes r) (shown_held m t a (entry_nodes c) l (omega (arith, h.0)) h.1.0 (entry_held (m - 1) c (omega (arith, h.0), h.1.1)))
      (entry_held m r (omega (arith, h.0), h.1.2))

  -- ---- outlines

  -- an outline of so many levels, whose titles have fewer levels than that, and texts with the property
  abbrev OutlineHeld : ℕ → ℕ → Forest → Type 0
  OutlineHeld k m bare = Unit {0}
  OutlineHeld k m (words t r) = OutlineHeld k m r
  OutlineHeld k m (element t a bare l r) = OutlineHeld k m r
  OutlineHeld k m (element t a (words u v) l r) = OutlineHeld k m r
  OutlineHeld k m (element t a (element u b title n inner) l r) = (1 ≤ k) × (height title + 1 ≤ m) × TextsHave T title × OutlineHeld (k - 1) m inner × OutlineHeld k m r

  heading_held : (m : ℕ) (c : Forest) → height c + 1 ≤ m → TextsHave T c → let title = forest_of (title_nodes c) in (height title + 1 ≤ m) × TextsHave T title
  heading_held m bare low h = (omega (arith, low), tt)
  heading_held m (words t r) low h = (omega (arith, low), tt)
  heading_held m (element t a d l r) low h = let f = held_forest T (m - 2) (entry_nodes d) (entry_held (m - 2) d (omega (arith, low), h.1)) in (omega (arith, low, f.0), f.1)

  outline_held : (k m : ℕ) (f : Forest) → ForestHeld T m f → OutlineHeld k m (forest_of (outline k f))
  outline_held k m bare h = tt
  outline_held k m (words t r) h = outline_held k m r (omega (arith, h.0), h.1.1)
  outline_held k m (element t a c l r) h =
      let more = outline_held k m r (omega (arith, h.0), h.1.2) in
      cond_both (is_section t && nat_lt 0 k) _ _ (λ ns. OutlineHeld k m (forest_of ns))
      (λ w. let title = heading_held m c (omega (arith, h.0)) h.1.1 in (omega (arith, ltb-true 0 k (and_parts (is_section t) (nat_lt 0 k) w).1), title.0, title.1, outline_held (k - 1) m c (omega (arith, h.0), h.1.1), more)) (λ _. more)

  -- ---- entries

  entry_node_held : (m : ℕ) (id : List ℕ) (section : List Attr) (title : Forest) → height title + 1 ≤ m → TextsHave T title → Held T (m + 1) (entry_node id section title)
  entry_node_held m id section title low h =
      let refid : AttrsHave T (refid_attrs (first_id section)) = elim (first_id section) as (λ o. AttrsHave T (refid_attrs o)) [ None ↦ tt | Some r ↦ (tt, tt) ] in
      (omega (arith, low), (tt, ((tt, refid), h, tt)))

  sublist_held : (m : ℕ) (below : List Node) → AllHeld T m below → AllHeld T (m + 1) (sublist below)
  sublist_held m [] h = tt
  sublist_held m (n ∷ ns) h = let f = held_forest T m (n ∷ ns) h in ((omega (arith, f.0), (tt, f.1)), tt)

  item_held : (m : ℕ) (own : Node) (below : List Node) → Held T (m + 1) own → AllHeld T m below → Held T (m + 2) (item own below)
  item_held m own below h g = let f = held_forest T (m + 1) (own ∷ sublist below) (h, sublist_held m below g) in (omega (arith, f.0), (tt, f.1))

  entries_held : (backlinks : Backlinks) (k j m : ℕ) (o : Forest) (left : Left) → OutlineHeld j m o → AllHeld T (max 2 (2 * k) + m) (entries backlinks k o left).0
  entries_held backlinks k j m bare left h = tt
  entries_held backlinks k j m (words t r) left h = entries_held backlinks k j m r left h
  entries_held backlinks k j m (element t a bare l r) left h = entries_held backlinks k j m r left h
  entries_held backlinks k j m (element t a (words u v) l r) left h = entries_held backlinks k j m r left h
  entries_held backlinks k j m (element t a (element u b title n inner) l r) left h =
      let own = entry backlinks a title left in
      let below = if nat_lt 1 k then entries backlinks (k - 1) inner own.1 else ([], own.1) in
      let low : AllHeld T (max 2 (2 * k) - 2 + m) below.0 =
      cond_both (nat_lt 1 k) (entries backlinks (k - 1) inner own.1) ([], own.1) (λ (done : List Node × Left). AllHeld T (max 2 (2 * k) - 2 + m) done.0)
      (λ w. held_more T (max 2 (2 * (k - 1)) + m) (max 2 (2 * k) - 2 + m) (entries backlinks (k - 1) inner own.1).0 (omega (arith, ltb-true 1 k w)) (entries_held backlinks (k - 1) (j - 1) m inner own.1 h.3)) (λ _. tt) in
      let node = entry_node_held m (numbered_id left.ids (codes "toc-entry")) a title h.1 h.2 in
      let one = item_held (max 2 (2 * k) - 2 + m) own.0 below.0 (omega (arith, node.0), node.1) low in
      ((omega (arith, one.0), one.1), entries_held backlinks k j m r below.1 h.4)

  -- ---- tables

  levels_low : (place : List Attr) → levels_of place ≤ 64
  levels_low place = omega arith

  tabled_held : (m : ℕ) (a : List Attr) (c : Forest) (l : ℕ) (made : List Node) → AttrsHave T a → ForestHeld T m c → AllHeld T (m + 128) made → AllHeld T (m + 130) (tabled a c l made)
  tabled_held m a c l [] own h g = tt
  tabled_held m a c l (n ∷ ns) own h g =
      let kept = held_more T m (m + 129) _ (omega arith) (all_take _ (length (nodes_of c) - 1) (nodes_of c) (held_nodes T m c h)) in
      let f = held_forest T (m + 129) _ (all_append _ (take (length (nodes_of c) - 1) (nodes_of c)) _ kept (held_more T (m + 128 + 1) (m + 129) (sublist (n ∷ ns)) (omega arith) (sublist_held (m + 128) (n ∷ ns) g))) in
      ((omega (arith, f.0), (own, f.1)), tt)

  topic_held : (j i m : ℕ) (a : List Attr) (c : Forest) (l : ℕ) (root here : Forest) (left : Left) → AttrsHave T a → (height c + 1 ≤ m) → TextsHave T c → OutlineHeld j m root → OutlineHeld i m here
      → AllHeld T (m + 130) (topic a c l root here left).0
  topic_held j i m a c l root here left own low has whole part = by (place_of c)
    where
      by : (o : Option (List Attr)) → AllHeld T (m + 130) (topic_by o a c l root here left).0
      by None = ((omega (arith, low), (own, has)), tt)
      by (Some place) =
          let k : ℕ = levels_of place in
          let made = λ (o : Forest) (i : ℕ) (h : OutlineHeld i m o). held_more T (max 2 (2 * k) + m) (m + 128) (entries (backlinks_of a place) k o left).0 (omega (arith, levels_low place)) (entries_held (backlinks_of a place) k i m o left h) in
          cond_both (is_some (value_of Local place)) here root (λ o. AllHeld T (m + 130) (tabled a c l (entries (backlinks_of a place) k o left).0))
          (λ _. tabled_held m a c l _ own (omega (arith, low), has) (made here i part)) (λ _. tabled_held m a c l _ own (omega (arith, low), has) (made root j whole))

  others_held : (k m : ℕ) (o : Forest) → OutlineHeld k m o → OutlineHeld k m (others o)
  others_held k m bare h = tt
  others_held k m (words t r) h = h
  others_held k m (element t a bare l r) h = h
  others_held k m (element t a (words u v) l r) h = h
  others_held k m (element t a (element u b title n inner) l r) h = h.4

  inside_held : (k m : ℕ) (o : Forest) → OutlineHeld k m o → IfSome (first_inside o) (λ inner. (1 ≤ k) × OutlineHeld (k - 1) m inner)
  inside_held k m (element t a (element u b title n inner) l r) h = (h.0, h.3)
  inside_held k m _ h = tt

  section_held : (k m : ℕ) (made : Forest → List Node × Left) (c : Forest) (left : Left) (o : Option Forest) → (height c + 1 ≤ m) → TextsHave T c → IfSome o (λ inner. (1 ≤ k) × AllHeld T (m + 130 + (k - 1)) (made inner).0)
      → let f = (inside_section o made c left).0 in (height f + 1 ≤ m + 130 + k) × TextsHave T f
  section_held k m made c left None low has h = (omega (arith, low), has)
  section_held k m made c left (Some inner) low has h = let f = held_forest T (m + 130 + (k - 1)) (made inner).0 h.1 in (omega (arith, f.0, h.0), f.1)

  placed_held : (k j i m : ℕ) (root here sections f : Forest) (left : Left) → OutlineHeld j m root → OutlineHeld i m here → OutlineHeld k m sections → ForestHeld T m f
      → AllHeld T (m + 130 + k) (placed root here sections f left).0
  placed_held k j i m root here sections bare left whole part some h = tt
  placed_held k j i m root here sections (words t r) left whole part some h = ((omega (arith, h.0), h.1.0), placed_held k j i m root here sections r left whole part some (omega (arith, h.0), h.1.1))
  placed_held k j i m root here sections (element t a c l r) left whole part some h =
      let low : height c + 1 ≤ m = omega (arith, h.0) in
      let more = λ (o : Forest) (g : OutlineHeld k m o) (later : Left). placed_held k j i m root here o r later whole part g (omega (arith, h.0), h.1.2) in
      let made = λ (inner : Forest). placed root inner inner c left in
      let inner : IfSome (first_inside sections) (λ inner. (1 ≤ k) × AllHeld T (m + 130 + (k - 1)) (made inner).0) =
      elim (first_inside sections) as (λ o. IfSome o (λ inner. (1 ≤ k) × OutlineHeld (k - 1) m inner) → IfSome o (λ inner. (1 ≤ k) × AllHeld T (m + 130 + (k - 1)) (made inner).0))
      [ None ↦ λ g. tt | Some o ↦ λ g. (g.0, placed_held (k - 1) j (k - 1) m root o o c left whole g.1 g.1 (omega (arith, low), h.1.1)) ] (inside_held k m sections some) in
      cond_both (is_section t) _ _ (λ (done : List Node × Left). AllHeld T (m + 130 + k) done.0)
      (λ _. let own = section_held k m made c left (first_inside sections) low h.1.1 inner in ((own.0, (h.1.0, own.1)), more (others sections) (others_held k m sections some) _))
      (λ _. cond_both (is_topic t) _ _ (λ (done : List Node × Left). AllHeld T (m + 130 + k) done.0)
      (λ _. all_append _ (topic a c l root here left).0 _ (held_more T (m + 130) (m + 130 + k) _ (omega arith) (topic_held j i m a c l root here left h.1.0 low h.1.1 whole part)) (more sections some _))
      (λ _. ((omega (arith, low), (h.1.0, h.1.1)), more sections some left)))

  -- ---- titles

  titles_held : (m : ℕ) (l : Leading) (f : Forest) → ForestHeld T m f → ForestHeld T m (rewritten after_element with_lead l f).0
  titles_held m q bare h = (omega arith, tt)
  titles_held m q (words t r) h = let more = titles_held m q r (omega (arith, h.0), h.1.1) in (omega (arith, more.0, h.0), (h.1.0, more.1))
  titles_held m q (element t a c l r) h =
      let next : Leading = after_element q (Element t a c l) in
      let inside = titles_held (m - 1) next c (omega (arith, h.0), h.1.1) in
      let more = titles_held m (rewritten after_element with_lead next c).1 r (omega (arith, h.0), h.1.2) in
      let own = cond_both (is_title t && not (holds_reference c)) (with_refid q.next a) a (AttrsHave T)
      (λ _. elim q.next as (λ o. AttrsHave T (with_refid o a)) [ None ↦ h.1.0 | Some refid ↦ with_attr_has T Refid (Says refid) a tt h.1.0 ]) (λ _. h.1.0) in
      (omega (arith, inside.0, more.0, h.0), (own, inside.1, more.1))

  pub contents_held : (m : ℕ) (document : Document) (known : Known) → DocumentHeld T m document → KnownHas T known → let done = with_contents document known in DocumentHeld T (m + 194) done.0 × KnownHas T done.1
  contents_held m document known h g =
      let sections : Forest = forest_of (outline most_levels document.children) in
      let outlined = outline_held 64 m document.children h.0 in
      let made = with_tables document.children known in
      let nodes = placed_held 64 64 64 m sections sections sections document.children (no_leads known) outlined outlined outlined h.0 in
      let f = held_forest T (m + 194) made.0 (held_more T (m + 130 + 64) (m + 194) made.0 (omega arith) nodes) in
      cond_both (holds_table document.children) _ _ (λ (done : Document × Known). DocumentHeld T (m + 194) done.0 × KnownHas T done.1)
      (λ _. ((titles_held (m + 194) _ (forest_of made.0) f, h.1), g)) (λ _. (((omega (arith, h.0.0), h.0.1), h.1), g))
