-- The nodes of a section one after another.
use Rattle.std.proofs.Common.{◌≡◌, ◌∙◌, ℕ, Bool, true, false, List, [], ◌∷◌, ◌++◌, ◌≤◌, Some, None, ap, arith, refl, subst, sym}
use Rattle.std.specs.Prelude.{if◌then◌else◌}
use Rattle.rst_tree.specs.declared.attrs.Attr.{Attr}
use Rattle.rst_tree.specs.declared.node.Node.{Node}
use Rattle.rst_tree.specs.declared.node.Node.TheVariants.{Element, Text}
use Rattle.rst_tree.specs.declared.tag.Tag.{Tag}
use Rattle.rst_tree.specs.Forest.{Forest, height}
use Rattle.rst_tree.specs.Nodes.{forest_of}
use Rattle.rst_tree.proofs.Fitting.{height-cons}
use Rattle.rst_transform_names.specs.NameMessages.{is_section}
use Rattle.rst_transform_contents.specs.declared.entries.Tables.{Tables}
use Rattle.rst_transform_contents.specs.Contents.{after_nodes, first_inside, inside_section, is_topic, others, placed, topic, Becomes}
use Rattle.rst_transform_contents.specs.Entries.{Gives, Holds, Left}
use Rattle.rst_transform_contents.proofs.Threading.{threads_all, threads_more, Threads}

-- what becomes of a node, and the outline of the sections after it
abbrev pub own_placed : Forest → Forest → Forest → Node → Left → List Node × Left
own_placed root here sections (Text t) left = (Text t ∷ [], left)
own_placed root here sections (Element t a c l) left =
    let inside = inside_section (first_inside sections) (λ inner. placed root inner inner c left) c left in
    if is_section t then (Element t a inside.0 l ∷ [], inside.1)
    else if is_topic t then topic a c l root here left
    else (Element t a c l ∷ [], left)

abbrev pub after_node : Node → Forest → Forest
after_node (Text t) sections = sections
after_node (Element t a c l) sections = if is_section t then others sections else sections

pub placed_step : (root here sections : Forest) (n : Node) (ns : List Node) (left : Left)
    → placed root here sections (forest_of (n ∷ ns)) left
    ≡ after_nodes (own_placed root here sections n left).0 (placed root here (after_node n sections) (forest_of ns) (own_placed root here sections n left).1)
placed_step root here sections (Text t) ns left = refl
placed_step root here sections (Element t a c l) ns left = by (is_section t) refl
  where
    by : (b : Bool) → is_section t ≡ b
        → placed root here sections (forest_of (Element t a c l ∷ ns)) left
        ≡ after_nodes (own_placed root here sections (Element t a c l) left).0 (placed root here (after_node (Element t a c l) sections) (forest_of ns) (own_placed root here sections (Element t a c l) left).1)
    by true is = rw is refl
    by false is = rw is (other (is_topic t) refl)
      where
        other : (b : Bool) → is_topic t ≡ b
            → (if b then after_nodes (topic a c l root here left).0 (placed root here sections (forest_of ns) (topic a c l root here left).1) else after_nodes (Element t a c l ∷ []) (placed root here sections (forest_of ns) left))
            ≡ after_nodes (if b then topic a c l root here left else (Element t a c l ∷ [], left)).0 (placed root here sections (forest_of ns) (if b then topic a c l root here left else (Element t a c l ∷ [], left)).1)
        other true is = refl
        other false is = refl

-- a section that is in the outline, and one that isn't; its nodes with their tables
abbrev pub Inside : Forest → Forest → Forest → Tables → Tables → Forest → Type 0
Inside root sections c now later inside = (left : Left) → Holds now left → let done = inside_section (first_inside sections) (λ inner. placed root inner inner c left) c left in (inside ≡ done.0) × Holds later done.1

pub inside_some : (root sections c inner : Forest) (now later : Tables) (made : List Node) (inside : Forest) → first_inside sections ≡ Some inner → Gives (placed root inner inner c) now later made → inside ≡ forest_of made
    → Inside root sections c now later inside
inside_some root sections c inner now later made inside is gives put =
    subst (λ o. (left : Left) → Holds now left → let done = inside_section o (λ inner. placed root inner inner c left) c left in (inside ≡ done.0) × Holds later done.1) (sym is)
    (λ left h. let g = gives left h in (put ∙ ap forest_of g.0, g.1))

pub inside_none : (root sections c : Forest) (now : Tables) (inside : Forest) → first_inside sections ≡ None → inside ≡ c → Inside root sections c now now inside
inside_none root sections c now inside is put =
    subst (λ o. (left : Left) → Holds now left → let done = inside_section o (λ inner. placed root inner inner c left) c left in (inside ≡ done.0) × Holds now done.1) (sym is) (λ left h. (put, h))

module _ (root here sections : Forest) (t : Tag) (a : List Attr) (c : Forest) (l : ℕ) (now later : Tables) (put more : List Node) where
  pub becomes_section : is_section t ≡ true → (inside : Forest) → Inside root sections c now later inside → more ≡ put ++ Element t a inside l ∷ [] → Becomes (own_placed root here sections (Element t a c l)) now later put more
  becomes_section is inside made put_is left h =
      let g = made left h in rw is (put_is ∙ ap (λ f. put ++ Element t a f l ∷ []) g.0, g.1)

  pub becomes_topic : is_section t ≡ false → is_topic t ≡ true → Becomes (topic a c l root here) now later put more → Becomes (own_placed root here sections (Element t a c l)) now later put more
  becomes_topic other is made left h = rw (other, is) (made left h)

pub becomes_other : (root here sections : Forest) (t : Tag) (a : List Attr) (c : Forest) (l : ℕ) (now : Tables) (put more : List Node) → is_section t ≡ false → is_topic t ≡ false → more ≡ put ++ Element t a c l ∷ []
    → Becomes (own_placed root here sections (Element t a c l)) now now put more
becomes_other root here sections t a c l now put more section topic put_is left h = rw (section, topic) (put_is, h)

pub becomes_text : (root here sections : Forest) (t : List ℕ) (now : Tables) (put more : List Node) → more ≡ put ++ Text t ∷ [] → Becomes (own_placed root here sections (Text t)) now now put more
becomes_text root here sections t now put more put_is left h = (put_is, h)

-- one more node
pub placed_more : (root here sections : Forest) (n : Node) (rest : List Node) (left : List Node) (after : Forest) (whole : Left → List Node × Left) (before now later : Tables) (put more : List Node) → left ≡ n ∷ rest → after ≡ after_node n sections
    → Threads whole (placed root here sections (forest_of left)) before now put → Becomes (own_placed root here sections n) now later put more → Threads whole (placed root here after (forest_of rest)) before later more
placed_more root here sections n rest left after whole before now later put more is follows t one =
    threads_more whole (placed root here sections (forest_of left)) (placed root here after (forest_of rest)) (own_placed root here sections n) before now later put more t
    (λ q. ap (λ ns. placed root here sections (forest_of ns) q) is ∙ placed_step root here sections n rest q ∙ ap (λ o. after_nodes (own_placed root here sections n q).0 (placed root here o (forest_of rest) (own_placed root here sections n q).1)) (sym follows)) one

-- all
pub placed_all : (root here sections : Forest) (left : List Node) (whole : Left → List Node × Left) (before now : Tables) (put : List Node) → left ≡ [] → Threads whole (placed root here sections (forest_of left)) before now put → Gives whole before now put
placed_all root here sections left whole before now put none t = threads_all whole (placed root here sections (forest_of left)) before now put t (λ q. ap (λ ns. placed root here sections (forest_of ns) q) none)

-- the nodes that are left are no higher
pub low_rest : (n : Node) (rest left : List Node) (most : ℕ) → left ≡ n ∷ rest → height (forest_of left) ≤ most → height (forest_of rest) ≤ most
low_rest n rest left most is low =
    let e = height-cons n rest in
    let h : height (forest_of (n ∷ rest)) ≤ most = subst (λ ns. height (forest_of ns) ≤ most) is low in omega (arith, e, h)
