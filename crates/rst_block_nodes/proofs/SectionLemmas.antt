-- Sections that are opened and closed one after the other are those of the definition.
use Rattle.std.proofs.Common.{◌≡◌, ℕ, suc, ◌+◌, ◌≤◌, Bool, true, false, cond, List, [], ◌∷◌, ◌++◌, ◌<◌, length, map, drop, get_or, refl, sym, ◌∙◌, ap, ap₂, subst, arith}
use Rattle.std.proofs.lemmas.List.{append-nil, append_assoc, length_push, map-append, length-map, at_drop_more, at_drop_all}
use Rattle.std.proofs.lemmas.Bool.{cond_both, le-leb, lt-leb}
use Rattle.std.specs.Prelude.{nat_le, nat_lt}
use Rattle.rst_tree.specs.declared.node.Node.{Node}
use Rattle.rst_tree.specs.declared.node.Node.TheVariants.{Element}
use Rattle.rst_tree.specs.declared.tag.Tag.TheVariants.{Document}
use Rattle.rst_tree.specs.Nodes.{forest_of}
use Rattle.rst_block_nodes.specs.declared.heading.Heading.{Heading}
use Rattle.rst_block_nodes.specs.declared.heading.Style.{Style}
use Rattle.rst_block_nodes.specs.declared.sectioning.OpenSection.{OpenSection}
use Rattle.rst_block_nodes.specs.declared.sectioning.Sections.{Sections}
use Rattle.rst_block_nodes.specs.OpenSections.{Open, open_of, put_inside, close, closed_with, document_with_items, StopsAt}
use Rattle.rst_block_nodes.specs.Texts.{section_node}
use Rattle.rst_block_nodes.specs.Sections.{Title, Item, plain, titled, Entry, alone, under, Member, loose, section_at, node_of, inside_section, after_section, filled, section_of, title_notes, members, judged, level_of, same_style, with_style, inconsistent, title_of, items_of, document_of}

abbrev pub opened : Node → List Node → Open
opened element nodes = record { element = element; nodes = nodes }

-- ---- nodes without sections

inside_loose : (level : ℕ) (ns : List Node) (ms : List Member) → inside_section level (map loose ns ++ ms) ≡ ns ++ inside_section level ms
unfolding inside_section
inside_loose level [] ms = refl
inside_loose level (n ∷ ns) ms = ap (λ (xs : List Node). n ∷ xs) (inside_loose level ns ms)

after_section_loose : (level : ℕ) (ns : List Node) (ms : List Member) → after_section level (map loose ns ++ ms) ≡ after_section level ms
unfolding after_section
after_section_loose level [] ms = refl
after_section_loose level (n ∷ ns) ms = after_section_loose level ns ms

members_plain : (styles : List Style) (current : ℕ) (ns : List Node) (items : List Item)
    → members (judged styles current (map plain ns ++ items)) ≡ map loose ns ++ members (judged styles current items)
unfolding members judged
members_plain styles current [] items = refl
members_plain styles current (n ∷ ns) items = ap (λ (ms : List Member). loose n ∷ ms) (members_plain styles current ns items)

-- nodes that are put into the innermost section are those that follow
with_nodes : (level : ℕ) (os : List Open) (element : Node) (nodes ns : List Node) (ms : List Member)
    → close level os (opened element (nodes ++ ns)) ms ≡ close level os (opened element nodes) (map loose ns ++ ms)
unfolding close
with_nodes level [] element nodes ns ms =
    ap₂ (λ (xs : List Node) (rest : List Member). (filled element xs, rest))
    (append_assoc nodes ns (inside_section level ms) ∙ ap (λ (xs : List Node). nodes ++ xs) (sym (inside_loose level ns ms)))
    (sym (after_section_loose level ns ms))
with_nodes level (o ∷ os) element nodes ns ms = ap (put_inside level o) (with_nodes (level + 1) os element nodes ns ms)

pub nodes_put : (os : List Open) (element : Node) (nodes ns : List Node) (styles : List Style) (current : ℕ) (items : List Item)
    → (close 0 os (opened element (nodes ++ ns)) (members (judged styles current items))).0
    ≡ (close 0 os (opened element nodes) (members (judged styles current (map plain ns ++ items)))).0
nodes_put os element nodes ns styles current items =
    ap (λ r. r.0) (with_nodes 0 os element nodes ns (members (judged styles current items))
    ∙ ap (close 0 os (opened element nodes)) (sym (members_plain styles current ns items)))

-- ---- the innermost section ends

pub closes : (level : ℕ) (os : List Open) (o c : Open) (ms : List Member) → inside_section (level + suc (length os)) ms ≡ [] → after_section (level + suc (length os)) ms ≡ ms
    → close level (os ++ o ∷ []) c ms ≡ close level os (opened o.element (o.nodes ++ filled c.element c.nodes ∷ [])) ms
unfolding close
closes level [] o c ms none stays =
    let e : level + 1 ≡ level + suc 0 = omega arith in
    let all : c.nodes ++ inside_section (level + 1) ms ≡ c.nodes = ap (λ n. c.nodes ++ inside_section n ms) e ∙ ap (λ (xs : List Node). c.nodes ++ xs) none ∙ append-nil c.nodes in
    let rest : after_section (level + 1) ms ≡ ms = ap (λ n. after_section n ms) e ∙ stays in
    ap₂ (λ (xs : List Node) (r : List Member). put_inside level o (filled c.element xs, r)) all rest
    ∙ ap (λ (xs : List Node). (filled o.element xs, after_section level ms)) (sym (append_assoc o.nodes (filled c.element c.nodes ∷ []) (inside_section level ms)))
closes level (p ∷ os) o c ms none stays =
    let e : (level + 1) + suc (length os) ≡ level + suc (suc (length os)) = omega arith in
    ap (put_inside level p) (closes (level + 1) os o c ms (ap (λ n. inside_section n ms) e ∙ none) (ap (λ n. after_section n ms) e ∙ stays))

-- ---- a section begins

pub enters : (level : ℕ) (os : List Open) (c new : Open) (ms : List Member)
    → close level (os ++ c ∷ []) new ms
    ≡ close level os c (section_at (level + suc (length os)) (filled new.element (new.nodes ++ inside_section (level + suc (length os)) ms)) ∷ after_section (level + suc (length os)) ms)
unfolding close inside_section after_section
enters level [] c new ms =
    let e : level + 1 ≡ level + suc 0 = omega arith in
    subst (λ n. put_inside level c (close (level + 1) [] new ms) ≡ close level [] c (section_at n (filled new.element (new.nodes ++ inside_section n ms)) ∷ after_section n ms)) e
    (rw (lt-leb (level + 1) level (omega arith)) refl)
enters level (o ∷ os) c new ms =
    let e : (level + 1) + suc (length os) ≡ level + suc (suc (length os)) = omega arith in
    ap (put_inside level o) (enters (level + 1) os c new ms
    ∙ ap (λ n. close (level + 1) os c (section_at n (filled new.element (new.nodes ++ inside_section n ms)) ∷ after_section n ms)) e)

pub stops_at_none : (level : ℕ) → StopsAt level []
unfolding inside_section after_section
stops_at_none level deeper h = (refl, refl)

pub stops_at_section : (level : ℕ) (n : Node) (ms : List Member) → StopsAt level (section_at level n ∷ ms)
unfolding inside_section after_section
stops_at_section level n ms deeper h = rw (le-leb level deeper h) (refl, refl)

-- ---- levels

pub level_positive : (s : Style) (styles : List Style) → 1 ≤ level_of s styles
unfolding level_of
level_positive s [] = omega arith
level_positive s (t ∷ ts) = cond_both (same_style t s) 1 (suc (level_of s ts)) (λ n. 1 ≤ n) (λ _. omega arith) (λ _. omega arith)

-- ---- all of a document is in it

AreDeep : List Member → Type 0
AreDeep [] = Unit {0}
AreDeep (loose n ∷ ms) = AreDeep ms
AreDeep (section_at level n ∷ ms) = (1 ≤ level) × AreDeep ms

all_inside : (ms : List Member) → AreDeep ms → inside_section 0 ms ≡ map node_of ms
unfolding inside_section AreDeep
all_inside [] h = refl
all_inside (loose n ∷ ms) h = ap (λ (xs : List Node). n ∷ xs) (all_inside ms h)
all_inside (section_at level n ∷ ms) h = let e : nat_le level 0 ≡ false = lt-leb level 0 (omega (arith, h.0)) in rw e (ap (λ (xs : List Node). n ∷ xs) (all_inside ms h.1))

deep_after_section : (level : ℕ) (ms : List Member) → AreDeep ms → AreDeep (after_section level ms)
unfolding after_section AreDeep
deep_after_section level [] h = h
deep_after_section level (loose n ∷ ms) h = deep_after_section level ms h
deep_after_section level (section_at own n ∷ ms) h = cond_both (nat_le own level) (section_at own n ∷ ms) (after_section level ms) AreDeep (λ _. h) (λ _. deep_after_section level ms h.1)

deep_judged : (items : List Item) (styles : List Style) (current : ℕ) → AreDeep (members (judged styles current items))
unfolding judged members AreDeep
deep_judged [] styles current = tt
deep_judged (plain n ∷ items) styles current = deep_judged items styles current
deep_judged (titled h ∷ items) styles current =
    let level = level_of h.style styles in
    let next = judged (with_style h.style styles) level items in
    cond_both (nat_lt (current + 1) level) (alone (inconsistent h) ∷ judged styles current items) (under level h ∷ next) (λ es. AreDeep (members es))
    (λ _. deep_judged items styles current) (λ _. (level_positive h.style styles, deep_after_section level (members next) (deep_judged items (with_style h.style styles) level)))

pub all_of_document : (items : List Item) (styles : List Style) (current : ℕ)
    → inside_section 0 (members (judged styles current items)) ≡ map node_of (members (judged styles current items))
all_of_document items styles current = all_inside (members (judged styles current items)) (deep_judged items styles current)

-- ---- the steps of the sections that are open

-- the innermost section was put into the one round it
pub ended : (all outer : List OpenSection) (o c p : OpenSection) (ms : List Member) → all ≡ outer ++ o ∷ [] → p.element ≡ o.element
    → p.nodes ≡ o.nodes ++ filled c.element c.nodes ∷ [] → StopsAt (length all) ms
    → close 0 (map open_of outer) (open_of p) ms ≡ close 0 (map open_of all) (open_of c) ms
ended all outer o c p ms is element nodes stops =
    let e : length all ≡ 0 + suc (length (map open_of outer)) = omega (arith, ap length is ∙ length_push outer o, length-map outer open_of) in
    let s : (inside_section (length all) ms ≡ []) × (after_section (length all) ms ≡ ms) = stops (length all) (omega arith) in
    ap₂ (λ x xs. close 0 (map open_of outer) (opened x xs) ms) element nodes
    ∙ sym (closes 0 (map open_of outer) (open_of o) (open_of c) ms (ap (λ n. inside_section n ms) (sym e) ∙ s.0) (ap (λ n. after_section n ms) (sym e) ∙ s.1))
    ∙ ap (λ os. close 0 os (open_of c) ms) (sym (ap (map open_of) is ∙ map-append open_of outer (o ∷ [])))

-- the section of a title was begun in the innermost one
pub entered : (all outer : List OpenSection) (c new : OpenSection) (h : Title) (ms : List Member) → all ≡ outer ++ c ∷ []
    → new.element ≡ section_node h.element (length (title_notes h)) h.line → new.nodes ≡ title_notes h
    → close 0 (map open_of all) (open_of new) ms
    ≡ close 0 (map open_of outer) (open_of c) (section_at (length outer + 1) (section_of h (inside_section (length outer + 1) ms)) ∷ after_section (length outer + 1) ms)
entered all outer c new h ms is element nodes =
    let e : 0 + suc (length (map open_of outer)) ≡ length outer + 1 = omega (arith, length-map outer open_of) in
    ap (λ os. close 0 os (open_of new) ms) (ap (map open_of) is ∙ map-append open_of outer (c ∷ []))
    ∙ enters 0 (map open_of outer) (open_of c) (open_of new) ms
    ∙ ap (λ n. close 0 (map open_of outer) (open_of c) (section_at n (filled new.element (new.nodes ++ inside_section n ms)) ∷ after_section n ms)) e
    ∙ ap₂ (λ x xs. close 0 (map open_of outer) (open_of c) (section_at (length outer + 1) (filled x (xs ++ inside_section (length outer + 1) ms)) ∷ after_section (length outer + 1) ms)) element nodes

-- a title whose level is inconsistent gives its message, and any other begins a section
judged_titled : (styles : List Style) (current : ℕ) (h : Title) (items : List Item) (b : Bool) → nat_lt (current + 1) (level_of h.style styles) ≡ b
    → judged styles current (titled h ∷ items)
    ≡ cond b (alone (inconsistent h) ∷ judged styles current items) (under (level_of h.style styles) h ∷ judged (with_style h.style styles) (level_of h.style styles) items)
unfolding judged
judged_titled styles current h items b is =
    ap (λ b. cond b (alone (inconsistent h) ∷ judged styles current items) (under (level_of h.style styles) h ∷ judged (with_style h.style styles) (level_of h.style styles) items)) is

pub refused : (os : List Open) (element n : Node) (nodes : List Node) (styles : List Style) (current : ℕ) (h : Title) (items : List Item)
    → n ≡ inconsistent h → nat_lt (current + 1) (level_of h.style styles) ≡ true
    → (close 0 os (opened element (nodes ++ n ∷ [])) (members (judged styles current items))).0
    ≡ (close 0 os (opened element nodes) (members (judged styles current (titled h ∷ items)))).0
unfolding members
refused os element n nodes styles current h items is high =
    ap (λ r. r.0) (with_nodes 0 os element nodes (n ∷ []) (members (judged styles current items)))
    ∙ ap (λ x. (close 0 os (opened element nodes) (loose x ∷ members (judged styles current items))).0) is
    ∙ ap (λ (ms : List Member). (close 0 os (opened element nodes) ms).0) (sym (ap members (judged_titled styles current h items true high)))

-- a title that is accepted begins its section, where those of its level or a deeper one have ended
pub accepted : (s m t : Sections) (h : Title) (items : List Item) (level : ℕ) → level ≡ level_of h.style s.styles.items
    → nat_lt (length s.outer.items + 1) level ≡ false
    → ((ms : List Member) → StopsAt level ms → closed_with m ms ≡ closed_with s ms) → length m.outer.items + 1 ≡ level
    → ((ms : List Member) → closed_with t ms ≡ closed_with m (section_at (length m.outer.items + 1) (section_of h (inside_section (length m.outer.items + 1) ms)) ∷ after_section (length m.outer.items + 1) ms))
    → length t.outer.items ≡ length m.outer.items + 1 → t.styles.items ≡ with_style h.style s.styles.items
    → document_with_items t items ≡ document_with_items s (titled h ∷ items)
unfolding members
accepted s m t h items level is low ends len begins more styles =
    let es : List Entry = judged (with_style h.style s.styles.items) level items in
    let e : length t.outer.items ≡ level = more ∙ len in
    let judge : nat_lt (length s.outer.items + 1) (level_of h.style s.styles.items) ≡ false = ap (λ n. nat_lt (length s.outer.items + 1) n) (sym is) ∙ low in
    let same : under level h ∷ es ≡ judged s.styles.items (length s.outer.items) (titled h ∷ items) =
    ap (λ n. under n h ∷ judged (with_style h.style s.styles.items) n items) is ∙ sym (judged_titled s.styles.items (length s.outer.items) h items false judge) in
    ap₂ (λ ss n. (closed_with t (members (judged ss n items))).0) styles e
    ∙ ap (λ r. r.0) (begins (members es))
    ∙ ap (λ n. (closed_with m (section_at n (section_of h (inside_section n (members es))) ∷ after_section n (members es))).0) len
    ∙ ap (λ r. r.0) (ends (section_at level (section_of h (inside_section level (members es))) ∷ after_section level (members es)) (stops_at_section level (section_of h (inside_section level (members es))) (after_section level (members es))))
    ∙ ap (λ ms. (closed_with s ms).0) (ap members same)

-- ---- the place of a style

pub level_at : (s : Style) (styles : List Style) (i : ℕ) (d : Style) (same b : Bool) → i < length styles → same ≡ same_style (get_or styles i d) s → same ≡ b
    → level_of s (drop i styles) ≡ cond b 1 (suc (level_of s (drop (i + 1) styles)))
unfolding level_of
level_at s styles i d same b here is so = at_drop_more (level_of s) styles i d here ∙ ap (λ b. cond b 1 (suc (level_of s (drop (i + 1) styles)))) (sym is ∙ so)

pub level_after_last : (s : Style) (styles : List Style) (i : ℕ) → length styles ≤ i → level_of s (drop i styles) ≡ 1
unfolding level_of
level_after_last s styles i h = at_drop_all (level_of s) styles i h

-- ---- the whole document

-- a document without nodes
pub begins : (s : Sections) (items : List Item) → s.outer.items ≡ [] → s.styles.items ≡ [] → s.current.element ≡ Element Document [] (forest_of []) 0 → s.current.nodes ≡ []
    → document_with_items s items ≡ document_of items
unfolding close
begins s items outer styles element nodes =
    ap₂ (λ (os : List OpenSection) (ss : List Style). (close 0 (map open_of os) (open_of s.current) (members (judged ss (length os) items))).0) outer styles
    ∙ ap₂ (λ x (xs : List Node). (close 0 [] (opened x xs) (members (judged [] 0 items))).0) element nodes
    ∙ ap (λ xs. Element Document [] (forest_of xs) 0) (all_of_document items [] 0)

alone_closed : (os : List OpenSection) (c : OpenSection) → length os + 1 ≤ 1 → (close 0 (map open_of os) (open_of c) []).0 ≡ filled c.element c.nodes
unfolding close inside_section
alone_closed [] c h = ap (filled c.element) (append-nil c.nodes)
alone_closed (o ∷ os) c h = absurd (omega arith)

-- all sections have ended
pub all_closed : (s t : Sections) → ((ms : List Member) → StopsAt 1 ms → closed_with t ms ≡ closed_with s ms) → length t.outer.items + 1 ≤ 1
    → filled t.current.element t.current.nodes ≡ document_with_items s []
unfolding judged members
all_closed s t ends few = sym (alone_closed t.outer.items t.current few) ∙ ap (λ r. r.0) (ends [] (stops_at_none 1))

-- the innermost section holds these nodes
abbrev pub holding : Sections → List Node → Sections
holding s nodes = record { outer = s.outer; current = record { element = s.current.element; nodes = nodes }; styles = s.styles }

-- a title was met, with the nodes before it
pub title_met : (s t : Sections) (h : Heading) (hs : List Heading) (put nodes : List Node) → put ≡ s.current.nodes ++ h.nodes
    → ((items : List Item) → document_with_items t items ≡ document_with_items (holding s put) (titled (title_of h) ∷ items)) → document_with_items t (items_of hs nodes) ≡ document_with_items s (items_of (h ∷ hs) nodes)
unfolding items_of
title_met s t h hs put nodes is met =
    let items : List Item = titled (title_of h) ∷ items_of hs nodes in
    met (items_of hs nodes)
    ∙ ap (λ (xs : List Node). document_with_items (holding s xs) items) is
    ∙ nodes_put (map open_of s.outer.items) s.current.element s.current.nodes h.nodes s.styles.items (length s.outer.items) items

-- no title is left
pub last_met : (s : Sections) (put nodes : List Node) → put ≡ s.current.nodes ++ nodes → document_with_items (holding s put) [] ≡ document_with_items s (items_of [] nodes)
unfolding items_of
last_met s put nodes is =
    ap (λ (xs : List Node). document_with_items (holding s xs) []) is
    ∙ nodes_put (map open_of s.outer.items) s.current.element s.current.nodes nodes s.styles.items (length s.outer.items) []
    ∙ ap (document_with_items s) (append-nil (map plain nodes))
