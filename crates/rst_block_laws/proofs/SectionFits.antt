-- Sections fit: they add at most a level for each of their levels, and one.
use Rattle.std.proofs.Common.{◌≡◌, ℕ, Bool, ◌+◌, ◌-◌, ◌≤◌, false, List, [], ◌∷◌, length, Some, arith, refl}
use Rattle.std.specs.Prelude.{nat_lt}
use Rattle.std.specs.List.{AllByRecursion, IsDistinct}
use Rattle.std.proofs.lemmas.Bool.{cond_both}
use Rattle.rst_tree.specs.declared.node.Node.{Node}
use Rattle.rst_tree.specs.declared.note.Level.TheVariants.{Severe}
use Rattle.rst_tree.specs.declared.tag.Tag.TheVariants.{Document}
use Rattle.rst_tree.specs.Tree.{text_in}
use Rattle.rst_block_nodes.specs.declared.heading.Style.{Style}
use Rattle.rst_block_nodes.specs.Sections.{Item, Member, Title, loose, section_at, node_of, is_outside, inside_section, after_section, title_notes, section_of, plain, titled, level_of, with_style, judged, members, document_of}
use Rattle.rst_block_nodes.specs.Texts.{section_node}
use Rattle.rst_block_laws.proofs.Fits.{AllFit, Fits, ItemFits, ItemsFit, counting_has, filled_fits, fit_forest, fit_more, message_has, open_fits}
use Rattle.rst_tree_laws.proofs.Have.{text_in_has}
use Rattle.rst_tree_laws.proofs.Lists.{all_append, all_map}
use Rattle.rst_tree_laws.proofs.Properties.{Suited, fixed_has, name_in_has}
use Rattle.rst_block_laws.proofs.StyleLevels.{InUse, with_fits}
use Rattle.rst_block_laws.proofs.Weights.{node_weight}
use Rattle.rst_tree_laws.specs.Texts.{NodeHas}
use borrow.Author.Tests.{leb-false}

-- the level of a section, and for another node one more than there are
abbrev own_level : Member → ℕ
own_level (loose n) = 65
own_level (section_at level n) = level

inner_level : (level : ℕ) (m : Member) → level ≤ 64 → is_outside level m ≡ false → level + 1 ≤ own_level m
inner_level level (loose n) h e = omega arith
inner_level level (section_at own n) h e = omega (arith, leb-false own level e)

-- given how many levels the nodes have that are no sections
module _ (P : ℕ → Bool) (T : List ℕ → Type 0) (s : Suited P T) (k : ℕ) (some : 3 ≤ k) where
  abbrev MemberFits : Member → Type 0
  MemberFits m = (node_weight (node_of m) + own_level m ≤ 65 + k) × NodeHas T (node_of m)

  after_fits : (level : ℕ) (ms : List Member) → AllByRecursion MemberFits ms → AllByRecursion MemberFits (after_section level ms)
  unfolding after_section
  after_fits level [] h = tt
  after_fits level (m ∷ ms) h = cond_both (is_outside level m) _ _ (AllByRecursion MemberFits) (λ e. h) (λ e. after_fits level ms h.1)

  inside_fits : (level : ℕ) (ms : List Member) → level ≤ 64 → AllByRecursion MemberFits ms → AllFit T (64 + k - level) (inside_section level ms)
  unfolding inside_section
  inside_fits level [] h l = tt
  inside_fits level (m ∷ ms) h l =
      cond_both (is_outside level m) _ _ (AllFit T (64 + k - level)) (λ e. tt) (λ e. ((omega (arith, inner_level level m h e, l.0.0), l.0.1), inside_fits level ms h l.1))

  section_fits : (level : ℕ) (t : Title) (ms : List Member) → level ≤ 64 → ItemFits T k (titled t) → AllByRecursion MemberFits ms → MemberFits (section_at level (section_of t (inside_section level ms)))
  section_fits level t ms h i l =
      let j : ℕ = 64 + k - level in
      let section : Node = section_node t.element (length (title_notes t)) t.line in
      let title = fit_forest T j (t.element ∷ []) ((omega (arith, i.1.0), i.1.1), tt) in
      let content = all_append (Fits T j) (title_notes t) (inside_section level ms) (fit_more T k j (title_notes t) (omega arith) i.2) (inside_fits level ms h l) in
      let head : Fits T (j + 1) section = (omega (arith, title.0), ((name_in_has P T s (text_in t.element) (text_in_has T P s t.element i.1.1), counting_has T (length (title_notes t))), title.1)) in
      let whole = filled_fits T section _ j (j + 1) (λ c. refl) head content (omega arith) in
      (omega (arith, whole.0), whole.1)

  members_fit : (styles : List Style) (current : ℕ) (items : List Item) → InUse styles → ItemsFit T k items → AllByRecursion MemberFits (members (judged styles current items))
  unfolding judged members
  members_fit styles current [] u h = tt
  members_fit styles current (plain n ∷ items) u h = ((omega (arith, h.0.0), h.0.1), members_fit styles current items u h.1)
  members_fit styles current (titled t ∷ items) u h =
      let level : ℕ = level_of t.style styles in
      let fits = with_fits t.style styles u h.0.0 in
      let more = members_fit (with_style t.style styles) level items fits.1 h.1 in
      cond_both (nat_lt (current + 1) level) _ _ (λ es. AllByRecursion MemberFits (members es))
      (λ e. ((omega arith, message_has T Severe t.line _ (Some t.source) (fixed_has P T s _ refl) h.0.3), members_fit styles current items u h.1))
      (λ e. (section_fits level t _ fits.0 h.0 more, after_fits level _ more))

  pub sections_fit : (j : ℕ) (items : List Item) → k + 66 ≤ j → ItemsFit T k items → Fits T j (document_of items)
  unfolding IsDistinct
  sections_fit j items e h =
      open_fits T Document [] 0 (65 + k) j _ (λ c. refl) tt (all_map MemberFits (Fits T (65 + k)) node_of (λ m own. (omega (arith, own.0), own.1)) _ (members_fit [] 0 items (tt, tt) h)) (omega arith)
