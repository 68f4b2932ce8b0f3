-- How many levels targets, titles, transitions and the last section add, and that all texts keep the properties of the document's.
use Rattle.std.proofs.Common.{ℕ, ◌+◌, ◌-◌, ◌≤◌, max, Bool, true, false, List, [], ◌∷◌, map, take, length, Option, Some, None, arith, refl}
use Rattle.std.specs.Prelude.{◌&&◌, ◌==◌, codes, IfSome, option_and_then, option_map, slice_get}
use Rattle.std.specs.List.{list_all, list_any}
use Rattle.std.specs.Option.{option_to_list}
use Rattle.std.proofs.lemmas.Bool.{cond_both}
use Rattle.rst_settings.specs.declared.Threshold.{Threshold}
use Rattle.rst_tree.specs.declared.attrs.Attr.{Attr}
use Rattle.rst_tree.specs.declared.attrs.Value.TheVariants.{Text as Says}
use Rattle.rst_tree.specs.declared.key.Key.TheVariants.{Classes, Dupnames, Ids, Names as OfNames, Refid, Title}
use Rattle.rst_tree.specs.declared.node.Node.{Node}
use Rattle.rst_tree.specs.declared.node.Node.TheVariants.{Element, Text}
use Rattle.rst_tree.specs.declared.note.Level.TheVariants.{Error}
use Rattle.rst_tree.specs.declared.tag.Tag.{Tag}
use Rattle.rst_tree.specs.declared.tag.Tag.TheVariants.{Section as IsSection}
use Rattle.rst_tree.specs.Attributes.{without_key}
use Rattle.rst_tree.specs.Forest.{Forest, bare, element, words}
use Rattle.rst_tree.specs.Nodes.{nodes_of}
use Rattle.rst_tree.specs.Tree.{text_in}
use Rattle.rst_tree.specs.Walk.{Item}
use Rattle.rst_tree_index.specs.Kinds.{is_transition}
use Rattle.rst_transform_names.specs.NameMessages.{is_section}
use Rattle.rst_transform_work.specs.declared.document.Document.{Document}
use Rattle.rst_transform_work.specs.declared.report.Report.{Report}
use Rattle.rst_transform_work.specs.Known.{Known}
use Rattle.rst_transform_work.specs.Lists.{listed_texts, with_listed, with_names}
use Rattle.rst_transform_work.specs.Reading.{may_precede}
use Rattle.rst_transform_work.specs.Reports.{next_report, report_node}
use Rattle.rst_transform_structure.specs.LastSection.{heading, ids_moved, is_reported, own_nodes, with_last_section}
use Rattle.rst_transform_structure.specs.Targets.{at_first, changed_item, hands_on, is_first_passed, next_reached, referring, with_first_refid, with_ids_and_names, with_targets, Reached}
use Rattle.rst_transform_structure.specs.Title.{lone_section, section_in, subtitle, subtitled_by, title_attrs, titled_by, with_before, with_section, with_title}
use Rattle.rst_transform_structure.specs.Transitions.{fault_after, nodes_before, placed_in, placed_section, placed_transition, staying, transition_fault_text, transition_message, with_transitions}
use Rattle.rst_tree_laws.specs.Texts.{AttrsHave}
use Rattle.rst_tree_laws.proofs.Have.{with_attr_has, without_key_has}
use Rattle.rst_transform_laws.proofs.Held.{AllHeld, DocumentHeld, ForestHeld, Held, KnownHas, ReportsHave, held_forest, held_joined, held_more, held_nodes, report_held, with_listed_has, with_names_has}
use Rattle.rst_tree_laws.proofs.Lists.{all_append, all_drop, all_map, all_take}
use Rattle.rst_tree_laws.proofs.Properties.{Suited, all_filter, fixed_has}
use Rattle.rst_transform_laws.proofs.TransformLow.{all_at, levels_low}
use Rattle.rst_transform_laws.proofs.TransformNames.{walked_same}

module _ (P : ℕ → Bool) (T : List ℕ → Type 0) (s : Suited P T) where
  -- ---- targets

  refid_has : (ids : List (List ℕ)) (a : List Attr) → AttrsHave T a → AttrsHave T (with_first_refid ids a)
  refid_has ids a h = elim ids as (λ ids. AttrsHave T (with_first_refid ids a)) [ [] ↦ h | ◌∷◌ id more ↦ with_attr_has T Refid (Says id) a tt h ]

  referring_has : (unmarked : Bool) (attrs : List Attr) → AttrsHave T attrs → AttrsHave T (referring unmarked attrs)
  referring_has unmarked attrs own =
      let left : List Attr = without_key OfNames (without_key Ids attrs) in
      let has = without_key_has T OfNames (without_key Ids attrs) (without_key_has T Ids attrs own) in
      refid_has (listed_texts Ids attrs) _ (cond_both unmarked left (without_key Dupnames left) (AttrsHave T) (λ _. has) (λ _. without_key_has T Dupnames left has))

  pub targets_held : (m : ℕ) (unmarked : Bool) (document : Document) (known : Known) → DocumentHeld T m document → DocumentHeld T m (with_targets unmarked document known).0
  targets_held m unmarked document known h =
      let changed = λ (r : Reached) (x : Item) (own : AttrsHave T x.attrs). cond_both (is_first_passed r.takers) x.attrs _ (AttrsHave T) (λ _. own)
      (λ _. cond_both (hands_on r x) (referring r.unmarked x.attrs) (with_ids_and_names r.handed x.attrs) (AttrsHave T) (λ _. referring_has r.unmarked x.attrs own)
      (λ _. with_listed_has T OfNames r.handed.names (with_listed Ids r.handed.ids x.attrs) (with_listed_has T Ids r.handed.ids x.attrs own))) in
      let w = walked_same T next_reached changed_item (λ r x. (refl, changed r x)) 0 (at_first unmarked document.children) document.children in
      ((omega (arith, h.0.0, w.0, (levels_low 0 (with_targets unmarked document known).0.children).0, (levels_low 0 document.children).1), w.2 h.0.1), h.1)

  -- ---- the title

  section_held : (k : ℕ) (ns : List Node) (o : Option Node) → AllHeld T k ns → AllHeld T k (option_to_list o) → IfSome (option_map (with_before ns) (option_and_then section_in o)) (λ one. Held T k one.title × ForestHeld T k one.body)
  section_held k ns (Some (Element IsSection a (element t b c m body) l)) h g =
      let i = held_nodes T k (element t b c m body) (omega (arith, g.0.0), g.0.1.1) in (i.0, held_forest T k _ (all_append _ ns (nodes_of body) h i.1))
  section_held k ns (Some (Element IsSection a (words t body) l)) h g =
      let i = held_nodes T k (words t body) (omega (arith, g.0.0), g.0.1.1) in (i.0, held_forest T k _ (all_append _ ns (nodes_of body) h i.1))
  section_held k ns (Some (Element IsSection a bare l)) h g = tt
  section_held k ns (Some (Element _ a c l)) h g = tt
  section_held k ns _ h g = tt

  lone_held : (k : ℕ) (f : Forest) → ForestHeld T k f → IfSome (lone_section f) (λ one. Held T k one.title × ForestHeld T k one.body)
  lone_held k f h =
      let ns : List Node = nodes_of f in
      let held : AllHeld T k ns = held_nodes T k f h in
      cond_both (list_all may_precede (take (length ns - 1) ns)) _ _ (λ o. IfSome o (λ one. Held T k one.title × ForestHeld T k one.body))
      (λ _. section_held k _ (slice_get ns (length ns - 1)) (all_take _ (length ns - 1) ns held) (all_at _ ns (length ns - 1) held)) (λ _. tt)

  subtitle_held : (k : ℕ) (a : List Attr) (n : Node) → AttrsHave T a → Held T k n → Held T k (subtitle a n)
  subtitle_held k a (Element t b c l) h g = (g.0, (h, g.1.1))
  subtitle_held k a (Text t) h g = g

  section_has : (from attrs : List Attr) → AttrsHave T attrs → AttrsHave T (with_section from attrs)
  section_has from attrs h = with_listed_has T Classes (listed_texts Classes from) (with_names from attrs) (with_names_has T from attrs h)

  subtitled_held : (k : ℕ) (o : Option _) (f : Forest) → let done = subtitled_by o f in IfSome o (λ one. Held T k one.title × ForestHeld T k one.body) → ForestHeld T k f → ForestHeld T k done
  subtitled_held k None f h g = g
  subtitled_held k (Some one) f h g = held_joined T k _ one.body (subtitle_held k (with_section one.attrs []) one.title (section_has one.attrs [] tt) h.0) h.1

  titled_held : (m : ℕ) (o : Option _) (d : Document) → let done = titled_by o d.children in IfSome o (λ one. Held T m one.title × ForestHeld T m one.body) → DocumentHeld T m d
      → ForestHeld T m done × AttrsHave T (title_attrs o d.attrs)
  titled_held m None d h g = g
  titled_held m (Some one) d h g =
      (held_joined T m one.title _ h.0 (subtitled_held m (lone_section one.body) one.body (lone_held m one.body h.1) h.1), section_has one.attrs _ (with_attr_has T Title (Says (text_in one.title)) d.attrs tt g.1))

  pub title_held : (m : ℕ) (document : Document) (known : Known) → DocumentHeld T m document → DocumentHeld T m (with_title document known).0
  title_held m document known h = titled_held m (lone_section document.children) document (lone_held m document.children h.0) h

  -- ---- transitions

  -- nodes, and all messages then
  abbrev Placed : ℕ → List Node × List Report → Type 0
  Placed k placed = AllHeld T k placed.0 × ReportsHave T placed.1

  message_placed : (k first line : ℕ) (fault : Option _) (reports : List Report) → 3 ≤ k → ReportsHave T reports → Placed k (transition_message first line fault reports)
  unfolding transition_message
  message_placed k first line None reports h g = (tt, g)
  message_placed k first line (Some fault) reports h g =
      let next : Report = next_report first reports Error line (transition_fault_text fault) false in
      let t = fixed_has P T s (transition_fault_text fault) (search arith) in ((report_held T k next h t, tt), all_append _ reports (next ∷ []) g (t, tt))

  section_placed : (k : ℕ) (t : Tag) (a : List Attr) (l : ℕ) (inside : List Node × List Report) → 1 ≤ k → AttrsHave T a → Placed (k - 1) inside → Placed k (placed_section t a l inside.0, inside.1)
  section_placed k t a l inside h own held =
      let n : ℕ = staying inside.0 in
      let stay = held_forest T (k - 1) _ (all_take _ n inside.0 held.0) in
      (((omega (arith, stay.0), (own, stay.1)), held_more T (k - 1) k _ (omega arith) (all_drop _ n inside.0 held.0)), held.1)

  before_placed : (k : ℕ) (own : List Node × List Report) (rest : List Report → List Node × List Report) → Placed k own → ((rs : List Report) → ReportsHave T rs → Placed k (rest rs)) → Placed k (nodes_before own.0 (rest own.1))
  before_placed k own rest h g = let more = g own.1 h.1 in (all_append _ own.0 (rest own.1).0 h.0 more.0, more.1)

  all_placed : (k first : ℕ) (ends : Bool) (fault : Option _) (f : Forest) (reports : List Report) → ForestHeld T (k - 2) f → ReportsHave T reports
      → Placed k (placed_in first ends fault f reports)
  unfolding placed_in placed_transition
  all_placed k first ends fault bare reports h g = (tt, g)
  all_placed k first ends fault (words t r) reports h g = let more = all_placed k first ends None r reports (omega (arith, h.0), h.1.1) g in (((omega arith, h.1.0), more.0), more.1)
  all_placed k first ends fault (element t a c l r) reports h g =
      let some : 3 ≤ k = omega (arith, h.0) in
      let last : Bool = ends && length (nodes_of r) == 0 in
      let held : Held T k (Element t a c l) = (omega (arith, h.0), (h.1.0, h.1.1)) in
      before_placed k _ (λ rs. placed_in first ends (fault_after (Element t a c l) fault) r rs)
      (cond_both (is_section t) _ _ (Placed k) (λ _. section_placed k t a l _ (omega arith) h.1.0 (all_placed (k - 1) first last _ c reports (omega (arith, h.0), h.1.1) g))
      (λ _. cond_both (is_transition t) _ _ (Placed k)
      (λ _. let above = message_placed k first l fault reports some g in let below = message_placed k first l _ _ some above.1 in (all_append _ _ _ above.0 (held, below.0), below.1)) (λ _. ((held, tt), g))))
      (λ rs more. all_placed k first ends (fault_after (Element t a c l) fault) r rs (omega (arith, h.0), h.1.2) more)

  pub transitions_held : (m : ℕ) (document : Document) (known : Known) → DocumentHeld T m document → KnownHas T known → let done = with_transitions document known in DocumentHeld T (m + 2) done.0 × KnownHas T done.1
  transitions_held m document known h g =
      let all = all_placed (m + 2) known.first_number true _ document.children known.reports (omega (arith, h.0.0), h.0.1) g in
      ((held_forest T (m + 2) _ all.0, h.1), all.1)

  -- ---- the last section

  pub last_section_held : (m : ℕ) (report : Threshold) (document : Document) (known : Known) → DocumentHeld T m document → KnownHas T known
      → let done = with_last_section report document known in DocumentHeld T (max m 4) done.0 × KnownHas T done.1
  last_section_held m report document known h g =
      let reports : AllHeld T 3 (own_nodes known.reports) = all_map _ (Held T 3) report_node (λ r t. report_held T 3 r (omega arith) t) _ (all_filter _ _ known.reports g) in
      let moved : ReportsHave T (map ids_moved known.reports) = all_map _ _ ids_moved (λ r t. cond_both r.own _ _ (λ (one : Report). T one.text) (λ _. t) (λ _. t)) known.reports g in
      let inside = held_forest T 3 (heading ∷ own_nodes known.reports) ((omega arith, (tt, (fixed_has P T s (codes "Docutils System Messages") refl, tt))), reports) in
      cond_both (list_any (is_reported report) known.reports) _ _ (λ (done : Document × Known). DocumentHeld T (max m 4) done.0 × KnownHas T done.1)
      (λ _. ((held_forest T (max m 4) _ (all_append _ (nodes_of document.children) _ (held_nodes T (max m 4) document.children (omega (arith, h.0.0), h.0.1)) ((omega (arith, inside.0), ((tt, tt), inside.1)), tt)), h.1), moved))
      (λ _. (((omega (arith, h.0.0), h.0.1), h.1), g))
