-- A registered document has at most three levels more, those of a message on equal names, and texts with the properties of its texts.
use Rattle.std.proofs.Common.{◌≡◌, ℕ, zero, suc, ◌+◌, ◌≤◌, max, Bool, true, List, [], ◌∷◌, ◌++◌, map, replicate, Option, Some, None, arith, refl, ap, sym, ◌∙◌}
use Rattle.std.specs.Prelude.{if◌then◌else◌, codes, filter, option_map, option_and_then, unwrap_or}
use Rattle.std.specs.List.{AllByRecursion, list_all}
use Rattle.std.specs.Option.{option_to_list}
use Rattle.std.proofs.lemmas.Bool.{cond_both}
use Rattle.rst_tree.specs.declared.attrs.Attr.{Attr}
use Rattle.rst_tree.specs.declared.attrs.Value.TheVariants.{Number, Text as Words, List as Listed}
use Rattle.rst_tree.specs.declared.key.Key.TheVariants.{Backrefs, Dupnames, Ids, Names, OwnName, Refid, Serial}
use Rattle.rst_tree.specs.declared.node.Node.{Node}
use Rattle.rst_tree.specs.declared.node.Node.TheVariants.{Element, Text}
use Rattle.rst_tree.specs.declared.note.Level.{Level}
use Rattle.rst_tree.specs.declared.note.Level.TheVariants.{Error}
use Rattle.rst_tree.specs.declared.tag.Tag.{Tag}
use Rattle.rst_tree.specs.declared.tag.Tag.TheVariants.{Paragraph, Problematic, SubstitutionDefinition, SystemMessage, Target}
use Rattle.rst_tree.specs.Messages.{note_attrs}
use Rattle.rst_tree.specs.Forest.{Forest, bare, element, words}
use Rattle.rst_tree.specs.Nodes.{forest_of, join_node, node_height}
use Rattle.rst_tree.specs.Walk.{Item, item, items, after, node_items, walked}
use Rattle.rst_tree_index.specs.Marks.{heeded_next, heeded_out}
use Rattle.rst_tree_index.specs.Registered.{is_registered}
use Rattle.rst_transform_names.specs.declared.message_ids.MessageIds.{MessageIds}
use Rattle.rst_transform_names.specs.declared.queue.Queued.{Queued}
use Rattle.rst_transform_names.specs.declared.queue.Queued.TheVariants.{Present, New}
use Rattle.rst_transform_names.specs.DuplicateMessages.{duplicate_words}
use Rattle.rst_transform_names.specs.Ids.{id_for}
use Rattle.rst_transform_names.specs.NameMessages.{after_next, before_next, beginning, counted, filled, first_queue, goes_out, is_inline, is_passed_over, is_section, message_on, own_message, taken, takes_in, with_due, with_filled_element, with_own, Filled, Queue}
use Rattle.rst_transform_names.specs.Names.{is_alias, name_to_take, own_name}
use Rattle.rst_transform_names.specs.Registering.{all_registered, nothing_known, registered, registration, with_alias, with_kind, with_named, Register}
use Rattle.rst_transform_names.specs.Registry.{rule_named}
use Rattle.rst_transform_names.specs.Written.{attrs_given, given, left_after, message_id, message_ids_of, problematic_id, with_backrefs, with_first, with_given, with_id, with_name, with_refid, with_standing, Given, name_got}
use Rattle.rst_transform_work.specs.States.{document_in}
use Rattle.rst_tree_laws.specs.Texts.{AttrsHave, NodeHas, TextsHave, becomes_text, is_fixed}
use Rattle.rst_tree_index.specs.Parsed.{levels_by, AreFlat}
use Rattle.rst_tree_laws.proofs.AnyTexts.{any, any_suited}
use Rattle.rst_tree_laws.proofs.Have.{with_attr_has}
use Rattle.rst_transform_laws.proofs.Held.{listed_has}
use Rattle.rst_tree_laws.proofs.Lists.{all_append, all_map}
use Rattle.rst_tree_laws.proofs.Properties.{Suited, all_filter, fixed_has}
use Rattle.rst_transform_laws.proofs.ReportTexts.{value_or_empty_has}
use Rattle.rst_transform_laws.proofs.TransformLow.{document_low, levels_low}

-- ---- what is written at elements

module _ (T : List ℕ → Type 0) where
  module _ {S : Type 0} (next : S → Item → S) (out : S → Item → Item) (keeps : (s : S) (x : Item) → ((out s x).tag ≡ x.tag) × (AttrsHave T x.attrs → AttrsHave T (out s x).attrs)) (h : ℕ) where
    pub walked_same : (s : S) (f : Forest) → (levels_by h (walked next out s f) ≡ levels_by h f) × (AreFlat h f → AreFlat h (walked next out s f)) × (TextsHave T f → TextsHave T (walked next out s f))
    walked_same s bare = (refl, λ flat. tt, λ has. tt)
    walked_same s (words t r) = let j = walked_same s r in (ap (max 1) j.0, j.1, λ has. (has.0, j.2 has.1))
    walked_same s (element t a c l r) =
        let x : Item = item t a l in
        let k = keeps s x in
        let i = walked_same (next s x) c in
        let j = walked_same (after next out (next s x) (items c)) r in
        (rw (k.0, i.0, j.0), λ flat. (λ is. rw i.0 (flat.0 (sym k.0 ∙ is)), i.1 flat.1, j.1 flat.2), λ has. (k.1 has.0, i.2 has.1, j.2 has.2))

  id_has : (o : Option (List ℕ)) (a : List Attr) → AttrsHave T a → AttrsHave T (with_id o a)
  id_has o a h = elim o as (λ o. AttrsHave T (with_id o a)) [ None ↦ h | Some id ↦ with_attr_has T Ids (Listed (id ∷ [])) a tt h ]

  name_has : (lost : Bool) (o : Option (List ℕ)) (a : List Attr) → AttrsHave T a → AttrsHave T (with_name lost o a)
  name_has lost None a h = h
  name_has lost (Some []) a h = h
  name_has lost (Some (c ∷ cs)) a h = with_attr_has T (if lost then Dupnames else Names) _ a (listed_has T (becomes_text (if lost then Dupnames else Names)) ((c ∷ cs) ∷ [])) h

  backrefs_have : (ids : List (List ℕ)) (a : List Attr) → AttrsHave T a → AttrsHave T (with_backrefs ids a)
  backrefs_have ids a h = elim ids as (λ ids. AttrsHave T (with_backrefs ids a)) [ [] ↦ h | ◌∷◌ id more ↦ with_attr_has T Backrefs (Listed (id ∷ more)) a tt h ]

  first_has : {A : Type 0} (change : A → List Attr → List Attr) (xs : List A) (a : List Attr) → AttrsHave T a → ((x : A) → AttrsHave T (change x a)) → AttrsHave T (with_first change xs a)
  first_has change xs a h g = elim xs as (λ xs. AttrsHave T (with_first change xs a)) [ [] ↦ h | ◌∷◌ x more ↦ g x ]

  attrs_have : (t : Tag) (g : Given) (a : List Attr) → AttrsHave T a → AttrsHave T (attrs_given t g a)
  attrs_have Problematic g a h =
      let refid = elim (option_and_then (λ (m : MessageIds). m.id) (message_ids_of g.messages a)) as (λ o. AttrsHave T (with_refid o a)) [ None ↦ h | Some m ↦ with_attr_has T Refid (Words (message_id m)) a tt h ] in
      first_has _ g.numbers a h (λ n. id_has (Some (problematic_id n)) _ refid)
  attrs_have SystemMessage g a h = first_has _ g.numbers a h (λ n. id_has (Some (message_id n)) _ (backrefs_have (unwrap_or (option_map (λ (m : MessageIds). m.problematics) (message_ids_of g.messages a)) []) a h))
  attrs_have _ g a h =
      first_has with_standing g.standings a h (λ s. id_has s.id _ (name_has s.lost (name_got s a) _ (with_attr_has T Serial (Number s.serial) a tt h)))

  given_same : (s : Given) (x : Item) → ((heeded_out is_registered with_given s x).tag ≡ x.tag) × (AttrsHave T x.attrs → AttrsHave T (heeded_out is_registered with_given s x).attrs)
  given_same s x = cond_both (is_registered x) (with_given s x) x (λ y. (y.tag ≡ x.tag) × (AttrsHave T x.attrs → AttrsHave T y.attrs)) (λ _. (refl, attrs_have x.tag s x.attrs)) (λ _. (refl, λ h. h))

  items_have : (f : Forest) → TextsHave T f → AllByRecursion (λ (x : Item). AttrsHave T x.attrs) (items f)
  items_have bare h = tt
  items_have (element t a c l r) h = (h.0, all_append _ (items c) (items r) (items_have c h.1) (items_have r h.2))
  items_have (words t r) h = items_have r h.1

-- ---- messages among nodes

-- what is shown of replacement texts and of texts may rest on premises
module _ (P : ℕ → Bool) (T : List ℕ → Type 0) (s : Suited P T) where
  module _ (h : ℕ) (Flat Has : Type 0) where
    abbrev Within : ℕ → Node → Type 0
    Within k n = (levels_by (h + 3) (join_node n bare) ≤ k) × (Flat → AreFlat (h + 3) (join_node n bare)) × (Has → NodeHas T n)

    abbrev Each : ℕ → List Node → Type 0
    Each k ns = AllByRecursion (Within k) ns

    together : (k : ℕ) (ns : List Node) → Each k ns → (levels_by (h + 3) (forest_of ns) ≤ k) × (Flat → AreFlat (h + 3) (forest_of ns)) × (Has → TextsHave T (forest_of ns))
    together k [] e = (omega arith, λ g. tt, λ g. tt)
    together k (Element t a c l ∷ ns) e = let r = together k ns e.1 in (omega arith, λ g. let f = e.0.1 g in (f.0, f.1, r.1 g), λ g. let n = e.0.2 g in (n.0, n.1, r.2 g))
    together k (Text t ∷ ns) e = let r = together k ns e.1 in (omega arith, r.1, λ g. (e.0.2 g, r.2 g))

    raised : (k : ℕ) (ns : List Node) → 3 ≤ k → Each 3 ns → Each k ns
    raised k [] le e = tt
    raised k (n ∷ ns) le e = ((omega arith, e.0.1, e.0.2), raised k ns le e.1)

    abbrev Waits : Queued → Type 0
    Waits Present = Unit {0}
    Waits (New n) = Within 3 n

    abbrev Queues : Queue → Type 0
    Queues q = AllByRecursion Waits q

    present_wait : (n : ℕ) → Queues (replicate n Present)
    present_wait zero = tt
    present_wait (suc n) = (tt, present_wait n)

    next_fits : (q : Queue) → Queues q → Each 3 (before_next q) × Queues (after_next q)
    next_fits [] e = (tt, tt)
    next_fits (Present ∷ q) e = (tt, e.1)
    next_fits (New n ∷ q) e = let r = next_fits q e.1 in ((e.0, r.0), r.1)

    abbrev FilledFits : ℕ → Filled → Type 0
    FilledFits k f = Each k f.nodes × Each 3 f.before × Queues f.queue

    begin_fits : (k : ℕ) (t : Tag) (a : List Attr) → FilledFits k (beginning t a)
    begin_fits k t a = (tt, tt, cond_both (is_section t) [] (replicate (counted a) Present) Queues (λ _. tt) (λ _. present_wait (counted a)))

    due_fits : (k : ℕ) (first due : Queue) (f : Filled) → 3 ≤ k → Queues first → Queues due → FilledFits k f → FilledFits k (with_due first due f)
    due_fits k first due f le o d g =
        (all_append (Within k) (f.nodes ++ before_next due) _ (all_append (Within k) f.nodes _ g.0 (raised k (before_next due) le (next_fits due d).0)) (raised k (before_next first) le (next_fits first o).0), g.1, g.2)

    module _ (own : List Attr → List Node) (owns : (a : List Attr) → Each 3 (own a)) where
      filled_fits : (k : ℕ) (p : Tag) (first due : Queue) (f : Filled) (c : Forest) → levels_by h c + 3 ≤ k → (Flat → AreFlat h c) → (Has → TextsHave T c) → Queues first → Queues due → FilledFits k f
          → FilledFits k (filled own p first due f c)
      filled_fits k p first due f bare le flat has o d g = due_fits k first due f (omega arith) o d g
      filled_fits k p first due f (words t r) le flat has o d g =
          filled_fits k p first due _ r (omega arith) flat (λ given. (has given).1) o d (all_append (Within k) f.nodes _ g.0 ((omega arith, λ given. tt, λ given. (has given).0), tt), g.1, g.2)
      filled_fits k p first due f (element t a c l r) le flat has o d g =
          let m : ℕ = levels_by h c + 3 in
          let q : Queue = first_queue t a (own a) f.queue in
          let inner : Filled = filled own t q [] (beginning t a) c in
          let inside : Filled = with_own t a (own a) inner in
          let news : Queues (map New (own a)) = all_map (Within 3) Waits New (λ n w. w) (own a) (owns a) in
          let start : Queues q =
          cond_both (takes_in t) _ _ Queues (λ _. g.2)
          (λ _. cond_both (is_section t) _ _ Queues (λ _. (tt, all_append Waits (replicate (counted a) Present) _ (present_wait (counted a)) news)) (λ _. tt)) in
          let e = filled_fits m t q [] (beginning t a) c (omega arith) (λ given. (flat given).1) (λ given. (has given).1) start tt (begin_fits m t a) in
          let i : FilledFits m inside =
          cond_both (is_section t) _ _ (FilledFits m) (λ _. e)
          (λ _. cond_both (is_inline a) _ _ (FilledFits m) (λ _. (e.0, e.1, all_append Waits inner.queue _ e.2 news)) (λ _. (e.0, all_append (Within 3) inner.before _ e.1 (owns a), e.2))) in
          let j = together m inside.nodes i.0 in
          let due_f : Filled = with_due first due f in
          let w : FilledFits k due_f = due_fits k first due f (omega arith) o d g in
          filled_fits k p (after_next first) (after_next due ++ (if goes_out p t a then [] else inside.queue)) (with_filled_element p t a l inside (taken t due_f)) r (omega arith) (λ given. (flat given).2) (λ given. (has given).2) (next_fits first o).1
          (all_append Waits (after_next due) _ (next_fits due d).1 (cond_both (goes_out p t a) _ _ Queues (λ _. tt) (λ _. i.2))) (
            all_append (Within k) _ (Element t a (forest_of inside.nodes) l ∷ []) (all_append (Within k) due_f.nodes _ w.0 (cond_both (is_passed_over p) _ _ (Each k) (λ _. tt) (λ _. raised k inside.before (omega arith) i.1)))
                ((grind (arith, j.0), λ given. ((λ is. omega (arith, (flat given).0 is, j.0)), j.1 given, tt), λ given. ((has given).0, j.2 given)), tt),
            all_append (Within 3) f.before _ w.1 (cond_both (is_passed_over p) _ _ (Each 3) (λ _. i.1) (λ _. tt)),
            all_append Waits (taken t due_f).queue _ (cond_both (takes_in t) _ _ Queues (λ _. tt) (λ _. g.2)) (cond_both (goes_out p t a) _ _ Queues (λ _. i.2) (λ _. tt)),
          )

    -- ---- the messages on names

    -- the message with some words and an element's name
    note_fits : (ids : List (List ℕ)) (level : Level) (start : List ℕ) (new : Item) → list_all is_fixed start ≡ true → (Has → AttrsHave T new.attrs)
        → Within 3 (Element SystemMessage (with_backrefs ids (note_attrs level)) (element Paragraph [] (words ((start ++ own_name new) ++ codes "\".") bare) new.line bare) new.line)
    note_fits ids level start new fixed has =
        let text = λ (given : Has). s.append (start ++ own_name new) (codes "\".") (s.append start (own_name new) (fixed_has P T s start fixed) (value_or_empty_has P T s OwnName new.attrs refl (has given))) (fixed_has P T s (codes "\".") refl) in
        (omega arith, λ given. ((λ is. absurd (cc)), ((λ is. absurd (cc)), tt, tt), tt), λ given. (backrefs_have T ids (note_attrs level) (tt, tt), (tt, (text given, tt), tt)))

    abbrev Notes : List (Option Node) → Type 0
    Notes os = AllByRecursion (λ o. Each 3 (option_to_list o)) os

    note_mapped : {A : Type 0} (f : A → Node) (o : Option A) → ((x : A) → Within 3 (f x)) → Each 3 (option_to_list (option_map f o))
    note_mapped f o fits = elim o as (λ o. Each 3 (option_to_list (option_map f o))) [ None ↦ tt | Some x ↦ (fits x, tt) ]

    named_fits : (new : Item) (r : Register) → (Has → AttrsHave T new.attrs) → Notes r.name_messages → Notes (with_named new r).name_messages
    named_fits new r has e =
        all_append _ r.name_messages _ e (
          note_mapped _ (rule_named (name_to_take r.names new) (r.names (own_name new)) new).message
              (λ m. note_fits (id_for r.ids new.tag (name_to_take r.names new) ∷ []) m.level (duplicate_words m.strength) new (search arith) has),
          tt,
        )

    kind_fits : (t : Tag) (new : Item) (r : Register) → (Has → AttrsHave T new.attrs) → Notes r.name_messages → Notes (with_kind t new r).name_messages
    kind_fits Problematic new r has e = e
    kind_fits SystemMessage new r has e = e
    kind_fits SubstitutionDefinition new r has e =
        all_append _ r.name_messages _ e (note_mapped _ (r.definitions (own_name new)) (λ n. note_fits [] Error (codes "Duplicate substitution definition name: \"") new refl has), tt)
    kind_fits Target new r has e =
        cond_both (is_alias new) (with_alias r) (with_named new r) (λ made. Notes made.name_messages) (λ _. all_append _ r.name_messages _ e (tt, tt)) (λ _. named_fits new r has e)
    kind_fits _ new r has e = named_fits new r has e

    all_fit : (xs : List Item) (r : Register) → (Has → AllByRecursion (λ (x : Item). AttrsHave T x.attrs) xs) → Notes r.name_messages → Notes (all_registered xs r).name_messages
    all_fit [] r has e = e
    all_fit (x ∷ xs) r has e = all_fit xs _ (λ given. (has given).1) (kind_fits x.tag x r (λ given. (has given).0) e)

    own_note : (os : List (Option Node)) (o : Option ℕ) → Notes os → Each 3 (option_to_list (option_and_then (message_on os) o))
    own_note os None e = tt
    own_note [] (Some i) e = tt
    own_note (o ∷ os) (Some zero) e = e.0
    own_note (o ∷ os) (Some (suc i)) e = own_note os (Some i) e.1

  pub names_fit : (h messages : ℕ) (document : Node)
      → let root = (registration messages document).root in
      (levels_by (h + 3) (document_in root).children ≤ levels_by h (document_in document).children + 3) × (AreFlat h (document_in document).children → AreFlat (h + 3) (document_in root).children) × (NodeHas T document → NodeHas T root)
  names_fit h messages (Text t) = (omega arith, λ flat. tt, λ has. has)
  names_fit h messages (Element t a c l) =
      let d : Node = Element t a c l in
      let r : Register = registered messages d in
      let g : Given = given r.standings r.numbers r.messages in
      let next = heeded_next is_registered left_after in
      let out = heeded_out is_registered with_given in
      let before : Given = next g (item t a l) in
      let x : Item = out g (item t a l) in
      let w = walked_same T next out (given_same T) h before c in
      let k : ℕ = levels_by h c + 3 in
      let notes = all_fit h (AreFlat h c) (NodeHas T d) (filter is_registered (node_items d)) (nothing_known messages) (λ has. all_filter _ is_registered (node_items d) (has.0, items_have T c has.1)) tt in
      let all = together h (AreFlat h c) (NodeHas T d) k _
      (filled_fits h (AreFlat h c) (NodeHas T d) (own_message (message_on r.name_messages)) (λ b. own_note h (AreFlat h c) (NodeHas T d) r.name_messages _ notes) k x.tag [] [] (beginning x.tag x.attrs)
      (walked next out before c) (omega (arith, w.0)) w.1 (λ has. w.2 has.1) tt tt (begin_fits h (AreFlat h c) (NodeHas T d) k x.tag x.attrs)).0 in
      (all.0, all.1, λ has. ((given_same T g (item t a l)).1 has.0, all.2 has))

pub names_low : (messages : ℕ) (document : Node) → node_height (registration messages document).root ≤ node_height document + 3
names_low messages document =
    let root : Node = (registration messages document).root in
    omega (arith, (names_fit any _ any_suited 0 messages document).0, (levels_low 3 (document_in root).children).0, (levels_low 0 (document_in document).children).1, document_low root, document_low document)
