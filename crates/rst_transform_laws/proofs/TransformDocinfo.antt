-- The bibliography adds at most three levels, those of a message in the body of a field, and its texts are parts of texts, names or fixed.
use Rattle.std.proofs.Common.{ℕ, ◌+◌, ◌-◌, ◌≤◌, Bool, true, false, List, [], ◌∷◌, ◌++◌, Option, Some, None, suc, arith, refl}
use Rattle.std.specs.Prelude.{◌==◌, ◌&&◌, if◌then◌else◌, codes, option_map, slice_get}
use Rattle.std.specs.List.{AllByRecursion, flat_map, list_any, remove, slice_split}
use Rattle.std.specs.Option.{IfSome, option_to_list}
use Rattle.std.specs.Str.{chars, trim}
use Rattle.std.proofs.lemmas.Bool.{cond_both}
use Rattle.rst_settings.specs.declared.Parts.{Parts}
use Rattle.rst_text.specs.Names.{identifier, name_in}
use Rattle.rst_tree.specs.declared.attrs.Attr.{Attr}
use Rattle.rst_tree.specs.declared.attrs.Value.TheVariants.{Text as Says, List as Listed}
use Rattle.rst_tree.specs.declared.key.Key.TheVariants.{Classes, XmlSpace}
use Rattle.rst_tree.specs.declared.node.Node.{Node}
use Rattle.rst_tree.specs.declared.node.Node.TheVariants.{Element, Text}
use Rattle.rst_tree.specs.declared.tag.Tag.{Tag}
use Rattle.rst_tree.specs.declared.tag.Tag.TheVariants.{Authors as IsAuthors, BulletList, Field as IsField, Paragraph, Topic as IsTopic}
use Rattle.rst_tree.specs.Forest.{Forest, bare, element, words, height}
use Rattle.rst_tree.specs.Nodes.{forest_of, nodes_of}
use Rattle.rst_tree.specs.Paths.{with_child}
use Rattle.rst_tree.specs.Tree.{text_all}
use Rattle.rst_transform_work.specs.declared.document.Document.{Document}
use Rattle.rst_transform_work.specs.declared.report.Report.{Report}
use Rattle.rst_transform_work.specs.Known.{Known}
use Rattle.rst_transform_work.specs.Reports.{report_node}
use Rattle.rst_transform_docinfo.specs.Authors.{all_paragraphs, and_author, author_named, by_form, named_by, names_in, parted, some_of}
use Rattle.rst_transform_docinfo.specs.declared.bibliography.Row.{Row}
use Rattle.rst_transform_docinfo.specs.declared.bibliography.Row.TheVariants.{Simple, Address, Authors as AreAuthors, Topic, Generic}
use Rattle.rst_transform_docinfo.specs.declared.bibliography.TopicKind.TheVariants.{Dedication, Abstract}
use Rattle.rst_transform_docinfo.specs.declared.field.Field.{Field}
use Rattle.rst_transform_docinfo.specs.Bibliography.{bibliographic_element, bibliography_row, fault_node, fault_report, generic_field, made, nodes_under_title, title_node, with_nonempty_class}
use Rattle.rst_transform_docinfo.specs.Docinfo.{first_named, leading_list, list_place, nodes_with_docinfo, replaced, with_docinfo}
use Rattle.rst_transform_docinfo.specs.Fields.{body_read, body_without_keywords, docinfo_field, field_read, first_text, lone_without_keywords, paragraph_without_keywords, in_paragraph, lone, lone_in, name_text, nodes_in, paragraph_in}
use Rattle.rst_transform_docinfo.specs.Gathered.{docinfo_nodes, gathered, gathered_by_form, has_keywords, if_field, info_nodes, is_further, none_yet, with_field, with_field_node, with_info, with_seen, Gathered}
use Rattle.rst_tree_laws.specs.Texts.{AttrsHave}
use Rattle.rst_tree_laws.proofs.Have.{text_in_has, with_attr_has}
use Rattle.rst_transform_laws.proofs.Held.{AllHeld, DocumentHeld, ForestHeld, Held, KnownHas, ReportsHave, held_forest, held_more, held_nodes, report_held, with_names_has}
use Rattle.rst_tree_laws.proofs.Lists.{all_append, all_drop, all_take}
use Rattle.rst_tree_laws.proofs.Properties.{Suited, fixed_has, name_in_has, trimmed_has}
use Rattle.rst_transform_laws.proofs.KeywordTexts.{text_kept}
use Rattle.rst_transform_laws.proofs.TransformLow.{all_at}

if_made : {A B : Type 0} (Q : A → Type 0) (R : B → Type 0) (f : A → B) → ((x : A) → Q x → R (f x)) → (o : Option A) → IfSome o Q → IfSome (option_map f o) R
if_made Q R f each None h = tt
if_made Q R f each (Some x) h = each x h

module _ (P : ℕ → Bool) (T : List ℕ → Type 0) (s : Suited P T) where
  -- ---- paragraphs and authors

  lone_held : (m : ℕ) (n : Node) → Held T m n → IfSome (lone_in n) (Held T m)
  lone_held m (Element t a (element u b c o bare) l) h = (omega (arith, h.0), (h.1.1.0, h.1.1.1))
  lone_held m (Element t a (words text bare) l) h = (omega (arith, h.0), h.1.1.0)
  lone_held m _ h = tt

  paragraph_held : (m : ℕ) (o : Option Node) → IfSome o (Held T m) → IfSome (in_paragraph o) (ForestHeld T m)
  paragraph_held m (Some (Element Paragraph a c l)) h = (omega (arith, h.0), h.1.1)
  paragraph_held m _ h = tt

  author_held : (m line : ℕ) (text : List ℕ) → T text → AllHeld T (m + 2) (author_named line text)
  author_held m line [] h = tt
  author_held m line (c ∷ cs) h = ((omega arith, (tt, (h, tt))), tt)

  parted_held : (m line : ℕ) (pieces : List (List ℕ)) → AllByRecursion T pieces → AllHeld T (m + 2) (flat_map (λ piece. author_named line (trim piece)) pieces)
  parted_held m line [] h = tt
  parted_held m line (piece ∷ more) h = all_append _ (author_named line (trim piece)) _ (author_held m line (trim piece) (trimmed_has P T s piece h.0)) (parted_held m line more h.1)

  names_held : (m line : ℕ) (text : List ℕ) → T text → AllHeld T (m + 2) (names_in line text)
  names_held m line text h =
      let by = λ (separator : ℕ) (low : separator ≤ 127). parted_held m line (slice_split (λ x. x == separator) text) (s.split separator text low h) in
      cond_both (list_any (λ x. x == 59) (chars text)) (parted line 59 text) (parted line 44 text) (AllHeld T (m + 2)) (λ _. by 59 (omega arith)) (λ _. by 44 (omega arith))

  named_held : (m line : ℕ) (c : Forest) (o : Option Node) → ForestHeld T m c → IfSome o (Held T m) → AllHeld T (m + 2) (named_by line c o)
  named_held m line c (Some (Text text)) h g = names_held m line text g.1
  named_held m line c _ h g = ((omega (arith, h.0), (tt, h.1)), tt)

  some_held : (m : ℕ) (ns : List Node) → AllHeld T m ns → IfSome (some_of ns) (AllHeld T m)
  some_held m [] h = tt
  some_held m (n ∷ ns) h = h

  item_held : (m line : ℕ) (o : Option Forest) (more : Option (List Node)) → IfSome o (ForestHeld T m) → IfSome more (AllHeld T (m + 2)) → IfSome (and_author line o more) (AllHeld T (m + 2))
  item_held m line (Some f) (Some ns) h g = ((omega (arith, h.0), (tt, h.1)), g)
  item_held m line _ _ h g = tt

  items_held : (m line : ℕ) (ns : List Node) → AllHeld T m ns → IfSome (all_paragraphs line ns) (AllHeld T (m + 2))
  items_held m line [] h = tt
  items_held m line (n ∷ ns) h = item_held m line (paragraph_in n) (all_paragraphs line ns) (paragraph_held m (lone_in n) (lone_held m n h.0)) (items_held m line ns h.1)

  authors_held : (m : ℕ) (plain : Bool) (line : ℕ) (o : Option Node) → IfSome o (Held T m) → IfSome (by_form plain line o) (AllHeld T (m + 2))
  authors_held m plain line (Some (Element Paragraph a c l)) h =
      let named = named_held m line c (lone c) (omega (arith, h.0), h.1.1) (lone_held m (Element Paragraph a c l) h) in
      let text = names_held m line (text_all c) (text_in_has T P s (Element Paragraph a c l) h.1) in
      some_held (m + 2) _ (cond_both plain (names_in line (text_all c)) (named_by line c (lone c)) (AllHeld T (m + 2)) (λ _. text) (λ _. named))
  authors_held m plain line (Some (Element BulletList a c l)) h = items_held m line (nodes_of c) (held_nodes T m c (omega (arith, h.0), h.1.1))
  authors_held m plain line _ h = tt

  nodes_in_held : (m : ℕ) (n : Node) → Held T m n → ForestHeld T m (nodes_in n)
  nodes_in_held m (Element t a c l) h = (omega (arith, h.0), h.1.1)
  nodes_in_held m (Text t) h = (omega arith, tt)

  -- ---- keywords

  value_held : (m : ℕ) (n : Node) → Held T m n → Held T m (paragraph_without_keywords n)
  value_held m (Element Paragraph a (words text bare) l) h = (omega (arith, h.0), (h.1.0, (text_kept P T s text h.1.1.0, tt)))
  value_held m n h = h

  lone_value_held : (m : ℕ) (ns : List Node) → AllHeld T m ns → AllHeld T m (lone_without_keywords ns)
  lone_value_held m (n ∷ []) h = (value_held m n h.0, tt)
  lone_value_held m ns h = h

  body_held : (m : ℕ) (n : Node) → Held T m n → Held T m (body_without_keywords n)
  body_held m (Element t a c l) h =
      let f = held_forest T (height c) _ (lone_value_held (height c) (nodes_of c) (held_nodes T (height c) c (omega arith, h.1.1))) in (omega (arith, f.0, h.0), (h.1.0, f.1))
  body_held m (Text t) h = h

  read_held : (m : ℕ) (keywords : Bool) (n : Node) → Held T m n → Held T m (body_read keywords n)
  read_held m true n h = body_held m n h
  read_held m false n h = h

  -- ---- what fields become

  first_has : (m : ℕ) (ns : List Node) → AllHeld T m ns → T (first_text ns)
  first_has m [] h = s.encoded [] tt
  first_has m (n ∷ ns) h = text_in_has T P s n h.0.1

  name_text_has : (m : ℕ) (first : Bool) (n : Node) → Held T m n → T (name_text first n)
  name_text_has m true n h = first_has m _ (held_nodes T m (nodes_in n) (nodes_in_held m n h))
  name_text_has m false n h = text_in_has T P s n h.1

  class_has : (name : List ℕ) (attrs : List Attr) → AttrsHave T attrs → AttrsHave T (with_nonempty_class name attrs)
  class_has [] attrs h = h
  class_has (c ∷ cs) attrs h = with_attr_has T Classes (Listed ((c ∷ cs) ∷ [])) attrs tt h

  topic_held : (m : ℕ) (text : List ℕ) (line : ℕ) (ns : List Node) → T text → AllHeld T (m + 2) ns → IfSome (nodes_under_title (title_node text line) ns) (ForestHeld T (m + 2))
  topic_held m text line [] h low = tt
  topic_held m text line (n ∷ ns) h low = held_forest T (m + 2) (title_node text line ∷ n ∷ ns) ((omega arith, (tt, (h, tt))), low)

  child_held : (k : ℕ) (x n : Node) → Held T 3 x → Held T (k - 1) n → Held T (k + 2) (with_child x n)
  child_held k x (Element t a c l) h g =
      let f = held_forest T (k + 1) (nodes_of c ++ x ∷ []) (all_append _ (nodes_of c) _ (held_nodes T (k + 1) c (omega (arith, g.0), g.1.1)) ((omega (arith, h.0, g.0), h.1), tt)) in (omega (arith, f.0), (g.1.0, f.1))
  child_held k x (Text t) h g = (omega arith, g.1)

  module _ (k first : ℕ) where
    abbrev GatheredHeld : Gathered → Type 0
    GatheredHeld g = AllHeld T (k + 3) g.info × AllHeld T (k + 3) (option_to_list g.dedication) × AllHeld T (k + 3) (option_to_list g.abstract) × ReportsHave T g.reports

    info_held : (n : Node) (g : Gathered) → Held T (k + 3) n → GatheredHeld g → GatheredHeld (with_info n g)
    info_held n g h w = (all_append _ g.info _ w.0 (h, tt), w.1, w.2, w.3)

    -- what becomes of a field, by what is made of it, if anything is
    by_held : (by : Option Node → Gathered) (o : Option Node) (further : Bool) → ((n : Node) → Held T (k + 3) n → GatheredHeld (by (Some n))) → GatheredHeld (by None) → IfSome o (Held T (k + 3)) → GatheredHeld (by (if further then None else o))
    by_held by o true some none h = none
    by_held by None false some none h = none
    by_held by (Some n) false some none h = some n h

    module _ (g : Gathered) (f : Field) (nm : List ℕ) (named : T nm) (name : Held T (k - 1) f.name) (body : Held T (k - 1) f.body) (attrs : AttrsHave T f.attrs) (w : GatheredHeld g) where
      made_held : (n : Node) → Held T (k + 3) n → GatheredHeld (with_info n g)
      made_held n h = info_held n g h w

      kept : (n : Node) → Held T (k + 2) n → GatheredHeld (with_info (generic_field nm (record f { body = n })) g)
      kept n h =
          let ns = held_forest T (k + 2) (f.name ∷ n ∷ []) ((omega (arith, name.0), name.1), (h, tt)) in
          made_held (generic_field nm (record f { body = n })) (omega (arith, ns.0), (class_has (identifier nm) f.attrs attrs, ns.1))

      abbrev report : Report
      report = fault_report first g.reports nm f.line

      fault : GatheredHeld (record (with_info (fault_node nm report f) g) { reports = g.reports ++ report ∷ [] })
      fault =
          let told : T report.text = s.append (codes "Bibliographic field \"") _ (fixed_has P T s _ refl) (s.append nm _ named (fixed_has P T s (codes "\" is not in its form.") refl)) in
          let still = kept (with_child (report_node report) f.body) (child_held k (report_node report) f.body (report_held T 3 report (omega arith) told) body) in
          (still.0, still.1, still.2, all_append _ g.reports _ w.3 (told, tt))

      made_of : (t : Tag) (a : List Attr) → AttrsHave T a → (o : Option Forest) → IfSome o (ForestHeld T (k + 2)) → IfSome (bibliographic_element t a f.line o) (Held T (k + 3))
      made_of t a own o = if_made (ForestHeld T (k + 2)) (Held T (k + 3)) (λ c. Element t a c f.line) (λ c h. (omega (arith, h.0), (own, h.1))) o

      simple : (t : Tag) (a : List Attr) → AttrsHave T a → IfSome (bibliographic_element t a f.line (paragraph_in f.body)) (Held T (k + 3))
      simple t a own = made_of t a own (paragraph_in f.body) (paragraph_held (k + 2) (lone_in f.body) (lone_held (k + 2) f.body (omega (arith, body.0), body.1)))

      topic : (text : List ℕ) → T text → IfSome (bibliographic_element IsTopic (with_nonempty_class nm f.attrs) f.line (nodes_under_title (title_node text f.line) (nodes_of (nodes_in f.body)))) (Held T (k + 3))
      topic text h =
          made_of IsTopic _ (class_has nm f.attrs attrs) _ (topic_held k text f.line _ h (held_nodes T (k + 2) (nodes_in f.body) (nodes_in_held (k + 2) f.body (omega (arith, body.0), body.1))))

      -- what becomes of a field by the row of its name
      abbrev RowHeld : Row → Type 0
      RowHeld row =
          ((n : Node) → Held T (k + 3) n → GatheredHeld (gathered_by_form first row nm f (Some n) (with_seen row g))) × GatheredHeld (gathered_by_form first row nm f None (with_seen row g))
          × IfSome (made g.parts.unmarked row nm f) (Held T (k + 3))

      row_held : (row : Row) → RowHeld row
      row_held (Simple t) = (made_held, fault, simple t f.attrs attrs)
      row_held Address = (made_held, fault, simple _ _ (with_attr_has T XmlSpace (Says (codes "preserve")) f.attrs tt attrs))
      row_held AreAuthors =
          (made_held, fault, made_of IsAuthors f.attrs attrs _ (if_made (AllHeld T (k + 2)) (ForestHeld T (k + 2)) forest_of (held_forest T (k + 2)) _ (authors_held k g.parts.unmarked f.line (lone_in f.body) (lone_held k f.body (omega (arith, body.0), body.1)))))
      row_held (Topic Dedication) = ((λ n h. (w.0, (h, tt), w.2, w.3)), fault, topic _ (fixed_has P T s (codes "Dedication") refl))
      row_held (Topic Abstract) = ((λ n h. (w.0, w.1, (h, tt), w.3)), fault, topic _ (fixed_has P T s (codes "Abstract") refl))
      row_held Generic = (made_held, kept f.body (omega (arith, body.0), body.1), tt)

    field_held : (g : Gathered) (f : Field) → Held T (k - 1) f.name → Held T (k - 1) f.body → AttrsHave T f.attrs → GatheredHeld g → GatheredHeld (with_field first f g)
    field_held g f name body attrs w =
        let nm : List ℕ = name_in (name_text g.parts.unmarked f.name) in
        let row : Row = bibliography_row nm in
        let read : Field = field_read (g.parts.keywords && has_keywords row) f in
        let held = row_held g read nm (name_in_has P T s _ (name_text_has (k - 1) g.parts.unmarked f.name name)) name (read_held (k - 1) (g.parts.keywords && has_keywords row) f.body body) attrs w row in
        by_held (λ o. gathered_by_form first row nm read o (with_seen row g)) (made g.parts.unmarked row nm read) (is_further row g) held.0 held.1 held.2

    parts_held : (n : Node) (a : List Attr) (ns : List Node) (l : ℕ) (g : Gathered) → Held T k n → AttrsHave T a → AllHeld T (k - 1) ns → GatheredHeld g → GatheredHeld (if_field first n (docinfo_field a ns l) g)
    parts_held n a (name ∷ body ∷ []) l g h attrs low w = field_held g _ low.0 low.1.0 attrs w
    parts_held n a _ l g h attrs low w = info_held n g (omega (arith, h.0), h.1) w

    node_held : (n : Node) (g : Gathered) → Held T k n → GatheredHeld g → GatheredHeld (with_field_node first n g)
    node_held (Element IsField a c l) g h w = parts_held (Element IsField a c l) a (nodes_of c) l g h h.1.0 (held_nodes T (k - 1) c (omega (arith, h.0), h.1.1)) w
    node_held n g h w = info_held n g (omega (arith, h.0), h.1) w

    gathered_held : (ns : List Node) (g : Gathered) → AllHeld T k ns → GatheredHeld g → GatheredHeld (gathered first g ns)
    gathered_held [] g h w = w
    gathered_held (n ∷ ns) g h w = gathered_held ns (with_field_node first n g) h.1 (node_held n g h.0 w)

  -- ---- the document

  infos_held : (m k line : ℕ) (ns : List Node) → m + 1 ≤ k → AllHeld T m ns → AllHeld T k (info_nodes line ns)
  infos_held m k line [] le h = tt
  infos_held m k line (n ∷ ns) le h = let f = held_forest T m (n ∷ ns) h in ((omega (arith, le, f.0), (tt, f.1)), tt)

  first_held : (m : ℕ) (from : List Attr) (ns : List Node) → AllHeld T m ns → AllHeld T m (first_named from ns)
  first_held m from [] h = tt
  first_held m from (Element t a c l ∷ ns) h = ((h.0.0, (with_names_has T from a h.0.1.0, h.0.1.1)), h.1)
  first_held m from (Text t ∷ ns) h = h

  module _ (parts : Parts) where
    list_held : (m first : ℕ) (reports : List Report) (n : Node) → Held T m n → ReportsHave T reports → let all = replaced parts first reports n in AllHeld T (m + 3) all.0 × ReportsHave T all.1
    list_held m first reports (Text t) h r = (tt, r)
    list_held m first reports (Element t a c l) h r =
        let g : Gathered = gathered first (none_yet parts reports) (nodes_of c) in
        let w = gathered_held (height c) first (nodes_of c) (none_yet parts reports) (held_nodes T (height c) c (omega arith, h.1.1)) (tt, tt, tt, r) in
        let topic = λ (o : Option Node). held_more T (height c + 3) (m + 3) (option_to_list o) (omega (arith, h.0)) in
        let all = all_append _ _ _ (all_append _ _ _ (infos_held (height c + 3) (m + 3) l g.info (omega (arith, h.0)) w.0) (topic g.dedication w.1)) (topic g.abstract w.2) in
        (first_held (m + 3) a (docinfo_nodes l g) all, w.3)

    all_held : (m first : ℕ) (reports : List Report) (o : Option Node) (ns : List Node) → AllHeld T m (option_to_list o) → AllHeld T m ns → ReportsHave T reports
        → let all = nodes_with_docinfo parts first reports o ns in AllHeld T (m + 3) all.0 × ReportsHave T all.1
    all_held m first reports None ns h low r = (held_more T m (m + 3) ns (omega arith) low, r)
    all_held m first reports (Some n) ns h low r =
        let rest : AllHeld T (m + 3) (remove ns (list_place ns)) = held_more T m (m + 3) _ (omega arith) (all_append _ _ _ (all_take _ (list_place ns) ns low) (all_drop _ (suc (list_place ns)) ns low)) in
        let list = list_held m first reports n h.0 r in
        (all_append _ _ _ (all_take _ _ _ rest) (all_append _ _ _ list.0 (all_drop _ _ _ rest)), list.1)

    pub docinfo_held : (m : ℕ) (document : Document) (known : Known) → DocumentHeld T m document → KnownHas T known → DocumentHeld T (m + 3) (with_docinfo parts document known).0 × KnownHas T (with_docinfo parts document known).1
    docinfo_held m document known h k =
        let ns : List Node = nodes_of document.children in
        let low : AllHeld T m ns = held_nodes T m document.children h.0 in
        let list : AllHeld T m (option_to_list (leading_list ns)) = cond_both _ (slice_get ns (list_place ns)) None (λ o. AllHeld T m (option_to_list o)) (λ _. all_at (Held T m) ns (list_place ns) low) (λ _. tt) in
        let all = all_held m known.first_number known.reports (leading_list ns) ns list low k in
        ((held_forest T (m + 3) _ all.0, h.1), all.1)
