-- The nodes of directives and of substitution definitions have at most two levels more than the blocks inside, and their texts have a property.
use Rattle.std.proofs.Common.{ℕ, ◌+◌, ◌≤◌, Bool, true, false, List, [], ◌∷◌, ◌++◌, drop, length, take, Option, None, Some, arith, refl}
use Rattle.std.specs.Prelude.{codes, encode_utf8_all, not, ◌&&◌, ◌==◌}
use Rattle.std.specs.List.{AllByRecursion, fold}
use Rattle.std.specs.Option.{IfSome, is_some, option_or}
use Rattle.std.specs.Str.{chars}
use Rattle.std.proofs.lemmas.Bool.{cond_both}
use Rattle.rst_settings.specs.declared.Parts.{Parts}
use Rattle.rst_text.specs.Block.{Block, first_number, first_text, first_parts}
use Rattle.rst_tree.specs.Attributes.{attr, value_of, with_attr, without_key}
use Rattle.rst_tree.specs.declared.attrs.Attr.{Attr}
use Rattle.rst_tree.specs.declared.attrs.Value.TheVariants.{Number, Text as TextValue}
use Rattle.rst_tree.specs.declared.key.Key.{Key}
use Rattle.rst_tree.specs.declared.key.Key.TheVariants.{Backlinks, Classes, Format, OwnName, TextMessages, Uri, XmlSpace}
use Rattle.rst_tree.specs.declared.node.Node.{Node}
use Rattle.rst_tree.specs.declared.node.Node.TheVariants.{Element, Text as Words}
use Rattle.rst_tree.specs.declared.note.Level.{Level}
use Rattle.rst_tree.specs.declared.note.Level.TheVariants.{Error, Warning}
use Rattle.rst_tree.specs.declared.tag.Tag.{Tag}
use Rattle.rst_tree.specs.declared.tag.Tag.TheVariants.{Admonition, BlockQuote, Caption as CaptionTag, Class, Comment, Contents, Figure as FigureTag, Image, Legend, Paragraph, SubstitutionDefinition, Subtitle as SubtitleTag, Title as TitleTag, Topic}
use Rattle.rst_tree.specs.Forest.{bare}
use Rattle.rst_tree.specs.Nodes.{forest_of}
use Rattle.rst_tree.specs.Tree.{text_in}
use Rattle.rst_text.specs.Names.{name_in}
use Rattle.rst_markup_blocks.specs.declared.forms.Invocation.{Invocation}
use Rattle.rst_markup_blocks.specs.Partition.{Span}
use Rattle.rst_markup_directives.specs.Argument.{ArgumentMeaning, title, uri, language, formats, classes}
use Rattle.rst_markup_directives.specs.declared.found.Content.{Content}
use Rattle.rst_markup_directives.specs.declared.found.Place.TheVariants.{Substitution}
use Rattle.rst_markup_directives.specs.declared.kind.ContentKind.{ContentKind}
use Rattle.rst_markup_directives.specs.declared.kind.ContentKind.TheVariants.{Marked, Verse, Formulas, Classed, Quotes, Entries}
use Rattle.rst_markup_directives.specs.declared.kind.QuoteClass.{QuoteClass}
use Rattle.rst_markup_directives.specs.declared.option.OptionName.{OptionName}
use Rattle.rst_markup_directives.specs.declared.option.OptionName.TheVariants.{Alt, Name, Subtitle}
use Rattle.rst_markup_directives.specs.Directive.{Read}
use Rattle.rst_markup_directives.specs.Call.{is_empty}
use Rattle.rst_markup_directives.specs.Kind.{has_blocks}
use Rattle.rst_markup_directives.specs.Message.{fault_level, fault_text}
use Rattle.rst_markup_directives.specs.Options.{OptionSetting}
use Rattle.rst_markup_directives.specs.Value.{Meaning}
use Rattle.rst_markup_directives.specs.Wrong.{Fault, disabled, inside as within, invalid_classes, no_content, no_rows, no_table, not_in_substitution, sidebar_not_here, unknown_directive}
use Rattle.rst_block_nodes.specs.Admonitions.{title_class}
use Rattle.rst_block_nodes.specs.Elements.{element_of, plain_node, preserving, substitution_definition_node, text_nodes}
use Rattle.rst_block_nodes.specs.Options.{body_attrs, given_attrs, image_node, link_attrs, link_chosen, link_meant, linked_by, literal_element, subtitle_chosen, subtitle_meant, with_alt, value_meant, with_value_at, with_choices, with_options, directive_element}
use Rattle.rst_block_nodes.specs.Readings.{read_nodes, read_notes, subtitled}
use Rattle.rst_block_nodes.specs.Formulas.{formula, formulas_from, parts_of}
use Rattle.rst_block_nodes.specs.Sections.{filled}
use Rattle.rst_block_nodes.specs.TableOfContents.{entries, is_local, table, table_attrs, table_of_contents, titled_table, uncounted, usual_title}
use Rattle.rst_block_nodes.specs.Targets.{may_replace}
use Rattle.rst_inline.specs.Elements.{handed_node}
use Rattle.rst_block_nodes.specs.Texts.{counting}
use Rattle.rst_block_nodes.specs.Values.{normalized, unescaped}
use Rattle.rst_block_state.specs.Directives.{closed_by, handed_directive, content_lines, content_nodes, definition_nodes, definition_or_error, directive_by, directive_nodes, element_by, faulty_name, first_paragraph, opened_by, right_nodes, substitution_nodes, marked_nodes, titled_element, titled_start, closed_with, title_text, verse_nodes, classed, class_nodes, completed, completed_by, table_directive, with_words, holding}
use Rattle.rst_block_state.specs.Figures.{figure_nodes, legend_nodes, message_count}
use Rattle.rst_block_state.specs.LineRuns.{number_or, verse_lines}
use Rattle.rst_block_state.specs.Numbered.{just}
use Rattle.rst_block_state.specs.Texts.{excerpt, joined, lines_in, message_with_lines, span_source, spelled, texted}
use Rattle.rst_block_state.specs.Within.{Within}
use Rattle.rst_tree_laws.specs.Texts.{AttrsHave, BlockKept, Kept, ValueHas, becomes_text}
use Rattle.rst_tree_index.specs.Classes.{classes_of, with_more_classes}
use Rattle.rst_tree_index.specs.Parsed.{levels_by}
use Rattle.rst_block_laws.proofs.DirectiveKinds.{FaultHas, ReadHas, called_has}
use Rattle.rst_block_laws.proofs.DirectiveTexts.{ChoiceHas, NameHas, quoted_has}
use Rattle.rst_block_laws.proofs.ElementFits.{read_fit}
use Rattle.rst_block_laws.proofs.MessageFits.{read_notes_fit}
use Rattle.rst_block_laws.proofs.Fits.{AllFit, Fits, counting_has, definition_fits, filled_fits, fit_forest, fit_more, fit_nodes, message_fits, open_fits}
use Rattle.rst_block_laws.proofs.Gives.{Gives, after, give, gives}
use Rattle.rst_tree_laws.proofs.Have.{text_in_has, with_attr_has, without_key_has}
use Rattle.rst_block_laws.proofs.TableDirectiveFits.{table_directive_fits}
use Rattle.rst_block_laws.proofs.LineFits.{texted_fit, line_block_fits, verse_kept, PairFits}
use Rattle.rst_block_laws.proofs.LineTexts.{excerpt_has, first_kept, joined_kept, lines_kept, source_has, spelled_has}
use Rattle.rst_tree_laws.proofs.Lists.{all_append, all_drop, all_take, all_map}
use Rattle.rst_tree_laws.proofs.Properties.{Suited, fixed_has, name_in_has, normalized_kept, onto_kept, unescaped_kept}
use Rattle.rst_block_laws.proofs.Weights.{HoldsAny, Open, light_at, open_counts}
use borrow.Author.Tests.{le-leb}

module _ (P : ℕ → Bool) (T : List ℕ → Type 0) (s : Suited P T) (c : Within) (k : ℕ) (some : 3 ≤ k) (nested : c.levels + 2 ≤ k) (inside : (B : Block) → BlockKept P B → Gives (AllFit T k) (c.inner B)) where
  fault_has : (fault : Fault) (name : List ℕ) → FaultHas P T s fault → T name → T (fault_text fault name)
  fault_has not_in_substitution name h k = quoted_has P T s (codes "Substitution definition \"") name (codes "\" may hold only image or replace.") refl refl k
  fault_has unknown_directive name h k = quoted_has P T s (codes "Unknown directive type \"") name (codes "\".") refl refl k
  fault_has (within w) name h k = s.append _ _ (quoted_has P T s (codes "Error in \"") name (codes "\" directive:\n") refl refl k) h
  fault_has sidebar_not_here name h k = quoted_has P T s (codes "The \"") name (codes "\" directive may not be used within topics or body elements.") refl refl k
  fault_has no_rows name h k = quoted_has P T s (codes "The \"") name (codes "\" directive is empty; content required.") refl refl k
  fault_has no_table name h k = quoted_has P T s (codes "Content block expected for the \"") name (codes "\" directive; none found.") refl refl k
  fault_has no_content name h k = quoted_has P T s (codes "Content block expected for the \"") name (codes "\" directive; none found.") refl refl k
  fault_has (invalid_classes text) name h k =
      s.append _ _ (fixed_has P T s (codes "Invalid class attribute value for \"") refl) (s.append name _ k (s.append _ _ (fixed_has P T s (codes "\" directive: \"") refl) (s.append _ _ h (fixed_has P T s (codes "\".") refl))))
  fault_has disabled name h k = quoted_has P T s (codes "\"") name (codes "\" directive disabled.") refl refl k
  fault_has _ name h k = fixed_has P T s _ refl

  -- ---- options and images

  -- attributes with those that options give, whichever attribute each of them gives
  chosen_has : (key : OptionName → Option Key) → ((option : OptionName) (m : Meaning) → NameHas P T s option m → IfSome (key option) (λ k. ValueHas T (becomes_text k) (value_meant m))) → (choices : List OptionSetting) (attrs : List Attr)
      → AllByRecursion (ChoiceHas P T s) choices → AttrsHave T attrs → AttrsHave T (fold (λ own choice. with_value_at (key choice.0) (value_meant choice.1) own) attrs choices)
  chosen_has key at [] attrs h own = own
  chosen_has key at (choice ∷ more) attrs h own =
      chosen_has key at more _ h.1 (elim (key choice.0) as (λ o. IfSome o (λ k. ValueHas T (becomes_text k) (value_meant choice.1)) → AttrsHave T (with_value_at o (value_meant choice.1) attrs)) [ None ↦ λ g. own | Some k ↦ λ g. with_attr_has T k (value_meant choice.1) attrs g own ] (at choice.0 choice.1 h.0.0))

  give_one : {n : Node} → Fits T (k + 2) n → Gives (AllFit T (k + 2)) (just (n ∷ []))
  give_one h = give (h, tt)

  -- an image, the reference round it, or a literal, which may be in a substitution definition
  abbrev ImageFits : Node → Type 0
  ImageFits n = Fits T 2 n × (levels_by 2 (forest_of (n ∷ [])) ≤ 2)

  linked_fits : (choices : List OptionSetting) (a : List Attr) (line : ℕ) → AllByRecursion (ChoiceHas P T s) choices → AttrsHave T a → ImageFits (linked_by (link_chosen choices) (Element Image a bare line) line)
  linked_fits [] a line h own = ((omega arith, (own, tt)), omega arith)
  linked_fits (choice ∷ more) a line h own = elim (link_meant choice.1) as (λ o. IfSome o (λ link. AttrsHave T (link_attrs link.0 link.1)) → ImageFits (linked_by (option_or o (link_chosen more)) (Element Image a bare line) line)) [
    | None ↦ λ k. linked_fits more a line h.1 own
    | Some link ↦ λ k. ((omega arith, (k, (own, tt, tt))), omega arith)
  ] h.0.1

  image_fits : (address : List ℕ) (choices : List OptionSetting) (line : ℕ) (figure : Bool) (alt : _) → AllByRecursion (ChoiceHas P T s) choices → AttrsHave T (with_alt alt (attr Uri (TextValue address) ∷ [])) → ImageFits (linked_by (link_chosen choices) (image_node address choices line figure alt) line)
  image_fits address choices line true alt h own = linked_fits choices _ line h (chosen_has _ (elim [ Name ↦ λ m h. h | Alt ↦ λ m h. h | _ ↦ λ m h. tt ]) choices (with_alt alt (attr Uri (TextValue address) ∷ [])) h own)
  image_fits address choices line false alt h own = linked_fits choices _ line h (chosen_has _ (elim [ Name ↦ λ m h. h | Alt ↦ λ m h. h | _ ↦ λ m h. tt ]) choices (with_alt alt (attr Uri (TextValue address) ∷ [])) h own)

  content_kept : (B : Block) (content : Content) → BlockKept P B → BlockKept P (content_lines B content)
  content_kept B content b = all_append _ (lines_in B content.first) (lines_in B content.second) (lines_kept P B content.first b) (lines_kept P B content.second b)

  given_has : (given : ArgumentMeaning) (attrs : List Attr) → AttrsHave T attrs → AttrsHave T (given_attrs given attrs)
  given_has (language word) attrs own = with_attr_has T Classes _ _ tt (without_key_has T Classes attrs own)
  given_has (formats text) attrs own = with_attr_has T Format _ attrs tt own
  given_has (classes text (Some ids)) attrs own = with_attr_has T Classes _ attrs tt own
  given_has _ attrs own = own

  body_has : (read : Read) (attrs : List Attr) → ReadHas P T s read → AttrsHave T attrs → AttrsHave T (body_attrs read.options attrs)
  body_has read attrs h own = chosen_has _ (elim [ Name ↦ λ m h. h | _ ↦ λ m h. tt ]) read.options attrs h.1 own

  literal_fits : (given : ArgumentMeaning) (B : Block) (line : ℕ) (read : Read) → BlockKept P B → ReadHas P T s read → ImageFits (literal_element read.kind.element given read.options (spelled (content_lines B read.content)) line)
  literal_fits given B line read b h =
      let plain = open_counts read.kind.element 2 h.0 in
      let own : AttrsHave T (given_attrs given (body_attrs read.options preserving)) = given_has given (body_attrs read.options preserving) (body_has read preserving h (tt, tt)) in
      elim (spelled (content_lines B read.content)) as (λ t. T t → ImageFits (element_of read.kind.element (given_attrs given (body_attrs read.options preserving)) (text_nodes t) line)) [
        | [] ↦ λ k. (open_fits T read.kind.element _ line 1 2 [] h.0 own tt (omega arith), omega (arith, plain))
        | b ∷ bs ↦ λ k. (open_fits T read.kind.element _ line 1 2 (text_nodes (b ∷ bs)) h.0 own ((omega arith, k), tt) (omega arith), omega (arith, plain))
      ] (spelled_has P T s _ (content_kept B read.content b))

  element_fits : (given : ArgumentMeaning) (alt : Option (List ℕ)) (B : Block) (line : ℕ) (read : Read) → IfSome alt T → BlockKept P B → ReadHas P T s read → ImageFits (element_by given alt B line read)
  element_fits (uri address) alt B line read t b h = image_fits (encode_utf8_all address) read.options line false alt h.1 (elim alt as (λ alt. IfSome alt T → AttrsHave T (with_alt alt (attr Uri (TextValue (encode_utf8_all address)) ∷ []))) [ None ↦ λ k. (tt, tt) | Some name ↦ λ k. (k, (tt, tt)) ] t)
  element_fits given alt B line read t b h = literal_fits given B line read b h

  -- the text of a directive
  marked_fits : (parts : Parts) (literal : Bool) (line : ℕ) (read : Read) (text : Block) → BlockKept P text → ReadHas P T s read → Gives (AllFit T (k + 2)) (marked_nodes parts literal line read text)
  marked_fits parts literal line read text b h =
      let kept : Kept P (joined text) = joined_kept P T s text b in
      gives (λ n.
      let count : ℕ = length (read_notes parts (joined text) line n) in
      let white = with_attr_has T XmlSpace (TextValue (codes "preserve")) (counting count) tt (counting_has T count) in
      let own = body_has read _ h (cond_both literal _ (counting count) (AttrsHave T) (λ e. white) (λ e. counting_has T count)) in
      let heading = open_fits T read.kind.element _ line 3 (k + 2) (read_nodes parts (joined text) line n) h.0 own (read_fit P T s parts _ _ n kept) (omega arith) in
      (heading, read_notes_fit P T s (k + 2) (omega arith) parts _ _ n kept))

  titled_fits : (tag t : Tag) (a : List Attr) (line : ℕ) (heading : Node) (more : List Node) → Open t → AttrsHave T a → AllFit T (k + 1) more → Fits T (k + 2) (filled (titled_element tag (Element t a bare line) heading) more)
  titled_fits Admonition t a line heading more any own h = open_fits T t _ line (k + 1) (k + 2) more any (cond_both (is_some (value_of Classes a)) a (with_attr Classes (title_class heading) a) (AttrsHave T) (λ e. own) (λ e. with_attr_has T Classes _ a tt own)) h (omega arith)
  titled_fits _ t a line heading more any own h = open_fits T t a line (k + 1) (k + 2) more any own h (omega arith)

  titled_open : (tag t : Tag) (a : List Attr) (line : ℕ) (heading : Node) (more : List Node) → Open t → HoldsAny (filled (titled_element tag (Element t a bare line) heading) more)
  titled_open Admonition t a line heading more any = any
  titled_open _ t a line heading more any = any

  -- a subtitle
  meant_has : (option : OptionName) (m : Meaning) → NameHas P T s option m → IfSome (subtitle_meant option m) (Kept P)
  meant_has Subtitle m h = h
  meant_has _ m h = tt

  subtitle_has : (choices : List OptionSetting) → AllByRecursion (ChoiceHas P T s) choices → IfSome (subtitle_chosen choices) (Kept P)
  subtitle_has [] h = tt
  subtitle_has (choice ∷ more) h = elim (subtitle_meant choice.0 choice.1) as (λ o. IfSome o (Kept P) → IfSome (option_or o (subtitle_chosen more)) (Kept P)) [
    | None ↦ λ k. subtitle_has more h.1
    | Some t ↦ λ k. k
  ] (meant_has choice.0 choice.1 h.0.0)

  subtitle_fits : (parts : Parts) (t : Option (List ℕ)) (line : ℕ) → IfSome t (Kept P) → Gives (λ made. AllFit T (k + 1) made.0 × AllFit T 3 made.1) (subtitled parts t line)
  subtitle_fits parts None line h = give (tt, tt)
  subtitle_fits parts (Some t) line h =
      let read : Gives (PairFits P T s (k + 1) 3) (texted parts SubtitleTag line t line) = gives (λ n. texted_fit P T s parts (k + 1) 3 (omega arith) (omega arith) SubtitleTag line t line n (λ c. refl) h) in
      after read (λ (made : Node × List Node) own. give {a = (made.0 ∷ [], made.1)} ((own.0, tt), own.1))

  -- what a directive begins with that has a title
  start_fits : (line : ℕ) (read : Read) (lines : Block) → BlockKept P lines → ReadHas P T s read → Gives (λ n. HoldsAny n × Fits T (k + 2) n) (titled_start line read lines)
  start_fits line read lines b h =
      let parts : Parts = first_parts lines in
      let at : ℕ = number_or line lines in
      let read_title : Gives (PairFits P T s (k + 1) 3) (texted parts TitleTag at (joined lines) at) = gives (λ n. texted_fit P T s parts (k + 1) 3 (omega arith) (omega arith) TitleTag at (joined lines) at n (λ c. refl) (joined_kept P T s lines b)) in
      after read_title
      (λ (made : Node × List Node) own. after (subtitle_fits parts (subtitle_chosen read.options) line (subtitle_has read.options h.1))
      (λ (more : List Node × List Node) others.
      let first = all_append (Fits T (k + 1)) more.0 made.1 others.0 (fit_more T 3 (k + 1) made.1 (omega arith) own.1) in
      let inside : AllFit T (k + 1) (made.0 ∷ more.0 ++ made.1 ++ more.1) = (own.0, all_append (Fits T (k + 1)) (more.0 ++ made.1) more.1 first (fit_more T 3 (k + 1) more.1 (omega arith) others.1)) in
      let node : Node = filled (titled_element read.kind.element (directive_element read.kind.element read.argument read.options line) made.0) (made.0 ∷ more.0 ++ made.1 ++ more.1) in
      give {a = node} (
        titled_open read.kind.element read.kind.element _ line made.0 _ h.0,
        titled_fits read.kind.element read.kind.element _ line made.0 _ h.0 (given_has read.argument _ (body_has read [] h tt)) inside,
      )))

  first_fit : (ns : List Node) → AllFit T k ns → AllFit T k (first_paragraph ns)
  first_fit [] h = tt
  first_fit (Element Paragraph a content line ∷ ns) h = fit_nodes T k content (omega (arith, h.0.0), h.0.1.1)
  first_fit (Element _ a content line ∷ ns) h = first_fit ns h.1
  first_fit (Words t ∷ ns) h = first_fit ns h.1

  legend_fit : (ns : List Node) → AllFit T k ns → AllFit T (k + 1) (legend_nodes ns)
  legend_fit [] h = tt
  legend_fit (n ∷ ns) h = (open_fits T Legend [] 0 k (k + 1) (n ∷ ns) (λ c. refl) tt h (omega arith), tt)

  figure_fit : (figure error : Node) (ns : List Node) → HoldsAny figure → Fits T (k + 2) figure → Fits T (k + 2) error → AllFit T k ns → AllFit T (k + 2) (figure_nodes figure error ns)
  figure_fit figure error (Element Paragraph a content line ∷ ns) any f e h = (
    filled_fits T figure (Element CaptionTag (without_key Classes a) content line ∷ legend_nodes (drop (message_count a) ns)) (k + 1) (k + 2) any f ((omega (arith, h.0.0), (without_key_has T Classes a h.0.1.0, h.0.1.1)), legend_fit (drop (message_count a) ns) (all_drop _ (message_count a) ns h.1)) (omega arith),
    fit_more T k (k + 2) (take (message_count a) ns) (omega arith) (all_take _ (message_count a) ns h.1),
  )
  figure_fit figure error (Element Comment a bare line ∷ ns) any f e h = (filled_fits T figure (legend_nodes ns) (k + 1) (k + 2) any f (legend_fit ns h.1) (omega arith), tt)
  figure_fit figure error [] any f e h = (f, tt)
  figure_fit figure error (n ∷ ns) any f e h = (f, (e, tt))

  content_fit : (B : Block) (content : Content) → BlockKept P B → Gives (AllFit T k) (content_nodes c B content)
  content_fit B content b = after (inside _ (lines_kept P B content.first b)) (λ nodes low. after (inside _ (lines_kept P B content.second b)) (λ more rest. give (all_append _ nodes more low rest)))

  -- a directive's element with its content, block quotes with their class, or nodes with the words of `class`
  classes_have : (more : List (List ℕ)) (a : List Attr) → AttrsHave T a → AttrsHave T (with_more_classes more a)
  classes_have more a h = with_attr_has T Classes _ _ tt (without_key_has T Classes a h)

  classed_fits : (class : QuoteClass) (n : Node) → Fits T k n → Fits T (k + 2) (classed class n)
  classed_fits class (Element BlockQuote a content line) h = (omega (arith, h.0), (classes_have _ a h.1.0, h.1.1))
  classed_fits class (Element _ a content line) h = (omega (arith, h.0), h.1)
  classed_fits class (Words t) h = (omega (arith, h.0), h.1)

  words_fit : (words : List (List ℕ)) (n : Node) → Fits T k n → Fits T (k + 2) (with_words words n)
  words_fit words (Element Class a content line) h = (omega (arith, h.0), h.1)
  words_fit words (Element _ a content line) h = (omega (arith, h.0), (classes_have words a h.1.0, h.1.1))
  words_fit words (Words t) h = (omega (arith, h.0), h.1)

  lines_fit : (lines : List ℕ) → T lines → AllFit T 1 (text_nodes lines)
  lines_fit [] l = tt
  lines_fit (b ∷ bs) l = ((omega arith, l), tt)

  class_fit : (empty : Bool) (t : Tag) (a : List Attr) (line : ℕ) (lines : List ℕ) (nodes : List Node) → Open t → AttrsHave T a → T lines → AllFit T k nodes → AllFit T (k + 2) (class_nodes empty (Element t a bare line) lines nodes)
  class_fit true t a line lines nodes any own l low =
      let element = open_fits T t a line 1 (k + 2) (text_nodes lines) any own (lines_fit lines l) (omega (arith, some)) in
      (filled_fits T (Element t a (forest_of (text_nodes lines)) line) nodes k (k + 2) any element low (omega arith), tt)
  class_fit false t a line lines nodes any own l low = all_map (Fits T k) (Fits T (k + 2)) (with_words (classes_of (Element t a bare line))) (words_fit (classes_of (Element t a bare line))) nodes low

  -- an element that may begin with a title, or the table that the nodes of its content make
  completed_fit : (content : ContentKind) (options : List OptionSetting) (start : Node) (line : ℕ) (lines : List ℕ) (nodes : List Node) → HoldsAny start → Fits T (k + 2) start → T lines → AllFit T k nodes
      → AllFit T (k + 2) (completed content options start line lines nodes)
  completed_fit content options start line lines nodes any own l low = elim (table_directive content) as (λ d. AllFit T (k + 2) (completed_by d options start line lines nodes)) [
    | None ↦ (filled_fits T start nodes k (k + 2) any own low (omega arith), tt)
    | Some directive ↦ table_directive_fits P T s k some directive line lines start _ nodes any own l low
  ]

  holding_fit : (content : ContentKind) (options : List OptionSetting) (empty : Bool) (t : Tag) (a : List Attr) (line at : ℕ) (lines : List ℕ) (nodes : List Node) → Open t → AttrsHave T a → T lines → AllFit T k nodes
      → AllFit T (k + 2) (holding content options empty (Element t a bare line) at lines nodes)
  holding_fit (Quotes class) options empty t a line at lines nodes any own l low = all_map (Fits T k) (Fits T (k + 2)) (classed class) (classed_fits class) nodes low
  holding_fit Classed options empty t a line at lines nodes any own l low = class_fit empty t a line lines nodes any own l low
  holding_fit content options empty t a line at lines nodes any own l low =
      completed_fit content options (Element t a bare line) at lines nodes any (open_fits T t a line 0 (k + 2) [] any own tt (omega arith)) l low

  opened_fits : (a : ArgumentMeaning) (B : Block) (line : ℕ) (read : Read) (lines : List ℕ) → BlockKept P B → ReadHas P T s read → T lines → Gives (AllFit T (k + 2)) (opened_by a c B line read lines)
  opened_fits (title part) B line read lines b h l =
      after (start_fits line read (lines_in B part) (lines_kept P B part b) h)
      (λ start own. after (content_fit B read.content b) (λ nodes low. give (completed_fit read.kind.content read.options start line lines nodes own.0 own.1 l low)))
  opened_fits (uri address) B line read lines b h l =
      let image = image_fits (encode_utf8_all address) read.options line true None h.1 (tt, tt) in
      after (content_fit B read.content b) (λ nodes low. give (figure_fit _ _ nodes (λ c. refl) (open_fits T FigureTag _ line 2 (k + 2) (_ ∷ []) (λ c. refl) (chosen_has _ (elim [ Name ↦ λ m h. tt | _ ↦ λ m h. tt ]) read.options [] h.1 tt) (image.0, tt) (omega arith))
      (message_fits T (k + 2) (omega arith) Error line _ (Some lines) (fixed_has P T s _ refl) l) low))
  opened_fits _ B line read lines b h l =
      after (content_fit B read.content b) (λ nodes low. give (holding_fit read.kind.content read.options (is_empty read.content) read.kind.element _ line line lines nodes h.0 (given_has read.argument _ (body_has read [] h tt)) l low))

  -- the line block of a directive
  optioned_fits : (read : Read) (j : ℕ) (n : Node) → ReadHas P T s read → Fits T j n → Fits T j (with_options false read.options n)
  optioned_fits read j (Element t a content line) h f = (f.0, (body_has read a h f.1.0, f.1.1))
  optioned_fits read j (Words t) h f = f

  verse_fits : (read : Read) (B : Block) → BlockKept P B → ReadHas P T s read → Gives (AllFit T (k + 2)) (verse_nodes c.levels read B)
  verse_fits read B b h =
      after (line_block_fits P T s c.levels (verse_lines 0 B) (verse_kept P T s 0 B b))
      (λ made own. give (optioned_fits read (k + 2) made.0 h (omega (arith, own.0.0), own.0.1), fit_more T 3 (k + 2) made.1 (omega arith) own.1))

  -- formulas
  parts_kept : (t : List ℕ) → Kept P t → AllByRecursion (Kept P) (parts_of t)
  parts_kept [] h = (tt, tt)
  parts_kept (ch ∷ []) h = ((h.0, tt), tt)
  parts_kept (ch ∷ d ∷ cs) h =
      cond_both (ch == 10 && d == 10) _ _ (AllByRecursion (Kept P)) (λ e. (tt, parts_kept cs h.1.1)) (λ e. onto_kept P ch (parts_of (d ∷ cs)) h.0 (parts_kept (d ∷ cs) h.1))

  formula_fits : (holder : _) (line : ℕ) (read : Read) (text : List ℕ) → Kept P text → ReadHas P T s read → AttrsHave T (with_choices holder read.options preserving)
      → Fits T (k + 2) (formula holder read.kind.element read.options line text)
  formula_fits holder line read text b h own =
      elim (encode_utf8_all text) as (λ t. T t → Fits T (k + 2) (element_of read.kind.element (with_choices holder read.options preserving) (text_nodes t) line)) [
        | [] ↦ λ e. open_fits T read.kind.element _ line 1 (k + 2) [] h.0 own tt (omega arith)
        | d ∷ ds ↦ λ e. open_fits T read.kind.element _ line 1 (k + 2) (text_nodes (d ∷ ds)) h.0 own ((omega arith, e), tt) (omega arith)
      ] (s.encoded text b)

  formulas_fit : (holder : _) (line : ℕ) (read : Read) (parts : List (List ℕ)) → AllByRecursion (Kept P) parts → ReadHas P T s read → AttrsHave T (with_choices holder read.options preserving)
      → AllFit T (k + 2) (formulas_from holder read.kind.element read.options line parts)
  formulas_fit holder line read [] b h own = tt
  formulas_fit holder line read ([] ∷ parts) b h own = formulas_fit holder line read parts b.1 h own
  formulas_fit holder line read ((ch ∷ cs) ∷ parts) b h own = (formula_fits holder line read (ch ∷ cs) b.0 h own, formulas_fit _ line read parts b.1 h (chosen_has _ (elim [ Name ↦ λ m h. tt | _ ↦ λ m h. tt ]) read.options preserving h.1 (tt, tt)))

  closed_one : (given : ArgumentMeaning) (B : Block) (line : ℕ) (read : Read) → BlockKept P B → ReadHas P T s read → Gives (AllFit T (k + 2)) (just (element_by given None B line read ∷ []))
  closed_one given B line read b h = let own = element_fits given None B line read tt b h in give_one (omega (arith, own.0.0), own.0.1)

  argued_fits : (a : ArgumentMeaning) (B : Block) (line : ℕ) (read : Read) → BlockKept P B → ReadHas P T s read → Gives (AllFit T (k + 2)) (closed_by a B line read)
  argued_fits (title part) B line read b h = marked_fits (first_parts B) false line read _ (lines_kept P B part b) h
  argued_fits a B line read b h = closed_one a B line read b h

  -- a table of contents
  entries_fit : (read : Read) (line : ℕ) → ReadHas P T s read → Fits T (k + 1) (entries read.options line)
  entries_fit read line h = open_fits T Contents _ line 0 (k + 1) [] (λ c. refl) (chosen_has _ (elim [ Name ↦ λ m h. tt | _ ↦ λ m h. tt ]) read.options (attr Backlinks (TextValue (codes "entry")) ∷ []) h.1 (tt, tt)) tt (omega arith)

  table_has : (read : Read) (text : List ℕ) (notes : ℕ) → ReadHas P T s read → T text → AttrsHave T (table_attrs read.options text notes)
  table_has read text notes h t =
      with_attr_has T TextMessages (Number notes) _ tt (with_attr_has T OwnName (TextValue (name_in text)) _ (name_in_has P T s text t) (with_attr_has T Classes _ _ tt (without_key_has T Classes _ (body_has read [] h tt))))

  table_fits : (read : Read) (nodes : List Node) (text : List ℕ) (notes line : ℕ) → ReadHas P T s read → AllFit T (k + 1) nodes → T text → Fits T (k + 2) (table read.options nodes text notes line)
  table_fits read nodes text notes line h own t =
      open_fits T Topic (table_attrs read.options text notes) line (k + 1) (k + 2) (nodes ++ entries read.options line ∷ []) (λ c. refl) (table_has read text notes h t) (all_append (Fits T (k + 1)) nodes (entries read.options line ∷ []) own (entries_fit read line h, tt)) (omega arith)

  uncounted_fits : (j : ℕ) (n : Node) → Fits T j n → Fits T j (uncounted n)
  uncounted_fits j (Element t a content line) h = (h.0, (without_key_has T TextMessages a h.1.0, h.1.1))
  uncounted_fits j (Words t) h = h

  contents_fit : (parts : Parts) (text : Option (List ℕ)) (line : ℕ) (read : Read) → IfSome text (Kept P) → ReadHas P T s read → Gives (AllFit T (k + 2)) (table_of_contents parts read.options text line)
  contents_fit parts None line read t h =
      let usual : T usual_title = fixed_has P T s usual_title refl in
      let heading : Fits T (k + 1) (plain_node TitleTag line usual_title) = open_fits T TitleTag [] line 1 (k + 1) (text_nodes usual_title) (λ c. refl) tt ((omega arith, usual), tt) (omega arith) in
      let nodes = cond_both (not (is_local read.options)) (plain_node TitleTag line usual_title ∷ []) [] (AllFit T (k + 1)) (λ e. (heading, tt)) (λ e. tt) in
      give_one (table_fits read _ usual_title 0 line h nodes usual)
  contents_fit parts (Some text) line read t h =
      let read_title : Gives (PairFits P T s (k + 1) 3) (texted parts TitleTag line text line) = gives (λ n. texted_fit P T s parts (k + 1) 3 (omega arith) (omega arith) TitleTag line text line n (λ c. refl) t) in
      after read_title (λ (made : Node × List Node) own.
      let table = table_fits read (uncounted made.0 ∷ []) (text_in made.0) (length made.1) line h (uncounted_fits (k + 1) made.0 own.0, tt) (text_in_has T P s made.0 own.0.1) in
      give {a = titled_table read.options made.0 (length made.1) line ∷ made.1} (table, fit_more T 3 (k + 2) made.1 (omega arith) own.1))

  title_kept : (given : ArgumentMeaning) (B : Block) → BlockKept P B → IfSome (title_text given B) (Kept P)
  title_kept (title part) B b = joined_kept P T s (lines_in B part) (lines_kept P B part b)
  title_kept _ B b = tt

  closed_fits : (content : ContentKind) (B : Block) (line : ℕ) (read : Read) → BlockKept P B → ReadHas P T s read → Gives (AllFit T (k + 2)) (closed_with content c.levels B line read)
  closed_fits Marked B line read b h = marked_fits (first_parts B) true line read _ (content_kept B read.content b) h
  closed_fits Verse B line read b h = verse_fits read _ (content_kept B read.content b) h
  closed_fits Formulas B line read b h = give (formulas_fit _ line read _ (parts_kept _ (joined_kept P T s _ (content_kept B read.content b))) h (body_has read preserving h (tt, tt)))
  closed_fits Entries B line read b h = contents_fit (first_parts B) (title_text read.argument B) line read (title_kept read.argument B b) h
  closed_fits _ B line read b h = argued_fits read.argument B line read b h

  right_fits : (B : Block) (line : ℕ) (read : Read) (lines : List ℕ) → BlockKept P B → ReadHas P T s read → T lines → Gives (AllFit T (k + 2)) (right_nodes c B line read lines)
  right_fits B line read lines b h l = cond_both (has_blocks read.kind.content) _ _ (Gives (AllFit T (k + 2))) (λ e. opened_fits read.argument B line read lines b h l) (λ e. closed_fits read.kind.content B line read b h)

  shown_fits : (level : Level) (B : Block) (g : Span) (text : List ℕ) → BlockKept P B → T text → Gives (AllFit T (k + 2)) (just (message_with_lines level (first_number (drop g.start B)) text (span_source B g) ∷ []))
  shown_fits level B g text b h = give_one (message_fits T (k + 2) (omega arith) level (first_number (drop g.start B)) text (Some (span_source B g)) h (source_has P T s B g b))

  -- a directive that is handed back, which may be in a substitution definition
  handed_fits : (B : Block) (g : Span) (name : List ℕ) → BlockKept P B → ImageFits (handed_directive B g name)
  handed_fits B g name b = elim (chars (span_source B g)) as (λ t. Kept P t → ImageFits (handed_node (codes "directive") name t (first_number (drop g.start B)))) [
    | [] ↦ λ k. ((omega arith, ((tt, (tt, (tt, tt))), tt)), omega arith)
    | c ∷ cs ↦ λ k. ((omega arith, ((tt, (tt, (tt, tt))), (s.encoded (c ∷ cs) k, tt))), omega arith)
  ] (s.decoded (span_source B g) (source_has P T s B g b))

  pub directive_fits : (B : Block) (g : Span) (call : Invocation) → BlockKept P B → Gives (AllFit T (k + 2)) (directive_nodes c B g call)
  directive_fits B g call b =
      called_has P T s c B g.start call _ b (λ o. Gives (AllFit T (k + 2)) (directive_by o c B g (excerpt (first_text (drop g.start B)) call.name)))
      (λ read h. right_fits B (first_number (drop g.start B)) read (span_source B g) b h (source_has P T s B g b))
      (let own = handed_fits B g (excerpt (first_text (drop g.start B)) call.name) b in give_one (omega (arith, own.0.0), own.0.1))
      (λ fault part h. shown_fits (fault_level fault) B g _ b (fault_has fault _ h (excerpt_has P T s (first_text (drop g.start B)) call.name (first_kept P (drop g.start B) (all_drop _ g.start B b)))))

  -- ---- substitution definitions

  held_fit : (name : List ℕ) (line : ℕ) (held : Node) → T name → ImageFits held → Gives (AllFit T (k + 2)) (just (filled (substitution_definition_node name line) (held ∷ []) ∷ []))
  held_fit name line held n image =
      let own = fit_forest T 2 (held ∷ []) (image.0, tt) in give_one (light_at SubstitutionDefinition _ (k + 2) (le-leb _ 2 image.1) (omega (arith, own.0)), ((n, tt), own.1))

  definition_fit : (B : Block) (line : ℕ) (name : List ℕ) (read : Read) (lines : List ℕ) → BlockKept P B → ReadHas P T s read → T name → T lines → Gives (AllFit T (k + 2)) (definition_nodes c B line name read lines)
  definition_fit B line name read lines b h n l = cond_both (has_blocks read.kind.content) _ _ (Gives (AllFit T (k + 2)))
      (λ e. after (content_fit B read.content b) (λ nodes low. let own = first_fit nodes low in give_one (cond_both (may_replace (first_paragraph nodes)) _ _ (Fits T (k + 2))
      (λ e. (omega (arith, definition_fits T k (first_paragraph nodes) own e), ((n, tt), (fit_forest T k (first_paragraph nodes) own).1)))
      (λ e. message_fits T (k + 2) (omega arith) Error line _ (Some lines) (s.append _ _ (quoted_has P T s (codes "Substitution definition \"") name (codes "\"") refl refl n) (fixed_has P T s _ refl)) l))))
      (λ e. held_fit name line _ n (element_fits read.argument (Some name) B line read n b h))

  normalized_has : (t : List ℕ) → T t → T (normalized (unescaped t))
  normalized_has t h = s.encoded _ (normalized_kept P T s _ (s.decoded (unescaped t) (s.encoded _ (unescaped_kept P (chars t) (s.decoded t h)))))

  pub substitution_fits : (B : Block) (g : Span) (name : List ℕ) (embedded : Option Invocation) → BlockKept P B → T name → Gives (AllFit T (k + 2)) (substitution_nodes c B g name embedded)
  substitution_fits B g written None b n = shown_fits Warning B g _ b (s.append _ _ (quoted_has P T s (codes "Substitution definition \"") _ (codes "\"") refl refl (normalized_has written n)) (fixed_has P T s _ refl))
  substitution_fits B g written (Some call) b n =
      let name : List ℕ = normalized (unescaped written) in
      called_has P T s c B g.start call Substitution b (λ o. Gives (AllFit T (k + 2)) (definition_or_error o c B g name (excerpt (first_text (drop g.start B)) call.name)))
      (λ read h. definition_fit B (first_number (drop g.start B)) name read (span_source B g) b h (normalized_has written n) (source_has P T s B g b))
      (let own : List ℕ = excerpt (first_text (drop g.start B)) call.name in
      held_fit name (first_number (drop g.start B)) (handed_directive B g own) (normalized_has written n) (handed_fits B g own b))
      (λ fault part h. shown_fits (fault_level fault) B g _ b (fault_has fault _ h (elim fault as (λ f. T (faulty_name f name (excerpt (first_text (drop g.start B)) call.name))) [ not_in_substitution ↦ normalized_has written n | _ ↦ excerpt_has P T s (first_text (drop g.start B)) call.name (first_kept P (drop g.start B) (all_drop _ g.start B b)) ])))
