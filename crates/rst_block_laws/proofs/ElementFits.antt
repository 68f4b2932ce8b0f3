-- Elements that hold no blocks have few levels, and their texts have a property.
use Rattle.std.proofs.Common.{ℕ, ◌≤◌, Bool, List, [], ◌∷◌, drop, length, Option, None, Some, arith, refl}
use Rattle.std.specs.Option.{IfSome, option_map}
use Rattle.std.specs.Str.{chars}
use Rattle.std.proofs.lemmas.Bool.{cond_both}
use Rattle.rst_settings.specs.declared.Parts.{Parts}
use Rattle.rst_text.specs.Block.{is_blank}
use Rattle.rst_tree.specs.declared.tag.Tag.{Tag}
use Rattle.rst_tree.specs.declared.tag.Tag.TheVariants.{OptionGroup}
use Rattle.rst_tree.specs.Nodes.{forest_of}
use Rattle.rst_inline_scan.specs.Reading.{pieces_of}
use Rattle.rst_markup_lines.specs.declared.option.Delimiter.{Delimiter}
use Rattle.rst_markup_lines.specs.declared.options.ListedArgument.{ListedArgument}
use Rattle.rst_markup_lines.specs.Options.{options_in}
use Rattle.rst_markup_lines.specs.TextStart.{first, begins_with}
use Rattle.rst_block_nodes.specs.Elements.{citation_node, footnote_node, numbered_attrs, option_node, plain_node, preserved_node, text_nodes}
use Rattle.rst_block_nodes.specs.Readings.{read_nodes, read_notes, texted_node}
use Rattle.rst_block_state.specs.Lists.{option_element, option_group}
use Rattle.rst_block_state.specs.Texts.{excerpt}
use Rattle.rst_tree_laws.specs.Texts.{AttrsHave, Kept}
use Rattle.rst_block_laws.proofs.Fits.{AllFit, Fits, ForestFits, counting_has, open_fits}
use Rattle.rst_block_laws.proofs.LineTexts.{excerpt_has}
use Rattle.rst_tree_laws.proofs.Lists.{all_made, all_drop}
use Rattle.rst_tree_laws.proofs.Properties.{Suited, name_has, name_in_has}
use Rattle.rst_block_laws.proofs.TextFits.{text_fits}
use Rattle.rst_block_laws.proofs.Weights.{HoldsAny, Open, light_at}

module _ (P : ℕ → Bool) (T : List ℕ → Type 0) (s : Suited P T) where
  -- ---- texts with markup

  pub read_fit : (parts : Parts) (t : List ℕ) (line first : ℕ) → Kept P t → AllFit T 3 (read_nodes parts t line first)
  read_fit parts t line first h = text_fits P T s parts t line first (pieces_of parts.mail parts.unmarked t) h

  pub texted_fits : (parts : Parts) (tag : Tag) (line : ℕ) (t : List ℕ) (text_line first : ℕ) → Open tag → Kept P t → Fits T 4 (texted_node parts tag line t text_line first)
  texted_fits parts tag line t text_line first any h = open_fits T tag _ line 3 4 _ any (counting_has T (length (read_notes parts t text_line first))) (read_fit parts t text_line first h) (omega arith)

  -- ---- texts without markup

  plain_held : (t : List ℕ) → T t → ForestFits T 1 (forest_of (text_nodes t))
  plain_held [] h = (omega arith, tt)
  plain_held (b ∷ bs) h = (omega arith, (h, tt))

  pub plain_fits : (j : ℕ) → 2 ≤ j → (tag : Tag) (line : ℕ) (t : List ℕ) → Open tag → T t → Fits T j (plain_node tag line t)
  plain_fits j some tag line t any h = let w = plain_held t h in (light_at tag _ j (any (forest_of (text_nodes t))) (omega (arith, w.0)), (tt, w.1))

  pub preserved_fits : (j : ℕ) → 2 ≤ j → (tag : Tag) (line : ℕ) (t : List ℕ) → Open tag → T t → Fits T j (preserved_node tag line t)
  preserved_fits j some tag line t any h = let w = plain_fits j some tag line t any h in (w.0, ((tt, tt), w.1.1))

  option_fits : (string : List ℕ) (o : Option (Delimiter × List ℕ)) (line : ℕ) → T string → IfSome o (λ a. T a.1) → Fits T 3 (option_node string o line)
  option_fits string None line h k = let w = plain_held string h in (omega (arith, w.0), (tt, (tt, w.1, tt)))
  option_fits string (Some (delimiter, text)) line h k =
      let w = plain_held string h in let v = plain_held text k in (omega (arith, w.0, v.0), (tt, (tt, w.1, ((tt, tt), v.1, tt))))

  pub group_fits : (t : List ℕ) (line : ℕ) → Kept P t → Fits T 4 (option_group t line)
  group_fits t line h =
      open_fits T OptionGroup [] line 3 4 _ (λ c. refl) tt (all_made (Fits T 3) (option_element t line) (options_in t) (λ o. option_fits _ _ line (excerpt_has P T s t o.string h) (by o.argument))) (omega arith)
    where
      by : (o : Option ListedArgument) → IfSome {T = Delimiter × List ℕ} (option_map (λ (a : ListedArgument). (a.delimiter, excerpt t a.text)) o) (λ a. T a.1)
      by None = tt
      by (Some a) = excerpt_has P T s t a.text h

  pub footnote_fits : (label : List ℕ) (line : ℕ) → T label → Fits T 3 (footnote_node label line) × HoldsAny (footnote_node label line)
  footnote_fits label line h =
      cond_both (begins_with 35 (chars label)) _ _ (λ n. Fits T 3 n × HoldsAny n) (λ e. ((omega arith, (by (drop 1 (chars label)) (all_drop _ 1 (chars label) (s.decoded label h)), (tt, tt, tt))), λ c. refl))
      (λ e. cond_both (begins_with 42 (chars label)) _ _ (λ n. Fits T 3 n × HoldsAny n) (λ d. ((omega arith, ((tt, (tt, tt)), (tt, tt, tt))), λ c. refl))
      (λ d. let w = plain_held label h in ((omega (arith, w.0), ((tt, (name_in_has P T s label h, tt)), (tt, w.1, tt))), λ c. refl)))
    where
      by : (name : List ℕ) → Kept P name → AttrsHave T (numbered_attrs label name)
      by name k = cond_both (is_blank name) _ _ (AttrsHave T) (λ e. (tt, (tt, tt))) (λ e. (tt, (tt, (name_has P T s name k, tt))))

  pub citation_fits : (label : List ℕ) (line : ℕ) → T label → Fits T 3 (citation_node label line) × HoldsAny (citation_node label line)
  citation_fits label line h = let w = plain_held label h in ((omega (arith, w.0), ((name_in_has P T s label h, tt), (tt, w.1, tt))), λ c. refl)
