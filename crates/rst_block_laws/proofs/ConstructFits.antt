-- Quotes, items, footnotes, citations, comments and paragraphs fit, where blocks inside do.
use Rattle.std.proofs.Common.{ℕ, Bool, zero, suc, ◌+◌, ◌-◌, ◌≤◌, List, [], ◌∷◌, ◌++◌, drop, length, take, Option, None, Some, arith, refl}
use Rattle.std.specs.Prelude.{◌&&◌, ◌==◌, slice_range}
use Rattle.std.specs.Char.{is_whitespace}
use Rattle.std.specs.Str.{drop_trailing_whitespace}
use Rattle.std.proofs.lemmas.Bool.{cond_both}
use Rattle.rst_settings.specs.declared.Parts.{Parts}
use Rattle.rst_text.specs.Block.{Block, first_number, first_text, first_parts}
use Rattle.rst_tree.specs.declared.node.Node.{Node}
use Rattle.rst_tree.specs.declared.tag.Tag.{Tag}
use Rattle.rst_tree.specs.declared.tag.Tag.TheVariants.{Attribution as AttributionTag, BlockQuote, Comment as CommentTag, Definition, DefinitionListItem, Description, Field, FieldBody, FieldName, ListItem, OptionListItem, Paragraph}
use Rattle.rst_markup_blocks.specs.Attributions.{attribution_part}
use Rattle.rst_markup_blocks.specs.declared.attribution.Attribution.{Attribution}
use Rattle.rst_markup_blocks.specs.declared.forms.Explicit.{Explicit}
use Rattle.rst_markup_blocks.specs.declared.forms.Explicit.TheVariants.{Footnote, Citation, Target, Anonymous, Substitution, Directive, Comment, EmptyComment}
use Rattle.rst_markup_blocks.specs.declared.lines.LineTest.TheVariants.{Blank}
use Rattle.rst_markup_blocks.specs.declared.part.Part.{Part}
use Rattle.rst_markup_blocks.specs.Lines.{lines_while}
use Rattle.rst_markup_blocks.specs.Partition.{Span}
use Rattle.rst_markup_blocks.specs.Sizes.{paragraph_len}
use Rattle.rst_markup_lines.specs.Closing.{ends_in_colons}
use Rattle.rst_block_nodes.specs.Elements.{citation_node, element_of}
use Rattle.rst_block_nodes.specs.Readings.{texted_node}
use Rattle.rst_block_state.specs.Constructs.{ItemMark, bullet_item, definition_item, enumerated_item, field_item, option_item}
use Rattle.rst_block_state.specs.Lists.{item_by, item_with, list_item, option_group}
use Rattle.rst_block_state.specs.Literals.{announced, paragraph_nodes, text_paragraph}
use Rattle.rst_block_state.specs.Markup.{markup_by, noted}
use Rattle.rst_block_state.specs.Numbered.{Numbered}
use Rattle.rst_block_state.specs.Quotes.{first_attribution, quote_after, quotes, quotes_by}
use Rattle.rst_block_state.specs.Texts.{excerpt, joined, lines_in}
use Rattle.rst_block_state.specs.Within.{Within, hanging, indented_part, item_part}
use Rattle.rst_block_laws.proofs.DirectiveFits.{directive_fits, substitution_fits}
use Rattle.rst_block_laws.proofs.ElementFits.{citation_fits, footnote_fits, group_fits, preserved_fits}
use Rattle.rst_block_laws.proofs.MessageFits.{after_fit, cause_fit, read_notes_fit}
use Rattle.rst_block_laws.proofs.TermFits.{terms_fit}
use Rattle.rst_block_laws.proofs.Fits.{AllFit, Fits, filled_fits, fit_more, open_fits}
use Rattle.rst_block_laws.proofs.Gives.{Gives, after, give, gives}
use Rattle.rst_block_laws.proofs.LineFits.{texted_fit}
use Rattle.rst_block_laws.proofs.LineTexts.{all_range, excerpt_has, first_kept, joined_kept, lines_kept, spelled_has}
use Rattle.rst_tree_laws.proofs.Lists.{all_append, all_drop, all_take}
use Rattle.rst_tree_laws.proofs.Properties.{Suited}
use Rattle.rst_block_laws.proofs.TargetFits.{target_fits}
use Rattle.rst_block_laws.proofs.Weights.{HoldsAny, Open}
use Rattle.rst_tree_laws.specs.Texts.{BlockKept, Kept}

module _ (P : ℕ → Bool) (T : List ℕ → Type 0) (s : Suited P T) where
  -- ---- texts

  trailing_kept : (cs : List ℕ) → Kept P cs → Kept P (drop_trailing_whitespace cs)
  trailing_kept [] h = tt
  trailing_kept (c ∷ cs) h = cond_both (is_whitespace c && length (drop_trailing_whitespace cs) == 0) [] (c ∷ drop_trailing_whitespace cs) (Kept P) (λ e. tt) (λ e. (h.0, trailing_kept cs h.1))

  announced_kept : (t : List ℕ) → Kept P t → Kept P (announced t)
  announced_kept t h =
      let kept = all_take _ (length t - 2) t h in
      cond_both (ends_in_colons t) _ _ (Kept P) (λ e. cond_both _ _ _ (Kept P) (λ d. trailing_kept _ kept) (λ d. all_append _ (take (length t - 2) t) (58 ∷ []) kept (s.fixed 58 refl, tt))) (λ e. h)

  module _ (c : Within) (k : ℕ) (some : 3 ≤ k) (nested : c.levels + 2 ≤ k) (inside : (B : Block) → BlockKept P B → Gives (AllFit T k) (c.inner B)) where
    -- ---- block quotes

    quote_fits : (Q : Block) (others : Block → Numbered (List Node)) → ((R : Block) → BlockKept P R → Gives (AllFit T (k + 2)) (others R)) → (o : Option (ℕ × Attribution)) → BlockKept P Q
        → Gives (AllFit T (k + 2)) (quotes_by c others Q o)
    quote_fits Q others h None q = after (inside Q q) (λ nodes own. give (open_fits T BlockQuote [] (first_number Q) k (k + 2) nodes (λ c. refl) tt own (omega arith), tt))
    quote_fits Q others h (Some (i, a)) q =
        gives (λ n.
        let own = texted_fit P T s (first_parts (drop i Q)) (k + 1) (k + 2) (omega arith) (omega arith) AttributionTag (first_number (drop i Q)) _ (first_number (drop i Q)) n (λ c. refl) (joined_kept P T s _ (lines_kept P Q (attribution_part i a) q)) in
        (after (inside (take i Q) (all_take _ i Q q)) (λ nodes inner. after (h (quote_after Q a) (all_drop _ (lines_while Blank (drop a.end Q)) (drop a.end Q) (all_drop _ a.end Q q)))
        (λ more rest.
        let quote = open_fits T BlockQuote [] (first_number Q) (k + 1) (k + 2) _ (λ c. refl) tt (all_append _ nodes (_ ∷ []) (fit_more T k (k + 1) nodes (omega arith) inner) (own.0, tt)) (omega arith) in
        give (quote, all_append _ _ more own.1 rest)))).at _)

    pub quotes_fit : (n : ℕ) (Q : Block) → BlockKept P Q → Gives (AllFit T (k + 2)) (quotes c n Q)
    quotes_fit zero Q h = give tt
    quotes_fit (suc n) [] h = give tt
    quotes_fit (suc n) (l ∷ ls) h = quote_fits (l ∷ ls) (quotes c n) (quotes_fit n) (first_attribution (l ∷ ls)) h

    -- ---- items

    item_with_fits : (B : Block) (item held : Tag) (line : ℕ) (part : Part) (heads notes : List Node) → Open item → Open held → BlockKept P B → AllFit T (k + 1) heads → AllFit T k notes
        → Gives (AllFit T (k + 2)) (item_with c B item held line part heads notes)
    item_with_fits B item held line part heads notes any holds b h l =
        after (inside (lines_in B part) (lines_kept P B part b)) (λ nodes own.
        let body : Fits T (k + 1) (element_of held [] (notes ++ nodes) line) = open_fits T held [] line k (k + 1) (notes ++ nodes) holds tt (all_append _ notes nodes l own) (omega arith) in
        give (open_fits T item [] line (k + 1) (k + 2) _ any tt (all_append _ heads (element_of held [] (notes ++ nodes) line ∷ []) h (body, tt)) (omega arith), tt))

    list_item_fits : (B : Block) (line : ℕ) (part : Part) → BlockKept P B → Gives (AllFit T (k + 2)) (list_item c B line part)
    list_item_fits B line part b = after (inside (lines_in B part) (lines_kept P B part b)) (λ nodes own. give (open_fits T ListItem [] line k (k + 2) nodes (λ c. refl) tt own (omega arith), tt))

    pub item_fits : (B : Block) (i : ℕ) (mark : ItemMark) (X : Block) → BlockKept P B → BlockKept P X → Gives (AllFit T (k + 2)) (item_by c B i mark X)
    item_fits B i (bullet_item ch m) X b h = list_item_fits B (first_number X) (item_part i m X) b
    item_fits B i (enumerated_item e) X b h = list_item_fits B (first_number X) (item_part i e.marker X) b
    item_fits B i (definition_item infos) X b h =
        let kept = first_kept P X h in
        gives (λ n. (item_with_fits B DefinitionListItem Definition (first_number X) (indented_part (i + 1) (drop 1 X)) _ _ (λ c. refl) (λ c. refl) b
        (fit_more T 4 (k + 1) _ (omega arith) (terms_fit P T s (first_parts X) (first_text X) (first_number X) n kept)) (read_notes_fit P T s k some (first_parts X) (first_text X) (first_number X) n kept)).at _)
    item_fits B i (field_item m) X b h =
        let line : ℕ = first_number X in
        let name : List ℕ = slice_range (first_text X) m.name.from m.name.to in
        gives (λ n.
        let own = texted_fit P T s (first_parts X) (k + 1) k (omega arith) some FieldName line name line n (λ c. refl) (all_range _ (first_text X) m.name.from m.name.to (first_kept P X h)) in
        (item_with_fits B Field FieldBody line (hanging i m.marker X) (texted_node (first_parts X) FieldName line name line n ∷ []) _ (λ c. refl) (λ c. refl) b (own.0, tt) own.1).at _)
    item_fits B i (option_item m) X b h =
        let own = group_fits P T s (first_text X) (first_number X) (first_kept P X h) in
        item_with_fits B OptionListItem Description (first_number X) (hanging i m X) (option_group (first_text X) (first_number X) ∷ []) [] (λ c. refl) (λ c. refl) b ((omega (arith, own.0), own.1), tt) tt

    -- ---- explicit markup

    noted_fits : (B : Block) (element : Node) (body : Part) → BlockKept P B → Fits T 3 element × HoldsAny element → Gives (AllFit T (k + 2)) (noted c B element body)
    noted_fits B element body b h =
        after (inside (lines_in B body) (lines_kept P B body b)) (λ nodes own. give (filled_fits T element nodes k (k + 2) h.1 (omega (arith, h.0.0), h.0.1) own (omega arith), tt))

    pub markup_fits : (e : Explicit) (B : Block) (g : Span) (X : Block) → BlockKept P B → BlockKept P X → Gives (AllFit T (k + 2)) (markup_by e c B g X)
    markup_fits (Footnote label body) B g X b h = noted_fits B _ body b (footnote_fits P T s (excerpt (first_text X) label) (first_number X) (excerpt_has P T s (first_text X) label (first_kept P X h)))
    markup_fits (Citation label body) B g X b h =
        noted_fits B (citation_node (excerpt (first_text X) label) (first_number X)) body b (citation_fits P T s (excerpt (first_text X) label) (first_number X) (excerpt_has P T s (first_text X) label (first_kept P X h)))
    markup_fits (Target name text) B g X b h =
        give (target_fits P T s (first_parts X).mail (k + 2) (omega arith) (Some (excerpt (first_text X) name)) _ (first_number X) (excerpt_has P T s (first_text X) name (first_kept P X h)) (spelled_has P T s (lines_in B text) (lines_kept P B text b)), tt)
    markup_fits (Anonymous text) B g X b h = give (target_fits P T s (first_parts X).mail (k + 2) (omega arith) None _ (first_number X) tt (spelled_has P T s (lines_in B text) (lines_kept P B text b)), tt)
    markup_fits (Substitution name embedded end) B g X b h = substitution_fits P T s c k some nested inside B g (excerpt (first_text X) name) embedded b (excerpt_has P T s (first_text X) name (first_kept P X h))
    markup_fits (Directive call) B g X b h = directive_fits P T s c k some nested inside B g call b
    markup_fits (Comment text cause) B g X b h =
        give (preserved_fits P T s (k + 2) (omega arith) CommentTag (first_number X) _ (λ c. refl) (spelled_has P T s (lines_in B text) (lines_kept P B text b)), cause_fit P T s (k + 2) (omega arith) cause (first_number X))
    markup_fits EmptyComment B g X b h = give ((omega arith, ((tt, tt), tt)), tt)

  -- ---- paragraphs

  module _ (j : ℕ) (some : 4 ≤ j) where
    text_fits : (parts : Parts) (line : ℕ) (t : List ℕ) → Kept P t → Gives (AllFit T j) (text_paragraph parts line t)
    text_fits parts line [] h = give tt
    text_fits parts line (c ∷ cs) h = gives (λ n. texted_fit P T s parts j j some (omega arith) Paragraph line (c ∷ cs) line n (λ c. refl) h)

    pub paragraph_fits : (infos : List Node) (X : Block) → BlockKept P X → AllFit T 3 infos → Gives (AllFit T j) (paragraph_nodes infos X)
    paragraph_fits infos X h i =
        let n : ℕ = paragraph_len X in
        after (text_fits (first_parts X) (first_number X) _ (announced_kept (joined (take n X)) (joined_kept P T s (take n X) (all_take _ n X h))))
        (λ nodes own. give (all_append _ (infos ++ nodes) _ (all_append _ infos nodes (fit_more T 3 j infos (omega arith) i) own) (after_fit P T s j (omega arith) n (joined (take n X)) X h)))
