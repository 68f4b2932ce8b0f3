-- Messages have three levels, and their texts have a property; so do the literal blocks after paragraphs.
use Rattle.std.proofs.Common.{ℕ, ◌-◌, ◌≤◌, Bool, true, false, List, [], ◌∷◌, drop, take, Option, None, Some, arith, refl}
use Rattle.std.specs.Prelude.{◌≡◌, ◌==◌, codes}
use Rattle.std.specs.List.{list_all}
use Rattle.std.specs.Option.{IfSome, option_to_list}
use Rattle.std.proofs.lemmas.Bool.{cond_both}
use Rattle.rst_settings.specs.declared.Parts.{Parts}
use Rattle.rst_text.specs.Block.{Block, first_number, first_text, is_blank}
use Rattle.rst_text.specs.Extent.{extent}
use Rattle.rst_tree.specs.declared.attrs.Value.TheVariants.{Number}
use Rattle.rst_tree.specs.declared.key.Key.TheVariants.{Message}
use Rattle.rst_tree.specs.declared.note.Level.{Level}
use Rattle.rst_tree.specs.declared.note.Level.TheVariants.{Info, Warning, Error}
use Rattle.rst_tree.specs.declared.note.Note.{Note}
use Rattle.rst_tree.specs.declared.tag.Tag.TheVariants.{LiteralBlock}
use Rattle.rst_tree.specs.Messages.{note_attrs}
use Rattle.rst_tree.specs.Sends.{counted_on}
use Rattle.rst_inline_scan.specs.Reading.{pieces_of}
use Rattle.rst_inline.specs.Results.{notes_of}
use Rattle.rst_markup_blocks.specs.declared.forms.CommentCause.{CommentCause}
use Rattle.rst_markup_blocks.specs.declared.forms.CommentCause.TheVariants.{Plain}
use Rattle.rst_markup_blocks.specs.declared.lines.LineTest.TheVariants.{Blank, Begins}
use Rattle.rst_markup_blocks.specs.Lines.{lines_while}
use Rattle.rst_markup_lines.specs.Adornment.{is_punctuation}
use Rattle.rst_markup_lines.specs.Closing.{ends_in_colons}
use Rattle.rst_markup_lines.specs.Enumerator.{first_reading}
use Rattle.rst_markup_lines.specs.TextStart.{first, begins_with}
use Rattle.rst_block_nodes.specs.Elements.{start_text, preserved_node}
use Rattle.rst_block_nodes.specs.Readings.{read_notes}
use Rattle.rst_block_nodes.specs.Texts.{messages_from}
use Rattle.rst_block_state.specs.Constructs.{ItemMark, enumerated_item}
use Rattle.rst_block_state.specs.Lists.{ordinal_place, list_notes}
use Rattle.rst_block_state.specs.Literals.{after_paragraph, literal_by, no_literal, quoting_text}
use Rattle.rst_block_state.specs.Markup.{cause_notes}
use Rattle.rst_block_state.specs.Nodes.{ending_notes}
use Rattle.rst_block_state.specs.Texts.{excerpt, lines_in, spelled, system_message, unless_blank}
use Rattle.rst_block_state.specs.Titles.{short_warning}
use Rattle.rst_block_state.specs.Within.{indented_part}
use Rattle.rst_tree_laws.specs.Texts.{BlockKept, Kept, NotesHave, is_fixed}
use Rattle.rst_block_laws.proofs.Fits.{AllFit, Fits, message_fits}
use Rattle.rst_tree_laws.proofs.Have.{with_attr_has}
use Rattle.rst_block_laws.proofs.LineTexts.{excerpt_has, first_kept, lines_kept, spelled_has}
use Rattle.rst_tree_laws.proofs.Lists.{all_append, all_drop, all_take}
use Rattle.rst_tree_laws.proofs.Decimals.{decimal_has}
use Rattle.rst_tree_laws.proofs.Properties.{Suited, fixed_has}
use Rattle.rst_block_laws.proofs.TextFits.{notes_have}
use Rattle.rst_block_laws.proofs.ElementFits.{preserved_fits}

-- where they may have so many levels
module _ (P : ℕ → Bool) (T : List ℕ → Type 0) (s : Suited P T) (j : ℕ) (some : 3 ≤ j) where
  pub read_notes_fit : (parts : Parts) (t : List ℕ) (line first : ℕ) → Kept P t → AllFit T j (read_notes parts t line first)
  read_notes_fit parts t line first h = by first (notes_of parts t line (pieces_of parts.mail parts.unmarked t)) (notes_have P T s parts t line (pieces_of parts.mail parts.unmarked t) h)
    where
      by : (first : ℕ) (notes : List Note) → NotesHave T notes → AllFit T j (messages_from first notes)
      by first [] h = tt
      by first (n ∷ notes) h =
          let w = message_fits T j some n.level n.line n.text n.block h.0.0 h.0.1 in
          ((w.0, (with_attr_has T Message (Number first) (note_attrs n.level) tt w.1.0, w.1.1)), by (counted_on first 1) notes h.1)

  -- a message with a fixed text
  pub fixed_fits : (level : Level) (line : ℕ) (text : List ℕ) → list_all is_fixed text ≡ true → AllFit T j (system_message level line text ∷ [])
  fixed_fits level line text e = (message_fits T j some level line text None (fixed_has P T s text e) tt, tt)

  unless_blank_fit : (level : Level) (text : List ℕ) (X : Block) → T text → AllFit T j (unless_blank level text X)
  unless_blank_fit level text X h = cond_both (is_blank (first_text X)) _ _ (AllFit T j) (λ e. tt) (λ e. (message_fits T j some level (first_number X) text None h tt, tt))

  pub ending_fit : (o : Option (List ℕ)) (X : Block) → IfSome o T → AllFit T j (ending_notes o X)
  ending_fit None X h = tt
  ending_fit (Some text) X h = unless_blank_fit Warning text X h

  pub cause_fit : (cause : CommentCause) (line : ℕ) → AllFit T j (cause_notes cause line)
  cause_fit Plain line = tt
  cause_fit _ line = fixed_fits Warning line _ refl

  pub warning_fit : (short : Bool) (line : ℕ) (text lines : List ℕ) → T text → T lines → AllFit T j (option_to_list (short_warning short line text lines))
  warning_fit true line text lines h k = (message_fits T j some Warning line text (Some lines) h k, tt)
  warning_fit false line text lines h k = tt

  pub list_notes_fit : (mark : ItemMark) (X : Block) → BlockKept P X → AllFit T j (list_notes mark X)
  list_notes_fit (enumerated_item e) X h =
      let n : ℕ = (first_reading e.written.ordinals).ordinal in
      let text : T (start_text (excerpt (first_text X) (ordinal_place e)) n) =
      s.append _ _ (s.append _ _ (s.append _ _ (s.append _ _ (fixed_has P T s (codes "Enumerated list start value not ordinal-1: \"") refl) (excerpt_has P T s (first_text X) (ordinal_place e) (first_kept P X h)))
      (fixed_has P T s (codes "\" (ordinal ") refl)) (decimal_has P T s n)) (fixed_has P T s (codes ")") refl) in
      cond_both (n == 1) _ _ (AllFit T j) (λ i. tt) (λ i. (message_fits T j some Info (first_number X) _ None text tt, tt))
  list_notes_fit _ X h = tt

  -- ---- literal blocks

  no_literal_fit : (last : ℕ) (Z : Block) → AllFit T j (no_literal last Z)
  no_literal_fit last [] = fixed_fits Warning last _ refl
  no_literal_fit last (l ∷ ls) = fixed_fits Warning l.number _ refl

  literal_fit : (o : Option ℕ) (last : ℕ) (Z : Block) → BlockKept P Z → AllFit T j (literal_by o last Z)
  literal_fit None last Z h = no_literal_fit last Z
  literal_fit (Some c) last Z h =
      cond_both (c == 32) _ _ (AllFit T j)
      (λ e. (literal (first_number Z) (lines_in Z (indented_part 0 Z)) (lines_kept P Z (indented_part 0 Z) h), unless_blank_fit Warning _ (drop (extent 1 Z) Z) (fixed_has P T s (codes "Literal block ends without a blank line; unexpected unindent.") refl)))
      (λ e. cond_both (is_punctuation c) _ _ (AllFit T j)
      (λ d. let n : ℕ = lines_while (Begins c) Z in (literal (first_number (take n Z)) (take n Z) (all_take _ n Z h), unless_blank_fit Error (quoting_text (first_text (drop n Z))) (drop n Z) (quoting (first_text (drop n Z)))))
      (λ d. no_literal_fit last Z))
    where
      literal : (line : ℕ) (X : Block) → BlockKept P X → Fits T j (preserved_node LiteralBlock line (spelled X))
      literal line X k = preserved_fits P T s j (omega arith) LiteralBlock line (spelled X) (λ c. refl) (spelled_has P T s X k)

      quoting : (t : List ℕ) → T (quoting_text t)
      quoting t = cond_both (begins_with 32 t) _ _ T (λ e. fixed_has P T s (codes "Unexpected indentation.") refl) (λ e. fixed_has P T s (codes "Inconsistent literal block quoting.") refl)

  pub after_fit : (n : ℕ) (t : List ℕ) (X : Block) → BlockKept P X → AllFit T j (after_paragraph n t X)
  after_fit n t X h =
      let Y : Block = drop n X in
      let Z : Block = drop (lines_while Blank Y) Y in
      all_append _ (unless_blank Error (codes "Unexpected indentation.") Y) _ (unless_blank_fit Error _ Y (fixed_has P T s (codes "Unexpected indentation.") refl))
      (cond_both (ends_in_colons t) _ _ (AllFit T j) (λ e. literal_fit (first (first_text Z)) (first_number (drop (n - 1) X)) Z (all_drop _ (lines_while Blank Y) Y (all_drop _ n X h))) (λ e. tt))
