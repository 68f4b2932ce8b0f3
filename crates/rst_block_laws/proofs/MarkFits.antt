-- The messages of a construct have at most three levels, its texts have a property, and a title's adornment is of a punctuation character.
use Rattle.std.proofs.Common.{◌≡◌, ℕ, Bool, true, List, [], ◌∷◌, drop, length, Option, None, Some, arith, refl}
use Rattle.std.specs.Prelude.{unwrap_or}
use Rattle.std.specs.Option.{option_map_or}
use Rattle.std.proofs.lemmas.Bool.{and_parts, cond_both}
use Rattle.rst_text.specs.Block.{Block, first_number, first_parts, first_text}
use Rattle.rst_tree.specs.declared.node.Node.{Node}
use Rattle.rst_tree.specs.declared.note.Level.TheVariants.{Info}
use Rattle.rst_markup_blocks.specs.Conditions.{next_text, after_text, item_enumerator, item_option}
use Rattle.rst_markup_blocks.specs.declared.form.Adorned.{Adorned}
use Rattle.rst_markup_blocks.specs.declared.form.Adorned.TheVariants.{Text as AdornedText, ShortOverline, ShortAdornment, Transition, Title as AdornedTitle}
use Rattle.rst_markup_blocks.specs.declared.form.TextForm.{TextForm}
use Rattle.rst_markup_blocks.specs.declared.form.TextForm.TheVariants.{ShortUnderline, Title}
use Rattle.rst_markup_blocks.specs.declared.kind.Kind.{Kind}
use Rattle.rst_markup_blocks.specs.declared.kind.Kind.TheVariants.{Bullet, Enumerator as EnumeratorKind, Field, OptionItem, Line, Adornment as AdornmentKind, Text}
use Rattle.rst_markup_blocks.specs.Forms.{adorned_form, text_form, over_underline, underlined}
use Rattle.rst_markup_blocks.specs.Kinds.{kind_at}
use Rattle.rst_markup_blocks.specs.Sizes.{third_text}
use Rattle.rst_markup_lines.specs.Adornment.{is_punctuation, adornment_of}
use Rattle.rst_markup_lines.specs.declared.adornment.Adornment.{Adornment}
use Rattle.rst_markup_lines.specs.Field.{field_of}
use Rattle.rst_markup_lines.specs.Marker.{bullet, line_bar}
use Rattle.rst_markup_lines.specs.TextStart.{first, begins_with}
use Rattle.rst_block_state.specs.Constructs.{bullet_item, enumerated_item, definition_item, field_item, option_item, Construct, item_of_list, bar_line, misplaced_lines, overlined_title, underlined_title, paragraph, text_by, text_after, plain_text, short_overline, short_adornment, adorned_by, adorned, bullet_with, construct_by, construct_at}
use Rattle.rst_block_laws.proofs.MessageFits.{fixed_fits}
use Rattle.rst_block_laws.proofs.Fits.{AllFit}
use Rattle.rst_tree_laws.proofs.Lists.{all_append}
use Rattle.rst_tree_laws.proofs.Properties.{Suited, fixed_has}

-- a line with an adornment begins with a punctuation character, of which the adornment is
adornment_holds : (t : List ℕ) (Q : Option Adornment → Type 0) → Q None → ((mark : Adornment) → is_punctuation mark.character ≡ true → is_punctuation (unwrap_or (first t) 32) ≡ true → Q (Some mark)) → Q (adornment_of t)
unfolding adornment_of
adornment_holds [] Q none some = none
adornment_holds (c ∷ cs) Q none some = cond_both _ _ _ Q (λ e. let p = (and_parts (is_punctuation c) _ e).0 in some (record { character = c; len = length (c ∷ cs) }) p p) (λ e. none)

module _ (T : List ℕ → Type 0) where
  -- the messages on why its lines are texts, the text of that on lines at a wrong place, and the character of a title's adornment
  abbrev pub ConstructFits : Construct → Block → Type 0
  ConstructFits (item_of_list (definition_item infos)) X = AllFit T 3 infos
  ConstructFits (overlined_title mark short) X = is_punctuation mark.character ≡ true
  ConstructFits (misplaced_lines level text) X = T text
  ConstructFits (underlined_title infos short) X = (is_punctuation (unwrap_or (first (next_text X)) 32) ≡ true) × AllFit T 3 infos
  ConstructFits (paragraph infos) X = AllFit T 3 infos
  ConstructFits _ X = Unit {0}

module _ (P : ℕ → Bool) (T : List ℕ → Type 0) (s : Suited P T) (titles : Bool) (X : Block) where
  after_fits : (infos : List Node) → AllFit T 3 infos → ConstructFits T (text_after titles infos X) X
  unfolding text_form
  after_fits infos h =
      cond_both (begins_with 32 (next_text X)) _ _ (λ f. ConstructFits T (text_by f titles infos X) X) (λ e. h)
      (λ e. adornment_holds (next_text X) (λ o. ConstructFits T (text_by (over_underline o (first_text X)) titles infos X) X) h (λ mark own next. by (underlined mark.len (first_text X)) next))
    where
      by : (f : TextForm) → is_punctuation (unwrap_or (first (next_text X)) 32) ≡ true → ConstructFits T (text_by f titles infos X) X
      by (Title short) p = (p, h)
      by ShortUnderline p = all_append _ infos _ h (cond_both titles _ _ (AllFit T 3) (λ e. fixed_fits P T s 3 (omega arith) Info (first_number (drop 1 X)) _ refl) (λ e. tt))
      by _ p = h

  adorned_fits : (a : Adorned) (mark : Adornment) → is_punctuation mark.character ≡ true → ConstructFits T (adorned_by a titles mark X) X
  adorned_fits AdornedText mark h = after_fits [] tt
  adorned_fits ShortOverline mark h = after_fits (short_overline X ∷ []) (fixed_fits P T s 3 (omega arith) Info (first_number X) _ refl)
  adorned_fits ShortAdornment mark h = after_fits (short_adornment X ∷ []) (fixed_fits P T s 3 (omega arith) Info (first_number X) _ refl)
  adorned_fits Transition mark h = tt
  adorned_fits (AdornedTitle short) mark h = h
  adorned_fits _ mark h = fixed_has P T s _ refl

  or_fits : {A : Type 0} (f : A → Construct) (o : Option A) → ((a : A) → ConstructFits T (f a) X) → ConstructFits T (option_map_or f o (plain_text titles X)) X
  or_fits f None h = after_fits [] tt
  or_fits f (Some a) h = h a

  kind_fits : (kind : Kind) → ConstructFits T (construct_by kind titles X) X
  kind_fits Bullet = or_fits (bullet_with titles X) (first (first_text X)) (λ ch. or_fits (λ m. item_of_list (bullet_item ch m)) (bullet (first_text X)) (λ m. tt))
  kind_fits EnumeratorKind = or_fits (λ e. item_of_list (enumerated_item e)) (item_enumerator (first_text X) (next_text X)) (λ e. tt)
  kind_fits Field = or_fits (λ m. item_of_list (field_item m)) (field_of (first_parts X) (first_text X)) (λ m. tt)
  kind_fits OptionItem = or_fits (λ m. item_of_list (option_item m)) (item_option (first_text X) (next_text X) (after_text X)) (λ m. tt)
  kind_fits Line = or_fits bar_line (line_bar (first_text X)) (λ m. tt)
  kind_fits AdornmentKind =
      adornment_holds (first_text X) (λ o. ConstructFits T (option_map_or (adorned titles X) o (plain_text titles X)) X) (after_fits [] tt)
      (λ mark own next. adorned_fits (adorned_form titles mark (next_text X) (third_text X)) mark own)
  kind_fits Text = after_fits [] tt
  kind_fits _ = tt

  pub construct_fits : ConstructFits T (construct_at titles X) X
  construct_fits = kind_fits (kind_at X)
