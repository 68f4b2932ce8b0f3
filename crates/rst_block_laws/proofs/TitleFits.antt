-- Titles fit, and so do nodes as items.
use Rattle.std.proofs.Common.{◌≡◌, ℕ, ◌≤◌, Bool, true, false, List, [], ◌∷◌, drop, map, Some, arith, refl}
use Rattle.std.specs.Prelude.{codes, unwrap_or}
use Rattle.std.specs.Option.{option_to_list}
use Rattle.rst_settings.specs.declared.Parts.{Parts}
use Rattle.rst_text.specs.Block.{Block, first_number, first_text, first_parts}
use Rattle.rst_tree.specs.declared.node.Node.{Node}
use Rattle.rst_tree.specs.declared.note.Level.TheVariants.{Severe}
use Rattle.rst_tree.specs.declared.tag.Tag.TheVariants.{Title as TitleTag}
use Rattle.rst_markup_blocks.specs.Conditions.{next_text}
use Rattle.rst_markup_lines.specs.Adornment.{is_punctuation}
use Rattle.rst_markup_lines.specs.TextStart.{first}
use Rattle.rst_block_nodes.specs.declared.heading.Style.{Style}
use Rattle.rst_block_nodes.specs.Sections.{Item, plain, titled}
use Rattle.rst_block_state.specs.Nodes.{nodes_among, plainly}
use Rattle.rst_block_state.specs.Numbered.{Numbered}
use Rattle.rst_block_state.specs.Titles.{short_warning, title_item, underline_item, underline_warning}
use Rattle.rst_block_laws.proofs.MessageFits.{warning_fit}
use Rattle.rst_block_laws.proofs.Fits.{AllFit, Fits, ItemFits, ItemsFit, message_fits}
use Rattle.rst_block_laws.proofs.Gives.{Gives, after, give, gives}
use Rattle.rst_block_laws.proofs.LineFits.{texted_fit}
use Rattle.rst_block_laws.proofs.LineTexts.{first_kept}
use Rattle.rst_tree_laws.proofs.Lists.{all_append, all_map}
use Rattle.rst_tree_laws.proofs.Properties.{Suited, fixed_has}
use Rattle.rst_tree_laws.specs.Texts.{BlockKept, Kept}

module _ (T : List ℕ → Type 0) where
  pub plain_fit : (j k : ℕ) (ns : List Node) → j ≤ k → AllFit T j ns → ItemsFit T k (map plain ns)
  plain_fit j k ns e h = all_map (Fits T j) (ItemFits T k) plain (λ n own. (omega (arith, e, own.0), own.1)) ns h

  pub plainly_fit : (j k : ℕ) (read : Numbered (List Node)) → j ≤ k → Gives (AllFit T j) read → Gives (ItemsFit T k) (plainly read)
  plainly_fit j k read e h = after h (λ nodes own. give (plain_fit j k nodes e own))

  pub among_fit : (j : ℕ) (items : List Item) → ItemsFit T j items → AllFit T j (nodes_among items)
  among_fit j [] h = tt
  among_fit j (plain n ∷ items) h = (h.0, among_fit j items h.1)
  among_fit j (titled t ∷ items) h = among_fit j items h.1

  module _ (P : ℕ → Bool) (s : Suited P T) (j : ℕ) (some : 4 ≤ j) where
    pub title_fits : (parts : Parts) (style : Style) (text : List ℕ) (line : ℕ) (short : Bool) (below : ℕ) (warning lines : List ℕ) → is_punctuation style.character ≡ true → Kept P text → T warning → T lines
        → Gives (ItemsFit T j) (title_item parts style text line (short_warning short below warning lines) lines)
    title_fits parts style text line short below warning lines h k w l =
        gives (λ n.
        let own = texted_fit P T s parts j j some (omega arith) TitleTag line text line n (λ c. refl) k in
        ((h, own.0, all_append _ _ (option_to_list (short_warning short below warning lines)) own.1 (warning_fit P T s j (omega arith) short below warning lines w l), l), tt))

    pub underline_fits : (titles short : Bool) (lines : List ℕ) (X : Block) → is_punctuation (unwrap_or (first (next_text X)) 32) ≡ true → BlockKept P X → T lines
        → Gives (ItemsFit T j) (underline_item titles short lines X)
    underline_fits true short lines X h k l = title_fits (first_parts X) _ (first_text X) (first_number X) short (first_number (drop 1 X)) _ lines h (first_kept P X k) (fixed_has P T s _ refl) l
    underline_fits false short lines X h k l =
        give (plain_fit j j _ (omega arith) (all_append _ (option_to_list (underline_warning short lines X)) (_ ∷ []) (warning_fit P T s j (omega arith) short _ _ lines (fixed_has P T s _ refl) l)
        (message_fits T j (omega arith) Severe (first_number (drop 1 X)) (codes "Unexpected section title.") (Some lines) (fixed_has P T s _ refl) l, tt)))
