-- A line of one punctuation character at the next line of a block: its form decides the construct.
use Rattle.std.proofs.Common.{◌≡◌, ℕ, Bool, true, false, cond, List, drop, Some, unwrap_or, refl, sym, ◌∙◌, ap}
use Rattle.std.proofs.lemmas.Bool.{eqb-true}
use Rattle.std.specs.Prelude.{◌==◌, ◌&&◌, nat_le}
use Rattle.std.specs.Option.{option_map_or}
use Rattle.rst_text.specs.Block.{Block}
use Rattle.rst_tree.specs.declared.note.Level.{Level}
use Rattle.rst_markup_lines.specs.declared.adornment.Adornment.{Adornment}
use Rattle.rst_markup_blocks.specs.Begun.{IsBegun}
use Rattle.rst_markup_blocks.specs.Conditions.{next_text}
use Rattle.rst_markup_blocks.specs.Forms.{adorned_form, adorned_below}
use Rattle.rst_markup_blocks.specs.Sizes.{adornment_size, adorned_size, fixed_size, text_size, third_text}
use Rattle.rst_markup_blocks.specs.declared.begun.Begun.TheVariants as begun
use Rattle.rst_markup_blocks.specs.declared.form.Adorned.{Adorned}
use Rattle.rst_markup_blocks.specs.declared.form.Adorned.TheVariants.{Title as AdornedTitle, Text, Unexpected, ShortAdornment}
use Rattle.rst_block_state.specs.Constructs.{adorned_by, misplaced_lines}
use Rattle.rst_block_state.specs.machine.NextLine.{IsNextConstruct, IsMessageOn}
use Rattle.rst_block_state.specs.declared.open_block.OpenBlock.{OpenBlock}
use Rattle.rst_block_state.proofs.NextConstructs.{next_of}

-- the form of a line of one punctuation character at the next line
abbrev pub form_at : OpenBlock → Block → Adornment → Adorned
form_at l B mark = adorned_form (l.depth == 0) mark (next_text (drop l.at B)) (third_text (drop l.at B))

-- it is the form that is found
pub form_is : (l : OpenBlock) (B : Block) (mark : Adornment) {form found : Adorned} {titles : Bool} → found ≡ form
    → found ≡ adorned_form titles mark (next_text (drop l.at B)) (third_text (drop l.at B)) → titles ≡ (l.depth == 0) → form ≡ form_at l B mark
form_is l B mark e f t = sym e ∙ f ∙ ap (λ b. adorned_form b mark (next_text (drop l.at B)) (third_text (drop l.at B))) t

size_by : (l : OpenBlock) (B : Block) (mark : Adornment) → IsBegun (drop l.at B) (begun.Adornment mark) → adornment_size (l.depth == 0) (drop l.at B) ≡ adorned_size (form_at l B mark) (drop l.at B)
unfolding adornment_size
size_by l B mark h =
    ap (λ o. option_map_or (λ (m : Adornment). adorned_size (adorned_form (l.depth == 0) m (next_text (drop l.at B)) (third_text (drop l.at B))) (drop l.at B)) o (text_size (drop l.at B))) h.mark

-- the construct of the form, and its lines
pub adorned_next : (l : OpenBlock) (B : Block) {mark : Adornment} {form : Adorned} → IsBegun (drop l.at B) (begun.Adornment mark) → form ≡ form_at l B mark
    → IsNextConstruct l B (adorned_by form (l.depth == 0) mark (drop l.at B)) (adorned_size form (drop l.at B))
adorned_next l B {mark} h e =
    let next = next_of (begun.Adornment mark) l B h tt in
    record {
      filled = next.filled;
      construct = next.construct ∙ ap (λ g. adorned_by g (l.depth == 0) mark (drop l.at B)) (sym e);
      size = next.size ∙ size_by l B mark h ∙ ap (λ g. adorned_size g (drop l.at B)) (sym e);
    }

-- titles are recognized in the document alone
pub titled_at_top : (l : OpenBlock) (B : Block) (mark : Adornment) {short : Bool} → AdornedTitle short ≡ form_at l B mark → l.depth ≡ 0
unfolding adorned_form adorned_below
titled_at_top l B mark {short} e = by (l.depth == 0) refl e
  where
    below : (texts long : Bool) → AdornedTitle short ≡ cond texts Text (cond long Unexpected ShortAdornment) → l.depth ≡ 0
    below true long h = cc
    below false true h = cc
    below false false h = cc

    by : (titles : Bool) → (l.depth == 0) ≡ titles → AdornedTitle short ≡ adorned_form titles mark (next_text (drop l.at B)) (third_text (drop l.at B)) → l.depth ≡ 0
    by true t h = eqb-true l.depth 0 t
    by false t h = below (mark.character == 58 && mark.len == 2) (nat_le 4 mark.len) h

-- lines of a form that is wrong
pub wrong_next : (l : OpenBlock) (B : Block) {mark : Adornment} {form : Adorned} (level : Level) (text : List ℕ) {lines : ℕ} → IsBegun (drop l.at B) (begun.Adornment mark) → form ≡ form_at l B mark
    → IsMessageOn form level text → fixed_size form ≡ Some lines → IsNextConstruct l B (misplaced_lines level text) lines
wrong_next l B {mark} level text h e m s =
    let next = adorned_next l B h e in
    record {
      filled = next.filled;
      construct = next.construct ∙ m (l.depth == 0) mark (drop l.at B);
      size = next.size ∙ ap (λ o. unwrap_or o (text_size (drop l.at B))) s;
    }
