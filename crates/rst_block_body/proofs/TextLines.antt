-- Lines of text: what the block gives after a paragraph or a title over its underline.
use Rattle.std.proofs.Common.{◌≡◌, ℕ, ◌+◌, Bool, List, [], ◌++◌, drop, map, refl, sym, ◌∙◌, ap, subst, append_assoc, append-nil}
use Rattle.std.specs.Prelude.{◌==◌, ◌≢◌}
use Rattle.rst_text.specs.Block.{Block, first_text}
use Rattle.rst_tree.specs.declared.node.Node.{Node}
use Rattle.rst_markup_blocks.specs.Conditions.{next_text}
use Rattle.rst_markup_blocks.specs.Forms.{text_form}
use Rattle.rst_markup_blocks.specs.Sizes.{form_size, paragraph_size}
use Rattle.rst_markup_blocks.specs.declared.form.TextForm.{TextForm}
use Rattle.rst_markup_blocks.specs.declared.form.TextForm.TheVariants.{Paragraph, ShortUnderline, Definition, Title}
use Rattle.rst_block_state.specs.Constructs.{paragraph, text_by}
use Rattle.rst_block_state.specs.Literals.{paragraph_nodes}
use Rattle.rst_block_state.specs.machine.Meanings.{done_of}
use Rattle.rst_block_state.specs.machine.NextLine.{IsNextConstruct, IsText}
use Rattle.rst_block_state.specs.machine.RestLaws.{IsAlone}
use Rattle.rst_block_state.specs.Nodes.{plainly}
use Rattle.rst_block_state.specs.Numbered.{Numbered, then_read, just}
use Rattle.rst_block_state.specs.machine.OpenBlocks.{HasMore, ReadsNodes, ReadsItems}
use Rattle.rst_block_body.specs.TextSteps.{form_notes}
use Rattle.rst_block_state.specs.Texts.{span_source}
use Rattle.rst_block_state.specs.Titles.{Item, plain, underline_item, underlined_nodes}
use Rattle.rst_block_state.specs.declared.open_block.OpenBlock.{OpenBlock}
use Rattle.rst_block_state.proofs.Changes.{more_then, done_more}
use Rattle.rst_block_state.proofs.NextConstructs.{next_of_form}
use Rattle.rst_block_body.proofs.ParagraphLemmas.{after_infos}
use Rattle.rst_block_body.proofs.TextsPaid.{more_items}

-- ---- a line of text

-- a text that is no term stands alone
pub alone_form : (form : TextForm) (titles : Bool) (infos : List Node) (X : Block) → form ≢ Definition → IsAlone (text_by form titles infos X)
alone_form Paragraph titles infos X h = tt
alone_form ShortUnderline titles infos X h = tt
alone_form Definition titles infos X h = absurd (h refl)
alone_form (Title short) titles infos X h = tt

-- a text that is a paragraph comes next, after the messages that explain why it is a text, and that on a short underline
pub paragraph_next : {l : OpenBlock} {B : Block} {form : TextForm} (infos : List Node) → IsText l B infos → text_form (first_text (drop l.at B)) (next_text (drop l.at B)) ≡ form → (form ≡ Definition → ⊥)
    → ((short : Bool) → form ≡ Title short → ⊥) → IsNextConstruct l B (paragraph (infos ++ form_notes form (l.depth == 0) (drop l.at B))) (paragraph_size (drop l.at B))
paragraph_next {l} {B} {form} infos h e no_definition no_title = by form (next_of_form infos h e) no_definition no_title
  where
    by : (f : TextForm) → IsNextConstruct l B (text_by f (l.depth == 0) infos (drop l.at B)) (form_size f (drop l.at B)) → (f ≡ Definition → ⊥) → ((short : Bool) → f ≡ Title short → ⊥)
        → IsNextConstruct l B (paragraph (infos ++ form_notes f (l.depth == 0) (drop l.at B))) (paragraph_size (drop l.at B))
    by Paragraph n d t = rw (append-nil infos) n
    by ShortUnderline n d t = n
    by Definition n d t = absurd (d refl)
    by (Title short) n d t = absurd (t short refl)

-- ---- what it gives after the end of the open run and the messages before it

pub paragraph_items : (B : Block) (m : ℕ) {mid pre new : OpenBlock} {notes : List Node} {at next : ℕ} → pre.at ≡ at → HasMore mid pre notes
    → ReadsNodes (paragraph_nodes [] (drop pre.at B) m) pre new (pre.at + paragraph_size (drop pre.at B)) next → ReadsItems (plainly (paragraph_nodes notes (drop at B)) m) mid new (at + paragraph_size (drop at B)) next
paragraph_items B m {pre = pre} {new = new} {notes = notes} {at = at} {next = next} e some read =
    let here : ReadsNodes (paragraph_nodes [] (drop at B) m) pre new (at + paragraph_size (drop at B)) next =
    subst (λ i. ReadsNodes (paragraph_nodes [] (drop i B) m) pre new (i + paragraph_size (drop i B)) next) e read in
    more_items _ (ap (then_read (λ (nodes : List Node). just (map plain nodes))) (after_infos notes (drop at B) m next here.more here.given)) (more_then some here.gone)

-- what a title over its underline gives at a place
abbrev pub underlined_at : ℕ → ℕ → Bool → Block → Numbered (List Item)
underlined_at depth i short B = underline_item (depth == 0) short (span_source B (record { start = i; stop = i + 2 })) (drop i B)

pub underlined_items : (B : Block) (short : Bool) (m : ℕ) {mid pre new : OpenBlock} {infos : List Node} {depth at next : ℕ} → pre.depth ≡ depth → pre.at ≡ at → HasMore mid pre infos
    → ReadsItems (underlined_at pre.depth pre.at short B m) pre new (pre.at + 2) next
    → ReadsItems (underlined_nodes (depth == 0) infos short (span_source B (record { start = at; stop = at + 2 })) (drop at B) m) mid new (at + 2) next
underlined_items B short m {mid} {infos = infos} d e some read = record {
  more = map plain infos ++ read.more;
  given = rw (d, e) at (ap (then_read (λ (items : List Item). just (map plain infos ++ items))) read.given);
  depth = read.depth ∙ some.depth;
  at = rw e at read.at;
  done = read.done ∙ ap (λ items. items ++ read.more) (done_more some) ∙ append_assoc (done_of mid) (map plain infos) read.more;
  run = read.run ∙ some.run;
}
