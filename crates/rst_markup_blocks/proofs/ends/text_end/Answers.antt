use Rattle.std.proofs.Common.{◌≡◌, ℕ, ◌⊎◌, inl, inr, List, drop, length-drop, ap, ap₂, sym, ◌∙◌, arith}
use Rattle.rst_text.specs.Block.{Block, first_text}
use Rattle.rst_text.specs.Reach.{reach}
use Rattle.rst_text.specs.ViewBlock.{block_of}
use Rattle.rst_markup_blocks.specs.Conditions.{next_text}
use Rattle.rst_markup_blocks.specs.Forms.{text_form}
use Rattle.rst_markup_blocks.specs.declared.form.TextForm.{TextForm}
use Rattle.rst_markup_blocks.specs.declared.form.TextForm.TheVariants.{Paragraph, ShortUnderline, Title}
use Rattle.rst_markup_blocks.proofs.EndLemmas.{size_definition, size_by, next_plain, paragraph_len_is, hanging_some, size_text, text_isnt_definition}
use Rattle.rst_markup_blocks.proofs.RowLaws.{two_lines}
use Rattle.rst_markup_blocks.proofs.ends.text_end.Goals as goal

-- the form of the lines that were handed over
form : (X : Block) (text next : List ℕ) (f g : TextForm) → text ≡ first_text X → next ≡ next_text X → f ≡ text_form text next → f ≡ g → text_form (first_text X) (next_text X) ≡ g
form X text next f g t n e s = ap₂ text_form (sym t) (sym n) ∙ sym e ∙ s

pub overflow_add-result : goal.overflow_add-result
overflow_add-result c =
    let X : Block = drop c.args.i (block_of c.args.view.now) in
    let f = form X _ _ _ _ c.requires.text c.requires.next c.text_form.ensures c.in-Title.is in
    omega (arith, two_lines X (first_text X) c.in-Title.short f, length-drop c.args.i (block_of c.args.view.now))

pub returns-in-Definition : goal.returns-in-Definition
returns-in-Definition c =
    let X : Block = drop c.args.i (block_of c.args.view.now) in
    let size = size_definition X (form X _ _ _ _ c.requires.text c.requires.next c.text_form.ensures c.in-Definition.is) in
    search (arith, size, ap (λ n. reach n X) size, hanging_some X)

pub returns-in-Title : goal.returns-in-Title
returns-in-Title c =
    let X : Block = drop c.args.i (block_of c.args.view.now) in
    let size = size_by X (Title c.in-Title.short) (form X _ _ _ _ c.requires.text c.requires.next c.text_form.ensures c.in-Title.is) in
    search (arith, size, ap (λ n. reach n X) size)

-- the same, for one of two forms
either : (X : Block) (text next : List ℕ) (f : TextForm) → text ≡ first_text X → next ≡ next_text X → f ≡ text_form text next → (f ≡ Paragraph) ⊎ (f ≡ ShortUnderline)
    → (text_form (first_text X) (next_text X) ≡ Paragraph) ⊎ (text_form (first_text X) (next_text X) ≡ ShortUnderline)
either X text next f t n e (inl s) = inl (form X text next f Paragraph t n e s)
either X text next f t n e (inr s) = inr (form X text next f ShortUnderline t n e s)

pub returns-in-Paragraph : goal.returns-in-Paragraph
returns-in-Paragraph c =
    let X : Block = drop c.args.i (block_of c.args.view.now) in
    let f = either X _ _ _ c.requires.text c.requires.next c.text_form.ensures c.in-Paragraph.is in
    search (arith, size_text X f, ap (λ n. reach n X) (size_text X f), next_plain X (first_text X) (text_isnt_definition (text_form (first_text X) (next_text X)) f), paragraph_len_is X)
