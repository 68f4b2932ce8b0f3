-- What a directive leaves that holds no blocks.
use Rattle.std.proofs.Common.{◌≡◌, ℕ, false, List, ◌∷◌, Some, Result, Ok, Err, refl, sym, ap, ◌∙◌}
use Rattle.std.specs.declared.vec.Vec.{Vec}
use Rattle.rst_settings.specs.declared.Parts.{Parts}
use Rattle.rst_text.specs.Block.{Block, first_parts}
use Rattle.rst_tree.specs.declared.node.Node.{Node}
use Rattle.rst_markup_blocks.specs.declared.part.Part.{Part}
use Rattle.rst_markup_directives.specs.Argument.{title}
use Rattle.rst_markup_directives.specs.Directive.{Read}
use Rattle.rst_markup_directives.specs.declared.kind.ContentKind.{ContentKind}
use Rattle.rst_markup_directives.specs.declared.kind.ContentKind.TheVariants.{Marked, Verse, Formulas, Entries}
use Rattle.rst_block_nodes.specs.LineBlocks.{IndentedLine, MakesLineBlock, line_block}
use Rattle.rst_block_nodes.specs.Options.{with_options}
use Rattle.rst_block_nodes.specs.TableOfContents.{table_of_contents}
use Rattle.rst_block_nodes.specs.declared.fault.BlockFault.{BlockFault}
use Rattle.rst_block_nodes.specs.declared.fault.BlockFault.TheVariants.{TooDeep, NoMemory}
use Rattle.rst_block_state.specs.Directives.{closed_by, closed_with, title_text, verse_nodes}
use Rattle.rst_block_state.specs.LineRuns.{verse_lines}
use Rattle.rst_block_state.specs.Numbered.{Numbered, just, then_read}
use Rattle.rst_block_state.specs.Texts.{joined, lines_in}
use Rattle.rst_block_state.specs.machine.Meanings.{Keeps}
use Rattle.rst_block_state.specs.machine.OpenBlocks.{Gives}
use Rattle.rst_block_markup.specs.MarkupSteps.{HoldsNodes}

-- nodes are kept that are held
pub held_keeps : {A : Type 0} (nodes : Numbered (List Node)) (n m : ℕ) (r : Result (Vec Node A) BlockFault) → Gives (HoldsNodes nodes n m) r → Keeps r (λ (made : Vec Node A). Ok (made.items, m)) (nodes n)
held_keeps nodes n m (Ok made) h = sym h
held_keeps nodes n m (Err (TooDeep line)) h = absurd h
held_keeps nodes n m (Err NoMemory) h = tt

-- a directive whose content says nothing of its element
pub other_closed : (content : ContentKind) → (content ≡ Marked → ⊥) → (content ≡ Verse → ⊥) → (content ≡ Formulas → ⊥) → (content ≡ Entries → ⊥) → (levels : ℕ) (B : Block) (line : ℕ) (read : Read)
    → closed_by read.argument B line read ≡ closed_with content levels B line read
other_closed Marked marked verse formulas entries levels B line read = absurd (marked refl)
other_closed Verse marked verse formulas entries levels B line read = absurd (verse refl)
other_closed Formulas marked verse formulas entries levels B line read = absurd (formulas refl)
other_closed Entries marked verse formulas entries levels B line read = absurd (entries refl)
other_closed _ marked verse formulas entries levels B line read = refl

-- a table of contents whose argument is a title
pub contents_is : (parts : Parts) (B : Block) (read : Read) (part : Part) (line : ℕ) (t : List ℕ) → parts ≡ first_parts B → read.argument ≡ title part → t ≡ joined (lines_in B part)
    → table_of_contents parts read.options (Some t) line ≡ table_of_contents (first_parts B) read.options (title_text read.argument B) line
contents_is parts B read part line t p a e =
    ap (λ x. table_of_contents x read.options (Some t) line) p ∙ ap (λ x. table_of_contents (first_parts B) read.options (Some x) line) e
    ∙ ap (λ x. table_of_contents (first_parts B) read.options (title_text x B) line) (sym a)

-- a line block with its options
pub verse_made : (levels n m : ℕ) (lines : List IndentedLine) (read : Read) (X : Block) (element : Node) (notes : List Node) → lines ≡ verse_lines 0 X → line_block levels lines n ≡ Ok ((element, notes), m)
    → verse_nodes levels read X n ≡ Ok (with_options false read.options element ∷ notes, m)
verse_made levels n m lines read X element notes same made =
    ap (then_read (λ (made : Node × List Node). just (with_options false read.options made.0 ∷ made.1))) (ap (λ ls. line_block levels ls n) (sym same) ∙ made)

-- a line block that is nested too deeply
pub verse_refused : {A : Type 0} (levels n m : ℕ) (lines : List IndentedLine) (follows : A → Result (List Node × ℕ) ℕ) (read : Read) (X : Block) (fault : BlockFault) (r : Result A BlockFault) → lines ≡ verse_lines 0 X
    → MakesLineBlock (line_block levels lines n) m (Err fault) → r ≡ Err fault → Keeps r follows (verse_nodes levels read X n)
verse_refused levels n m lines follows read X (TooDeep line) r same h e =
    rw e (ap (then_read (λ (made : Node × List Node). just (with_options false read.options made.0 ∷ made.1))) (ap (λ ls. line_block levels ls n) (sym same) ∙ h))
verse_refused levels n m lines follows read X NoMemory r same h e = rw e tt
