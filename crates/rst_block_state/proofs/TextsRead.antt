-- Texts that were read are those of the definition.
use Rattle.std.proofs.Common.{◌≡◌, ℕ, List, [], ◌∷◌, ◌++◌, Option, Ok, sym, ap, ◌∙◌}
use Rattle.rst_settings.specs.declared.Parts.{Parts}
use Rattle.rst_text.specs.Block.{Block, first_parts}
use Rattle.rst_tree.specs.declared.node.Node.{Node}
use Rattle.rst_tree.specs.declared.tag.Tag.TheVariants.{Title as TitleTag}
use Rattle.rst_block_nodes.specs.declared.heading.Style.{Style}
use Rattle.rst_markup_directives.specs.Directive.{Read}
use Rattle.rst_block_nodes.specs.Options.{directive_element, subtitle_chosen}
use Rattle.rst_block_nodes.specs.Readings.{subtitled}
use Rattle.rst_block_nodes.specs.Sections.{filled}
use Rattle.rst_block_state.specs.Directives.{titled_element, titled_start}
use Rattle.rst_block_state.specs.LineRuns.{number_or}
use Rattle.rst_block_state.specs.Numbered.{then_read, ◌>>=◌, just}
use Rattle.rst_block_state.specs.Texts.{joined, texted}
use Rattle.rst_block_state.specs.Titles.{titled, title_item}

-- a title with that element
pub title_reads : (parts : Parts) (style : Style) (t : List ℕ) (line : ℕ) (warning : Option Node) (lines : List ℕ) (number next : ℕ) (element : Node) (notes : List Node)
    → texted parts TitleTag line t line number ≡ Ok ((element, notes), next)
    → title_item parts style t line warning lines number
    ≡ Ok (titled (record { style = style; element = element; notes = notes; warning = warning; line = line; source = lines }) ∷ [], next)
title_reads parts style t line warning lines number next element notes e =
    ap (then_read (λ (made : Node × List Node). just (titled (record { style = style; element = made.0; notes = made.1; warning = warning; line = line; source = lines }) ∷ []))) e

-- what a directive begins with that has a title
pub titled_reads : {parts : Parts} {at : ℕ} {t : List ℕ} (line : ℕ) (read : Read) (lines : Block) (n mid m : ℕ) (title : Node) (notes heads more : List Node) (node : Node) → parts ≡ first_parts lines → at ≡ number_or line lines → t ≡ joined lines
    → texted parts TitleTag at t at n ≡ Ok ((title, notes), mid) → subtitled parts (subtitle_chosen read.options) line mid ≡ Ok ((heads, more), m)
    → node ≡ filled (titled_element read.kind.element (directive_element read.kind.element read.argument read.options line) title) (title ∷ heads ++ notes ++ more)
    → titled_start line read lines n ≡ Ok (node, m)
titled_reads {parts} {at} {t} line read lines n mid m title notes heads more node p l e r q w =
    let E : Node → Node = titled_element read.kind.element (directive_element read.kind.element read.argument read.options line) in
    let o : Option (List ℕ) = subtitle_chosen read.options in
    let first : texted (first_parts lines) TitleTag (number_or line lines) (joined lines) (number_or line lines) n ≡ Ok ((title, notes), mid) =
    sym (ap (λ x. texted parts TitleTag at x at n) e ∙ ap (λ x. texted parts TitleTag x (joined lines) x n) l ∙ ap (λ x. texted x TitleTag (number_or line lines) (joined lines) (number_or line lines) n) p) ∙ r in
    let second : subtitled (first_parts lines) o line mid ≡ Ok ((heads, more), m) = sym (ap (λ x. subtitled x o line mid) p) ∙ q in
    ap (then_read (λ (made : Node × List Node). subtitled (first_parts lines) o line >>= λ others. just (filled (E made.0) (made.0 ∷ others.0 ++ made.1 ++ others.1)))) first
    ∙ ap (then_read (λ (others : List Node × List Node). just (filled (E title) (title ∷ others.0 ++ notes ++ others.1)))) second
    ∙ ap (λ (x : Node). Ok (x, m)) (sym w)
