-- Substitution definitions: what a block gives once one in it is read, and the text that one is replaced by.
use Rattle.std.proofs.Common.{◌≡◌, ℕ, true, false, List, [], ◌∷◌, drop, codes, Some, None, refl, sym, ◌∙◌, ap}
use Rattle.rst_text.specs.Block.{Block, first_number}
use Rattle.rst_tree.specs.Forest.{Forest}
use Rattle.rst_tree.specs.Nodes.{forest_of, nodes_of}
use Rattle.rst_tree.specs.declared.node.Node.{Node}
use Rattle.rst_tree.specs.declared.note.Level.TheVariants.{Warning, Error}
use Rattle.rst_tree.proofs.Changes.{nodes_of-forest_of}
use Rattle.rst_markup_blocks.specs.Partition.{Span}
use Rattle.rst_block_nodes.specs.Elements.{substitution_definition_node}
use Rattle.rst_block_nodes.specs.Targets.{may_replace}
use Rattle.rst_block_nodes.specs.Texts.{message_node}
use Rattle.rst_block_nodes.specs.Values.{normalized, unescaped}
use Rattle.rst_block_nodes.specs.Sections.{filled}
use Rattle.rst_block_state.specs.Directives.{about, replacement, substitution_nodes}
use Rattle.rst_block_state.specs.Numbered.{just}
use Rattle.rst_block_state.specs.Texts.{span_source}
use Rattle.rst_block_state.specs.Within.{Within}

-- a definition that holds no directive
pub none_holds : (c : Within) (B : Block) (s : Span) (written name reported_name text displayed : List ℕ) (line : ℕ) (node : Node) → reported_name ≡ name → name ≡ normalized (unescaped written) → text ≡ about reported_name (codes " empty or invalid.")
    → displayed ≡ span_source B s → line ≡ first_number (drop s.start B) → node ≡ message_node Warning line text (Some displayed) → just (node ∷ []) ≡ substitution_nodes c B s written None
none_holds c B s written name reported_name text displayed line node d e a h l m =
    ap (λ (x : Node). just (x ∷ [])) (
    m
    ∙ ap (λ k. message_node Warning k text (Some displayed)) l
    ∙ ap (λ x. message_node Warning (first_number (drop s.start B)) text (Some x)) h
    ∙ ap (λ x. message_node Warning (first_number (drop s.start B)) x (Some (span_source B s))) (a ∙ ap (λ x. about x (codes " empty or invalid.")) (d ∙ e)))

-- ---- replacement texts

same_nodes : (children : Forest) (slice ns : List Node) → children ≡ forest_of slice → nodes_of children ≡ ns → slice ≡ ns
same_nodes children slice ns e f = sym (nodes_of-forest_of slice) ∙ ap nodes_of (sym e) ∙ f

pub replacement_refused : (name lines text displayed : List ℕ) (line : ℕ) (children : Forest) (slice ns : List Node) → children ≡ forest_of slice → nodes_of children ≡ ns → may_replace slice ≡ false
    → text ≡ about name (codes " contains an illegal element.") → displayed ≡ lines → message_node Error line text (Some displayed) ≡ replacement name line lines ns
replacement_refused name lines text displayed line children slice ns e f h t s =
    let bad : may_replace ns ≡ false = ap may_replace (sym (same_nodes children slice ns e f)) ∙ h in rw (bad, t, s) refl

pub replacement_accepted : (name lines written : List ℕ) (line : ℕ) (children : Forest) (slice ns content : List Node) (definition : Node) → children ≡ forest_of slice → nodes_of children ≡ ns
    → may_replace slice ≡ true → content ≡ nodes_of children → written ≡ name → definition ≡ substitution_definition_node written line → filled definition content ≡ replacement name line lines ns
replacement_accepted name lines written line children slice ns content definition e f h c w d =
    let good : may_replace ns ≡ true = ap may_replace (sym (same_nodes children slice ns e f)) ∙ h in
    ap (λ (n : Node). filled n content) (d ∙ ap (λ x. substitution_definition_node x line) w)
    ∙ ap (filled (substitution_definition_node name line)) (c ∙ f)
    ∙ rw good refl
