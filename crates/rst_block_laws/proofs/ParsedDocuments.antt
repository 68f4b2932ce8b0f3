-- What is read of lines of text characters is a parsed document.
use Rattle.std.proofs.Common.{ℕ, ◌+◌, ◌*◌, ◌≤◌, List, arith, refl}
use Rattle.std.specs.Prelude.{Result, Ok, Err, IfOk}
use Rattle.rst_settings.specs.Profile.{Profile}
use Rattle.rst_text.specs.Block.{Block}
use Rattle.rst_block_nodes.specs.Sections.{Item, document_of}
use Rattle.rst_block_state.specs.Documents.{document}
use Rattle.rst_block_state.specs.Nodes.{document_items}
use Rattle.rst_block_state.specs.Numbered.{just, then_read}
use Rattle.rst_tree_laws.specs.Texts.{BlockKept, Spells, is_text_character}
use Rattle.rst_tree.specs.Tree.{most_levels}
use Rattle.rst_tree_index.specs.Parsed.{IsParsed}
use Rattle.rst_tree_laws.proofs.LineCharacters.{text_suited}
use Rattle.rst_block_laws.proofs.BlockFits.{document_fits}
use Rattle.rst_block_laws.proofs.Fits.{Fits}
use Rattle.rst_block_laws.proofs.Weights.{node_flat, node_height_weight}

made_parsed : (k : ℕ) (items : Result (List Item × ℕ) ℕ) → k + 205 ≤ most_levels → IfOk (then_read (λ some. just (document_of some)) items) (λ read. Fits (Spells is_text_character) k read.0)
    → IfOk (then_read (λ some. just (document_of some)) items) (λ read. IsParsed read.0)
made_parsed k (Ok found) few h =
    record { kind = refl; levels = omega (arith, few, h.0, node_height_weight (document_of found.0)); flat = node_flat k (document_of found.0) h.0 (omega (arith, few)); texts = h.1 }
made_parsed k (Err line) few h = tt

pub document_parsed : (profile : Profile) (B : Block) (number : ℕ) → profile.nesting ≤ 250 → BlockKept is_text_character B → IfOk (document profile B number) (λ read. IsParsed read.0)
document_parsed profile B number few kept =
    made_parsed (5 * profile.nesting + 72) (document_items profile B number) (omega arith) ((document_fits is_text_character (Spells is_text_character) text_suited profile B kept).at number)
