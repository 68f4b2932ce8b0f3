-- What is left of a document that is read of a text is a tree.
use Rattle.std.proofs.Common.{◌≡◌, ℕ, ◌+◌, ◌*◌, ◌≤◌, true, List, [], ◌∷◌, Option, None, Some, arith, refl, ap, subst}
use Rattle.std.specs.Prelude.{◌==◌, IfOk}
use Rattle.std.specs.Str.{all_scalars, chars, is_utf8}
use Rattle.std.proofs.lemmas.Bool.{and_parts, cond_both}
use Rattle.std.proofs.lemmas.Result.{IfOk-weaker}
use Rattle.std.proofs.lemmas.Str.{IsUtf8-from_is_utf8, scalars-chars}
use Rattle.rst_settings.specs.Profile.{Profile, profile_of}
use Rattle.rst_settings.specs.declared.Settings.{Settings}
use Rattle.rst_text.specs.Block.{Block}
use Rattle.rst_text.specs.Characters.{Text}
use Rattle.rst_text.specs.Lines.{first_longer}
use Rattle.rst_text.specs.Text.{text_of, without_mark}
use Rattle.rst_tree.specs.declared.node.Node.{Node}
use Rattle.rst_tree.specs.declared.note.Note.{Note}
use Rattle.rst_block_state.specs.Documents.{document}
use Rattle.rst_transform.specs.Finishing.{leaves}
use Rattle.rst2pseudoxml_run.specs.Reading.{IsLeftOf, lines_under, long_document, read_by}
use Rattle.rst_tree_laws.specs.Texts.{BlockKept, Spells, is_text_character}
use Rattle.rst_tree_laws.specs.Trees.{IsTree}
use Rattle.rst_tree_index.specs.Parsed.{IsParsed}
use Rattle.rst_tree.specs.Nodes.{node_height}
use Rattle.rst_tree_laws.proofs.AnyTexts.{Anything, any, any_suited, block_any}
use Rattle.rst_block_laws.proofs.BlockFits.{document_fits}
use Rattle.rst_tree_laws.proofs.Decimals.{decimal_fixed}
use Rattle.rst_block_laws.proofs.Fits.{Fits}
use Rattle.rst_block_laws.proofs.ParsedDocuments.{document_parsed}
use Rattle.rst_tree_laws.proofs.LineCharacters.{lines_kept, text_suited}
use Rattle.rst_tree_laws.proofs.Properties.{fixed_has}
use Rattle.rst_transform.proofs.TransformFinishing.{finished_tree, finishing_low}
use Rattle.rst_block_laws.proofs.Weights.{node_flat, node_height_weight}

-- ---- from a text to what is left

pub long_parsed : (line : ℕ) → IsParsed (long_document line)
long_parsed line = record {
  kind = refl;
  levels = omega arith;
  flat = ((λ e. omega arith), ((λ e. omega arith), tt, tt), tt);
  texts = (tt, ((tt, tt), (tt, (fixed_has is_text_character (Spells is_text_character) text_suited _ (decimal_fixed line _ refl), tt), tt), tt));
}

read_parsed : (long : Option ℕ) (settings : Settings) (lines : Block) → BlockKept is_text_character lines → IfOk (read_by long (profile_of settings) lines) (λ read. IsParsed read.0)
read_parsed None settings lines kept = document_parsed (profile_of settings) lines 0 (omega arith) kept
read_parsed (Some line) settings lines kept = long_parsed line

marked_scalars : (cs : Text) → all_scalars cs ≡ true → all_scalars (without_mark cs) ≡ true
marked_scalars [] e = refl
marked_scalars (c ∷ cs) e = cond_both (c == 0xFEFF) cs (c ∷ cs) (λ ds. all_scalars ds ≡ true) (λ _. (and_parts _ _ e).1) (λ _. e)

text_tree : (settings : Settings) (text : Text) (document : Node) (notes : List Note) → all_scalars text ≡ true → IsLeftOf (profile_of settings) settings (Some text) document notes → IsTree document
text_tree settings text document notes e (read, is, left) =
    let lines : Block = lines_under settings text in
    let parsed = read_parsed (first_longer (profile_of settings).line_limit lines) settings lines (lines_kept settings.parts settings.tab text e) in
    subst IsTree (ap (λ done. done.0) left) (finished_tree read.1 (profile_of settings) settings read.0 (subst (λ r. IfOk r (λ read. IsParsed read.0)) is parsed))

pub left_tree : (settings : Settings) (bytes : List ℕ) (document : Node) (notes : List Note) → IsLeftOf (profile_of settings) settings (text_of bytes) document notes → IsTree document
left_tree settings bytes document notes =
    cond_both (is_utf8 bytes) (Some (without_mark (chars bytes))) None (λ text. IsLeftOf (profile_of settings) settings text document notes → IsTree document)
    (λ e. text_tree settings (without_mark (chars bytes)) document notes (marked_scalars (chars bytes) (scalars-chars bytes (IsUtf8-from_is_utf8 bytes e)))) (λ e left. absurd left.1)

-- ---- levels alone, for any lines

pub left_low : (profile : Profile) (settings : Settings) (B : Block) (number : ℕ) → profile.nesting ≤ 250
    → IfOk (document profile B number) (λ read. node_height (leaves read.1 profile settings read.0).0 ≤ 5 * profile.nesting + 277)
left_low profile settings B number few =
    IfOk-weaker (document profile B number) (λ read. Fits Anything (5 * profile.nesting + 72) read.0) _
    (λ read h. let flat = node_flat (5 * profile.nesting + 72) read.0 h.0 (omega arith) in omega (arith, h.0, finishing_low read.1 profile settings read.0 flat, node_height_weight read.0))
    ((document_fits any Anything any_suited profile B (block_any B)).at number)
