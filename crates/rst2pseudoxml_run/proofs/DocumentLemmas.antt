-- Lemmas on the document of some bytes.
use Rattle.std.proofs.Common.{◌≡◌, ℕ, List, None, Some, sym, ap, ◌∙◌, subst}
use Rattle.std.specs.Prelude.{Result, Ok}
use Rattle.rst_settings.specs.Profile.{profile_of}
use Rattle.rst_settings.specs.declared.Settings.{Settings}
use Rattle.rst_text.specs.Block.{Block}
use Rattle.rst_text.specs.Lines.{first_longer, lines_of}
use Rattle.rst_text.specs.Text.{text_of}
use Rattle.rst_tree.specs.declared.node.Node.{Node}
use Rattle.rst_tree.specs.declared.note.Note.{Note}
use Rattle.rst_transform.specs.Finishing.{leaves}
use Rattle.rst_block_state.specs.Documents.{document}
use Rattle.rst2pseudoxml_run.specs.Reading.{held, held_parts, long_document, read_by, read_of, IsLeftOf, IsReadOf}

-- what is read of a text without a line that is too long, under the settings that hold in it, is the document of its lines, or the line at which
-- blocks are nested too deeply
pub read_short : (settings : Settings) (bytes text : List ℕ) (under : Settings) (lines : Block) (read : Result (Node × ℕ) ℕ) → text_of bytes ≡ Some text
    → under ≡ held settings (text_of bytes) → lines ≡ lines_of under.parts under.tab text → first_longer under.limit lines ≡ None
    → document (profile_of settings) lines 0 ≡ read → IsReadOf (profile_of settings) (held settings (text_of bytes)) (text_of bytes) read
read_short settings bytes text under lines read is holds made few found =
    let same = made ∙ ap (λ (s : Settings). lines_of s.parts s.tab text) holds in
    let short : first_longer settings.limit lines ≡ None = sym (ap (λ (s : Settings). first_longer s.limit lines) holds) ∙ few in
    subst (λ t. IsReadOf (profile_of settings) (held settings (text_of bytes)) t read) (sym is)
    (ap (read_of (profile_of settings)) (sym same) ∙ ap (λ long. read_by long (profile_of settings) lines) short ∙ found)

-- what is read of a text with a line that is too long is the document that says so
pub read_long : (settings : Settings) (bytes text : List ℕ) (under : Settings) (line : ℕ) → text_of bytes ≡ Some text → under ≡ held settings (text_of bytes)
    → first_longer under.limit (lines_of under.parts under.tab text) ≡ Some line
    → IsReadOf (profile_of settings) (held settings (text_of bytes)) (text_of bytes) (Ok (long_document line, 0))
read_long settings bytes text under line is holds long =
    let there : first_longer settings.limit (lines_of (held_parts settings.parts (text_of bytes)) settings.tab text) ≡ Some line =
    sym (ap (λ (s : Settings). first_longer s.limit (lines_of s.parts s.tab text)) holds) ∙ long in
    subst (λ t. IsReadOf (profile_of settings) (held settings (text_of bytes)) t (Ok (long_document line, 0))) (sym is)
    (ap (λ long. read_by long (profile_of settings) (lines_of (held_parts settings.parts (text_of bytes)) settings.tab text)) there)

-- a pair is that of its parts
pair_is : (p : Node × List Note) (d : Node) (n : List Note) → d ≡ p.0 → n ≡ p.1 → p ≡ (d, n)
pair_is (a, b) d n x y = sym (ap (λ (m : Node). (m, n)) x ∙ ap (λ (l : List Note). (a, l)) y)

-- what is left of the document that is read of a text, under the settings that hold in it
pub left_under : (settings : Settings) (bytes : List ℕ) (under : Settings) (tree : Node) (messages : ℕ) (done : Node) (notes : List Note)
    → under ≡ held settings (text_of bytes) → IsReadOf (profile_of settings) (held settings (text_of bytes)) (text_of bytes) (Ok (tree, messages))
    → done ≡ (leaves messages (profile_of under) under tree).0 → notes ≡ (leaves messages (profile_of under) under tree).1
    → IsLeftOf (profile_of settings) (held settings (text_of bytes)) (text_of bytes) done notes
left_under settings bytes under tree messages done notes is found first second =
    let left : Settings → Node × List Note = λ s. leaves messages (profile_of s) s tree in
    ((tree, messages), found, ap left (sym is) ∙ pair_is (left under) done notes first second)
