-- The lines of a directive's line block, as they are kept, and as they are meant.
use Rattle.std.proofs.Common.{◌≡◌, ℕ, ◌+◌, ◌<◌, List, [], ◌∷◌, ◌++◌, length, take, drop, length-drop, append_assoc, arith, refl, sym, ap, ◌∙◌, subst}
use Rattle.std.specs.Prelude.{unwrap_or}
use Rattle.std.proofs.Math.Seq.{take-add}
use Rattle.rst_text.specs.Block.{Block, Line}
use Rattle.rst_markup_directives.specs.declared.found.Content.{Content}
use Rattle.rst_block_nodes.specs.LineBlocks.{IndentedLine, indented, indented_by, indented_from}
use Rattle.rst_block_nodes.specs.declared.line_blocks.BarText.{BarText}
use Rattle.rst_block_state.specs.Directives.{content_lines}
use Rattle.rst_block_state.specs.LineRuns.{verse_indent, verse_line, verse_lines}
use Rattle.rst_block_state.specs.Texts.{lines_in}
use Rattle.rst_block_markup.specs.MarkupSteps.{AreVerse, IsVerse}

-- they have the same indentations and texts
pub verse_is : (bars : List BarText) (B : Block) → AreVerse bars B → (last : ℕ) → indented_from last bars ≡ verse_lines last B
verse_is [] [] h last = refl
verse_is [] (l ∷ ls) h last = absurd h
verse_is (bar ∷ bars) [] h last = absurd h
verse_is (bar ∷ bars) (l ∷ ls) h last =
    let same : indented_by (unwrap_or bar.indent last) bar ≡ verse_line last l = h.0 last in
    ap (λ x. x ∷ indented_from (unwrap_or bar.indent last) bars) same
    ∙ ap (λ others. verse_line last l ∷ others) (ap (λ n. indented_from n bars) (ap (λ (x : IndentedLine). x.indent) same) ∙ verse_is bars ls h.1 (verse_indent last l))

verse_more : (bars : List BarText) (B : Block) (bar : BarText) (l : Line) → AreVerse bars B → IsVerse bar l → AreVerse (bars ++ bar ∷ []) (B ++ l ∷ [])
verse_more [] [] bar l h one = (one, tt)
verse_more [] (m ∷ ms) bar l h one = absurd h
verse_more (b ∷ bars) [] bar l h one = absurd h
verse_more (b ∷ bars) (m ∷ ms) bar l h one = (h.0, verse_more bars ms bar l h.1 one)

-- the next line of a block comes after others
pub verse_step : (bars : List BarText) (B X : Block) (at : ℕ) (bar : BarText) → at < length X → AreVerse bars (B ++ take at X) → ((l : Line) (ls : Block) → l ∷ ls ≡ drop at X → IsVerse bar l)
    → AreVerse (bars ++ bar ∷ []) (B ++ take (at + 1) X)
verse_step bars B X at bar within h one = by (drop at X) refl
  where
    by : (Y : Block) → Y ≡ drop at X → AreVerse (bars ++ bar ∷ []) (B ++ take (at + 1) X)
    by [] e = absurd (omega (arith, ap length e, length-drop at X, within))
    by (l ∷ ls) e =
        let taken : take at X ++ l ∷ [] ≡ take (at + 1) X = ap (λ (Y : Block). take at X ++ take 1 Y) e ∙ sym (take-add at 1 X) in
        subst (AreVerse (bars ++ bar ∷ [])) (append_assoc B (take at X) (l ∷ []) ∙ ap (λ Y. B ++ Y) taken) (verse_more bars (B ++ take at X) bar l h (one l ls e))

-- the lines of a content, after none
pub content_is : (B : Block) (content : Content) (none some lines : List BarText) (one two : Block) → none ≡ [] → ((A : Block) → AreVerse none A → AreVerse some (A ++ one)) → ((A : Block) → AreVerse some A → AreVerse lines (A ++ two))
    → one ≡ lines_in B content.first → two ≡ lines_in B content.second → indented lines ≡ verse_lines 0 (content_lines B content)
content_is B content none some lines one two empty first second o t =
    let begun : AreVerse some one = first [] (subst (λ (xs : List BarText). AreVerse xs []) (sym empty) tt) in
    let whole : one ++ two ≡ content_lines B content = ap (λ (Y : Block). Y ++ two) o ∙ ap (λ Y. lines_in B content.first ++ Y) t in
    verse_is lines (content_lines B content) (subst (AreVerse lines) whole (second one begun)) 0
