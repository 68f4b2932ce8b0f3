-- The looks at a paragraph and at the literal block that it announces.
use Rattle.std.proofs.Common.{◌≡◌, ℕ, zero, suc, ◌+◌, ◌-◌, ◌*◌, ◌<◌, ◌≤◌, true, false, Some, [], ◌∷◌, List, length, drop, min, ap, ◌∙◌, arith}
use Rattle.rst_text.specs.Block.{Block, first_text}
use Rattle.rst_text.specs.Extent.{extent}
use Rattle.rst_text.specs.Looked.{Looked, capped}
use Rattle.rst_text.specs.Reach.{reach, through_text}
use Rattle.rst_markup_lines.specs.Adornment.{is_punctuation}
use Rattle.rst_markup_lines.specs.Closing.{ends_in_colons}
use Rattle.rst_markup_lines.specs.TextStart.{first, begins_with}
use Rattle.rst_markup_blocks.specs.Lines.{lines_while}
use Rattle.rst_markup_blocks.specs.Sizes.{literal_size, paragraph_size}
use Rattle.rst_markup_blocks.specs.declared.lines.LineTest.TheVariants.{Blank, Begins, Plain}
use Rattle.rst_markup_blocks.proofs.LineLemmas.{begins_while, blanks_through, reach_after, some_through}
use Rattle.rst_block_body.specs.TextSteps.{paragraph_end}
use Rattle.rst_block_body.proofs.LiteralLemmas.{indented_here, quoted_here}
use Rattle.rst_block_body.proofs.ParagraphLemmas.{IsParagraph, ends_later, end_all, end_colons}
use Rattle.rst_block_state.proofs.RestLemmas.{lines_after}

-- ---- literal blocks

-- a reach has a line or more where there are lines
reach_some : (n : ℕ) (Z : Block) → 1 ≤ length Z → 1 ≤ reach n Z
reach_some zero Z h = omega (arith, some_through Z h)
reach_some (suc n) Z h = omega arith

spaced_some : (Z : Block) → begins_with 32 (first_text Z) ≡ true → 1 ≤ length Z
spaced_some [] h = absurd (let no : false ≡ true = h in cc)
spaced_some (l ∷ ls) h = omega arith

-- the reach of a literal block, by that of its n lines after the blank ones
reach_blanks : (B : Block) (i j n size : ℕ) → j ≡ i + lines_while Blank (drop i B) → j + n ≡ i + size → reach size (drop i B) ≡ lines_while Blank (drop i B) + reach n (drop j B)
reach_blanks B i j n size e f =
    let blanks : ℕ = lines_while Blank (drop i B) in
    let s : size ≡ lines_while Blank (drop i B) + n = omega (arith, e, f) in
    ap (λ k. reach k (drop i B)) s ∙ reach_after blanks n (drop i B) ∙ ap (λ X. blanks + reach n X) (lines_after B i blanks j e)

-- an indented literal block, after the looks at the blank lines and at the line after them
pub indented_looked : (B : Block) (i j before start text after : ℕ) → j ≡ i + lines_while Blank (drop i B) → begins_with 32 (first_text (drop j B)) ≡ true
    → Looked (lines_while Blank (drop i B)) (lines_while Blank (drop i B) + 1) before start → Looked 0 1 start text
    → Looked (extent 1 (drop j B)) (1 + 2 * reach (extent 1 (drop j B)) (drop j B)) text after → Looked (literal_size (drop i B)) (8 * reach (literal_size (drop i B)) (drop i B)) before after
indented_looked B i j before start text after e space blanks one looked =
    let n : ℕ = extent 1 (drop j B) in
    let size = (indented_here B i j 0 e space).1 in
    let whole = reach_blanks B i j n (literal_size (drop i B)) e size in
    (omega (arith, e, size, blanks.0, one.0, looked.0), omega (arith, whole, reach_some n (drop j B) (spaced_some (drop j B) space), blanks.1, one.1, looked.1))

-- a quoted literal block
pub quoted_looked : (B : Block) (i j c before start text after : ℕ) → j ≡ i + lines_while Blank (drop i B) → begins_with 32 (first_text (drop j B)) ≡ false → first (first_text (drop j B)) ≡ Some c
    → is_punctuation c ≡ true → Looked (lines_while Blank (drop i B)) (lines_while Blank (drop i B) + 1) before start → Looked 0 1 start text
    → Looked (lines_while (Begins c) (drop j B)) (2 + 2 * lines_while (Begins c) (drop j B)) text after → Looked (literal_size (drop i B)) (8 * reach (literal_size (drop i B)) (drop i B)) before after
quoted_looked B i j c before start text after e space first_char quote blanks one looked =
    let n : ℕ = lines_while (Begins c) (drop j B) in
    let size = (quoted_here B i j 0 c e space first_char quote).1 in
    let whole = reach_blanks B i j n (literal_size (drop i B)) e size in
    (omega (arith, e, size, blanks.0, one.0, looked.0), omega (arith, whole, begins_while (drop j B) c first_char, blanks.1, one.1, looked.1))

-- no literal block: its reach ends with the line after the blank ones
pub none_most : (B : Block) (i j size before start text : ℕ) → j ≡ i + lines_while Blank (drop i B) → i ≡ i + size
    → start ≤ before + reach (lines_while Blank (drop i B)) (drop i B) → text ≤ start + through_text (drop j B) → text ≤ before + 8 * reach size (drop i B)
none_most B i j size before start text e none few one =
    let Y : Block = drop i B in
    let whole : reach size (drop i B) ≡ reach 0 (drop i B) = ap (λ k. reach k (drop i B)) (let z : size ≡ 0 = omega (arith, none) in z) in
    let after_blanks : through_text (drop (lines_while Blank (drop i B)) (drop i B)) ≡ through_text (drop j B) = ap through_text (lines_after B i (lines_while Blank Y) j e) in
    omega (arith, whole, blanks_through Y, after_blanks, few, one)

-- ---- paragraphs

-- a paragraph that announces a literal block, after it was put
pub announced_looked : (t : List ℕ) (j : ℕ) (B : Block) (before put after : ℕ) → ends_in_colons t ≡ true → Looked 0 1 before put → Looked (literal_size (drop j B)) (8 * reach (literal_size (drop j B)) (drop j B)) put after
    → Looked (paragraph_end t j B - j) (1 + 8 * reach (paragraph_end t j B - j) (drop j B)) before after
announced_looked t j B before put after h first looked =
    let size : paragraph_end t j B - j ≡ literal_size (drop j B) = omega (arith, end_colons t j B h) in
    (omega (arith, size, first.0, looked.0), omega (arith, ap (λ n. reach n (drop j B)) size, first.1, looked.1))

-- what comes after the own lines of a paragraph
size_after : (B : Block) (i j : ℕ) (t : List ℕ) → IsParagraph B i j t → paragraph_size (drop i B) ≡ j - i + (paragraph_end t j B - j)
size_after B i j t p = omega (arith, end_all B i j t p, ends_later B i j t p)

-- a paragraph, after the looks by which its end is found, and those at its lines again
pub paragraph_looked : (B : Block) (i j : ℕ) (t : List ℕ) (before end text after : ℕ) → IsParagraph B i j t
    → Looked (lines_while Plain (drop (i + 1) B)) (lines_while Plain (drop (i + 1) B) + 1) before end → text ≤ end + (j - i) → capped (end + min 1 (j - i)) ≤ text
    → Looked (paragraph_end t j B - j) (1 + 8 * reach (paragraph_end t j B - j) (drop j B)) text after → Looked (paragraph_size (drop i B)) (20 * reach (paragraph_size (drop i B)) (drop i B)) before after
paragraph_looked B i j t before end text after p found again once looked =
    let n : ℕ = j - i in
    let m : ℕ = paragraph_end t j B - j in
    let later : i < j = ends_later B i j t p in
    let size = size_after B i j t p in
    let whole : reach (paragraph_size (drop i B)) (drop i B) ≡ j - i + reach (paragraph_end t j B - j) (drop j B) =
    ap (λ k. reach k (drop i B)) size ∙ reach_after n m (drop i B) ∙ ap (λ X. n + reach m X) (lines_after B i n j (omega (arith, later))) in
    (omega (arith, size, p.end, found.0, once, looked.0), omega (arith, whole, later, p.end, found.1, again, looked.1))
