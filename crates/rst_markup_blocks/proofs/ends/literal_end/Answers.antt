use Rattle.std.proofs.Common.{refl, ◌≡◌, ℕ, ◌+◌, Some, None, true, false, drop, ap, sym, ◌∙◌, arith}
use Rattle.rst_text.specs.Block.{Block, first_text}
use Rattle.rst_text.specs.Extent.{extent}
use Rattle.rst_text.specs.Reach.{reach, through_text}
use Rattle.rst_text.specs.ViewBlock.{block_of}
use Rattle.rst_markup_lines.specs.TextStart.{first}
use Rattle.rst_markup_lines.specs.Adornment.{is_punctuation}
use Rattle.rst_markup_blocks.specs.declared.lines.LineTest.TheVariants.{Blank, Begins}
use Rattle.rst_markup_blocks.specs.Lines.{lines_while}
use Rattle.rst_markup_blocks.specs.Sizes.{literal_size, quoted_size}
use Rattle.rst_markup_blocks.proofs.LineLemmas.{drop_far}
use Rattle.rst_markup_blocks.proofs.EndLemmas.{literal_indented, literal_other, looked_indented, looked_none, reach_none, looked_quoted}
use Rattle.rst_markup_blocks.proofs.ends.literal_end.Goals as goal
use Rattle.rst_markup_blocks.proofs.EndLemmas.{quoted_is}
use Rattle.rst_markup_blocks.proofs.LineLemmas.{blanks_through}

pub returns-then-from-indented : goal.returns-then-from-indented
returns-then-from-indented c =
    let Y : Block = drop c.args.from (block_of c.args.view.now) in
    let end : c.block_end-indented.result.end ≡ c.args.from + extent 1 Y = ap (λ e. e.end) c.block_end-indented.ensures.extent in
    search (arith, literal_indented Y (omega arith), looked_indented Y (omega arith))

-- the blank lines that were looked at, and the line after them
after_blank : (from k b : ℕ) (B : Block) → k ≡ from + b → drop k B ≡ drop b (drop from B)
after_blank from k b B e = ap (λ j. drop j B) e ∙ drop_far from b B

pub returns-in-Some : goal.returns-in-Some
returns-in-Some c =
    let B : Block = block_of c.args.view.now in
    let Y : Block = drop c.args.from B in
    let b : ℕ = lines_while Blank Y in
    let none : extent 1 Y ≡ 0 = omega (arith, ap (λ e. e.end) c.block_end-indented.ensures.extent) in
    let place = after_blank c.args.from c.lines_end-start.result b B c.lines_end-start.ensures.end in
    let e : first (first_text (drop b Y)) ≡ Some c.in-Some.c = ap (λ Z. first (first_text Z)) (sym place) ∙ ap first (sym c.text_at.ensures.text) ∙ sym c.first_char.ensures ∙ c.in-Some.is in
    let p : is_punctuation c.in-Some.c ≡ true = sym c.is_punctuation.ensures ∙ c.if-is_punctuation.true in
    let quoted : quoted_size b Y ≡ b + lines_while (Begins c.in-Some.c) (drop b Y) = quoted_is b (Some c.in-Some.c) Y e ∙ rw p refl in
    let Z : Block = drop b Y in
    let k : ℕ = lines_while (Begins c.in-Some.c) Z in
    let whole = looked_quoted c.in-Some.c Y none e p (through_text Y) 1 (reach k Z) (omega arith) (omega arith) (omega arith) in
    record {
      end = omega (arith, literal_other Y none, quoted, c.lines_end.ensures.end, c.lines_end-start.ensures.end, ap (λ Z. lines_while (Begins c.in-Some.c) Z) place);
      looked = search (arith, whole, blanks_through Y, ap (λ X. reach (lines_while (Begins c.in-Some.c) X) X) place);
    }

pub returns-in_default : goal.returns-in_default
returns-in_default c =
    let B : Block = block_of c.args.view.now in
    let Y : Block = drop c.args.from B in
    let b : ℕ = lines_while Blank Y in
    let none : extent 1 Y ≡ 0 = omega (arith, ap (λ e. e.end) c.block_end-indented.ensures.extent) in
    let place = after_blank c.args.from c.lines_end-start.result b B c.lines_end-start.ensures.end in
    let e : first (first_text (drop b Y)) ≡ Some c.in-Some.c = ap (λ Z. first (first_text Z)) (sym place) ∙ ap first (sym c.text_at.ensures.text) ∙ sym c.first_char.ensures ∙ c.in-Some.is in
    let p : is_punctuation c.in-Some.c ≡ false = sym c.is_punctuation.ensures ∙ c.if-is_punctuation.false in
    let zero : literal_size Y ≡ 0 = literal_other Y none ∙ quoted_is b (Some c.in-Some.c) Y e ∙ rw p refl in
    search (arith, reach_none Y zero, looked_none Y none, blanks_through Y, ap through_text place)

pub returns-in_default-2 : goal.returns-in_default-2
returns-in_default-2 c =
    let B : Block = block_of c.args.view.now in
    let Y : Block = drop c.args.from B in
    let b : ℕ = lines_while Blank Y in
    let none : extent 1 Y ≡ 0 = omega (arith, ap (λ e. e.end) c.block_end-indented.ensures.extent) in
    let place = after_blank c.args.from c.lines_end-start.result b B c.lines_end-start.ensures.end in
    let e : first (first_text (drop b Y)) ≡ None = ap (λ Z. first (first_text Z)) (sym place) ∙ ap first (sym c.text_at.ensures.text) ∙ sym c.first_char.ensures ∙ c.in_default.is in
    let zero : literal_size Y ≡ 0 = literal_other Y none ∙ quoted_is b None Y e in
    search (arith, reach_none Y zero, looked_none Y none, blanks_through Y, ap through_text place)
