use Rattle.std.proofs.Common.{◌≡◌, ℕ, ◌+◌, ◌-◌, ◌≤◌, true, false, List, drop, ap, sym, ◌∙◌, arith}
use Rattle.rst_text.specs.Block.{Block, first_text}
use Rattle.rst_text.specs.Reach.{reach}
use Rattle.rst_text.specs.ViewBlock.{block_of}
use Rattle.rst_markup_lines.specs.Closing.{ends_in_colons}
use Rattle.rst_markup_blocks.specs.declared.lines.LineTest.TheVariants.{Plain}
use Rattle.rst_markup_blocks.specs.Sizes.{literal_size, run_size}
use Rattle.rst_markup_blocks.proofs.LineLemmas.{drop_far}
use Rattle.rst_markup_blocks.proofs.EndLemmas.{paragraph_more, paragraph_only, paragraph_len_is, run_size_some, reach_more}
use Rattle.rst_markup_blocks.proofs.ends.paragraph_end.Goals as goal

-- the text that was looked at is the last of the paragraph's own lines
last : (i end n : ℕ) (B : Block) (text : List ℕ) → end ≡ i + n → 1 ≤ n → text ≡ first_text (drop (end - 1) B) → text ≡ first_text (drop (n - 1) (drop i B))
last i end n B text e some t =
    let k : end - 1 ≡ i + (n - 1) = omega arith in t ∙ ap (λ m. first_text (drop m B)) k ∙ ap first_text (drop_far i (n - 1) B)

after_lines : (i end n : ℕ) (B : Block) → end ≡ i + n → drop end B ≡ drop n (drop i B)
after_lines i end n B e = ap (λ m. drop m B) e ∙ drop_far i n B

pub returns-then-ends_in_colons : goal.returns-then-ends_in_colons
returns-then-ends_in_colons c =
    let B : Block = block_of c.args.view.now in
    let X : Block = drop c.args.i B in
    let n : ℕ = run_size Plain X in
    let text = last c.args.i c.run_below_end-end.result n B _ c.run_below_end-end.ensures.end (run_size_some X) c.text_at.ensures.text in
    let colons : ends_in_colons (first_text (drop (n - 1) X)) ≡ true = ap ends_in_colons (sym text) ∙ sym c.ends_in_colons.ensures ∙ c.if-ends_in_colons.true in
    let whole = reach_more n X (paragraph_more X colons) in
    record {
      end = omega (arith, paragraph_more X colons, c.literal_end.ensures.end, c.run_below_end-end.ensures.end, ap literal_size (after_lines c.args.i c.run_below_end-end.result n B c.run_below_end-end.ensures.end));
      looks = omega (arith, whole, run_size_some X, paragraph_len_is X, ap (λ Y. reach (literal_size Y) Y) (after_lines c.args.i c.run_below_end-end.result n B c.run_below_end-end.ensures.end));
      low = search arith;
    }

pub returns : goal.returns
returns c =
    let B : Block = block_of c.args.view.now in
    let X : Block = drop c.args.i B in
    let n : ℕ = run_size Plain X in
    let text = last c.args.i c.run_below_end-end.result n B _ c.run_below_end-end.ensures.end (run_size_some X) c.text_at.ensures.text in
    let colons : ends_in_colons (first_text (drop (n - 1) X)) ≡ false = ap ends_in_colons (sym text) ∙ sym c.ends_in_colons.ensures ∙ c.if-ends_in_colons.false in
    let only = paragraph_only X colons in
    search (arith, only, run_size_some X, paragraph_len_is X)
