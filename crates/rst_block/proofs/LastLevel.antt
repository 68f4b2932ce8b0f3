-- Blocks and texts below the last level: they must be blank.
use Rattle.std.proofs.Common.{◌≡◌, ℕ, suc, ◌+◌, ◌-◌, ◌<◌, ◌≤◌, Bool, true, false, List, [], ◌∷◌, length, drop, map, Result, Ok, Err, arith, refl, sym, ◌∙◌, ap}
use Rattle.std.specs.Prelude.{if◌then◌else◌}
use Rattle.rst_text.specs.Block.{Line, Block, is_blank, first_number}
use Rattle.rst_markup_blocks.specs.Lines.{lines_while}
use Rattle.rst_markup_blocks.specs.declared.lines.LineTest.TheVariants.{Blank}
use Rattle.rst_block_state.specs.machine.MeaningLaws.{IsRefusedBelow}
use Rattle.rst_block_state.specs.machine.Meanings.{IsNew, Keeps, TellsBlank, comes, deepest, done_of, text_items, text_with}
use Rattle.rst_block_state.specs.Nodes.{below_last_level, plainly}
use Rattle.rst_block_state.specs.Numbered.{then_read, just}
use Rattle.rst_block_state.specs.Titles.{Item, plain}
use Rattle.rst_block_nodes.specs.declared.fault.BlockFault.{BlockFault}
use Rattle.rst_block_nodes.specs.declared.fault.BlockFault.TheVariants.{TooDeep, NoMemory}
use Rattle.rst_block_state.specs.declared.open_block.OpenBlock.{OpenBlock}
use Rattle.rst_block_state.specs.declared.step.Step.TheVariants.{Begin}

blank_or_refused : (b : Bool) (l : Line) (ls : Block) (n : ℕ) → IsRefusedBelow (lines_while Blank ls) ls (below_last_level ls n) n
    → IsRefusedBelow (if b then suc (lines_while Blank ls) else 0) (l ∷ ls) ((if b then below_last_level ls else (λ number. Err l.number)) n) n
blank_or_refused true l ls n h = record { blank = λ e. h.blank (omega (arith, e)); refused = λ i. h.refused (omega (arith, i)) }
blank_or_refused false l ls n h = record { blank = λ e. absurd (omega (arith, e)); refused = λ i. refl }

-- such a block is refused at its first line that isn't blank
pub below_is : (X : Block) (n : ℕ) → IsRefusedBelow (lines_while Blank X) X (below_last_level X n) n
unfolding below_last_level lines_while
below_is [] n = record { blank = λ e. refl; refused = λ i. absurd (omega (arith, i)) }
below_is (l ∷ ls) n = blank_or_refused (is_blank l.text) l ls n (below_is ls n)

-- a block whose lines are blank up to a place, by that place
pub blank_up_to : (X : Block) (i n : ℕ) → i ≡ 0 + lines_while Blank X → i ≤ length X → length X ≤ i → below_last_level X n ≡ Ok ([], n)
blank_up_to X i n e within h = (below_is X n).blank (omega (arith, e, within, h))

pub text_at_place : (X : Block) (i n : ℕ) → i ≡ 0 + lines_while Blank X → i < length X → below_last_level X n ≡ Err (first_number (drop i X))
text_at_place X i n e h =
    let w : lines_while Blank X ≡ i = omega (arith, e) in
    (below_is X n).refused (omega (arith, e, h)) ∙ ap (λ k. Err (first_number (drop k X))) w

-- ---- texts

-- a text below the last level must be blank
text_below : (depth : ℕ) (B : Block) (n : ℕ) → depth ≡ suc deepest → text_items depth B n ≡ plainly (below_last_level B) n
text_below depth B n e =
    let k : suc deepest - depth ≡ 0 = omega (arith, e) in
    ap (λ levels. text_with levels depth B n) k

-- then it gives nothing
pub flat_text : {A : Type 0} (l : OpenBlock) (B : Block) (n : ℕ) (done : A) → l.depth ≡ suc deepest → TellsBlank B (Ok done) → IsNew l → just (done_of l) n ≡ comes l B Begin n
flat_text l B n done e t new =
    ap (λ items. just items n) new.done ∙ sym (text_below l.depth B n e ∙ ap (then_read (λ nodes. just (map plain nodes))) (t n))

-- one that isn't is refused
pub flat_text_fails : {A : Type 0} (l : OpenBlock) (B : Block) (n : ℕ) (e : BlockFault) (f : A → Result (List Item × ℕ) ℕ) → l.depth ≡ suc deepest
    → TellsBlank {A = Unit {0}} B (Err e) → Keeps (Err e) f (comes l B Begin n)
flat_text_fails l B n (TooDeep line) f d t = text_below l.depth B n d ∙ ap (then_read (λ nodes. just (map plain nodes))) (t n)
flat_text_fails l B n NoMemory f d t = tt
