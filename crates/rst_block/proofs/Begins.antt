-- How a block begins of which nothing was read: with its first line, or below the last level with the test that it is blank.
use Rattle.std.proofs.Common.{◌≡◌, ℕ, suc, ◌<◌, ◌≤◌, Bool, true, false, List, arith, refl}
use Rattle.std.specs.Prelude.{if◌then◌else◌, nat_le}
use Rattle.std.proofs.lemmas.Bool.{leb-true, leb-false}
use Rattle.rst_text.specs.Block.{Block}
use Rattle.rst_block_state.specs.machine.Frames.{IsNow}
use Rattle.rst_block_state.specs.looks.Ledger.{Takes, least_left, most_left}
use Rattle.rst_block_state.specs.machine.Meanings.{IsNew, comes, deepest}
use Rattle.rst_block_state.specs.declared.frame.Frame.{Frame}
use Rattle.rst_block_state.specs.declared.open_block.OpenBlock.{OpenBlock}
use Rattle.rst_block_state.specs.declared.step.Step.{Step}
use Rattle.rst_block_state.specs.declared.step.Step.TheVariants.{Begin, Next}
use Rattle.rst_block_state.proofs.MeaningLemmas.{reads_all}
use Rattle.rst_block.specs.Reading.{all_left, first_step}
use Rattle.rst_block.proofs.MachinePaid.{first_line}
use Rattle.rst_block.proofs.Stack.{below, goes_on}
use Rattle.rst_block_body.proofs.StepsPaid.{takes_none}

-- one of the two steps comes first
pub first_is : (P : Step → Type 0) (d : ℕ) → (d ≤ deepest → P Next) → (deepest < d → P Begin) → P (first_step d)
first_is P d low deep = by (nat_le d deepest) refl
  where
    by : (b : Bool) → nat_le d deepest ≡ b → P (if b then Next else Begin)
    by true e = low (leb-true d deepest e)
    by false e = deep (leb-false d deepest e)

pub first_now : (B : Block) (l : OpenBlock) → IsNew l → l.depth ≤ suc deepest → IsNow B l (first_step l.depth)
first_now B l new h = first_is (IsNow B l) l.depth (λ k. k) (λ k. (new, omega (arith, h, k)))

pub first_comes : (l : OpenBlock) (B : Block) (n : ℕ) → IsNew l → comes l B (first_step l.depth) n ≡ comes l B Begin n
first_comes l B n new = first_is (λ s. comes l B s n ≡ comes l B Begin n) l.depth (reads_all l B n new) (λ k. refl)

pub first_paid : (l : OpenBlock) (B : Block) (looks : ℕ) → IsNew l
    → Takes (most_left l B Begin) (least_left l B Begin) looks (most_left l B (first_step l.depth)) (least_left l B (first_step l.depth)) looks
first_paid l B looks new =
    first_is (λ s. Takes (most_left l B Begin) (least_left l B Begin) looks (most_left l B s) (least_left l B s) looks) l.depth (first_line l B looks new) (λ k. takes_none _ _ _)

-- less is left than where it begins
pub first_less : (n room : ℕ) (S : Block) (fs : List Frame) (k at d c : ℕ) → all_left n room S fs k at Begin < c → all_left n room S fs k at (first_step d) < c
first_less n room S fs k at d c h =
    first_is (λ s. all_left n room S fs k at s < c) d (λ low. below (goes_on n room S fs k at k at Begin Next (omega arith)) (omega (arith, h))) (λ low. h)

-- the next line comes in a block that isn't below the last level
pub first_next : (d : ℕ) → d ≤ deepest → first_step d ≡ Next
first_next d h = first_is (λ s. s ≡ Next) d (λ k. refl) (λ k. absurd (omega (arith, h, k)))
