-- Answers of calls: what holds of what they give, and what a fault leaves to the caller.
use Rattle.std.proofs.Common.{◌≡◌, ℕ, List, Result, Ok, Err, IfOk, sym, ◌∙◌, subst}
use Rattle.rst_block_state.specs.machine.Meanings.{Keeps}
use Rattle.rst_block_state.specs.machine.OpenBlocks.{Closes, Gives}
use Rattle.rst_block_state.specs.machine.Rest.{no_run}
use Rattle.rst_block_state.specs.Titles.{Item}
use Rattle.rst_block_nodes.specs.declared.fault.BlockFault.{BlockFault}
use Rattle.rst_block_nodes.specs.declared.fault.BlockFault.TheVariants.{TooDeep, NoMemory}
use Rattle.rst_block_state.specs.declared.open_block.OpenBlock.{OpenBlock}

-- ---- a call that gives a value, or for which memory runs out

-- what follows from what holds of the value holds of it too
pub gives_map : {A : Type 0} (P Q : A → Type 0) (result : Result A BlockFault) → Gives P result → ((value : A) → P value → Q value) → Gives Q result
gives_map P Q (Ok value) h f = f value h
gives_map P Q (Err (TooDeep line)) h f = h
gives_map P Q (Err NoMemory) h f = tt

pub gives_kept : {A : Type 0} (P Q : A → Type 0) (result : Result A BlockFault) → Gives P result → ((value : A) → P value → Q value) → IfOk result Q
gives_kept P Q (Ok value) h f = f value h
gives_kept P Q (Err fault) h f = tt

-- ---- a call that leaves what is read as it is, or can't go on

-- the same, where what is read is written in another form
pub keeps_as : {A R : Type 0} (result : Result A BlockFault) (follows : A → Result (R × ℕ) ℕ) (read other : Result (R × ℕ) ℕ) → read ≡ other → Keeps result follows read → Keeps result follows other
keeps_as result follows read other e h = subst (λ r. Keeps result follows r) e h

-- a call that can't go on leaves its fault to its caller
pub refuses : {A R : Type 0} (result : Result A BlockFault) (fault : BlockFault) (follows : A → Result (R × ℕ) ℕ) (read : Result (R × ℕ) ℕ) → result ≡ Err fault
    → Keeps (Err fault) follows read → Keeps result follows read
refuses result fault follows read e h = subst (λ r. Keeps r follows read) (sym e) h

-- a fault is the same whatever would follow an answer
pub refused_as : {A C R : Type 0} (fault : BlockFault) (first : A → Result (R × ℕ) ℕ) (follows : C → Result (R × ℕ) ℕ) (read other : Result (R × ℕ) ℕ) → read ≡ other
    → Keeps (Err fault) first read → Keeps (Err fault) follows other
refused_as (TooDeep line) first follows read other e h = sym e ∙ h
refused_as NoMemory first follows read other e h = tt

-- ---- steps

-- the block is as deep after the last call as before the calls before it
pub depth_after : {A : Type 0} (result : Result A BlockFault) (new : ℕ) {old mid : ℕ} → mid ≡ old → IfOk result (λ _. new ≡ mid) → IfOk result (λ _. new ≡ old)
depth_after (Ok value) new h k = k ∙ h
depth_after (Err fault) new h k = tt

-- where ending the open run is refused, so is the step
pub close_refuses : {A R : Type 0} (result : Result A BlockFault) (fault : BlockFault) (follows : A → Result (R × ℕ) ℕ) (read : Result (R × ℕ) ℕ) (closed : Result (List Item × ℕ) ℕ) (l : OpenBlock)
    → result ≡ Err fault → Closes {A = Unit {0}} closed l l 0 no_run (Err fault) → ((line : ℕ) → closed ≡ Err line → read ≡ Err line) → Keeps result follows read
close_refuses result (TooDeep line) follows read closed l e h f = rw e (f line h)
close_refuses result NoMemory follows read closed l e h f = rw e tt
