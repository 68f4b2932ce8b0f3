-- What whole texts take of looks.
use Rattle.std.proofs.Common.{◌≡◌, suc, true, false, [], ◌∷◌, length, refl}
use Rattle.std.proofs.lemmas.Bool.{and_parts}
use Rattle.rst_settings.specs.Profile.{profile_of}
use Rattle.rst_settings.specs.declared.Settings.{Settings}
use Rattle.rst_text.specs.Block.{Block}
use Rattle.rst_text.specs.Lines.{ends_white, is_line_text, are_lines}
use Rattle.rst_text.proofs.LineTexts.{is_line_text-parts}
use Rattle.rst_block_state.specs.looks.Budget.{total}
use Rattle.rst_block_state.specs.looks.BudgetLaws.{is_trimmed}
use Rattle.rst_block_state.specs.looks.Ledger.{total_at}
use Rattle.rst_block_state.specs.looks.LedgerLaws.{IsBounded}
use Rattle.rst_block_state.specs.machine.Meanings.{deepest}
use Rattle.rst_block.proofs.BudgetLemmas.{high, low}
use Rattle.rst_block.proofs.CellFacts.{cells_trimmed}
use Rattle.rst_block.proofs.OpenedFacts.{blocks_inside}

pub lines_trimmed : (B : Block) → are_lines B ≡ true → is_trimmed B ≡ true
lines_trimmed [] h = refl
lines_trimmed (l ∷ ls) h =
    let p = and_parts (is_line_text l.text) (are_lines ls) h in
    let white : ends_white l.text ≡ false = (is_line_text-parts l.text p.0).1 in
    rw (white, lines_trimmed ls p.1) refl

pub last_text : (B : Block) → total_at (suc deepest) B ≡ length B
unfolding total
last_text B = refl

pub bounded : (settings : Settings) (B : Block) → are_lines B ≡ true → IsBounded (profile_of settings) B
bounded settings B h = record { budget = high blocks_inside cells_trimmed true 251 true B (lines_trimmed B h); floor = low true 251 true B }
