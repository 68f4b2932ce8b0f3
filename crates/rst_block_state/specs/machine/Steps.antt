-- What a step leads to: the block goes on after its line, and what is read inside is a part of it.
use Rattle.std.specs.Prelude.{◌≡◌, ℕ, ◌+◌, ◌<◌, ◌≤◌, nat_lt, if◌then◌else◌, length, Option, None, Some}
use Rattle.rst_text.specs.Block.{Block}
use Rattle.rst_markup_blocks.specs.Parts.{IsBlock}
use Rattle.rst_markup_blocks.specs.declared.part.Part.{Part}
use Rattle.rst_markup_tables.specs.declared.results.TableResult.{TableResult}
use Rattle.rst_markup_tables.specs.declared.results.TableResult.TheVariants.{Table, Malformed}
use Rattle.rst_block_state.specs.declared.step.Step.{Step}
use Rattle.rst_block_state.specs.declared.step.Step.TheVariants.{Begin, Next, Open, Cells, Done}
use Rattle.rst_block_state.specs.declared.waits.Waits.{Waits}
use Rattle.rst_block_state.specs.declared.waits.Waits.TheVariants.{Quote}

abbrev pub IsBlockIf : Block → Option Part → Type 0
IsBlockIf B None = Unit {0}
IsBlockIf B (Some p) = IsBlock B p

-- the rest of a block quote, which isn't blank, in a block that goes on no later
abbrev pub IsRest : Block → ℕ → Option Part → Type 0
IsRest B at None = Unit {0}
IsRest B at (Some p) = IsBlock B p × (p.from < p.to) × (at ≤ p.from)

-- what a block that goes on at a place waits for
abbrev pub IsWaiting : Block → ℕ → Waits → Type 0
IsWaiting B at (Quote line attribution rest end) = IsRest B at rest
IsWaiting B at w = Unit {0}

-- a table that ends after a place, and not lines that are none
abbrev pub IsTable : ℕ → TableResult → Type 0
IsTable at (Table widths n rows end) = at < end
IsTable at (Malformed end fault) = ⊥

-- a step from one place to another
abbrev pub IsStep : Block → ℕ → ℕ → Step → Type 0
IsStep B at to Begin = ⊥
IsStep B at to Next = at < to
IsStep B at to (Open w first second) = (at < to) × IsBlock B first × IsBlockIf B second × IsWaiting B to w
IsStep B at to (Cells table) = (to ≡ at) × (at < length B) × IsTable at table
IsStep B at to Done = Unit {0}

-- what comes next in a block that goes on at a place: a step, after some that only go on, or the block's end
abbrev pub IsNext : Block → ℕ → ℕ → Step → Type 0
IsNext B at to Begin = ⊥
IsNext B at to Next = (at < length B) × (at < to)
IsNext B at to (Open w first second) = (at < length B) × (at < to) × IsBlock B first × IsBlockIf B second × IsWaiting B to w
IsNext B at to (Cells table) = (at ≤ to) × (to < length B) × IsTable to table
IsNext B at to Done = Unit {0}

-- what follows a block inside
abbrev pub IsResumed : Block → ℕ → ℕ → Step → Type 0
IsResumed B at to Next = to ≡ at
IsResumed B at to (Open w first second) = (at < length B) × (at < to) × IsBlock B first × IsBlockIf B second × IsWaiting B to w
IsResumed B at to s = ⊥

-- what is left of a quote after its first lines
abbrev pub rest_of : Part → ℕ → Option Part
rest_of quote next =
    if nat_lt (quote.from + next) quote.to then Some (record quote { from = quote.from + next; first_cut = quote.rest_cut })
    else None
