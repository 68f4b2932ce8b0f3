-- Views: how many lines they show at most.
use Rattle.std.proofs.Common.{◌<◌, ◌≤◌, ◌^◌, length, arith}
use Rattle.rst_text.specs.ViewBlock.{block_of}
use Rattle.rst_text.specs.declared.view.View.{View}
use Rattle.rst_text.proofs.Cuts.{length-block_of}

-- a view shows fewer lines than there are places in memory
pub few_lines : (v : View) → length (block_of v) < 2 ^ 64
few_lines v =
    let fits : v.to ≤ length v.lines.now = v.fits in
    let few : length v.lines.now < 2 ^ 63 = v.few in
    omega (arith, length-block_of v)
