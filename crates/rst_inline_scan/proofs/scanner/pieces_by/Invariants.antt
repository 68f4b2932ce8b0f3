use Rattle.std.proofs.Common.{◌-◌, false, length}
use Rattle.rst_inline_scan.specs.Calm.{IsScanned}
use Rattle.rst_inline_scan.specs.Missing.{IsMissing}
use Rattle.rst_inline_scan.proofs.ReadingLemmas.{Gathered}
use Rattle.rst_inline_scan.proofs.scanner.pieces_by.Given as goal

abbrev pub decreases-loop-place : goal.decreases-loop-place
decreases-loop-place l = length l.text - l.place

abbrev pub invariant-loop-place : goal.invariant-loop-place
invariant-loop-place l = record {
  scanned : IsScanned false false l.text l.from l.place l.escaped;
  known : IsMissing l.text l.missing l.place;
  gathered : Gathered false false l.text l.from l.pieces.items;
}
