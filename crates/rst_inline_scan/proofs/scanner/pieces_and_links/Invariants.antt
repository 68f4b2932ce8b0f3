use Rattle.std.proofs.Common.{◌-◌, true, length}
use Rattle.rst_inline_scan.specs.Calm.{IsScanned}
use Rattle.rst_inline_scan.specs.Missing.{HasNoAddress, IsMissing}
use Rattle.rst_inline_scan.proofs.ReadingLemmas.{Gathered}
use Rattle.rst_inline_scan.proofs.scanner.pieces_and_links.Given as goal

abbrev pub decreases-loop-place : goal.decreases-loop-place
decreases-loop-place l = length l.text - l.place

abbrev pub invariant-loop-place : goal.invariant-loop-place
invariant-loop-place l = record {
  scanned : IsScanned l.mail l.registered l.text l.from l.place l.escaped;
  known : IsMissing l.text l.missing l.place;
  searched : HasNoAddress l.text l.place l.searched;
  gathered : Gathered l.mail l.registered l.text l.from l.pieces.items;
}
