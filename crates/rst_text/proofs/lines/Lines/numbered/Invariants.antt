use Rattle.std.proofs.Common.{◌≡◌, ◌++◌, drop}
use Rattle.rst_text.proofs.SpreadLemmas.{places_of, texts_of}
use Rattle.rst_text.proofs.lines.Lines.numbered.Given as goal

-- the texts and places so far, and those that are left, are all of them
abbrev pub invariant-loop-place : goal.invariant-loop-place
invariant-loop-place l = record {
  texts : l.kept ++ texts_of (drop l.place-index l.texts) ≡ texts_of l.texts;
  places : l.places.items ++ places_of (drop l.place-index l.texts) ≡ places_of l.texts;
}
