use Rattle.std.proofs.Common.{◌≡◌, ◌++◌, take}
use Rattle.rst_transform_structure.proofs.classes.add_words.Given as goal

abbrev pub invariant-loop-word : goal.invariant-loop-word
invariant-loop-word l = l.left ≡ l.initial.left ++ take l.word-index l.words
