use Rattle.std.proofs.Common.{◌≡◌, ◌++◌, drop}
use Rattle.rst_text.specs.Characters.{without_white}
use Rattle.rst_text.proofs.characters.without_white.Given as goal

abbrev pub invariant-loop-c : goal.invariant-loop-c
invariant-loop-c l = l.dark.items ++ without_white (drop l.c-index l.text) ≡ without_white l.text
