use Rattle.std.proofs.Common.{◌≡◌, map}
use Rattle.rst_text.specs.Names.{id_of}
use Rattle.rst_markup_directives.specs.Value.{chars_of_texts}
use Rattle.rst_markup_directives.proofs.value.ids_of.Given as goal

abbrev pub invariant-loop-word : goal.invariant-loop-word
invariant-loop-word l = chars_of_texts l.ids.items ≡ map id_of (map (λ word. word.now) l.yielded)
