-- Laws, which a reader of the definitions may pass over. No rule of markup: they follow from the definitions.
use Rattle.std.specs.Prelude.{◌≡◌}
use Rattle.rst_transform_work.specs.declared.document.Document.{Document}
use Rattle.rst_transform_work.specs.Known.{Known}
use Rattle.rst_transform_work.specs.States.{elements_of}
use Rattle.rst_transform_structure.specs.Transitions.{transitions_in, with_transitions}

-- no transition is lost or comes up, and their order in the document stays
abbrev pub KeepsTransitions : Type 0
KeepsTransitions = (document : Document) (known : Known) → transitions_in (elements_of (with_transitions document known).0) ≡ transitions_in (elements_of document)
