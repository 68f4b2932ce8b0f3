use Rattle.std.proofs.Common.{arith}
use Rattle.rst_tree.specs.Forest.{height}
use Rattle.rst_tree_laws.proofs.AnyTexts.{Anything, any, any_suited}
use Rattle.rst_transform_laws.proofs.AnyDocuments.{document_any, known_any}
use Rattle.rst_transform_structure.specs.Classes.{with_classes}
use Rattle.rst_transform_laws.proofs.TransformClasses.{classes_fit}
use Rattle.rst_transform_laws.proofs.TransformLow.{levels_low}
use Rattle.rst_transform_laws.proofs.TransformStructure.{last_section_held, targets_held, title_held, transitions_held}
use Rattle.rst_transform_laws.proofs.laws.structure_adds_little.Goals as goal

pub returns : goal.returns
returns c = record {
  classes = λ directives document.
      let given = classes_fit any Anything any_suited 0 ⊥ directives document (height document.children) (omega (arith, (levels_low 0 document.children).1), λ no. absurd no, (document_any document).0.1) in
      omega (arith, given.0, (levels_low 0 (with_classes directives document).children).0);
  targets = λ unmarked document known. (targets_held any Anything any_suited (height document.children) unmarked document known (document_any document)).0.0;
  title = λ document known. (title_held any Anything any_suited (height document.children) document known (document_any document)).0.0;
  transitions = λ document known. (transitions_held any Anything any_suited (height document.children) document known (document_any document) (known_any known)).0.0.0;
  last_section = λ report document known. (last_section_held any Anything any_suited (height document.children) report document known (document_any document) (known_any known)).0.0.0;
}
