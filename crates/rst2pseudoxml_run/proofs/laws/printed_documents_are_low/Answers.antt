use Rattle.std.proofs.Common.{ℕ, ◌≤◌, Option, None, Some, arith}
use Rattle.std.specs.Prelude.{IfOk}
use Rattle.std.proofs.lemmas.Result.{IfOk-weaker}
use Rattle.rst_settings.specs.Profile.{profile_of}
use Rattle.rst_settings.specs.declared.Settings.{Settings}
use Rattle.rst_text.specs.Block.{Block}
use Rattle.rst_text.specs.Lines.{first_longer}
use Rattle.rst_tree.specs.Nodes.{node_height}
use Rattle.rst_tree.specs.Tree.{most_levels}
use Rattle.rst_block_state.specs.Documents.{document}
use Rattle.rst_transform.specs.Finishing.{leaves}
use Rattle.rst2pseudoxml_run.specs.Reading.{long_document, read_by}
use Rattle.rst_transform.proofs.TransformFinishing.{finishing_low}
use Rattle.rst2pseudoxml_run.proofs.FinishedTrees.{left_low, long_parsed}
use Rattle.rst2pseudoxml_run.proofs.laws.printed_documents_are_low.Goals as goal

read_low : (settings : Settings) (lines : Block) (long : Option ℕ)
    → IfOk (read_by long (profile_of settings) lines) (λ read. node_height (leaves read.1 (profile_of settings) settings read.0).0 ≤ most_levels)
read_low settings lines None =
    IfOk-weaker (document (profile_of settings) lines 0) _ _ (λ read h. omega (arith, h)) (left_low (profile_of settings) settings lines 0 (omega arith))
read_low settings lines (Some line) = omega (arith, finishing_low 0 (profile_of settings) settings (long_document line) (long_parsed line).flat)

pub returns : goal.returns
returns c = λ settings lines. read_low settings lines (first_longer (profile_of settings).line_limit lines)
