use Rattle.std.proofs.Common.{ℕ, ◌≤◌, Result, Ok, Err, arith}
use Rattle.std.specs.Prelude.{IfOk}
use Rattle.std.specs.declared.alloc.AllocError.{AllocError}
use Rattle.std.proofs.lemmas.Result.{IfOk-weaker}
use Rattle.rst_settings.specs.Profile.{Profile, profile_of}
use Rattle.rst_settings.specs.declared.Settings.{Settings}
use Rattle.rst_tree.specs.Nodes.{node_height}
use Rattle.rst_tree.specs.Tree.{most_levels}
use Rattle.rst_tree.specs.declared.node.Node.{Node}
use Rattle.rst_block_state.specs.Documents.{document}
use Rattle.rst_transform.specs.Finishing.{leaves, Finishes}
use Rattle.rst_transform.specs.declared.finishing.Finished.{Finished}
use Rattle.rst2pseudoxml_run.proofs.FinishedTrees.{left_low}
use Rattle.rst2pseudoxml_run.proofs.laws.finished_documents_are_low.Goals as goal

finished_low : (messages : ℕ) (profile : Profile) (settings : Settings) (n : Node) (result : Result Finished AllocError) → node_height (leaves messages profile settings n).0 ≤ most_levels
    → Finishes messages profile settings n result → IfOk result (λ done. node_height done.tree ≤ most_levels)
finished_low messages profile settings n (Ok done) h f = rw f.0 h
finished_low messages profile settings n (Err refused) h f = tt

pub returns : goal.returns
returns c = record {
  levels = left_low;
  tree = λ profile settings B number few. IfOk-weaker (document profile B number) _ _ (λ read h. omega (arith, h)) (left_low profile settings B number few);
  finish = λ settings B number result.
      IfOk-weaker (document (profile_of settings) B number) _ _ (λ read h. finished_low read.1 (profile_of settings) settings read.0 result (omega (arith, h)))
      (left_low (profile_of settings) settings B number (omega arith));
}
