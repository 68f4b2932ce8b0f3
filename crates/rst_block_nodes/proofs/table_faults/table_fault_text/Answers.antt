use Rattle.std.proofs.Common.{sym, ap, ◌∙◌}
use Rattle.std.proofs.lemmas.Result.{IfOk-weaker}
use Rattle.rst_block_nodes.specs.TableFaults.{table_fault_text}
use Rattle.rst_block_nodes.proofs.table_faults.table_fault_text.Goals as goal

pub returns-in-NoBody : goal.returns-in-NoBody
returns-in-NoBody c = IfOk-weaker c.format-in-NoBody.result _ _ (λ s h. h ∙ ap table_fault_text (sym c.in-NoBody.is)) c.format-in-NoBody.ensures.ok

pub returns-in-NoStubless : goal.returns-in-NoStubless
returns-in-NoStubless c = IfOk-weaker c.format-in-NoStubless.result _ _ (λ s h. h ∙ ap table_fault_text (sym c.in-NoStubless.is)) c.format-in-NoStubless.ensures.ok
