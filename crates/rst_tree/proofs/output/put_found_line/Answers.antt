use Rattle.std.proofs.Common.{List, ℕ, ◌++◌, ◌*◌, ◌∷◌, [], ap, append-nil, replicate, take}
use Rattle.rst_tree.proofs.FirstLine.{line_len_run}
use Rattle.rst_tree.proofs.Sending.{Sends-as}
use Rattle.rst_tree.proofs.output.put_found_line.Goals as goal

pub returns-clause-line : goal.returns-clause-line
returns-clause-line g c = line_len_run c.args.text.now c.run_end-end.result c.run_end-end.ensures

pub returns-clause-sent : goal.returns-clause-sent
returns-clause-sent g c = Sends-as c.put_indented.ensures (ap (λ l. (l ++ take c.run_end-end.result c.args.text.now) ++ (10 ∷ [])) (append-nil (replicate {A = ℕ} (4 * c.args.level) 32)))
