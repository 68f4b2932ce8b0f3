use Rattle.std.proofs.Common.{sym, ◌∙◌, ap}
use Rattle.rst_block_state.specs.machine.OpenBlocks.{line_added}
use Rattle.rst_block_state.specs.machine.Meanings.{open_run_of}
use Rattle.rst_block_state.specs.declared.run.Run.{Run}
use Rattle.rst_block_body.proofs.LineSteps.{line_pushed, other_stays}
use Rattle.rst_block_body.proofs.line.add_line.Goals as goal

pub returns-in_ok-push-in-Lines-clause-line : goal.returns-in_ok-push-in-Lines-clause-line
returns-in_ok-push-in-Lines-clause-line c =
    let moved = c.go_to.ensures.moved in
    let run = line_pushed c.in-Lines.lines.items c.push.new.self.items c.args.text c.args.end c.in-Lines.end c.in_ok-push-in-Lines.ensures.items
    ∙ ap (λ (r : Run). line_added c.args.text c.args.end (open_run_of r)) (sym c.in-Lines.is ∙ c.replace.ensures.value ∙ moved.run) in
    (record { depth = moved.depth; nodes = moved.nodes; headings = moved.headings; run = run }, c.go_to.ensures.there)

pub returns-in_default-clause-line : goal.returns-in_default-clause-line
returns-in_default-clause-line c =
    let moved = c.go_to.ensures.moved in
    let run = ap open_run_of (c.replace.ensures.value ∙ moved.run) ∙ other_stays c.args.level.now.run c.args.text c.args.end (λ lines e is. c.in_default.not-Lines lines e (c.replace.ensures.value ∙ moved.run ∙ is)) in
    (record { depth = moved.depth; nodes = moved.nodes; headings = moved.headings; run = run }, c.go_to.ensures.there)
