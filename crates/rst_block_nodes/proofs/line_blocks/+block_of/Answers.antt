use Rattle.std.proofs.Common.{◌≡◌, ◌+◌, ◌-◌, suc, take, drop, List, Err, arith, rules, sym, ap, subst, ◌∙◌}
use Rattle.std.proofs.Math.ListN.{drop_of_length-le}
use Rattle.std.proofs.lemmas.List.{take_rest, drop-drop}
use Rattle.rst_block_nodes.specs.LineBlocks.{IndentedLine, deeper_len, least_indent, first_line, line_block, MakesLineBlock}
use Rattle.rst_block_nodes.proofs.LineBlockLemmas.{one_line, one_run, run_refused, all_made, line_at}
use Rattle.rst_block_nodes.proofs.line_blocks.+block_of.Goals as goal

pub loop-place-preserved-then-run-eq0 : goal.loop-place-preserved-then-run-eq0
loop-place-preserved-then-run-eq0 t c =
    let lines = c.args.lines.now in
    let left : List IndentedLine = drop c.loop-place.place lines in
    let none : deeper_len c.least_indent-least.result left ≡ 0 =
    sym (ap (deeper_len c.least_indent-least.result) (take_rest lines c.loop-place.place)) ∙ sym c.deeper_len-run.ensures.value ∙ c.if-run-eq0.true in
    one_line c.args.levels c.loop-place.numbers c.with_text.new.numbers (least_indent lines) (first_line lines) left (drop (c.loop-place.place + 1) lines) c.loop-place.nodes.items c.loop-place.notes.items c.push.new.self.items c.append.new.self.items c.index-lines-place.result c.in_ok-made.made (ap (λ n. deeper_len n left) (sym c.least_indent-least.ensures) ∙ none) (line_at _ _ _ c.loop-place-test.true c.index-lines-place.is) (search rules) c.in_ok-push.ensures.items c.in_ok-append.ensures.items
    ∙ c.loop-place.invariant

pub loop-place-preserved : goal.loop-place-preserved
loop-place-preserved t c =
    let lines = c.args.lines.now in
    let left : List IndentedLine = drop c.loop-place.place lines in
    let inner : List IndentedLine = take (c.loop-place.place + c.deeper_len-run.result - c.loop-place.place) left in
    let levels : suc (c.args.levels - 1) ≡ c.args.levels = omega arith in
    one_run c.args.levels c.loop-place.numbers c.block_of.new.numbers (least_indent lines) (first_line lines) c.deeper_len-run.result left inner (drop (c.loop-place.place + c.deeper_len-run.result) lines) c.loop-place.nodes.items c.loop-place.notes.items c.push-in-loop-place.new.self.items c.append-in-loop-place.new.self.items c.in_ok-made-2.made (c.deeper_len-run.ensures.value ∙ ap (deeper_len c.least_indent-least.result) (take_rest lines c.loop-place.place) ∙ ap (λ n. deeper_len n left) c.least_indent-least.ensures) (omega arith) (ap (λ n. take n left) (omega arith)) (sym (drop-drop c.deeper_len-run.result c.loop-place.place lines)) (ap (λ n. line_block n inner c.loop-place.numbers) (sym levels) ∙ c.in_ok-made-2.ensures) c.in_ok-push-2.ensures.items c.in_ok-append-2.ensures.items
    ∙ c.loop-place.invariant

pub returns-in_err-made-2 : goal.returns-in_err-made-2
returns-in_err-made-2 t c =
    let lines = c.args.lines.now in
    let left : List IndentedLine = drop c.loop-place.place lines in
    let inner : List IndentedLine = take (c.loop-place.place + c.deeper_len-run.result - c.loop-place.place) left in
    let levels : suc (c.args.levels - 1) ≡ c.args.levels = omega arith in
    run_refused c.args.levels c.loop-place.numbers c.block_of.new.numbers c.block_of.new.numbers (least_indent lines) (first_line lines) c.deeper_len-run.result left inner c.loop-place.nodes.items c.loop-place.notes.items c.in_err-made-2.field-0.0 _ c.from_residual-in_err-made-2.result c.loop-place.invariant (c.deeper_len-run.ensures.value ∙ ap (deeper_len c.least_indent-least.result) (take_rest lines c.loop-place.place) ∙ ap (λ n. deeper_len n left) c.least_indent-least.ensures) (omega arith) (ap (λ n. take n left) (omega arith)) (subst (λ n. MakesLineBlock (line_block n inner c.loop-place.numbers) c.block_of.new.numbers (Err c.in_err-made-2.field-0.0)) levels c.in_err-made-2.ensures) (search rules)

pub returns : goal.returns
returns t c =
    all_made c.args.levels c.loop-place.numbers (least_indent c.args.lines.now) (first_line c.args.lines.now) (drop c.loop-place.place c.args.lines.now) c.loop-place.nodes.items c.loop-place.notes.items (record { element = c.element_of-element.result; notes = c.loop-place.notes }) (line_block (suc c.args.levels) c.args.lines.now c.args.numbers.now) c.loop-place.invariant (drop_of_length-le c.args.lines.now c.loop-place-test.false) (search rules) (search rules)
