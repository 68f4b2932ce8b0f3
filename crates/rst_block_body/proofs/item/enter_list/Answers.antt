use Rattle.std.proofs.Common.{◌≡◌, None, drop, arith, rules, sym, subst, ap, ◌∙◌}
use Rattle.std.specs.Prelude.{option_map}
use Rattle.rst_text.specs.ViewBlock.{block_of}
use Rattle.rst_block_state.specs.Constructs.{item_of_list}
use Rattle.rst_block_state.specs.Lists.{infos_of}
use Rattle.rst_block_state.specs.machine.Meanings.{joining_in, open_run_of}
use Rattle.rst_block_state.specs.machine.OpenBlocks.{HasRun, IsClosed, with_infos}
use Rattle.rst_block_state.proofs.Calls.{close_refuses}
use Rattle.rst_block_state.proofs.Changes.{run_then, closed_then}
use Rattle.rst_block_state.proofs.NextConstructs.{run_of, span_to}
use Rattle.rst_block_body.specs.Items.{mark_of}
use Rattle.rst_block_body.proofs.ListItems.{item_end_later, joining_by_kind, joined_is_list, after_joined, with_notes, list_begun, item_in_list, item_refused, item_of_new_list}
use Rattle.rst_block_body.proofs.item.enter_list.Goals as goal

pub returns-in-Some : goal.returns-in-Some
returns-in-Some c =
    let B = block_of c.args.view.now in
    let l = c.args.level.now in
    let mark = mark_of c.args.item in
    let j = joining_in c.in-Some.kind in
    let span = span_to l.at c.args.body.to in
    let joins = joining_by_kind l.run mark span ∙ sym c.going_on.ensures ∙ ap (option_map (λ kind. joining_in kind)) c.in-Some.is in
    let is = ap (with_infos (infos_of (item_of_list mark))) c.join.ensures.run.run ∙ after_joined j (open_run_of l.run) B mark span joins in
    let run = subst (HasRun l c.put_infos.new.level) is (run_then c.join.ensures.run c.in_ok-put_infos.ensures) in
    let list = joined_is_list (open_run_of l.run) B mark j span joins in
    record {
      list = record { depth = run.depth; at = run.at; list = list.list; is = run.run ∙ list.is };
      later = omega (arith, run.at, item_end_later c.requires.next c.requires.inside);
      read = item_in_list j _ c.requires.next joins run;
      looked = search rules;
    }

pub returns-in_err-close-clause-read : goal.returns-in_err-close-clause-read
returns-in_err-close-clause-read c =
    let l = c.args.level.now in
    let mark = mark_of c.args.item in
    let none : c.going_on.result ≡ None = search rules in
    let begins = joining_by_kind l.run mark (span_to l.at c.args.body.to) ∙ sym c.going_on.ensures ∙ ap (option_map (λ kind. joining_in kind)) none in
    close_refuses _ c.in_err-close.field-0.0 _ _ _ l (search rules) c.in_err-close.ensures.closed (λ line h. item_refused _ c.requires.next begins h)

pub returns : goal.returns
returns c =
    let B = block_of c.args.view.now in
    let l = c.args.level.now in
    let X = drop l.at B in
    let mark = mark_of c.args.item in
    let span = span_to l.at c.args.body.to in
    let none : c.going_on.result ≡ None = search rules in
    let begins = joining_by_kind l.run mark span ∙ sym c.going_on.ensures ∙ ap (option_map (λ kind. joining_in kind)) none in
    let noted : HasRun c.begin.new.self c.match-level.level (with_notes c.in_ok-notes.notes.items (open_run_of c.begin.new.self.run)) = search rules in
    let put = run_then c.in_ok-begin.ensures.run (run_then noted c.in_ok-put_infos-2.ensures) in
    let is = ap (λ o. with_infos (infos_of (item_of_list mark)) o) (noted.run ∙ ap (with_notes c.in_ok-notes.notes.items) c.in_ok-begin.ensures.run.run)
    ∙ list_begun mark B X span c.kind_of.result c.kind_of.ensures (c.in_ok-list.ensures X c.number_at.ensures) c.in_ok-notes.ensures.notes in
    let closed = subst (IsClosed (run_of l B c.args.pass.now.numbers) l c.put_infos-2.new.level c.close.new.pass.numbers) is (closed_then c.in_ok-close.ensures.closed put) in
    record {
      list = record { depth = closed.depth; at = closed.at; list = _; is = closed.run };
      later = omega (arith, closed.at, item_end_later c.requires.next c.requires.inside);
      read = rw c.start_notes.ensures.numbers (item_of_new_list _ _ c.requires.next begins closed);
      looked = search rules;
    }
