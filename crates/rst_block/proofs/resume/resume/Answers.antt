use Rattle.std.proofs.Common.{◌≡◌, List, [], ◌∷◌, string_bytes, option_map, box_value, drop, ◌+◌, ◌-◌, ◌≤◌, arith, refl, sym, ap, ◌∙◌, subst}
use Rattle.std.proofs.lemmas.Result.{IfOk-weaker}
use Rattle.rst_text.specs.Block.{Block, first_number}
use Rattle.rst_text.specs.ViewBlock.{block_of}
use Rattle.rst_tree.specs.declared.node.Node.{Node}
use Rattle.rst_tree.specs.declared.tag.Tag.TheVariants.{ListItem}
use Rattle.rst_block_nodes.specs.Elements.{element_of}
use Rattle.rst_block_nodes.specs.TableRequests.{asked_in}
use Rattle.rst_block_state.specs.Directives.{first_paragraph, replacement}
use Rattle.rst_block_state.specs.TableDirectives.{directive_table_nodes}
use Rattle.rst_block_state.specs.Texts.{span_source}
use Rattle.rst_block_state.specs.looks.Ledger.{WaitsForOne, run_looks, waiting_looks}
use Rattle.rst_block_state.specs.machine.Meanings.{after_quote, quote_by, resumed}
use Rattle.rst_block_state.specs.declared.waits.OpenReplacement.{OpenReplacement}
use Rattle.rst_block_state.specs.declared.waits.OpenTable.{OpenTable}
use Rattle.rst_block_state.proofs.Calls.{keeps_as, depth_after}
use Rattle.rst_block_state.proofs.Changes.{item_depth}
use Rattle.rst_block_state.proofs.WaitingLooks.{resumed as waited}
use Rattle.rst_block_body.proofs.QuoteSteps.{after_more}
use Rattle.rst_block_body.proofs.QuotesPaid.{more_paid, nodes_paid, item_paid}
use Rattle.rst_block.proofs.Waiting.{nodes_given, item_given}
use Rattle.rst_block.proofs.resume.resume.Goals.{in-ListItem+in_ok-item-in-ListItem+in_ok-push_item-in-ListItem, in-ListedBody+in_ok-listed_item-in-ListedBody+in_ok-push_item-in-ListedBody, in-Element+in_ok-completed-in-Element+in_ok-push_marked-in-Element, in-Quotes+in_ok-finished_quotes-in-Quotes+in_ok-append_marked-in-Quotes, in-Classes+in_ok-finished_classes-in-Classes+in_ok-append_marked-in-Classes+in-Element-1, in-Classes+in_ok-finished_classes-in-Classes+in_ok-append_marked-in-Classes+in-Text+in-Long-1, in-Classes+in_ok-finished_classes-in-Classes+in_ok-append_marked-in-Classes+in-Text+in-Short-1, in-Replacement+in_ok-finished_replacement-in-Replacement+in_ok-push-in-Replacement}
use Rattle.rst_block.proofs.resume.resume.Goals as goal

pub returns-in-Quote-clause-goes : goal.returns-in-Quote-clause-goes
returns-in-Quote-clause-goes c =
    let B : Block = block_of c.args.view.now in
    let old = c.args.level.now in
    let mid = c.put_quote.new.level in
    let x = c.in-Quote in
    let put = c.in_ok-put_quote-in-Quote.ensures.more in
    let goes = c.after_quote.ensures.goes x.line x.attribution in
    let earlier : List Node = quote_by x.line (option_map box_value x.attribution) c.args.nodes in
    let same : after_quote mid B [] x.rest x.end c.args.pass.now.numbers ≡ resumed old B c.args.waits c.args.nodes c.args.pass.now.numbers =
    after_more old mid B earlier x.rest x.end c.args.pass.now.numbers put ∙ ap (λ w. resumed old B w c.args.nodes c.args.pass.now.numbers) (sym x.is) in
    record {
      kept = depth_after c.after_quote.result _ put.depth goes.kept;
      read = keeps_as c.after_quote.result _ _ _ same goes.read;
      paid = IfOk-weaker c.after_quote.result _ _ (λ s h. more_paid B c.args.waits x.line x.end x.attribution x.rest _ _ _ _ x.is put h) goes.paid;
    }

pub returns-in-Figure : goal.returns-in-Figure
returns-in-Figure c =
    let B : Block = block_of c.args.view.now in
    let n = c.args.pass.now.numbers in
    let old = c.args.level.now in
    let x = c.in-Figure in
    let m = c.in_ok-append_marked-in-Figure.ensures.more in
    let run : run_looks c.append_marked-in-Figure.new.self.run ≡ run_looks old.run = ap run_looks m.run in
    let lines : waiting_looks c.args.waits ≡ x.end - x.start = ap waiting_looks x.is in
    record {
      step = m.at;
      goes = record {
        kept = m.depth;
        read = nodes_given B n m c.in_ok-made-in-Figure.ensures.figure refl ∙ ap (λ waits. resumed old B waits c.args.nodes n) (sym x.is);
        paid = waited old c.append_marked-in-Figure.new.self B c.args.waits _ _ (subst WaitsForOne (sym x.is) tt) m.depth m.at (omega (arith, run)) (omega (arith, lines, c.finished_figure.ensures.looks)) c.in_ok-made-in-Figure.ensures.low;
      };
    }

pub returns-in-Table : goal.returns-in-Table
returns-in-Table c =
    let B : Block = block_of c.args.view.now in
    let n = c.args.pass.now.numbers in
    let old = c.args.level.now in
    let x = c.in-Table in
    let m = c.in_ok-append_marked-in-Table.ensures.more in
    let run : run_looks c.append_marked-in-Table.new.self.run ≡ run_looks old.run = ap run_looks m.run in
    let o = box_value x.boxed in
    let same : c.into_inner-table.result ≡ o = c.into_inner-table.ensures in
    let lines : waiting_looks c.args.waits ≡ o.end - o.start = ap waiting_looks x.is in
    let looked : c.finished_table.new.looks ≤ c.args.pass.now.looks + (o.end - o.start) = subst (λ (t : OpenTable). c.finished_table.new.looks ≤ c.args.pass.now.looks + (t.end - t.start)) same c.finished_table.ensures.looks in
    let nodes : OpenTable → List Node = λ t. directive_table_nodes t.directive (first_number (drop t.start B)) (span_source B (record { start = t.start; stop = t.end })) t.table (asked_in t.asked) c.args.nodes in
    record {
      step = m.at;
      goes = record {
        kept = m.depth;
        read = nodes_given B n m (c.in_ok-made-in-Table.ensures.table ∙ ap nodes same) refl ∙ ap (λ waits. resumed old B waits c.args.nodes n) (sym x.is);
        paid = waited old c.append_marked-in-Table.new.self B c.args.waits _ _ (subst WaitsForOne (sym x.is) tt) m.depth m.at (omega (arith, run)) (omega (arith, lines, looked)) c.in_ok-made-in-Table.ensures.low;
      };
    }

pub returns-clause-goes : goal.returns-clause-goes
returns-clause-goes c =
    let B : Block = block_of c.args.view.now in
    let n = c.args.pass.now.numbers in
    let looks = c.args.pass.now.looks in
    let old = c.args.level.now in
    let last = c.match-waits.level in
    let ns : List Node = c.args.nodes in
    elim c.match-waits.branch [
      | in-ListItem+in_ok-item-in-ListItem+in_ok-push_item-in-ListItem w ↦
          let item : Node = element_of ListItem [] ns w.in-ListItem.line in
          let made : w.in_ok-item-in-ListItem.item ≡ item = w.in_ok-item-in-ListItem.ensures ∙ ap (λ attrs. element_of ListItem attrs ns w.in-ListItem.line) w.new.ensures in
          record {
            kept = rw w.level-is (item_depth old w.push_item.new.self _ w.in_ok-push_item-in-ListItem.ensures.item);
            read = item_given old w.push_item.new.self last B w.in_ok-item-in-ListItem.item item n w.in_ok-push_item-in-ListItem.ensures.item made w.level-is
                ∙ ap (λ waits. resumed old B waits ns n) (sym w.in-ListItem.is);
            paid = item_paid old w.push_item.new.self last B _ c.args.waits looks (subst WaitsForOne (sym w.in-ListItem.is) tt) w.in_ok-push_item-in-ListItem.ensures.item w.level-is;
          }
      | in-ListedBody+in_ok-listed_item-in-ListedBody+in_ok-push_item-in-ListedBody w ↦
          let x = w.in-ListedBody in
          record {
            kept = rw w.level-is (item_depth old w.push_item-in-ListedBody.new.self _ w.in_ok-push_item-in-ListedBody.ensures.item);
            read = item_given old w.push_item-in-ListedBody.new.self last B w.in_ok-listed_item-in-ListedBody.field-0 _ n w.in_ok-push_item-in-ListedBody.ensures.item w.in_ok-listed_item-in-ListedBody.ensures w.level-is
                ∙ ap (λ waits. resumed old B waits ns n) (sym x.is);
            paid = item_paid old w.push_item-in-ListedBody.new.self last B _ c.args.waits looks (subst WaitsForOne (sym w.in-ListedBody.is) tt) w.in_ok-push_item-in-ListedBody.ensures.item w.level-is;
          }
      | in-Element+in_ok-completed-in-Element+in_ok-push_marked-in-Element w ↦
          record {
            kept = rw w.level-is w.in_ok-push_marked-in-Element.ensures.more.depth;
            read = nodes_given B n w.in_ok-push_marked-in-Element.ensures.more
                (ap (λ (m : Node). m ∷ []) w.in_ok-completed-in-Element.ensures) w.level-is
                ∙ ap (λ waits. resumed old B waits ns n) (sym w.in-Element.is);
            paid = nodes_paid B c.args.waits looks (subst WaitsForOne (sym w.in-Element.is) tt) w.in_ok-push_marked-in-Element.ensures.more w.level-is;
          }
      | in-Quotes+in_ok-finished_quotes-in-Quotes+in_ok-append_marked-in-Quotes w ↦
          record {
            kept = rw w.level-is w.in_ok-append_marked-in-Quotes.ensures.more.depth;
            read = nodes_given B n w.in_ok-append_marked-in-Quotes.ensures.more w.in_ok-finished_quotes-in-Quotes.ensures w.level-is
                ∙ ap (λ waits. resumed old B waits ns n) (sym w.in-Quotes.is);
            paid = nodes_paid B c.args.waits looks (subst WaitsForOne (sym w.in-Quotes.is) tt) w.in_ok-append_marked-in-Quotes.ensures.more w.level-is;
          }
      | in-Classes+in_ok-finished_classes-in-Classes+in_ok-append_marked-in-Classes+in-Element-1 w ↦
          record {
            kept = rw w.level-is w.in_ok-append_marked-in-Classes.ensures.more.depth;
            read = nodes_given B n w.in_ok-append_marked-in-Classes.ensures.more w.in_ok-finished_classes-in-Classes.ensures w.level-is
                ∙ ap (λ waits. resumed old B waits ns n) (sym w.in-Classes.is);
            paid = nodes_paid B c.args.waits looks (subst WaitsForOne (sym w.in-Classes.is) tt) w.in_ok-append_marked-in-Classes.ensures.more w.level-is;
          }
      | in-Classes+in_ok-finished_classes-in-Classes+in_ok-append_marked-in-Classes+in-Text+in-Long-1 w ↦
          record {
            kept = rw w.level-is w.in_ok-append_marked-in-Classes.ensures.more.depth;
            read = nodes_given B n w.in_ok-append_marked-in-Classes.ensures.more w.in_ok-finished_classes-in-Classes.ensures w.level-is
                ∙ ap (λ waits. resumed old B waits ns n) (sym w.in-Classes.is);
            paid = nodes_paid B c.args.waits looks (subst WaitsForOne (sym w.in-Classes.is) tt) w.in_ok-append_marked-in-Classes.ensures.more w.level-is;
          }
      | in-Classes+in_ok-finished_classes-in-Classes+in_ok-append_marked-in-Classes+in-Text+in-Short-1 w ↦
          record {
            kept = rw w.level-is w.in_ok-append_marked-in-Classes.ensures.more.depth;
            read = nodes_given B n w.in_ok-append_marked-in-Classes.ensures.more w.in_ok-finished_classes-in-Classes.ensures w.level-is
                ∙ ap (λ waits. resumed old B waits ns n) (sym w.in-Classes.is);
            paid = nodes_paid B c.args.waits looks (subst WaitsForOne (sym w.in-Classes.is) tt) w.in_ok-append_marked-in-Classes.ensures.more w.level-is;
          }
      | in-Replacement+in_ok-finished_replacement-in-Replacement+in_ok-push-in-Replacement w ↦
          let node_of : OpenReplacement → List Node = λ o. replacement (string_bytes o.name) o.line (string_bytes o.source) (first_paragraph ns) ∷ [] in
          record {
            kept = rw w.level-is w.in_ok-push-in-Replacement.ensures.more.depth;
            read = nodes_given B n w.in_ok-push-in-Replacement.ensures.more
                (ap (λ (m : Node). m ∷ []) w.in_ok-finished_replacement-in-Replacement.ensures ∙ ap node_of w.into_inner.ensures) w.level-is
                ∙ ap (λ waits. resumed old B waits ns n) (sym w.in-Replacement.is);
            paid = nodes_paid B c.args.waits looks (subst WaitsForOne (sym w.in-Replacement.is) tt) w.in_ok-push-in-Replacement.ensures.more w.level-is;
          }
    ]
