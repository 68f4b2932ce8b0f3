use Rattle.std.proofs.Common.{List, [], ◌∙◌, drop, arith, refl, rules}
use Rattle.rst_text.specs.ViewBlock.{block_of}
use Rattle.rst_tree.specs.declared.node.Node.{Node}
use Rattle.rst_tree.specs.declared.tag.Tag.TheVariants.{ListItem as ListItemTag}
use Rattle.rst_markup_blocks.specs.Sizes.{item_size}
use Rattle.rst_block_nodes.specs.Elements.{element_of}
use Rattle.rst_block_state.specs.Constructs.{enumerated_item}
use Rattle.rst_block_state.specs.declared.waits.Waits.TheVariants.{ListItem}
use Rattle.rst_block_body.proofs.ListItems.{item_to, next_enumerated, item_opens}
use Rattle.rst_block_body.proofs.ListsPaid.{paid_item}
use Rattle.rst_block_body.proofs.ReadLemmas.{call_refused}
use Rattle.rst_block_body.proofs.list.enumerated_item.Goals as goal

pub enter_list-requires-clause-next : goal.enter_list-requires-clause-next
enter_list-requires-clause-next c = next_enumerated _ _ c.requires.begun c.item_part-body.ensures.part

pub returns-in_err-enter_list : goal.returns-in_err-enter_list
returns-in_err-enter_list c = call_refused _ c.in_err-enter_list.field-0.0 (search rules) c.in_err-enter_list.ensures.read

pub returns : goal.returns
returns c =
    let l = c.args.level.now in
    let X = drop l.at (block_of c.args.view.now) in
    let found = c.item_part-body.ensures in
    let next = next_enumerated l (block_of c.args.view.now) c.requires.begun found.part in
    let list = c.in_ok-enter_list.ensures.list in
    let opened = c.open.ensures in
    let waits = ListItem c.number_at-line.result in
    let node = λ (ns : List Node). element_of ListItemTag [] ns c.number_at-line.result in
    record {
      step = search rules;
      read = item_opens (block_of c.args.view.now) (enumerated_item c.args.enumerator) waits c.item_part-body.result node _ _ opened.step list c.in_ok-enter_list.ensures.read opened.moved opened.at (λ ns. refl) (λ w. rw (c.number_at-line.ensures, found.part) refl);
      paid = paid_item 29 waits c.item_part-body.result (item_size c.args.enumerator.marker X) _ _ _ _ (omega arith) c.requires.inside next (item_to l.at c.args.enumerator.marker X found.part) found.reach found.low opened.step tt refl
          (opened.moved.depth ∙ list.depth) opened.at (omega arith) (omega (arith, c.enter_list.ensures.looked.0)) (omega (arith, c.enter_list.ensures.looked.1));
    }
