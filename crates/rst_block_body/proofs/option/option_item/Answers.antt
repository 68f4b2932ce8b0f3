use Rattle.std.proofs.Common.{◌∙◌, drop, arith, refl, rules}
use Rattle.rst_text.specs.ViewBlock.{block_of}
use Rattle.rst_tree.specs.declared.tag.Tag.TheVariants.{OptionListItem, Description}
use Rattle.rst_markup_blocks.specs.Sizes.{hanging_size}
use Rattle.rst_block_state.specs.Constructs.{option_item}
use Rattle.rst_block_state.specs.declared.waits.Waits.TheVariants.{ListedBody}
use Rattle.rst_block_body.proofs.ListItems.{hanging_to, next_option, item_opens, listed, option_made}
use Rattle.rst_block_body.proofs.ListsPaid.{paid_item}
use Rattle.rst_block_body.proofs.ReadLemmas.{call_refused}
use Rattle.rst_block_body.proofs.option.option_item.Goals as goal

pub enter_list-requires-clause-next : goal.enter_list-requires-clause-next
enter_list-requires-clause-next c = next_option _ _ c.requires.begun c.hanging-body.ensures.part

pub returns-in_err-enter_list : goal.returns-in_err-enter_list
returns-in_err-enter_list c = call_refused _ c.in_err-enter_list.field-0.0 (search rules) c.in_err-enter_list.ensures.read

pub returns : goal.returns
returns c =
    let B = block_of c.args.view.now in
    let l = c.args.level.now in
    let X = drop l.at B in
    let found = c.hanging-body.ensures in
    let next = next_option l B c.requires.begun found.part in
    let list = c.in_ok-enter_list.ensures.list in
    let opened = c.open.ensures in
    let line = c.number_at-line.result in
    let heads = c.push.new.self in
    let waits = ListedBody line OptionListItem Description heads c.new.result in
    record {
      step = search rules;
      read = item_opens B (option_item c.args.marker) waits c.hanging-body.result (listed OptionListItem Description line heads.items c.new.result.items) _ _ opened.step list c.in_ok-enter_list.ensures.read opened.moved opened.at (λ ns. refl)
          (λ w. option_made w B l.at c.args.marker X _ c.number_at-line.ensures c.line.ensures.text found.part c.in_ok-group.ensures (search rules) c.new.ensures.items);
      paid = paid_item 29 waits c.hanging-body.result (hanging_size X) _ _ _ _ (omega arith) c.requires.inside next (hanging_to l.at c.args.marker X found.part) found.reach found.low opened.step tt refl
          (opened.moved.depth ∙ list.depth) opened.at (omega (arith, c.line.ensures.looks)) (omega (arith, c.enter_list.ensures.looked.0)) (omega (arith, c.enter_list.ensures.looked.1, c.line.ensures.looks));
    }
