use Rattle.std.proofs.Common.{drop, arith, refl, sym, ap, ◌∙◌, rules}
use Rattle.std.specs.Prelude.{slice_range, string_bytes}
use Rattle.std.specs.Str.{chars}
use Rattle.std.proofs.lemmas.Str.{chars_from_encodes, IsUtf8-string_bytes}
use Rattle.rst_text.specs.ViewBlock.{block_of}
use Rattle.rst_tree.specs.declared.tag.Tag.TheVariants.{Field as FieldTag, FieldBody}
use Rattle.rst_markup_blocks.specs.Sizes.{hanging_size}
use Rattle.rst_block_state.specs.Constructs.{field_item}
use Rattle.rst_block_state.specs.declared.waits.Waits.TheVariants.{ListedBody}
use Rattle.rst_block_body.proofs.ListItems.{hanging_to, next_field, item_opens, listed, field_made}
use Rattle.rst_block_body.proofs.ListsPaid.{paid_item}
use Rattle.rst_block_body.proofs.ReadLemmas.{call_refused}
use Rattle.rst_block_body.proofs.field.field.Goals as goal

pub enter_list-requires-clause-next : goal.enter_list-requires-clause-next
enter_list-requires-clause-next c = next_field _ _ c.requires.begun c.hanging-body.ensures.part

pub returns-in_err-enter_list : goal.returns-in_err-enter_list
returns-in_err-enter_list c = call_refused _ c.in_err-enter_list.field-0.0 (search rules) c.in_err-enter_list.ensures.read

pub returns : goal.returns
returns c =
    let B = block_of c.args.view.now in
    let l = c.args.level.now in
    let X = drop l.at B in
    let found = c.hanging-body.ensures in
    let next = next_field l B c.requires.begun found.part in
    let list = c.in_ok-enter_list.ensures.list in
    let opened = c.open.ensures in
    let line = c.number_at-line.result in
    let heads = c.push.new.self in
    let notes = c.in_ok-name-2.name.notes in
    let waits = ListedBody line FieldTag FieldBody heads notes in
    let text = sym (chars_from_encodes _ (string_bytes c.in_ok-name.name) (IsUtf8-string_bytes c.in_ok-name.name) (sym c.in_ok-name.ensures)) in
    record {
      step = search rules;
      read = item_opens B (field_item c.args.mark) waits c.hanging-body.result (listed FieldTag FieldBody line heads.items notes.items) _ _ opened.step list c.in_ok-enter_list.ensures.read opened.moved opened.at (λ ns. refl)
          (λ w. field_made w B l.at c.args.mark X _ c.parts-parts.ensures.value c.number_at-line.ensures (ap chars c.as_str-text.ensures.value ∙ text ∙ ap (λ t. slice_range t c.args.mark.name.from c.args.mark.name.to) c.line.ensures.text)
          found.part (search rules) c.in_ok-name-2.ensures.read);
      paid = paid_item 29 waits c.hanging-body.result (hanging_size X) _ _ _ _ (omega arith) c.requires.inside next (hanging_to l.at c.args.mark.marker X found.part) found.reach found.low opened.step tt refl
          (opened.moved.depth ∙ list.depth) opened.at (omega arith) (omega (arith, c.enter_list.ensures.looked.0, c.line.ensures.looks)) (omega (arith, c.enter_list.ensures.looked.1, c.line.ensures.looks));
    }
