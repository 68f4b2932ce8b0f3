use Rattle.std.proofs.Common.{◌∙◌, drop, arith, refl, rules}
use Rattle.rst_text.specs.ViewBlock.{block_of}
use Rattle.rst_tree.specs.declared.tag.Tag.TheVariants.{DefinitionListItem, Definition as DefinitionTag}
use Rattle.rst_markup_blocks.specs.Sizes.{hanging_size}
use Rattle.rst_block_state.specs.Constructs.{definition_item}
use Rattle.rst_block_state.specs.declared.waits.Waits.TheVariants.{ListedBody}
use Rattle.rst_block_body.proofs.ListItems.{below_to, next_definition, item_opens, listed, definition_made}
use Rattle.rst_block_body.proofs.ListsPaid.{looks_below, paid_item}
use Rattle.rst_block_body.proofs.ReadLemmas.{call_refused}
use Rattle.rst_block_body.proofs.definition.definition.Goals as goal

pub enter_list-requires-clause-next : goal.enter_list-requires-clause-next
enter_list-requires-clause-next c = next_definition _ _ c.args.infos.items c.requires.text c.requires.form c.indented-body.ensures.part

pub returns-in_err-enter_list : goal.returns-in_err-enter_list
returns-in_err-enter_list c = call_refused _ c.in_err-enter_list.field-0.0 (search rules) c.in_err-enter_list.ensures.read

pub returns : goal.returns
returns c =
    let B = block_of c.args.view.now in
    let l = c.args.level.now in
    let X = drop l.at B in
    let found = c.indented-body.ensures in
    let infos = c.args.infos.items in
    let next = next_definition l B infos c.requires.text c.requires.form found.part in
    let looks = looks_below B l.at c.args.pass.now.looks c.indented-body.new.looks found.reach found.low in
    let list = c.in_ok-enter_list.ensures.list in
    let opened = c.open.ensures in
    let line = c.number_at-line.result in
    let heads = c.in_ok-heads.heads in
    let waits = ListedBody line DefinitionListItem DefinitionTag heads.heads heads.notes in
    record {
      step = search rules;
      read = item_opens B (definition_item infos) waits c.indented-body.result (listed DefinitionListItem DefinitionTag line heads.heads.items heads.notes.items) _ _ opened.step list c.in_ok-enter_list.ensures.read opened.moved opened.at (λ ns. refl)
          (λ w. definition_made w B l.at infos X _ c.parts-parts.ensures.value c.number_at-line.ensures c.line-term.ensures.text next.is c.in_ok-heads.ensures.read);
      paid = paid_item 25 waits c.indented-body.result (hanging_size X) _ _ _ _ (omega arith) c.requires.inside next (below_to l.at B next.is) looks.0 looks.1 opened.step tt refl
          (opened.moved.depth ∙ list.depth) opened.at (omega arith) (omega (arith, c.enter_list.ensures.looked.0, c.line-term.ensures.looks)) (omega (arith, c.enter_list.ensures.looked.1, c.line-term.ensures.looks));
    }
