use Rattle.std.proofs.Common.{◌≡◌, ◌<◌, ◌+◌, ◌-◌, ℕ, List, [], ◌++◌, drop, true, false, Ok, refl, sym, ap, ◌∙◌, arith, rules}
use Rattle.std.specs.Str.{chars}
use Rattle.std.proofs.lemmas.Result.{IfOk-weaker}
use Rattle.rst_text.specs.Block.{Block, first_number}
use Rattle.rst_text.specs.ViewBlock.{block_of}
use Rattle.rst_tree.specs.declared.node.Node.{Node}
use Rattle.rst_markup_lines.specs.Closing.{ends_in_colons}
use Rattle.rst_markup_blocks.specs.Sizes.{paragraph_size}
use Rattle.rst_block_state.specs.Literals.{literal_nodes, paragraph_nodes}
use Rattle.rst_block_state.specs.machine.OpenBlocks.{ReadsNodes}
use Rattle.rst_block_state.proofs.Calls.{gives_map}
use Rattle.rst_block_state.proofs.Changes.{more_as, more_then, more_moved}
use Rattle.rst_block_body.proofs.ParagraphLemmas.{found_paragraph, ends_later, between_all, between_plain, between_colons, end_all, end_plain, end_colons}
use Rattle.rst_block_body.proofs.ParagraphsPaid.{announced_looked, paragraph_looked}
use Rattle.rst_block_body.proofs.paragraph.paragraph.Goals as goal

pub returns-then-not-ends_in_colons : goal.returns-then-not-ends_in_colons
returns-then-not-ends_in_colons c =
    let B : Block = block_of c.args.view.now in
    let at : ℕ = c.args.level.now.at in
    let end : ℕ = c.lines_end-end.result in
    let t : List ℕ = chars c.as_str-text.result.now in
    let p = found_paragraph B at end t c.requires.inside c.lines_end-end.ensures.end (ap chars c.as_str-text.ensures.value ∙ c.in_ok-text.ensures.text) in
    let later : at < end = ends_later B at end t p in
    let plain : ends_in_colons t ≡ false = sym c.ends_in_colons.ensures ∙ (let p : c.ends_in_colons.result ≡ false = search rules in p) in
    let put = c.in_ok-put_paragraph.ensures in
    record {
      read = record {
        more = put.read.more;
        given = sym (between_all B at end c.args.pass.now.numbers t p) ∙ between_plain t at end c.args.pass.now.numbers c.put_paragraph.new.pass.numbers B put.read.more plain later put.read.given;
        gone = more_moved put.read.gone c.go_to.ensures.moved (c.go_to.ensures.there (omega (arith, put.read.gone.at, later)) ∙ end_plain t end B plain ∙ end_all B at end t p);
      };
      looked = paragraph_looked B at end t _ _ c.text_between.new.looks _ p c.lines_end-end.ensures.looked c.text_between.ensures.most c.in_ok-text.ensures.low
          (omega (arith, end_plain t end B plain, put.looked.0), omega (arith, put.looked.1));
    }

pub literal-requires-clause-is_later : goal.literal-requires-clause-is_later
literal-requires-clause-is_later c =
    let B : Block = block_of c.args.view.now in
    let at : ℕ = c.args.level.now.at in
    let end : ℕ = c.lines_end-end.result in
    let t : List ℕ = chars c.as_str-text.result.now in
    let p = found_paragraph B at end t c.requires.inside c.lines_end-end.ensures.end (ap chars c.as_str-text.ensures.value ∙ c.in_ok-text.ensures.text) in
    omega (arith, c.in_ok-put_paragraph-2.ensures.read.gone.at, ends_later B at end t p)

pub returns : goal.returns
returns c =
    let B : Block = block_of c.args.view.now in
    let at : ℕ = c.args.level.now.at in
    let end : ℕ = c.lines_end-end.result in
    let t : List ℕ = chars c.as_str-text.result.now in
    let u : List ℕ = chars c.announced.result.now in
    let p = found_paragraph B at end t c.requires.inside c.lines_end-end.ensures.end (ap chars c.as_str-text.ensures.value ∙ c.in_ok-text.ensures.text) in
    let colons : ends_in_colons t ≡ true = sym c.ends_in_colons.ensures ∙ (let p : c.ends_in_colons.result ≡ true = search rules in p) in
    let put = c.in_ok-put_paragraph-2.ensures in
    let L : List Node = literal_nodes (first_number (drop (end - 1) B)) (drop end B) in
    let given = sym (between_all B at end c.args.pass.now.numbers t p)
    ∙ between_colons t u at end c.args.pass.now.numbers c.put_paragraph-2.new.pass.numbers B put.read.more colons c.announced.ensures (ends_later B at end t p) put.read.given
    ∙ ap (λ k. Ok (put.read.more ++ L, k)) (sym c.literal.ensures.numbers) in
    record {
      read = gives_map _ (λ _. ReadsNodes (paragraph_nodes [] (drop at B) c.args.pass.now.numbers) c.args.level.now c.literal.new.level (at + paragraph_size (drop at B)) c.literal.new.pass.numbers) c.literal.result c.literal.ensures.gone
          (λ _ g. record { more = put.read.more ++ L; given = given; gone = more_as refl (end_colons t end B colons ∙ end_all B at end t p) (more_then put.read.gone g) });
      looked = IfOk-weaker c.literal.result _ _ (λ _ g. paragraph_looked B at end t _ _ c.text_between.new.looks _ p c.lines_end-end.ensures.looked c.text_between.ensures.most c.in_ok-text.ensures.low
          (announced_looked t end B _ _ _ colons put.looked g)) c.literal.ensures.looked;
    }
