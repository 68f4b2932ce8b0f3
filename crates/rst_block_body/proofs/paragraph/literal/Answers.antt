use Rattle.std.proofs.Common.{◌≡◌, ◌+◌, ◌-◌, ◌<◌, ◌≤◌, ◌⊎◌, inl, inr, ℕ, List, [], ◌∷◌, length, drop, true, false, Some, codes, refl, sym, ap, ◌∙◌, arith, rules}
use Rattle.std.proofs.lemmas.Result.{IfOk-weaker}
use Rattle.rst_text.specs.Block.{Block, first_text, first_number}
use Rattle.rst_text.specs.Extent.{extent}
use Rattle.rst_text.specs.ViewBlock.{block_of}
use Rattle.rst_tree.specs.declared.node.Node.{Node}
use Rattle.rst_block_state.specs.Texts.{lines_in, spelled, warned}
use Rattle.rst_markup_lines.specs.Adornment.{is_punctuation}
use Rattle.rst_markup_lines.specs.TextStart.{first, begins_with}
use Rattle.rst_markup_blocks.specs.Sizes.{literal_size}
use Rattle.rst_block_state.specs.Literals.{no_literal, literal_nodes}
use Rattle.rst_block_state.proofs.Calls.{gives_map, gives_kept}
use Rattle.rst_block_state.proofs.Changes.{more_as, more_more, moved_more}
use Rattle.rst_block_body.proofs.LiteralLemmas.{no_literal_is, indented_whole, indented_here, quoted_here, other_here, none_here}
use Rattle.rst_block_body.proofs.ParagraphsPaid.{indented_looked, quoted_looked, none_most}
use Rattle.rst_block_body.proofs.paragraph.literal.Goals.{in_default-via-in-Some+else-is_punctuation, in_default-via-in_default, then-start-len, else-start-len}
use Rattle.rst_block_body.proofs.paragraph.literal.Goals as goal

pub returns-then-begins_with : goal.returns-then-begins_with
returns-then-begins_with c =
    let B : Block = block_of c.args.view.now in
    let start : ℕ = c.lines_end-start.result in
    let end : ℕ = c.args.end in
    let ends = c.lines_end-start.ensures in
    let text = c.text_at-text.ensures in
    let space : begins_with 32 (first_text (drop start B)) ≡ true = rw text.text at (sym c.begins_with.ensures ∙ c.if-begins_with.true) in
    let h = indented_here B end start (first_number (drop (end - 1) B)) ends.end space in
    let to : ℕ = c.indented-lines.result.to in
    let e : to ≡ start + extent 1 (drop start B) = ap (λ p. p.to) c.indented-lines.ensures.part in
    let bytes = c.as_str.ensures.value ∙ c.in_ok-text.ensures.bytes ∙ ap spelled c.inside.ensures.block ∙ ap (λ p. spelled (lines_in B p)) c.indented-lines.ensures.part in
    let notes : List Node = warned (codes "Literal block ends without a blank line; unexpected unindent.") (drop to B) in
    let nodes = ap (λ (node : Node). node ∷ notes) c.in_ok-node.ensures ∙ indented_whole B start to c.number_at-line.result c.as_str.result.now e c.number_at-line.ensures bytes in
    let first = moved_more c.go_to.ensures.moved (c.go_to.ensures.there (omega (arith, c.requires.is_later, ends.end, e)) ∙ e) c.in_ok-push.ensures.more in
    record {
      gone = gives_map _ _ c.warn.result c.warn.ensures.more (λ _ g. more_as h.0 h.1 (more_as nodes refl (more_more first g)));
      numbers = search rules;
      looked = gives_kept _ _ c.warn.result c.warn.ensures.more (λ _ _. indented_looked B end start _ _ _ _ ends.end space ends.looked text.looked (
        omega (arith, c.indented-lines.ensures.low, c.in_ok-text.ensures.each, c.warn.ensures.low),
        omega (arith, e, c.indented-lines.ensures.from, c.indented-lines.ensures.reach, c.inside.ensures.lines, c.joined.ensures.most, c.warn.ensures.looks),
      ));
    }

pub returns-in-Some : goal.returns-in-Some
returns-in-Some c =
    let B : Block = block_of c.args.view.now in
    let start : ℕ = c.lines_end-start.result in
    let end : ℕ = c.args.end in
    let ends = c.lines_end-start.ensures in
    let text = c.text_at-text.ensures in
    let made = c.quoted_literal.ensures in
    let space : begins_with 32 (first_text (drop start B)) ≡ false = rw text.text at (sym c.begins_with.ensures ∙ c.if-begins_with.false) in
    let first_char : first (first_text (drop start B)) ≡ Some c.in-Some.quote = rw text.text at (sym c.first_char.ensures ∙ c.in-Some.is) in
    let quote : is_punctuation c.in-Some.quote ≡ true = sym c.is_punctuation.ensures ∙ c.if-is_punctuation.true in
    let h = quoted_here B end start (first_number (drop (end - 1) B)) c.in-Some.quote ends.end space first_char quote in
    record {
      gone = gives_map _ _ c.quoted_literal.result made.gone (λ _ g. more_as h.0 h.1 g);
      numbers = search rules;
      looked = IfOk-weaker c.quoted_literal.result _ _ (λ _ g. quoted_looked B end start c.in-Some.quote _ _ _ _ ends.end space first_char quote ends.looked text.looked g) made.looked;
    }

pub returns-in_ok-warning-in_default : goal.returns-in_ok-warning-in_default
returns-in_ok-warning-in_default c =
    let B : Block = block_of c.args.view.now in
    let start : ℕ = c.lines_end-start.result in
    let end : ℕ = c.args.end in
    let last : ℕ = first_number (drop (end - 1) B) in
    let space : begins_with 32 (first_text (drop start B)) ≡ false = rw c.text_at-text.ensures.text at (sym c.begins_with.ensures ∙ c.if-begins_with.false) in
    let h : (no_literal last (drop start B) ≡ literal_nodes last (drop end B)) × (end ≡ end + literal_size (drop end B)) = elim c.in_default.branch [
      | in_default-via-in-Some+else-is_punctuation w ↦ other_here B end start last w.in-Some.quote c.lines_end-start.ensures.end space (rw c.text_at-text.ensures.text at (sym c.first_char.ensures ∙ w.in-Some.is)) (sym w.is_punctuation.ensures ∙ w.if-is_punctuation.false)
      | in_default-via-in_default w ↦ none_here B end start last c.lines_end-start.ensures.end (rw c.text_at-text.ensures.text at (sym c.first_char.ensures ∙ w.in_default.is))
    ] in
    let place : ((start < length B) × (c.number_at.result ≡ first_number (drop start B))) ⊎ ((length B ≤ start) × (c.number_at.result ≡ last)) = elim c.if-start-len.branch [
      | then-start-len w ↦ inl (omega (arith, w.if-start-len.true, c.len.ensures), c.number_at.ensures ∙ ap (λ i. first_number (drop i B)) w.place-is)
      | else-start-len w ↦ inr (omega (arith, w.if-start-len.false, c.len.ensures), c.number_at.ensures ∙ ap (λ i. first_number (drop i B)) (let e : c.if-start-len.place ≡ end - 1 = omega arith in e))
    ] in
    let nodes = ap (λ node. node ∷ []) c.in_ok-warning-in_default.ensures ∙ no_literal_is B start c.number_at.result last place ∙ h.0 in
    record {
      gone = gives_map _ _ c.push-in_default.result c.push-in_default.ensures.more (λ _ g. more_as nodes refl (moved_more c.go_to-in_default.ensures.moved (c.go_to-in_default.ensures.there c.requires.is_later ∙ h.1) g));
      numbers = search rules;
      looked = gives_kept _ _ c.push-in_default.result c.push-in_default.ensures.more (λ _ _. (
        omega (arith, h.1, c.lines_end-start.ensures.looked.0, c.text_at-text.ensures.looked.0),
        none_most B end start (literal_size (drop end B)) _ _ _ c.lines_end-start.ensures.end h.1 c.lines_end-start.ensures.looks c.text_at-text.ensures.looks,
      ));
    }
