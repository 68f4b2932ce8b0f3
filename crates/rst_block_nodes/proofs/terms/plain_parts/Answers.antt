use Rattle.std.proofs.Common.{◌≡◌, rules, ap, ◌∙◌, true, false, get_or}
use Rattle.rst_inline_scan.specs.declared.piece.Kind.TheVariants.{Plain}
use Rattle.rst_block_nodes.specs.Terms.{letters_from}
use Rattle.rst_block_nodes.proofs.TermLemmas.{no_piece, texts_more, texts_same}
use Rattle.rst_block_nodes.proofs.terms.plain_parts.Goals.{in-Plain, in_default, then-not-is_empty+in_ok-cut_at_delimiters+in_ok-push, else-not-is_empty}
use Rattle.rst_block_nodes.proofs.terms.plain_parts.Goals as goal

pub loop-piece-preserved : goal.loop-piece-preserved
loop-piece-preserved c =
    let plain : (get_or c.args.pieces.now c.loop-piece.piece-index no_piece).kind ≡ Plain =
    elim c.match-matches.branch [
      | in-Plain v ↦ v.in-Plain.is
      | in_default v ↦
          let missed : c.match-matches.matches ≡ false = v.matches-is in
          let matched : c.match-matches.matches ≡ true = search rules in
          absurd (cc)
    ] in
    elim c.if-not-is_empty.branch [
      | then-not-is_empty+in_ok-cut_at_delimiters+in_ok-push w ↦
          texts_more c.args.text.now c.args.pieces.now c.loop-piece.piece-index c.in_ok-letters.letters.items c.if-not-is_empty.parts.items c.loop-piece.parts.items w.in_ok-cut_at_delimiters.field-0 c.loop-piece-test.true plain (c.in_ok-letters.ensures ∙ ap (letters_from false) c.part.ensures) (search rules) (search rules) (search rules)
          ∙ c.loop-piece.invariant
      | else-not-is_empty w ↦
          texts_same c.args.text.now c.args.pieces.now c.loop-piece.piece-index c.in_ok-letters.letters.items c.if-not-is_empty.parts.items c.loop-piece.parts.items c.loop-piece-test.true plain (c.in_ok-letters.ensures ∙ ap (letters_from false) c.part.ensures) (search rules) (search rules)
          ∙ c.loop-piece.invariant
    ]
