use Rattle.std.proofs.Common.{◌≡◌, true, arith, rules, subst}
use Rattle.std.specs.Prelude.{Ok, IfOk}
use Rattle.rst_settings.specs.Profile.{Profile}
use Rattle.rst_tree_index.specs.Parsed.{IsParsed}
use Rattle.rst_tree_laws.proofs.LineCharacters.{texts_kept}
use Rattle.rst_block_state.specs.Documents.{document}
use Rattle.rst_block_laws.proofs.ParsedDocuments.{document_parsed}
use Rattle.rst_block.proofs.MachinePaid.{document_paid}
use Rattle.rst_block.proofs.parsing.parse.Goals as goal

-- a profile: what is known of what is read doesn't depend on it
abbrev some_profile : Profile
some_profile = record { nesting = 250; line_limit = 0; code = true; docinfo = true }

pub invariant_of-result : goal.invariant_of-result
invariant_of-result c =
    let read : document some_profile c.args.lines.now 0 ≡ Ok (c.in_ok-document.field-0, c.given.result) = search rules in
    let kept = texts_kept c.args.lines.now c.in_ok-read.ensures.lines c.in_ok-read.ensures.texts in
    record { parsed = ∣ subst (λ r. IfOk r (λ read. IsParsed read.0)) read (document_parsed some_profile c.args.lines.now 0 (omega arith) kept) ∣₁ }

pub returns-clause-looks : goal.returns-clause-looks
returns-clause-looks c settings = rw c.count.ensures (document_paid settings c.args.lines.now _ _ c.in_ok-read.ensures.lines c.none.ensures (rw c.new-level.ensures.depth at c.in_ok-read.ensures.paid))
