use Rattle.std.proofs.Common.{rules, tests, arith, eqb, ◌∙◌, sym}
use Rattle.std.proofs.lemmas.Bool.{lt-leb}
use Rattle.std.proofs.lemmas.Iterator.{YieldsList-from_slice, YieldsList-from_zip}
use Rattle.std.proofs.lemmas.Iterator.Search.{all_from_yields_List}
use Rattle.std.specs.Char.{to_ascii_lowercase}
use Rattle.rst_inline_scan.proofs.UriLemmas.{begins-pairs, begins-short}
use Rattle.rst_inline_scan.proofs.uri.begins_with_ignoring_case.Goals as goal

pub returns-then-word-bytes : goal.returns-then-word-bytes
returns-then-word-bytes c =
    all_from_yields_List (λ p. eqb (to_ascii_lowercase p.0) p.1) c.all.new.self _ c.all.result c.all.ensures.ran
    (YieldsList-from_zip (YieldsList-from_slice c.args.bytes.now cc) (YieldsList-from_slice c.args.word.now cc)) (λ x b q k. search (rules, tests))
    ∙ begins-pairs c.args.bytes.now c.args.word.now 0 (omega arith)

pub returns-else-word-bytes : goal.returns-else-word-bytes
returns-else-word-bytes c = lt-leb _ _ c.if-word-bytes.false ∙ sym (begins-short c.args.bytes.now c.args.word.now 0 (omega arith) (λ h. omega arith))
