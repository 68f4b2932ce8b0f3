use Rattle.std.proofs.Common.{◌≡◌, ◌-◌, rules, tests, arith, eqb, take, drop, length, length-drop, ◌∙◌, sym}
use Rattle.std.proofs.lemmas.Bool.{lt-leb}
use Rattle.std.proofs.lemmas.Iterator.{YieldsList-from_slice, YieldsList-from_zip}
use Rattle.std.proofs.lemmas.Iterator.Search.{all_from_yields_List}
use Rattle.std.proofs.lemmas.List.{take_all}
use Rattle.std.specs.Char.{to_ascii_lowercase}
use Rattle.rst_inline_scan.proofs.UriLemmas.{begins-pairs, begins-short}
use Rattle.rst_inline_scan.proofs.uri.begins_at.Goals as goal

pub returns-then-word-rest : goal.returns-then-word-rest
returns-then-word-rest c =
    let t = c.args.text.now in
    let long = length-drop c.args.place t in
    let rest : take (length t - c.args.place) (drop c.args.place t) ≡ drop c.args.place t = take_all _ _ (omega (arith, long)) in
    all_from_yields_List (λ p. eqb (to_ascii_lowercase p.0) p.1) c.all.new.self _ c.all.result c.all.ensures.ran
    (YieldsList-from_zip (YieldsList-from_slice (drop c.args.place t) cc) (YieldsList-from_slice c.args.word.now cc)) (λ x b q k. search (rules, tests))
    ∙ begins-pairs t c.args.word.now c.args.place (omega arith)

pub returns-else-word-rest : goal.returns-else-word-rest
returns-else-word-rest c = lt-leb _ _ c.if-word-rest.false ∙ sym (begins-short c.args.text.now c.args.word.now c.args.place c.requires (λ h. omega arith))
