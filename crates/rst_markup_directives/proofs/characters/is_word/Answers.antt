use Rattle.std.proofs.Common.{rules, tests, cond, eqb, ◌∙◌}
use Rattle.std.proofs.lemmas.Bool.{ne_eqb}
use Rattle.std.proofs.lemmas.Iterator.{YieldsList-from_slice, YieldsList-from_zip}
use Rattle.std.proofs.lemmas.Iterator.Search.{all_from_yields_List}
use Rattle.std.specs.Char.{to_ascii_lowercase}
use Rattle.rst_markup_directives.proofs.Words.{word-pairs, word-apart}
use Rattle.rst_markup_directives.proofs.characters.is_word.Goals as goal

pub returns-then-text-word : goal.returns-then-text-word
returns-then-text-word c =
    all_from_yields_List (λ p. eqb (cond c.args.exactly p.0 (to_ascii_lowercase p.0)) p.1) c.all.new.self _ c.all.result c.all.ensures.ran
    (YieldsList-from_zip (YieldsList-from_slice c.args.text.now cc) (YieldsList-from_slice c.args.word.now cc)) (λ x b q k. search (rules, tests))
    ∙ word-pairs c.args.exactly c.args.text.now c.args.word.now c.if-text-word.true

pub returns-else-text-word : goal.returns-else-text-word
returns-else-text-word c = ne_eqb _ _ c.if-text-word.false ∙ word-apart c.args.exactly c.args.text.now c.args.word.now c.if-text-word.false
