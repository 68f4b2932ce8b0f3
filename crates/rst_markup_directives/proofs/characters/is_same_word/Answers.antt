use Rattle.std.proofs.Common.{rules, tests, eqb, sym, ◌∙◌}
use Rattle.std.proofs.lemmas.Iterator.{YieldsList-from_slice, YieldsList-from_zip}
use Rattle.std.proofs.lemmas.Iterator.Search.{all_from_yields_List}
use Rattle.std.proofs.lemmas.Bool.{ne_eqb}
use Rattle.std.proofs.lemmas.List.{length-map}
use Rattle.std.specs.Char.{to_ascii_lowercase}
use Rattle.rst_markup_directives.specs.Characters.{is_same_word}
use Rattle.rst_markup_directives.proofs.Words.{pairs-same, lengths-apart}
use Rattle.rst_markup_directives.proofs.characters.is_same_word.Goals as goal

pub returns-then-text-other : goal.returns-then-text-other
unfolding is_same_word
returns-then-text-other c =
    all_from_yields_List (λ p. eqb (to_ascii_lowercase p.0) (to_ascii_lowercase p.1)) c.all.new.self _ c.all.result c.all.ensures.ran
    (YieldsList-from_zip (YieldsList-from_slice c.args.text.now cc) (YieldsList-from_slice c.args.other.now cc)) (λ x b q k. search (rules, tests))
    ∙ pairs-same to_ascii_lowercase to_ascii_lowercase c.args.text.now c.args.other.now c.if-text-other.true

pub returns-else-text-other : goal.returns-else-text-other
unfolding is_same_word
returns-else-text-other c = ne_eqb _ _ c.if-text-other.false ∙ sym (lengths-apart _ _ (λ e. c.if-text-other.false (sym (length-map c.args.text.now to_ascii_lowercase) ∙ e ∙ length-map c.args.other.now to_ascii_lowercase)))
