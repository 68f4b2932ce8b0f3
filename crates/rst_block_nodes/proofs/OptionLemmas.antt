-- The options of a directive, gone through one after the other.
use Rattle.std.proofs.Common.{◌≡◌, ℕ, suc, ◌<◌, List, ◌∷◌, length, drop, get_or, drop-cons, Some, sym, ap, ◌∙◌}
use Rattle.std.specs.Option.{option_or}
use Rattle.rst_markup_directives.specs.Options.{choices_in}
use Rattle.rst_markup_directives.specs.Target.{Destination}
use Rattle.rst_markup_directives.specs.Value.{meaning_of}
use Rattle.rst_markup_directives.specs.declared.options.Setting.{Setting}
use Rattle.rst_block_nodes.specs.Options.{link_chosen, link_meant, subtitle_chosen, subtitle_meant}

-- the first option that refers to something decides
pub link_found : (settings : List Setting) (i : ℕ) (s : Setting) (link : Destination × List ℕ) → i < length settings → s ≡ get_or settings i s
    → link_meant (meaning_of s.value) ≡ Some link → link_chosen (choices_in (drop i settings)) ≡ link_chosen (choices_in settings) → Some link ≡ link_chosen (choices_in settings)
link_found settings i s link within is meant so_far =
    ap (λ o. option_or o (link_chosen (choices_in (drop (suc i) settings)))) (sym meant)
    ∙ ap (λ (ss : List Setting). link_chosen (choices_in ss)) (sym (drop-cons settings i s within ∙ ap (λ (x : Setting). x ∷ drop (suc i) settings) (sym is)))
    ∙ so_far

-- the same of a subtitle
pub subtitle_found : (settings : List Setting) (i : ℕ) (s : Setting) (text : List ℕ) → i < length settings → s ≡ get_or settings i s
    → subtitle_meant s.option (meaning_of s.value) ≡ Some text → subtitle_chosen (choices_in (drop i settings)) ≡ subtitle_chosen (choices_in settings) → Some text ≡ subtitle_chosen (choices_in settings)
subtitle_found settings i s text within is meant so_far =
    ap (λ o. option_or o (subtitle_chosen (choices_in (drop (suc i) settings)))) (sym meant)
    ∙ ap (λ (ss : List Setting). subtitle_chosen (choices_in ss)) (sym (drop-cons settings i s within ∙ ap (λ (x : Setting). x ∷ drop (suc i) settings) (sym is)))
    ∙ so_far
