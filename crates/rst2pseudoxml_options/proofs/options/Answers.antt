use Rattle.std.proofs.Common.{◌≡◌, ◌∙◌, Ok, Some, ap, codes, map, string_bytes, sym, option_map, ap₂, rules}
use Rattle.clap.specs.Words.{first_of}
use Rattle.rst2pseudoxml_options.specs.Command.{rows_at}
use Rattle.rst2pseudoxml_options.specs.Options.{with_source_operand, is_dashed, choice_of, choice_by}
use Rattle.rst2pseudoxml_options.proofs.OptionsLemmas.{chooses-fault, chooses-misused, dashed, taken}
use Rattle.rst2pseudoxml_options.proofs.options.Goals as goal
use Rattle.rst2pseudoxml_options.proofs.options.Goals.{in-Some+in_ok-from_str-in-Some, in-None}

pub returns-in_err-matches : goal.returns-in_err-matches
returns-in_err-matches c = chooses-misused _ _ c.from_residual.result c.from_residual.ensures.1 c.in_err-matches.ensures

pub returns-then-is_some_and : goal.returns-then-is_some_and
returns-then-is_some_and c =
    let source : option_map (λ s. s.now) c.text_of-source.result ≡ first_of (codes "source") (rows_at (map string_bytes c.args.words.now)) = c.text_of-source.ensures ∙ ap (first_of (codes "source")) c.in_ok-matches.ensures.1 in
    dashed _ (sym (ap is_dashed source) ∙ search rules)

pub returns-in_err-settings : goal.returns-in_err-settings
returns-in_err-settings c =
    let source : option_map (λ s. s.now) c.text_of-source.result ≡ first_of (codes "source") (rows_at (map string_bytes c.args.words.now)) = c.text_of-source.ensures ∙ ap (first_of (codes "source")) c.in_ok-matches.ensures.1 in
    let plain = taken _ c.in_ok-matches.ensures.0 (sym (ap is_dashed source) ∙ search rules) in
    let fault = sym (ap choice_of c.in_ok-matches.ensures.1) ∙ c.in_err-settings.ensures in
    chooses-fault _ _ c.from_residual-in_err-settings.result c.from_residual-in_err-settings.ensures.1 (plain ∙ ap (with_source_operand _) fault)

pub returns : goal.returns
returns c =
    let source : option_map (λ s. s.now) c.text_of-source.result ≡ first_of (codes "source") (rows_at (map string_bytes c.args.words.now)) = c.text_of-source.ensures ∙ ap (first_of (codes "source")) c.in_ok-matches.ensures.1 in
    let plain = taken _ c.in_ok-matches.ensures.0 (sym (ap is_dashed source) ∙ search rules) in
    let settings : choice_of (rows_at (map string_bytes c.args.words.now)) ≡ Ok (choice_by c.in_ok-settings.settings) = sym (ap choice_of c.in_ok-matches.ensures.1) ∙ c.in_ok-settings.ensures in
    let same : option_map (λ s. s.now) c.text_of-source.result ≡ option_map string_bytes c.match-source.source =
    elim c.match-source.branch [
      | in-Some+in_ok-from_str-in-Some w ↦ ap (option_map (λ s. s.now)) w.in-Some.is ∙ ap Some (sym w.in_ok-from_str-in-Some.ensures.ok) ∙ sym (ap (option_map string_bytes) w.source-is)
      | in-None w ↦ ap (option_map (λ s. s.now)) w.in-None.is ∙ sym (ap (option_map string_bytes) w.source-is)
    ] in
    plain ∙ ap₂ with_source_operand (sym source ∙ same) settings
