use Rattle.std.proofs.Common.{◌≡◌, ◌∙◌, [], Some, ap, map, option_map, string_bytes, subst, sym}
use Rattle.clap.specs.Words.{HasKind, app_of, fault_of, found_of, rows_of}
use Rattle.clap.specs.declared.error.Error.{Error}
use Rattle.rst2pseudoxml_options.specs.Options.{choice_of}
use Rattle.rst2pseudoxml_options.specs.Tree.{file_of}
use Rattle.rst2pseudoxml_options.proofs.TreeLemmas.{chooses_all, chooses_faulty, chooses_out_of_memory, chooses_refused, chooses_without_memory, of_error, tree_fails_by, tree_rows_are}
use Rattle.rst2pseudoxml_options.proofs.tree.tree_options.Goals as goal
use Rattle.rst2pseudoxml_options.proofs.tree.tree_options.Goals.{in-Some+in_ok-from_str-in-Some, in-None}

pub returns-in_err-command : goal.returns-in_err-command
returns-in_err-command c = of_error _ _ c.from_residual.result c.from_residual.ensures.1 (chooses_without_memory _)

pub returns-in_err-matches : goal.returns-in_err-matches
returns-in_err-matches c =
    let made = c.in_ok-command.ensures in
    of_error _ _ c.from_residual-in_err-matches.result c.from_residual-in_err-matches.ensures.1
    (λ error same. chooses_refused _ error made.0 made.1
    (tree_fails_by made.0 _ _ (λ kinds. HasKind kinds error) made.2 (λ simple. subst (λ (e : Error). HasKind (fault_of (app_of c.in_ok-command.command) (map string_bytes c.args.words.now)) e) (sym same) (c.in_err-matches.ensures.kinds simple))))

pub returns-in_err-from_str-in-Some : goal.returns-in_err-from_str-in-Some
returns-in_err-from_str-in-Some c =
    let made = c.in_ok-command.ensures in
    of_error _ _ c.from_residual-in_err-from_str-in-Some.result c.from_residual-in_err-from_str-in-Some.ensures.1 (λ error memory. chooses_out_of_memory _ error made.0 made.1 memory)

pub returns-in_err-error-in-Err : goal.returns-in_err-error-in-Err
returns-in_err-error-in-Err c =
    let made = c.in_ok-command.ensures in
    of_error _ _ c.from_residual-in_err-error-in-Err.result c.from_residual-in_err-error-in-Err.ensures.1 (λ error memory. chooses_out_of_memory _ error made.0 made.1 memory)

pub returns-in-Err : goal.returns-in-Err
returns-in-Err c =
    let made = c.in_ok-command.ensures in
    let none = tree_fails_by made.0 (map string_bytes c.args.words.now) _ (λ kinds. kinds ≡ []) made.2 c.in_ok-matches.ensures.kinds in
    let rows = tree_rows_are made.0 (map string_bytes c.args.words.now) _ c.in_ok-matches.matches made.2 c.in_ok-matches.ensures.ok.2 in
    chooses_faulty _ c.in_ok-error-in-Err.field-0 made.0 made.1 c.in-Err.fault none (sym (ap choice_of rows) ∙ c.in-Err.ensures) (c.in_ok-error-in-Err.ensures.kind ∙ c.refusal_of-kind.ensures)

pub returns : goal.returns
returns c =
    let made = c.in_ok-command.ensures in
    let none = tree_fails_by made.0 (map string_bytes c.args.words.now) _ (λ kinds. kinds ≡ []) made.2 c.in_ok-matches.ensures.kinds in
    let rows = tree_rows_are made.0 (map string_bytes c.args.words.now) _ c.in_ok-matches.matches made.2 c.in_ok-matches.ensures.ok.2 in
    let same : option_map (λ s. s.now) c.file_of.result ≡ option_map string_bytes c.match-file_of.source =
    elim c.match-file_of.branch [
      | in-Some+in_ok-from_str-in-Some w ↦ ap (option_map (λ s. s.now)) w.in-Some.is ∙ ap Some (sym w.in_ok-from_str-in-Some.ensures.ok) ∙ sym (ap (option_map string_bytes) w.source-is)
      | in-None w ↦ ap (option_map (λ s. s.now)) w.in-None.is ∙ sym (ap (option_map string_bytes) w.source-is)
    ] in
    chooses_all made.0 _ (rows_of (found_of c.in_ok-matches.matches)) c.in-Ok.settings c.parts_of_profile-settings.result c.format_of.result c.match-file_of.source
    made.1 none rows c.in-Ok.ensures c.parts_of_profile-settings.ensures c.format_of.ensures (sym same ∙ c.file_of.ensures)
