use Rattle.std.proofs.Common.{rules, tests, sym, ap, ◌∙◌}
use Rattle.std.specs.Prelude.{is_some}
use Rattle.std.proofs.lemmas.Iterator.{YieldsList-from_slice}
use Rattle.std.proofs.lemmas.Iterator.Search.{any_from_yields_List}
use Rattle.std.proofs.Math.Path.{fun_ext}
use Rattle.rst_transform_names.specs.NameMessages.{with_name_messages}
use Rattle.rst_transform_names.proofs.NoNameMessages.{none_there, without_name_messages}
use Rattle.rst_transform_names.proofs.placing.place_name_messages.Goals as goal

pub returns-then-not-any : goal.returns-then-not-any
returns-then-not-any c =
    let any = any_from_yields_List is_some _ _ c.any.result c.any.ensures.ran (YieldsList-from_slice c.args.messages.now cc) (λ x b q k. search (rules, tests)) in
    let none = fun_ext (none_there c.args.messages.now (sym any ∙ c.if-not-any.true)) in
    sym (ap (λ messages. with_name_messages messages c.args.document) none ∙ without_name_messages c.args.document)
