use Rattle.std.proofs.Common.{rules, tests, ◌∙◌, ap, refl, sym}
use Rattle.std.proofs.lemmas.Iterator.{YieldsList-from_slice}
use Rattle.std.proofs.lemmas.Iterator.Search.{all_from_yields_List}
use Rattle.std.specs.List.{list_all}
use Rattle.rst_transform_work.specs.Reading.{may_precede}
use Rattle.rst_transform_structure.proofs.Titles.{passed, not_passed, no_section, put_back}
use Rattle.rst_transform_structure.proofs.title.lone_section.Goals as goal

pub returns-then-not-all : goal.returns-then-not-all
returns-then-not-all c = (
  put_back c.args.nodes c.of-then-not-all.result c.into_list-before.result.items c.push.new.self.items c.pop.new.self.items c.in-Some.last c.in-Some.last c.into_list-before.ensures.forest
      c.in-Some.ensures.items refl c.in_ok-push.ensures.items c.of-then-not-all.ensures,
  not_passed c.args.nodes c.into_list-before.result.items c.pop.new.self.items c.in-Some.last c.into_list-before.ensures.forest c.in-Some.ensures.items
      (ap (list_all may_precede) (sym c.deref.ensures.value) ∙ sym (all_from_yields_List may_precede _ _ c.all.result c.all.ensures.ran (YieldsList-from_slice c.deref.result.now cc) (λ x b q k. search (rules, tests))) ∙ c.if-not-all.true),
)

pub returns-in_ok-append-in-Ok : goal.returns-in_ok-append-in-Ok
returns-in_ok-append-in-Ok c =
    passed c.args.nodes c.into_list-before.result.items c.pop.new.self.items c.in-Some.last c.in-Ok.section _ c.into_list-before.ensures.forest c.in-Some.ensures.items
    (ap (list_all may_precede) (sym c.deref.ensures.value) ∙ sym (all_from_yields_List may_precede _ _ c.all.result c.all.ensures.ran (YieldsList-from_slice c.deref.result.now cc) (λ x b q k. search (rules, tests))) ∙ c.if-not-all.false) c.in-Ok.ensures (search rules)

pub returns-in_ok-push-in-Err : goal.returns-in_ok-push-in-Err
returns-in_ok-push-in-Err c = (
  put_back c.args.nodes c.of-in-Err.result c.into_list-before.result.items c.push-in-Err.new.self.items c.pop.new.self.items c.in-Some.last c.in-Err.last c.into_list-before.ensures.forest
      c.in-Some.ensures.items c.in-Err.ensures.0 c.in_ok-push-in-Err.ensures.items c.of-in-Err.ensures,
  no_section c.args.nodes c.into_list-before.result.items c.pop.new.self.items c.in-Some.last c.into_list-before.ensures.forest c.in-Some.ensures.items c.in-Err.ensures.1,
)
