use Rattle.std.proofs.Common.{false, Option, sym, ap, ◌∙◌}
use Rattle.std.specs.Option.{option_map_or}
use Rattle.rst_markup_directives.specs.Kind.{PartKind, is_wider, is_wider_directive}
use Rattle.rst_markup_directives.proofs.kind.is_wider_directive.Goals as goal

pub returns-in-Some : goal.returns-in-Some
unfolding is_wider_directive
returns-in-Some c = c.is_wider.ensures ∙ ap (λ (o : Option PartKind). option_map_or (λ row. is_wider row.0) o false) (sym c.in-Some.is ∙ c.lookup_name.ensures)

pub returns-in-None : goal.returns-in-None
unfolding is_wider_directive
returns-in-None c = ap (λ (o : Option PartKind). option_map_or (λ row. is_wider row.0) o false) (sym c.in-None.is ∙ c.lookup_name.ensures)
