-- What becomes of references by name, by what is known of their names.
use Rattle.std.proofs.Common.{◌≡◌, ◌∙◌, ℕ, List, sym, subst}
use Rattle.std.specs.Prelude.{Option, Some}
use Rattle.rst_transform_names.specs.declared.names.NameEntry.{NameEntry}
use Rattle.rst_transform_names.specs.Names.{entry_named}
use Rattle.rst_transform_work.specs.declared.context.Context.{Context}
use Rattle.rst_transform_work.specs.Known.{Holds, Makes}
use Rattle.rst_transform_references.specs.Resolving.{name_at, resolves, resolves_to}
use Rattle.rst_transform_references.specs.Table.{Links}

pub named : (places : List (Option ℕ)) (place : ℕ) (name : List ℕ) (entry : Option NameEntry) (links done : Links) (before after : Context) → name_at place links ≡ Some name → entry_named before.names name ≡ entry
    → Makes (resolves_to places place name entry links) before after done → Makes (resolves places place links) before after done
named places place name entry links done before after is has makes known h =
    rw is (subst (λ e. let d = resolves_to places place name e links known in (done ≡ d.0) × Holds after d.1) (sym has ∙ h.names name) (makes known h))
