use Rattle.std.proofs.Common.{◌≡◌, List, ℕ, arith, rules, refl, sym, ◌∙◌}
use Rattle.std.specs.Prelude.{if◌then◌else◌, Option, Some, None, Ok, Err}
use Rattle.rst_text.specs.Names.{name_in}
use Rattle.std.specs.BTreeMap.{get_by_text}
use Rattle.std.specs.Str.{bytes_eq}
use Rattle.std.proofs.lemmas.Map.Text.{text_keys}
use Rattle.rst_transform_substitutions.specs.Definitions.{known_found}
use Rattle.rst_transform_substitutions.proofs.Remembering.{right-more}
use Rattle.rst_transform_substitutions.proofs.definitions.Definitions.remember.Goals as goal

pub invariant_of-self : goal.invariant_of-self
invariant_of-self c =
    let old : List ℕ → Option (Option ℕ) = get_by_text c.args.self.now.remembered in
    let new : List ℕ → Option (Option ℕ) = get_by_text c.insert.new.self in
    let right : List ℕ → Option ℕ = λ name. get_by_text c.args.self.now.normalized (name_in name) in
    let none : get_by_text c.args.self.now.exact c.args.name.now ≡ None = search rules in
    let found : c.in_ok-found.found ≡ known_found c.args.self.now c.args.name.now = c.in_ok-found.ensures in
    record {
      is_right = (elim c.insert.result as (λ r. c.insert.result ≡ r → (name : List ℕ) (place : Option ℕ) → new name ≡ Some place → place ≡ right name) [
        | Ok x ↦ λ e.
            let put : (other : List ℕ) → new other ≡ (if bytes_eq other c.args.name.now then Some c.in_ok-found.found else old other) = grind (arith, text_keys, e) in
            right-more right old new c.args.name.now c.in_ok-found.found put (rw none at found) c.args.self.now.is_right
        | Err x ↦ λ e.
            let same : (other : List ℕ) → new other ≡ old other = grind (arith, text_keys, e) in
            λ name place at. c.args.self.now.is_right name place (sym (same name) ∙ at)
      ]) refl;
    }
