use Rattle.std.proofs.Common.{◌≡◌, ℕ, arith, List, [], ◌∷◌, ◌++◌, Option, Some, option_map, refl, length, ap, ap₂, subst, ◌∙◌}
use Rattle.std.specs.Prelude.{◌==◌, ◌&&◌, is_some, if◌then◌else◌}
use Rattle.rst_transform_names.specs.declared.names.NameEntry.{NameEntry}
use Rattle.rst_tree_index.specs.Registered.{item_of}
use Rattle.rst_transform_names.specs.Names.{is_table_of_contents, name_to_take, own_name}
use Rattle.rst_transform_names.specs.Ids.{id_for, AreTaken}
use Rattle.rst_transform_names.specs.Names.{entry_named}
use Rattle.rst_transform_names.specs.declared.rulings.Ruling.{Ruling}
use Rattle.rst_transform_names.specs.DuplicateMessages.{duplicate_name}
use Rattle.rst_transform_names.specs.Registry.{losing, rule_named}
use Rattle.rst_transform_names.proofs.RegistryLemmas.{put_lost, rule_of_taken}
use Rattle.rst_transform_names.proofs.registry.Registry.name.Goals as goal
use Rattle.rst_transform_names.proofs.registry.Registry.name.Goals.{in-Some+in_ok-duplicate_name-in-Some, in-None}

pub returns : goal.returns
returns c = λ r h.
    let old = c.args.self.now in
    let new = item_of c.args.new in
    let number : c.len-serial.result ≡ length r.standings = omega (arith, c.len-serial.ensures, old.standings.ok.0, ap length h.standings) in
    let taken = name_to_take r.names new in
    let named : c.name_to_take-name.result.now ≡ taken = c.name_to_take-name.ensures ∙ ap (λ (e : Option NameEntry). if is_table_of_contents new && is_some e then [] else own_name new) (h.names (own_name new)) in
    let unnamed : c.is_empty-unnamed.result ≡ (length taken == 0) = c.is_empty-unnamed.ensures ∙ ap (λ (n : List ℕ). length n == 0) named in
    let given_source = c.in_ok-id.ensures r.ids h.ids in
    let id : c.in_ok-id.id ≡ id_for r.ids new.tag taken = given_source.0 ∙ ap (id_for r.ids new.tag) named in
    let same_entry : entry_named old.names (own_name new) ≡ r.names (own_name new) = h.names (own_name new) in
    let rule : c.ruling_on-ruling.result ≡ rule_named taken (r.names (own_name new)) new =
    c.ruling_on-ruling.ensures ∙ ap (λ n. rule_named n (entry_named old.names n) new) named ∙ ap (λ k. rule_named taken k new) (h.names taken) ∙ rule_of_taken r.names new in
    let loser = c.ruling_on-ruling.result.loser in
    let lost = put_lost old.standings c.lose.new.standings loser (c.lose.ensures ∙ ap (losing loser) c.deref_mut.ensures.value) in
    let made : c.match-ruling.message ≡ option_map (λ message. duplicate_name message new c.in_ok-id.id) c.ruling_on-ruling.result.message = elim c.match-ruling.branch [
      | in-Some+in_ok-duplicate_name-in-Some w ↦ rw (w.message-is, w.in-Some.is) (ap Some w.in_ok-duplicate_name-in-Some.ensures)
      | in-None w ↦ rw (w.message-is, w.in-None.is) refl
    ] in
    record {
      ids = subst (λ i. AreTaken c.give.new.self (i ∷ r.ids)) id given_source.1;
      names = λ other.
          let is = c.in_ok-follow.ensures other in
          let was = h.names other in
          cc;
      definitions = h.definitions;
      standings = let put = c.in_ok-push-2.ensures.items in cc;
      numbers = h.numbers;
      messages = h.messages;
      name_messages = c.in_ok-push.ensures.items ∙ ap₂ (λ ms m. ms ++ m ∷ []) h.name_messages
          (made ∙ ap₂ (λ (ruled : Ruling) i. option_map (λ message. duplicate_name message new i) ruled.message) rule id);
    }
