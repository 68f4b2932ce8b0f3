use Rattle.std.proofs.Common.{◌≡◌, ℕ, arith, option_map, refl, ◌++◌, ◌∷◌, [], Some, None, false, length, ap, ap₂, ◌∙◌, string_bytes}
use Rattle.std.proofs.lemmas.Grind.{common_steps}
use Rattle.std.specs.BTreeMap.{get_by_text}
use Rattle.rst_tree_index.specs.Registered.{item_of}
use Rattle.rst_transform_names.specs.Names.{own_name}
use Rattle.rst_transform_names.specs.DuplicateMessages.{duplicate_definition}
use Rattle.rst_transform_names.specs.Registry.{definer, losing, standing}
use Rattle.rst_transform_names.proofs.RegistryLemmas.{put_lost, entered}
use Rattle.rst_transform_names.proofs.registry.Registry.define.Goals as goal
use Rattle.rst_transform_names.proofs.registry.Registry.define.Goals.{in-Some+in_ok-duplicate_definition-in-Some, in-None}

pub returns : goal.returns
returns c = λ r h.
    let old = c.args.self.now in
    let new = item_of c.args.new in
    let number : c.len-serial.result ≡ length r.standings = omega (arith, c.len-serial.ensures, old.standings.ok.0, ap length h.standings) in
    let name : string_bytes c.in_ok-name.name ≡ own_name new = c.in_ok-name.ensures.ok ∙ c.own_name.ensures in
    let before : c.in_ok-before.before ≡ r.definitions (own_name new) = c.in_ok-before.ensures.old ∙ ap (get_by_text old.definitions) name ∙ h.definitions (own_name new) in
    let holder : c.map_or-holder.result ≡ definer c.in_ok-before.before = grind (arith, common_steps) in
    let lost = put_lost old.standings c.lose.new.standings _ (c.lose.ensures ∙ ap₂ (λ h l. losing h l) (holder ∙ ap definer before) c.deref_mut.ensures.value) ∙ ap (losing (definer (r.definitions (own_name new)))) h.standings in
    let made : c.match-before.message ≡ option_map (λ (n : ℕ). duplicate_definition new) c.in_ok-before.before = elim c.match-before.branch [
      | in-Some+in_ok-duplicate_definition-in-Some w ↦ rw (w.message-is, w.in-Some.is) (ap Some w.in_ok-duplicate_definition-in-Some.ensures)
      | in-None w ↦ rw (w.message-is, w.in-None.is) refl
    ] in
    record {
      ids = h.ids;
      names = h.names;
      definitions = λ other.
          let is = entered old.definitions c.insert.new.self (string_bytes c.in_ok-name.name) (Some c.len-serial.result) c.in_ok-before.ensures.updates other in
          let was = h.definitions other in
          cc;
      standings = c.in_ok-push-2.ensures.items ∙ ap₂ (λ ss n. ss ++ standing n None false false ∷ []) lost number;
      numbers = h.numbers;
      messages = h.messages;
      name_messages = c.in_ok-push.ensures.items ∙ ap₂ (λ ms m. ms ++ m ∷ []) h.name_messages (made ∙ ap (option_map (λ (n : ℕ). duplicate_definition new)) before);
    }
