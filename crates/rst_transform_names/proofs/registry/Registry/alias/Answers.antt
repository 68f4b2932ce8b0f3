use Rattle.std.proofs.Common.{◌≡◌, arith, ◌∷◌, ◌++◌, [], None, false, length, ap, ap₂, ◌∙◌}
use Rattle.rst_transform_names.specs.Registry.{standing}
use Rattle.rst_transform_names.proofs.registry.Registry.alias.Goals as goal

pub returns : goal.returns
returns c = λ r h.
    let old = c.args.self.now in
    let number : c.len-serial.result ≡ length r.standings = omega (arith, c.len-serial.ensures, old.standings.ok.0, ap length h.standings) in
    record {
      ids = h.ids;
      names = h.names;
      definitions = h.definitions;
      standings = c.in_ok-push-2.ensures.items ∙ ap₂ (λ ss n. ss ++ standing n None false false ∷ []) h.standings number;
      numbers = h.numbers;
      messages = h.messages;
      name_messages = c.in_ok-push.ensures.items ∙ ap (λ ms. ms ++ None ∷ []) h.name_messages;
    }
