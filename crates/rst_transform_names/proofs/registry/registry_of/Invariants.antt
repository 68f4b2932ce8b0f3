use Rattle.std.proofs.Common.{◌≡◌, drop, map}
use Rattle.rst_tree_index.specs.Registered.{item_of}
use Rattle.rst_transform_names.specs.Registering.{all_registered, nothing_known, Holds, Register}
use Rattle.rst_transform_names.proofs.registry.registry_of.Given as goal

-- what is known, with the elements that are left, makes what all elements make
abbrev pub invariant-loop-new : goal.invariant-loop-new
invariant-loop-new l =
    (r : Register) × Holds l.registry r × (all_registered (map item_of (drop l.new-index l.elements)) r ≡ all_registered (map item_of l.elements) (nothing_known l.messages))
