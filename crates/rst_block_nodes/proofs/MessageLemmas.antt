-- Messages numbered on.
use Rattle.std.proofs.Common.{◌≡◌, ℕ, List, [], ◌∷◌, ◌++◌, length, suc, refl, ap}
use Rattle.rst_tree.specs.Messages.{numbered_message_node}
use Rattle.rst_tree.specs.Sends.{counted_on}
use Rattle.rst_tree.specs.declared.note.Note.{Note}
use Rattle.rst_block_nodes.specs.Texts.{messages_from}

-- the number after those of some messages
abbrev pub number_after : ℕ → List Note → ℕ
number_after first [] = first
number_after first (note ∷ notes) = number_after (counted_on first 1) notes

pub messages_from_append : (first : ℕ) (notes : List Note) (note : Note) → messages_from first (notes ++ note ∷ []) ≡ messages_from first notes ++ numbered_message_node (number_after first notes) note ∷ []
messages_from_append first [] note = refl
messages_from_append first (m ∷ notes) note = ap (λ ms. numbered_message_node first m ∷ ms) (messages_from_append (counted_on first 1) notes note)

pub number_after_append : (first : ℕ) (notes : List Note) (note : Note) → number_after first (notes ++ note ∷ []) ≡ counted_on (number_after first notes) 1
number_after_append first [] note = refl
number_after_append first (m ∷ notes) note = number_after_append (counted_on first 1) notes note

pub messages_from_length : (first : ℕ) (notes : List Note) → length (messages_from first notes) ≡ length notes
messages_from_length first [] = refl
messages_from_length first (note ∷ notes) = ap suc (messages_from_length (counted_on first 1) notes)
