-- Parts and sources of lines whose characters pass a test consist of characters that pass it.
use Rattle.std.proofs.Common.{ℕ, Bool, List, [], ◌∷◌, drop, refl}
use Rattle.std.specs.Prelude.{slice_range}
use Rattle.std.specs.List.{AllByRecursion}
use Rattle.rst_text.specs.Block.{Line, Block, first_text, shorten, shorten_all}
use Rattle.rst_markup_blocks.specs.declared.part.Part.{Part}
use Rattle.rst_markup_blocks.specs.Partition.{Span}
use Rattle.rst_markup_lines.specs.declared.place.Characters.{Characters}
use Rattle.rst_block_state.specs.Texts.{excerpt, joined, lines_in, span_source, spelled}
use Rattle.rst_tree_laws.proofs.Lists.{all_drop, all_map, all_take}
use Rattle.rst_tree_laws.specs.Texts.{BlockKept, Kept}
use Rattle.rst_tree_laws.proofs.Properties.{Suited, join_kept}

pub all_range : {A : Type 0} (Q : A → Type 0) (xs : List A) (low high : ℕ) → AllByRecursion Q xs → AllByRecursion Q (slice_range xs low high)
all_range Q xs low high h = all_take Q _ (drop low xs) (all_drop Q low xs h)

module _ (P : ℕ → Bool) where
  pub first_kept : (B : Block) → BlockKept P B → Kept P (first_text B)
  first_kept [] h = tt
  first_kept (l ∷ ls) h = h.0

  shortened_kept : (f r : ℕ) (B : Block) → BlockKept P B → BlockKept P (shorten_all f r B)
  shortened_kept f r [] h = tt
  shortened_kept f r (l ∷ ls) h = (all_drop _ f l.text h.0, all_map _ _ (shorten r) (λ l k. all_drop _ r l.text k) ls h.1)

  pub lines_kept : (B : Block) (p : Part) → BlockKept P B → BlockKept P (lines_in B p)
  lines_kept B p h = shortened_kept p.first_cut p.rest_cut _ (all_take _ _ _ (all_drop _ p.from B h))

  module _ (T : List ℕ → Type 0) (s : Suited P T) where
    pub excerpt_has : (t : List ℕ) (place : Characters) → Kept P t → T (excerpt t place)
    excerpt_has t place h = s.encoded (slice_range t place.from place.to) (all_range _ t place.from place.to h)

    pub joined_kept : (X : Block) → BlockKept P X → Kept P (joined X)
    joined_kept X h = join_kept P 10 _ (s.fixed 10 refl) (all_map _ _ (λ (l : Line). l.text) (λ l k. k) X h)

    pub spelled_has : (X : Block) → BlockKept P X → T (spelled X)
    spelled_has X h = s.encoded (joined X) (joined_kept X h)

    pub source_has : (B : Block) (g : Span) → BlockKept P B → T (span_source B g)
    source_has B g h = spelled_has (slice_range B g.start g.stop) (all_range _ B g.start g.stop h)
