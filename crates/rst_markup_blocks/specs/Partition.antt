-- The constructs of a block, one after another (Markup Specification, 'Body Elements'): each line that isn't blank is in just one.
use Rattle.std.specs.Prelude.{◌≡◌, ℕ, zero, suc, ◌+◌, ◌-◌, ◌<◌, ◌≤◌, Bool, true, false, List, [], ◌∷◌, length, drop, if◌then◌else◌}
use Rattle.rst_text.specs.Block.{Block, first_text, is_blank}
use Rattle.rst_markup_blocks.specs.Ends.{row_size}
use Rattle.rst_markup_blocks.specs.Kinds.{kind_at}

-- how many lines the construct at the front of a block has, by the kind of its first line
unfoldable pub construct_size : Bool → Block → ℕ
construct_size titles X = row_size (kind_at X) titles X

-- the place after the construct that begins at line i
abbrev pub construct_end : Bool → Block → ℕ → ℕ
construct_end titles B i = i + construct_size titles (drop i B)

-- the lines from one place to another
pub record Span : Type 0 where
  pub start : ℕ
  pub stop : ℕ

-- line k is blank
abbrev pub IsBlankAt : Block → ℕ → Type 0
IsBlankAt B k = is_blank (first_text (drop k B)) ≡ true

-- line k isn't blank, so there is one
abbrev pub IsTextAt : Block → ℕ → Type 0
IsTextAt B k = is_blank (first_text (drop k B)) ≡ false

-- the lines from i to j - 1 are blank
abbrev pub AreBlank : Block → ℕ → ℕ → Type 0
AreBlank B i j = (k : ℕ) → i ≤ k → k < j → IsBlankAt B k

-- the constructs of a block from line i on: each begins at a line that isn't blank, with blank lines alone before it, and ends where
-- its construct does; after the last all lines are blank
abbrev pub PartitionFrom : Bool → Block → ℕ → List Span → Type 0
PartitionFrom titles B i [] = AreBlank B i (length B)
PartitionFrom titles B i (s ∷ ss) =
    (i ≤ s.start) × AreBlank B i s.start × IsTextAt B s.start × (s.stop ≡ construct_end titles B s.start) × (s.stop ≤ length B)
    × PartitionFrom titles B s.stop ss

-- these spans are the constructs of a block
abbrev pub IsPartition : Bool → Block → List Span → Type 0
IsPartition titles B ss = PartitionFrom titles B 0 ss

-- the constructs in the lines from place i on, of which the first `inside` belong to one that begins before
unfoldable pub spans_from : Bool → ℕ → ℕ → Block → List Span
spans_from titles i inside [] = []
spans_from titles i (suc inside) (l ∷ ls) = spans_from titles (suc i) inside ls
spans_from titles i zero (l ∷ ls) =
    if is_blank l.text then spans_from titles (suc i) 0 ls
    else (record { start = i; stop = i + construct_size titles (l ∷ ls) }) ∷ spans_from titles (suc i) (construct_size titles (l ∷ ls) - 1) ls

-- the spans of the constructs of a block
abbrev pub spans : Bool → Block → List Span
spans titles B = spans_from titles 0 0 B
