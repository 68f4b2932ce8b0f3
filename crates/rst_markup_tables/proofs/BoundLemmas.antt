-- The bounds of a grid's columns and rows.
use Rattle.std.proofs.Common.{◌≡◌, ℕ, zero, suc, ◌+◌, ◌<◌, Bool, false, ◌||◌, List, [], ◌∷◌, ◌++◌, length, take, drop, get_or, sym, ap, ◌∙◌, arith}
use Rattle.std.specs.Prelude.{All}
use Rattle.std.specs.List.{list_any}
use Rattle.std.proofs.lemmas.List.{take_at}
use Rattle.std.proofs.lemmas.List.Folds.{list_any_more}
use Rattle.rst_markup_tables.specs.Places.{Grid}
use Rattle.rst_markup_tables.specs.Marks.{Marks}
use Rattle.rst_markup_tables.specs.Drawn.{AreDrawn, IsWithin}
use Rattle.rst_markup_tables.specs.declared.drawn.Rectangle.{Rectangle}
use Rattle.rst_markup_tables.proofs.Rectangles.{IsFrom, drawn_from}

pub drawn_at : (G : Grid) (i j : ℕ) (rs : List Rectangle) → AreDrawn G i j rs → (k : ℕ) (d : Rectangle) → k < length rs → let r = get_or rs k d in IsFrom G r.top r.left r
drawn_at G i j [] a k d below = absurd (omega arith)
drawn_at G i j (r ∷ rs) a zero d below = drawn_from G r.top r.left r a.1
drawn_at G i j (r ∷ rs) a (suc k) d below = drawn_at G r.top (r.left + 1) rs a.2 k d (omega arith)

pub all_within : (G : Grid) (rs : List Rectangle) → AreDrawn G 0 0 rs → All (IsWithin G) rs
all_within G rs a k d below = (drawn_at G 0 0 rs a k d below).within

-- one rectangle more is marked
pub marks_step : (f : ℕ → Rectangle → Bool) (rs : List Rectangle) (i : ℕ) (d : Rectangle) (n len : ℕ) (old was new : List Bool) → i < length rs → was ≡ old → Marks (λ k. f k (get_or rs i d)) was new → len ≡ length old → length old ≡ n
    → ((k : ℕ) → k < n → get_or old k false ≡ list_any (f k) (take i rs))
    → (length (take len (new ++ drop (length new) old)) ≡ n) × ((k : ℕ) → k < n → get_or (take len (new ++ drop (length new) old)) k false ≡ list_any (f k) (take (i + 1) rs))
marks_step f rs i d n len old was new below same m fits size had =
    let all : take len (new ++ drop (length new) old) ≡ new = take_at new (drop (length new) old) len (omega (arith, m.size, ap length same)) in
    rw all (omega (arith, m.size, ap length same), λ k inside. m.at k ∙ ap (λ (l : List Bool). get_or l k false || f k (get_or rs i d)) same ∙ ap (λ b. b || f k (get_or rs i d)) (had k inside) ∙ sym (list_any_more (f k) rs i d below))
