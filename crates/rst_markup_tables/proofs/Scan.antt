-- The scan of the unit squares in reading order.
use Rattle.std.proofs.Common.{◌⊎◌, inl, inr, ⊎_elim, List, [], ◌∷◌, ◌++◌, append_assoc, append-nil, Option, Some, None, subst, ◌≡◌, ℕ, ◌+◌, ◌-◌, ◌<◌, ◌≤◌, true, cond, ltb, get_or, length, refl, sym, ap, ◌∙◌, arith}
use Rattle.std.specs.Prelude.{option_to_list, ◌==◌, ◌≢◌}
use Rattle.std.proofs.lemmas.Bool.{cases_lt, eqb-true}
use Rattle.std.proofs.lemmas.Bool.Decides.{nat_tests}
use Rattle.std.proofs.lemmas.List.Sums.{sum_by-append, sum_by-cons}
use Rattle.std.proofs.lemmas.Option.{same_Some}
use Rattle.rst_text.specs.Places.{all_from}
use Rattle.rst_text.proofs.PlacesLemmas.{all_from-at, all_from-all}
use Rattle.rst_markup_tables.specs.declared.drawn.Rectangle.{Rectangle}
use Rattle.rst_markup_tables.specs.Places.{Grid, width}
use Rattle.rst_markup_tables.specs.Drawn.{drawn_at, covers, times, BeginsFrom, AreDrawn, cover_once, IsTiling, Tiles}
use Rattle.rst_markup_tables.proofs.Rectangles.{drawn_from, covers_yes, times_before}

-- Rectangles that were found before the unit square (i, j): drawn ones from there on complete them to drawn ones, and each tiling is these and drawn ones from there on.
pub record Reached (G : Grid) (i j : ℕ) (rs : List Rectangle) : Type 0 where
  pub drawn : (qs : List Rectangle) → AreDrawn G i j qs → AreDrawn G 0 0 (rs ++ qs)
  pub rest : (qs : List Rectangle) → IsTiling G qs → (ps : List Rectangle) × (qs ≡ rs ++ ps) × AreDrawn G i j ps

pub reached_first : (G : Grid) → Reached G 0 0 []
reached_first G = record { drawn = λ qs a. a; rest = λ qs t. (qs, refl, t.drawn) }

pub times_append : (rs qs : List Rectangle) (x y : ℕ) → times (rs ++ qs) x y ≡ times rs x y + times qs x y
times_append rs qs x y = sum_by-append (λ r. cond (covers r x y) 1 0) rs qs

once_at : (G : Grid) (rs : List Rectangle) → cover_once G rs ≡ true → (x y : ℕ) → x + 1 < length G → y + 1 < width G → times rs x y ≡ 1
once_at G rs h x y high wide =
    eqb-true _ _ (all_from-at (λ j. times rs x j == 1) 0 (width G - 1)
    (all_from-at (λ i. all_from (λ j. times rs i j == 1) 0 (width G - 1)) 0 (length G - 1) h x (omega arith) (omega arith)) y (omega arith) (omega arith))

-- in a tiling a unit square lies either in those found or in one of the rest
once_in : (G : Grid) (i j : ℕ) (rs qs : List Rectangle) → (s : Reached G i j rs) → (t : IsTiling G qs) → (x y : ℕ) → x + 1 < length G → y + 1 < width G → times rs x y + times (s.rest qs t).0 x y ≡ 1
once_in G i j rs qs s t x y high wide =
    let p = s.rest qs t in omega (arith, once_at G qs t.once x y high wide, ap (λ z. times z x y) p.1, times_append rs p.0 x y)

-- a later place allows less
weaken : (G : Grid) (i j k l : ℕ) (qs : List Rectangle) → i ≤ k → (i ≡ k → j ≤ l) → AreDrawn G k l qs → AreDrawn G i j qs
weaken G i j k l [] up left a = a
weaken G i j k l (q ∷ qs) up left a =
    let from : BeginsFrom k l q = a.0 in
    ((omega (arith, from.0), λ e. omega (arith, from.0, from.1)), a.1, a.2)

-- the first of the rectangles is drawn from the unit square from which they come
abbrev pub Begins : Grid → ℕ → ℕ → List Rectangle → Type 0
Begins G i j ps = (p : Rectangle) × (qs : List Rectangle) × (ps ≡ p ∷ qs) × (drawn_at G i j ≡ Some p) × AreDrawn G i (j + 1) qs

-- it is, or the unit square lies in none of them
step : (G : Grid) (i j : ℕ) (ps : List Rectangle) → AreDrawn G i j ps → ((times ps i j ≡ 0) × AreDrawn G i (j + 1) ps) ⊎ ((1 ≤ times ps i j) × Begins G i j ps)
step G i j [] a = inl (refl, tt)
step G i j (p ∷ ps) a =
    let from : BeginsFrom i j p = a.0 in
    let d = drawn_from G p.top p.left p a.1 in
    ⊎_elim
    (λ (later : (i < p.top) ⊎ (j < p.left)).
    let next : BeginsFrom i (j + 1) p = (from.0, λ e. ⊎_elim (λ above. absurd (omega arith)) (λ beyond. omega arith) later) in
    inl (times_before G i (j + 1) i j (p ∷ ps) (next, a.1, a.2) (omega arith) (λ _. omega arith), (next, a.1, a.2)))
    (λ (here : (p.top ≡ i) × (p.left ≡ j)).
    let inside = covers_yes p i j (omega arith) (omega (arith, d.within.high)) (omega arith) (omega (arith, d.within.wide)) in
    let drawn = subst (λ y. drawn_at G i y ≡ Some p) here.1 (subst (λ x. drawn_at G x p.left ≡ Some p) here.0 a.1) in
    let rest = weaken G i (j + 1) p.top (p.left + 1) ps (omega arith) (λ _. omega arith) a.2 in
    inr (grind (arith, inside, sum_by-cons (λ r. cond (covers r i j) 1 0) p ps), (p, ps, refl, drawn, rest)))
    (⊎_elim (λ above. inl (inl above)) (λ top. ⊎_elim (λ beyond. inl (inr beyond)) (λ left. inr (omega (arith, from.0), omega (arith, from.0, from.1))) (cases_lt j p.left)) (cases_lt i p.top))

-- a unit square in one of those found is passed
pub passed : (G : Grid) (i j : ℕ) (rs : List Rectangle) → Reached G i j rs → i + 1 < length G → j + 1 < width G → 0 < times rs i j → Reached G i (j + 1) rs
passed G i j rs s high wide some = record {
  drawn = λ qs a. s.drawn qs (weaken G i j i (j + 1) qs (omega arith) (λ _. omega arith) a);
  rest = λ qs t. let p = s.rest qs t in (p.0, p.1, ⊎_elim (λ none. none.1) (λ here. absurd (omega (arith, here.0, once_in G i j rs qs s t i j high wide))) (step G i j p.0 p.2));
}

-- where the unit square is free, the rest of each tiling begins there
pub next_of : (G : Grid) (i j : ℕ) (rs qs : List Rectangle) → (s : Reached G i j rs) → i + 1 < length G → j + 1 < width G → times rs i j ≡ 0 → (t : IsTiling G qs) → Begins G i j (s.rest qs t).0
next_of G i j rs qs s high wide free t =
    let p = s.rest qs t in ⊎_elim (λ none. absurd (omega (arith, none.0, once_in G i j rs qs s t i j high wide))) (λ here. here.1) (step G i j p.0 p.2)

pub no_tiling : (G : Grid) (i j : ℕ) (rs : List Rectangle) → Reached G i j rs → i + 1 < length G → j + 1 < width G → times rs i j ≡ 0 → None ≡ drawn_at G i j → Tiles G None
no_tiling G i j rs s high wide free none qs t = let h = next_of G i j rs qs s high wide free t in cc (h.3)

-- the rectangle that is drawn there is the next
pub grown : (G : Grid) (i j : ℕ) (rs : List Rectangle) (o : Option Rectangle) → Reached G i j rs → i + 1 < length G → j + 1 < width G → times rs i j ≡ 0 → o ≡ drawn_at G i j → Reached G i (j + 1) (rs ++ option_to_list o)
grown G i j rs None s high wide free none = record {
  drawn = λ qs a. rw (append-nil rs) (s.drawn qs (weaken G i j i (j + 1) qs (omega arith) (λ _. omega arith) a));
  rest = λ qs t. absurd (no_tiling G i j rs s high wide free none qs t);
}
grown G i j rs (Some r) s high wide free is =
    let d = drawn_from G i j r (sym is) in record {
      drawn = λ qs a.
          let first = subst (λ y. drawn_at G r.top y ≡ Some r) (sym d.left) (subst (λ x. drawn_at G x j ≡ Some r) (sym d.top) (sym is)) in
          let rest = weaken G r.top (r.left + 1) i (j + 1) qs (omega (arith, d.top)) (λ _. omega (arith, d.left)) a in
          rw append_assoc (s.drawn (r ∷ qs) ((omega (arith, d.top), λ _. omega (arith, d.left)), first, rest));
      rest = λ qs t.
          let p = s.rest qs t in
          let h = next_of G i j rs qs s high wide free t in
          let same : h.0 ≡ r = same_Some _ _ (sym h.3 ∙ sym is) in
          (h.1, p.1 ∙ ap (λ z. rs ++ z) (h.2 ∙ ap (λ z. z ∷ h.1) same) ∙ sym (append_assoc rs (r ∷ []) h.1), h.4);
    }

-- no rectangle begins in the last column
pub reached_row : (G : Grid) (i j : ℕ) (rs : List Rectangle) → Reached G i j rs → width G - 1 ≤ j → Reached G (i + 1) 0 rs
reached_row G i j rs s all = record {
  drawn = λ qs a. s.drawn qs (weaken G i j (i + 1) 0 qs (omega arith) (λ x. absurd (omega arith)) a);
  rest = λ qs t. let p = s.rest qs t in (p.0, p.1, below p.0 p.2);
}
  where
    below : (ps : List Rectangle) → AreDrawn G i j ps → AreDrawn G (i + 1) 0 ps
    below [] a = a
    below (p ∷ ps) a =
        let from : BeginsFrom i j p = a.0 in
        let d = drawn_from G p.top p.left p a.1 in
        ((grind (arith, all, from.0, from.1, d.within.wide, d.within.inside), λ _. omega arith), a.1, a.2)

-- ---- how far down the columns of unit squares are covered

-- the rectangles that were found before the unit square (i, j); `depths` gives for each column of unit squares how far down they cover it
pub record Stands (G : Grid) (i j : ℕ) (depths : List ℕ) (rs : List Rectangle) : Type 0 where
  pub size : length depths ≡ width G - 1
  pub above : (k : ℕ) → k < j → k < length depths → i < get_or depths k 0
  pub here : (k : ℕ) → k < length depths → i ≤ get_or depths k 0
  pub count : (x y : ℕ) → y < length depths → times rs x y ≡ cond (ltb x (get_or depths y 0)) 1 0
  pub reached : Reached G i j rs

pub skip : (G : Grid) (i j : ℕ) (depths : List ℕ) (rs : List Rectangle) → Stands G i j depths rs
    → i + 1 < length G → j < length depths → (get_or depths j 0 ≡ i → ⊥) → Stands G i (j + 1) depths rs
skip G i j depths rs s high wide ne =
    let deep : i < get_or depths j 0 = omega (arith, s.here j wide, ne) in
    record {
      size = s.size;
      above = λ k below within. ⊎_elim (λ less. s.above k less within) (λ more. let e : j ≡ k = omega arith in subst (λ k. i < get_or depths k 0) e deep) (cases_lt k j);
      here = s.here;
      count = s.count;
      reached = passed G i j rs s.reached high (omega (arith, s.size)) (grind (arith, nat_tests, s.count i j wide));
    }

-- a rectangle that is drawn from a unit square that is free
pub overlap : (G : Grid) (i j : ℕ) (depths : List ℕ) (rs : List Rectangle) (r : Rectangle) → Stands G i j depths rs → i + 1 < length G → j < length depths → get_or depths j 0 ≡ i → Some r ≡ drawn_at G i j
    → (k : ℕ) → r.left ≤ k → k < r.right → get_or depths k 0 ≢ r.top → Tiles G None
overlap G i j depths rs r s high wide here is k low less bad qs t =
    let d = drawn_from G i j r (sym is) in
    let h = next_of G i j rs qs s.reached high (omega (arith, s.size)) (grind (arith, nat_tests, s.count i j wide)) t in
    let within : k < length depths = omega (arith, d.within.inside, s.size) in
    let at : i ≤ get_or depths k 0 = s.here k within in
    let deep : i < get_or depths k 0 = omega (arith, bad, d.top) in
    let had : times rs i k ≡ 1 = grind (arith, nat_tests, s.count i k within) in
    let both = once_in G i j rs qs s.reached t i k high (omega (arith, s.size)) in
    let same : h.0 ≡ r = same_Some _ _ (sym h.3 ∙ sym is) in
    let parts : times (s.reached.rest qs t).0 i k ≡ cond (covers r i k) 1 0 + times h.1 i k = ap (λ z. times z i k) (h.2 ∙ ap (λ z. z ∷ h.1) same) ∙ sum_by-cons (λ z. cond (covers z i k) 1 0) r h.1 in
    let inside = covers_yes r i k (omega (arith, d.top)) (omega (arith, d.top, d.within.high)) low less in
    grind (arith, both, parts, inside, had)

-- it is added, and covers its columns down to its bottom
pub add : (G : Grid) (i j : ℕ) (depths new : List ℕ) (rs : List Rectangle) (r : Rectangle) → Stands G i j depths rs → i + 1 < length G → j < length depths → get_or depths j 0 ≡ i → Some r ≡ drawn_at G i j → length new ≡ length depths
    → ((k : ℕ) → r.left ≤ k → k < r.right → (get_or depths k 0 ≡ r.top) × (get_or new k 0 ≡ r.bottom)) → ((k : ℕ) → (r.left ≤ k → k < r.right → ⊥) → get_or new k 0 ≡ get_or depths k 0) → Stands G i (j + 1) new (rs ++ r ∷ [])
unfolding covers
add G i j depths new rs r s high wide here is size done kept =
    let d = drawn_from G i j r (sym is) in
    let top = d.top in
    let left = d.left in
    let tall = d.within.high in
    let broad = d.within.wide in
    let now : (k : ℕ) → ((r.left ≤ k) × (k < r.right) × (get_or depths k 0 ≡ r.top) × (get_or new k 0 ≡ r.bottom)) ⊎ (((k < r.left) ⊎ (r.right ≤ k)) × (get_or new k 0 ≡ get_or depths k 0)) = λ k.
    ⊎_elim (λ before. inr (inl before, kept k (λ a b. omega arith)))
    (λ from. ⊎_elim (λ inside. inl (from, inside, (done k from inside).0, (done k from inside).1)) (λ past. inr (inr past, kept k (λ a b. omega arith))) (cases_lt k r.right)) (cases_lt k r.left) in
    record {
      size = size ∙ s.size;
      above = λ k below within. grind (arith, nat_tests, now k, s.above k);
      here = λ k within. grind (arith, nat_tests, now k, s.here k);
      count = λ x y within. grind (arith, nat_tests, now y, s.count x y, times_append rs (r ∷ []) x y);
      reached = grown G i j rs (Some r) s.reached high (omega (arith, s.size)) (grind (arith, nat_tests, s.count i j wide)) is;
    }

pub next_row : (G : Grid) (i j : ℕ) (depths : List ℕ) (rs : List Rectangle) → Stands G i j depths rs → length depths ≤ j → Stands G (i + 1) 0 depths rs
next_row G i j depths rs s all = record {
  size = s.size;
  above = λ k below within. absurd (omega arith);
  here = λ k within. omega (arith, s.above k (omega arith) within);
  count = s.count;
  reached = reached_row G i j rs s.reached (omega (arith, s.size));
}

pub reached_all : (G : Grid) (i j : ℕ) (rs : List Rectangle) → Reached G i j rs → cover_once G rs ≡ true → IsTiling G rs
reached_all G i j rs s once = record { drawn = subst (AreDrawn G 0 0) (append-nil rs) (s.drawn [] tt); once = once }

pub finish : (G : Grid) (i : ℕ) (depths : List ℕ) (rs : List Rectangle) → Stands G i 0 depths rs → length G - 1 ≤ i → IsTiling G rs
finish G i depths rs s all =
    reached_all G i 0 rs s.reached (all_from-all (λ i. all_from (λ j. times rs i j == 1) 0 (width G - 1)) 0 (length G - 1) (λ x _ high.
    all_from-all (λ j. times rs x j == 1) 0 (width G - 1) (λ y _ wide.
    let within : y < length depths = omega (arith, s.size) in
    let deep : x < get_or depths y 0 = omega (arith, s.here y within) in
    grind (arith, nat_tests, s.count x y within))))
