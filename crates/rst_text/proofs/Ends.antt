-- Where a run of lines ends, one line on.
use Rattle.std.proofs.Common.{◌≡◌, ℕ, zero, suc, ◌+◌, ◌-◌, ◌<◌, ◌≤◌, List, [], ◌∷◌, length, get_or, take, drop, refl, sym, ◌∙◌, ap, ap₂, arith, cond, Bool, true, false, leb, ltb, Option, Some, None, inl, inr}
use Rattle.std.specs.Prelude.{unwrap_or}
use Rattle.std.proofs.lemmas.Bool.{cases_lt, le-leb, lt-leb, lt-ltb, le-ltb}
use Rattle.std.proofs.lemmas.List.{drop_all, drop-drop, drop_more, nil_from_length}
use Rattle.rst_text.specs.Block.{Line, Block, no_line, indentation, is_blank, first_text}
use Rattle.rst_text.specs.Extent.{extent, past_blank, least_indent, extent_of}
use Rattle.rst_text.proofs.Least.{lower, least_from, least_from-all}
use Rattle.rst_text.specs.Kept.{IsEmptyRun}
use Rattle.rst_text.specs.Reach.{looked}
use Rattle.rst_text.specs.declared.view.Extent.{Extent}

-- the end so far, where n more lines from i on belong to it
abbrev pub reached : ℕ → ℕ → ℕ → ℕ
reached end i zero = end
reached end i (suc n) = i + suc n

pub drop_one : (i : ℕ) (B : Block) → drop (i + 1) B ≡ drop 1 (drop i B)
drop_one i B = sym (drop-drop 1 i B)

pub text_is : (t : List ℕ) → 1 ≤ length t → is_blank t ≡ false
text_is [] h = absurd (omega arith)
text_is (c ∷ cs) h = refl

past_reached : (end i n : ℕ) → reached end i (past_blank n) ≡ reached end (i + 1) n
past_reached end i zero = refl
past_reached end i (suc n) = omega arith

next_reached : (end i n : ℕ) → reached end i (suc n) ≡ reached (i + 1) (i + 1) n
next_reached end i zero = refl
next_reached end i (suc n) = omega arith

-- What has been found before line i, with what is left from there, is what there is from `from` on.
pub record Finds (B : Block) (from least i end : ℕ) (lowest : Option ℕ) : Type 0 where
  pub place : reached end i (extent least (drop i B)) ≡ from + extent least (drop from B)
  pub least_is : least_from lowest (take (extent least (drop i B)) (drop i B)) ≡ least_from None (take (extent least (drop from B)) (drop from B))
  pub looks : (i - from) + looked least (drop i B) ≡ looked least (drop from B)
  pub in_order : end ≤ i
  pub blank : end < i → is_blank (first_text (drop end B)) ≡ true

blank_lowest : (m : Option ℕ) (n : ℕ) (l : Line) (ls : Block) → is_blank l.text ≡ true → least_from m (take (past_blank n) (l ∷ ls)) ≡ least_from m (take n ls)
unfolding least_from
blank_lowest m zero l ls e = refl
blank_lowest m (suc n) l ls e = ap (λ b. least_from (cond b m (Some (lower m (indentation l.text)))) (take (suc n) ls)) e

more_lowest : (m : Option ℕ) (n : ℕ) (l : Line) (ls : Block) → is_blank l.text ≡ false → least_from m (take (suc n) (l ∷ ls)) ≡ least_from (Some (lower m (indentation l.text))) (take n ls)
unfolding least_from
more_lowest m n l ls e = ap (λ b. least_from (cond b m (Some (lower m (indentation l.text)))) (take n ls)) e

blank_at : (end i : ℕ) (B : Block) → end ≤ i → (end < i → is_blank (first_text (drop end B)) ≡ true) → is_blank (first_text (drop i B)) ≡ true → is_blank (first_text (drop end B)) ≡ true
blank_at end i B h before here = elim (cases_lt end i) [
  | inl below ↦ before below
  | inr over ↦ (let same : end ≡ i = omega arith in rw same here)
]

-- the line at a place
abbrev line_at : Block → ℕ → Line
line_at B i = get_or B i no_line

line_is : (B : Block) (i : ℕ) → i < length B → drop i B ≡ line_at B i ∷ drop (i + 1) B
line_is B i h = drop_more B i _ h

-- a line that is blank
pub Finds-blank : (B : Block) (from least i end : ℕ) (lowest : Option ℕ) → Finds B from least i end lowest → from ≤ i → i < length B → first_text (drop i B) ≡ []
    → Finds B from least (i + 1) end lowest
unfolding extent looked
Finds-blank B from least i end lowest f after there none =
    let l : Line = line_at B i in
    let ls : Block = drop (i + 1) B in
    let same : drop i B ≡ l ∷ ls = line_is B i there in
    let b : is_blank l.text ≡ true = ap (λ (X : Block). is_blank (first_text X)) (sym same) ∙ ap is_blank none in
    let size : extent least (drop i B) ≡ past_blank (extent least ls) = ap (extent least) same ∙ rw b refl in
    let seen : looked least (drop i B) ≡ suc (looked least ls) = ap (looked least) same ∙ rw b refl in
    record {
      place = sym (past_reached end i (extent least ls)) ∙ sym (ap (reached end i) size) ∙ f.place;
      least_is = sym (blank_lowest lowest (extent least ls) l ls b) ∙ sym (ap (least_from lowest) (ap₂ take size same)) ∙ f.least_is;
      looks = omega (arith, f.looks);
      in_order = omega (arith, f.in_order);
      blank = λ h. blank_at end i B f.in_order f.blank (ap is_blank none);
    }

-- What holds at a line that has no character holds after it and the empty lines that follow, if it goes over each.
pub past_run : (P : ℕ → Type 0) (B : Block) (i next : ℕ) → i < length B → length (first_text (drop i B)) ≡ 0 → IsEmptyRun B (i + 1) (length B) next
    → ((k : ℕ) → i ≤ k → k < length B → first_text (drop k B) ≡ [] → P k → P (k + 1)) → P i → P next
past_run P B i next below none run step start =
    let same : (i + 1) + (next - (i + 1)) ≡ next = omega (arith, run.above) in rw same at (go (next - (i + 1)) (omega (arith, run.above)))
  where
    go : (n : ℕ) → (i + 1) + n ≤ next → P ((i + 1) + n)
    go zero h = let same : (i + 1) + 0 ≡ i + 1 = omega arith in rw same (step i (omega arith) below (nil_from_length (first_text (drop i B)) none) start)
    go (suc n) h =
        let same : (i + 1) + suc n ≡ (i + 1) + n + 1 = omega arith in
        rw same (step ((i + 1) + n) (omega arith) (omega (arith, run.within)) (run.empty ((i + 1) + n) (omega arith) (omega arith)) (go n (omega arith)))

-- a blank line, and the empty ones after it
pub Finds-run : (B : Block) (from least i end : ℕ) (lowest : Option ℕ) (next : ℕ) → Finds B from least i end lowest → from ≤ i → i < length B → length (first_text (drop i B)) ≡ 0 → IsEmptyRun B (i + 1) (length B) next
    → Finds B from least next end lowest
Finds-run B from least i end lowest next f after there none run =
    past_run (λ k. Finds B from least k end lowest) B i next there none run (λ k low below empty g. Finds-blank B from least k end lowest g (omega arith) below empty) f

-- a line that is indented enough
pub Finds-more : (B : Block) (from least i end : ℕ) (lowest : Option ℕ) → Finds B from least i end lowest → from ≤ i → i < length B → 1 ≤ length (first_text (drop i B))
    → least ≤ indentation (first_text (drop i B)) → Finds B from least (i + 1) (i + 1) (Some (lower lowest (indentation (first_text (drop i B)))))
unfolding extent looked
Finds-more B from least i end lowest f after there text deep =
    let l : Line = line_at B i in
    let ls : Block = drop (i + 1) B in
    let same : drop i B ≡ l ∷ ls = line_is B i there in
    let here : first_text (drop i B) ≡ l.text = ap first_text same in
    let b : is_blank l.text ≡ false = text_is l.text (rw here at text) in
    let d : leb least (indentation l.text) ≡ true = le-leb least (indentation l.text) (rw here at deep) in
    let size : extent least (drop i B) ≡ suc (extent least ls) = ap (extent least) same ∙ rw (b, d) refl in
    let seen : looked least (drop i B) ≡ suc (looked least ls) = ap (looked least) same ∙ rw (b, d) refl in
    record {
      place = sym (next_reached end i (extent least ls)) ∙ sym (ap (reached end i) size) ∙ f.place;
      least_is = rw here (sym (more_lowest lowest (extent least ls) l ls b) ∙ sym (ap (least_from lowest) (ap₂ take size same)) ∙ f.least_is);
      looks = omega (arith, f.looks);
      in_order = omega arith;
      blank = λ h. absurd (omega arith);
    }

-- What has been found, once nothing more belongs to it.
pub record Found (B : Block) (from least end : ℕ) (lowest : Option ℕ) : Type 0 where
  pub place : end ≡ from + extent least (drop from B)
  pub least_is : lowest ≡ least_from None (take (extent least (drop from B)) (drop from B))

least_none : (m : Option ℕ) (X : Block) (n : ℕ) → n ≡ 0 → least_from m (take n X) ≡ m
unfolding least_from
least_none m X n e = rw e refl

finished : (B : Block) (from least i end : ℕ) (lowest : Option ℕ) → Finds B from least i end lowest → extent least (drop i B) ≡ 0 → Found B from least end lowest
finished B from least i end lowest f none = record {
  place = sym (ap (reached end i) none) ∙ f.place;
  least_is = sym (least_none lowest (drop i B) (extent least (drop i B)) none) ∙ f.least_is;
}

-- a line that ends it
pub Finds-over : (B : Block) (from least i end : ℕ) (lowest : Option ℕ) → Finds B from least i end lowest → i < length B → 1 ≤ length (first_text (drop i B))
    → indentation (first_text (drop i B)) < least → Found B from least end lowest × (looked least (drop i B) ≡ 1) × (is_blank (first_text (drop i B)) ≡ false)
unfolding extent looked
Finds-over B from least i end lowest f there text flat =
    let l : Line = line_at B i in
    let same : drop i B ≡ l ∷ drop (i + 1) B = line_is B i there in
    let here : first_text (drop i B) ≡ l.text = ap first_text same in
    let b : is_blank l.text ≡ false = text_is l.text (rw here at text) in
    let d : leb least (indentation l.text) ≡ false = lt-leb least (indentation l.text) (rw here at flat) in
    (finished B from least i end lowest f (ap (extent least) same ∙ rw (b, d) refl), ap (looked least) same ∙ rw (b, d) refl, ap is_blank here ∙ b)

pub Finds-end : (B : Block) (from least i end : ℕ) (lowest : Option ℕ) → Finds B from least i end lowest → length B ≤ i → Found B from least end lowest × (looked least (drop i B) ≡ 0)
unfolding extent looked
Finds-end B from least i end lowest f over =
    let none : drop i B ≡ [] = drop_all i B over in (finished B from least i end lowest f (rw none refl), rw none refl)

-- The answer.
pub extent_is : (B : Block) (from least end : ℕ) (lowest : Option ℕ) (n : ℕ) (finish : Bool) → Found B from least end lowest → n ≡ unwrap_or lowest 0
    → finish ≡ is_blank (first_text (drop end B)) → let e : Extent = record { end = end; indent = n; blank_finish = finish } in e ≡ extent_of from least (drop from B)
extent_is B from least end lowest n finish f q s =
    let size : end ≡ from + extent least (drop from B) = f.place in
    let deep : n ≡ least_indent (take (extent least (drop from B)) (drop from B)) = q ∙ ap (λ o. unwrap_or o 0) f.least_is ∙ least_from-all (take (extent least (drop from B)) (drop from B)) in
    let ends : finish ≡ is_blank (first_text (drop (extent least (drop from B)) (drop from B))) =
    s ∙ ap (λ k. is_blank (first_text (drop k B))) size ∙ ap (λ (Y : Block). is_blank (first_text Y)) (sym (drop-drop (extent least (drop from B)) from B)) in
    cc

-- whether what follows is blank: at a line that ends it, and at the end of the block
pub finish_at : (B : Block) (from least i end : ℕ) (lowest : Option ℕ) → Finds B from least i end lowest → is_blank (first_text (drop i B)) ≡ false → ltb end i ≡ is_blank (first_text (drop end B))
finish_at B from least i end lowest f here = elim (cases_lt end i) [
  | inl below ↦ (let t : ltb end i ≡ true = lt-ltb end i below in t ∙ sym (f.blank below))
  | inr over ↦ (let same : end ≡ i = omega (arith, f.in_order) in let t : ltb end i ≡ false = le-ltb end i over in t ∙ sym here ∙ ap (λ k. is_blank (first_text (drop k B))) (sym same))
]

pub finish_end : (B : Block) (from least i end : ℕ) (lowest : Option ℕ) → Finds B from least i end lowest → length B ≤ i → i ≤ length B → true ≡ is_blank (first_text (drop end B))
finish_end B from least i end lowest f over within = elim (cases_lt end i) [
  | inl below ↦ sym (f.blank below)
  | inr at ↦ (let none : drop end B ≡ [] = drop_all end B (omega (arith, f.in_order)) in rw none refl)
]
