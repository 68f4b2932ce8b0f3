-- The first attribution of a quote is found after the blank lines that follow a text.
use Rattle.std.proofs.Common.{◌≡◌, ⊎_elim, ℕ, zero, suc, ◌+◌, ◌-◌, ◌<◌, ◌≤◌, Bool, true, false, cond, List, [], ◌∷◌, Option, None, Some, length, drop, option_and_then, option_map, refl, sym, ap, ◌∙◌, arith}
use Rattle.std.proofs.Math.Bool.{not}
use Rattle.std.specs.Option.{is_some, option_map_or}
use Rattle.std.proofs.lemmas.Bool.{cases_lt}
use Rattle.std.proofs.lemmas.List.{drop-drop}
use Rattle.rst_text.proofs.Choices.{chosen, some_is}
use Rattle.rst_text.specs.Block.{Block, first_text, indentation, is_blank}
use Rattle.rst_text.specs.Places.{first_from, NoneFrom}
use Rattle.rst_text.proofs.PlacesLemmas.{NoneFrom-join, NoneFrom-more, IsFirst-unique, first_from-IsFirst}
use Rattle.rst_markup_lines.specs.Attribution.{attribution_of, dash_len}
use Rattle.rst_markup_lines.specs.Class.{run}
use Rattle.rst_markup_blocks.specs.Attributions.{attribution_at, attribution_after, attribution_by, attribution_with, level_lines}
use Rattle.rst_markup_blocks.specs.Conditions.{next_text, text_at}
use Rattle.rst_markup_blocks.specs.Lines.{lines_while}
use Rattle.rst_markup_blocks.specs.declared.attribution.Attribution.{Attribution}
use Rattle.rst_markup_blocks.specs.declared.lines.LineTest.TheVariants.{Blank, Filled}
use Rattle.rst_markup_blocks.proofs.LineLemmas.{while_more}
use Rattle.rst_block_state.specs.Quotes.{attribution_in, first_attribution}
use Rattle.rst_block_state.proofs.PartFacts.{past_blanks}

-- an attribution begins at a place
abbrev pub begins_at : Block → ℕ → Bool
begins_at Q k = is_some (attribution_in Q k)

-- ---- lines that are blank or not

here_filled : (b : Bool) (w : ℕ) → 0 < cond (not b) (suc w) 0 → b ≡ false
here_filled true w h = absurd (omega arith)
here_filled false w h = refl

more_filled : (b : Bool) (n w : ℕ) → suc n < cond (not b) (suc w) 0 → n < w
more_filled true n w h = absurd (omega arith)
more_filled false n w h = omega arith

here_blank : (b : Bool) (w : ℕ) → 0 < cond b (suc w) 0 → b ≡ true
here_blank true w h = refl
here_blank false w h = absurd (omega arith)

more_blank : (b : Bool) (n w : ℕ) → suc n < cond b (suc w) 0 → n < w
more_blank true n w h = omega arith
more_blank false n w h = absurd (omega arith)

filled_at : (n : ℕ) (Y : Block) → n < lines_while Filled Y → is_blank (first_text (drop n Y)) ≡ false
unfolding lines_while
filled_at n [] h = absurd (omega arith)
filled_at zero (l ∷ ls) h = here_filled (is_blank l.text) (lines_while Filled ls) h
filled_at (suc n) (l ∷ ls) h = filled_at n ls (more_filled (is_blank l.text) n (lines_while Filled ls) h)

blank_at : (n : ℕ) (Y : Block) → n < lines_while Blank Y → is_blank (first_text (drop n Y)) ≡ true
unfolding lines_while
blank_at n [] h = absurd (omega arith)
blank_at zero (l ∷ ls) h = here_blank (is_blank l.text) (lines_while Blank ls) h
blank_at (suc n) (l ∷ ls) h = blank_at n ls (more_blank (is_blank l.text) n (lines_while Blank ls) h)

-- the line that ends a text is blank or missing
filled_end : (Y : Block) → is_blank (first_text (drop (lines_while Filled Y) Y)) ≡ true
unfolding lines_while
filled_end [] = refl
filled_end (l ∷ ls) = by (is_blank l.text) refl (filled_end ls)
  where
    by : (b : Bool) → is_blank l.text ≡ b → is_blank (first_text (drop (lines_while Filled ls) ls)) ≡ true → is_blank (first_text (drop (cond (not b) (suc (lines_while Filled ls)) 0) (l ∷ ls))) ≡ true
    by true e g = e
    by false e g = g

-- ---- where no attribution begins

none_after_text : (Q : Block) (k : ℕ) → is_blank (text_at Q (k - 1)) ≡ false → begins_at Q k ≡ false
none_after_text Q k h = rw h refl

no_text : (t : List ℕ) → is_blank t ≡ true → t ≡ []
no_text [] h = refl
no_text (c ∷ cs) h = cc

no_mark : attribution_of [] ≡ None
unfolding attribution_of dash_len run
no_mark = refl

blank_none : (k : ℕ) (X : Block) → is_blank (first_text X) ≡ true → attribution_at k X ≡ None
unfolding attribution_at
blank_none k X h = ap (λ t. attribution_by (attribution_of t) k X) (no_text (first_text X) h) ∙ ap (λ m. attribution_by m k X) no_mark

none_either : (b : Bool) (o : Option Attribution) → o ≡ None → is_some (cond b o None) ≡ false
none_either true o e = rw e refl
none_either false o e = refl

none_at : (Q : Block) (k : ℕ) → attribution_at k (drop k Q) ≡ None → begins_at Q k ≡ false
none_at Q k e = none_either (is_blank (text_at Q (k - 1))) (attribution_at k (drop k Q)) e

-- directly after a line that isn't blank
none_filled : (Q : Block) (from end : ℕ) → end ≡ from + lines_while Filled (drop from Q) → NoneFrom (begins_at Q) (from + 1) (end + 1)
none_filled Q from end e = λ k above below.
    let j : ℕ = k - 1 - from in
    let same : from + j ≡ k - 1 = omega arith in
    let place : drop j (drop from Q) ≡ drop (k - 1) Q = drop-drop j from Q ∙ ap (λ i. drop i Q) same in
    none_after_text Q k (ap (λ X. is_blank (first_text X)) (sym place) ∙ filled_at j (drop from Q) (omega arith))

-- in a blank line
none_blank : (Q : Block) (from place : ℕ) → place ≡ from + lines_while Blank (drop from Q) → NoneFrom (begins_at Q) from place
none_blank Q from place e = λ k above below.
    let j : ℕ = k - from in
    let same : from + j ≡ k = omega arith in
    let at : drop j (drop from Q) ≡ drop k Q = drop-drop j from Q ∙ ap (λ i. drop i Q) same in
    none_at Q k (blank_none k (drop k Q) (ap (λ X. is_blank (first_text X)) (sym at) ∙ blank_at j (drop from Q) (omega arith)))

-- ---- the search

-- no attribution was found up to the blank line at a place
pub record Unfound (Q : Block) (end : ℕ) : Type 0 where
  pub none : NoneFrom (begins_at Q) 1 (end + 1)
  pub blank : is_blank (first_text (drop end Q)) ≡ true

stops_blank : (Q : Block) (from end : ℕ) → end ≡ from + lines_while Filled (drop from Q) → is_blank (first_text (drop end Q)) ≡ true
stops_blank Q from end e =
    let place : drop (lines_while Filled (drop from Q)) (drop from Q) ≡ drop end Q = drop-drop (lines_while Filled (drop from Q)) from Q ∙ ap (λ i. drop i Q) (sym e) in
    ap (λ X. is_blank (first_text X)) (sym place) ∙ filled_end (drop from Q)

pub Unfound-start : (Q : Block) (end : ℕ) → end ≡ 0 + lines_while Filled (drop 0 Q) → Unfound Q end
Unfound-start Q end e = record { none = none_filled Q 0 end e; blank = stops_blank Q 0 end e }

-- where the blank lines from there on end
pub after_blank : (Q : Block) (end place : ℕ) → Unfound Q end → end < length Q → place ≡ end + lines_while Blank (drop end Q) → place ≡ end + 1 + lines_while Blank (drop (end + 1) Q)
after_blank Q end place u h e = e ∙ while_more end Blank Q h u.blank

none_before : (Q : Block) (end place : ℕ) → Unfound Q end → place ≡ end + 1 + lines_while Blank (drop (end + 1) Q) → NoneFrom (begins_at Q) 1 place
none_before Q end place u e = NoneFrom-join (begins_at Q) 1 (end + 1) place u.none (none_blank Q (end + 1) place e)

pub Unfound-step : (Q : Block) (end place next : ℕ) → Unfound Q end → place ≡ end + 1 + lines_while Blank (drop (end + 1) Q) → place < length Q → length (drop (end + 1) Q) ≡ length Q - (end + 1)
    → None ≡ attribution_at place (drop place Q) → next ≡ place + 1 + lines_while Filled (drop (place + 1) Q) → Unfound Q next
Unfound-step Q end place next u e h n a f =
    let Y : Block = drop (end + 1) Q in
    let at : drop (lines_while Blank Y) Y ≡ drop place Q = drop-drop (lines_while Blank Y) (end + 1) Q ∙ ap (λ i. drop i Q) (sym e) in
    let dark : is_blank (first_text (drop place Q)) ≡ false = ap (λ X. is_blank (first_text X)) (sym at) ∙ past_blanks Y (omega arith) in
    let more : place + lines_while Filled (drop place Q) ≡ place + 1 + lines_while Filled (drop (place + 1) Q) = while_more place Filled Q h (ap not dark) in
    let end_is : next ≡ place + lines_while Filled (drop place Q) = f ∙ sym more in
    record {
      none = NoneFrom-join (begins_at Q) 1 (place + 1) (next + 1) (NoneFrom-more (begins_at Q) 1 place (none_before Q end place u e) (λ _. none_at Q place (sym a))) (none_filled Q place next end_is);
      blank = stops_blank Q place next end_is;
    }

-- the line before the place is blank
before_blank : (Q : Block) (end place : ℕ) → Unfound Q end → place ≡ end + 1 + lines_while Blank (drop (end + 1) Q) → is_blank (text_at Q (place - 1)) ≡ true
before_blank Q end place u e = ⊎_elim
    (λ later.
    let j : ℕ = place - 1 - (end + 1) in
    let same : end + 1 + j ≡ place - 1 = omega arith in
    let at : drop j (drop (end + 1) Q) ≡ drop (place - 1) Q = drop-drop j (end + 1) Q ∙ ap (λ i. drop i Q) same in
    ap (λ X. is_blank (first_text X)) (sym at) ∙ blank_at j (drop (end + 1) Q) (omega arith))
    (λ at_once. let same : place - 1 ≡ end = omega arith in ap (λ i. is_blank (first_text (drop i Q))) same ∙ u.blank)
    (cases_lt (end + 1) place)

pub Unfound-found : (Q : Block) (end place : ℕ) (a : Attribution) → Unfound Q end → place ≡ end + 1 + lines_while Blank (drop (end + 1) Q) → place < length Q
    → Some a ≡ attribution_at place (drop place Q) → Some (place, a) ≡ first_attribution Q
Unfound-found Q end place a u e h is =
    let here : attribution_in Q place ≡ Some a = ap (λ b. cond b (attribution_at place (drop place Q)) None) (before_blank Q end place u e) ∙ sym is in
    let passes : begins_at Q place ≡ true = ap is_some here in
    let first : first_from (begins_at Q) 1 (length Q - 1) ≡ Some place = IsFirst-unique (begins_at Q) 1 (1 + (length Q - 1)) (first_from (begins_at Q) 1 (length Q - 1)) (Some place)
    (first_from-IsFirst (begins_at Q) 1 (length Q - 1)) (omega arith, omega arith, passes, none_before Q end place u e) in
    sym (ap (option_and_then (λ k. option_map (λ b. (k, b)) (attribution_in Q k))) first ∙ ap (option_map (λ b. (place, b))) here)

none_first : (Q : Block) (n : ℕ) → NoneFrom (begins_at Q) 1 n → length Q ≤ n → None ≡ first_attribution Q
none_first Q n none h =
    let first : first_from (begins_at Q) 1 (length Q - 1) ≡ None = IsFirst-unique (begins_at Q) 1 (1 + (length Q - 1)) (first_from (begins_at Q) 1 (length Q - 1)) None
    (first_from-IsFirst (begins_at Q) 1 (length Q - 1)) (λ k above below. none k above (omega arith)) in
    sym (ap (option_and_then (λ k. option_map (λ b. (k, b)) (attribution_in Q k))) first)

pub Unfound-blank : (Q : Block) (end place : ℕ) → Unfound Q end → place ≡ end + 1 + lines_while Blank (drop (end + 1) Q) → length Q ≤ place → None ≡ first_attribution Q
Unfound-blank Q end place u e h = none_first Q place (none_before Q end place u e) h

pub Unfound-end : (Q : Block) (end : ℕ) → Unfound Q end → length Q ≤ end → None ≡ first_attribution Q
Unfound-end Q end u h = none_first Q (end + 1) u.none (omega arith)

-- ---- where an attribution ends

level_is : (n : ℕ) (Y : Block) (m : ℕ) → level_lines n Y ≡ Some m → m ≡ lines_while Filled Y
unfolding level_lines
level_is n Y m h = sym (some_is (chosen _ (Some (lines_while Filled Y)) m h).1)

with_end : (k marker indent w : ℕ) (o : Option ℕ) (a : Attribution) → ((m : ℕ) → o ≡ Some m → m ≡ w) → Some a ≡ attribution_with k marker indent o → a.end ≡ k + 1 + w
with_end k marker indent w None a h e = cc
with_end k marker indent w (Some m) a h e = ap (λ o. option_map_or (λ (x : Attribution). x.end) o 0) e ∙ ap (λ n. k + 1 + n) (h m refl)

-- after the lines below its first, up to a blank one
pub attribution_end : (k : ℕ) (X : Block) (a : Attribution) → Some a ≡ attribution_at k X → a.end ≡ k + 1 + lines_while Filled (drop 1 X)
unfolding attribution_at attribution_after
attribution_end k X a e = by (attribution_of (first_text X)) e
  where
    by : (o : Option ℕ) → Some a ≡ attribution_by o k X → a.end ≡ k + 1 + lines_while Filled (drop 1 X)
    by None h = cc
    by (Some marker) h = with_end k marker (indentation (next_text X)) (lines_while Filled (drop 1 X)) (level_lines (indentation (next_text X)) (drop 1 X)) a (level_is (indentation (next_text X)) (drop 1 X)) h
