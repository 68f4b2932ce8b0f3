-- The options of a line, one after the other, and the marker that they make.
use Rattle.std.proofs.Common.{◌≡◌, ℕ, zero, suc, ◌+◌, ◌-◌, ◌≤◌, List, [], ◌∷◌, length, drop, map, Option, None, Some, arith, sub-one, refl, sym, ap, ◌∙◌}
use Rattle.std.specs.Prelude.{All}
use Rattle.std.proofs.lemmas.List.Elements.{All-nil, All-cons, All-head, All-tail}
use Rattle.rst_markup_lines.specs.OptionMarker.{option_at, option_tail, tail_after, argument_width, PlacedOption, moved, with_next, options_from, shifted, marker_of_options}
use Rattle.rst_markup_lines.specs.declared.marker.Marker.{Marker}
use Rattle.rst_markup_lines.specs.declared.option.OptionMark.{OptionMark}
use Rattle.rst_markup_lines.specs.declared.option.OptionTail.{OptionTail}
use Rattle.rst_markup_lines.specs.declared.option.OptionTail.TheVariants.{Last, Next, Wrong}
use Rattle.rst_markup_lines.proofs.OptionLemmas.{width_within}

-- an option after `from` characters
abbrev pub placed : ℕ → OptionMark → OptionTail → PlacedOption
placed from mark tail = record { from = from; mark = mark; tail = tail }

-- ---- further on
pub moved_twice : (a b : ℕ) (os : List PlacedOption) → map (moved a) (map (moved b) os) ≡ map (moved (a + b)) os
moved_twice a b [] = refl
moved_twice a b (o ∷ os) =
    let one : moved a (moved b o) ≡ moved (a + b) o = ap (λ n. placed n o.mark o.tail) (let e : a + (b + o.from) ≡ a + b + o.from = omega arith in e) in
    rw (one, moved_twice a b os) refl

pub moved_nowhere : (os : List PlacedOption) → map (moved 0) os ≡ os
moved_nowhere [] = refl
moved_nowhere (o ∷ os) =
    let one : moved 0 o ≡ o = ap (λ n. placed n o.mark o.tail) (let e : 0 + o.from ≡ o.from = omega arith in e) in
    ap (λ first. first ∷ map (moved 0) os) one ∙ ap (λ more. o ∷ more) (moved_nowhere os)

one_moved : (k : ℕ) (os : List PlacedOption) → map (moved 1) (map (moved k) os) ≡ map (moved (suc k)) os
one_moved k os = moved_twice 1 k os ∙ ap (λ n. map (moved n) os) (let e : 1 + k ≡ suc k = omega arith in e)

options_passed : (k : ℕ) (t : List ℕ) → options_from k t ≡ map (moved k) (options_from 0 (drop k t))
unfolding options_from
options_passed zero t = sym (moved_nowhere (options_from 0 t))
options_passed (suc k) [] = refl
options_passed (suc k) (c ∷ cs) = ap (λ os. map (moved 1) os) (options_passed k cs) ∙ one_moved k (options_from 0 (drop k cs))

-- ---- one step
no_option : option_at [] ≡ None
unfolding option_at
no_option = refl

pub at_none : (t : List ℕ) → option_at t ≡ None → options_from 0 t ≡ []
unfolding options_from
at_none [] e = refl
at_none (c ∷ cs) e = rw e refl

pub at_wrong : (t : List ℕ) (o : OptionMark) → option_at t ≡ Some o → option_tail t ≡ Wrong → options_from 0 t ≡ placed 0 o Wrong ∷ []
unfolding options_from
at_wrong [] o h e = let no : None ≡ Some o = sym no_option ∙ h in cc
at_wrong (c ∷ cs) o h e = rw (h, e) refl

pub at_last : (t : List ℕ) (o : OptionMark) (m : Marker) → option_at t ≡ Some o → option_tail t ≡ Last m → options_from 0 t ≡ placed 0 o (Last m) ∷ []
unfolding options_from
at_last [] o m h e = let no : None ≡ Some o = sym no_option ∙ h in cc
at_last (c ∷ cs) o m h e = rw (h, e) refl

pub at_next : (n : ℕ) (t : List ℕ) (o : OptionMark) → option_at t ≡ Some o → option_tail t ≡ Next n → 1 ≤ n
    → options_from 0 t ≡ placed 0 o (Next n) ∷ map (moved n) (options_from 0 (drop n t))
unfolding options_from
at_next zero t o h e s = absurd (omega arith)
at_next (suc n) [] o h e s = let no : None ≡ Some o = sym no_option ∙ h in cc
at_next (suc n) (c ∷ cs) o h e s =
    let one : options_from 0 (c ∷ cs) ≡ placed 0 o (Next (suc n)) ∷ map (moved 1) (options_from n cs) = rw (h, e, sub-one) refl in
    one ∙ ap (λ os. placed 0 o (Next (suc n)) ∷ os) (ap (λ os. map (moved 1) os) (options_passed n cs) ∙ one_moved n (options_from 0 (drop n cs)))

-- ---- those after `before` characters
pub placed_next : (before n : ℕ) (t : List ℕ) (o : OptionMark) → option_at t ≡ Some o → option_tail t ≡ Next n → 1 ≤ n
    → map (moved before) (options_from 0 t) ≡ placed (before + 0) o (Next n) ∷ map (moved (before + n)) (options_from 0 (drop n t))
placed_next before n t o h e s =
    ap (λ os. map (moved before) os) (at_next n t o h e s) ∙ ap (λ os. placed (before + 0) o (Next n) ∷ os) (moved_twice before n (options_from 0 (drop n t)))

-- where something follows, there is an option
optioned : (t : List ℕ) (tail : OptionTail) → option_tail t ≡ tail → (tail ≡ Wrong → ⊥) → (o : OptionMark) × (option_at t ≡ Some o)
unfolding option_tail
optioned t tail e right = by (option_at t) refl e
  where
    by : (o : Option OptionMark) → option_at t ≡ o → tail_after o t ≡ tail → (m : OptionMark) × (option_at t ≡ Some m)
    by None f e = absurd (right (sym e))
    by (Some m) f e = (m, f)

-- ---- the marker that they make
-- one that leads to a next makes no marker itself
marker_after : (o : PlacedOption) (n : ℕ) (os : List PlacedOption) → o.tail ≡ Next n → marker_of_options (o ∷ os) ≡ marker_of_options os
marker_after o n [] e = rw e refl
marker_after o n (p ∷ os) e = refl

pub marker_last : (before : ℕ) (t : List ℕ) (m : Marker) (total : Option Marker) → option_tail t ≡ Last m
    → marker_of_options (map (moved before) (options_from 0 t)) ≡ total → Some (shifted before m) ≡ total
marker_last before t m total e h =
    let o = optioned t (Last m) e (λ no. cc) in
    let n : before ≡ before + 0 = omega arith in
    ap (λ n. Some (shifted n m)) n ∙ ap (λ os. marker_of_options (map (moved before) os)) (sym (at_last t o.0 m o.1 e)) ∙ h

pub marker_wrong : (before : ℕ) (t : List ℕ) (total : Option Marker) → option_tail t ≡ Wrong
    → marker_of_options (map (moved before) (options_from 0 t)) ≡ total → None ≡ total
marker_wrong before t total e h = by (option_at t) refl
  where
    by : (o : Option OptionMark) → option_at t ≡ o → None ≡ total
    by None f = ap (λ os. marker_of_options (map (moved before) os)) (sym (at_none t f)) ∙ h
    by (Some o) f = ap (λ os. marker_of_options (map (moved before) os)) (sym (at_wrong t o f e)) ∙ h

pub marker_next : (before n : ℕ) (t : List ℕ) (total : Option Marker) → option_tail t ≡ Next n → 1 ≤ n
    → marker_of_options (map (moved before) (options_from 0 t)) ≡ total → marker_of_options (map (moved (before + n)) (options_from 0 (drop n t))) ≡ total
marker_next before n t total e s h =
    let o = optioned t (Next n) e (λ no. cc) in
    sym (marker_after (placed (before + 0) o.0 (Next n)) n (map (moved (before + n)) (options_from 0 (drop n t))) refl)
    ∙ ap marker_of_options (sym (placed_next before n t o.0 o.1 e s)) ∙ h

-- ---- within the line
-- an option is within n characters, with its argument
abbrev pub Fits : ℕ → PlacedOption → Type 0
Fits n o = o.from + (o.mark.string + argument_width o.mark.argument) ≤ n

moved_fits : (n : ℕ) (os : List PlacedOption) → All (Fits n) os → All (Fits (suc n)) (map (moved 1) os)
moved_fits n [] h = All-nil (Fits (suc n))
moved_fits n (o ∷ os) h = All-cons (Fits (suc n)) (moved 1 o) (map (moved 1) os) (omega (arith, All-head (Fits n) o os h)) (moved_fits n os (All-tail (Fits n) o os h))

pub options_fit : (k : ℕ) (t : List ℕ) → All (Fits (length t)) (options_from k t)
unfolding options_from
options_fit k [] = All-nil (Fits 0)
options_fit (suc k) (c ∷ cs) = moved_fits (length cs) (options_from k cs) (options_fit k cs)
options_fit zero (c ∷ cs) = by (option_at (c ∷ cs)) (option_tail (c ∷ cs)) refl (λ n. moved_fits (length cs) (options_from (n - 1) cs) (options_fit (n - 1) cs))
  where
    by : (o : Option OptionMark) (tail : OptionTail) → option_at (c ∷ cs) ≡ o
        → ((n : ℕ) → All (Fits (suc (length cs))) (map (moved 1) (options_from (n - 1) cs)))
        → All (Fits (suc (length cs))) (with_next o tail (λ n. map (moved 1) (options_from (n - 1) cs)))
    by None tail e later = All-nil (Fits (suc (length cs)))
    by (Some o) (Next n) e later = All-cons (Fits (suc (length cs))) (placed 0 o (Next n)) (map (moved 1) (options_from (n - 1) cs)) (omega (arith, (width_within (c ∷ cs) o e).1)) (later n)
    by (Some o) (Last m) e later = All-cons (Fits (suc (length cs))) (placed 0 o (Last m)) [] (omega (arith, (width_within (c ∷ cs) o e).1)) (All-nil (Fits (suc (length cs))))
    by (Some o) Wrong e later = All-cons (Fits (suc (length cs))) (placed 0 o Wrong) [] (omega (arith, (width_within (c ∷ cs) o e).1)) (All-nil (Fits (suc (length cs))))
