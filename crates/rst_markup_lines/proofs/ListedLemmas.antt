-- The options of an item, one after the other, and that they are within their line.
use Rattle.std.proofs.Common.{◌≡◌, ℕ, ◌+◌, ◌≤◌, List, [], ◌∷◌, ◌++◌, length, drop, map, Option, None, Some, arith, refl, sym, ap, ◌∙◌}
use Rattle.std.specs.Prelude.{All, IfSome}
use Rattle.std.specs.Option.{option_map}
use Rattle.std.specs.List.{filter}
use Rattle.std.proofs.lemmas.List.{append-nil, append_assoc}
use Rattle.std.proofs.lemmas.List.Elements.{All-nil, All-cons, All-head, All-tail, All-filter}
use Rattle.rst_markup_lines.specs.OptionMarker.{option_at, option_tail, argument_width, width_with, PlacedOption, moved, options_from}
use Rattle.rst_markup_lines.specs.Options.{options_in, may_follow_option, listed, option_in, argument_at, IsOptionIn, AreOptionsIn}
use Rattle.rst_markup_lines.specs.Place.{IsIn}
use Rattle.rst_markup_lines.specs.declared.marker.Marker.{Marker}
use Rattle.rst_markup_lines.specs.declared.option.Argument.{Argument}
use Rattle.rst_markup_lines.specs.declared.option.Delimiter.{Delimiter}
use Rattle.rst_markup_lines.specs.declared.option.Delimiter.TheVariants.{Nothing, Space, Equals}
use Rattle.rst_markup_lines.specs.declared.option.OptionMark.{OptionMark}
use Rattle.rst_markup_lines.specs.declared.option.OptionTail.TheVariants.{Last, Next, Wrong}
use Rattle.rst_markup_lines.specs.declared.options.ListedOption.{ListedOption}
use Rattle.rst_markup_lines.proofs.PlacedLemmas.{Fits, at_none, at_wrong, at_last, placed_next, options_fit}

-- ---- the options that were read, those to come, and all of them
pub listed_none : (before : ℕ) (t : List ℕ) (read total : List ListedOption) → option_at t ≡ None
    → read ++ listed (map (moved before) (options_from 0 t)) ≡ total → read ≡ total
listed_none before t read total e h = sym (append-nil read) ∙ ap (λ os. read ++ listed (map (moved before) os)) (sym (at_none t e)) ∙ h

pub listed_wrong : (before : ℕ) (t : List ℕ) (o : OptionMark) (read total : List ListedOption) → option_tail t ≡ Wrong → option_at t ≡ Some o
    → read ++ listed (map (moved before) (options_from 0 t)) ≡ total → read ≡ total
listed_wrong before t o read total e f h = sym (append-nil read) ∙ ap (λ os. read ++ listed (map (moved before) os)) (sym (at_wrong t o f e)) ∙ h

in_place : (before : ℕ) (o : OptionMark) → option_in before o ≡ option_in (before + 0) o
in_place before o = ap (λ n. option_in n o) (let e : before ≡ before + 0 = omega arith in e)

pub listed_last : (before : ℕ) (t : List ℕ) (m : Marker) (o : OptionMark) (read total : List ListedOption) → option_tail t ≡ Last m → option_at t ≡ Some o
    → read ++ listed (map (moved before) (options_from 0 t)) ≡ total → read ++ (option_in before o ∷ []) ≡ total
listed_last before t m o read total e f h =
    ap (λ x. read ++ x ∷ []) (in_place before o) ∙ ap (λ os. read ++ listed (map (moved before) os)) (sym (at_last t o m f e)) ∙ h

pub listed_next : (before n : ℕ) (t : List ℕ) (o : OptionMark) (read total : List ListedOption) → option_tail t ≡ Next n → option_at t ≡ Some o → 1 ≤ n
    → read ++ listed (map (moved before) (options_from 0 t)) ≡ total
    → (read ++ (option_in before o ∷ [])) ++ listed (map (moved (before + n)) (options_from 0 (drop n t))) ≡ total
listed_next before n t o read total e f s h =
    append_assoc read (option_in before o ∷ []) (listed (map (moved (before + n)) (options_from 0 (drop n t))))
    ∙ ap (λ x. read ++ x ∷ listed (map (moved (before + n)) (options_from 0 (drop n t)))) (in_place before o)
    ∙ ap (λ os. read ++ listed os) (sym (placed_next before n t o f e s)) ∙ h

-- ---- within the line
width_of : (d : Delimiter) (before len : ℕ) → width_with d before + len ≡ before + width_with d len
width_of Nothing before len = refl
width_of Space before len = omega arith
width_of Equals before len = omega arith

argument_within : (n before : ℕ) (a : Option Argument) → before + argument_width a ≤ n → IfSome (option_map (argument_at before) a) (λ x. IsIn n x.text)
argument_within n before None h = tt
argument_within n before (Some a) h = (omega arith, omega (arith, width_of a.delimiter before a.len))

option_within : (n before : ℕ) (o : OptionMark) → before + (o.string + argument_width o.argument) ≤ n → IsOptionIn n (option_in before o)
option_within n before o h = ((omega arith, omega arith), argument_within n (before + o.string) o.argument (omega arith))

listed_within : (n : ℕ) (os : List PlacedOption) → All (Fits n) os → All (λ o. IsOptionIn n o) (listed os)
listed_within n os h = within_of n (filter (λ o. may_follow_option o.tail) os) (All-filter (λ o. may_follow_option o.tail) (Fits n) os h)
  where
    within_of : (n : ℕ) (os : List PlacedOption) → All (Fits n) os → All (λ o. IsOptionIn n o) (map (λ o. option_in o.from o.mark) os)
    within_of n [] h = All-nil (λ o. IsOptionIn n o)
    within_of n (o ∷ os) h = All-cons (λ o. IsOptionIn n o) (option_in o.from o.mark) (map (λ o. option_in o.from o.mark) os) (option_within n o.from o.mark (All-head (Fits n) o os h)) (within_of n os (All-tail (Fits n) o os h))

pub listed_all_within : (t : List ℕ) (os : List ListedOption) → os ≡ options_in t → AreOptionsIn t os
listed_all_within t os e = rw e (listed_within (length t) (options_from 0 t) (options_fit 0 t))
