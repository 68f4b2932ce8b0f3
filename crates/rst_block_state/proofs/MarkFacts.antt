-- A mark shows whether anything comes after it.
use Rattle.std.proofs.Common.{◌≡◌, ℕ, zero, suc, ◌+◌, ◌-◌, Bool, true, false, not, ◌&&◌, ◌||◌, cond, List, [], ◌∷◌, map, drop, take, Option, None, Some, option_map, arith, refl, sym, ap, ◌∙◌}
use Rattle.std.specs.Prelude.{IfSome, ◌==◌}
use Rattle.std.specs.List.{last_or}
use Rattle.std.specs.Option.{option_and_then}
use Rattle.std.proofs.lemmas.List.{drop-drop}
use Rattle.rst_settings.specs.declared.Parts.{Parts}
use Rattle.rst_text.specs.Block.{is_blank, indentation}
use Rattle.rst_markup_lines.specs.Enumerator.{written_at, framed, between_parentheses, before_one, enumerator_of}
use Rattle.rst_markup_lines.specs.ExplicitMarks.{label_kind, labelled, label_by, label_of, colons, directive_mark_by, directive_mark_of}
use Rattle.rst_markup_lines.specs.Field.{field_with, is_no_name, names_role, field_if, field_of}
use Rattle.rst_markup_lines.specs.TextStart.{begins_with, first}
use Rattle.rst_markup_lines.specs.Marker.{marker_of, is_bullet, bullet_by, bullet}
use Rattle.rst_markup_lines.specs.OptionMarker.{PlacedOption, moved, with_next, options_from, option_at, tail_at, tail_after, option_tail, last_if, argument_width, marker_by, option_marker}
use Rattle.rst_markup_lines.specs.declared.enumerator.Enumerator.{Enumerator}
use Rattle.rst_markup_lines.specs.declared.enumerator.Format.{Format}
use Rattle.rst_markup_lines.specs.declared.enumerator.Format.TheVariants.{Parentheses, Parenthesis, Period}
use Rattle.rst_markup_lines.specs.declared.enumerator.Written.{Written}
use Rattle.rst_markup_lines.specs.declared.explicit_marks.DirectiveMark.{DirectiveMark}
use Rattle.rst_markup_lines.specs.declared.explicit_marks.LabelMark.{LabelMark}
use Rattle.rst_markup_lines.specs.declared.explicit_marks.LabelKind.{LabelKind}
use Rattle.rst_markup_lines.specs.declared.field.FieldMark.{FieldMark}
use Rattle.rst_markup_lines.specs.declared.marker.Marker.{Marker}

-- a marker at the front of a text is bare where nothing comes after it
abbrev pub Tells : List ℕ → Marker → Type 0
Tells t m = m.bare ≡ is_blank (drop m.cut t)

-- ---- options of values

then_some : {A C : Type 0} (P : C → Type 0) (f : A → Option C) (o : Option A) → ((a : A) → IfSome (f a) P) → IfSome (option_and_then f o) P
then_some P f None h = tt
then_some P f (Some a) h = h a

map_some : {A C : Type 0} (P : C → Type 0) (f : A → C) (o : Option A) → IfSome o (λ a. P (f a)) → IfSome (option_map f o) P
map_some P f None h = tt
map_some P f (Some a) h = h

if_some : {C : Type 0} (P : C → Type 0) (b : Bool) (o : Option C) → IfSome o P → IfSome (cond b o None) P
if_some P true o h = h
if_some P false o h = tt

unless_some : {C : Type 0} (P : C → Type 0) (b : Bool) (o : Option C) → IfSome o P → IfSome (cond b None o) P
unless_some P true o h = tt
unless_some P false o h = h

either_some : {C : Type 0} (P : C → Type 0) (b : Bool) (o p : Option C) → IfSome o P → IfSome p P → IfSome (cond b o p) P
either_some P true o p h k = h
either_some P false o p h k = k

-- ---- markers

marker_tells : (n : ℕ) (t : List ℕ) → IfSome (marker_of n t) (Tells t)
unfolding marker_of
marker_tells n t = by (is_blank (drop n t)) (begins_with 32 (drop n t)) refl
  where
    by : (a b : Bool) → is_blank (drop n t) ≡ a
        → IfSome (cond a (Some (record { cut = n; bare = true })) (cond b (Some (record { cut = n + indentation (drop n t); bare = is_blank (drop (indentation (drop n t)) (drop n t)) })) None)) (Tells t)
    by true b e = sym e
    by false true e = ap is_blank (drop-drop (indentation (drop n t)) n t)
    by false false e = tt

pub bullet_tells : (t : List ℕ) → IfSome (bullet t) (Tells t)
unfolding bullet
bullet_tells t = by (first t)
  where
    by : (o : Option ℕ) → IfSome (bullet_by o t) (Tells t)
    by None = tt
    by (Some c) = if_some (Tells t) (is_bullet c) (marker_of 1 t) (marker_tells 1 t)

abbrev InField : List ℕ → FieldMark → Type 0
InField t f = Tells t f.marker

pub field_tells : (parts : Parts) (t : List ℕ) → IfSome (field_of parts t) (λ f. Tells t f.marker)
unfolding field_of
field_tells parts t = if_some (InField t) (begins_with 58 t) _ (search by)
  where
    named : (n : ℕ) (o : Option Marker) → IfSome o (Tells t) → IfSome (option_and_then (field_with n) o) (InField t)
    named n None h = tt
    named n (Some m) h = h

    by : (o : Option ℕ) → IfSome (option_and_then (field_if parts.marks t) o) (InField t)
    by o = then_some (InField t) (field_if parts.marks t) o (λ n. unless_some (InField t) (is_no_name n (drop 1 t) || (parts.marks && names_role (drop 1 t) n)) (option_and_then (field_with n) (marker_of (n + 2) t)) (named n (marker_of (n + 2) t) (marker_tells (n + 2) t)))

abbrev InEnumerator : List ℕ → Enumerator → Type 0
InEnumerator t e = Tells t e.marker

framed_tells : (f : Format) (from : ℕ) (w : Written) (t : List ℕ) → IfSome (framed f from w t) (InEnumerator t)
framed_tells f from w t = map_some (InEnumerator t) (λ m. record { format = f; written = w; marker = m }) (marker_of (from + w.len + 1) t) (marker_tells (from + w.len + 1) t)

pub enumerator_tells : (t : List ℕ) → IfSome (enumerator_of t) (λ e. Tells t e.marker)
unfolding enumerator_of
enumerator_tells t =
    either_some (InEnumerator t) (begins_with 40 t) (option_and_then (between_parentheses t) (written_at (drop 1 t))) (option_and_then (before_one t) (written_at t))
    (then_some (InEnumerator t) (between_parentheses t) (written_at (drop 1 t)) (λ w. if_some (InEnumerator t) (begins_with 41 (drop (1 + w.len) t)) (framed Parentheses 1 w t) (framed_tells Parentheses 1 w t)))
    (then_some (InEnumerator t) (before_one t) (written_at t) (λ w.
    either_some (InEnumerator t) (begins_with 41 (drop w.len t)) (framed Parenthesis 0 w t) (cond (begins_with 46 (drop w.len t)) (framed Period 0 w t) None) (framed_tells Parenthesis 0 w t)
    (if_some (InEnumerator t) (begins_with 46 (drop w.len t)) (framed Period 0 w t) (framed_tells Period 0 w t))))

-- ---- options

-- a choice
pub chosen : {A : Type 0} (P : A → Type 0) (b : Bool) (x y : A) → P x → P y → P (cond b x y)
chosen P true x y h k = h
chosen P false x y h k = k

-- the marker of options whose last one is before the end of a text, wherever this text is, shows whether anything comes after it
last_tells : (u : List ℕ) (o : Option Marker) → IfSome o (Tells u) → (f : ℕ) (t : List ℕ) → drop f t ≡ u → IfSome (marker_by f (last_if o)) (Tells t)
last_tells u None h f t e = tt
last_tells u (Some m) h f t e =
    let swap : m.cut + f ≡ f + m.cut = omega arith in
    h ∙ sym (ap (λ v. is_blank (drop m.cut v)) e) ∙ ap is_blank (drop-drop m.cut f t)

-- of some options each does
abbrev TailsTell : List ℕ → List PlacedOption → Type 0
TailsTell u [] = Unit {0}
TailsTell u (o ∷ os) = ((f : ℕ) (t : List ℕ) → drop f t ≡ drop o.from u → IfSome (marker_by f o.tail) (Tells t)) × TailsTell u os

tails_moved : (c : ℕ) (cs : List ℕ) (os : List PlacedOption) → TailsTell cs os → TailsTell (c ∷ cs) (map (moved 1) os)
tails_moved c cs [] h = tt
tails_moved c cs (o ∷ os) h =
    let one : 1 + o.from ≡ suc o.from = omega arith in
    (λ f t e. h.0 f t (e ∙ ap (λ k. drop k (c ∷ cs)) one), tails_moved c cs os h.1)

next_tells : (u : List ℕ) (next : ℕ → List PlacedOption) → ((n : ℕ) → TailsTell u (next n)) → TailsTell u (with_next (option_at u) (option_tail u) next)
unfolding option_tail tail_at
next_tells u next k = by (option_at u)
  where
    by : (o : _) → TailsTell u (with_next o (tail_after o u) next)
    by None = tt
    by (Some o) = let n : ℕ = o.string + argument_width o.argument in
        chosen (λ tail. TailsTell u (with_next (Some o) tail next)) (begins_with 44 (drop n u) && begins_with 32 (drop 1 (drop n u))) _ _ (λ f t e. tt, k (n + 2))
        (chosen (λ tail. TailsTell u (with_next (Some o) tail next)) (begins_with 32 (drop n u) && not (begins_with 32 (drop 1 (drop n u)))) _ _ (λ f t e. tt, tt) (ends o n (marker_of n u) (marker_tells n u)))
      where
        ends : (o : _) (n : ℕ) (m : Option Marker) → IfSome m (Tells u) → TailsTell u (with_next (Some o) (last_if m) next)
        ends o n None h = (λ f t e. tt, tt)
        ends o n (Some m) h = (λ f t e. last_tells u (Some m) h f t e, tt)

options_tell : (k : ℕ) (t : List ℕ) → TailsTell t (options_from k t)
unfolding options_from
options_tell k [] = tt
options_tell (suc k) (c ∷ cs) = tails_moved c cs (options_from k cs) (options_tell k cs)
options_tell zero (c ∷ cs) = next_tells (c ∷ cs) (λ n. map (moved 1) (options_from (n - 1) cs)) (λ n. tails_moved c cs (options_from (n - 1) cs) (options_tell (n - 1) cs))

last_option : (t : List ℕ) (other : Option PlacedOption) (os : List PlacedOption) → IfSome other (λ o. IfSome (marker_by o.from o.tail) (Tells t)) → TailsTell t os
    → IfSome (option_and_then (λ (o : PlacedOption). marker_by o.from o.tail) (last_or other os)) (Tells t)
last_option t None [] h k = tt
last_option t (Some o) [] h k = h
last_option t other (o ∷ os) h k = last_option t (Some o) os (k.0 o.from t refl) k.1

pub option_tells : (t : List ℕ) → IfSome (option_marker t) (Tells t)
option_tells t = last_option t None (options_from 0 t) tt (options_tell 0 t)

-- ---- explicit markup

abbrev InLabel : List ℕ → LabelMark → Type 0
InLabel t l = Tells t l.marker

pub label_tells : (t : List ℕ) → IfSome (label_of t) (λ l. Tells t l.marker)
unfolding label_of
label_tells t = if_some (InLabel t) (begins_with 91 t) _ (all _)
  where
    by : (n : ℕ) (k : LabelKind) (o : Option Marker) → IfSome o (Tells t) → IfSome (option_and_then (λ m. Some (record { kind = k; len = n; marker = m })) o) (InLabel t)
    by n k None h = tt
    by n k (Some m) h = h

    all : (n : ℕ) → IfSome (label_by n t) (InLabel t)
    all n =
        if_some (InLabel t) (begins_with 93 (drop n (drop 1 t))) (option_and_then (labelled n t) (label_kind (take n (drop 1 t))))
        (then_some (InLabel t) (labelled n t) (label_kind (take n (drop 1 t))) (λ k. by n k (marker_of (n + 2) t) (marker_tells (n + 2) t)))

abbrev InDirective : List ℕ → DirectiveMark → Type 0
InDirective t d = Tells t d.marker

colons_tell : (len n : ℕ) (t : List ℕ) → IfSome (colons len n t) (InDirective t)
unfolding colons
colons_tell len n t =
    unless_some (InDirective t) (not (begins_with 58 (drop n t)) || not (begins_with 58 (drop (n + 1) t))) (option_and_then (λ m. Some (record { len = len; marker = m })) (marker_of (n + 2) t))
    (by (marker_of (n + 2) t) (marker_tells (n + 2) t))
  where
    by : (o : Option Marker) → IfSome o (Tells t) → IfSome (option_and_then (λ m. Some (record { len = len; marker = m })) o) (InDirective t)
    by None h = tt
    by (Some m) h = h

pub directive_tells : (spaced : Bool) (t : List ℕ) → IfSome (directive_mark_of spaced t) (λ d. Tells t d.marker)
unfolding directive_mark_of
directive_tells spaced t = all _
  where
    all : (n : ℕ) → IfSome (directive_mark_by spaced n t) (InDirective t)
    all n =
        unless_some (InDirective t) (n == 0) (cond (spaced && begins_with 32 (drop n t)) (colons n (n + 1) t) (colons n n t))
        (either_some (InDirective t) (spaced && begins_with 32 (drop n t)) (colons n (n + 1) t) (colons n n t) (colons_tell n (n + 1) t) (colons_tell n n t))
