-- Marks of explicit markup are within their lines.
use Rattle.std.proofs.Common.{◌≡◌, inl, inr, ℕ, ◌+◌, ◌≤◌, ◌==◌, Bool, true, false, not, cond, ◌&&◌, ◌||◌, List, length, take, drop, length-drop, Option, None, Some, arith, refl, ap}
use Rattle.std.proofs.lemmas.Bool.{and_parts, cases_Bool, not-false, or_parts}
use Rattle.std.specs.Option.{option_and_then}
use Rattle.rst_text.specs.Block.{is_blank}
use Rattle.rst_text.specs.SimpleNames.{simple_name}
use Rattle.rst_text.proofs.Choices.{chosen}
use Rattle.rst_markup_lines.specs.declared.explicit_marks.SubstitutionMark.{SubstitutionMark}
use Rattle.rst_markup_lines.specs.TextStart.{begins_with}
use Rattle.rst_markup_lines.specs.Class.{run}
use Rattle.rst_markup_lines.specs.Closing.{closed}
use Rattle.rst_markup_lines.specs.ExplicitMarks.{dots, label_kind, label_of, label_by, labelled, begins_white, quoted_target, plain_target, anonymous_target, target_of, substitution_of, spaced_bar, closing_bar, colons, directive_mark_of}
use Rattle.rst_markup_lines.specs.Marker.{marker_of}
use Rattle.rst_markup_lines.specs.declared.class.Class.TheVariants.{Unbracketed}
use Rattle.rst_markup_lines.specs.declared.closing.Closing.TheVariants.{Colon, QuotedColon, Bar, SpacedBar}
use Rattle.rst_markup_lines.specs.declared.explicit_marks.DirectiveMark.{DirectiveMark}
use Rattle.rst_markup_lines.specs.declared.explicit_marks.LabelKind.{LabelKind}
use Rattle.rst_markup_lines.specs.declared.explicit_marks.LabelMark.{LabelMark}
use Rattle.rst_markup_lines.specs.declared.explicit_marks.SubstitutionMark.TheVariants.{Named as NamedSubstitution}
use Rattle.rst_markup_lines.specs.declared.explicit_marks.TargetMark.{TargetMark}
use Rattle.rst_markup_lines.specs.declared.explicit_marks.TargetMark.TheVariants.{Named, Anonymous}
use Rattle.rst_markup_lines.specs.declared.marker.Marker.{Marker}
use Rattle.rst_markup_lines.proofs.ClosingLemmas.{closed_within, quoted_within}
use Rattle.rst_markup_lines.proofs.OptionLemmas.{marker_within, there}

-- what the second of two computations gives is what it makes of the first's value
pub some_of : {A C : Type 0} (o : Option A) (f : A → Option C) (y : C) → option_and_then f o ≡ Some y → (x : A) × (o ≡ Some x) × (f x ≡ Some y)
some_of None f y h = cc
some_of (Some x) f y h = (x, refl, h)

-- what follows a test that fails
unless : {X : Type 0} (b : Bool) (r : Option X) (x : X) → cond b None r ≡ Some x → (b ≡ false) × (r ≡ Some x)
unless true r x h = cc
unless false r x h = (refl, h)

-- ---- dots
pub dots_within : (t : List ℕ) (m : Marker) → dots t ≡ Some m → m.cut ≤ length t
unfolding dots
dots_within t m h =
    let d = chosen (begins_with 46 t && begins_with 46 (drop 1 t)) (marker_of 2 t) m h in
    marker_within 2 t m (omega (arith, there 46 1 t (and_parts (begins_with 46 t) (begins_with 46 (drop 1 t)) d.0).1)) d.1

-- ---- labels
abbrev label_with : ℕ → LabelKind → Marker → Option LabelMark
label_with n k m = Some (record { kind = k; len = n; marker = m })

abbrev label_len : Option LabelMark → ℕ
label_len None = 0
label_len (Some l) = l.len

abbrev label_cut : Option LabelMark → ℕ
label_cut None = 0
label_cut (Some l) = l.marker.cut

pub label_within : (t : List ℕ) (l : LabelMark) → label_of t ≡ Some l → (1 + l.len ≤ length t) × (l.marker.cut ≤ length t)
unfolding label_of
label_within t l h =
    let n : ℕ = run Unbracketed (drop 1 t) in
    let named : Option LabelMark = option_and_then (labelled n t) (label_kind (take n (drop 1 t))) in
    let closes = chosen (begins_with 93 (drop n (drop 1 t))) named l (chosen (begins_with 91 t) (label_by n t) l h).1 in
    let kind = some_of (label_kind (take n (drop 1 t))) (labelled n t) l closes.1 in
    let mark = some_of (marker_of (n + 2) t) (label_with n kind.0) l kind.2 in
    let room : n + 2 ≤ length t = omega (arith, there 93 n (drop 1 t) closes.0, length-drop 1 t) in
    let whole : label_with n kind.0 mark.0 ≡ Some l = mark.2 in
    let len : n ≡ l.len = ap (λ o. label_len o) whole in
    let cut : mark.0.cut ≡ l.marker.cut = ap (λ o. label_cut o) whole in
    (omega arith, omega (arith, marker_within (n + 2) t mark.0 room mark.1))

-- ---- targets
abbrev pub TargetWithin : List ℕ → TargetMark → Type 0
TargetWithin t (Named from len m) = (from + len ≤ length t) × (m.cut ≤ length t)
TargetWithin t (Anonymous m) = m.cut ≤ length t

named_within : (from len n : ℕ) (t : List ℕ) (mark : TargetMark) (b : Bool) → from + len ≤ length t → n ≤ length t
    → cond b None (option_and_then (λ m. Some (Named from len m)) (marker_of n t)) ≡ Some mark → TargetWithin t mark
named_within from len n t mark b h k e =
    let m = some_of (marker_of n t) (λ m. Some (Named from len m)) mark (unless b (option_and_then (λ m. Some (Named from len m)) (marker_of n t)) mark e).1 in
    let whole : Some (Named from len m.0) ≡ Some mark = m.2 in
    let same : Named from len m.0 ≡ mark = cc in
    rw (← same) (h, marker_within n t m.0 k m.1)

pub quoted_target_within : (t : List ℕ) (mark : TargetMark) → quoted_target t ≡ Some mark → TargetWithin t mark
unfolding quoted_target
quoted_target_within t mark h =
    let c = some_of (closed QuotedColon (drop 2 t)) (λ n. cond (n == 0 || (begins_white (drop 2 t) || begins_with 96 (drop 2 t))) None (option_and_then (λ m. Some (Named 2 n m)) (marker_of (n + 4) t))) mark h in
    let room : c.0 + 4 ≤ length t = omega (arith, quoted_within (drop 2 t) c.0 c.1, length-drop 2 t) in
    named_within 2 c.0 (c.0 + 4) t mark (c.0 == 0 || (begins_white (drop 2 t) || begins_with 96 (drop 2 t))) (omega arith) room c.2

pub plain_target_within : (t : List ℕ) (mark : TargetMark) → plain_target t ≡ Some mark → TargetWithin t mark
unfolding plain_target
plain_target_within t mark h =
    let c = some_of (closed Colon (drop 1 t)) (λ n. cond (n == 0 || begins_white (drop 1 t)) None (option_and_then (λ m. Some (Named 1 n m)) (marker_of (n + 2) t))) mark h in
    let room : c.0 + 2 ≤ length t = omega (arith, closed_within Colon (drop 1 t) c.0 c.1, length-drop 1 t) in
    named_within 1 c.0 (c.0 + 2) t mark (c.0 == 0 || begins_white (drop 1 t)) (omega arith) room c.2

pub anonymous_target_within : (t : List ℕ) (mark : TargetMark) → anonymous_target t ≡ Some mark → TargetWithin t mark
unfolding anonymous_target
anonymous_target_within t mark h =
    let d = chosen (begins_with 58 (drop 2 t)) (option_and_then (λ m. Some (Anonymous m)) (marker_of 3 t)) mark h in
    let m = some_of (marker_of 3 t) (λ m. Some (Anonymous m)) mark d.1 in
    let whole : Some (Anonymous m.0) ≡ Some mark = m.2 in
    let same : Anonymous m.0 ≡ mark = cc in
    rw (← same) (marker_within 3 t m.0 (omega (arith, there 58 2 t d.0)) m.1)

pub target_within : (t : List ℕ) (mark : TargetMark) → target_of t ≡ Some mark → TargetWithin t mark
unfolding target_of
target_within t mark h =
    let named : Option TargetMark = cond (begins_with 96 (drop 1 t)) (quoted_target t) (plain_target t) in
    let begins = (chosen (begins_with 95 t) (cond (begins_with 95 (drop 1 t)) (anonymous_target t) named) mark h).1 in
    elim (cases_Bool (begins_with 95 (drop 1 t))) [
      | inl two ↦ anonymous_target_within t mark (rw two at begins)
      | inr one ↦ elim (cases_Bool (begins_with 96 (drop 1 t))) [
        | inl quote ↦ quoted_target_within t mark (rw (one, quote) at begins)
        | inr other ↦ plain_target_within t mark (rw (one, other) at begins)
      ]
    ]

-- ---- substitution definitions
spaced_within : (t : List ℕ) (n : ℕ) (m : Marker) (o : Option ℕ) → closed SpacedBar (drop 1 t) ≡ o → spaced_bar t o ≡ Some (NamedSubstitution n m) → (1 + n ≤ length t) × (m.cut ≤ length t)
spaced_within t n m None e h = by (closed Bar (drop 1 t)) h
  where
    by : (o : Option ℕ) → Some (closing_bar o) ≡ Some (NamedSubstitution n m) → (1 + n ≤ length t) × (m.cut ≤ length t)
    by None h = cc
    by (Some k) h = cc
spaced_within t n m (Some k) e h =
    let room : k + 2 ≤ length t = omega (arith, closed_within SpacedBar (drop 1 t) k e, length-drop 1 t) in
    let c = some_of (marker_of (k + 2) t) (λ x. Some (NamedSubstitution k x)) (NamedSubstitution n m) h in
    let whole : Some (NamedSubstitution k c.0) ≡ Some (NamedSubstitution n m) = c.2 in
    let len : k ≡ n = cc in
    let cut : c.0.cut ≡ m.cut = cc in
    (omega arith, omega (arith, marker_within (k + 2) t c.0 room c.1))

pub substitution_within : (t : List ℕ) (n : ℕ) (m : Marker) → substitution_of t ≡ Some (NamedSubstitution n m) → (1 + n ≤ length t) × (m.cut ≤ length t)
unfolding substitution_of
substitution_within t n m h =
    let following : Option SubstitutionMark = spaced_bar t (closed SpacedBar (drop 1 t)) in
    let none : Bool = is_blank (drop 1 t) || begins_white (drop 1 t) in
    let d = chosen (begins_with 124 t) (cond none None following) (NamedSubstitution n m) h in
    spaced_within t n m (closed SpacedBar (drop 1 t)) refl (unless none following (NamedSubstitution n m) d.1).1

-- ---- directives
abbrev directive_with : ℕ → Marker → Option DirectiveMark
directive_with len m = Some (record { len = len; marker = m })

abbrev directive_len : Option DirectiveMark → ℕ
directive_len None = 0
directive_len (Some d) = d.len

abbrev directive_cut : Option DirectiveMark → ℕ
directive_cut None = 0
directive_cut (Some d) = d.marker.cut

colons_within : (len n : ℕ) (t : List ℕ) (d : DirectiveMark) → len ≤ n → colons len n t ≡ Some d → (d.len ≤ length t) × (d.marker.cut ≤ length t)
unfolding colons
colons_within len n t d s h =
    let first : Bool = not (begins_with 58 (drop n t)) in
    let second : Bool = not (begins_with 58 (drop (n + 1) t)) in
    let o = unless (first || second) (option_and_then (directive_with len) (marker_of (n + 2) t)) d h in
    let room : n + 2 ≤ length t = omega (arith, there 58 (n + 1) t (not-false _ (or_parts first second o.0).1)) in
    let c = some_of (marker_of (n + 2) t) (directive_with len) d o.1 in
    let whole : directive_with len c.0 ≡ Some d = c.2 in
    let same : len ≡ d.len = ap (λ o. directive_len o) whole in
    let cut : c.0.cut ≡ d.marker.cut = ap (λ o. directive_cut o) whole in
    (omega arith, omega (arith, marker_within (n + 2) t c.0 room c.1))

pub directive_within : (spaced : Bool) (t : List ℕ) (d : DirectiveMark) → directive_mark_of spaced t ≡ Some d → (d.len ≤ length t) × (d.marker.cut ≤ length t)
unfolding directive_mark_of
directive_within spaced t d h =
    let n : ℕ = simple_name t in
    let space : Bool = spaced && begins_with 32 (drop n t) in
    let following = (unless (n == 0) (cond space (colons n (n + 1) t) (colons n n t)) d h).1 in
    elim (cases_Bool space) [
      | inl one ↦ colons_within n (n + 1) t d (omega arith) (rw one at following)
      | inr none ↦ colons_within n n t d (omega arith) (rw none at following)
    ]
