-- Option markers are within their lines.
use Rattle.std.proofs.Common.{◌≡◌, ℕ, ◌+◌, ◌<◌, ◌≤◌, ◌==◌, Bool, true, false, not, cond, ◌&&◌, ◌||◌, List, [], ◌∷◌, length, drop, length-drop, Option, None, Some, IfSome, arith, refl, sym, ap, ◌∙◌, ⊎_elim, subst}
use Rattle.std.proofs.lemmas.Bool.{cases_lt, cond_both, not-false, or_parts, true≢false}
use Rattle.std.proofs.lemmas.List.{drop_all}
use Rattle.std.proofs.lemmas.List.Sums.{prefix_len-le-length}
use Rattle.rst_markup_lines.specs.TextStart.{begins_with}
use Rattle.rst_markup_lines.specs.Class.{run, is_in}
use Rattle.rst_markup_lines.specs.declared.class.Class.{Class}
use Rattle.rst_markup_lines.specs.declared.class.Class.TheVariants.{Option as OptionClass, Bracketed}
use Rattle.rst_markup_lines.specs.declared.option.Delimiter.{Delimiter}
use Rattle.rst_markup_lines.specs.declared.option.Delimiter.TheVariants.{Nothing, Space, Equals}
use Rattle.rst_markup_lines.specs.declared.option.Argument.{Argument}
use Rattle.rst_markup_lines.specs.declared.option.OptionMark.{OptionMark}
use Rattle.rst_markup_lines.specs.declared.option.OptionTail.TheVariants.{Last, Next, Wrong}
use Rattle.rst_markup_lines.specs.declared.marker.Marker.{Marker}
use Rattle.rst_markup_lines.specs.OptionMarker.{argument_len, bracketed_len, begins_letter, begins_ascii_alphanumeric, argument_after, with_delimiter, width_with, argument_width, short_argument, long_argument, long_option, short_option, option_at, option_of, tail_at, option_tail, tail_after, last_if}
use Rattle.rst_markup_lines.specs.Marker.{marker_of}
use Rattle.rst_text.specs.Block.{is_blank, indentation}
use Rattle.rst_markup_lines.proofs.TextLemmas.{indent_within}

pub run_le : (class : Class) (cs : List ℕ) → run class cs ≤ length cs
unfolding run
run_le class cs = prefix_len-le-length (is_in class) cs

pub there : (c n : ℕ) (t : List ℕ) → begins_with c (drop n t) ≡ true → n < length t
there c n t h = ⊎_elim (λ less. less) (λ past. absurd (true≢false (sym h ∙ ap (begins_with c) (drop_all n t past)))) (cases_lt n (length t))

bracketed_le : (n : ℕ) (t : List ℕ) → bracketed_len n t ≤ length t
bracketed_le n t = cond_both (n == 0 || not (begins_with 62 (drop (n + 1) t))) 0 (n + 2) (λ m. m ≤ length t)
    (λ e. omega arith) (λ e. omega (arith, there 62 (n + 1) t (not-false _ (or_parts (n == 0) (not (begins_with 62 (drop (n + 1) t))) e).1)))

argument_le : (t : List ℕ) → argument_len t ≤ length t
unfolding argument_len
argument_le t = cond_both (begins_letter t) (run OptionClass t) (cond (begins_with 60 t) (bracketed_len (run Bracketed (drop 1 t)) t) 0) (λ m. m ≤ length t)
    (λ e. run_le OptionClass t)
    (λ e. cond_both (begins_with 60 t) (bracketed_len (run Bracketed (drop 1 t)) t) 0 (λ m. m ≤ length t) (λ f. bracketed_le (run Bracketed (drop 1 t)) t) (λ f. omega arith))

-- an argument that is there is within n characters
abbrev Fits : ℕ → Option Argument → Type 0
Fits n a = argument_width a ≤ n

argument_fits : (d : Delimiter) (n m : ℕ) → m ≤ n → width_with d m ≤ n → Fits n (with_delimiter d m)
argument_fits d n m h w = cond_both (m == 0) None (Some (record { delimiter = d; len = m })) (Fits n) (λ e. omega arith) (λ e. w)

-- after a delimiter of one character
delimited : (c : ℕ) (d : Delimiter) (t : List ℕ) → width_with d (argument_len (drop 1 t)) ≤ argument_len (drop 1 t) + 1 → begins_with c t ≡ true → Fits (length t) (with_delimiter d (argument_len (drop 1 t)))
delimited c d t w e =
    let h : argument_len (drop 1 t) + 1 ≤ length t = omega (arith, argument_le (drop 1 t), length-drop 1 t, there c 0 t e) in
    argument_fits d (length t) (argument_len (drop 1 t)) (omega arith) (omega arith)

short_fits : (t : List ℕ) → Fits (length t) (short_argument t)
unfolding short_argument argument_after
short_fits t = cond_both (begins_with 32 t) (with_delimiter Space (argument_len (drop 1 t))) (with_delimiter Nothing (argument_len t)) (Fits (length t))
    (λ e. delimited 32 Space t (omega arith) e) (λ e. argument_fits Nothing (length t) (argument_len t) (argument_le t) (argument_le t))

long_fits : (t : List ℕ) → Fits (length t) (long_argument t)
unfolding long_argument argument_after
long_fits t =
    let equals : Option Argument = with_delimiter Equals (argument_len (drop 1 t)) in
    cond_both (begins_with 32 t) (with_delimiter Space (argument_len (drop 1 t))) (cond (begins_with 61 t) equals None) (Fits (length t))
    (λ e. delimited 32 Space t (omega arith) e) (λ e. cond_both (begins_with 61 t) equals None (Fits (length t)) (λ f. delimited 61 Equals t (omega arith) f) (λ f. omega arith))

-- an option that is there is within its text
abbrev pub Within : ℕ → Option OptionMark → Type 0
Within n o = IfSome o (λ m. (1 ≤ m.string) × (m.string + argument_width m.argument ≤ n))

some_alphanumeric : (t : List ℕ) → begins_ascii_alphanumeric t ≡ true → 1 ≤ length t
some_alphanumeric [] h = cc
some_alphanumeric (c ∷ cs) h = omega arith

long_within : (n : ℕ) (t : List ℕ) → Within (length t) (long_option n t)
unfolding long_option
long_within n t =
    let m : ℕ = n + 1 + run OptionClass (drop 1 (drop n t)) in
    cond_both (begins_ascii_alphanumeric (drop n t)) (option_of m (long_argument (drop m t))) None (Within (length t))
    (λ e.
    let r : m ≤ length t = omega (arith, run_le OptionClass (drop 1 (drop n t)), length-drop 1 (drop n t), length-drop n t, some_alphanumeric (drop n t) e) in
    let w : argument_width (long_argument (drop m t)) ≤ length (drop m t) = long_fits (drop m t) in
    (omega arith, omega (arith, length-drop m t)))
    (λ e. tt)

short_within : (t : List ℕ) → Within (length t) (short_option t)
unfolding short_option
short_within t =
    let w : argument_width (short_argument (drop 2 t)) ≤ length (drop 2 t) = short_fits (drop 2 t) in
    cond_both (begins_ascii_alphanumeric (drop 1 t)) (option_of 2 (short_argument (drop 2 t))) None (Within (length t))
    (λ e. (omega arith, omega (arith, length-drop 1 t, length-drop 2 t, some_alphanumeric (drop 1 t) e))) (λ e. tt)

pub option_within : (t : List ℕ) → Within (length t) (option_at t)
unfolding option_at
option_within t =
    let short : Option OptionMark = cond (begins_with 45 t || begins_with 43 t) (short_option t) None in
    let dashes : Bool = begins_with 45 t && begins_with 45 (drop 1 t) in
    cond_both (begins_with 47 t) (long_option 1 t) (cond dashes (long_option 2 t) short) (Within (length t)) (λ e. long_within 1 t)
    (λ e. cond_both dashes (long_option 2 t) short (Within (length t)) (λ f. long_within 2 t) (λ f. cond_both (begins_with 45 t || begins_with 43 t) (short_option t) None (Within (length t)) (λ g. short_within t) (λ g. tt)))

-- the option that was read
pub width_within : (t : List ℕ) (o : OptionMark) → option_at t ≡ Some o → (1 ≤ o.string) × (o.string + argument_width o.argument ≤ length t)
width_within t o e = let P : Option OptionMark → Type 0 = Within (length t) in subst P e (option_within t)

pub argument_len_le : (a : Option Argument) (n : ℕ) → argument_width a ≤ n → IfSome a (λ x. x.len ≤ n)
argument_len_le None n h = tt
argument_len_le (Some a) n h = by a.delimiter h
  where
    by : (d : Delimiter) → width_with d a.len ≤ n → a.len ≤ n
    by Nothing w = w
    by Space w = omega arith
    by Equals w = omega arith

pub argument_len_below : (a : Option Argument) (n m : ℕ) → argument_width a ≤ n → n < m → IfSome a (λ x. x.len < m)
argument_len_below None n m h l = tt
argument_len_below (Some a) n m h l = omega (arith, argument_len_le (Some a) n h)

no_next : (d : Bool) (o : Option Marker) (m : ℕ) → cond d Wrong (last_if o) ≡ Next m → ⊥
no_next true o m h = cc
no_next false None m h = cc
no_next false (Some x) m h = cc

-- a comma and a space are within the text, and something before them
next_by : (a b d : Bool) (n m k : ℕ) (t : List ℕ) (o : Option Marker) → begins_with 44 (drop n t) ≡ a → begins_with 32 (drop 1 (drop n t)) ≡ b → 1 ≤ n
    → cond (a && b) (Next (n + 2)) (cond d Wrong (last_if o)) ≡ Next m → (1 ≤ m) × (m ≤ length t)
next_by true true d n m k t o e f s h =
    let same : n + 2 ≡ m = cc in
    (omega arith, omega (arith, there 32 1 (drop n t) f, length-drop n t))
next_by true false d n m k t o e f s h = absurd (no_next d o m h)
next_by false b d n m k t o e f s h = absurd (no_next d o m h)

tail_next : (n m : ℕ) (t : List ℕ) → 1 ≤ n → tail_at n t ≡ Next m → (1 ≤ m) × (m ≤ length t)
unfolding tail_at
tail_next n m t s h = next_by (begins_with 44 (drop n t)) (begins_with 32 (drop 1 (drop n t))) _ n m 0 t (marker_of n t) refl refl s h

pub next_within : (n : ℕ) (t : List ℕ) → option_tail t ≡ Next n → (1 ≤ n) × (n ≤ length t)
unfolding option_tail
next_within n t h = by (option_at t) refl h
  where
    by : (o : Option OptionMark) → option_at t ≡ o → tail_after o t ≡ Next n → (1 ≤ n) × (n ≤ length t)
    by None e h = cc
    by (Some o) e h = tail_next (o.string + argument_width o.argument) n t (omega (arith, (width_within t o e).0)) h

-- a marker's cut is within the text
abbrev cut_of : Option Marker → ℕ
cut_of None = 0
cut_of (Some m) = m.cut

marker_by : (a b : Bool) (n : ℕ) (t : List ℕ) (m : Marker) (bare : Bool) → begins_with 32 (drop n t) ≡ b → n ≤ length t
    → cond a (Some (record { cut = n; bare = true })) (cond b (Some (record { cut = n + indentation (drop n t); bare = bare })) None) ≡ Some m → m.cut ≤ length t
marker_by true b n t m bare e s h = let same : n ≡ m.cut = ap (λ o. cut_of o) h in omega arith
marker_by false true n t m bare e s h = let same : n + indentation (drop n t) ≡ m.cut = ap (λ o. cut_of o) h in omega (arith, indent_within n t e)
marker_by false false n t m bare e s h = cc

pub marker_within : (n : ℕ) (t : List ℕ) (m : Marker) → n ≤ length t → marker_of n t ≡ Some m → m.cut ≤ length t
unfolding marker_of
marker_within n t m s h = marker_by (is_blank (drop n t)) (begins_with 32 (drop n t)) n t m _ refl s h

last_by : (a d : Bool) (n : ℕ) (t : List ℕ) (o : Option Marker) (m : Marker) → marker_of n t ≡ o → n ≤ length t → cond a (Next (n + 2)) (cond d Wrong (last_if o)) ≡ Last m → m.cut ≤ length t
last_by true d n t o m e s h = cc
last_by false true n t o m e s h = cc
last_by false false n t None m e s h = cc
last_by false false n t (Some x) m e s h = marker_within n t m s (e ∙ (let same : x ≡ m = cc in ap (λ y. Some y) same))

tail_last : (n : ℕ) (t : List ℕ) (m : Marker) → n ≤ length t → tail_at n t ≡ Last m → m.cut ≤ length t
unfolding tail_at
tail_last n t m s h = last_by _ _ n t (marker_of n t) m refl s h

pub last_within : (t : List ℕ) (m : Marker) → option_tail t ≡ Last m → m.cut ≤ length t
unfolding option_tail
last_within t m h = by (option_at t) refl h
  where
    by : (o : Option OptionMark) → option_at t ≡ o → tail_after o t ≡ Last m → m.cut ≤ length t
    by None e h = cc
    by (Some o) e h = tail_last (o.string + argument_width o.argument) t m (width_within t o e).1 h
