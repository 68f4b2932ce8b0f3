-- Fields that are read one after the other.
use Rattle.std.proofs.Common.{◌≡◌, ℕ, suc, zero, ◌+◌, ◌-◌, ◌<◌, ◌≤◌, Bool, true, false, List, [], ◌∷◌, ◌++◌, take, drop, length, Option, Some, None, cond, refl, sym, ap, ap₂, ◌∙◌, arith}
use Rattle.std.proofs.lemmas.List.{append-nil, append_assoc, drop_all, length-map, take-map, take_rest}
use Rattle.std.specs.Borrow.{Bor}
use Rattle.std.specs.List.{prefix_len}
use Rattle.std.specs.Prelude.{slice_index_or}
use Rattle.std.specs.Str.{chars}
use Rattle.rst_settings.specs.declared.Parts.{Parts}
use Rattle.rst_markup_lines.specs.TextStart.{begins_with}
use Rattle.rst_markup_directives.specs.Characters.{Text}
use Rattle.rst_markup_directives.specs.Lines.{texts_of}
use Rattle.rst_markup_directives.specs.Options.{FieldText, option_field, onto_groups, groups, onto_fields, fields_of, fields_in}

-- how many lines at the front begin with a space
abbrev pub deep_len : List Text → ℕ
deep_len ts = prefix_len (begins_with 32) ts

-- fields, and those that come after them if these are right
abbrev pub after_fields : List FieldText → Option (List FieldText) → Option (List FieldText)
after_fields done (Some more) = Some (done ++ more)
after_fields done None = None

-- the first group of lines: the indented lines after the first belong to it
first_group : (t : Text) (ts : List Text) → groups (t ∷ ts) ≡ (t, take (deep_len ts) ts) ∷ groups (drop (deep_len ts) ts)
first_group t [] = refl
first_group t (u ∷ us) = ap (onto_groups t) (first_group u us) ∙ by (deep_len us) (begins_with 32 u) (first_group u us)
  where
    by : (n : ℕ) (b : Bool) → groups (u ∷ us) ≡ (u, take n us) ∷ groups (drop n us)
        → cond b ((t, u ∷ take n us) ∷ groups (drop n us)) ((t, []) ∷ (u, take n us) ∷ groups (drop n us)) ≡ (t, take (cond b (1 + n) 0) (u ∷ us)) ∷ groups (drop (cond b (1 + n) 0) (u ∷ us))
    by n true rest = let one : 1 + n ≡ suc n = omega arith in rw one refl
    by n false rest = ap (λ gs. (t, []) ∷ gs) (sym rest)

first_field : (parts : Parts) (t : Text) (ts : List Text) → fields_in parts (t ∷ ts) ≡ onto_fields (option_field parts t (take (deep_len ts) ts)) (fields_in parts (drop (deep_len ts) ts))
first_field parts t ts = ap (fields_of parts) (first_group t ts)

after_fields-onto : (done : List FieldText) (f : FieldText) (more : Option (List FieldText)) → after_fields done (onto_fields (Some f) more) ≡ after_fields (done ++ f ∷ []) more
after_fields-onto done f None = refl
after_fields-onto done f (Some more) = ap Some (sym (append_assoc done (f ∷ []) more))

-- one field more
pub fields-more : (parts : Parts) (X : List Text) (t : Text) (ts : List Text) (done : List FieldText) (f : FieldText) (whole : Option (List FieldText)) → X ≡ t ∷ ts
    → Some f ≡ option_field parts t (take (deep_len ts) ts) → after_fields done (fields_in parts X) ≡ whole → after_fields (done ++ f ∷ []) (fields_in parts (drop (deep_len ts) ts)) ≡ whole
fields-more parts X t ts done f whole e found h =
    sym (after_fields-onto done f (fields_in parts (drop (deep_len ts) ts))) ∙ ap (λ field. after_fields done (onto_fields field (fields_in parts (drop (deep_len ts) ts)))) found
    ∙ ap (after_fields done) (sym (ap (fields_in parts) e ∙ first_field parts t ts)) ∙ h

-- a line that begins no field
pub fields-stop : (parts : Parts) (X : List Text) (t : Text) (ts : List Text) (done : List FieldText) (whole : Option (List FieldText)) → X ≡ t ∷ ts
    → None ≡ option_field parts t (take (deep_len ts) ts) → after_fields done (fields_in parts X) ≡ whole → None ≡ whole
fields-stop parts X t ts done whole e none h =
    ap (λ field. after_fields done (onto_fields field (fields_in parts (drop (deep_len ts) ts)))) none ∙ ap (after_fields done) (sym (ap (fields_in parts) e ∙ first_field parts t ts)) ∙ h

-- ---- lines as texts

pub texts-drop : (run : List (Bor (List ℕ))) (i : ℕ) → texts_of (drop i run) ≡ drop i (texts_of run)
texts-drop run zero = refl
texts-drop [] (suc i) = refl
texts-drop (v ∷ vs) (suc i) = texts-drop vs i

pub length_texts : (run : List (Bor (List ℕ))) → length (texts_of run) ≡ length run
length_texts run = length-map run (λ line. chars line.now)

-- the characters of the line at a place; past the end there are none
abbrev pub line_at : List (Bor (List ℕ)) → ℕ → Text
line_at run i = chars (slice_index_or run i (record { ref_ptr = (0, 0); now = [] })).now

-- the line at a place, and those after it
pub texts-at : (run : List (Bor (List ℕ))) (i : ℕ) → i < length run → drop i (texts_of run) ≡ line_at run i ∷ drop (i + 1) (texts_of run)
texts-at [] i h = absurd (omega arith)
texts-at (x ∷ xs) zero h = refl
texts-at (x ∷ xs) (suc i) h = let s : suc i + 1 ≡ suc (i + 1) = omega arith in rw s (texts-at xs i (omega arith))

-- where no line is left
pub fields-end : (parts : Parts) (ts : List Text) (i : ℕ) (done : List FieldText) (whole : Option (List FieldText)) → length ts ≤ i → after_fields done (fields_in parts (drop i ts)) ≡ whole → Some done ≡ whole
fields-end parts ts i done whole h e = ap Some (sym (append-nil done)) ∙ ap (λ rest. after_fields done (fields_in parts rest)) (sym (drop_all i ts h)) ∙ e

-- ---- slices

pub texts_take : (run : List (Bor (List ℕ))) (n : ℕ) → texts_of (take n run) ≡ take n (texts_of run)
texts_take run n = sym (take-map (λ line. chars line.now) n run)

pub texts_after : (run : List (Bor (List ℕ))) (n : ℕ) → texts_of (take (length run - n) (drop n run)) ≡ drop n (texts_of run)
texts_after run n = ap texts_of (take_rest run n) ∙ texts-drop run n

-- the indented lines after a place
pub below-texts : (run : List (Bor (List ℕ))) (a n : ℕ) → n ≡ deep_len (texts_of (take (length run - a) (drop a run)))
    → texts_of (take n (take (length run - a) (drop a run))) ≡ take (deep_len (drop a (texts_of run))) (drop a (texts_of run))
below-texts run a n e = texts_take (take (length run - a) (drop a run)) n ∙ ap₂ take (e ∙ ap deep_len (texts_after run a)) (texts_after run a)
