-- A text that is searched for keywords.
use Rattle.std.proofs.Common.{◌≡◌, ◌≢◌, ◌∙◌, ℕ, suc, zero, ◌-◌, ◌<◌, ◌≤◌, Bool, true, false, Bor, List, [], ◌∷◌, ◌++◌, length, get_or, map, take, drop, Option, Some, None, refl, ap, drop-cons, arith, append_assoc, sym}
use Rattle.std.specs.Prelude.{option_map, unwrap_or, if◌then◌else◌}
use Rattle.std.proofs.lemmas.List.{take_rest}
use Rattle.std.specs.Option.{option_or}
use Rattle.std.proofs.lemmas.Bool.{ne_eqb}
use native.Mathlib.Numerals.{unary_clauses}
use Rattle.rst_text.specs.Characters.{Text}
use Rattle.rst_transform_docinfo.specs.declared.keywords.Form.{Form}
use Rattle.rst_transform_docinfo.specs.Keywords.{behind, closed, day_of, end_of, first_date, is_date, line_value, opened, shape, valued, with_days}

-- what follows a place
pub rest_of : (text : Text) (i : ℕ) → take (length text - i) (drop i text) ≡ drop i text
rest_of text i = take_rest text i

-- the texts behind references
abbrev pub texts : List (Bor Text) → List Text
texts ps = map (λ (p : Bor Text). p.now) ps

abbrev pub behind_first : {X : Type 0} → List X → List X
behind_first xs = take (length xs - 1) (drop 1 xs)

pub behind_first_is : {X : Type 0} (xs : List X) → behind_first xs ≡ drop 1 xs
behind_first_is xs = take_rest xs 1

-- ---- a mark

-- nothing follows a mark of which there is more than of the text
pub no_text : (marks : List ℕ) (text : Text) (i : ℕ) → i < length marks → length text ≡ 0 → behind (drop i marks) text ≡ None
no_text marks [] i lt e = ap (λ ms. behind ms []) (drop-cons marks i 0 lt)
no_text marks (c ∷ cs) i lt e = absurd (omega (arith, e))

-- nor one whose next character is another
pub other_text : (marks : List ℕ) (text : Text) (i : ℕ) → i < length marks → 0 < length text → shape (get_or text 0 0) ≢ get_or marks i 0 → behind (drop i marks) text ≡ None
other_text marks [] i lt some ne = absurd (omega (arith, some))
other_text marks (c ∷ cs) i lt some ne =
    ap (λ ms. behind ms (c ∷ cs)) (drop-cons marks i 0 lt) ∙ ap (λ b. if b then behind (drop (suc i) marks) cs else None) (ne_eqb (shape c) (get_or marks i 0) ne)

-- ---- dates

date_by : (b : Bool) (ps : List (Bor Text)) (d : Bor Text) → 1 < length ps → is_date (get_or ps 0 d).now ≡ b → first_date (texts ps) ≡ if b then Some (get_or ps 0 d).now else None
date_by b [] d some is = absurd (omega (arith, some))
date_by b (p ∷ []) d some is = absurd (omega (arith, some))
date_by b (p ∷ q ∷ ps) d some is = ap (λ x. if x then Some p.now else None) is

pub first_is_date : (ps : List (Bor Text)) (d : Bor Text) → 1 < length ps → is_date (get_or ps 0 d).now ≡ true → first_date (texts ps) ≡ Some (get_or ps 0 d).now
first_is_date ps d = date_by true ps d

pub first_is_none : (ps : List (Bor Text)) (d : Bor Text) → 1 < length ps → is_date (get_or ps 0 d).now ≡ false → first_date (texts ps) ≡ None
first_is_none ps d = date_by false ps d

pub few_pieces : (ps : List (Bor Text)) → length ps < 2 → first_date (texts ps) ≡ None
few_pieces [] few = refl
few_pieces (p ∷ []) few = refl
few_pieces (p ∷ q ∷ ps) few = absurd (omega (arith, few))

days_by : (p q : Text) (more : List Text) (o : Option Text) → first_date (q ∷ more) ≡ o → with_days (p ∷ q ∷ more) ≡ p ++ unwrap_or (option_map (λ date. day_of date ++ with_days more) o) (36 ∷ with_days (q ∷ more))
days_by p q more o is = ap (λ o. p ++ unwrap_or (option_map (λ date. day_of date ++ with_days more) o) (36 ∷ with_days (q ∷ more))) is

-- a date is behind the first piece
pub days_at : (ps more after : List (Bor Text)) (d : Bor Text) (date : Text) → more ≡ drop 1 ps → after ≡ drop 1 more → 0 < length more → first_date (texts more) ≡ Some date → with_days (texts ps) ≡ (get_or ps 0 d).now ++ (day_of date ++ with_days (texts after))
days_at [] more after d date e f some is = absurd (omega (arith, ap length e))
days_at (p ∷ []) more after d date e f some is = absurd (omega (arith, ap length e))
days_at (p ∷ q ∷ ps) more after d date e f some is = rw (f, e) (days_by p.now q.now (texts ps) (Some date) (rw e at is))

-- ---- texts one after the other

-- what is put after a text, and what is left
pub step : (t new p w left all : Text) → new ≡ t ++ p → w ≡ p ++ left → t ++ w ≡ all → new ++ left ≡ all
step t new p w left all e f g = ap (λ n. n ++ left) e ∙ append_assoc t p left ∙ ap (λ x. t ++ x) (sym f) ∙ g

pub two_steps : (t mid new p q w left all : Text) → mid ≡ t ++ p → new ≡ mid ++ q → w ≡ p ++ (q ++ left) → t ++ w ≡ all → new ++ left ≡ all
two_steps t mid new p q w left all e f g h = step mid new q (q ++ left) left all f refl (step t mid p w (q ++ left) all e g h)

-- ---- the end of a keyword

-- where there is none behind a place, that at the place is the last
pub closed_here : (form : Form) (text : Text) (i : ℕ) → 0 < i → i ≤ length text → closed form (drop i text) ≡ None → closed form (drop (i - 1) text) ≡ behind (end_of form) (drop (i - 1) text)
closed_here form text zero some within none = absurd (omega (arith, some))
closed_here form text (suc i) some within none =
    simp unary_clauses
    (let d = drop-cons text i 0 within in
    ap (closed form) d ∙ ap (λ o. option_or (option_map (λ more. get_or text i 0 ∷ more) o) (behind (end_of form) (get_or text i 0 ∷ drop (suc i) text))) none ∙ ap (behind (end_of form)) (sym d))

-- the last one from a place on is the last one of the text
pub closed_later : (form : Form) (text rest : Text) (i : ℕ) → closed form (drop i text) ≡ Some rest → closed form text ≡ Some (take i text ++ rest)
closed_later form text rest zero e = e
closed_later form [] rest (suc i) e = absurd (cc)
closed_later form (c ∷ cs) rest (suc i) e = ap (λ o. option_or (option_map (λ more. c ∷ more) o) (behind (end_of form) (c ∷ cs))) (closed_later form cs rest i e)

-- ---- a line

line_by : (form : Form) (c : ℕ) (cs : Text) (o : Option Text) → opened form (c ∷ cs) ≡ o → line_value form (c ∷ cs) ≡ unwrap_or (option_map (valued form (c ∷ cs)) o) (c ∷ line_value form cs)
line_by form c cs o is = ap (λ o. unwrap_or (option_map (valued form (c ∷ cs)) o) (c ∷ line_value form cs)) is

-- no keyword is there
pub line_on : (form : Form) (line more : Text) (c : ℕ) → more ≡ drop 1 line → 0 < length line → c ≡ get_or line 0 c → opened form line ≡ None → line_value form line ≡ c ∷ line_value form more
line_on form [] more c e some is none = absurd (omega (arith, some))
line_on form (d ∷ cs) more c e some is none = rw e (line_by form d cs None none ∙ ap (λ x. x ∷ line_value form cs) (sym is))
