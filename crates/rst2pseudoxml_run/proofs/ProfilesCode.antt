-- Where no call of program code is written, a directive is the same whether there is one for program code.
use Rattle.std.proofs.Common.{◌≡◌, ℕ, zero, suc, Bool, true, false, ◌&&◌, ◌||◌, ◌==◌, eqb, List, [], ◌∷◌, ◌++◌, map, take, drop, codes, refl, sym, ap, ◌∙◌, ◌-◌, ◌≤◌, arith, true≢false, bytes_eq, take-append-drop}
use Rattle.std.proofs.lemmas.List.{drop-drop}
use Rattle.std.specs.Char.{to_ascii_lowercase}
use Rattle.rst_text.specs.Block.{Block, first_text}
use Rattle.rst_markup_lines.specs.TextStart.{begins_with}
use Rattle.rst_markup_blocks.specs.declared.forms.Invocation.{Invocation}
use Rattle.rst_markup_directives.specs.Call.{name_text}
use Rattle.rst_markup_directives.specs.Characters.{Text, is_word}
use Rattle.rst_markup_directives.specs.Directive.{directive_at, directive_of}
use Rattle.rst_markup_directives.specs.Kind.{is_code}
use Rattle.rst_markup_directives.specs.declared.found.Place.{Place}
use Rattle.rst_markup_directives.proofs.Tables.{named_alike}
use Rattle.rst2pseudoxml_run.specs.CodeCalls.{begins_call, begins_code, begins_colons, holds_code, is_called}

pub or_right : (a b : Bool) → b ≡ true → (a || b) ≡ true
or_right true b h = refl
or_right false b h = h

pub or_left : (a b : Bool) → a ≡ true → (a || b) ≡ true
or_left true b h = refl
or_left false b h = absurd (true≢false (sym h))

-- one of two holds
pub either : {A : Type 0} (a b : Bool) → (a ≡ true → A) → (b ≡ true → A) → (a || b) ≡ true → A
either true b f g h = f refl
either false b f g h = g h

pub and_left : (a b : Bool) → (a && b) ≡ true → a ≡ true
and_left true b h = refl
and_left false b h = absurd (true≢false (sym h))

pub and_right : (a b : Bool) → (a && b) ≡ true → b ≡ true
and_right true b h = h
and_right false b h = absurd (true≢false (sym h))

pub both : (a b : Bool) → a ≡ true → b ≡ true → (a && b) ≡ true
both true b h k = k
both false b h k = absurd (true≢false (sym h))

-- ---- parts of a text

with_take : (n : ℕ) (c : ℕ) (t : Text) → begins_with c (take n t) ≡ true → begins_with c t ≡ true
with_take zero c t h = absurd (true≢false (sym h))
with_take (suc n) c [] h = h
with_take (suc n) c (d ∷ ds) h = h

drop_one : (n : ℕ) (c : ℕ) (t : Text) → begins_with c (drop 1 (take n t)) ≡ true → begins_with c (drop 1 t) ≡ true
drop_one zero c t h = absurd (true≢false (sym h))
drop_one (suc n) c [] h = h
drop_one (suc n) c (d ∷ ds) h = with_take n c ds h

drop_two : (n : ℕ) (c : ℕ) (t : Text) → begins_with c (drop 1 (drop 1 (take n t))) ≡ true → begins_with c (drop 1 (drop 1 t)) ≡ true
drop_two zero c t h = absurd (true≢false (sym h))
drop_two (suc n) c [] h = h
drop_two (suc n) c (d ∷ ds) h = drop_one n c ds h

call_take : (n : ℕ) (t : Text) → begins_call (take n t) ≡ true → begins_call t ≡ true
unfolding begins_call
call_take n t h =
    let s = take n t in
    either (begins_colons s) (begins_with 32 s && begins_colons (drop 1 s))
    (λ k. or_left _ _ (both _ _ (with_take n 58 t (and_left _ _ k)) (drop_one n 58 t (and_right _ _ k))))
    (λ k. or_right (begins_colons t) _ (both _ _ (with_take n 32 t (and_left _ _ k)) (both _ _ (drop_one n 58 t (and_left _ _ (and_right _ _ k))) (drop_two n 58 t (and_right _ _ (and_right _ _ k))))))
    h

called_take : (n : ℕ) (ws : List ℕ) (t : Text) → is_called ws (take n t) ≡ true → is_called ws t ≡ true
called_take n [] t h = call_take n t h
called_take zero (w ∷ ws) t h = absurd (true≢false (sym h))
called_take (suc n) (w ∷ ws) [] h = h
called_take (suc n) (w ∷ ws) (c ∷ cs) h = both _ _ (and_left (to_ascii_lowercase c == w) _ h) (called_take n ws cs (and_right (to_ascii_lowercase c == w) _ h))

code_take : (n : ℕ) (t : Text) → begins_code (take n t) ≡ true → begins_code t ≡ true
unfolding begins_code
code_take n t h =
    either (is_called (codes "code") (take n t)) (is_called (codes "code-block") (take n t))
    (λ k. or_left _ _ (called_take n (codes "code") t k))
    (λ k. or_right (is_called (codes "code") t) _ (called_take n (codes "code-block") t k))
    h

holds_take : (n : ℕ) (t : Text) → holds_code (take n t) ≡ true → holds_code t ≡ true
holds_take zero t h = absurd (true≢false (sym h))
holds_take (suc n) [] h = h
holds_take (suc n) (c ∷ cs) h =
    either (begins_code (c ∷ take n cs)) (holds_code (take n cs))
    (λ k. or_left _ _ (code_take (suc n) (c ∷ cs) k))
    (λ k. or_right (begins_code (c ∷ cs)) _ (holds_take n cs k))
    h

holds_drop : (n : ℕ) (t : Text) → holds_code (drop n t) ≡ true → holds_code t ≡ true
holds_drop zero t h = h
holds_drop (suc n) [] h = h
holds_drop (suc n) (c ∷ cs) h = or_right (begins_code (c ∷ cs)) _ (holds_drop n cs h)

pub parts_hold : (from count : ℕ) (t : Text) → holds_code (take count (drop from t)) ≡ true → holds_code t ≡ true
parts_hold from count t h = holds_drop from t (holds_take count (drop from t) h)

-- what is left of a text without calls, and a part of one, is without calls
pub drop_free : (n : ℕ) (t : Text) → holds_code t ≡ false → holds_code (drop n t) ≡ false
drop_free n t free = by (holds_code (drop n t)) refl
  where
    by : (b : Bool) → holds_code (drop n t) ≡ b → b ≡ false
    by false e = refl
    by true e = absurd (true≢false (sym (holds_drop n t e) ∙ free))

pub part_free : (from count : ℕ) (t : Text) → holds_code t ≡ false → holds_code (take count (drop from t)) ≡ false
part_free from count t free = by (holds_code (take count (drop from t))) refl
  where
    by : (b : Bool) → holds_code (take count (drop from t)) ≡ b → b ≡ false
    by false e = refl
    by true e = absurd (true≢false (sym (parts_hold from count t e) ∙ free))

-- ---- names before a call

-- a text is the word without regard to case
abbrev IsSame : Text → List ℕ → Bool
IsSame t w = bytes_eq (map to_ascii_lowercase t) w

called_same : (name rest : Text) (w : List ℕ) → IsSame name w ≡ true → begins_call rest ≡ true → is_called w (name ++ rest) ≡ true
called_same [] rest [] h k = k
called_same [] rest (w ∷ ws) h k = absurd (true≢false (sym h))
called_same (c ∷ cs) rest [] h k = absurd (true≢false (sym h))
called_same (c ∷ cs) rest (w ∷ ws) h k = both _ _ (and_left (eqb (to_ascii_lowercase c) w) _ h) (called_same cs rest ws (and_right (eqb (to_ascii_lowercase c) w) _ h) k)

-- a text that begins with a call of program code holds it
code_begun : (t : Text) → begins_code t ≡ true → holds_code t ≡ true
unfolding begins_code
code_begun [] h = absurd (true≢false (sym h))
code_begun (c ∷ cs) h = or_left _ _ h

-- a word that ends in one whose call is one of program code
code_at_end : (p w : List ℕ) → ((t : Text) → is_called w t ≡ true → begins_code t ≡ true) → (name rest : Text) → IsSame name (p ++ w) ≡ true
    → begins_call rest ≡ true → holds_code (name ++ rest) ≡ true
code_at_end [] w code name rest h k = code_begun (name ++ rest) (code (name ++ rest) (called_same name rest w h k))
code_at_end (x ∷ p) w code [] rest h k = absurd (true≢false (sym h))
code_at_end (x ∷ p) w code (c ∷ cs) rest h k = or_right (begins_code (c ∷ (cs ++ rest))) _ (code_at_end p w code cs rest (and_right (eqb (to_ascii_lowercase c) x) _ h) k)

by_code : (t : Text) → is_called (codes "code") t ≡ true → begins_code t ≡ true
unfolding begins_code
by_code t h = or_left _ _ h

by_block : (t : Text) → is_called (codes "code-block") t ≡ true → begins_code t ≡ true
unfolding begins_code
by_block t h = or_right (is_called (codes "code") t) _ h

word_same : (t : Text) (w : List ℕ) → is_word t w ≡ true → IsSame t w ≡ true
unfolding is_word
word_same t w h = h

code_called : (name rest : Text) → is_code name ≡ true → begins_call rest ≡ true → holds_code (name ++ rest) ≡ true
unfolding is_code
code_called name rest h k =
    either (is_word name (codes "code")) _
    (λ e. code_at_end [] (codes "code") by_code name rest (word_same name (codes "code") e) k)
    (λ f. either (is_word name (codes "code-block")) _
    (λ e. code_at_end [] (codes "code-block") by_block name rest (word_same name (codes "code-block") e) k)
    (λ g. either (is_word name (codes "sourcecode")) false
    (λ e. code_at_end (codes "source") (codes "code") by_code name rest (word_same name (codes "sourcecode") e) k)
    (λ e. absurd (true≢false (sym e)))
    g)
    f)
    h

-- ---- directives

-- a directive is called in a line: what follows its name is a call
abbrev pub IsCalledIn : Text → Invocation → Type 0
IsCalledIn t call = (call.name.from ≤ call.name.to) × (begins_call (drop call.name.to t) ≡ true)

-- the name of a directive in a line without calls of program code isn't one of those
other_name : (B : Block) (at : ℕ) (call : Invocation) → IsCalledIn (first_text (drop at B)) call → holds_code (first_text (drop at B)) ≡ false → is_code (name_text B at call) ≡ false
other_name B at call called free = by (is_code (name_text B at call)) refl
  where
    line : Text
    line = first_text (drop at B)

    whole : name_text B at call ++ drop (call.name.to - call.name.from) (drop call.name.from line) ≡ drop call.name.from line
    whole = take-append-drop (call.name.to - call.name.from) (drop call.name.from line)

    after : drop (call.name.to - call.name.from) (drop call.name.from line) ≡ drop call.name.to line
    after = drop-drop (call.name.to - call.name.from) call.name.from line ∙ ap (λ n. drop n line) (omega (arith, called.0))

    by : (b : Bool) → is_code (name_text B at call) ≡ b → b ≡ false
    by false e = refl
    by true e =
        let has_code = code_called (name_text B at call) _ e (ap begins_call after ∙ called.1) in
        absurd (true≢false (sym (holds_drop call.name.from line (ap holds_code (sym whole) ∙ has_code)) ∙ free))

with_and_without : (B : Block) (at : ℕ) (call : Invocation) (place : Place) (paragraph : Bool) → IsCalledIn (first_text (drop at B)) call
    → holds_code (first_text (drop at B)) ≡ false → directive_at true B at call place paragraph ≡ directive_at false B at call place paragraph
with_and_without B at call place paragraph called free =
    ap (λ kind. directive_of kind B at call.block place paragraph) (named_alike _ (name_text B at call) (other_name B at call called free))

-- where no call of program code is in the line, a directive is the same whether there is one for program code
pub directive_alike : (a b : Bool) (B : Block) (at : ℕ) (call : Invocation) (place : Place) (paragraph : Bool) → IsCalledIn (first_text (drop at B)) call
    → holds_code (first_text (drop at B)) ≡ false → directive_at a B at call place paragraph ≡ directive_at b B at call place paragraph
directive_alike true true B at call place paragraph called free = refl
directive_alike true false B at call place paragraph called free = with_and_without B at call place paragraph called free
directive_alike false true B at call place paragraph called free = sym (with_and_without B at call place paragraph called free)
directive_alike false false B at call place paragraph called free = refl
