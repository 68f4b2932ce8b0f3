-- Tabs that are expanded one character at a time.
use Rattle.std.proofs.Common.{◌≡◌, ℕ, ◌+◌, ◌-◌, ◌%◌, ◌<◌, ◌==◌, Bool, true, false, cond, if◌then◌else◌, ◌||◌, List, [], ◌∷◌, ◌++◌, length, map, replicate, refl, sym, ap, ◌∙◌, arith, append_assoc, append-nil, length-append, mod-lt}
use Rattle.std.specs.List.{onto_first, slice_split}
use Rattle.std.proofs.Math.Nat.{mod-add-mod, mod_self, zero-mod}
use Rattle.std.proofs.lemmas.Bool.{eqb-true}
use Rattle.rst_text.specs.Lines.{line_character, is_tab, with_tabs, expanded}

-- what the characters that are left become: the column counts the characters before
abbrev pub expanded_from : ℕ → ℕ → List ℕ → List ℕ
expanded_from tab column [] = []
expanded_from tab column (c ∷ cs) =
    if c == 9 then replicate (tab - column % tab) 32 ++ expanded_from tab (column + (tab - column % tab)) cs
    else (line_character c ∷ expanded_from tab (column + 1) cs)

-- a test that doesn't distinguish form feed and vertical tab from a space
pub line_character-keeps : (p : ℕ → Bool) (c : ℕ) → p 11 ≡ p 32 → p 12 ≡ p 32 → p (line_character c) ≡ p c
line_character-keeps p c e f = by (c == 11) (c == 12) (eqb-true c 11) (eqb-true c 12)
  where
    by : (a b : Bool) → (a ≡ true → c ≡ 11) → (b ≡ true → c ≡ 12) → p (cond (a || b) 32 c) ≡ p c
    by true b x y = sym (ap p (x refl) ∙ e)
    by false true x y = sym (ap p (y refl) ∙ f)
    by false false x y = refl

tab-line_character : (c : ℕ) → is_tab (line_character c) ≡ (c == 9)
tab-line_character c = line_character-keeps is_tab c refl refl

-- the parts that are left, the first after the characters of it that were read
abbrev after_part : List ℕ → List (List ℕ) → List (List ℕ)
after_part part [] = part ∷ []
after_part part (first ∷ others) = (part ++ first) ∷ others

abbrev parts_of : List ℕ → List (List ℕ)
parts_of cs = slice_split is_tab (map line_character cs)

abbrev IsSome : List (List ℕ) → Type 0
IsSome parts = (first : List ℕ) × (others : List (List ℕ)) × (parts ≡ first ∷ others)

some_parts : (cs : List ℕ) → IsSome (parts_of cs)
some_parts [] = ([], [], refl)
some_parts (c ∷ cs) = by (is_tab (line_character c)) (some_parts cs)
  where
    by : (b : Bool) → IsSome (parts_of cs) → IsSome (cond b ([] ∷ parts_of cs) (onto_first (line_character c) (parts_of cs)))
    by true x = ([], parts_of cs, refl)
    by false x = (line_character c ∷ x.0, x.1, ap (onto_first (line_character c)) x.2)

after_part-nothing : (parts : List (List ℕ)) → IsSome parts → after_part [] parts ≡ parts
after_part-nothing parts x = ap (after_part []) x.2 ∙ sym x.2

after_part-onto : (part : List ℕ) (c : ℕ) (parts : List (List ℕ)) → IsSome parts → after_part part (onto_first c parts) ≡ after_part (part ++ c ∷ []) parts
after_part-onto part c parts x =
    ap (λ ps. after_part part (onto_first c ps)) x.2 ∙ ap (λ l. l ∷ x.1) (sym (append_assoc part (c ∷ []) x.0)) ∙ sym (ap (after_part (part ++ c ∷ [])) x.2)

-- a part that a tab ends
with-tab : (tab : ℕ) (part : List ℕ) (parts : List (List ℕ)) → IsSome parts → with_tabs tab (after_part part ([] ∷ parts)) ≡ part ++ (replicate (tab - length part % tab) 32 ++ with_tabs tab parts)
with-tab tab part parts x =
    ap (λ l. with_tabs tab (l ∷ parts)) (append-nil part)
    ∙ ap (λ ps. with_tabs tab (part ∷ ps)) x.2
    ∙ append_assoc part (replicate (tab - length part % tab) 32) (with_tabs tab (x.0 ∷ x.1))
    ∙ sym (ap (λ ps. part ++ (replicate (tab - length part % tab) 32 ++ with_tabs tab ps)) x.2)

next_column : (tab column n : ℕ) → column % tab ≡ n % tab → (column + 1) % tab ≡ (n + 1) % tab
next_column tab column n e = sym (mod-add-mod column tab 1) ∙ ap (λ k. (k + 1) % tab) e ∙ mod-add-mod n tab 1

tab_column : (tab column : ℕ) → 0 < tab → (column + (tab - column % tab)) % tab ≡ 0 % tab
tab_column tab column wide =
    let whole : column % tab + (tab - column % tab) ≡ tab = omega (arith, mod-lt column wide) in
    sym (mod-add-mod column tab (tab - column % tab)) ∙ ap (λ k. k % tab) whole ∙ mod_self tab ∙ sym (zero-mod tab)

expanded-on : (tab column : ℕ) (part cs : List ℕ) → 0 < tab → column % tab ≡ length part % tab → part ++ expanded_from tab column cs ≡ with_tabs tab (after_part part (parts_of cs))
expanded-on tab column part [] wide e = refl
expanded-on tab column part (c ∷ cs) wide e =
    by (c == 9) (tab-line_character c)
    (expanded-on tab (column + (tab - column % tab)) [] cs wide (tab_column tab column wide))
    (expanded-on tab (column + 1) (part ++ line_character c ∷ []) cs wide (next_column tab column (length part) e ∙ ap (λ n. n % tab) (sym (length-append part (line_character c ∷ [])))))
  where
    by : (b : Bool) → is_tab (line_character c) ≡ b
        → expanded_from tab (column + (tab - column % tab)) cs ≡ with_tabs tab (after_part [] (parts_of cs))
        → (part ++ line_character c ∷ []) ++ expanded_from tab (column + 1) cs ≡ with_tabs tab (after_part (part ++ line_character c ∷ []) (parts_of cs))
        → part ++ cond b (replicate (tab - column % tab) 32 ++ expanded_from tab (column + (tab - column % tab)) cs) (line_character c ∷ expanded_from tab (column + 1) cs)
        ≡ with_tabs tab (after_part part (cond (is_tab (line_character c)) ([] ∷ parts_of cs) (onto_first (line_character c) (parts_of cs))))
    by true t f g =
        ap (λ l. part ++ (replicate (tab - column % tab) 32 ++ l)) (f ∙ ap (with_tabs tab) (after_part-nothing (parts_of cs) (some_parts cs)))
        ∙ ap (λ n. part ++ (replicate (tab - n) 32 ++ with_tabs tab (parts_of cs))) e
        ∙ sym (with-tab tab part (parts_of cs) (some_parts cs))
        ∙ sym (ap (λ x. with_tabs tab (after_part part (cond x ([] ∷ parts_of cs) (onto_first (line_character c) (parts_of cs))))) t)
    by false t f g =
        sym (append_assoc part (line_character c ∷ []) (expanded_from tab (column + 1) cs)) ∙ g
        ∙ sym (ap (with_tabs tab) (after_part-onto part (line_character c) (parts_of cs) (some_parts cs)))
        ∙ sym (ap (λ x. with_tabs tab (after_part part (cond x ([] ∷ parts_of cs) (onto_first (line_character c) (parts_of cs))))) t)

-- One pass over a piece expands its tabs.
pub expanded_from-start : (tab : ℕ) (cs : List ℕ) → 0 < tab → expanded_from tab 0 cs ≡ expanded tab cs
unfolding expanded
expanded_from-start tab cs wide = expanded-on tab 0 [] cs wide refl ∙ ap (with_tabs tab) (after_part-nothing (parts_of cs) (some_parts cs))
