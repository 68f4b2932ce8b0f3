-- Tables of words, and what is looked up in them.
use Rattle.std.proofs.Common.{◌≡◌, Bool, true, false, cond, List, [], ◌∷◌, ◌++◌, map, drop, find, Option, Some, None, option_map, option_and_then, refl, ap, arith, rules, ◌∙◌, sym}
use Rattle.std.specs.List.{list_any, AllByRecursion}
use Rattle.std.proofs.lemmas.Bool.{cond_both}
use Rattle.rst_settings.specs.declared.Parts.{Parts}
use Rattle.rst_markup_directives.specs.Characters.{Text, lookup, is_word}
use Rattle.rst_markup_directives.specs.Kind.{code_names, directives, directive_named, PartKind, if_on, is_code, is_on}

-- a text that is none of some words is looked up in what follows them
lookup-after : {A : Type 0} (passes : Text → Bool) (x : A) (ws : List Text) (rest : List (Text × A)) → list_any passes ws ≡ false → lookup passes (map (λ w. (w, x)) ws ++ rest) ≡ lookup passes rest
lookup-after passes x [] rest h = refl
lookup-after passes x (w ∷ ws) rest h = grind (arith, lookup-after passes x ws rest)

abbrev Row : Type 0
Row = Text × PartKind

-- the part of a directive is on or off, whether or not the directive for program code is one
abbrev IsAlike : Parts → Row → Type 0
IsAlike parts row = is_on parts true row.1.0 ≡ is_on parts false row.1.0

alike : (parts : Parts) (passes : Text → Bool) (rows : List Row) → AllByRecursion (IsAlike parts) rows → option_and_then (if_on parts true) (lookup passes rows) ≡ option_and_then (if_on parts false) (lookup passes rows)
alike parts passes [] h = refl
alike parts passes (x ∷ xs) h =
    cond_both (passes x.0) (Some x) (find (λ entry. passes entry.0) xs) (λ (o : Option Row). option_and_then (if_on parts true) (option_map (λ entry. entry.1) o) ≡ option_and_then (if_on parts false) (option_map (λ entry. entry.1) o))
    (λ e. ap (λ b. cond b (Some x.1.1) None) h.0) (λ e. alike parts passes xs h.1)

-- a text that doesn't name the directive for program code names the same with it and without it
pub named_alike : (parts : Parts) (t : Text) → is_code t ≡ false → directive_named parts t true ≡ directive_named parts t false
unfolding is_code directive_named
named_alike parts t h =
    let others = lookup-after (is_word t) _ code_names (drop 3 directives) h in
    ap (option_and_then (if_on parts true)) others ∙ alike parts (is_word t) (drop 3 directives) (search rules) ∙ ap (option_and_then (if_on parts false)) (sym others)
