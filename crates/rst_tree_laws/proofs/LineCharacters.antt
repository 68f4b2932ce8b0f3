-- The characters of lines are those of texts, and texts of these have no line end but LF.
use Rattle.std.proofs.Common.{◌≡◌, ℕ, ◌≤◌, ◌+◌, ◌-◌, ◌%◌, Bool, true, false, List, [], ◌∷◌, length, map, replicate, zero, suc, arith, refl, ap, ◌∙◌}
use Rattle.std.specs.Prelude.{◌&&◌, ◌||◌, ◌==◌, encode_utf8_all, nat_le, not, slice_index_or}
use Rattle.std.specs.Char.{IsScalar}
use Rattle.std.specs.List.{AllByRecursion, list_all, list_any}
use Rattle.std.specs.Str.{all_scalars, is_utf8}
use Rattle.std.proofs.lemmas.Bool.Decides.{nat_tests}
use Rattle.std.proofs.lemmas.Bool.{and_parts, and_from, cond_both, le-leb, not-true, or_parts}
use Rattle.std.proofs.lemmas.Str.{IsUtf8-from_is_utf8, chars-encodes, chars_from_encodes, scalars-chars}
use Rattle.ucd_case.specs.CaseFolding.{simple_folding}
use Rattle.ucd_case.proofs.CaseFoldingLemmas.{simple_folding_stepped}
use Rattle.ucd_table.proofs.Computing.{tables}
use Rattle.ucd_table.proofs.RangedFacts.{Stepped-at_values, values_ok}
use Rattle.rst_settings.specs.declared.Parts.{Parts}
use Rattle.rst_text.specs.Block.{Block}
use Rattle.rst_text.specs.Characters.{Text}
use Rattle.rst_text.specs.Lines.{are_lines, begins_with, expanded, is_line_end, is_line_text, is_tab, line_character, lines_of, numbered_from, padded, pieces, tidied, with_tabs}
use Rattle.rst_text.specs.MayCut.{are_texts, is_text}
use Rattle.rst_tree.specs.declared.node.Node.{Node}
use Rattle.rst_tree.specs.declared.node.Node.TheVariants.{Element, Text as Words}
use Rattle.rst_tree.specs.Forest.{Forest, bare, element, words}
use Rattle.rst_tree.specs.Nodes.{node_height}
use Rattle.rst_tree.specs.Tree.{is_lines, is_sound, is_sound_node, is_tree, most_levels}
use Rattle.rst_tree_laws.specs.Texts.{BlockKept, Kept, NodeHas, Spells, Suits, TextsHave, is_fixed, is_scalar, is_text_character}
use Rattle.rst_tree_laws.proofs.Cuts.{dropped_kept}
use Rattle.rst_tree_laws.proofs.Lists.{all_append, all_map}
use Rattle.rst_tree_laws.proofs.Properties.{Suited, onto_kept, scalars_kept, spelled_suited, split_kept}

-- ---- the test

fixed_is : (c : ℕ) → is_fixed c ≡ true → is_text_character c ≡ true
fixed_is c e = grind (arith, nat_tests)

folded_is : (c : ℕ) (folding : List ℕ) → is_text_character (slice_index_or folding 0 10) ≡ true → is_text_character c ≡ true → is_text_character (slice_index_or folding 0 c) ≡ true
folded_is c [] all own = own
folded_is c (d ∷ ds) all own = all

folds_are : (c : ℕ) → is_text_character (slice_index_or (simple_folding c) 0 10) ≡ true
unfolding tables values_ok simple_folding_stepped
folds_are = Stepped-at_values simple_folding simple_folding_stepped (λ folding. is_text_character (slice_index_or folding 0 10)) refl

scalar_is : (c : ℕ) → is_scalar c ≡ true → IsScalar c
scalar_is c e = grind (arith, nat_tests)

is_scalar_of : (c : ℕ) → IsScalar c → is_scalar c ≡ true
is_scalar_of c e = grind (arith, nat_tests)

pub text_suits : Suits is_text_character
text_suits = record {
  fixed = fixed_is;
  folds = λ c own. folded_is c (simple_folding c) (folds_are c) own;
  scalar = λ c own. scalar_is c (and_parts (is_scalar c) _ own).0;
}

pub text_suited : Suited is_text_character (Spells is_text_character)
text_suited = spelled_suited is_text_character text_suits

-- ---- what has no line end

lines_sound : (f : Forest) → TextsHave (λ t. is_lines t ≡ true) f → is_sound f ≡ true
lines_sound bare h = refl
lines_sound (element t a c l r) h = and_from (is_sound c) _ (lines_sound c h.1) (lines_sound r h.2)
lines_sound (words t r) h = and_from (is_lines t) _ h.0 (lines_sound r h.1)

node_sound : (n : Node) → NodeHas (λ t. is_lines t ≡ true) n → is_sound_node n ≡ true
node_sound (Element t a c l) h = lines_sound c h.1
node_sound (Words t) h = h

-- nodes that don't nest too deep, with such texts, are a tree
pub lines_tree : (n : Node) → node_height n ≤ most_levels → NodeHas (λ t. is_lines t ≡ true) n → is_tree n ≡ true
lines_tree n low h = and_from (nat_le (node_height n) most_levels) _ (le-leb (node_height n) most_levels low) (node_sound n h)

ends_none : (cs : Text) → Kept is_text_character cs → list_all (λ c. (c == 10) || not (is_line_end c)) cs ≡ true
ends_none [] h = refl
ends_none (c ∷ cs) h = and_from _ _ (and_parts (is_scalar c) _ h.0).1 (ends_none cs h.1)

pub spelled_lines : (t : List ℕ) → Spells is_text_character t → is_lines t ≡ true
spelled_lines t (cs, e, h) = rw (e, chars-encodes cs (scalars_kept is_text_character text_suits cs h)) (ends_none cs h)

-- ---- lines

unended : (b ends : Bool) → ends ≡ false → (b || not ends) ≡ true
unended true ends e = refl
unended false ends e = rw e refl

pieces_kept : (cs : Text) → all_scalars cs ≡ true → AllByRecursion (Kept is_text_character) (pieces cs)
pieces_kept [] e = tt
pieces_kept (c ∷ cs) e =
    let both = and_parts _ _ e in
    let others = pieces_kept cs both.1 in
    cond_both ((c == 13) && begins_with 10 cs) _ _ (AllByRecursion (Kept is_text_character)) (λ _. others)
    (λ _. cond_both (is_line_end c) _ _ (AllByRecursion (Kept is_text_character)) (λ _. (tt, others)) (λ ends. onto_kept is_text_character c (pieces cs) (and_from _ _ (is_scalar_of c both.0) (unended (c == 10) (is_line_end c) ends)) others))

shown_kept : (c : ℕ) → is_text_character c ≡ true → is_text_character (line_character c) ≡ true
shown_kept c h = cond_both ((c == 11) || (c == 12)) 32 c (λ d. is_text_character d ≡ true) (λ _. refl) (λ _. h)

spaces_kept : (n : ℕ) → Kept is_text_character (replicate n 32)
spaces_kept zero = tt
spaces_kept (suc n) = (refl, spaces_kept n)

tabs_kept : (tab : ℕ) (parts : List Text) → AllByRecursion (Kept is_text_character) parts → Kept is_text_character (with_tabs tab parts)
tabs_kept tab [] h = tt
tabs_kept tab (part ∷ []) h = h.0
tabs_kept tab (part ∷ next ∷ parts) h =
    all_append _ (padded tab part) _ (all_append _ part _ h.0 (spaces_kept (tab - length part % tab))) (tabs_kept tab (next ∷ parts) h.1)

tidied_kept : (tab : ℕ) (piece : Text) → Kept is_text_character piece → Kept is_text_character (tidied tab piece)
unfolding expanded
tidied_kept tab piece h =
    dropped_kept is_text_character _ (tabs_kept tab _ (split_kept is_text_character is_tab (map line_character piece) (all_map _ _ line_character shown_kept piece h)))

numbered_kept : (parts : Parts) (n : ℕ) (texts : List Text) → AllByRecursion (Kept is_text_character) texts → BlockKept is_text_character (numbered_from parts n texts)
numbered_kept parts n [] h = tt
numbered_kept parts n (text ∷ texts) h = (h.0, numbered_kept parts (n + 1) texts h.1)

pub lines_kept : (parts : Parts) (tab : ℕ) (text : Text) → all_scalars text ≡ true → BlockKept is_text_character (lines_of parts tab text)
lines_kept parts tab text e = numbered_kept parts 1 _ (all_map _ _ (tidied tab) (tidied_kept tab) (pieces text) (pieces_kept text e))

-- what is known of the lines of any text
pub texts_kept : (B : Block) → are_lines B ≡ true → are_texts B ≡ true → BlockKept is_text_character B
unfolding is_line_text
texts_kept [] h t = tt
texts_kept (l ∷ ls) h t =
    let line = and_parts (is_line_text l.text) (are_lines ls) h in
    let text = and_parts (is_text l.text) (are_texts ls) t in
    let utf8 = IsUtf8-from_is_utf8 (encode_utf8_all l.text) (and_parts (is_utf8 (encode_utf8_all l.text)) _ text.0).0 in
    let scalars : all_scalars l.text ≡ true = ap all_scalars (chars_from_encodes l.text (encode_utf8_all l.text) utf8 refl) ∙ scalars-chars (encode_utf8_all l.text) utf8 in
    (text_kept l.text scalars (not-true _ (and_parts (not (list_any is_line_end l.text)) _ line.0).0), texts_kept ls line.1 text.1)
  where
    text_kept : (cs : Text) → all_scalars cs ≡ true → list_any is_line_end cs ≡ false → Kept is_text_character cs
    text_kept [] e ends = tt
    text_kept (c ∷ cs) e ends =
        let own = and_parts _ (all_scalars cs) e in
        let none = or_parts (is_line_end c) (list_any is_line_end cs) ends in
        (and_from _ _ (is_scalar_of c own.0) (unended (c == 10) (is_line_end c) none.0), text_kept cs own.1 none.1)
