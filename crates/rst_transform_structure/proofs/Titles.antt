-- Lone sections, and the names that move with their titles.
use Rattle.std.proofs.Common.{◌≡◌, ◌∙◌, ℕ, ◌+◌, ◌-◌, ◌<◌, List, [], ◌∷◌, ◌++◌, length, get_or, take, slice_get, true, false, Some, None, refl, ap, ap₂, sym, subst, arith, IfOk}
use Rattle.std.proofs.lemmas.Bool.{cond_both}
use Rattle.std.specs.Prelude.{Result, Ok, Err}
use Rattle.std.specs.List.{list_all}
use Rattle.std.proofs.lemmas.List.{length-append, map-append, take_more}
use Rattle.std.proofs.lemmas.Option.{slice_get-get_or}
use Rattle.std.proofs.Math.Seq.{get_or-append_seam, take-append_seam}
use Rattle.rst_transform_names.specs.Names.{entry_named, with_holder, Knows}
use Rattle.rst_transform_names.specs.declared.names.Names.{Names}
use Rattle.rst_transform_names.specs.declared.names.Holder.TheVariants.{Unregistered}
use Rattle.rst_tree.proofs.Changes.{nodes_of-forest_of}
use Rattle.std.specs.declared.alloc.AllocError.{AllocError}
use Rattle.rst_tree.specs.declared.key.Key.TheVariants.{Names as OfNames}
use Rattle.rst_tree.specs.declared.node.Node.{Node}
use Rattle.rst_tree.specs.Forest.{Forest}
use Rattle.rst_tree.specs.Nodes.{forest_of, nodes_of}
use Rattle.rst_transform_structure.specs.declared.title.Section.{Section}
use Rattle.rst_transform_work.specs.Lists.{listed_texts}
use Rattle.rst_transform_structure.specs.Title.{lone_section, section_after, section_in, subtitle_names, title_names, with_before}
use Rattle.rst_transform_structure.specs.Passing.{paired_with_number, Passes}
use Rattle.rst_transform_structure.proofs.Passing.{Passes-more, Passes-then}
use Rattle.rst_transform_work.specs.Reading.{may_precede}

-- nodes that end in this one
last_is_lone : (nodes : Forest) (items xs : List Node) (n : Node) → nodes ≡ forest_of items → items ≡ xs ++ n ∷ [] → lone_section nodes ≡ section_after xs (Some n)
last_is_lone nodes items xs n e f =
    let all : nodes_of nodes ≡ xs ++ n ∷ [] = ap nodes_of e ∙ nodes_of-forest_of items ∙ f in
    let place : length (nodes_of nodes) - 1 ≡ length xs = let k = ap length all ∙ length-append xs (n ∷ []) in omega (arith, k) in
    let last : slice_get (xs ++ n ∷ []) (length xs) ≡ Some n =
    slice_get-get_or (xs ++ n ∷ []) (length xs) n (let k = length-append xs (n ∷ []) in omega (arith, k)) ∙ ap Some (get_or-append_seam xs n [] n) in
    ap₂ (λ ys k. section_after (take k ys) (slice_get ys k)) all place ∙ ap₂ section_after (take-append_seam xs (n ∷ [])) last

-- what their lone section is
pub passed : (nodes : Forest) (items xs : List Node) (n : Node) (s made : Section) → nodes ≡ forest_of items → items ≡ xs ++ n ∷ [] → list_all may_precede xs ≡ true → section_in n ≡ Some s
    → made ≡ with_before xs s → lone_section nodes ≡ Some made
passed nodes items xs n s made e f all is m = last_is_lone nodes items xs n e f ∙ (rw (all, is) (ap Some (sym m)))

pub not_passed : (nodes : Forest) (items xs : List Node) (n : Node) → nodes ≡ forest_of items → items ≡ xs ++ n ∷ [] → list_all may_precede xs ≡ false → lone_section nodes ≡ None
not_passed nodes items xs n e f all = last_is_lone nodes items xs n e f ∙ (rw all refl)

pub no_section : (nodes : Forest) (items xs : List Node) (n : Node) → nodes ≡ forest_of items → items ≡ xs ++ n ∷ [] → section_in n ≡ None → lone_section nodes ≡ None
no_section nodes items xs n e f is = last_is_lone nodes items xs n e f ∙ (rw is (cond_both (list_all may_precede xs) _ _ (λ o. o ≡ None) (λ _. refl) (λ _. refl)))

-- the nodes as they were, once the last is put back
pub put_back : (nodes back : Forest) (items pushed xs : List Node) (n m : Node) → nodes ≡ forest_of items → items ≡ xs ++ n ∷ [] → m ≡ n → pushed ≡ xs ++ m ∷ [] → back ≡ forest_of pushed → back ≡ nodes
put_back nodes back items pushed xs n m e f is p b = b ∙ ap forest_of (p ∙ ap (λ z. xs ++ z ∷ []) is ∙ sym f) ∙ sym e

-- the names of a section move, and then those of the section in it
pub title_moves : (nodes : Forest) (s : Section) (a b c : Names) → lone_section nodes ≡ Some s → Passes (paired_with_number None (listed_texts OfNames s.attrs)) a b
    → Passes (paired_with_number None (subtitle_names (lone_section s.body))) b c → Passes (paired_with_number None (title_names (lone_section nodes))) a c
title_moves nodes s a b c is h k =
    let both = Passes-then (paired_with_number None (listed_texts OfNames s.attrs)) (paired_with_number None (subtitle_names (lone_section s.body))) a b c h k in
    subst (λ o. Passes (paired_with_number None (title_names o)) a c) (sym is)
    (subst (λ names. Passes names a c) (sym (map-append (λ name. (name, None)) (listed_texts OfNames s.attrs) (subtitle_names (lone_section s.body)))) both)

-- what holds anyway holds if the call gives a value
pub anyway : {A : Type 0} (P : Type 0) (r : Result A AllocError) → P → IfOk r (λ _. P)
anyway P (Ok done) p = p
anyway P (Err refused) p = tt

-- one more name moves
pub Moves-more : (xs : List (List ℕ)) (i : ℕ) (x y : List ℕ) (a b c : Names) → i < length xs → x ≡ get_or xs i x → y ≡ x → Passes (paired_with_number None (take i xs)) a b
    → Knows y (with_holder Unregistered (entry_named b y)) b c → Passes (paired_with_number None (take (i + 1) xs)) a c
Moves-more xs i x y a b c fits at is h k =
    let more : paired_with_number None (take i xs) ++ (x, None) ∷ [] ≡ paired_with_number None (take (i + 1) xs) =
    sym (map-append (λ name. (name, None)) (take i xs) (x ∷ [])) ∙ ap (λ z. paired_with_number None (take i xs ++ z ∷ [])) at ∙ ap (paired_with_number None) (sym (take_more xs i x fits)) in
    subst (λ names. Passes names a c) more (Passes-more (paired_with_number None (take i xs)) (x, None) y Unregistered a b c h is refl k)
