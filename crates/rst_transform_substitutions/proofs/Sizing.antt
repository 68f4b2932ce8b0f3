-- What nodes come to, by the sizes of the definitions that their references find.
use Rattle.std.proofs.Common.{◌≡◌, ℕ, zero, suc, ◌+◌, ◌-◌, ◌^◌, ◌<◌, ◌≤◌, ◌++◌, ◌==◌, ◌∙◌, List, [], ◌∷◌, true, false, drop, get_or, length, length-append, min, max, refl, sym, subst, ap, arith}
use Rattle.std.specs.Prelude.{if◌then◌else◌, is_some, slice_get, Option, Some, None, Result, Ok, Err}
use Rattle.std.specs.List.{list_all}
use Rattle.std.proofs.lemmas.Bool.{and_parts, leb-true, ne_eqb}
use Rattle.std.proofs.lemmas.List.{drop_more}
use Rattle.std.proofs.lemmas.List.Folds.{list_any-append}
use Rattle.rst_tree.specs.declared.attrs.Attr.{Attr}
use Rattle.rst_tree.specs.declared.node.Node.{Node}
use Rattle.rst_tree.specs.declared.node.Node.TheVariants.{Element}
use Rattle.rst_tree.specs.declared.tag.Tag.{Tag}
use Rattle.rst_tree.specs.Forest.{Forest, element}
use Rattle.rst_tree.specs.Nodes.{forest_of, join_node, nodes_of}
use Rattle.rst_tree_index.specs.Kinds.{is_substitution_reference}
use Rattle.rst_transform_work.specs.Lists.{at_place}
use Rattle.rst_transform_substitutions.specs.declared.definitions.Definitions.{Definitions}
use Rattle.rst_transform_substitutions.specs.declared.expansion.ExpansionFault.{ExpansionFault}
use Rattle.rst_transform_substitutions.specs.declared.expansion.ExpansionFault.TheVariants.{TooLarge}
use Rattle.rst_transform_substitutions.specs.declared.sizes.Measured.{Measured}
use Rattle.rst_transform_substitutions.specs.declared.sizes.Size.{Size}
use Rattle.rst_transform_substitutions.specs.Definitions.{found_by, known_found}
use Rattle.rst_transform_substitutions.specs.Expansion.{after_nodes, element_around, expanded_copies, given, given_within, most_nested, most_visited, refname_of, remaining_visits, then_expanded, visiting, Expansion}
use Rattle.rst_transform_substitutions.specs.Sizes.{and_then, content_last, is_above, takes, AreAbove, AreSized, Ends, GivesCopy, IsSizeOfReference}
use Rattle.rst_transform_substitutions.proofs.Expanding.{entered_within, found-some, too_deep_within}

-- what may still be visited after nodes
abbrev pub remaining : (List ℕ → ℕ → Expansion) → Forest → ℕ → Result ℕ ExpansionFault
remaining given nodes left = remaining_visits (expanded_copies given nodes left)

left_after_nodes : (nodes : List Node) (e : Expansion) → remaining_visits (after_nodes nodes e) ≡ remaining_visits e
left_after_nodes nodes (Ok done) = refl
left_after_nodes nodes (Err fault) = refl

pub left_inside : (t : Tag) (a : List Attr) (l : ℕ) (e : Expansion) → remaining_visits (element_around t a l e) ≡ remaining_visits e
left_inside t a l (Ok done) = refl
left_inside t a l (Err fault) = refl

left_then : (e : Expansion) (rest : ℕ → Expansion) → remaining_visits (then_expanded e rest) ≡ and_then (remaining_visits e) (λ left. remaining_visits (rest left))
left_then (Ok done) rest = left_after_nodes done.0 (rest done.1)
left_then (Err fault) rest = refl

and_then_all : (r : Result ℕ ExpansionFault) (f g : ℕ → Result ℕ ExpansionFault) → and_then r (λ m. and_then (f m) g) ≡ and_then (and_then r f) g
and_then_all (Ok left) f g = refl
and_then_all (Err fault) f g = refl

pub and_then_ok : (r : Result ℕ ExpansionFault) → and_then r (λ left. Ok left) ≡ r
and_then_ok (Ok left) = refl
and_then_ok (Err fault) = refl

-- one thing more is visited, and then the rest
visited_more : (s t : Size) (k more left : ℕ) (wanted : ℕ → Result ℕ ExpansionFault) (rest : ℕ → Expansion) → ((m : ℕ) → remaining_visits (rest m) ≡ wanted m) → left ≤ most_visited → t.visited ≡ min (s.visited + k) (2 ^ 64 - 1) → t.nested ≡ s.nested
    → and_then (takes s more left) (λ m. remaining_visits (visiting k m rest)) ≡ and_then (takes t more left) wanted
visited_more s t k more left wanted rest is small visited nested = grind arith

taken : (s : Size) (more left m : ℕ) → takes s more left ≡ Ok m → m ≤ left
taken s more left m is = grind arith

-- two sizes after one another
takes_both : (a b t : Size) (more left : ℕ) → left ≤ most_visited → t.visited ≡ min (a.visited + b.visited) (2 ^ 64 - 1) → t.nested ≡ max a.nested b.nested → and_then (takes a more left) (takes b more) ≡ takes t more left
takes_both a b t more left small visited nested = grind arith

-- a size, and then something that comes to another
pub takes_then : (a b t : Size) (more left : ℕ) (here : ℕ → Result ℕ ExpansionFault) → ((m : ℕ) → m ≤ most_visited → here m ≡ takes b more m) → left ≤ most_visited → t.visited ≡ min (a.visited + b.visited) (2 ^ 64 - 1) → t.nested ≡ max a.nested b.nested → and_then (takes a more left) here ≡ takes t more left
takes_then a b t more left here is small visited nested = (elim (takes a more left) as (λ r. takes a more left ≡ r → and_then r here ≡ and_then r (takes b more)) [
  | Ok m ↦ λ e. is m (omega (arith, small, taken a more left m e))
  | Err fault ↦ λ e. refl
]) refl ∙ takes_both a b t more left small visited nested

-- nothing before nodes
starts : (more left : ℕ) (f : ℕ → Result ℕ ExpansionFault) → and_then (takes (record { visited = 0; nested = 0 }) more left) f ≡ f left
starts more left f = grind arith

pub takes_ok : (s : Size) (more left : ℕ) → s.nested ≤ more → s.visited ≤ left → takes s more left ≡ Ok (left - s.visited)
takes_ok s more left deep fits = grind arith

pub takes_deep : (s : Size) (more left : ℕ) → more < s.nested → takes s more left ≡ Err TooLarge
takes_deep s more left deep = grind arith

pub takes_large : (s : Size) (more left : ℕ) → left < s.visited → takes s more left ≡ Err TooLarge
takes_large s more left large = grind arith

takes_deeper : (s : Size) (more left : ℕ) → takes s more left ≡ takes (record { visited = s.visited; nested = s.nested + 1 }) (suc more) left
takes_deeper s more left = grind arith

-- the nodes from an element on
pub element_first : (node : Node) (t : Tag) (a : List Attr) (c : Forest) (l : ℕ) (ns : List Node) (i : ℕ) → node ≡ Element t a c l → node ≡ get_or ns i node → i < length ns → forest_of (drop i ns) ≡ element t a c l (forest_of (drop (i + 1) ns))
element_first node t a c l ns i is at within = ap forest_of (drop_more ns i node within) ∙ ap (λ n. join_node n (forest_of (drop (i + 1) ns))) (sym at ∙ is)

-- an element, by what is in it or replaces it, and the nodes after it
pub element_counted : (given : List ℕ → ℕ → Expansion) (more left : ℕ) (s u : Size) (t : Tag) (a : List Attr) (c r : Forest) (l : ℕ) (here : ℕ → Result ℕ ExpansionFault)
    → ((m : ℕ) → remaining_visits (if is_substitution_reference t then given (refname_of a) m else element_around t a l (expanded_copies given c m)) ≡ here m) → left ≤ most_visited → u.visited ≡ min (s.visited + 1) (2 ^ 64 - 1) → u.nested ≡ s.nested
    → and_then (takes s more left) (remaining given (element t a c l r)) ≡ and_then (and_then (takes u more left) here) (remaining given r)
element_counted given more left s u t a c r l here is small visited nested =
    visited_more s u 1 more left (λ m. and_then (here m) (remaining given r)) (λ m. then_expanded (if is_substitution_reference t then given (refname_of a) m else element_around t a l (expanded_copies given c m)) (λ k. expanded_copies given r k))
    (λ m. left_then _ (λ k. expanded_copies given r k) ∙ ap (λ v. and_then v (remaining given r)) (is m)) small visited nested
    ∙ and_then_all (takes u more left) here (remaining given r)

-- how nodes end
pub ends_none : (stuck : Option (List ℕ)) (given : List ℕ → ℕ → Expansion) (sized all : Result ℕ ExpansionFault) → is_some stuck ≡ false → Ends stuck given sized all → all ≡ sized
ends_none None given sized all none ends = ends
ends_none (Some name) given sized all none ends = absurd (cc)

pub ends_some : (stuck : Option (List ℕ)) (given : List ℕ → ℕ → Expansion) (sized inner all : Result ℕ ExpansionFault) (rest : ℕ → Result ℕ ExpansionFault) → is_some stuck ≡ true → all ≡ and_then inner rest → Ends stuck given sized inner → Ends stuck given sized all
ends_some None given sized inner all rest some is ends = absurd (cc)
ends_some (Some name) given sized inner all rest some is ends = λ fault fails. is ∙ ap (λ v. and_then v rest) (ends fault fails)

pub ends_failing : (stuck : Option (List ℕ)) (given : List ℕ → ℕ → Expansion) (sized all : Result ℕ ExpansionFault) (fault : ExpansionFault) → sized ≡ Err fault → Ends stuck given sized all → all ≡ Err fault
ends_failing None given sized all fault is ends = ends ∙ is
ends_failing (Some name) given sized all fault is ends = ends fault (ap (λ v. and_then v (λ left. remaining_visits (given name left))) is)

-- definitions above another
above_checked : (measured : List (Option Measured)) (n : ℕ) (path : List ℕ) → list_all (is_above measured n) path ≡ true → AreAbove measured n path
above_checked measured n [] all = λ p one there whole low. refl
above_checked measured n (first ∷ path) all = λ p one there whole low.
    let parts = and_parts (is_above measured n first) (list_all (is_above measured n) path) all in
    rw (ne_eqb first p (λ same.
    let own : is_above measured n p ≡ true = subst (λ q. is_above measured n q ≡ true) same parts.0 in
    let high = leb-true n one.size.nested (rw (there, whole) at own) in
    absurd (omega (arith, high, low)))) (above_checked measured n path parts.1 p one there whole low)

above_more : (measured : List (Option Measured)) (place : ℕ) (one : Measured) (path : List ℕ) → at_place measured place ≡ Some one → AreAbove measured (one.size.nested + 1) path → AreAbove measured one.size.nested (path ++ place ∷ [])
above_more measured place one path there above = λ p other at whole low.
    let apart = ne_eqb place p (λ same.
    let equal : one ≡ other = let here = subst (λ q. at_place measured q ≡ Some other) (sym same) at in cc in
    absurd (omega (arith, low, ap (λ (m : Measured). m.size.nested) equal))) in
    list_any-append (λ entered. entered == p) path (place ∷ []) ∙ rw (above p other at whole (omega (arith, low)), apart) refl

-- a reference to a definition that is known to be replaced
pub reference_takes : (known : Definitions) (name : List ℕ) (place : ℕ) (one : Measured) → AreSized known → known_found known name ≡ Some place → at_place known.measured.items place ≡ Some one → one.stuck ≡ None
    → IsSizeOfReference known name (record { visited = one.size.visited; nested = one.size.nested + 1 })
reference_takes known name place one sized finds there whole zero left path above small =
    let it = sized place one there in
    ap remaining_visits (too_deep_within (found_by known) path name left (place, it.0) (found-some known name place it.0 finds it.1) (above place one there whole (omega arith)))
    ∙ sym (takes_deep (record { visited = one.size.visited; nested = one.size.nested + 1 }) zero left (omega arith))
reference_takes known name place one sized finds there whole (suc more) left path above small =
    let it = sized place one there in
    let inside = sym (starts more left (remaining (given_within (found_by known) more (path ++ place ∷ [])) it.0))
    ∙ ends_none one.stuck _ _ _ (rw whole refl) (it.2.0 more left (path ++ place ∷ []) (above_more known.measured.items place one path there above) small) in
    ap remaining_visits (entered_within (found_by known) more path name left (place, it.0) (found-some known name place it.0 finds it.1) (above place one there whole (omega arith)))
    ∙ inside ∙ takes_deeper one.size more left

-- the nodes of the definition that was gone into last
pub last_ends : (known : Definitions) (path : List ℕ) (place : ℕ) (one : Measured) (left : ℕ) → AreSized known → slice_get path (length path - 1) ≡ Some place → at_place known.measured.items place ≡ Some one → list_all (is_above known.measured.items one.size.nested) path ≡ true → left ≤ most_visited
    → Ends one.stuck (given (found_by known) path) (takes one.size (most_nested - length path) left) (remaining (given (found_by known) path) (content_last known path) left)
    × ((nodes : Forest) → one.copy ≡ Some nodes → GivesCopy nodes (expanded_copies (given (found_by known) path) (content_last known path) left))
last_ends known path place one left sized last there above small =
    let it = sized place one there in
    let content_is : content_last known path ≡ it.0 = rw (last, it.1) refl in
    rw (content_is) (
      rw (starts (most_nested - length path) left (remaining (given (found_by known) path) it.0)) at (it.2.0 (most_nested - length path) left path (above_checked known.measured.items one.size.nested path above) small),
      λ nodes is. it.2.1 nodes is (most_nested - length path) left path,
    )

pub fault_is : (e : Expansion) (fault : ExpansionFault) → remaining_visits e ≡ Err fault → e ≡ Err fault
fault_is (Ok done) fault is = absurd (cc)
fault_is (Err other) fault is = let same : other ≡ fault = cc in rw same refl

pub copy_is : (e : Expansion) (nodes : Forest) (n : ℕ) → GivesCopy nodes e → remaining_visits e ≡ Ok n → e ≡ Ok (nodes_of nodes, n)
copy_is (Ok done) nodes n gives is =
    let here : done.1 ≡ n = cc in
    let made : List Node → ℕ → Expansion = λ nodes left. Ok (nodes, left) in
    ap (λ (nodes : List Node). made nodes done.1) gives ∙ ap (made (nodes_of nodes)) here
copy_is (Err fault) nodes n gives is = absurd (cc)

at_end : (xs : List ℕ) (x : ℕ) → slice_get (xs ++ x ∷ []) (length xs) ≡ Some x
at_end [] x = refl
at_end (y ∷ xs) x = at_end xs x

pub content_pushed : (known : Definitions) (path : List ℕ) (place : ℕ) (content : Forest) → slice_get known.contents.items place ≡ Some content → content_last known (path ++ place ∷ []) ≡ content
content_pushed known path place content there =
    let last : length (path ++ place ∷ []) - 1 ≡ length path = omega (arith, length-append path (place ∷ [])) in
    rw (last, at_end path place, there) refl
