-- Internal targets that hand on their ids and names, one element after another.
use Rattle.std.proofs.Common.{◌≡◌, ◌∙◌, ℕ, List, [], ◌∷◌, ◌++◌, drop, Bool, true, false, Option, Some, refl, ap, sym, subst, arith}
use Rattle.std.specs.Prelude.{if◌then◌else◌, is_some, reverse}
use Rattle.std.specs.List.{list_any}
use Rattle.std.proofs.lemmas.Bool.{cond_both, or_parts as or_none}
use Rattle.std.proofs.lemmas.List.Folds.{list_any-append}
use Rattle.std.proofs.lemmas.Bool.Decides.{nat_tests}
use Rattle.std.proofs.lemmas.List.{append-nil, map-append, reverse-append, reverse-reverse}
use Rattle.rst_tree.proofs.Folds.{three_added}
use Rattle.rst_tree.specs.declared.attrs.Attr.{Attr}
use Rattle.rst_tree.specs.declared.key.Key.{Key}
use Rattle.rst_tree.specs.declared.key.Key.TheVariants.{Ids, Names as OfNames}
use Rattle.rst_tree.specs.declared.node.Node.{Node}
use Rattle.rst_tree.specs.declared.tag.Tag.TheVariants.{Document as IsDocumentTag}
use Rattle.rst_tree.specs.Attributes.{value_of, without_key}
use Rattle.rst_tree.specs.KeyNames.{is_same}
use Rattle.rst_tree.specs.Forest.{Forest, bare, element, words}
use Rattle.rst_tree.specs.Read.{AreRead}
use Rattle.rst_tree.specs.Walk.{after, item, items, node_items, walked, walked_node, Item}
use Rattle.rst_tree_index.specs.Kinds.{is_internal}
use Rattle.rst_transform_work.specs.declared.context.Context.{Context}
use Rattle.rst_transform_work.specs.declared.document.Document.{Document}
use Rattle.rst_transform_work.specs.Known.{Makes}
use Rattle.rst_transform_work.specs.Lists.{listed_texts}
use Rattle.rst_transform_work.specs.Reading.{members_in}
use Rattle.rst_tree.specs.Nodes.{node_tag, IsDocument}
use Rattle.rst_transform_work.specs.States.{document_in, document_node, elements_of}
use Rattle.rst_transform_work.proofs.Holding.{makes_names}
use Rattle.rst_transform_structure.specs.Passing.{passed, Passes}
use Rattle.rst_transform_structure.specs.declared.targets.Taking.{Taking}
use Rattle.rst_transform_structure.specs.Targets.{at_first, changed_item, handed, is_first_passed, is_passed, next_reached, passed_or_taker, reached, read_takers, taker, takers, with_targets, ReadTakers, TakesTaker, Reached}

-- ---- which elements take ids

-- those that are read come after the others
pub takers_read : (level : Option ℕ) (f : Forest) (old new : ReadTakers) → AreRead TakesTaker level f old new → new ≡ read_takers old.unmarked (old.list ++ takers old.unmarked (is_some level) f)
takers_read level bare old new read = read ∙ ap (read_takers old.unmarked) (sym (append-nil old.list))
takers_read level (words t r) old new read = takers_read level r old new read
takers_read level (element t a c l r) old new read =
    let u : Bool = old.unmarked in
    let own : Taking = passed_or_taker (is_some level) u t in
    let one : List Taking = own ∷ [] in
    let within : List Taking = takers u (is_passed own) c in
    let rest : List Taking = takers u (is_some level) r in
    let first : read.0 ≡ read_takers u (old.list ++ one) = read.3.0 in
    let inside : read.2 ≡ read_takers u ((old.list ++ one) ++ within) =
    takers_read read.1 c read.0 read.2 read.4 ∙ ap (λ s. read_takers s.unmarked (s.list ++ takers s.unmarked (is_some read.1) c)) first ∙ ap (λ b. read_takers u ((old.list ++ one) ++ takers u b c)) read.3.1 in
    takers_read level r read.2 new read.5 ∙ ap (λ s. read_takers s.unmarked (s.list ++ takers s.unmarked (is_some level) r)) inside
    ∙ ap (read_takers u) (three_added old.list one within rest (old.list ++ one) ((old.list ++ one) ++ within) (((old.list ++ one) ++ within) ++ rest) refl refl refl)

-- ---- the document

pub is_document : (d : Document) (root done : Node) (r : Reached) → root ≡ document_node d → done ≡ walked_node next_reached changed_item r root → IsDocument done
is_document d root done r is left_by = ap node_tag (left_by ∙ ap (walked_node next_reached changed_item r) is)

-- at the document itself
abbrev before : Bool → Document → Reached
before unmarked d = reached unmarked (taker unmarked IsDocumentTag ∷ takers unmarked false d.children) (handed [] []) []

-- what the walk leaves
pub walk_makes : (unmarked : Bool) (d e : Document) (root done : Node) (ts : List Taking) (r s : Reached) (got : List (List ℕ × Option ℕ)) (old new : Context) → root ≡ document_node d → document_node e ≡ done
    → ts ≡ taker unmarked IsDocumentTag ∷ takers unmarked false d.children
    → r ≡ reached unmarked ts (handed [] []) [] → done ≡ walked_node next_reached changed_item r root → s ≡ after next_reached changed_item r (node_items root) → got ≡ s.got → Passes got old.names new.names
    → new ≡ record old { names = new.names } → Makes (with_targets unmarked d) old new e
walk_makes unmarked d e root done ts r s got old new is made all begun left_by state end passes rest =
    let xs : List Item = items d.children in
    let start : Reached = at_first unmarked d.children in
    let begin : r ≡ before unmarked d = begun ∙ ap (λ z. reached unmarked z (handed [] []) []) all in
    let same : e ≡ record d { children = walked next_reached changed_item start d.children } =
    ap document_in (made ∙ left_by ∙ ap (walked_node next_reached changed_item r) is ∙ ap (λ z. walked_node next_reached changed_item z (document_node d)) begin) in
    let got_is : got ≡ (after next_reached changed_item start xs).got =
    end ∙ ap (λ z. z.got) (state ∙ ap (λ n. after next_reached changed_item r (node_items n)) is ∙ ap (λ z. after next_reached changed_item z (elements_of d)) begin) in
    makes_names _ (passed (after next_reached changed_item start xs).got) old new e same (subst (λ g. Passes g old.names new.names) got_is passes) rest

-- ---- a document without internal target

-- what is known where nothing is handed on
abbrev idle : Bool → List Taking → Reached
idle unmarked ts = reached unmarked ts (handed [] []) []

goes_by : (u : Bool) (ts : List Taking) (x : Item) → is_internal x ≡ false → (next_reached (idle u ts) x ≡ idle u (drop 1 ts)) × (changed_item (idle u ts) x ≡ x)
goes_by u ts x none = (
  cond_both (is_first_passed ts) _ _ (λ (r : Reached). r ≡ idle u (drop 1 ts)) (λ _. refl) (λ _. rw none refl),
  cond_both (is_first_passed ts) _ _ (λ (a : List Attr). item x.tag a x.line ≡ x) (λ _. refl) (λ _. rw none refl),
)

left : List Taking → List Item → List Taking
left ts [] = ts
left ts (x ∷ xs) = left (drop 1 ts) xs

none_after : (u : Bool) (ts : List Taking) (xs : List Item) → list_any is_internal xs ≡ false → after next_reached changed_item (idle u ts) xs ≡ idle u (left ts xs)
unfolding left
none_after u ts [] none = refl
none_after u ts (x ∷ xs) none =
    let both = or_none (is_internal x) (list_any is_internal xs) none in
    ap (λ s. after next_reached changed_item s xs) (goes_by u ts x both.0).0 ∙ none_after u (drop 1 ts) xs both.1

none_changed : (u : Bool) (ts : List Taking) (f : Forest) → list_any is_internal (items f) ≡ false → walked next_reached changed_item (idle u ts) f ≡ f
none_changed u ts bare none = refl
none_changed u ts (words t r) none = ap (words t) (none_changed u ts r none)
none_changed u ts (element t a c l r) none =
    let x : Item = item t a l in
    let split = or_none (list_any is_internal (x ∷ items c)) (list_any is_internal (items r)) (sym (list_any-append is_internal (x ∷ items c) (items r)) ∙ none) in
    let own = or_none (is_internal x) (list_any is_internal (items c)) split.0 in
    let step = goes_by u ts x own.0 in
    let first : next_reached (idle u ts) x ≡ idle u (drop 1 ts) = step.0 in
    ap (λ y. element y.tag y.attrs (walked next_reached changed_item (next_reached (idle u ts) x) c) y.line
    (walked next_reached changed_item (after next_reached changed_item (next_reached (idle u ts) x) (items c)) r)) step.1
    ∙ ap (λ s. element t a (walked next_reached changed_item s c) l (walked next_reached changed_item (after next_reached changed_item s (items c)) r)) first
    ∙ ap (λ f. element t a f l (walked next_reached changed_item (after next_reached changed_item (idle u (drop 1 ts)) (items c)) r)) (none_changed u (drop 1 ts) c own.1)
    ∙ ap (λ s. element t a c l (walked next_reached changed_item s r)) (none_after u (drop 1 ts) (items c) own.1)
    ∙ ap (element t a c l) (none_changed u (left (drop 1 ts) (items c)) r split.1)

-- it stays as it is
pub without_targets : (unmarked : Bool) (d : Document) (context : Context) → list_any is_internal (elements_of d) ≡ false → Makes (with_targets unmarked d) context context d
without_targets unmarked d context none =
    let ts : List Taking = takers unmarked false d.children in
    let got : (after next_reached changed_item (idle unmarked ts) (items d.children)).got ≡ [] = ap (λ s. s.got) (none_after unmarked ts (items d.children) none) in
    makes_names _ (passed (after next_reached changed_item (idle unmarked ts) (items d.children)).got) context context d (ap (λ f. record d { children = f }) (sym (none_changed unmarked ts d.children none)))
    (subst (λ g. Passes g context.names context.names) (sym got) (λ entries are. are)) refl

-- texts put after others whose last comes first
pub reversed_after : (xs ys : List (List ℕ)) → reverse (xs ++ reverse ys) ≡ ys ++ reverse xs
reversed_after xs ys = reverse-append xs (reverse ys) ∙ ap (λ zs. zs ++ reverse xs) (reverse-reverse ys)

-- the names that a target lists are those that it lists once its ids are taken
differ : (k : Key) → is_same k Ids ≡ true → is_same k OfNames ≡ false
differ k same = grind (arith, nat_tests)

names_kept : (attrs : List Attr) → value_of OfNames (without_key Ids attrs) ≡ value_of OfNames attrs
names_kept [] = refl
names_kept (a ∷ more) =
    elim (is_same a.key Ids) as (λ b. (is_same a.key Ids ≡ b) → value_of OfNames (if b then more else a ∷ without_key Ids more) ≡ (if is_same a.key OfNames then Some a.value else value_of OfNames more)) [
      | true ↦ λ e. ap (λ (b : Bool). if b then Some a.value else value_of OfNames more) (sym (differ a.key e))
      | false ↦ λ e. ap (λ v. if is_same a.key OfNames then Some a.value else v) (names_kept more)
    ] refl

pub listed_still : (attrs : List Attr) → listed_texts OfNames (without_key Ids attrs) ≡ listed_texts OfNames attrs
listed_still attrs = ap members_in (names_kept attrs)
