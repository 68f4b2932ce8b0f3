-- The words of `class` directives, given in a loop, one node after another.
use Rattle.std.proofs.Common.{◌≡◌, ◌∙◌, ℕ, ◌-◌, List, [], ◌∷◌, ◌++◌, length, suc, Bool, true, false, Option, refl, ap, ap₂, sym, arith, append_assoc, append-nil}
use Rattle.std.specs.Prelude.{◌&&◌, ◌==◌, ◌||◌, if◌then◌else◌, filter, slice_get}
use Rattle.std.specs.List.{list_any}
use Rattle.std.proofs.lemmas.Bool.{cond_both, or_parts}
use Rattle.std.proofs.lemmas.List.Folds.{list_any-append}
use Rattle.rst_tree.specs.declared.attrs.Attr.{Attr}
use Rattle.rst_tree.specs.declared.key.Key.TheVariants.{Classes}
use Rattle.rst_tree.specs.declared.node.Node.{Node}
use Rattle.rst_tree.specs.declared.node.Node.TheVariants.{Element, Text}
use Rattle.rst_tree.specs.declared.tag.Tag.{Tag}
use Rattle.rst_tree.specs.declared.tag.Tag.TheVariants.{Class}
use Rattle.rst_tree.specs.Forest.{Forest, bare, element, words}
use Rattle.rst_tree.specs.Nodes.{forest_of, nodes_of}
use Rattle.rst_tree.specs.Read.{AreRead}
use Rattle.rst_tree.specs.Walk.{Item, item, items}
use Rattle.rst_tree.proofs.Changes.{forest_of-nodes_of, nodes_of-forest_of}
use Rattle.rst_transform_work.specs.Lists.{listed_texts, with_listed}
use Rattle.rst_transform_work.specs.declared.document.Document.{Document}
use Rattle.rst_transform_structure.specs.declared.classes.ClassReader.{ClassReader}
use Rattle.rst_transform_structure.specs.Classes.{class_message, classed, classes_takers, is_class, is_passed_over, put_before, takes_classes, with_classes, TakesClass}

-- ---- whether there is a directive

abbrev is_place : Item → Bool
is_place x = is_class x.tag

or-false : (b : Bool) → (b || false) ≡ b
or-false true = refl
or-false false = refl

or_assoc : (a b c : Bool) → ((a || b) || c) ≡ (a || (b || c))
or_assoc true b c = refl
or_assoc false b c = refl

pub class_read : (level : Option ℕ) (f : Forest) (old new : ClassReader) → AreRead TakesClass level f old new → new.found ≡ (old.found || list_any is_place (items f))
class_read level bare old new read = ap (λ (r : ClassReader). r.found) read ∙ sym (or-false old.found)
class_read level (words t r) old new read = class_read level r old new read
class_read level (element t a c l r) old new read =
    let inside = class_read read.1 c read.0 read.2 read.4 in
    let following = class_read level r read.2 new read.5 in
    following
    ∙ ap (λ b. b || list_any is_place (items r)) (inside ∙ ap (λ b. b || list_any is_place (items c)) read.3)
    ∙ or_assoc (old.found || is_class t) (list_any is_place (items c)) (list_any is_place (items r))
    ∙ ap (λ b. (old.found || is_class t) || b) (sym (list_any-append is_place (items c) (items r)))
    ∙ or_assoc old.found (is_class t) (list_any is_place (items c ++ items r))

-- without one the nodes stay
none_classed : (ends : Bool) (f : Forest) → list_any is_place (items f) ≡ false → classed ends [] f ≡ (nodes_of f, [])
unfolding classed
none_classed ends bare none = refl
none_classed ends (words t r) none = ap (put_before (Text t ∷ [])) (none_classed ends r none)
none_classed ends (element t a c l r) none =
    let last : Bool = ends && classes_takers (nodes_of r) == 0 in
    let own = or_parts (is_class t) (list_any is_place (items c ++ items r)) none in
    let more = or_parts (list_any is_place (items c)) (list_any is_place (items r)) (sym (list_any-append is_place (items c) (items r)) ∙ own.1) in
    let following = ap (put_before (Element t a c l ∷ [])) (none_classed ends r more.1) in
    rw (own.0, none_classed last c more.0, forest_of-nodes_of c)
    (cond_both (is_passed_over t) (Element t a c l ∷ [], []) (Element t a c l ∷ [], []) (λ (one : List Node × List (List ℕ)). put_before one.0 (classed ends one.1 r) ≡ (Element t a c l ∷ nodes_of r, [])) (λ _. following) (λ _. following))

pub without_class : (directives : Bool) (d : Document) → list_any is_place (items d.children) ≡ false → d ≡ with_classes directives d
without_class false d none = refl
without_class true d none = sym (ap (λ (p : List Node × List (List ℕ)). record d { children = forest_of p.0 }) (none_classed true d.children none) ∙ ap (λ f. record d { children = f }) (forest_of-nodes_of d.children))

-- ---- one node

-- what a node becomes, and the words that are left then
abbrev pub own_of : Bool → List (List ℕ) → Node → List Node × List (List ℕ)
own_of last left (Text t) = (Text t ∷ [], left)
own_of last left (Element t a c l) =
    let inside = classed last [] c in
    if is_class t then (if last then class_message (slice_get (nodes_of c) 0) l else [], left ++ listed_texts Classes a)
    else if is_passed_over t then (Element t a c l ∷ [], left)
    else (Element t (with_listed Classes left a) (forest_of inside.0) l ∷ [], inside.1)

-- it comes before what the next nodes become
step : (ends : Bool) (left : List (List ℕ)) (n : Node) (ns : List Node) (last : Bool) → last ≡ (ends && classes_takers ns == 0)
    → classed ends left (forest_of (n ∷ ns)) ≡ put_before (own_of last left n).0 (classed ends (own_of last left n).1 (forest_of ns))
unfolding classed
step ends left (Text t) ns last is = refl
step ends left (Element t a c l) ns last is =
    let e : last ≡ (ends && classes_takers (nodes_of (forest_of ns)) == 0) = is ∙ ap (λ (xs : List Node). ends && classes_takers xs == 0) (sym (nodes_of-forest_of ns)) in
    rw e refl

place_passed : (t : Tag) → is_class t ≡ true → is_passed_over t ≡ true
place_passed Class is = refl
place_passed _ is = absurd cc

module _ (n : Node) (x : List ℕ) (is : n ≡ Text x) where
  pub own_text : (last : Bool) (left : List (List ℕ)) → own_of last left n ≡ (n ∷ [], left)
  own_text last left = rw is refl

  pub one_text : (rest : List Node) → classes_takers (n ∷ rest) ≡ classes_takers rest
  one_text rest = rw is refl

module _ (last : Bool) (left : List (List ℕ)) (n : Node) (t : Tag) (a : List Attr) (c : Forest) (l : ℕ) (is : n ≡ Element t a c l) where
  pub own_place : is_class t ≡ true → own_of last left n ≡ (if last then class_message (slice_get (nodes_of c) 0) l else [], left ++ listed_texts Classes a)
  own_place here = rw (is, here) refl

  pub own_passed : is_class t ≡ false → is_passed_over t ≡ true → own_of last left n ≡ (n ∷ [], left)
  own_passed other passed = rw (is, other, passed) refl

  pub own_taker : (given : List Attr) (inner : List Node) (after : List (List ℕ)) → is_class t ≡ false → is_passed_over t ≡ false → given ≡ with_listed Classes left a → (inner, after) ≡ classed last [] c
      → own_of last left n ≡ (Element t given (forest_of inner) l ∷ [], after)
  own_taker given inner after other taker gets inside = rw (is, other, taker, gets, ← inside) refl

  -- how many of the nodes from this one on take classes
  pub one_place : is_class t ≡ true → (rest : List Node) → classes_takers (n ∷ rest) ≡ classes_takers rest
  one_place here rest = rw (is, place_passed t here) refl

  pub one_passed : is_passed_over t ≡ true → (rest : List Node) → classes_takers (n ∷ rest) ≡ classes_takers rest
  one_passed passed rest = rw (is, passed) refl

  pub one_taker : (less takers : ℕ) → is_passed_over t ≡ false → less ≡ takers - 1 → (rest : List Node) → takers ≡ classes_takers (n ∷ rest) → less ≡ classes_takers rest
  one_taker less takers taker one rest all =
      let more : classes_takers (n ∷ rest) ≡ suc (classes_takers rest) = rw (is, taker) refl in omega (arith, one, all, more)

-- ---- one node after another

-- some nodes are done: those that are left give what all give
pub record Classing (ends : Bool) (given : List (List ℕ)) (nodes : Forest) (takers : ℕ) (met : List Node) (left : List (List ℕ)) (done : List Node) : Type 0 where
  pub same : (rest : List Node) → met ++ rest ≡ nodes_of nodes
      → (takers ≡ classes_takers rest) × (put_before done (classed ends left (forest_of rest)) ≡ classed ends given nodes)

pub classing_all : (ends : Bool) (given : List (List ℕ)) (nodes : Forest) (takers : ℕ) (met : List Node) (left : List (List ℕ)) (done : List Node)
    → Classing ends given nodes takers met left done → met ≡ nodes_of nodes → (done, left) ≡ classed ends given nodes
unfolding classed
classing_all ends given nodes takers met left done p all = ap (λ ns. (ns, left)) (sym (append-nil done)) ∙ (p.same [] (append-nil met ∙ all)).1

-- one more node
pub classing_more : (ends : Bool) (given : List (List ℕ)) (nodes : Forest) (takers less : ℕ) (met : List Node) (left left' : List (List ℕ)) (done done' : List Node) (n : Node) (last : Bool) (own : List Node × List (List ℕ))
    → Classing ends given nodes takers met left done → ((rest : List Node) → takers ≡ classes_takers (n ∷ rest) → less ≡ classes_takers rest) → last ≡ (ends && less == 0) → own_of last left n ≡ own
    → done' ≡ done ++ own.0 → left' ≡ own.1 → Classing ends given nodes less (met ++ n ∷ []) left' done'
classing_more ends given nodes takers less met left left' done done' n last own p count ended is put told =
    record {
      same = λ rest e.
          let h = p.same (n ∷ rest) (sym (append_assoc met (n ∷ []) rest) ∙ e) in
          let counted : less ≡ classes_takers rest = count rest h.0 in
          let others : List Node × List (List ℕ) = classed ends own.1 (forest_of rest) in (
            counted,
            ap₂ (λ ns ws. put_before ns (classed ends ws (forest_of rest))) put told
                ∙ ap (λ ns. (ns, others.1)) (append_assoc done own.0 others.0)
                ∙ ap (λ (q : List Node × List (List ℕ)). put_before done (put_before q.0 (classed ends q.1 (forest_of rest)))) (sym is)
                ∙ ap (put_before done) (sym (step ends left n rest last (ended ∙ ap (λ k. ends && k == 0) counted)))
                ∙ h.1,
          );
    }
