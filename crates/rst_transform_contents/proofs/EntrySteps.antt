-- Entries of one section after another.
use Rattle.std.proofs.Common.{◌≡◌, ◌∙◌, ℕ, ◌+◌, ◌-◌, ◌<◌, ◌≤◌, true, false, nat_lt, List, [], ◌∷◌, ◌++◌, drop, get_or, length, Option, Some, None, ap, ap₂, append-nil, arith, refl, subst, sym}
use Rattle.std.proofs.Math.ListN.{drop_of_length-le}
use Rattle.rst_tree.proofs.EachNode.{drop_item}
use Rattle.std.specs.Prelude.{if◌then◌else◌}
use Rattle.rst_tree.specs.declared.attrs.Attr.{Attr}
use Rattle.rst_tree.specs.declared.node.Node.{Node}
use Rattle.rst_tree.specs.declared.node.Node.TheVariants.{Element, Text}
use Rattle.rst_tree.specs.Forest.{Forest, bare, element, words}
use Rattle.rst_tree.specs.Nodes.{forest_of}
use Rattle.rst_transform_contents.specs.declared.entries.Backlinks.{Backlinks}
use Rattle.rst_transform_contents.specs.declared.entries.Tables.{Tables}
use Rattle.rst_transform_contents.specs.Contents.{after_nodes, Becomes}
use Rattle.rst_transform_contents.specs.Entries.{entries, entry, item, outline_parts, Gives, Left}
use Rattle.rst_transform_contents.proofs.Threading.{threads_all, threads_more, Threads}

-- the entries of one section, by its parts
abbrev pub own_entries : Backlinks → ℕ → Option (List Attr × Forest × Forest) → Left → List Node × Left
own_entries backlinks k None left = ([], left)
own_entries backlinks k (Some parts) left =
    let own = entry backlinks parts.0 parts.1 left in
    let below = if nat_lt 1 k then entries backlinks (k - 1) parts.2 own.1 else ([], own.1) in (item own.0 below.0 ∷ [], below.1)

pub entries_step : (backlinks : Backlinks) (k : ℕ) (n : Node) (ns : List Node) (left : Left)
    → entries backlinks k (forest_of (n ∷ ns)) left
    ≡ after_nodes (own_entries backlinks k (outline_parts n) left).0 (entries backlinks k (forest_of ns) (own_entries backlinks k (outline_parts n) left).1)
entries_step backlinks k (Text t) ns left = refl
entries_step backlinks k (Element t a bare l) ns left = refl
entries_step backlinks k (Element t a (words u v) l) ns left = refl
entries_step backlinks k (Element t a (element u b title m inner) l) ns left = refl

-- the entries below, if a level is left
abbrev pub below_at : Backlinks → ℕ → Forest → Left → List Node × Left
below_at backlinks k inner left = if nat_lt 1 k then entries backlinks (k - 1) inner left else ([], left)

-- the item of a section, once its entry and those below it were made
pub entries_become : (backlinks : Backlinks) (k : ℕ) (n : Node) (parts : List Attr × Forest × Forest) (now mid later : Tables) (one : Node) (below put more : List Node) → outline_parts n ≡ Some parts
    → Gives (entry backlinks parts.0 parts.1) now mid one → Gives (below_at backlinks k parts.2) mid later below → more ≡ put ++ item one below ∷ []
    → Becomes (own_entries backlinks k (outline_parts n)) now later put more
entries_become backlinks k n parts now mid later one below put more is own inner put_is =
    let done : Becomes (own_entries backlinks k (Some parts)) now later put more =
    λ left h. let g = own left h in let b = inner (entry backlinks parts.0 parts.1 left).1 g.1 in (put_is ∙ ap₂ (λ e bs. put ++ item e bs ∷ []) g.0 b.0, b.1) in
    subst (λ o. Becomes (own_entries backlinks k o) now later put more) (sym is) done

pub entries_none : (backlinks : Backlinks) (k : ℕ) (n : Node) (now : Tables) (put : List Node) → outline_parts n ≡ None → Becomes (own_entries backlinks k (outline_parts n)) now now put put
entries_none backlinks k n now put is = subst (λ o. Becomes (own_entries backlinks k o) now now put put) (sym is) (λ left h. (sym (append-nil put), h))

-- where one is left, and where none is
pub below_some : (backlinks : Backlinks) (k : ℕ) (inner : Forest) (mid later : Tables) (below : List Node) → 1 < k → Gives (entries backlinks (k - 1) inner) mid later below → Gives (below_at backlinks k inner) mid later below
below_some backlinks k inner mid later below is gives left h = let test : nat_lt 1 k ≡ true = grind (arith, is) in rw test (gives left h)

pub below_none : (backlinks : Backlinks) (k : ℕ) (inner : Forest) (mid : Tables) (below : List Node) → k ≤ 1 → below ≡ [] → Gives (below_at backlinks k inner) mid mid below
below_none backlinks k inner mid below is none left h = let test : nat_lt 1 k ≡ false = grind (arith, is) in rw test (none, h)

-- one more section
pub entries_more : (backlinks : Backlinks) (k i : ℕ) (outline : List Node) (n : Node) (before now later : Tables) (put more : List Node) → i < length outline → n ≡ get_or outline i n
    → Threads (entries backlinks k (forest_of outline)) (entries backlinks k (forest_of (drop i outline))) before now put → Becomes (own_entries backlinks k (outline_parts n)) now later put more
    → Threads (entries backlinks k (forest_of outline)) (entries backlinks k (forest_of (drop (i + 1) outline))) before later more
entries_more backlinks k i outline n before now later put more within is t one =
    threads_more _ (entries backlinks k (forest_of (drop i outline))) (entries backlinks k (forest_of (drop (i + 1) outline))) (own_entries backlinks k (outline_parts n)) before now later put more t
    (λ left. ap (λ ns. entries backlinks k (forest_of ns) left) (drop_item outline i n within is) ∙ entries_step backlinks k n (drop (i + 1) outline) left) one

-- all
pub entries_all : (backlinks : Backlinks) (k i : ℕ) (outline : List Node) (before now : Tables) (put : List Node) → length outline ≤ i
    → Threads (entries backlinks k (forest_of outline)) (entries backlinks k (forest_of (drop i outline))) before now put → Gives (entries backlinks k (forest_of outline)) before now put
entries_all backlinks k i outline before now put all t =
    threads_all _ (entries backlinks k (forest_of (drop i outline))) before now put t (λ left. ap (λ ns. entries backlinks k (forest_of ns) left) (drop_of_length-le outline all))
