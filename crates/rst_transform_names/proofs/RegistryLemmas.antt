-- Standings and what happens to them.
use Rattle.std.proofs.Common.{◌≡◌, ℕ, zero, suc, ◌<◌, ◌≤◌, List, [], ◌∷◌, length, Option, refl, sym, ap, arith, slice_set}
use Rattle.std.proofs.Common.{◌∙◌, Vec, String, BTreeMap, bytes_eq, string_bytes, string_cmp, nat_cmp}
use Rattle.std.specs.BTreeMap.{get_by_text, UpdatesBy}
use Rattle.std.specs.Cmp.Lexicographic.{slice_cmp, nat_list_eq_equiv}
use Rattle.std.proofs.lemmas.Map.Text.{btree_map_updates_text}
use Rattle.std.proofs.lemmas.List.{with_items_is}
use Rattle.std.specs.Prelude.{if◌then◌else◌, ◌&&◌, is_some, true, false, slice_index_or}
use Rattle.std.specs.Vec.{with_items}
use Rattle.rst_tree.specs.Paths.{map_at}
use Rattle.rst_tree.specs.Walk.{Item}
use Rattle.rst_transform_names.specs.declared.names.Holder.{Holder}
use Rattle.rst_transform_names.specs.declared.names.NameEntry.{NameEntry}
use Rattle.rst_transform_names.specs.declared.names.Holder.TheVariants.{Nobody as Lost, Element, Unregistered}
use Rattle.rst_transform_names.specs.declared.registry.Registry.{Registry}
use Rattle.rst_transform_names.specs.declared.registry.Standing.{Standing}
use Rattle.rst_transform_names.specs.Registering.{Holds, Register}
use Rattle.rst_transform_names.specs.Names.{is_table_of_contents, name_to_take, own_name}
use Rattle.rst_transform_names.specs.Registry.{without_name, losing, rule_named}
use Rattle.rst_transform_names.specs.Written.{given}

-- a list changed at a place in it, and at one after it
pub changed_there : {X : Type 0} (change : X → X) (n : ℕ) (xs : List X) (d now : X) → n < length xs → now ≡ change (slice_index_or xs n d) → slice_set xs n now ≡ map_at change n xs
changed_there change n [] d now l is = absurd (omega arith)
changed_there change zero (x ∷ xs) d now l is = ap (λ y. y ∷ xs) is
changed_there change (suc n) (x ∷ xs) d now l is = ap (λ t. x ∷ t) (changed_there change n xs d now (omega arith) is)

pub changed_after : {X : Type 0} (change : X → X) (n : ℕ) (xs : List X) → length xs ≤ n → xs ≡ map_at change n xs
changed_after change n [] l = refl
changed_after change zero (x ∷ xs) l = absurd (omega arith)
changed_after change (suc n) (x ∷ xs) l = ap (λ t. x ∷ t) (changed_after change n xs (omega arith))

-- no item is lost on the way
map_at-length : {X : Type 0} (change : X → X) (n : ℕ) (xs : List X) → length (map_at change n xs) ≡ length xs
map_at-length change n [] = refl
map_at-length change zero (x ∷ xs) = refl
map_at-length change (suc n) (x ∷ xs) = ap suc (map_at-length change n xs)

losing-length : (h : Holder) (ss : List Standing) → length (losing h ss) ≡ length ss
losing-length (Element n) ss = map_at-length without_name n ss
losing-length Lost ss = refl
losing-length Unregistered ss = refl

-- the standings of which one lost its name, put in place of those before
pub put_lost : {Z : Type 0} (v : Vec Standing Z) (now : List Standing) (h : Holder) → now ≡ losing h v.items → (with_items v now).items ≡ losing h v.items
put_lost v now h is = with_items_is v now (ap length is ∙ losing-length h v.items ∙ sym v.ok.0) ∙ is

-- what a map gives for texts once it gives something else for one of them
pub entered : {X Y : Type 0} (old new : BTreeMap (String Y) X) (name : List ℕ) (w : Option X) → UpdatesBy string_cmp (λ k. slice_cmp nat_cmp name (string_bytes k)) old new w
    → (other : List ℕ) → get_by_text new other ≡ (if bytes_eq other name then w else get_by_text old other)
entered old new name w h other = btree_map_updates_text name old new w h other ∙ ap (λ b. if b then w else get_by_text old other) (nat_list_eq_equiv.symm name other)

-- what the program writes at the elements
pub given_same : (g : Registry) (r : Register) → Holds g r → given g.standings.items g.known_messages.numbers.items g.known_messages.messages.items ≡ given r.standings r.numbers r.messages
given_same g r h = cc (h.standings, h.numbers, h.messages)

-- the rule for the name that an element is to get; where that is none, nothing that is known counts
pub rule_of_taken : (names : List ℕ → Option NameEntry) (new : Item) → rule_named (name_to_take names new) (names (name_to_take names new)) new ≡ rule_named (name_to_take names new) (names (own_name new)) new
rule_of_taken names new = elim (is_table_of_contents new && is_some (names (own_name new))) as (λ none. let name = if none then [] else own_name new in rule_named name (names name) new ≡ rule_named name (names (own_name new)) new) [ true ↦ refl | false ↦ refl ]
