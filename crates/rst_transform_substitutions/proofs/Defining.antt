-- The definitions of a document, found one node after another, and then known by their names.
use Rattle.std.proofs.Common.{◌≡◌, ℕ, ◌+◌, ◌<◌, List, [], ◌∷◌, ◌++◌, length, map, get_or, take, refl, sym, ◌∙◌, ap, arith, Bool}
use Rattle.std.specs.Prelude.{if◌then◌else◌, Option, Some, None}
use Rattle.rst_text.specs.Names.{name_in}
use Rattle.std.specs.BTreeMap.{get_by_text}
use Rattle.std.specs.Str.{bytes_eq}
use Rattle.std.proofs.Math.Path.{fun_ext}
use Rattle.std.proofs.lemmas.List.{append-nil, length-map, map-append, take_more}
use Rattle.rst_tree.proofs.Folds.{three_added}
use Rattle.rst_tree.specs.Forest.{Forest, bare, element, words}
use Rattle.rst_tree.specs.Read.{AreRead}
use Rattle.rst_transform_substitutions.specs.declared.listing.Defined.{Defined}
use Rattle.rst_transform_substitutions.specs.declared.listing.Listed.{Listed}
use Rattle.rst_transform_substitutions.specs.declared.definitions.Definitions.{Definitions}
use Rattle.rst_transform_substitutions.specs.Definitions.{defined, definitions_among, found_among, found_by, known_place, last_place, own_definition, place_of_name, AreAlike, AreKnown, Definition, TakesListed}

-- those among nodes come after the others
pub listed_read : (level : Option ℕ) (f : Forest) (old new : Listed) → AreRead TakesListed level f old new → map defined new.definitions.items ≡ map defined old.definitions.items ++ definitions_among f
listed_read level bare old new read = rw read (sym (append-nil (map defined old.definitions.items)))
listed_read level (words t r) old new read = listed_read level r old new read
listed_read level (element t a c l r) old new read =
    three_added (map defined old.definitions.items) (own_definition t a c) (definitions_among c) (definitions_among r) _ _ _ read.3 (listed_read read.1 c read.0 read.2 read.4) (listed_read level r read.2 new read.5)

-- one definition more is the last
pub last_more : (passes : List ℕ → Bool) (place : ℕ) (before : Option ℕ) (all : List Definition) (one : Definition)
    → last_place passes place before (all ++ one ∷ []) ≡ (if passes one.0 then Some (place + length all) else last_place passes place before all)
last_more passes place before [] one = ap (λ p. if passes one.0 then Some p else before) (omega arith)
last_more passes place before (first ∷ all) one =
    last_more passes (place + 1) (if passes first.0 then Some place else before) all one
    ∙ ap (λ p. if passes one.0 then Some p else last_place passes (place + 1) (if passes first.0 then Some place else before) all) (omega arith)

-- a place and what was known of the others
abbrev pub Learns : List ℕ → ℕ → (List ℕ → Option ℕ) → (List ℕ → Option ℕ) → Type 0
Learns name place old new = (other : List ℕ) → new other ≡ (if bytes_eq other name then Some place else old other)

place_more : (read : List ℕ → List ℕ) (all : List Definition) (name : List ℕ) (content : Forest) (place : ℕ) (old new : List ℕ → Option ℕ) → place ≡ length all
    → ((other : List ℕ) → old other ≡ last_place (λ named. bytes_eq other (read named)) 0 None all) → Learns (read name) place old new
    → (other : List ℕ) → new other ≡ last_place (λ named. bytes_eq other (read named)) 0 None (all ++ (name, content) ∷ [])
place_more read all name content place old new is known learns other =
    learns other ∙ ap (λ p. if bytes_eq other (read name) then Some p else old other) (is ∙ omega arith)
    ∙ ap (λ before. if bytes_eq other (read name) then Some (0 + length all) else before) (known other)
    ∙ sym (last_more (λ named. bytes_eq other (read named)) 0 None all (name, content))

pub known_more : (all : List Definition) (known next : Definitions) (name : List ℕ) (content : Forest) (place : ℕ) → AreKnown all known → place ≡ length known.contents.items → next.contents.items ≡ known.contents.items ++ content ∷ []
    → Learns name place (get_by_text known.exact) (get_by_text next.exact) → Learns (name_in name) place (get_by_text known.normalized) (get_by_text next.normalized) → AreKnown (all ++ (name, content) ∷ []) next
known_more all known next name content place are is contents exact normalized =
    let count : place ≡ length all = is ∙ ap length are.contents ∙ length-map all (λ one. one.1) in
    record {
      contents = contents ∙ ap (λ prefix. prefix ++ content ∷ []) are.contents ∙ sym (map-append (λ one. one.1) all ((name, content) ∷ []));
      exact = place_more (λ n. n) all name content place (get_by_text known.exact) (get_by_text next.exact) count are.exact exact;
      normalized = place_more name_in all name content place (get_by_text known.normalized) (get_by_text next.normalized) count are.normalized normalized;
    }

-- the definitions of a list known up to one
pub known_next : (list : List Defined) (i : ℕ) (one : Defined) (next : Definitions) → i < length list → one ≡ get_or list i one → AreKnown (map defined (take i list) ++ defined one ∷ []) next → AreKnown (map defined (take (i + 1) list)) next
known_next list i one next within at known =
    let more : take (i + 1) list ≡ take i list ++ one ∷ [] = take_more list i one within ∙ ap (λ last. take i list ++ last ∷ []) (sym at) in
    rw (more, map-append defined (take i list) (one ∷ [])) known

-- definitions are known as well where others are measured
pub known_alike : (all : List Definition) (old new : Definitions) → AreKnown all old → AreAlike old new → AreKnown all new
known_alike all old new are alike = record {
  contents = ap (λ contents. contents.items) alike.0 ∙ are.contents;
  exact = λ name. ap (λ places. get_by_text places name) alike.1.0 ∙ are.exact name;
  normalized = λ name. ap (λ places. get_by_text places name) alike.1.1 ∙ are.normalized name;
}

-- what a name finds among definitions, and the place of one, are what is known of them
pub found_known : (all : List Definition) (known : Definitions) → AreKnown all known → found_by known ≡ found_among all
found_known all known are = fun_ext (λ name. rw (are.contents, are.exact name, are.normalized (name_in name)) refl)

pub place_known : (all : List Definition) (known : Definitions) → AreKnown all known → known_place known ≡ place_of_name all
place_known all known are = fun_ext (λ name. are.exact name)
