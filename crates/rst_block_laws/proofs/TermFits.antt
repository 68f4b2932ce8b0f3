-- Terms and classifiers have at most four levels, and their texts have a property.
use Rattle.std.proofs.Common.{◌≡◌, ℕ, Bool, true, false, List, [], ◌∷◌, ◌++◌, map, take, length, Option, None, Some, arith, refl}
use Rattle.std.specs.Prelude.{◌&&◌}
use Rattle.std.specs.List.{AllByRecursion}
use Rattle.std.specs.Option.{IfSome}
use Rattle.std.proofs.lemmas.Bool.{cond_both}
use Rattle.rst_settings.specs.declared.Parts.{Parts}
use Rattle.rst_text.specs.Characters.{is_white}
use Rattle.rst_text.specs.Escapes.{escapes}
use Rattle.rst_tree.specs.declared.node.Node.{Node}
use Rattle.rst_tree.specs.declared.node.Node.TheVariants.{Element, Text as Words}
use Rattle.rst_tree.specs.declared.tag.Tag.TheVariants.{Classifier, Term}
use Rattle.rst_inline_scan.specs.declared.piece.Kind.{Kind}
use Rattle.rst_inline_scan.specs.declared.piece.Kind.TheVariants.{Plain}
use Rattle.rst_inline_scan.specs.declared.piece.Piece.{Piece}
use Rattle.rst_inline_scan.specs.Reading.{pieces_of}
use Rattle.rst_inline.specs.Parts.{source}
use Rattle.rst_block_nodes.specs.Readings.{read_nodes, read_notes, term_nodes}
use Rattle.rst_block_nodes.specs.Terms.{classifier_node, cut_at_delimiters, dark_len, ended_groups, heads_of, is_bare, is_delimiter, led, letters_from, parts_by, parts_of_pieces, spelled, with_parts}
use Rattle.rst_tree_laws.specs.Texts.{Kept}
use Rattle.rst_block_laws.proofs.ElementFits.{read_fit}
use Rattle.rst_block_laws.proofs.Fits.{AllFit, Fits, counting_has, open_fits}
use Rattle.rst_tree_laws.proofs.Lists.{all_append, all_take}
use Rattle.rst_tree_laws.proofs.Properties.{Suited, part_kept}

-- each of these letters has a property; their type has no name here
abbrev on : {X : Type 0} → (X → ℕ → Bool) → (X → Type 0) → List X → Type 0
on is Q ls = AllByRecursion Q ls

module _ (P : ℕ → Bool) (T : List ℕ → Type 0) (s : Suited P T) where
  -- ---- parts of texts

  letters_kept : (escaped : Bool) (cs : List ℕ) → Kept P cs → on is_bare (λ l. P l.character ≡ true) (letters_from escaped cs)
  letters_kept escaped [] h = tt
  letters_kept escaped (c ∷ cs) h =
      cond_both (escapes c escaped) _ _ (on is_bare (λ l. P l.character ≡ true)) (λ e. letters_kept true cs h.1)
      (λ e. cond_both (escaped && is_white c) _ _ (on is_bare (λ l. P l.character ≡ true)) (λ d. letters_kept false cs h.1) (λ d. (h.0, letters_kept false cs h.1)))

  characters_kept : (ls : _) → on is_bare (λ l. P l.character ≡ true) ls → Kept P (map (λ l. l.character) ls)
  characters_kept [] h = tt
  characters_kept (l ∷ ls) h = (h.0, characters_kept ls h.1)

  -- a part of a term's text, or the end of one
  abbrev PartsFit : List (Option Node) → Type 0
  PartsFit os = AllByRecursion (λ (o : Option Node). IfSome o (Fits T 3)) os

  spelled_fit : (ls : _) → on is_bare (λ l. P l.character ≡ true) ls → PartsFit (spelled ls)
  spelled_fit [] h = tt
  spelled_fit (l ∷ ls) h = ((omega arith, s.encoded (map (λ m. m.character) (l ∷ ls)) (characters_kept (l ∷ ls) h)), tt)

  cut_fit : (skipping : Bool) (part ls : _) → on is_bare (λ l. P l.character ≡ true) part → on is_bare (λ l. P l.character ≡ true) ls → PartsFit (cut_at_delimiters skipping part ls)
  cut_fit skipping part [] k h = spelled_fit part k
  cut_fit skipping part (l ∷ ls) k h =
      cond_both _ _ _ PartsFit (λ e. cut_fit true part ls k h.1)
      (λ e. cond_both (is_delimiter part l ls) _ _ PartsFit
      (λ d. all_append _ _ (None ∷ cut_at_delimiters true [] ls) (spelled_fit (take (dark_len part) part) (all_take _ (dark_len part) part k)) (tt, cut_fit true [] ls tt h.1))
      (λ d. cut_fit false (part ++ l ∷ []) ls (all_append _ part (l ∷ []) k (h.0, tt)) h.1))

  pieces_fit : (t : List ℕ) (ps : List Piece) → Kept P t → AllByRecursion PartsFit (parts_of_pieces t ps)
  pieces_fit t [] h = tt
  pieces_fit t (p ∷ ps) h = all_append PartsFit _ _ (by p.kind (letters_from false (source t p)) (letters_kept false (source t p) (part_kept P t p.from p.to h))) (pieces_fit t ps h)
    where
      by : (kind : Kind) (ls : _) → on is_bare (λ l. P l.character ≡ true) ls → AllByRecursion PartsFit (parts_by kind ls)
      by Plain [] k = tt
      by Plain (l ∷ ls) k = (cut_fit false [] (l ∷ ls) tt k, tt)
      by _ ls k = tt

  parts_fit : (texts : List (List (Option Node))) (ns : List Node) → AllByRecursion PartsFit texts → AllFit T 3 ns → PartsFit (with_parts texts ns)
  parts_fit texts [] h k = (tt, tt)
  parts_fit [] (n ∷ ns) h k = (k.0, parts_fit [] ns h k.1)
  parts_fit (ps ∷ texts) (Words t ∷ ns) h k = all_append _ ps _ h.0 (parts_fit texts ns h.1 k.1)
  parts_fit (ps ∷ texts) (Element t a c l ∷ ns) h k = (k.0, parts_fit (ps ∷ texts) ns h k.1)

  -- ---- terms and classifiers

  groups_fit : (os : List (Option Node)) → PartsFit os → AllByRecursion (AllFit T 3) (ended_groups os)
  groups_fit [] h = tt
  groups_fit (None ∷ os) h = (tt, groups_fit os h.1)
  groups_fit (Some n ∷ os) h = by (ended_groups os) (groups_fit os h.1)
    where
      by : (gs : List (List Node)) → AllByRecursion (AllFit T 3) gs → AllByRecursion (AllFit T 3) (led n gs)
      by [] k = tt
      by (g ∷ gs) k = ((h.0, k.0), k.1)

  classifiers_fit : (line : ℕ) (gs : List (List Node)) → AllByRecursion (AllFit T 3) gs → AllFit T 4 (map (classifier_node line) gs)
  classifiers_fit line [] h = tt
  classifiers_fit line (g ∷ gs) h = (open_fits T Classifier [] line 3 4 g (λ c. refl) tt h.0 (omega arith), classifiers_fit line gs h.1)

  heads_fit : (notes line : ℕ) (gs : List (List Node)) → AllByRecursion (AllFit T 3) gs → AllFit T 4 (heads_of notes line gs)
  heads_fit notes line [] h = tt
  heads_fit notes line (g ∷ gs) h = (open_fits T Term _ line 3 4 g (λ c. refl) (counting_has T notes) h.0 (omega arith), classifiers_fit line gs h.1)

  pub terms_fit : (parts : Parts) (t : List ℕ) (line first : ℕ) → Kept P t → AllFit T 4 (term_nodes parts t line first)
  terms_fit parts t line first h =
      heads_fit (length (read_notes parts t line first)) line _ (groups_fit _ (parts_fit (parts_of_pieces t (pieces_of parts.mail parts.unmarked t)) (read_nodes parts t line first) (pieces_fit t (pieces_of parts.mail parts.unmarked t) h) (read_fit P T s parts t line first h)))
