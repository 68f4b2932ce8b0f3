-- Formulas that are being made: parts of a text between pairs of line feeds, and the formulas of those that come next.
use Rattle.std.proofs.Common.{◌≡◌, ℕ, ◌+◌, ◌-◌, ◌<◌, ◌≤◌, ◌==◌, ◌&&◌, true, false, List, [], ◌∷◌, ◌++◌, length, take, drop, length-drop, None, refl, sym, ap, ◌∙◌, arith, append_assoc, inl, inr}
use Rattle.std.specs.Prelude.{encode_utf8_all}
use Rattle.std.specs.List.{onto_first}
use Rattle.std.specs.Str.{IsUtf8, chars}
use Rattle.std.specs.Str.Pattern.{FindsText, SplitsAroundMatch}
use Rattle.std.proofs.Math.Seq.{drop-append_seam, take-append_seam}
use Rattle.std.proofs.lemmas.Bool.{cases_lt, cond_both, eqb-true}
use Rattle.std.proofs.lemmas.List.{length-append, take-append-drop, take-append-le}
use Rattle.std.proofs.lemmas.Str.{chars-append, encodes-append, encodes-chars, length-le-encodes}
use Rattle.rst_tree.specs.declared.node.Node.{Node}
use Rattle.rst_tree.specs.declared.tag.Tag.{Tag}
use Rattle.rst_markup_directives.specs.Options.{OptionSetting}
use Rattle.rst_block_nodes.specs.Formulas.{formula, formulas_from, holder_after, parts_of}
use Rattle.rst_block_nodes.specs.declared.settings.Holder.TheVariants.{Further}

-- ---- parts of a text

-- two characters that are a pair of line feeds
pair_is : (c d : ℕ) → (c == 10 && d == 10) ≡ true → (c ≡ 10) × (d ≡ 10)
pair_is c d e = grind (arith, eqb-true c 10, eqb-true d 10)

-- a text without a pair is one part
one_part : (t : List ℕ) → ((xs ys : List ℕ) → t ≡ xs ++ 10 ∷ 10 ∷ ys → ⊥) → parts_of t ≡ t ∷ []
one_part [] h = refl
one_part (c ∷ []) h = refl
one_part (c ∷ d ∷ cs) h =
    cond_both (c == 10 && d == 10) ([] ∷ parts_of cs) (onto_first c (parts_of (d ∷ cs))) (λ ps. ps ≡ (c ∷ d ∷ cs) ∷ [])
    (λ e. let p = pair_is c d e in absurd (h [] cs (ap (λ a. a ∷ d ∷ cs) p.0 ∙ ap (λ b. 10 ∷ b ∷ cs) p.1)))
    (λ e. ap (onto_first c) (one_part (d ∷ cs) (λ xs ys k. h (c ∷ xs) ys (ap (λ ts. c ∷ ts) k))))

-- no pair begins before the end of a text xs that a pair and ys follow
abbrev NoneBefore : List ℕ → List ℕ → Type 0
NoneBefore xs ys = (bs ds : List ℕ) → xs ++ 10 ∷ 10 ∷ ys ≡ bs ++ 10 ∷ 10 ∷ ds → length xs ≤ length bs

none_after : (c : ℕ) (xs ys : List ℕ) → NoneBefore (c ∷ xs) ys → NoneBefore xs ys
none_after c xs ys h bs ds k = omega (arith, h (c ∷ bs) ds (ap (λ ts. c ∷ ts) k))

-- the text before the first pair is the first part
first_part : (xs ys : List ℕ) → NoneBefore xs ys → parts_of (xs ++ 10 ∷ 10 ∷ ys) ≡ xs ∷ parts_of ys
first_part [] ys h = refl
first_part (c ∷ []) ys h =
    cond_both (c == 10 && true) ([] ∷ parts_of (10 ∷ ys)) (onto_first c ([] ∷ parts_of ys)) (λ ps. ps ≡ (c ∷ []) ∷ parts_of ys)
    (λ e. let p = pair_is c 10 e in absurd (omega (arith, h [] (10 ∷ ys) (ap (λ a. a ∷ 10 ∷ 10 ∷ ys) p.0))))
    (λ e. refl)
first_part (c ∷ d ∷ cs) ys h =
    cond_both (c == 10 && d == 10) ([] ∷ parts_of (cs ++ 10 ∷ 10 ∷ ys)) (onto_first c (parts_of ((d ∷ cs) ++ 10 ∷ 10 ∷ ys))) (λ ps. ps ≡ (c ∷ d ∷ cs) ∷ parts_of ys)
    (λ e. let p = pair_is c d e in absurd (omega (arith, h [] (cs ++ 10 ∷ 10 ∷ ys) (ap (λ a. a ∷ d ∷ cs ++ 10 ∷ 10 ∷ ys) p.0 ∙ ap (λ b. 10 ∷ b ∷ cs ++ 10 ∷ 10 ∷ ys) p.1))))
    (λ e. ap (onto_first c) (first_part (d ∷ cs) ys (none_after c (d ∷ cs) ys h)))

-- a text whose characters have a pair has one behind the bytes of those before it
bytes_are : (t xs ys : List ℕ) → IsUtf8 t → chars t ≡ xs ++ 10 ∷ 10 ∷ ys → t ≡ encode_utf8_all xs ++ 10 ∷ 10 ∷ encode_utf8_all ys
unfolding lib.Utf8.encode
bytes_are t xs ys u e = sym (encodes-chars t u) ∙ ap encode_utf8_all e ∙ encodes-append xs (10 ∷ 10 ∷ ys)

found_at : (t xs ys : List ℕ) → IsUtf8 t → chars t ≡ xs ++ 10 ∷ 10 ∷ ys → drop (length (encode_utf8_all xs)) t ≡ (10 ∷ 10 ∷ []) ++ encode_utf8_all ys
found_at t xs ys u e = ap (drop (length (encode_utf8_all xs))) (bytes_are t xs ys u e) ∙ drop-append_seam (encode_utf8_all xs) (10 ∷ 10 ∷ encode_utf8_all ys)

-- no pair is found in a text
pub last_part : (t : List ℕ) → IsUtf8 t → FindsText (10 ∷ 10 ∷ []) t None → parts_of (chars t) ≡ chars t ∷ []
last_part t u none = one_part (chars t) (λ xs ys e. none (length (encode_utf8_all xs)) (within xs ys e) (encode_utf8_all ys) (found_at t xs ys u e))
  where
    within : (xs ys : List ℕ) → chars t ≡ xs ++ 10 ∷ 10 ∷ ys → length (encode_utf8_all xs) ≤ length t
    within xs ys e = omega (arith, ap length (bytes_are t xs ys u e), length-append (encode_utf8_all xs) (10 ∷ 10 ∷ encode_utf8_all ys))

-- the bytes of fewer characters at the front of a text are fewer
fewer : (xs ys bs ds : List ℕ) → xs ++ ys ≡ bs ++ ds → length bs ≤ length xs → length (encode_utf8_all bs) + (length xs - length bs) ≤ length (encode_utf8_all xs)
fewer xs ys bs ds e l =
    let n : ℕ = length bs in
    let front : take n xs ≡ bs = sym (take-append-le n xs ys l) ∙ ap (take n) e ∙ take-append_seam bs ds in
    let whole : encode_utf8_all xs ≡ encode_utf8_all bs ++ encode_utf8_all (drop n xs) =
    ap encode_utf8_all (sym (take-append-drop n xs) ∙ ap (λ ts. ts ++ drop n xs) front) ∙ encodes-append bs (drop n xs) in
    omega (arith, ap length whole, length-append (encode_utf8_all bs) (encode_utf8_all (drop n xs)), length-le-encodes (drop n xs), length-drop n xs)

two_feeds : (back : List ℕ) → chars (10 ∷ 10 ∷ back) ≡ 10 ∷ 10 ∷ chars back
unfolding chars lib.Utf8.encode
two_feeds back = chars-append (10 ∷ 10 ∷ []) back (10 ∷ 10 ∷ [], (refl, refl))

-- the first pair of a text is found between two others
pub next_part : (t front back : List ℕ) → IsUtf8 t → IsUtf8 front → SplitsAroundMatch (FindsText (10 ∷ 10 ∷ [])) t front back → parts_of (chars t) ≡ chars front ∷ parts_of (chars back)
next_part t front back u f (i, j, found, is_front, is_back, ordered, count, rest) =
    let whole : t ≡ front ++ 10 ∷ 10 ∷ back = sym (take-append-drop i t) ∙ ap (λ x. x ++ drop i t) (sym is_front) ∙ ap (λ y. front ++ y) (found.1.split ∙ ap (λ y. 10 ∷ 10 ∷ y) (sym is_back)) in
    let characters : chars t ≡ chars front ++ 10 ∷ 10 ∷ chars back = ap chars whole ∙ chars-append front (10 ∷ 10 ∷ back) f ∙ ap (λ cs. chars front ++ cs) (two_feeds back) in
    let lacks : (bs ds : List ℕ) → chars front ++ 10 ∷ 10 ∷ chars back ≡ bs ++ 10 ∷ 10 ∷ ds → length (encode_utf8_all bs) < i → ⊥ =
    λ bs ds e l. found.0 (length (encode_utf8_all bs)) l (encode_utf8_all ds) (found_at t bs ds u (characters ∙ e)) in
    ap parts_of characters ∙ first_part (chars front) (chars back) (λ bs ds e. elim (cases_lt (length bs) (length (chars front))) [
      | inl under ↦ absurd (lacks bs ds e (omega (arith, under, fewer (chars front) (10 ∷ 10 ∷ chars back) bs (10 ∷ 10 ∷ ds) e (omega (arith, under)), ap length (encodes-chars front f), count)))
      | inr over ↦ over
    ])

-- ---- formulas

-- a text that isn't empty has characters
pub no_text : (t : List ℕ) → IsUtf8 t → (length t == 0) ≡ false → chars t ≡ [] → ⊥
no_text t u some none =
    let empty : t ≡ [] = sym (encodes-chars t u) ∙ ap encode_utf8_all none in
    let no : true ≡ false = ap (λ (t : List ℕ). length t == 0) (sym empty) ∙ some in cc

module _ (element : Tag) (choices : List OptionSetting) (line : ℕ) where
  after_more : (ns : List Node) (node : Node) → holder_after (ns ++ node ∷ []) ≡ Further
  after_more [] node = refl
  after_more (n ∷ ns) node = refl

  -- a formula comes after others
  pub formula_added : (ns : List Node) (t : List ℕ) (node : Node) → (t ≡ [] → ⊥) → node ≡ formula (holder_after ns) element choices line t → (parts : List (List ℕ))
      → (ns ++ node ∷ []) ++ formulas_from (holder_after (ns ++ node ∷ [])) element choices line parts ≡ ns ++ formulas_from (holder_after ns) element choices line (t ∷ parts)
  formula_added ns [] node some e parts = absurd (some refl)
  formula_added ns (c ∷ cs) node some e parts =
      ap (λ h. (ns ++ node ∷ []) ++ formulas_from h element choices line parts) (after_more ns node)
      ∙ append_assoc ns (node ∷ []) (formulas_from Further element choices line parts)
      ∙ ap (λ n. ns ++ n ∷ formulas_from Further element choices line parts) e
