-- Literal blocks and the paragraphs that announce them, and doctest blocks.
use Rattle.std.proofs.Common.{◌≡◌, ℕ, zero, suc, ◌+◌, ◌-◌, ◌<◌, ◌≤◌, ◌==◌, ◌⊎◌, inl, inr, Bool, true, false, List, [], ◌∷◌, ◌++◌, length, length-append, length-drop, get_or, take, drop, Option, None, Some, refl, sym, ap, ◌∙◌, arith, lt-ltb, le-ltb, le-leb, get_or-append-add}
use Rattle.std.specs.Prelude.{codes, if◌then◌else◌}
use Rattle.std.proofs.lemmas.Bool.{eqb-true}
use Rattle.std.proofs.lemmas.List.{drop_all}
use Rattle.rst_text.specs.Block.{Block, first_text, first_number, indentation, is_blank}
use Rattle.rst_text.specs.Extent.{extent, past_blank}
use Rattle.rst_tree.specs.declared.node.Node.{Node}
use Rattle.rst_tree.specs.declared.tag.Tag.TheVariants.{LiteralBlock}
use Rattle.rst_text.specs.Escapes.{is_escaped}
use Rattle.rst_markup_lines.specs.Adornment.{is_punctuation}
use Rattle.rst_markup_lines.specs.Closing.{ends_in_colons}
use Rattle.rst_markup_lines.specs.TextStart.{first, begins_with}
use Rattle.rst_markup_blocks.specs.Lines.{lines_while}
use Rattle.rst_markup_blocks.specs.Sizes.{quoted_size, quoted_len, literal_size}
use Rattle.rst_markup_blocks.specs.declared.lines.LineTest.TheVariants.{Blank, Begins}
use Rattle.rst_block_nodes.specs.Elements.{preserved_node}
use Rattle.rst_block_state.specs.Literals.{quoting_text, literal_node, indented_literal, quoted_literal, no_literal, literal_by, literal_nodes}
use Rattle.rst_block_state.specs.Texts.{joined, lines_in, system_message, span_source, spelled, unless_blank, warned}
use Rattle.rst_tree.specs.declared.note.Level.TheVariants.{Warning, Error}
use Rattle.rst_block_state.specs.Within.{indented_part}
use Rattle.rst_block_state.proofs.RestLemmas.{lines_after}

-- ---- how many lines a literal block has

-- this many lines with the blank ones before them, unless there is nothing but blank ones
abbrev pub with_blanks : ℕ → ℕ → ℕ
with_blanks blanks zero = 0
with_blanks blanks (suc n) = blanks + suc n

none_before : (n : ℕ) → with_blanks 0 n ≡ n
none_before zero = refl
none_before (suc n) = omega arith

one_before : (b n : ℕ) → past_blank (with_blanks b n) ≡ with_blanks (suc b) n
one_before b zero = refl
one_before b (suc n) = rw (let e : b + suc n ≡ suc (b + n) = omega arith in e) (let f : suc (suc (b + n)) ≡ suc b + suc n = omega arith in f)

-- an extent with the blank lines before it
extent_after_blanks : (Y : Block) → extent 1 Y ≡ with_blanks (lines_while Blank Y) (extent 1 (drop (lines_while Blank Y) Y))
unfolding extent lines_while
extent_after_blanks [] = refl
extent_after_blanks (l ∷ ls) = by (is_blank l.text) refl (extent_after_blanks ls)
  where
    by : (b : Bool) → is_blank l.text ≡ b → extent 1 ls ≡ with_blanks (lines_while Blank ls) (extent 1 (drop (lines_while Blank ls) ls))
        → extent 1 (l ∷ ls) ≡ with_blanks (lines_while Blank (l ∷ ls)) (extent 1 (drop (lines_while Blank (l ∷ ls)) (l ∷ ls)))
    by true e h = rw e (ap past_blank h ∙ one_before (lines_while Blank ls) (extent 1 (drop (lines_while Blank ls) ls)))
    by false e h =
        let none : lines_while Blank (l ∷ ls) ≡ 0 = rw e refl in
        sym (none_before (extent 1 (l ∷ ls))) ∙ ap (λ n. with_blanks n (extent 1 (drop n (l ∷ ls)))) (sym none)

-- a line that begins with a space begins an extent, and no other line does
extent_some : (Z : Block) → begins_with 32 (first_text Z) ≡ true → (n : ℕ) × (extent 1 Z ≡ suc n)
unfolding extent
extent_some [] h = absurd (let no : false ≡ true = h in cc)
extent_some (l ∷ ls) h = by l.text refl h
  where
    by : (t : List ℕ) → l.text ≡ t → begins_with 32 t ≡ true → (n : ℕ) × (extent 1 (l ∷ ls) ≡ suc n)
    by [] e h = absurd (let no : false ≡ true = h in cc)
    by (c ∷ cs) e h = (extent 1 ls, rw e (rw h (rw (le-leb 1 (suc (indentation cs)) (omega arith)) refl)))

extent_none : (Z : Block) → begins_with 32 (first_text Z) ≡ false → is_blank (first_text Z) ≡ false → extent 1 Z ≡ 0
unfolding extent
extent_none [] h k = refl
extent_none (l ∷ ls) h k = by l.text refl h k
  where
    by : (t : List ℕ) → l.text ≡ t → begins_with 32 t ≡ false → is_blank t ≡ false → extent 1 (l ∷ ls) ≡ 0
    by [] e h k = absurd (let no : true ≡ false = k in cc)
    by (c ∷ cs) e h k = rw e (rw h refl)

-- where the line after the blank ones is blank, there is none
stopped : (Y : Block) → is_blank (first_text (drop (lines_while Blank Y) Y)) ≡ true → drop (lines_while Blank Y) Y ≡ []
unfolding lines_while
stopped [] h = refl
stopped (l ∷ ls) h = by (is_blank l.text) refl (stopped ls) h
  where
    by : (b : Bool) → is_blank l.text ≡ b → (is_blank (first_text (drop (lines_while Blank ls) ls)) ≡ true → drop (lines_while Blank ls) ls ≡ [])
        → is_blank (first_text (drop (lines_while Blank (l ∷ ls)) (l ∷ ls))) ≡ true → drop (lines_while Blank (l ∷ ls)) (l ∷ ls) ≡ []
    by true e more h = rw e (more (rw e at h))
    by false e more h = absurd (let no : is_blank l.text ≡ true = rw e at h in let both : true ≡ false = sym no ∙ e in cc)

-- what comes after the blank lines
abbrev pub after_blanks : Block → Block
after_blanks Y = drop (lines_while Blank Y) Y

-- the lines of a literal block, by the first character after the blank lines before it
abbrev pub size_by : Option ℕ → ℕ → Block → ℕ
size_by None blanks Z = 0
size_by (Some c) blanks Z = if c == 32 then blanks + extent 1 Z else if is_punctuation c then blanks + lines_while (Begins c) Z else 0

no_extent : (Y : Block) → extent 1 (after_blanks Y) ≡ 0 → literal_size Y ≡ quoted_size (lines_while Blank Y) Y
unfolding literal_size
no_extent Y h =
    let none : extent 1 Y ≡ 0 = extent_after_blanks Y ∙ ap (with_blanks (lines_while Blank Y)) h in
    rw (le-ltb 0 (extent 1 Y) (omega (arith, none))) refl

not_blank : (t : List ℕ) (c : ℕ) → first t ≡ Some c → is_blank t ≡ false
not_blank [] c h = cc
not_blank (d ∷ ds) c h = refl

is_none : (t : List ℕ) → first t ≡ None → is_blank t ≡ true
is_none [] h = refl
is_none (c ∷ cs) h = cc

no_lines : extent 1 [] ≡ 0
unfolding extent
no_lines = refl

begins_by : (t : List ℕ) (c : ℕ) → first t ≡ Some c → begins_with 32 t ≡ (c == 32)
begins_by [] c h = cc
begins_by (d ∷ ds) c h = let same : d ≡ c = cc in ap (λ x. x == 32) same

sized : (Y : Block) (o : Option ℕ) → first (first_text (after_blanks Y)) ≡ o → literal_size Y ≡ size_by o (lines_while Blank Y) (after_blanks Y)
unfolding literal_size quoted_size
sized Y None f =
    no_extent Y (ap (extent 1) (stopped Y (is_none (first_text (after_blanks Y)) f)) ∙ no_lines)
    ∙ ap (λ o. quoted_len o (lines_while Blank Y) Y) f
sized Y (Some c) f = by (c == 32) refl
  where
    by : (b : Bool) → (c == 32) ≡ b → literal_size Y ≡ size_by (Some c) (lines_while Blank Y) (after_blanks Y)
    by true e =
        let some = extent_some (after_blanks Y) (begins_by (first_text (after_blanks Y)) c f ∙ e) in
        let all : extent 1 Y ≡ lines_while Blank Y + extent 1 (after_blanks Y) =
        extent_after_blanks Y ∙ ap (with_blanks (lines_while Blank Y)) some.1 ∙ ap (λ n. lines_while Blank Y + n) (sym some.1) in
        rw (lt-ltb 0 (extent 1 Y) (omega (arith, all, some.1)), e) all
    by false e =
        no_extent Y (extent_none (after_blanks Y) (begins_by (first_text (after_blanks Y)) c f ∙ e) (not_blank (first_text (after_blanks Y)) c f))
        ∙ ap (λ o. quoted_len o (lines_while Blank Y) Y) f ∙ rw e refl

-- ---- quoted literal blocks

one_at_least : (c : ℕ) (Z : Block) → begins_with c (first_text Z) ≡ true → (n : ℕ) × (lines_while (Begins c) Z ≡ suc n)
unfolding lines_while
one_at_least c [] h = absurd (let no : false ≡ true = h in cc)
one_at_least c (l ∷ ls) h = (lines_while (Begins c) ls, rw h refl)

first_taken : (n : ℕ) (Z : Block) → first_number (take (suc n) Z) ≡ first_number Z
first_taken n [] = refl
first_taken n (l ∷ ls) = refl

-- the literal block of some lines of a block that begin with a character
pub quoted_node : (B : Block) (i j c line : ℕ) (bytes : List ℕ) → begins_with c (first_text (drop i B)) ≡ true → j ≡ i + lines_while (Begins c) (drop i B)
    → line ≡ first_number (drop i B) → bytes ≡ span_source B (record { start = i; stop = j })
    → preserved_node LiteralBlock line bytes ≡ literal_node (take (lines_while (Begins c) (drop i B)) (drop i B))
quoted_node B i j c line bytes h e l s =
    let n : ℕ = lines_while (Begins c) (drop i B) in
    let some = one_at_least c (drop i B) h in
    let lines : j - i ≡ lines_while (Begins c) (drop i B) = omega arith in
    ap (λ k. preserved_node LiteralBlock k bytes) (l ∙ sym (first_taken some.0 (drop i B)) ∙ ap (λ k. first_number (take k (drop i B))) (sym some.1))
    ∙ ap (preserved_node LiteralBlock (first_number (take n (drop i B)))) (s ∙ ap (λ k. spelled (take k (drop i B))) lines)

-- ---- texts and lines

-- no message where a line is blank, and one where it isn't
pub no_message : (n i j : ℕ) (text : List ℕ) (B : Block) → j ≡ i + n → is_blank (first_text (drop j B)) ≡ true → unless_blank Error text (drop n (drop i B)) ≡ []
no_message n i j text B e h = rw (lines_after B i n j e) (rw h refl)

pub one_message : (n i j line : ℕ) (text message_text : List ℕ) (B : Block) (node : Node) → j ≡ i + n → is_blank (first_text (drop j B)) ≡ false → line ≡ first_number (drop j B) → message_text ≡ text
    → node ≡ system_message Error line message_text → node ∷ [] ≡ unless_blank Error text (drop n (drop i B))
one_message n i j line text message_text B node e h l t is = rw (lines_after B i n j e) (rw (h, is, l, t) refl)

pub quoting_spaced : (t : List ℕ) → begins_with 32 t ≡ true → codes "Unexpected indentation." ≡ quoting_text t
quoting_spaced t h = rw h refl

pub quoting_other : (t : List ℕ) → begins_with 32 t ≡ false → codes "Inconsistent literal block quoting." ≡ quoting_text t
quoting_other t h = rw h refl

-- a quoted literal block with the message at the line that follows it, if there is one
pub quoted_whole : (B : Block) (i j c : ℕ) (node : Node) (notes : List Node) → j ≡ i + lines_while (Begins c) (drop i B)
    → node ≡ literal_node (take (lines_while (Begins c) (drop i B)) (drop i B))
    → notes ≡ unless_blank Error (quoting_text (first_text (drop j B))) (drop (lines_while (Begins c) (drop i B)) (drop i B))
    → node ∷ notes ≡ quoted_literal (lines_while (Begins c) (drop i B)) (drop i B)
quoted_whole B i j c node notes e n m =
    let n0 : ℕ = lines_while (Begins c) (drop i B) in
    ap (λ (x : Node). x ∷ notes) n
    ∙ ap (λ (xs : List Node). literal_node (take n0 (drop i B)) ∷ xs) (m ∙ ap (λ X. unless_blank Error (quoting_text (first_text X)) (drop n0 (drop i B))) (sym (lines_after B i n0 j e)))

-- the WARNING where there is no literal block
pub no_literal_is : (B : Block) (i line last : ℕ) → (((i < length B) × (line ≡ first_number (drop i B))) ⊎ ((length B ≤ i) × (line ≡ last)))
    → system_message Warning line (codes "Literal block expected; none found.") ∷ [] ≡ no_literal last (drop i B)
no_literal_is B i line last (inl h) = by (drop i B) refl
  where
    by : (Z : Block) → drop i B ≡ Z → system_message Warning line (codes "Literal block expected; none found.") ∷ [] ≡ no_literal last Z
    by [] e = absurd (omega (arith, h.0, length-drop i B, ap length e))
    by (l ∷ ls) e = let n : line ≡ l.number = h.1 ∙ ap first_number e in rw n refl
no_literal_is B i line last (inr h) = rw (drop_all i B h.0) (rw h.1 refl)

-- ---- indented literal blocks

-- the indented lines from a place on are those with which the lines from there begin
part_same : (B : Block) (i : ℕ) → lines_in B (indented_part i (drop i B)) ≡ lines_in (drop i B) (indented_part 0 (drop i B))
part_same B i =
    let n : i + extent 1 (drop i B) - i ≡ extent 1 (drop i B) = omega arith in
    let m : 0 + extent 1 (drop i B) - 0 ≡ extent 1 (drop i B) = omega arith in
    rw (n, m) refl

-- an indented literal block with the WARNING where no blank line follows it
pub indented_whole : (B : Block) (i j line : ℕ) (bytes : List ℕ) → j ≡ i + extent 1 (drop i B) → line ≡ first_number (drop i B) → bytes ≡ spelled (lines_in B (indented_part i (drop i B)))
    → preserved_node LiteralBlock line bytes ∷ warned (codes "Literal block ends without a blank line; unexpected unindent.") (drop j B) ≡ indented_literal (drop i B)
indented_whole B i j line bytes e l s =
    ap (λ X. preserved_node LiteralBlock line bytes ∷ warned (codes "Literal block ends without a blank line; unexpected unindent.") X) (sym (lines_after B i (extent 1 (drop i B)) j e))
    ∙ ap (λ k. preserved_node LiteralBlock k bytes ∷ warned (codes "Literal block ends without a blank line; unexpected unindent.") (drop (extent 1 (drop i B)) (drop i B))) l
    ∙ ap (λ t. preserved_node LiteralBlock (first_number (drop i B)) t ∷ warned (codes "Literal block ends without a blank line; unexpected unindent.") (drop (extent 1 (drop i B)) (drop i B)))
    (s ∙ ap spelled (part_same B i))

-- ---- two colons at the end

later_at : (xs ys : List ℕ) (i : ℕ) → get_or (xs ++ ys) (length xs + i) 0 ≡ get_or ys i 0
later_at xs ys i = get_or-append-add xs ys i 0

-- what comes before a line feed escapes nothing after it
escaped_after : (xs ys : List ℕ) (i : ℕ) → is_escaped (xs ++ 10 ∷ ys) 0 (length xs + suc i) ≡ is_escaped ys 0 i
unfolding is_escaped
escaped_after xs ys zero =
    let e : length xs + 1 ≡ suc (length xs + 0) = omega arith in
    rw e (rw (later_at xs (10 ∷ ys) 0) (rw (le-leb 0 (length xs + 0) (omega arith)) refl))
escaped_after xs ys (suc i) =
    let e : length xs + suc (suc i) ≡ suc (length xs + suc i) = omega arith in
    rw e (rw (later_at xs (10 ∷ ys) (suc i), escaped_after xs ys i, le-leb 0 (length xs + suc i) (omega arith), le-leb 0 i (omega arith)) refl)

-- two colons at the end of the last line of a text are at the end of the text
colons_after : (xs ys : List ℕ) → ends_in_colons (xs ++ 10 ∷ ys) ≡ ends_in_colons ys
colons_after xs ys = by (length ys) refl
  where
    whole : (n : ℕ) → length ys ≡ n → length (xs ++ 10 ∷ ys) ≡ length xs + suc n
    whole n e = length-append xs (10 ∷ ys) ∙ ap (λ k. length xs + suc k) e

    by : (n : ℕ) → length ys ≡ n → ends_in_colons (xs ++ 10 ∷ ys) ≡ ends_in_colons ys
    by zero e =
        let w : length (xs ++ 10 ∷ ys) ≡ length xs + 1 = whole 0 e in
        let last : length xs + 1 - 1 ≡ length xs + 0 = omega arith in
        grind (arith, w, last, e, later_at xs (10 ∷ ys) 0)
    by (suc zero) e =
        let w : length (xs ++ 10 ∷ ys) ≡ length xs + 2 = whole 1 e in
        let last : length xs + 2 - 2 ≡ length xs + 0 = omega arith in
        grind (arith, w, last, e, later_at xs (10 ∷ ys) 0)
    by (suc (suc n)) e =
        let w : length (xs ++ 10 ∷ ys) ≡ length xs + suc (suc (suc n)) = whole (suc (suc n)) e in
        let a : length xs + suc (suc (suc n)) - 2 ≡ length xs + suc n = omega arith in
        let b : length xs + suc (suc (suc n)) - 1 ≡ length xs + suc (suc n) = omega arith in
        let c : suc (suc n) - 2 ≡ n = omega arith in
        let d : suc (suc n) - 1 ≡ suc n = omega arith in
        rw (
          w,
          e,
          a,
          b,
          c,
          d,
          later_at xs (10 ∷ ys) (suc n),
          later_at xs (10 ∷ ys) (suc (suc n)),
          escaped_after xs ys n,
          lt-ltb (length xs + suc n) (length xs + suc (suc (suc n))) (omega arith),
          lt-ltb (length xs + suc (suc n)) (length xs + suc (suc (suc n))) (omega arith),
          lt-ltb n (suc (suc n)) (omega arith),
          lt-ltb (suc n) (suc (suc n)) (omega arith),
          le-leb 2 (length xs + suc (suc (suc n))) (omega arith),
          le-leb 2 (suc (suc n)) (omega arith),
        ) refl

-- the last of some lines decides whether their text ends in two colons
pub colons_last : (n : ℕ) (X : Block) → n < length X → ends_in_colons (joined (take (suc n) X)) ≡ ends_in_colons (first_text (drop n X))
colons_last n [] h = absurd (omega arith)
colons_last zero (l ∷ ls) h = refl
colons_last (suc n) (l ∷ []) h = absurd (omega arith)
colons_last (suc n) (l ∷ m ∷ ms) h = colons_after l.text (joined (take (suc n) (m ∷ ms))) ∙ colons_last n (m ∷ ms) (omega arith)

-- ---- a literal block after blank lines

-- what it gives and how many lines it has, by the first character after those
literal_here : (B : Block) (i j last : ℕ) {o : Option ℕ} → j ≡ i + lines_while Blank (drop i B) → first (first_text (drop j B)) ≡ o
    → (literal_by o last (drop j B) ≡ literal_nodes last (drop i B)) × (literal_size (drop i B) ≡ size_by o (lines_while Blank (drop i B)) (drop j B))
literal_here B i j last {o} e f =
    let same : after_blanks (drop i B) ≡ drop j B = lines_after B i (lines_while Blank (drop i B)) j e in (
      sym (ap (λ Z. literal_by (first (first_text Z)) last Z) same ∙ ap (λ o. literal_by o last (drop j B)) f),
      sized (drop i B) o (ap (λ Z. first (first_text Z)) same ∙ f) ∙ ap (size_by o (lines_while Blank (drop i B))) same,
    )

begins_first : (t : List ℕ) (c : ℕ) → begins_with c t ≡ true → first t ≡ Some c
begins_first [] c h = absurd (let no : false ≡ true = h in cc)
begins_first (d ∷ ds) c h = ap Some (eqb-true d c h)

pub indented_here : (B : Block) (i j last : ℕ) → j ≡ i + lines_while Blank (drop i B) → begins_with 32 (first_text (drop j B)) ≡ true
    → (indented_literal (drop j B) ≡ literal_nodes last (drop i B)) × (j + extent 1 (drop j B) ≡ i + literal_size (drop i B))
indented_here B i j last e h = let k = literal_here B i j last e (begins_first (first_text (drop j B)) 32 h) in (k.0, omega (arith, e, k.1))

pub quoted_here : (B : Block) (i j last c : ℕ) → j ≡ i + lines_while Blank (drop i B) → begins_with 32 (first_text (drop j B)) ≡ false → first (first_text (drop j B)) ≡ Some c
    → is_punctuation c ≡ true
    → (quoted_literal (lines_while (Begins c) (drop j B)) (drop j B) ≡ literal_nodes last (drop i B)) × (j + lines_while (Begins c) (drop j B) ≡ i + literal_size (drop i B))
quoted_here B i j last c e h f p =
    let other : (c == 32) ≡ false = sym (begins_by (first_text (drop j B)) c f) ∙ h in
    let k = literal_here B i j last e f in
    let given : literal_by (Some c) last (drop j B) ≡ quoted_literal (lines_while (Begins c) (drop j B)) (drop j B) = rw (other, p) refl in
    let size : size_by (Some c) (lines_while Blank (drop i B)) (drop j B) ≡ lines_while Blank (drop i B) + lines_while (Begins c) (drop j B) = rw (other, p) refl in
    (sym given ∙ k.0, omega (arith, e, k.1, size))

pub other_here : (B : Block) (i j last c : ℕ) → j ≡ i + lines_while Blank (drop i B) → begins_with 32 (first_text (drop j B)) ≡ false → first (first_text (drop j B)) ≡ Some c
    → is_punctuation c ≡ false → (no_literal last (drop j B) ≡ literal_nodes last (drop i B)) × (i ≡ i + literal_size (drop i B))
other_here B i j last c e h f p =
    let other : (c == 32) ≡ false = sym (begins_by (first_text (drop j B)) c f) ∙ h in
    let k = literal_here B i j last e f in
    let given : literal_by (Some c) last (drop j B) ≡ no_literal last (drop j B) = rw (other, p) refl in
    let size : size_by (Some c) (lines_while Blank (drop i B)) (drop j B) ≡ 0 = rw (other, p) refl in
    (sym given ∙ k.0, omega (arith, k.1, size))

pub none_here : (B : Block) (i j last : ℕ) → j ≡ i + lines_while Blank (drop i B) → first (first_text (drop j B)) ≡ None
    → (no_literal last (drop j B) ≡ literal_nodes last (drop i B)) × (i ≡ i + literal_size (drop i B))
none_here B i j last e f = let k = literal_here B i j last e f in (k.0, omega (arith, k.1))
