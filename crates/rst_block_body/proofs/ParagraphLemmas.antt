-- Paragraphs, step by step.
use Rattle.std.proofs.Common.{◌≡◌, ℕ, suc, ◌+◌, ◌-◌, ◌<◌, ◌≤◌, Bool, true, false, not, List, [], ◌∷◌, ◌++◌, length, length-drop, take, drop, Ok, refl, sym, ap, ◌∙◌, arith, append_assoc, append-nil}
use Rattle.std.specs.Prelude.{codes, if◌then◌else◌}
use Rattle.rst_text.specs.Block.{Block, first_text, first_number, first_parts}
use Rattle.rst_tree.specs.declared.node.Node.{Node}
use Rattle.rst_tree.specs.declared.note.Level.TheVariants.{Error}
use Rattle.rst_markup_lines.specs.Closing.{ends_in_colons}
use Rattle.rst_markup_lines.specs.TextStart.{is_loose}
use Rattle.rst_markup_blocks.specs.Lines.{lines_while}
use Rattle.rst_markup_blocks.specs.Sizes.{literal_size, paragraph_len, run_size, paragraph_size, last_text}
use Rattle.rst_markup_blocks.specs.declared.lines.LineTest.TheVariants.{Plain}
use Rattle.rst_block_state.specs.Literals.{announced, text_paragraph, after_paragraph, literal_nodes, paragraph_nodes}
use Rattle.rst_block_state.specs.Numbered.{then_read, ◌>>=◌, just}
use Rattle.rst_block_body.specs.TextSteps.{paragraph_with_text, paragraph_between, paragraph_end}
use Rattle.rst_block_state.specs.Texts.{joined, unless_blank}
use Rattle.rst_block_body.proofs.LiteralLemmas.{colons_last}
use Rattle.rst_block_state.proofs.NumberedLemmas.{same_after, after_after}
use Rattle.rst_block_state.proofs.RestLemmas.{lines_after}

-- ---- with and without a literal block

-- the message at an indented line that follows
abbrev pub indentation_error : Block → List Node
indentation_error X = unless_blank Error (codes "Unexpected indentation.") X

text_after : (B : Block) (i j : ℕ) → i < j → drop (j - i) (drop i B) ≡ drop j B
text_after B i j h = lines_after B i (j - i) j (omega arith)

last_line : (B : Block) (i j : ℕ) → i < j → drop (j - i - 1) (drop i B) ≡ drop (j - 1) B
last_line B i j h = lines_after B i (j - i - 1) (j - 1) (omega arith)

after_plain : (t : List ℕ) (i j : ℕ) (B : Block) → ends_in_colons t ≡ false → i < j → after_paragraph (j - i) t (drop i B) ≡ indentation_error (drop j B)
after_plain t i j B h w =
    let Y : Block = drop (j - i) (drop i B) in
    ap (λ (b : Bool). indentation_error Y ++ (if b then literal_nodes (first_number (drop (j - i - 1) (drop i B))) Y else [])) h
    ∙ append-nil (indentation_error Y) ∙ ap indentation_error (text_after B i j w)

after_colons : (t : List ℕ) (i j : ℕ) (B : Block) → ends_in_colons t ≡ true → i < j
    → after_paragraph (j - i) t (drop i B) ≡ indentation_error (drop j B) ++ literal_nodes (first_number (drop (j - 1) B)) (drop j B)
after_colons t i j B h w =
    let Y : Block = drop (j - i) (drop i B) in
    ap (λ (b : Bool). indentation_error Y ++ (if b then literal_nodes (first_number (drop (j - i - 1) (drop i B))) Y else [])) h
    ∙ ap (λ X. indentation_error X ++ literal_nodes (first_number (drop (j - i - 1) (drop i B))) X) (text_after B i j w)
    ∙ ap (λ X. indentation_error (drop j B) ++ literal_nodes (first_number X) (drop j B)) (last_line B i j w)

-- a paragraph that announces no literal block
pub between_plain : (t : List ℕ) (i j n next : ℕ) (B : Block) (more : List Node) → ends_in_colons t ≡ false → i < j
    → paragraph_with_text t i j B n ≡ Ok (more, next) → paragraph_between t i j B n ≡ Ok (more, next)
between_plain t i j n next B more h w r =
    let line : ℕ = first_number (drop i B) in
    let same : announced t ≡ t = rw h refl in
    ap (λ u. (text_paragraph (first_parts (drop i B)) line u >>= λ nodes. just (nodes ++ after_paragraph (j - i) t (drop i B))) n) same
    ∙ same_after (text_paragraph (first_parts (drop i B)) line t n) (λ nodes. just (nodes ++ after_paragraph (j - i) t (drop i B))) (λ nodes. just (nodes ++ indentation_error (drop j B)))
    (λ nodes k. ap (λ (xs : List Node). just (nodes ++ xs) k) (after_plain t i j B h w))
    ∙ r

-- a paragraph that announces a literal block
pub between_colons : (t u : List ℕ) (i j n next : ℕ) (B : Block) (more : List Node) → ends_in_colons t ≡ true → u ≡ announced t → i < j
    → paragraph_with_text u i j B n ≡ Ok (more, next) → paragraph_between t i j B n ≡ Ok (more ++ literal_nodes (first_number (drop (j - 1) B)) (drop j B), next)
between_colons t u i j n next B more h e w r =
    let line : ℕ = first_number (drop i B) in
    let L : List Node = literal_nodes (first_number (drop (j - 1) B)) (drop j B) in
    ap (λ x. (text_paragraph (first_parts (drop i B)) line x >>= λ nodes. just (nodes ++ after_paragraph (j - i) t (drop i B))) n) (sym e)
    ∙ same_after (text_paragraph (first_parts (drop i B)) line u n) (λ nodes. just (nodes ++ after_paragraph (j - i) t (drop i B))) (λ nodes. just (nodes ++ indentation_error (drop j B)) >>= λ xs. just (xs ++ L))
    (λ nodes k. ap (λ (xs : List Node). just (nodes ++ xs) k) (after_colons t i j B h w) ∙ ap (λ (xs : List Node). just xs k) (sym (append_assoc nodes (indentation_error (drop j B)) L)))
    ∙ sym (after_after (text_paragraph (first_parts (drop i B)) line u n) (λ nodes. just (nodes ++ indentation_error (drop j B))) (λ xs. just (xs ++ L)))
    ∙ ap (then_read (λ (xs : List Node). just (xs ++ L))) r

pub end_plain : (t : List ℕ) (j : ℕ) (B : Block) → ends_in_colons t ≡ false → j ≡ paragraph_end t j B
end_plain t j B h = rw h (omega arith)

pub end_colons : (t : List ℕ) (j : ℕ) (B : Block) → ends_in_colons t ≡ true → j + literal_size (drop j B) ≡ paragraph_end t j B
end_colons t j B h = rw h refl

-- ---- all of a paragraph

-- a paragraph's own lines are its first one and those below it that are neither blank nor indented
own_some : (X : Block) → paragraph_len X ≡ suc (lines_while Plain (drop 1 X))
unfolding paragraph_len run_size
own_some X = refl

own_within : (X : Block) → lines_while Plain X ≤ length X
unfolding lines_while
own_within [] = omega arith
own_within (l ∷ ls) = by (is_loose l.text) (own_within ls)
  where
    by : (b : Bool) → lines_while Plain ls ≤ length ls → (if not b then suc (lines_while Plain ls) else 0) ≤ suc (length ls)
    by true h = omega arith
    by false h = omega arith

size_is : (X : Block) → paragraph_size X ≡ paragraph_len X + (if ends_in_colons (last_text X) then literal_size (drop (paragraph_len X) X) else 0)
unfolding paragraph_size
size_is X = refl

-- the place where a paragraph ends, from its text
pub record IsParagraph (B : Block) (i j : ℕ) (t : List ℕ) : Type 0 where
  pub inside : i < length B
  pub end : j ≡ i + 1 + lines_while Plain (drop (i + 1) B)
  pub text : t ≡ joined (take (j - i) (drop i B))

pub found_paragraph : (B : Block) (i j : ℕ) (t : List ℕ) → i < length B → j ≡ i + 1 + lines_while Plain (drop (i + 1) B) → t ≡ joined (take (j - i) (drop i B)) → IsParagraph B i j t
found_paragraph B i j t inside end text = record { inside = inside; end = end; text = text }

len_is : (B : Block) (i j : ℕ) (t : List ℕ) → IsParagraph B i j t → j ≡ i + paragraph_len (drop i B)
len_is B i j t p = omega (arith, p.end, own_some (drop i B), ap (lines_while Plain) (lines_after B i 1 (i + 1) refl))

pub ends_later : (B : Block) (i j : ℕ) (t : List ℕ) → IsParagraph B i j t → i < j
ends_later B i j t p = omega (arith, len_is B i j t p, own_some (drop i B))

pub between_all : (B : Block) (i j n : ℕ) (t : List ℕ) → IsParagraph B i j t → paragraph_between t i j B n ≡ paragraph_nodes [] (drop i B) n
between_all B i j n t p =
    let X : Block = drop i B in
    let size : j - i ≡ paragraph_len (drop i B) = omega (arith, len_is B i j t p) in
    ap (λ u. (text_paragraph (first_parts X) (first_number X) (announced u) >>= λ nodes. just (nodes ++ after_paragraph (j - i) u X)) n) p.text
    ∙ ap (λ k. (text_paragraph (first_parts X) (first_number X) (announced (joined (take k X))) >>= λ nodes. just (nodes ++ after_paragraph k (joined (take k X)) X)) n) size

pub end_all : (B : Block) (i j : ℕ) (t : List ℕ) → IsParagraph B i j t → paragraph_end t j B ≡ i + paragraph_size (drop i B)
end_all B i j t p =
    let X : Block = drop i B in
    let len : j ≡ i + paragraph_len (drop i B) = len_is B i j t p in
    let last : ℕ = lines_while Plain (drop 1 X) in
    let some : paragraph_len X ≡ suc (lines_while Plain (drop 1 (drop i B))) = own_some X in
    let size : j - i ≡ suc (lines_while Plain (drop 1 (drop i B))) = omega (arith, len, some) in
    let before : paragraph_len X - 1 ≡ lines_while Plain (drop 1 (drop i B)) = omega (arith, some) in
    let within : lines_while Plain (drop 1 (drop i B)) < length X = omega (arith, own_within (drop 1 X), length-drop 1 X, length-drop i B, p.inside) in
    let tells : ends_in_colons t ≡ ends_in_colons (last_text X) =
    ap ends_in_colons (p.text ∙ ap (λ k. joined (take k X)) size) ∙ colons_last last X within ∙ ap (λ k. ends_in_colons (first_text (drop k X))) (sym before) in
    let more : ℕ = if ends_in_colons (last_text X) then literal_size (drop (paragraph_len X) X) else 0 in
    ap (λ (b : Bool). j + (if b then literal_size (drop j B) else 0)) tells
    ∙ ap (λ Y. j + (if ends_in_colons (last_text X) then literal_size Y else 0)) (sym (lines_after B i (paragraph_len X) j len))
    ∙ ap (λ k. k + more) len
    ∙ sum i (paragraph_len X) more
    ∙ ap (λ k. i + k) (sym (size_is X))
  where
    sum : (a b c : ℕ) → a + b + c ≡ a + (b + c)
    sum a b c = omega arith

-- the text of a paragraph of one line
pub one_line : (X : Block) (n : ℕ) → 1 ≤ length X → n ≡ 1 → first_text X ≡ joined (take n X)
one_line [] n h e = absurd (omega arith)
one_line (l ∷ ls) n h e = rw e refl

-- a paragraph comes after the messages that explain why its line is a text
pub after_infos : (infos : List Node) (X : Block) (n next : ℕ) (more : List Node) → paragraph_nodes [] X n ≡ Ok (more, next) → paragraph_nodes infos X n ≡ Ok (infos ++ more, next)
after_infos infos X n next more r =
    let t : List ℕ = joined (take (paragraph_len X) X) in
    let A : List Node = after_paragraph (paragraph_len X) t X in
    let read = text_paragraph (first_parts X) (first_number X) (announced t) n in
    same_after read (λ nodes. just (infos ++ nodes ++ A)) (λ nodes. just (nodes ++ A) >>= λ xs. just (infos ++ xs)) (λ nodes k. ap (λ (xs : List Node). just xs k) (append_assoc infos nodes A))
    ∙ sym (after_after read (λ nodes. just (nodes ++ A)) (λ xs. just (infos ++ xs))) ∙ ap (then_read (λ (xs : List Node). just (infos ++ xs))) r
