-- The blocks that a construct opens are in its lines, one after another, and begin with a line that isn't blank.
use Rattle.std.proofs.Common.{◌≡◌, ⊎_elim, ℕ, zero, suc, ◌+◌, ◌-◌, ◌<◌, ◌≤◌, Bool, true, false, not, ◌&&◌, ◌||◌, cond, List, [], ◌∷◌, ◌++◌, length, take, drop, length-drop, Option, None, Some, arith, refl, sym, ap, ◌∙◌, subst, leb, ltb, inl, inr, ◌⊎◌}
use Rattle.std.specs.Prelude.{IfSome, is_some}
use Rattle.std.specs.Option.{option_map_or}
use Rattle.std.proofs.lemmas.Bool.{cases_Bool as cases_bool, cases_lt}
use Rattle.std.proofs.lemmas.List.{drop-drop}
use Rattle.rst_text.proofs.Choices.{chosen}
use Rattle.rst_text.specs.Block.{Block, first_parts, first_text, is_blank}
use Rattle.rst_text.specs.Characters.{columns}
use Rattle.rst_text.specs.Extent.{extent}
use Rattle.rst_tree.specs.declared.node.Node.{Node}
use Rattle.rst_markup_lines.specs.Adornment.{adornment_of}
use Rattle.rst_markup_lines.specs.Enumerator.{enumerator_of, begins_next}
use Rattle.rst_markup_lines.specs.Field.{field_of}
use Rattle.rst_markup_lines.specs.TextStart.{begins_with, first, is_loose}
use Rattle.rst_markup_lines.specs.Marker.{bullet, line_bar}
use Rattle.rst_markup_lines.specs.OptionMarker.{option_marker}
use Rattle.rst_markup_lines.specs.declared.adornment.Adornment.{Adornment}
use Rattle.rst_markup_lines.specs.declared.enumerator.Enumerator.{Enumerator}
use Rattle.rst_markup_lines.specs.declared.field.FieldMark.{FieldMark}
use Rattle.rst_markup_lines.specs.declared.marker.Marker.{Marker}
use Rattle.rst_markup_blocks.specs.Conditions.{next_text, after_text, item_enumerator, if_listed, item_option, if_described}
use Rattle.rst_markup_blocks.specs.Ends.{row_size}
use Rattle.rst_markup_blocks.specs.Forms.{text_form, over_underline, underlined, adorned_form}
use Rattle.rst_markup_blocks.specs.Kinds.{kind_at, row_holds}
use Rattle.rst_markup_blocks.specs.Lines.{lines_while}
use Rattle.rst_markup_blocks.specs.Partition.{construct_size, construct_end}
use Rattle.rst_markup_blocks.specs.Sizes.{hanging_size, text_size, adornment_size, adorned_size, third_text}
use Rattle.rst_markup_blocks.specs.declared.attribution.Attribution.{Attribution}
use Rattle.rst_markup_blocks.specs.declared.form.Adorned.{Adorned}
use Rattle.rst_markup_blocks.specs.declared.form.Adorned.TheVariants.{Text as AdornedText, ShortOverline, ShortAdornment}
use Rattle.rst_markup_blocks.specs.declared.form.TextForm.{TextForm}
use Rattle.rst_markup_blocks.specs.declared.form.TextForm.TheVariants.{Paragraph, ShortUnderline, Definition, Title}
use Rattle.rst_markup_blocks.specs.declared.kind.Kind.{Kind}
use Rattle.rst_markup_blocks.specs.declared.kind.Kind.TheVariants.{Quote, Bullet, Enumerator as EnumeratorKind, Field, OptionItem, Line, Explicit, Anonymous, Adornment as AdornmentKind, Text}
use Rattle.rst_markup_blocks.specs.declared.lines.LineTest.TheVariants.{Blank as BlankTest}
use Rattle.rst_markup_blocks.specs.declared.part.Part.{Part}
use Rattle.rst_markup_blocks.proofs.EndLemmas.{bullet_is, enumerator_is, size_definition}
use Rattle.rst_markup_blocks.proofs.PartLemmas.{hanging_is}
use Rattle.rst_markup_blocks.proofs.PartitionLemmas.{end_inside}
use Rattle.rst_markup_blocks.proofs.RowLemmas.{row_of_kind}
use Rattle.rst_block_state.specs.looks.Budget.{sum_of}
use Rattle.rst_block_state.specs.looks.BudgetLaws.{is_trimmed, IsFronted, HaveAtMostLines}
use Rattle.rst_block_state.specs.Constructs.{item_of_list, enumerated_item, field_item, option_item, bar_line, plain_text, text_after, text_by, adorned, adorned_by, construct_by}
use Rattle.rst_block_state.specs.Inside.{quoted_by, quoted, quoted_blocks, opened_by, opened_of, inside_from, inside}
use Rattle.rst_block_state.specs.Quotes.{first_attribution, quote_after}
use Rattle.rst_block_state.specs.machine.Rest.{found_in}
use Rattle.rst_block_state.specs.Texts.{lines_in}
use Rattle.rst_block_state.specs.Within.{Within, hanging, indented_part, item_part}
use Rattle.rst_block_markup.proofs.ContentFacts.{none_within, more_within}
use Rattle.rst_block_state.proofs.MarkFacts.{Tells, bullet_tells, enumerator_tells, field_tells, option_tells}
use Rattle.rst_block_markup.proofs.MarkupReads.{no_dots}
use Rattle.rst_block.proofs.MarkupFacts.{markup_within, anonymous_within}
use Rattle.rst_block_state.proofs.PartFacts.{trimmed_drop, take_le, part_le, indented_fronted, take_fronted, blanks_fronted, hanging_fronted, hanging_le, item_fronted, item_le}
use Rattle.rst_block_state.proofs.QuoteCounts.{attribution_within}
use Rattle.rst_block_state.proofs.RestLemmas.{found_over, found_blank, found_text}

-- ---- some blocks

one_within : (n : ℕ) (C : Block) → length C ≤ n → IsFronted C → HaveAtMostLines n (C ∷ [])
unfolding sum_of
one_within n C h f = record { few = omega (arith, h); fronted = (f, tt) }

first_within : (n m k : ℕ) (C : Block) (Cs : List Block) → length C ≤ n → IsFronted C → HaveAtMostLines m Cs → n + m ≤ k → HaveAtMostLines k (C ∷ Cs)
unfolding sum_of
first_within n m k C Cs h f w le = record { few = omega (arith, h, w.few, le); fronted = (f, w.fronted) }

append_within : (n m : ℕ) (Cs Ds : List Block) → HaveAtMostLines n Cs → HaveAtMostLines m Ds → HaveAtMostLines (n + m) (Cs ++ Ds)
unfolding sum_of
append_within n m [] Ds h k = more_within m (n + m) Ds (omega arith) k
append_within n m (C ∷ Cs) Ds h k =
    let rest = append_within (n - length C) m Cs Ds (record { few = omega (arith, h.few); fronted = h.fronted.1 }) k in
    first_within (length C) (n - length C + m) (n + m) C (Cs ++ Ds) (omega arith) h.fronted.0 rest (omega (arith, h.few))

-- ---- block quotes

quoted_within : (n : ℕ) (Q : Block) → IsFronted Q → HaveAtMostLines (length Q) (quoted n Q)
quoted_within zero Q h = none_within (length Q)
quoted_within (suc n) [] h = none_within 0
quoted_within (suc n) (l ∷ ls) h = by (first_attribution (l ∷ ls)) refl (quoted_within n)
  where
    Q : Block
    Q = l ∷ ls

    fewer : (a : Attribution) → length (quote_after Q a) ≤ length Q - a.end
    fewer a = omega (arith, length-drop a.end Q, length-drop (lines_while BlankTest (drop a.end Q)) (drop a.end Q))

    by : (o : Option (ℕ × Attribution)) → first_attribution Q ≡ o → ((X : Block) → IsFronted X → HaveAtMostLines (length X) (quoted n X)) → HaveAtMostLines (length Q) (quoted_by (quoted n) Q o)
    by None e others = one_within (length Q) Q (omega arith) h
    by (Some (k, a)) e others =
        let w = attribution_within Q k a e in
        let after : IsFronted (quote_after Q a) = blanks_fronted (drop a.end Q) (trimmed_drop a.end Q h.trimmed) in
        first_within k (length (quote_after Q a)) (length Q) (take k Q) (quoted n (quote_after Q a)) (take_le k Q).0 (take_fronted k Q h) (others (quote_after Q a) after) (omega (arith, w.0, w.1, fewer a))

-- ---- texts

under_isnt : (u : ℕ) (t : List ℕ) → underlined u t ≡ Definition → ⊥
unfolding underlined
under_isnt u t h = by (leb (columns t) u) (ltb u 4) h
  where
    by : (a b : Bool) → cond a (Title false) (cond b ShortUnderline (Title true)) ≡ Definition → ⊥
    by true b h = cc
    by false true h = cc
    by false false h = cc

-- the line after a term is indented
term_then : (t next : List ℕ) → text_form t next ≡ Definition → begins_with 32 next ≡ true
unfolding text_form
term_then t next h = by (begins_with 32 next) (adornment_of next) h
  where
    by : (b : Bool) (o : Option Adornment) → cond b Definition (over_underline o t) ≡ Definition → b ≡ true
    by true o h = refl
    by false None h = cc
    by false (Some mark) h = absurd (under_isnt mark.len t h)

indented_some : (t : List ℕ) → begins_with 32 t ≡ true → is_blank t ≡ false
indented_some [] h = cc
indented_some (c ∷ cs) h = refl

-- the blocks of a text: a definition opens one
text_opens : (titles : Bool) (infos : List Node) (c : Within) (B : Block) (i n : ℕ) → is_trimmed B ≡ true → (text_form (first_text (drop i B)) (next_text (drop i B)) ≡ Definition → hanging_size (drop i B) ≤ n)
    → HaveAtMostLines n (opened_by (text_after titles infos (drop i B)) c B i (drop i B))
text_opens titles infos c B i n h fits = by (text_form (first_text X) (next_text X)) refl
  where
    X : Block
    X = drop i B

    by : (f : TextForm) → text_form (first_text X) (next_text X) ≡ f → HaveAtMostLines n (opened_by (text_by f titles infos X) c B i X)
    by Paragraph e = none_within n
    by ShortUnderline e = none_within n
    by (Title short) e = none_within n
    by Definition e =
        let Y : Block = drop 1 X in
        let p : Part = indented_part (i + 1) Y in
        one_within n (lines_in B p) (omega (arith, (part_le B p).0, hanging_is X, fits e)) (indented_fronted B Y (i + 1) h (sym (drop-drop 1 i B)) (indented_some (next_text X) (term_then (first_text X) (next_text X) e)))

-- ---- constructs

bullet_first : (t : List ℕ) (m : Marker) → bullet t ≡ Some m → (c : ℕ) × (first t ≡ Some c)
unfolding bullet
bullet_first [] m h = cc
bullet_first (c ∷ cs) m h = (c, refl)

item_mark : (t next : List ℕ) (e : Enumerator) → item_enumerator t next ≡ Some e → enumerator_of t ≡ Some e
unfolding item_enumerator
item_mark t next e h = by (enumerator_of t) h
  where
    by : (o : Option Enumerator) → if_listed o next ≡ Some e → o ≡ Some e
    by None h = cc
    by (Some f) h = (chosen (is_loose next || begins_next f next) (Some f) e h).1

option_mark : (t next after : List ℕ) (m : Marker) → item_option t next after ≡ Some m → option_marker t ≡ Some m
unfolding item_option
option_mark t next after m h = by (option_marker t) h
  where
    by : (o : Option Marker) → if_described o next after ≡ Some m → o ≡ Some m
    by None h = cc
    by (Some f) h = (chosen (not f.bare || (begins_with 32 next || (is_blank next && begins_with 32 after))) (Some f) m h).1

of_some : {A : Type 0} (P : A → Type 0) (o : Option A) (a : A) → o ≡ Some a → IfSome o P → P a
of_some P o a e h = subst (λ x. IfSome x P) e h

no_mark : {A : Type 0} (o : Option A) → o ≡ None → is_some o ≡ true → ⊥
no_mark o e h = let no : false ≡ true = sym (ap is_some e) ∙ h in cc

-- the blocks that a construct opens
construct_opens : (c : Within) (B : Block) (i : ℕ) (k : Kind) → is_trimmed B ≡ true → i < length B → kind_at (drop i B) ≡ k → row_holds k (drop i B) ≡ true
    → HaveAtMostLines (row_size k c.titles (drop i B)) (opened_by (construct_by k c.titles (drop i B)) c B i (drop i B))
unfolding adornment_size
construct_opens c B i Explicit h inside e row = markup_within c B i h inside
construct_opens c B i Anonymous h inside e row = anonymous_within c B i _ (no_dots (drop i B) e)
construct_opens c B i Quote h inside e row =
    let X : Block = drop i B in
    let Q : Block = lines_in B (indented_part i X) in
    more_within (length Q) (extent 1 X) (quoted_blocks Q) (omega (arith, (part_le B (indented_part i X)).0)) (quoted_within (length Q) Q (indented_fronted B X i h refl (indented_some (first_text X) row)))
construct_opens c B i Bullet h inside e row = by (bullet (first_text X)) refl
  where
    X : Block
    X = drop i B

    by : (o : Option Marker) → bullet (first_text X) ≡ o → HaveAtMostLines (row_size Bullet c.titles X) (opened_by (construct_by Bullet c.titles X) c B i X)
    by None m = absurd (no_mark (bullet (first_text X)) m row)
    by (Some k) m =
        let f = bullet_first (first_text X) k m in
        rw (f.1, m) (one_within (row_size Bullet c.titles X) (lines_in B (item_part i k X)) (omega (arith, item_le B X i k, bullet_is X k m)) (item_fronted B i k h (of_some (Tells (first_text X)) (bullet (first_text X)) k m (bullet_tells (first_text X)))))
construct_opens c B i EnumeratorKind h inside e row = by (item_enumerator (first_text X) (next_text X)) refl
  where
    X : Block
    X = drop i B

    by : (o : Option Enumerator) → item_enumerator (first_text X) (next_text X) ≡ o
        → HaveAtMostLines (row_size EnumeratorKind c.titles X) (opened_by (option_map_or (λ e. item_of_list (enumerated_item e)) o (plain_text c.titles X)) c B i X)
    by None m = absurd (no_mark (item_enumerator (first_text X) (next_text X)) m row)
    by (Some k) m =
        let mark = item_mark (first_text X) (next_text X) k m in
        one_within (row_size EnumeratorKind c.titles X) (lines_in B (item_part i k.marker X)) (omega (arith, item_le B X i k.marker, enumerator_is X k mark))
        (item_fronted B i k.marker h (of_some (λ e. Tells (first_text X) e.marker) (enumerator_of (first_text X)) k mark (enumerator_tells (first_text X))))
construct_opens c B i Field h inside e row = by (field_of (first_parts X) (first_text X)) refl
  where
    X : Block
    X = drop i B

    by : (o : Option FieldMark) → field_of (first_parts X) (first_text X) ≡ o → HaveAtMostLines (hanging_size X) (opened_by (option_map_or (λ m. item_of_list (field_item m)) o (plain_text c.titles X)) c B i X)
    by None m = absurd (no_mark (field_of (first_parts X) (first_text X)) m row)
    by (Some k) m =
        one_within (hanging_size X) (lines_in B (hanging i k.marker X)) (hanging_le B X i k.marker.cut k.marker.bare)
        (hanging_fronted B i k.marker.cut k.marker.bare h (of_some (λ f. Tells (first_text X) f.marker) (field_of (first_parts X) (first_text X)) k m (field_tells (first_parts X) (first_text X))))
construct_opens c B i OptionItem h inside e row = by (item_option (first_text X) (next_text X) (after_text X)) refl
  where
    X : Block
    X = drop i B

    by : (o : Option Marker) → item_option (first_text X) (next_text X) (after_text X) ≡ o
        → HaveAtMostLines (hanging_size X) (opened_by (option_map_or (λ m. item_of_list (option_item m)) o (plain_text c.titles X)) c B i X)
    by None m = absurd (no_mark (item_option (first_text X) (next_text X) (after_text X)) m row)
    by (Some k) m =
        let mark = option_mark (first_text X) (next_text X) (after_text X) k m in
        one_within (hanging_size X) (lines_in B (hanging i k X)) (hanging_le B X i k.cut k.bare)
        (hanging_fronted B i k.cut k.bare h (of_some (Tells (first_text X)) (option_marker (first_text X)) k mark (option_tells (first_text X))))
construct_opens c B i Line h inside e row = by (line_bar (first_text X)) refl
  where
    X : Block
    X = drop i B

    by : (o : Option Marker) → line_bar (first_text X) ≡ o → HaveAtMostLines (row_size Line c.titles X) (opened_by (option_map_or bar_line o (plain_text c.titles X)) c B i X)
    by None m = absurd (no_mark (line_bar (first_text X)) m row)
    by (Some k) m = none_within _
construct_opens c B i AdornmentKind h inside e row = by (adornment_of (first_text X))
  where
    X : Block
    X = drop i B

    text : (infos : List Node) → HaveAtMostLines (text_size X) (opened_by (text_after c.titles infos X) c B i X)
    text infos = text_opens c.titles infos c B i (text_size X) h (λ d. omega (arith, size_definition X d))

    form : (mark : Adornment) (f : Adorned) → HaveAtMostLines (adorned_size f X) (opened_by (adorned_by f c.titles mark X) c B i X)
    form mark AdornedText = text []
    form mark ShortOverline = text _
    form mark ShortAdornment = text _
    form mark _ = none_within _

    by : (o : Option Adornment) → HaveAtMostLines (option_map_or (λ mark. adorned_size (adorned_form c.titles mark (next_text X) (third_text X)) X) o (text_size X)) (opened_by (option_map_or (adorned c.titles X) o (plain_text c.titles X)) c B i X)
    by None = text []
    by (Some mark) = form mark (adorned_form c.titles mark (next_text X) (third_text X))
construct_opens c B i Text h inside e row = text_opens c.titles [] c B i (text_size (drop i B)) h (λ d. omega (arith, size_definition (drop i B) d))
construct_opens c B i _ h _ e row = none_within _

pub opened_within : (c : Within) (B : Block) (i : ℕ) → is_trimmed B ≡ true → i < length B → HaveAtMostLines (construct_size c.titles (drop i B)) (opened_of c B (found_in c.titles B i))
unfolding construct_size
opened_within c B i h inside = construct_opens c B i (kind_at (drop i B)) h inside refl (row_of_kind (drop i B))

-- ---- the blocks of a block

-- those from a line on
from_within : (n : ℕ) (c : Within) (B : Block) (i : ℕ) → is_trimmed B ≡ true → length B ≤ i + n → HaveAtMostLines (length B - i) (inside_from c B i)
from_within zero c B i h few = rw (found_over c.titles B i (omega (arith, few))) (none_within (length B - i))
from_within (suc n) c B i h few = ⊎_elim over (λ inside. ⊎_elim (blank inside (from_within n c B (suc i) h (omega (arith, few)))) (text inside (λ j later. from_within n c B j h (omega (arith, few, later)))) (cases_bool (is_blank (first_text (drop i B))))) (swap (cases_lt i (length B)))
  where
    swap : (i < length B) ⊎ (length B ≤ i) → (length B ≤ i) ⊎ (i < length B)
    swap (inl a) = inr a
    swap (inr b) = inl b

    over : length B ≤ i → HaveAtMostLines (length B - i) (inside_from c B i)
    over far = rw (found_over c.titles B i far) (none_within (length B - i))

    blank : i < length B → HaveAtMostLines (length B - suc i) (inside_from c B (suc i)) → is_blank (first_text (drop i B)) ≡ true → HaveAtMostLines (length B - i) (inside_from c B i)
    blank inside rest b = rw (found_blank c.titles B i b) (more_within (length B - suc i) (length B - i) (inside_from c B (suc i)) (omega arith) rest)

    text : i < length B → ((j : ℕ) → i < j → HaveAtMostLines (length B - j) (inside_from c B j)) → is_blank (first_text (drop i B)) ≡ false → HaveAtMostLines (length B - i) (inside_from c B i)
    text inside others t =
        let size : ℕ = construct_size c.titles (drop i B) in
        let j : ℕ = construct_end c.titles B i in
        let ends = end_inside c.titles B i inside in
        let this = opened_within c B i h inside in
        let both = append_within size (length B - j) (opened_of c B (found_in c.titles B i)) (inside_from c B j) this (others j (omega (arith, ends.0))) in
        rw (found_text c.titles B i t) (more_within (size + (length B - j)) (length B - i) (opened_of c B (found_in c.titles B i) ++ inside_from c B j) (omega (arith, ends.0, ends.1)) both)

pub blocks_inside : (c : Within) (B : Block) → is_trimmed B ≡ true → HaveAtMostLines (length B) (inside c B)
blocks_inside c B h = more_within (length B - 0) (length B) (inside c B) (omega arith) (from_within (length B) c B 0 h (omega arith))
