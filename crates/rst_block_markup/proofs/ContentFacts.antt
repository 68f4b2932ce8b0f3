-- The content of a directive as blocks: the lines before its options and those after them are in its block, and begin with a line that isn't blank.
use Rattle.std.proofs.Common.{◌≡◌, ℕ, ◌+◌, ◌-◌, ◌≤◌, ◌==◌, ◌&&◌, Bool, true, false, not, cond, List, [], ◌∷◌, length, take, drop, length-drop, Option, None, Some, Result, Ok, Err, arith, sym, ap, ◌∙◌, subst, suc, zero, map, refl}
use Rattle.std.specs.Prelude.{nat_lt}
use Rattle.std.proofs.lemmas.Bool.{cond_both, and_parts}
use Rattle.std.proofs.lemmas.List.{drop-drop, length-map}
use Rattle.std.proofs.lemmas.List.Sums.{prefix_len-le-length}
use Rattle.rst_markup_directives.proofs.DirectiveParts.{run_in-le}
use Rattle.rst_settings.specs.declared.Parts.{Parts}
use Rattle.rst_text.specs.Block.{Block, cut, first_parts, first_text, is_blank, shorten, shorten_all}
use Rattle.rst_text.specs.Lines.{ends_white}
use Rattle.rst_text.proofs.CutLaws.{take-cut, drop-cut}
use Rattle.rst_markup_blocks.proofs.RowLaws.{while_le}
use Rattle.rst_markup_blocks.specs.declared.forms.Invocation.{Invocation}
use Rattle.rst_markup_blocks.specs.declared.lines.LineTest.TheVariants.{Blank}
use Rattle.rst_markup_blocks.specs.declared.part.Part.{Part}
use Rattle.rst_markup_directives.specs.Argument.{ArgumentMeaning, argument_of}
use Rattle.rst_markup_directives.specs.Call.{called_at, part_of, content_block, content_of}
use Rattle.rst_markup_directives.specs.Characters.{Text}
use Rattle.rst_markup_directives.specs.Directive.{Read, Outcome, found, handed, wrong, run_in, directive_options, read_parts, directive_by_layout, read_block, read_at, directive_outcome_at, fault_of, of_block, judged_directive, named_directive, source_lines_at, is_late, directive_at, directive_of}
use Rattle.rst_markup_directives.specs.Kind.{has_blocks, is_text, kept_columns}
use Rattle.rst_markup_directives.specs.Layout.{begins_field, before_field, content_alone, parts_without_argument, layout_by, layout_at, layout_of}
use Rattle.rst_markup_directives.specs.Lines.{blank_len, after_blank}
use Rattle.rst_markup_directives.specs.Options.{OptionSetting}
use Rattle.rst_markup_directives.specs.Wrong.{Wrong, Fault, and_then, unless}
use Rattle.rst_markup_directives.specs.declared.found.Content.{Content}
use Rattle.rst_markup_directives.specs.declared.found.Place.{Place}
use Rattle.rst_markup_directives.specs.declared.kind.ArgumentKind.{ArgumentKind}
use Rattle.rst_markup_directives.specs.declared.kind.ArgumentKind.TheVariants.{Absent}
use Rattle.rst_markup_directives.specs.declared.kind.ContentKind.{ContentKind}
use Rattle.rst_markup_directives.specs.declared.kind.ContentKind.TheVariants.{Blocks, Caption, Classed, OneTable, Paragraph, Quotes, Rows}
use Rattle.rst_markup_directives.specs.declared.kind.Kind.{Kind}
use Rattle.rst_block_state.specs.looks.Budget.{sum_of}
use Rattle.rst_block_state.specs.looks.BudgetLaws.{is_trimmed, IsFronted, HaveAtMostLines}
use Rattle.rst_block_state.specs.Directives.{called, is_handed_at}
use Rattle.rst_block_state.specs.Inside.{content_blocks, directive_blocks}
use Rattle.rst_block_state.specs.Paragraphs.{is_single_paragraph}
use Rattle.rst_block_state.specs.Texts.{lines_in}
use Rattle.rst_block_state.specs.Within.{Within}
use Rattle.rst_block_state.proofs.MarkFacts.{chosen}
use Rattle.rst_block_state.proofs.PartFacts.{trimmed_drop, trimmed_take, trimmed_shorten, take_le, take_fronted, blanks_fronted}

-- ---- places in a block

-- the two parts of the content of a block H: its first lines, and those from a place on
record IsLaid (first second : ℕ) (H : Block) : Type 0 where
  ordered : first ≤ second
  within : second ≤ length H
  fronted : IsFronted (drop second H)

over : (H : Block) → is_trimmed H ≡ true → IsFronted (drop (length H) H)
over H h = record { trimmed = trimmed_drop (length H) H h; first_not_blank = λ some. absurd (omega (arith, some, length-drop (length H) H)) }

alone_laid : (H : Block) → is_trimmed H ≡ true → IsLaid (length H) (length H) H
alone_laid H h = record { ordered = omega arith; within = omega arith; fronted = over H h }

rest_laid : (first : ℕ) (run : List Text) (H : Block) → is_trimmed H ≡ true → first ≤ length run → length run ≤ length H → IsLaid first (after_blank H (length run)) H
rest_laid first run H h f r =
    let Y : Block = drop (length run) H in
    let place : drop (blank_len Y) Y ≡ drop (after_blank H (length run)) H = drop-drop (blank_len Y) (length run) H in
    record {
      ordered = omega (arith, f);
      within = omega (arith, r, while_le Blank Y, length-drop (length run) H);
      fronted = subst IsFronted place (blanks_fronted Y (trimmed_drop (length run) H h));
    }

without_laid : (parts : Parts) (run : List Text) (H : Block) → is_trimmed H ≡ true → length run ≤ length H
    → let layout = parts_without_argument parts run (length H) (after_blank H (length run)) in IsLaid layout.first layout.second H
without_laid parts run H h r =
    chosen (λ layout. IsLaid layout.first layout.second H) (before_field parts run == length run) (content_alone run (length H)) _ (alone_laid H h) (rest_laid (before_field parts run) run H h (prefix_len-le-length (λ (t : Text). not (begins_field parts t)) run) r)

-- blocks are no text
no_text : (content : ContentKind) → has_blocks content ≡ true → is_text content ≡ false
no_text Blocks b = refl
no_text Paragraph b = refl
no_text Caption b = refl
no_text (Quotes class) b = refl
no_text Classed b = refl
no_text Rows b = refl
no_text OneTable b = refl
no_text _ b = absurd (let no : false ≡ true = b in cc)

parts_laid : (parts : Parts) (content : ContentKind) (argument : ArgumentKind) (run : List Text) (H : Block) → has_blocks content ≡ true → is_trimmed H ≡ true → length run ≤ length H
    → let layout = layout_by parts content argument run (length H) (after_blank H (length run)) in IsLaid layout.first layout.second H
parts_laid parts Paragraph argument run H b h r = alone_laid H h
parts_laid parts (Quotes class) argument run H b h r = alone_laid H h
parts_laid parts content Absent run H b h r =
    subst (λ text. let layout = parts_without_argument parts run (length H) (cond (text && nat_lt 0 (before_field parts run)) (length run) (after_blank H (length run))) in IsLaid layout.first layout.second H)
    (sym (no_text content b)) (without_laid parts run H h r)
parts_laid parts _ _ run H b h r = rest_laid 0 run H h (omega arith) r

layout_laid : (kind : Kind) (run : List Text) (H : Block) → has_blocks kind.content ≡ true → is_trimmed H ≡ true → length run ≤ length H → let layout = layout_of kind run H in IsLaid layout.first layout.second H
unfolding layout_at
layout_laid kind run H b h r = parts_laid (first_parts H) kind.content kind.argument run H b h r

-- ---- the content

-- a part of a block's lines
part_is : (B : Block) (block : Part) (from to : ℕ) → from ≤ to → to ≤ block.to - block.from → lines_in B (part_of block from to) ≡ take (to - from) (drop from (lines_in B block))
part_is B block from to ordered within =
    let r : ℕ = block.rest_cut in
    let f : ℕ = cond (from == 0) block.first_cut r in
    let e : block.from + from + (to - from) ≡ block.from + to = omega (arith, ordered) in
    ap (λ n. cut B (block.from + from) n f r) (sym e)
    ∙ sym (take-cut B (block.from + from) block.to f r (to - from) (omega (arith, within)))
    ∙ ap (take (to - from)) (sym (drop-cut B block.from block.to block.first_cut r from (omega (arith, ordered, within))))

content_in : (B : Block) (block : Part) (first second : ℕ) → IsFronted (lines_in B block) → length (lines_in B block) ≡ block.to - block.from → IsLaid first second (lines_in B block)
    → HaveAtMostLines (length (lines_in B block)) (lines_in B (part_of block 0 first) ∷ lines_in B (part_of block second (length (lines_in B block))) ∷ [])
unfolding sum_of
content_in B block first second h count laid =
    let H : Block = lines_in B block in
    let one : lines_in B (part_of block 0 first) ≡ take (first - 0) (drop 0 H) = part_is B block 0 first (omega arith) (omega (arith, count, laid.ordered, laid.within)) in
    let two : lines_in B (part_of block second (length H)) ≡ take (length H - second) (drop second H) = part_is B block second (length H) laid.within (omega (arith, count)) in
    record {
      few = omega (arith, ap length one, ap length two, (take_le (first - 0) (drop 0 H)).0, (take_le (length H - second) (drop second H)).0, laid.ordered, laid.within);
      fronted = (subst IsFronted (sym one) (take_fronted (first - 0) (drop 0 H) h), (subst IsFronted (sym two) (take_fronted (length H - second) (drop second H) laid.fronted), tt));
    }

-- ---- a part whose lines lose fewer characters

some_left : (t : List ℕ) → is_blank t ≡ false → 1 ≤ length t
some_left [] h = let no : true ≡ false = h in cc
some_left (c ∷ cs) h = omega arith

not_blank : (t : List ℕ) → 1 ≤ length t → is_blank t ≡ false
not_blank [] h = absurd (omega (arith, h))
not_blank (c ∷ cs) h = refl

less_blank : (f k : ℕ) (t : List ℕ) → is_blank (drop f t) ≡ false → is_blank (drop (f - k) t) ≡ false
less_blank f k t h = not_blank (drop (f - k) t) (omega (arith, some_left (drop f t) h, length-drop f t, length-drop (f - k) t))

abbrev Filled : Block → Type 0
Filled X = 1 ≤ length X → is_blank (first_text X) ≡ false

others_filled : (k r s : ℕ) (X : Block) → Filled (drop s (map (shorten r) X)) → Filled (drop s (map (shorten (r - k)) X))
others_filled k r zero [] h some = absurd (omega (arith, some))
others_filled k r zero (l ∷ ls) h some = less_blank r k l.text (h (omega arith))
others_filled k r (suc s) [] h some = absurd (omega (arith, some))
others_filled k r (suc s) (l ∷ ls) h some = others_filled k r s ls h some

lines_filled : (k f r s : ℕ) (X : Block) → Filled (drop s (shorten_all f r X)) → Filled (drop s (shorten_all (f - k) (r - k) X))
lines_filled k f r zero [] h some = absurd (omega (arith, some))
lines_filled k f r zero (l ∷ ls) h some = less_blank f k l.text (h (omega arith))
lines_filled k f r (suc s) [] h some = absurd (omega (arith, some))
lines_filled k f r (suc s) (l ∷ ls) h some = others_filled k r s ls h some

same_count : (f r : ℕ) (X : Block) → length (shorten_all f r X) ≡ length X
same_count f r [] = refl
same_count f r (l ∷ ls) = ap suc (length-map ls (shorten r))

trimmed_cut : (f r : ℕ) (X : Block) → is_trimmed X ≡ true → is_trimmed (shorten_all f r X) ≡ true
trimmed_cut f r [] h = refl
trimmed_cut f r (l ∷ ls) h =
    let t = and_parts (not (ends_white l.text)) (is_trimmed ls) h in
    let one = and_parts (not (ends_white (drop f l.text))) true (trimmed_shorten f (l ∷ []) (rw t.0 refl)) in
    rw (one.0, trimmed_shorten r ls t.1) refl

-- the lines of a block, as its content has them
kept_count : (content : ContentKind) (B : Block) (block : Part) → length (lines_in B (content_block content block)) ≡ length (lines_in B block)
kept_count content B block =
    let X : Block = take (block.to - block.from) (drop block.from B) in
    same_count (block.first_cut - kept_columns content) (block.rest_cut - kept_columns content) X ∙ sym (same_count block.first_cut block.rest_cut X)

kept_fronted : (content : ContentKind) (B : Block) (block : Part) (s : ℕ) → is_trimmed B ≡ true → IsFronted (drop s (lines_in B block)) → IsFronted (drop s (lines_in B (content_block content block)))
kept_fronted content B block s t h =
    let X : Block = take (block.to - block.from) (drop block.from B) in
    let k : ℕ = kept_columns content in
    record {
      trimmed = trimmed_drop s _ (trimmed_cut (block.first_cut - k) (block.rest_cut - k) X (trimmed_take (block.to - block.from) (drop block.from B) (trimmed_drop block.from B t)));
      first_not_blank = lines_filled k block.first_cut block.rest_cut s X h.first_not_blank;
    }

kept_laid : (content : ContentKind) (B : Block) (block : Part) (first second : ℕ) → is_trimmed B ≡ true → IsLaid first second (lines_in B block) → IsLaid first second (lines_in B (content_block content block))
kept_laid content B block first second t laid = record {
  ordered = laid.ordered;
  within = omega (arith, laid.within, kept_count content B block);
  fronted = kept_fronted content B block second t laid.fronted;
}

-- so are the blocks of a directive whose content is blocks
abbrev HasBlocksIn : ℕ → Block → Read → Type 0
HasBlocksIn n B read = has_blocks read.kind.content ≡ true → HaveAtMostLines n (content_blocks B read.content)

abbrev MayBeIn : ℕ → Block → Result Read Wrong → Type 0
MayBeIn n B (Ok read) = HasBlocksIn n B read
MayBeIn n B (Err w) = Unit {0}

abbrev IsIn : ℕ → Block → Outcome → Type 0
IsIn n B (found read) = HasBlocksIn n B read
IsIn n B handed = Unit {0}
IsIn n B (wrong fault source) = Unit {0}

parts_in : (n : ℕ) (B : Block) (kind : Kind) (content : Content) (given : Result ArgumentMeaning Wrong) (choices : Result (List OptionSetting) Wrong) → (has_blocks kind.content ≡ true → HaveAtMostLines n (content_blocks B content)) → MayBeIn n B (read_parts kind content given choices)
parts_in n B kind content given (Err w) h = tt
parts_in n B kind content (Err w) (Ok choices) h = tt
parts_in n B kind content (Ok value) (Ok choices) h = h

block_in : (B : Block) (kind : Kind) (late : Bool) (block : Part) → is_trimmed B ≡ true → IsFronted (lines_in B block) → length (lines_in B block) ≡ block.to - block.from
    → MayBeIn (length (lines_in B block)) B (read_block kind late block (lines_in B block))
unfolding read_block directive_by_layout
block_in B kind late block t h count =
    let H : Block = lines_in B block in
    let run : List Text = run_in kind late H in
    let layout = layout_of kind run H in
    let kept : Part = content_block kind.content block in
    let same : length (lines_in B kept) ≡ length H = kept_count kind.content B block in
    parts_in (length H) B kind (content_of kept layout (length H)) (argument_of kind.argument (take layout.argument run) (part_of block 0 layout.argument)) (directive_options (first_parts H) kind.options (drop layout.options run))
    (λ b. subst (λ n. HaveAtMostLines n (lines_in B (part_of kept 0 layout.first) ∷ lines_in B (part_of kept layout.second n) ∷ [])) same
    (content_in B kept layout.first layout.second (kept_fronted kind.content B block 0 t h) (same ∙ count)
    (kept_laid kind.content B block layout.first layout.second t (layout_laid kind run H b h.trimmed (run_in-le kind late H)))))

judged_in : (n : ℕ) (B : Block) (place : Place) (paragraph : Bool) (source : Part) (read : Result Read Wrong) → MayBeIn n B read → IsIn n B (directive_outcome_at source (and_then (judged_directive place paragraph) (of_block read)))
judged_in n B place paragraph source (Err w) h = tt
judged_in n B place paragraph source (Ok read) h = by (fault_of place paragraph read)
  where
    by : (fault : Option Fault) → IsIn n B (directive_outcome_at source (unless fault (Ok read)))
    by (Some fault) = tt
    by None = h

outcome_in : (c : Within) (B : Block) (i : ℕ) (call : Invocation) (place : Place) → is_trimmed B ≡ true → IsFronted (lines_in B call.block) → length (lines_in B call.block) ≡ call.block.to - call.block.from
    → IsIn (length (lines_in B call.block)) B (called c B i call place)
unfolding directive_of
outcome_in c B i call place t h count = either (is_handed_at B i call)
  where
    paragraph : Bool
    paragraph = is_single_paragraph (lines_in B call.block)

    by : (r : Result Kind Fault) → IsIn (length (lines_in B call.block)) B (directive_outcome_at (source_lines_at i call.block) (and_then (judged_directive place paragraph) (and_then (read_at B i call.block) r)))
    by (Err w) = tt
    by (Ok kind) = judged_in (length (lines_in B call.block)) B place paragraph (source_lines_at i call.block) (read_block kind (is_late i call.block) call.block (lines_in B call.block)) (block_in B kind (is_late i call.block) call.block t h count)

    either : (b : Bool) → IsIn (length (lines_in B call.block)) B (cond b handed (directive_at c.code B i call place paragraph))
    either true = tt
    either false = by (named_directive (called_at c.code B i call) place)

-- ---- the blocks

pub none_within : (n : ℕ) → HaveAtMostLines n []
unfolding sum_of
none_within n = record { few = omega arith; fronted = tt }

pub more_within : (n m : ℕ) (Cs : List Block) → n ≤ m → HaveAtMostLines n Cs → HaveAtMostLines m Cs
more_within n m Cs h w = record { few = omega (arith, h, w.few); fronted = w.fronted }

directive_by : (n : ℕ) (B : Block) (o : Outcome) → IsIn n B o → HaveAtMostLines n (directive_blocks o B)
directive_by n B (found read) h = cond_both (has_blocks read.kind.content) (content_blocks B read.content) [] (HaveAtMostLines n) h (λ _. none_within n)
directive_by n B handed h = none_within n
directive_by n B (wrong fault source) h = none_within n

-- those of a directive, in a block or in a substitution definition
pub directive_within : (c : Within) (B : Block) (i : ℕ) (call : Invocation) (place : Place) → is_trimmed B ≡ true → IsFronted (lines_in B call.block) → length (lines_in B call.block) ≡ call.block.to - call.block.from
    → HaveAtMostLines (length (lines_in B call.block)) (directive_blocks (called c B i call place) B)
directive_within c B i call place t h count = directive_by (length (lines_in B call.block)) B (called c B i call place) (outcome_in c B i call place t h count)
