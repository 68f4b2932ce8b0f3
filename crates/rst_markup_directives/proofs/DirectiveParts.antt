-- The parts of a directive are blocks of what its block is a part of.
use Rattle.std.proofs.Common.{◌≡◌, ℕ, ◌+◌, ◌-◌, ◌≤◌, ◌==◌, ◌&&◌, Bool, cond, not, List, [], ◌∷◌, length, take, drop, length-drop, Option, None, Some, Result, Ok, Err, arith, sym, ap, ◌∙◌, subst}
use Rattle.std.specs.List.{prefix_len}
use Rattle.std.specs.Prelude.{nat_lt}
use Rattle.std.proofs.lemmas.Bool.{cond_both}
use Rattle.std.proofs.lemmas.List.{drop-drop, length-map, length-take}
use Rattle.std.proofs.lemmas.List.Folds.{length-prefix_len}
use Rattle.rst_settings.specs.declared.Parts.{Parts}
use Rattle.rst_text.specs.Block.{Line, Block, cut, first_parts, is_blank}
use Rattle.rst_text.specs.Names.{normalized_white}
use Rattle.rst_text.proofs.Indented.{is_indented-part}
use Rattle.rst_text.specs.Characters.{is_among}
use Rattle.rst_markup_blocks.specs.Parts.{IsBlock}
use Rattle.rst_markup_blocks.specs.declared.part.Part.{Part}
use Rattle.rst_markup_blocks.proofs.RowLaws.{while_le}
use Rattle.rst_markup_blocks.specs.declared.lines.LineTest.TheVariants.{Blank}
use Rattle.rst_markup_directives.specs.Argument.{ArgumentMeaning, title, word_of, argument_of}
use Rattle.rst_markup_directives.specs.Call.{part_of, content_block, content_of, IsContentIn, IsDirectiveIn}
use Rattle.rst_markup_directives.specs.Characters.{Text}
use Rattle.rst_markup_directives.specs.Directive.{Read, Outcome, found, handed, wrong, run_in, directive_options, read_parts, directive_by_layout, read_block, directive_outcome_at, fault_of, of_block, judged_directive, directive_outcome}
use Rattle.rst_markup_directives.specs.Kind.{is_text, kept_columns}
use Rattle.rst_markup_directives.specs.Layout.{begins_field, before_field, parts_without_argument, layout_by, layout_at, layout_of}
use Rattle.rst_markup_directives.specs.Lines.{first_run, blank_len, after_blank, joined_nonempty}
use Rattle.rst_markup_directives.specs.Options.{OptionSetting}
use Rattle.rst_markup_directives.specs.Wrong.{Wrong as WrongInside, Fault, and_then, unless}
use Rattle.rst_markup_directives.specs.declared.argument.Argument.TheVariants.{Absent}
use Rattle.rst_markup_directives.specs.declared.found.Content.{Content}
use Rattle.rst_markup_directives.specs.declared.found.Directive.{Directive}
use Rattle.rst_markup_directives.specs.declared.found.Directive.TheVariants.{Found, Handed, Wrong}
use Rattle.rst_markup_directives.specs.declared.found.Place.{Place}
use Rattle.rst_markup_directives.specs.declared.layout.Layout.{Layout}
use Rattle.rst_markup_directives.specs.declared.kind.ContentKind.{ContentKind}
use Rattle.rst_markup_directives.specs.declared.kind.ContentKind.TheVariants.{Paragraph, Quotes}
use Rattle.rst_markup_directives.specs.declared.kind.Kind.{Kind}
use Rattle.rst_markup_directives.specs.declared.kind.ArgumentKind.{ArgumentKind}
use Rattle.rst_markup_directives.specs.declared.kind.ArgumentKind.TheVariants.{Absent as NoArgument, Title as TitleArgument, OptionalTitle, Uri as UriArgument, Language as LanguageArgument, Formats as FormatsArgument, Classes as ClassesArgument, OptionalClasses}
use Rattle.rst_markup_directives.proofs.Indentations.{indented_less}
use Rattle.rst_markup_directives.proofs.Parts.{length_cut}

-- ---- lines of a block

part_block : (B : Block) (block : Part) (from to : ℕ) → IsBlock B block → from ≤ to → block.from + to ≤ block.to → IsBlock B (part_of block from to)
part_block B block from to b ordered within =
    let Y : Block = drop (block.from + 1) B in
    let place : drop (block.from + from + 1) B ≡ drop from Y =
    ap (λ i. drop i B) (let e : block.from + from + 1 ≡ (block.from + 1) + from = omega arith in e) ∙ sym (drop-drop from (block.from + 1) B) in
    let lines : block.from + to - (block.from + from + 1) ≡ (to - 1) - from = omega arith in
    record {
      ordered = omega arith;
      within = omega (arith, b.within);
      indented = rw place (rw lines (is_indented-part block.rest_cut from (to - 1) (block.to - (block.from + 1)) Y (omega arith) b.indented));
    }

-- the block whose content keeps some columns
kept_block : (content : ContentKind) (B : Block) (block : Part) → IsBlock B block → IsBlock B (content_block content block)
kept_block content B block b = record {
  ordered = b.ordered;
  within = b.within;
  indented = indented_less block.rest_cut (kept_columns content) (take (block.to - (block.from + 1)) (drop (block.from + 1) B)) b.indented;
}

-- where the parts of a block of `all` lines end
pub record IsWithin (layout : Layout) (all : ℕ) : Type 0 where
  pub argument : layout.argument ≤ all
  pub first : layout.first ≤ all
  pub second : layout.second ≤ all

content_in : (B : Block) (block : Part) (layout : Layout) (all : ℕ) → IsBlock B block → IsWithin layout all → block.from + all ≤ block.to → IsContentIn B (content_of block layout all)
content_in B block layout all b inside within = (
  part_block B block 0 layout.first b (omega arith) (omega (arith, inside.first, within)),
  part_block B block layout.second all b inside.second within,
)

-- ---- places in a block

before_field-le : (parts : Parts) (run : List Text) → before_field parts run ≤ length run
before_field-le parts run = omega (arith, length-prefix_len (λ t. not (begins_field parts t)) run, length-take (before_field parts run) run)

first_run-le : (B : Block) → length (first_run B) ≤ length B
first_run-le B =
    let n : ℕ = prefix_len (λ (l : Line). not (is_blank l.text)) B in
    omega (arith, length-map (take n B) (λ (l : Line). l.text), length-take n B)

blank_len-le : (B : Block) → blank_len B ≤ length B
blank_len-le B = while_le Blank B

pub run_in-le : (kind : Kind) (late : Bool) (H : Block) → length (run_in kind late H) ≤ length H
unfolding run_in
run_in-le kind late H = grind (arith, first_run-le H)

without_within : (parts : Parts) (run : List Text) (all rest : ℕ) → length run ≤ all → rest ≤ all → IsWithin (parts_without_argument parts run all rest) all
without_within parts run all rest h k =
    cond_both (before_field parts run == length run) _ _ (λ layout. IsWithin layout all)
    (λ _. record { argument = omega arith; first = omega arith; second = omega arith })
    (λ _. record { argument = omega arith; first = omega (arith, before_field-le parts run); second = omega arith })

parts_within : (parts : Parts) (content : ContentKind) (argument : ArgumentKind) (run : List Text) (all rest : ℕ) → length run ≤ all → rest ≤ all → IsWithin (layout_by parts content argument run all rest) all
parts_within parts Paragraph argument run all rest h k = record { argument = omega arith; first = omega arith; second = omega arith }
parts_within parts (Quotes class) argument run all rest h k = record { argument = omega arith; first = omega arith; second = omega arith }
parts_within parts content NoArgument run all rest h k =
    let whole = is_text content && nat_lt 0 (before_field parts run) in
    without_within parts run all (cond whole (length run) rest) h (cond_both whole (length run) rest (λ n. n ≤ all) (λ _. h) (λ _. k))
parts_within parts _ ClassesArgument run all rest h k = record { argument = omega (arith, h); first = omega arith; second = omega arith }
parts_within parts _ _ run all rest h k = record { argument = omega (arith, before_field-le parts run); first = omega arith; second = omega arith }

layout_within : (parts : Parts) (kind : Kind) (run : List Text) (all rest : ℕ) → length run ≤ all → rest ≤ all → IsWithin (layout_at parts kind run all rest) all
unfolding layout_at
layout_within parts kind run all rest h k = parts_within parts kind.content kind.argument run all rest h k

pub block_within : (kind : Kind) (late : Bool) (H : Block) → IsWithin (layout_of kind (run_in kind late H) H) (length H)
block_within kind late H =
    let run : List Text = run_in kind late H in
    layout_within (first_parts H) kind run (length H) (after_blank H (length run)) (run_in-le kind late H) (omega (arith, run_in-le kind late H, blank_len-le (drop (length run) H), length-drop (length run) H))

-- ---- what is read

abbrev IsGivenIn : Block → ArgumentMeaning → Type 0
IsGivenIn B (title part) = IsBlock B part
IsGivenIn B given = Unit {0}

abbrev MayBeGivenIn : Block → Result ArgumentMeaning WrongInside → Type 0
MayBeGivenIn B (Ok given) = IsGivenIn B given
MayBeGivenIn B (Err w) = Unit {0}

abbrev MayBeReadIn : Block → Result Read WrongInside → Type 0
MayBeReadIn B (Ok read) = IsGivenIn B read.argument × IsContentIn B read.content
MayBeReadIn B (Err w) = Unit {0}

abbrev IsOutcomeIn : Block → Outcome → Type 0
IsOutcomeIn B (found read) = IsGivenIn B read.argument × IsContentIn B read.content
IsOutcomeIn B handed = Unit {0}
IsOutcomeIn B (wrong fault source) = Unit {0}

word_in : (B : Block) (words : Text) → MayBeGivenIn B (word_of words)
unfolding word_of
word_in B words = cond_both (is_among words 32) _ _ (MayBeGivenIn B) (λ _. tt) (λ _. tt)

argument_in : (B : Block) (argument : ArgumentKind) (ts : List Text) (part : Part) → IsBlock B part → MayBeGivenIn B (argument_of argument ts part)
argument_in B TitleArgument (t ∷ ts) part b = b
argument_in B OptionalTitle (t ∷ ts) part b = b
argument_in B UriArgument [] part b = tt
argument_in B FormatsArgument [] part b = tt
argument_in B ClassesArgument [] part b = tt
argument_in B OptionalClasses [] part b = tt
argument_in B LanguageArgument (t ∷ ts) part b = word_in B (normalized_white (joined_nonempty (t ∷ ts)))
argument_in B _ _ part b = tt

parts_in_block : (B : Block) (kind : Kind) (content : Content) (given : Result ArgumentMeaning WrongInside) (choices : Result (List OptionSetting) WrongInside)
    → IsContentIn B content → MayBeGivenIn B given → MayBeReadIn B (read_parts kind content given choices)
parts_in_block B kind content (Ok value) (Ok choices) h k = (k, h)
parts_in_block B kind content (Err w) (Ok choices) h k = tt
parts_in_block B kind content given (Err w) h k = tt

read_in_block : (B : Block) (kind : Kind) (late : Bool) (block : Part) (H : Block) → IsBlock B block → length H ≡ block.to - block.from → MayBeReadIn B (read_block kind late block H)
unfolding read_block directive_by_layout
read_in_block B kind late block H b count =
    let run : List Text = run_in kind late H in
    let within = block_within kind late H in
    let layout : Layout = layout_of kind run H in
    let inside : block.from + length H ≤ block.to = omega (arith, b.ordered, count) in
    parts_in_block B kind (content_of (content_block kind.content block) layout (length H)) (argument_of kind.argument (take layout.argument run) (part_of block 0 layout.argument)) (directive_options (first_parts H) kind.options (drop layout.options run))
    (content_in B (content_block kind.content block) layout (length H) (kept_block kind.content B block b) within inside)
    (argument_in B kind.argument (take layout.argument run) (part_of block 0 layout.argument) (part_block B block 0 layout.argument b (omega arith) (omega (arith, within.argument, inside))))

-- ---- what a directive is

judged_in : (B : Block) (place : Place) (paragraph : Bool) (source : Part) (read : Result Read WrongInside) → MayBeReadIn B read → IsOutcomeIn B (directive_outcome_at source (and_then (judged_directive place paragraph) (of_block read)))
judged_in B place paragraph source (Err w) h = tt
judged_in B place paragraph source (Ok read) h = by (fault_of place paragraph read)
  where
    by : (fault : Option Fault) → IsOutcomeIn B (directive_outcome_at source (unless fault (Ok read)))
    by (Some fault) = tt
    by None = h

kept_in : (B : Block) (directive : Directive) → IsOutcomeIn B (directive_outcome directive) → IsDirectiveIn B directive
kept_in B (Wrong fault source) h = tt
kept_in B Handed h = tt
kept_in B (Found kind Absent options content) h = h
kept_in B _ h = h

-- the parts of a directive whose block was read
pub directive_in : (B : Block) (kind : Kind) (late : Bool) (block : Part) (place : Place) (paragraph : Bool) (source : Part) (read : Result Read WrongInside) (directive : Directive) → IsBlock B block
    → read ≡ read_block kind late block (cut B block.from block.to block.first_cut block.rest_cut) → directive_outcome directive ≡ directive_outcome_at source (and_then (judged_directive place paragraph) (of_block read)) → IsDirectiveIn B directive
directive_in B kind late block place paragraph source read directive b same kept =
    let H : Block = cut B block.from block.to block.first_cut block.rest_cut in
    let inside = read_in_block B kind late block H b (length_cut B block.from block.to block.first_cut block.rest_cut b.ordered b.within) in
    kept_in B directive (subst (IsOutcomeIn B) (sym kept) (judged_in B place paragraph source read (subst (MayBeReadIn B) (sym same) inside)))
