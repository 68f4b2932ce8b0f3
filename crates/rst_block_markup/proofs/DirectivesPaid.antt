-- What directives and substitution definitions take of looks: the blocks that they open, and how many lines their parts have.
use Rattle.std.proofs.Common.{◌≡◌, ℕ, ◌-◌, ◌≤◌, Bool, true, false, cond, List, [], ◌∷◌, length, take, drop, Option, None, Some, Result, Ok, Err, arith, sym, subst}
use Rattle.rst_text.specs.Block.{Block, first_parts}
use Rattle.rst_text.specs.Names.{normalized_white}
use Rattle.rst_text.specs.Characters.{is_among}
use Rattle.rst_markup_blocks.specs.declared.forms.Invocation.{Invocation}
use Rattle.rst_markup_blocks.specs.declared.part.Part.{Part}
use Rattle.rst_markup_directives.specs.Argument.{ArgumentMeaning, title, language, title_argument, uri_of, word_of, language_of, argument_of}
use Rattle.rst_markup_directives.specs.Call.{called_at, part_of, content_block, content_of}
use Rattle.rst_markup_directives.specs.Characters.{Text}
use Rattle.rst_markup_directives.specs.Directive.{Read, Outcome, found, handed, wrong, run_in, directive_options, directive_outcome, read_parts, directive_by_layout, read_block, read_at, directive_outcome_at, fault_of, of_block, judged_directive, named_directive, source_lines_at, is_late, directive_at, directive_of}
use Rattle.rst_markup_directives.specs.Layout.{layout_of}
use Rattle.rst_markup_directives.specs.Lines.{joined_nonempty}
use Rattle.rst_markup_directives.specs.Options.{OptionSetting}
use Rattle.rst_markup_directives.specs.Wrong.{Wrong, Fault, many_arguments, and_then, unless}
use Rattle.rst_markup_directives.specs.declared.argument.Argument.TheVariants.{Title}
use Rattle.rst_markup_directives.specs.declared.found.Content.{Content}
use Rattle.rst_markup_directives.specs.declared.found.Directive.{Directive}
use Rattle.rst_markup_directives.specs.declared.found.Directive.TheVariants.{Found as FoundDirective, Handed as HandedDirective, Wrong as WrongDirective}
use Rattle.rst_markup_directives.specs.declared.found.Place.{Place}
use Rattle.rst_markup_directives.specs.declared.kind.ArgumentKind.{ArgumentKind}
use Rattle.rst_markup_directives.specs.declared.kind.ArgumentKind.TheVariants.{Absent as NoArgument, Title as TitleArgument, OptionalTitle, Uri as UriArgument, Language as LanguageArgument, Formats as FormatsArgument, Classes as ClassesArgument, OptionalClasses}
use Rattle.rst_markup_directives.specs.declared.kind.Kind.{Kind}
use Rattle.rst_block_state.specs.Directives.{called, is_handed_at}
use Rattle.rst_block_state.specs.looks.Ledger.{argument_lines}
use Rattle.rst_block_state.specs.Paragraphs.{is_single_paragraph}
use Rattle.rst_block_state.specs.Texts.{lines_in}
use Rattle.rst_block_state.specs.Within.{Within}
use Rattle.rst_markup_directives.proofs.DirectiveParts.{block_within}
use Rattle.rst_block_state.proofs.PartFacts.{part_le}

-- ---- the lines of a directive's parts

-- a title has no more lines than this
abbrev IsShort : ℕ → ArgumentMeaning → Type 0
IsShort n (title part) = part.to - part.from ≤ n
IsShort n given = Unit {0}

abbrev MayBeShort : ℕ → Result ArgumentMeaning Wrong → Type 0
MayBeShort n (Ok given) = IsShort n given
MayBeShort n (Err w) = Unit {0}

-- nor have the two parts of the content
abbrev pub IsContentShort : ℕ → Content → Type 0
IsContentShort n content = (content.first.to - content.first.from ≤ n) × (content.second.to - content.second.from ≤ n)

abbrev AreShort : ℕ → Read → Type 0
AreShort n read = IsShort n read.argument × IsContentShort n read.content

abbrev MayBeReadShort : ℕ → Result Read Wrong → Type 0
MayBeReadShort n (Ok read) = AreShort n read
MayBeReadShort n (Err w) = Unit {0}

abbrev AreOutcomeShort : ℕ → Outcome → Type 0
AreOutcomeShort n (found read) = AreShort n read
AreOutcomeShort n handed = Unit {0}
AreOutcomeShort n (wrong fault source) = Unit {0}

title_short : (n : ℕ) (ts : List Text) (part : Part) → part.to - part.from ≤ n → MayBeShort n (title_argument ts part)
title_short n [] part h = tt
title_short n (t ∷ ts) part h = h

uri_short : (n : ℕ) (ts : List Text) → MayBeShort n (uri_of ts)
uri_short n [] = tt
uri_short n (t ∷ ts) = tt

language_short : (n : ℕ) (ts : List Text) → MayBeShort n (language_of ts)
unfolding word_of
language_short n [] = tt
language_short n (t ∷ ts) = by (is_among words 32)
  where
    words : Text
    words = normalized_white (joined_nonempty (t ∷ ts))

    by : (b : Bool) → MayBeShort n (cond b (Err many_arguments) (Ok (language (Some words))))
    by true = tt
    by false = tt

-- a title ends before the first option, in its block
argument_short : (n : ℕ) (argument : ArgumentKind) (ts : List Text) (block : Part) (to : ℕ) → to ≤ n → MayBeShort n (argument_of argument ts (part_of block 0 to))
argument_short n NoArgument ts block to h = tt
argument_short n TitleArgument ts block to h = title_short n ts (part_of block 0 to) (omega arith)
argument_short n OptionalTitle [] block to h = tt
argument_short n OptionalTitle (t ∷ ts) block to h = omega arith
argument_short n UriArgument ts block to h = uri_short n ts
argument_short n LanguageArgument ts block to h = language_short n ts
argument_short n FormatsArgument [] block to h = tt
argument_short n ClassesArgument [] block to h = tt
argument_short n OptionalClasses [] block to h = tt
argument_short n _ (t ∷ ts) block to h = tt

parts_short : (n : ℕ) (kind : Kind) (content : Content) (given : Result ArgumentMeaning Wrong) (choices : Result (List OptionSetting) Wrong) → MayBeShort n given → IsContentShort n content
    → MayBeReadShort n (read_parts kind content given choices)
parts_short n kind content given (Err w) h k = tt
parts_short n kind content (Err w) (Ok choices) h k = tt
parts_short n kind content (Ok value) (Ok choices) h k = (h, k)

block_short : (n : ℕ) (kind : Kind) (late : Bool) (block : Part) (H : Block) → length H ≤ n → MayBeReadShort n (read_block kind late block H)
unfolding read_block directive_by_layout
block_short n kind late block H few =
    let run : List Text = run_in kind late H in
    let layout = layout_of kind run H in
    let within = block_within kind late H in
    parts_short n kind (content_of (content_block kind.content block) layout (length H)) (argument_of kind.argument (take layout.argument run) (part_of block 0 layout.argument)) (directive_options (first_parts H) kind.options (drop layout.options run))
    (argument_short n kind.argument (take layout.argument run) block layout.argument (omega (arith, few, within.argument))) (omega (arith, few, within.first), omega (arith, few))

judged_short : (n : ℕ) (place : Place) (paragraph : Bool) (source : Part) (read : Result Read Wrong) → MayBeReadShort n read → AreOutcomeShort n (directive_outcome_at source (and_then (judged_directive place paragraph) (of_block read)))
judged_short n place paragraph source (Err w) h = tt
judged_short n place paragraph source (Ok read) h = by (fault_of place paragraph read)
  where
    by : (fault : Option Fault) → AreOutcomeShort n (directive_outcome_at source (unless fault (Ok read)))
    by (Some fault) = tt
    by None = h

outcome_short : (n : ℕ) (c : Within) (B : Block) (i : ℕ) (call : Invocation) (place : Place) → length (lines_in B call.block) ≤ n → AreOutcomeShort n (called c B i call place)
unfolding directive_of
outcome_short n c B i call place few = either (is_handed_at B i call)
  where
    paragraph : Bool
    paragraph = is_single_paragraph (lines_in B call.block)

    by : (r : Result Kind Fault) → AreOutcomeShort n (directive_outcome_at (source_lines_at i call.block) (and_then (judged_directive place paragraph) (and_then (read_at B i call.block) r)))
    by (Ok kind) = judged_short n place paragraph (source_lines_at i call.block) (read_block kind (is_late i call.block) call.block (lines_in B call.block)) (block_short n kind (is_late i call.block) call.block (lines_in B call.block) few)
    by (Err w) = tt

    either : (b : Bool) → AreOutcomeShort n (cond b handed (directive_at c.code B i call place paragraph))
    either true = tt
    either false = by (named_directive (called_at c.code B i call) place)

-- a directive's title, and the two parts of its content, have no more lines than this
abbrev pub AreFew : ℕ → Directive → Type 0
AreFew n (FoundDirective kind argument options content) = (argument_lines argument ≤ n) × IsContentShort n content
AreFew n HandedDirective = Unit {0}
AreFew n (WrongDirective fault source) = Unit {0}

kept_few : (n : ℕ) (d : Directive) → AreOutcomeShort n (directive_outcome d) → AreFew n d
kept_few n (FoundDirective kind (Title part) options content) h = h
kept_few n HandedDirective h = tt
kept_few n (WrongDirective fault source) h = tt
kept_few n _ h = (omega arith, h.1)

-- they have no more lines than its block
pub directive_few : (c : Within) (B : Block) (i : ℕ) (call : Invocation) (place : Place) (d : Directive) → directive_outcome d ≡ called c B i call place → AreFew (call.block.to - call.block.from) d
directive_few c B i call place d e =
    let n : ℕ = call.block.to - call.block.from in
    kept_few n d (subst (AreOutcomeShort n) (sym e) (outcome_short n c B i call place (part_le B call.block).0))
