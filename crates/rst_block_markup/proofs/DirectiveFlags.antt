-- Whether the block of a directive is a single paragraph counts for replacement texts alone.
use Rattle.std.proofs.Common.{◌≡◌, ℕ, Bool, true, false, cond, List, length, take, drop, Option, Some, None, Result, Ok, Err, refl, sym, ap, subst}
use Rattle.std.specs.Prelude.{not, ◌&&◌, option_map}
use Rattle.std.specs.Option.{option_or}
use Rattle.std.specs.Result.{result_map_both}
use Rattle.rst_text.specs.Block.{Block, cut, first_parts}
use Rattle.rst_markup_blocks.specs.declared.part.Part.{Part}
use Rattle.rst_markup_directives.specs.Argument.{ArgumentMeaning, argument_of}
use Rattle.rst_markup_directives.specs.Call.{part_of, content_block, content_of, is_empty}
use Rattle.rst_markup_directives.specs.Directive.{Read, read_parts, directive_by_layout, read_block, run_in, directive_options, source_lines_at, is_late, of_block, directive_outcome_at, read_at, classes_fault, judged_directive, named_directive, directive_of}
use Rattle.rst_markup_directives.specs.Judgement.{is_definition_place, is_substitutable, permitted, place_fault, fault_by, has_title, option_fault, content_fault}
use Rattle.rst_markup_directives.specs.Kind.{is_paragraph}
use Rattle.rst_markup_directives.specs.Layout.{layout_of}
use Rattle.rst_markup_directives.specs.Options.{OptionSetting}
use Rattle.rst_markup_directives.specs.Wrong.{Wrong, Fault, and_then, unless, fault_in}
use Rattle.rst_markup_directives.specs.declared.fault.DirectiveFault.{DirectiveFault}
use Rattle.rst_markup_directives.specs.declared.fault.DirectiveFault.TheVariants.{NotInSubstitution, Unknown}
use Rattle.rst_markup_directives.specs.declared.found.Content.{Content}
use Rattle.rst_markup_directives.specs.declared.found.Place.{Place}
use Rattle.rst_markup_directives.specs.declared.kind.ContentKind.{ContentKind}
use Rattle.rst_markup_directives.specs.declared.kind.ContentKind.TheVariants.{Paragraph}
use Rattle.rst_markup_directives.specs.declared.kind.Kind.{Kind}
use Rattle.rst_block_markup.specs.MarkupSteps.{takes_paragraph}

-- the fault of a content is the same, whether it is a single paragraph or not
fault_free : (content : ContentKind) → is_paragraph content ≡ false → (empty p q : Bool) → fault_by content empty p ≡ fault_by content empty q
fault_free Paragraph h empty p q = let no : true ≡ false = h in cc
fault_free _ h empty p q = refl

-- so is that of a directive of this kind
abbrev IsFree : Kind → Type 0
IsFree kind = (empty : Bool) (place : Place) (p q : Bool) → content_fault kind empty place p ≡ content_fault kind empty place q

free_of : (kind : Kind) → is_paragraph kind.content ≡ false → IsFree kind
unfolding content_fault
free_of kind h empty place p q = ap (λ (fault : Option DirectiveFault). option_or fault (place_fault kind.allowed place)) (fault_free kind.content h empty p q)

-- ---- a directive that is read has the kind that it is called by

parts_kind : (kind : Kind) (content : Content) (given : Result ArgumentMeaning Wrong) (choices : Result (List OptionSetting) Wrong) (r : Read) → read_parts kind content given choices ≡ Ok r → r.kind ≡ kind
parts_kind kind content given (Err wrong) r h = cc
parts_kind kind content (Err wrong) (Ok options) r h = cc
parts_kind kind content (Ok argument) (Ok options) r h =
    let made : Read = record { kind = kind; argument = argument; options = options; content = content } in
    let e : made ≡ r = cc in ap (λ (x : Read). x.kind) (sym e)

block_kind : (kind : Kind) (late : Bool) (block : Part) (H : Block) (r : Read) → read_block kind late block H ≡ Ok r → r.kind ≡ kind
unfolding read_block directive_by_layout
block_kind kind late block H r h =
    let run = run_in kind late H in
    let layout = layout_of kind run H in
    parts_kind kind (content_of (content_block kind.content block) layout (length H)) (argument_of kind.argument (take layout.argument run) (part_of block 0 layout.argument)) (directive_options (first_parts H) kind.options (drop layout.options run)) r h

unblocked : (read : Result Read Wrong) (r : Read) → of_block read ≡ Ok r → read ≡ Ok r
unblocked (Ok x) r h = let e : x ≡ r = cc in ap (λ (y : Read). Ok y) e
unblocked (Err wrong) r h = cc

-- a kind that is allowed there is the one that was called
abbrev kind_or_fault : Result Kind DirectiveFault → Result Kind Fault
kind_or_fault kind = result_map_both (λ (x : Kind). x) fault_in kind

free_named : (kind : Option Kind) (place : Place) (n : Kind) → takes_paragraph kind ≡ false → kind_or_fault (permitted kind place) ≡ Ok n → IsFree n
unfolding permitted
free_named None place n w h = by (is_definition_place place) h
  where
    by : (b : Bool) → kind_or_fault (cond b (Err NotInSubstitution) (Err Unknown)) ≡ Ok n → IsFree n
    by true h = let no : ⊥ = cc in absurd no
    by false h = let no : ⊥ = cc in absurd no
free_named (Some kind) place n w h = by (is_definition_place place && not (is_substitutable kind.allowed)) h
  where
    by : (b : Bool) → kind_or_fault (cond b (Err NotInSubstitution) (Ok kind)) ≡ Ok n → IsFree n
    by true h = let no : ⊥ = cc in absurd no
    by false h = let e : kind ≡ n = cc in subst IsFree e (free_of kind w)

read_free : (kind : Result Kind Fault) (B : Block) (at : ℕ) (block : Part) (r : Read) → ((n : Kind) → kind ≡ Ok n → IsFree n) → and_then (read_at B at block) kind ≡ Ok r → IsFree r.kind
read_free (Err fault) B at block r w h = let no : ⊥ = cc in absurd no
read_free (Ok n) B at block r w h =
    let H : Block = cut B block.from block.to block.first_cut block.rest_cut in
    subst IsFree (sym (block_kind n (is_late at block) block H r (unblocked (read_block n (is_late at block) block H) r h))) (w n refl)

-- ---- the flag

judged_free : (read : Result Read Fault) (place : Place) (p q : Bool) → ((r : Read) → read ≡ Ok r → IsFree r.kind) → and_then (judged_directive place p) read ≡ and_then (judged_directive place q) read
judged_free (Err fault) place p q w = refl
judged_free (Ok r) place p q w = ap (λ (fault : Option DirectiveFault). unless (option_or (option_map fault_in (option_or (option_fault (has_title r.argument) r.options) fault)) (classes_fault r.argument)) (Ok r)) (w r refl (is_empty r.content) place p q)

-- for a directive other than a replacement text the flag doesn't count
pub flag_free : (kind : Option Kind) (B : Block) (at : ℕ) (block : Part) (place : Place) (p q : Bool) → takes_paragraph kind ≡ false → directive_of kind B at block place p ≡ directive_of kind B at block place q
unfolding directive_of
flag_free kind B at block place p q w =
    ap (directive_outcome_at (source_lines_at at block))
    (judged_free (and_then (read_at B at block) (named_directive kind place)) place p q (λ r h. read_free (named_directive kind place) B at block r (λ n k. free_named kind place n w k) h))
