-- Explicit markup, step by step: what a block gives where its next line begins some, and directives as they are kept. No rule of markup.
use Rattle.std.specs.declared.vec.Vec.{Vec}
use Rattle.std.specs.Prelude.{◌≡◌, ℕ, ◌+◌, ◌-◌, ◌<◌, ◌≤◌, length, drop, unwrap_or, Bool, true, false, List, [], ◌∷◌, Option, Some, None, Result, Ok, IfOk, if◌then◌else◌}
use Rattle.rst_settings.specs.declared.Parts.{Parts}
use Rattle.rst_text.specs.Block.{Block, Line, first_number}
use Rattle.rst_tree.specs.declared.node.Node.{Node}
use Rattle.rst_markup_directives.specs.Argument.{ArgumentMeaning, given_in}
use Rattle.rst_markup_directives.specs.Call.{IsContentIn}
use Rattle.rst_markup_directives.specs.Directive.{Read}
use Rattle.rst_markup_directives.specs.Kind.{is_paragraph}
use Rattle.rst_markup_directives.specs.Options.{choices_in}
use Rattle.rst_markup_directives.specs.declared.found.Content.{Content}
use Rattle.rst_markup_directives.specs.declared.found.Place.{Place}
use Rattle.rst_markup_directives.specs.declared.found.Place.TheVariants.{Top, Body}
use Rattle.rst_markup_directives.specs.declared.kind.Kind.{Kind}
use Rattle.rst_block_nodes.specs.Options.{with_options}
use Rattle.rst_block_state.specs.Constructs.{explicit_markup}
use Rattle.rst_block_state.specs.Directives.{completed, content_nodes, opened_by, right_nodes}
use Rattle.rst_block_state.specs.Figures.{Beginning, caption, no_caption, neither}
use Rattle.rst_block_state.specs.Inside.{content_blocks, directive_content}
use Rattle.rst_block_state.specs.looks.Ledger.{Opens, WaitsForOne, argument_lines, waiting_looks}
use Rattle.rst_block_state.specs.machine.Meanings.{Keeps, comes, open_run_of, resumed, within_at, done_of, reads_from}
use Rattle.rst_block_state.specs.Numbered.{Numbered, ◌>>=◌, just, before}
use Rattle.rst_block_state.specs.machine.Rest.{OpenRun, open_markup, rest_with}
use Rattle.rst_block_state.specs.machine.RestLaws.{found_as}
use Rattle.rst_block_state.specs.machine.Steps.{IsStep, IsWaiting}
use Rattle.rst_block_state.specs.Texts.{span_source, texted}
use Rattle.rst_block_state.specs.Titles.{Item}
use Rattle.rst_block_state.specs.Within.{Within}
use Rattle.rst_block_markup.specs.declared.directive.Found.{Found}
use Rattle.rst_block_markup.specs.declared.figure.ContentStart.{ContentStart}
use Rattle.rst_block_markup.specs.declared.figure.ContentStart.TheVariants.{Caption, Missing, Wrong}
use Rattle.rst_block_nodes.specs.declared.fault.BlockFault.{BlockFault}
use Rattle.rst_block_nodes.specs.LineBlocks.{indented_by}
use Rattle.rst_block_nodes.specs.declared.line_blocks.BarText.{BarText}
use Rattle.rst_block_state.specs.LineRuns.{verse_line}
use Rattle.rst_block_state.specs.declared.open_block.OpenBlock.{OpenBlock}
use Rattle.rst_block_state.specs.declared.step.Step.{Step}
use Rattle.rst_block_state.specs.declared.texts.Pass.{Pass}
use Rattle.rst_block_state.specs.declared.waits.Waits.{Waits}

-- the open run is explicit markup
abbrev pub is_markup : OpenRun → Bool
is_markup (open_markup end) = true
is_markup _ = false

-- what a block gives that has explicit markup at its next line, which ends at this place
abbrev pub markup_reads : OpenBlock → Block → ℕ → Numbered (List Item)
markup_reads l B end =
    before (done_of l) (rest_with (within_at l.depth) B (open_run_of l.run) (found_as explicit_markup (record { start = l.at; stop = end })))

-- what a block gives in which these nodes are read next, and which goes on at this line
abbrev pub reads_with : OpenBlock → Block → Numbered (List Node) → ℕ → Numbered (List Item)
reads_with l B read at = do
  ns ← read
  reads_from l B ns at

-- Part of a construct was read: the step leads to a later line, the block gives these nodes next and goes on at this line, and these blocks are opened
-- in at most this many looks.
pub record IsPartRead (few : ℕ) (B : Block) (old : OpenBlock) (before : Pass) (nodes : Numbered (List Node)) (inner : List Block) (end : ℕ) (new : OpenBlock) (after : Pass) (result : Result Step BlockFault) : Type 0 where
  pub step : IfOk result (λ s. IsStep B old.at new.at s)
  pub read : Keeps result (λ s. comes new B s after.numbers) (reads_with old B nodes end before.numbers)
  pub paid : IfOk result (λ s. Opens few old new B inner end s before.looks after.looks)

-- what is made of the nodes of a content
abbrev pub made_of_content : Within → Block → Content → (List Node → List Node) → Numbered (List Node)
made_of_content c B content make = do
  nodes ← content_nodes c B content
  just (make nodes)

-- ---- directives

-- a directive of this kind takes a single paragraph
abbrev pub takes_paragraph : Option Kind → Bool
takes_paragraph (Some kind) = is_paragraph kind.content
takes_paragraph None = false

-- where a directive is: in the document itself where titles are recognized, else in a body
abbrev pub place_in : Bool → Place
place_in titles = if titles then Top else Body

-- a right directive, as it is kept
abbrev pub read_of_directive : Found → Read
read_of_directive f = record { kind = f.kind; argument = given_in f.argument; options = choices_in f.options.items; content = f.content }

-- a right directive at a line of a block: its content is in the block, and it ends after the line
pub record IsRight (B : Block) (at : ℕ) (found : Found) : Type 0 where
  pub content : IsContentIn B found.content
  pub inside : at < length B
  pub later : at < found.end

-- a right directive was read, which is at the next line of a block
abbrev pub IsDirectiveRead : ℕ → Block → OpenBlock → Pass → Found → OpenBlock → Pass → Result Step BlockFault → Type 0
IsDirectiveRead few B old before f new after result =
    let lines = span_source B (record { start = old.at; stop = f.end }) in
    let nodes = right_nodes (within_at old.depth) B (first_number (drop old.at B)) (read_of_directive f) lines in
    IsPartRead few B old before nodes (directive_content f.kind.content B f.content) f.end new after result

-- the same of one with this argument, whose content is blocks
abbrev pub IsOpenedRead : ℕ → Block → OpenBlock → Pass → Found → ArgumentMeaning → OpenBlock → Pass → Result Step BlockFault → Type 0
IsOpenedRead few B old before f given new after result =
    let lines = span_source B (record { start = old.at; stop = f.end }) in
    let nodes = opened_by given (within_at old.depth) B (first_number (drop old.at B)) (read_of_directive f) lines in
    IsPartRead few B old before nodes (content_blocks B f.content) f.end new after result

-- A block waits for the content of a directive that starts at this place, whose element it has. It looks at most at the directive's lines, and makes
-- of the nodes what the directive does.
pub record IsForContent (found : Found) (start : ℕ) (element : Node) (waits : Waits) : Type 0 where
  pub one : WaitsForOne waits
  pub waiting : (B : Block) (at : ℕ) → IsWaiting B at waits
  pub looks : waiting_looks waits ≤ found.end - start
  pub made : (l : OpenBlock) (B : Block) (ns : List Node) →
      let lines = span_source B (record { start = start; stop = found.end }) in
      resumed l B waits ns ≡ reads_from l B (completed found.kind.content (choices_in found.options.items) element (first_number (drop start B)) lines ns) l.at

-- how many lines the argument and the content of a directive have
abbrev pub text_lines : Found → ℕ
text_lines f = argument_lines f.argument + (f.content.first.to - f.content.first.from) + (f.content.second.to - f.content.second.from)

-- nodes were read, where messages are numbered from `number` on, and then from `next` on
abbrev pub HoldsNodes : {A : Type 0} → Numbered (List Node) → ℕ → ℕ → Vec Node A → Type 0
HoldsNodes nodes number next made = nodes number ≡ Ok (made.items, next)

-- a line of a line block, as it is kept, is this line of verse
abbrev pub IsVerse : BarText → Line → Type 0
IsVerse bar l = (last : ℕ) → indented_by (unwrap_or bar.indent last) bar ≡ verse_line last l

-- so are all of some lines
abbrev pub AreVerse : List BarText → Block → Type 0
AreVerse [] [] = Unit {0}
AreVerse (bar ∷ bars) (l ∷ ls) = IsVerse bar l × AreVerse bars ls
AreVerse bars B = ⊥

-- the element of a directive that has this text with inline markup, and the messages on the text
abbrev pub marked_text : Bool → Read → Parts → ℕ → List ℕ → Numbered (List Node)
marked_text literal read parts line text = do
  made ← texted parts read.kind.element line text line
  just (with_options literal read.options made.0 ∷ made.1)

-- what the content of a figure begins with, as it is kept
abbrev pub beginning_in : ContentStart → Beginning
beginning_in (Caption node count) = caption node count
beginning_in Missing = no_caption
beginning_in Wrong = neither
