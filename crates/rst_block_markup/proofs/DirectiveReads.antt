-- What a block gives once a directive in it is read.
use Rattle.std.proofs.Common.{box_value, Box, ◌≡◌, ℕ, suc, ◌+◌, ◌-◌, ◌<◌, ◌≤◌, Bool, cond, drop, Result, arith, true, false, List, [], ◌∷◌, Some, None, Ok, Err, refl, sym, ◌∙◌, ap}
use Rattle.rst_settings.specs.declared.Parts.{Parts}
use Rattle.rst_text.specs.Block.{Block, first_number}
use Rattle.rst_text.specs.Looked.{capped}
use Rattle.rst_tree.specs.declared.node.Node.{Node}
use Rattle.rst_markup_blocks.specs.declared.part.Part.{Part}
use Rattle.rst_markup_directives.specs.Argument.{ArgumentMeaning, nothing, given_in}
use Rattle.rst_markup_directives.specs.Call.{is_empty}
use Rattle.rst_markup_directives.specs.Directive.{Read}
use Rattle.rst_markup_directives.specs.Kind.{has_blocks}
use Rattle.rst_markup_directives.specs.Options.{OptionSetting, choices_in}
use Rattle.rst_markup_directives.specs.declared.argument.Argument.{Argument}
use Rattle.rst_markup_directives.specs.declared.argument.Argument.TheVariants.{Title, Uri}
use Rattle.rst_markup_directives.specs.declared.kind.ContentKind.{ContentKind}
use Rattle.rst_markup_directives.specs.declared.kind.ContentKind.TheVariants.{Classed, Quotes}
use Rattle.rst_markup_directives.specs.declared.kind.QuoteClass.{QuoteClass}
use Rattle.rst_markup_directives.specs.declared.options.Setting.{Setting}
use Rattle.rst_block_nodes.specs.Options.{directive_element, figure_element, image_element}
use Rattle.rst_block_nodes.specs.TableRequests.{Asked, asked_in, asked_of}
use Rattle.rst_block_nodes.specs.Sections.{filled}
use Rattle.rst_block_nodes.specs.declared.table_faults.TableDirective.{TableDirective}
use Rattle.rst_block_nodes.specs.declared.table_requests.TableOptions.{TableOptions}
use Rattle.rst_block_state.specs.Directives.{class_nodes, closed_nodes, completed, completed_by, content_nodes, holding, titled_nodes, titled_start, plain_nodes, figure_of, opened_by, table_directive}
use Rattle.rst_block_state.specs.Figures.{caption_error, figure_nodes}
use Rattle.rst_block_state.specs.Inside.{content_blocks}
use Rattle.rst_block_state.specs.TableDirectives.{directive_table_nodes}
use Rattle.rst_block_markup.specs.MarkupSteps.{IsDirectiveRead, IsForContent, IsOpenedRead, made_of_content, marked_text, read_of_directive, reads_with}
use Rattle.rst_block_markup.specs.declared.directive.Found.{Found}
use Rattle.rst_block_state.specs.machine.Meanings.{within_at, reads_from, comes, Keeps, deepest, resumed}
use Rattle.rst_block_state.specs.Numbered.{then_read, ◌>>=◌, just}
use Rattle.rst_block_state.specs.machine.OpenBlocks.{HasMoreAt, IsMoved}
use Rattle.rst_block_state.specs.Texts.{span_source}
use Rattle.rst_block_state.specs.Within.{Within}
use Rattle.rst_block_nodes.specs.declared.fault.BlockFault.{BlockFault}
use Rattle.rst_block_nodes.specs.declared.fault.BlockFault.TheVariants.{TooDeep, NoMemory}
use Rattle.rst_block_state.specs.declared.open_block.OpenBlock.{OpenBlock}
use Rattle.rst_block_state.specs.declared.waits.OpenTable.{OpenTable}
use Rattle.rst_block_state.specs.declared.waits.Waits.{Waits}
use Rattle.rst_block_state.specs.declared.waits.Waits.TheVariants.{Element, Table as WaitsForTable}
use Rattle.std.specs.declared.alloc.Global.{Global}
use Rattle.rst_block_state.specs.declared.step.Step.{Step}
use Rattle.rst_block_state.specs.declared.step.Step.TheVariants.{Next, Open}
use Rattle.rst_block_state.specs.declared.texts.Pass.{Pass}
use Rattle.rst_block_markup.proofs.MarkupReads.{content_comes}
use Rattle.rst_block_markup.proofs.PartLemmas.{nodes_read, part_as}

-- ---- a directive by its content and its argument

-- a directive whose content is blocks, with this argument
pub opened_read : {few more : ℕ} {B : Block} {old new : OpenBlock} {before after : Pass} {argument : Argument} {result : Result Step BlockFault} (f : Found) (given : ArgumentMeaning)
    → IsOpenedRead few B old before f given new after result → has_blocks f.kind.content ≡ true → f.argument ≡ argument
    → ((c : Within) (line : ℕ) (lines : List ℕ) → opened_by given c B line (read_of_directive f) lines ≡ opened_by (given_in argument) c B line (read_of_directive f) lines)
    → few ≤ more → IsDirectiveRead more B old before f new after result
opened_read {B = B} {old} f given h blocks is same enough =
    let c = within_at old.depth in
    let line = first_number (drop old.at B) in
    let lines = span_source B (record { start = old.at; stop = f.end }) in
    let read = read_of_directive f in
    part_as h
    (same c line lines ∙ ap (λ a. opened_by (given_in a) c B line read lines) (sym is)
    ∙ ap (λ b. cond b (opened_by read.argument c B line read lines) (closed_nodes c.levels B line read)) (sym blocks))
    (ap (λ b. cond b (content_blocks B f.content) []) (sym blocks)) refl (omega arith) (omega (arith, enough))

-- one with neither a title nor a URI
pub plain_opened : (a : Argument) → ((part : Part) → a ≡ Title part → ⊥) → ((text : _) → a ≡ Uri text → ⊥) → (c : Within) (B : Block) (line : ℕ) (read : Read) (lines : List ℕ)
    → opened_by nothing c B line read lines ≡ opened_by (given_in a) c B line read lines
plain_opened (Title part) no_title no_uri c B line read lines = absurd (no_title part refl)
plain_opened (Uri text) no_title no_uri c B line read lines = absurd (no_uri text refl)
plain_opened _ no_title no_uri c B line read lines = refl

-- one that holds no blocks
pub closed_read : {more : ℕ} {B : Block} {old new : OpenBlock} {before after : Pass} (f : Found) (ns : List Node) → has_blocks f.kind.content ≡ false → HasMoreAt old new ns f.end → old.at < f.end
    → closed_nodes (suc deepest - old.depth) B (first_number (drop old.at B)) (read_of_directive f) before.numbers ≡ Ok (ns, after.numbers)
    → capped before.looks ≤ after.looks → after.looks ≤ before.looks + more → IsDirectiveRead more B old before f new after (Ok Next)
closed_read {B = B} {old} {before = before} f ns blocks h later n low high =
    let c = within_at old.depth in
    let line = first_number (drop old.at B) in
    let lines = span_source B (record { start = old.at; stop = f.end }) in
    let read = read_of_directive f in
    nodes_read ns h later
    (ap (λ b. cond b (opened_by read.argument c B line read lines) (closed_nodes c.levels B line read) before.numbers) blocks ∙ n)
    (ap (λ b. cond b (content_blocks B f.content) []) (sym blocks)) low high

-- one that holds no blocks, and is refused
pub closed_refused : {A : Type 0} {more : ℕ} {B : Block} {old new : OpenBlock} {before after : Pass} {result : Result Step BlockFault} (f : Found) (fault : BlockFault) (follows : A → Result (List Node × ℕ) ℕ)
    → has_blocks f.kind.content ≡ false → Keeps (Err fault) follows (closed_nodes (suc deepest - old.depth) B (first_number (drop old.at B)) (read_of_directive f) before.numbers) → result ≡ Err fault
    → IsDirectiveRead more B old before f new after result
closed_refused {B = B} {old} {before = before} f (TooDeep number) follows blocks h is =
    let c = within_at old.depth in
    let line = first_number (drop old.at B) in
    let lines = span_source B (record { start = old.at; stop = f.end }) in
    let read = read_of_directive f in
    rw is (record {
      step = tt;
      read = ap (then_read (λ ns. reads_from old B ns f.end)) (ap (λ b. cond b (opened_by read.argument c B line read lines) (closed_nodes c.levels B line read) before.numbers) blocks ∙ h);
      paid = tt;
    })
closed_refused f NoMemory follows blocks h is = rw is (record { step = tt; read = tt; paid = tt })

-- the text of one that holds a text, in other words
pub text_is : {parts asked : Parts} {line at : ℕ} {t u : List ℕ} (literal : Bool) (read : Read) → parts ≡ asked → line ≡ at → t ≡ u → marked_text literal read parts line t ≡ marked_text literal read asked at u
text_is {parts} {asked} {line} {at} {t} {u} literal read p l e = ap (λ x. marked_text literal read x line t) p ∙ ap (λ k. marked_text literal read asked k t) l ∙ ap (marked_text literal read asked at) e

-- ---- what a block waits for

pub element_waits : (f : Found) (start : ℕ) (element : Node) → None ≡ table_directive f.kind.content → IsForContent f start element (Element element)
element_waits f start element other = record {
  one = tt;
  waiting = λ B at. tt;
  looks = omega arith;
  made = λ l B ns. ap (λ (x : List Node). reads_from l B x l.at)
      (ap (λ o. completed_by o (choices_in f.options.items) element (first_number (drop start B)) (span_source B (record { start = start; stop = f.end })) ns) other);
}

pub table_waits : (f : Found) (start : ℕ) (directive : TableDirective) (element : Node) (asked : TableOptions) (boxed : Box OpenTable Global) → Some directive ≡ table_directive f.kind.content
    → box_value boxed ≡ record { directive = directive; table = element; asked = asked; start = start; end = f.end } → asked_in asked ≡ asked_of (choices_in f.options.items)
    → IsForContent f start element (WaitsForTable boxed)
table_waits f start directive element asked boxed is table same = record {
  one = tt;
  waiting = λ B at. tt;
  looks = omega (arith, ap (λ (t : OpenTable). t.end - t.start) table);
  made = λ l B ns.
      let line : ℕ = first_number (drop start B) in
      let lines : List ℕ = span_source B (record { start = start; stop = f.end }) in
      let nodes : OpenTable → List Node = λ t. directive_table_nodes t.directive (first_number (drop t.start B)) (span_source B (record { start = t.start; stop = t.end })) t.table (asked_in t.asked) ns in
      ap (λ (x : List Node). reads_from l B x l.at)
      (ap nodes table ∙ ap (λ (a : Asked). directive_table_nodes directive line lines element a ns) same ∙ ap (λ o. completed_by o (choices_in f.options.items) element line lines ns) is);
}

-- ---- what comes

pub titled_comes : (old new : OpenBlock) (B : Block) (read : Read) (heading : Block) (lines : List ℕ) (end n m line at : ℕ) (node : Node) (w : Waits) (s : Step)
    → titled_start line read heading n ≡ Ok (node, m) → line ≡ at
    → ((ns : List Node) → resumed new B w ns ≡ reads_from new B (completed read.kind.content read.options node at lines ns) new.at)
    → s ≡ Open w read.content.first (Some read.content.second) → new.at ≡ end → IsMoved old new
    → comes new B s m ≡ reads_with old B (titled_nodes (within_at old.depth) B at read heading lines) end n
titled_comes old new B read heading lines end n m line at node w s h l waits e a moved =
    let c = within_at old.depth in
    let start : titled_start at read heading n ≡ Ok (node, m) = ap (λ k. titled_start k read heading n) (sym l) ∙ h in
    ap (λ s. comes new B s m) e
    ∙ content_comes B w read.content (completed read.kind.content read.options node at lines) m moved a waits
    ∙ ap (λ r. then_read (λ ns. reads_from old B ns end) (then_read (λ start. content_nodes c B read.content >>= λ ns. just (completed read.kind.content read.options start at lines ns)) r)) (sym start)

-- a content that gets no classes is held by the directive's element, or makes a table
pub held : (content : ContentKind) (options : List OptionSetting) (empty : Bool) (element : Node) (line : ℕ) (lines : List ℕ) (ns : List Node) → ((class : QuoteClass) → content ≡ Quotes class → ⊥) → (content ≡ Classed → ⊥)
    → holding content options empty element line lines ns ≡ completed content options element line lines ns
held (Quotes class) options empty element line lines ns quotes classed = absurd (quotes class refl)
held Classed options empty element line lines ns quotes classed = absurd (classed refl)
held _ options empty element line lines ns quotes classed = refl

-- what `class` leaves
pub class_held : (content : ContentKind) (options : List OptionSetting) (empty given : Bool) (element : Node) (line : ℕ) (lines : List ℕ) (ns : List Node) → content ≡ Classed → empty ≡ given
    → holding content options empty element line lines ns ≡ class_nodes given element lines ns
class_held content options empty given element line lines ns is same =
    ap (λ k. holding k options empty element line lines ns) is ∙ ap (λ b. class_nodes b element lines ns) same

pub plain_comes : (old new : OpenBlock) (B : Block) (read : Read) (lines : List ℕ) (end n at : ℕ) (w : Waits) (s : Step)
    → ((ns : List Node) → resumed new B w ns ≡ reads_from new B (holding read.kind.content read.options (is_empty read.content) (directive_element read.kind.element read.argument read.options at) at lines ns) new.at)
    → s ≡ Open w read.content.first (Some read.content.second) → new.at ≡ end → IsMoved old new
    → comes new B s n ≡ reads_with old B (plain_nodes (within_at old.depth) B at read lines) end n
plain_comes old new B read lines end n at w s waits e a moved =
    ap (λ s. comes new B s n) e
    ∙ content_comes B w read.content (holding read.kind.content read.options (is_empty read.content) (directive_element read.kind.element read.argument read.options at) at lines) n moved a waits

-- ---- elements

pub figure_is : (c : Within) (B : Block) (read : Read) (t lines : List ℕ) (line at : ℕ) (slice : List Setting) (element image_node figure : Node) (inner : List Node)
    → element ≡ figure_element (choices_in slice) line → image_node ≡ image_element t (choices_in slice) line true None → inner ≡ image_node ∷ [] → figure ≡ filled element inner
    → choices_in slice ≡ read.options → line ≡ at
    → made_of_content c B read.content (figure_nodes figure (caption_error at lines)) ≡ figure_of c B at read t lines
figure_is c B read t lines line at slice element image_node figure inner e s i f o l =
    let whole : figure ≡ filled (figure_element read.options line) (image_element t read.options line true None ∷ []) =
    f ∙ ap (filled element) (i ∙ ap (λ (x : Node). x ∷ []) (s ∙ ap (λ os. image_element t os line true None) o))
    ∙ ap (λ x. filled x (image_element t read.options line true None ∷ [])) (e ∙ ap (λ os. figure_element os line) o) in
    ap (λ x. made_of_content c B read.content (figure_nodes x (caption_error at lines))) whole
    ∙ ap (λ k. made_of_content c B read.content (figure_nodes (filled (figure_element read.options k) (image_element t read.options k true None ∷ [])) (caption_error at lines))) l
