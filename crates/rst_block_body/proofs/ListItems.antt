-- Items of lists: where an item ends, which list it joins, and what the block gives where it joins the open list or begins one.
use Rattle.std.proofs.Common.{◌≡◌, ℕ, ◌+◌, ◌<◌, Bool, true, false, List, [], ◌∷◌, ◌++◌, length, drop, Option, Some, None, Result, Ok, Err, arith, refl, sym, ◌∙◌, ap}
use Rattle.std.specs.Prelude.{◌||◌, slice_range}
use Rattle.std.specs.Option.{option_and_then, option_map_or}
use Rattle.std.proofs.lemmas.List.{drop-drop}
use Rattle.rst_settings.specs.declared.Parts.{Parts}
use Rattle.rst_text.proofs.Choices.{chosen}
use Rattle.rst_text.specs.Block.{Block, first_text, first_number, first_parts}
use Rattle.rst_tree.specs.declared.node.Node.{Node}
use Rattle.rst_tree.specs.declared.tag.Tag.{Tag}
use Rattle.rst_tree.specs.declared.tag.Tag.TheVariants.{Definition as DefinitionTag, DefinitionListItem, Field as FieldTag, FieldBody, FieldName, OptionListItem, Description}
use Rattle.rst_markup_lines.specs.Enumerator.{enumerator_of, begins_next}
use Rattle.rst_markup_lines.specs.TextStart.{is_loose}
use Rattle.rst_markup_lines.specs.declared.enumerator.Enumerator.{Enumerator}
use Rattle.rst_markup_lines.specs.declared.field.FieldMark.{FieldMark}
use Rattle.rst_markup_lines.specs.declared.marker.Marker.{Marker}
use Rattle.rst_markup_blocks.specs.Begun.{IsBegun}
use Rattle.rst_markup_blocks.specs.Conditions.{next_text, if_listed, item_enumerator}
use Rattle.rst_markup_blocks.specs.ExplicitMarkup.{hanging_part}
use Rattle.rst_markup_blocks.specs.Forms.{text_form}
use Rattle.rst_markup_blocks.specs.Partition.{Span}
use Rattle.rst_markup_blocks.specs.Sizes.{hanging_size, least_below, item_size, bullet_size, enumerator_size}
use Rattle.rst_markup_blocks.specs.declared.begun.Begun.TheVariants as begun
use Rattle.rst_markup_blocks.specs.declared.form.TextForm.TheVariants as forms
use Rattle.rst_markup_blocks.specs.declared.part.Part.{Part}
use Rattle.rst_block_nodes.specs.Elements.{element_of}
use Rattle.rst_block_state.specs.Constructs.{ItemMark, bullet_item, enumerated_item, definition_item, field_item, option_item, item_of_list, Found}
use Rattle.rst_block_state.specs.Joins.{Joining, list_joining, list_joining_after}
use Rattle.rst_block_state.specs.Lists.{item_by, item_with, option_group, infos_of, empty_list, list_notes}
use Rattle.rst_block_state.specs.machine.Meanings.{joining_in, open_run_of, list_kind_in, within_at, done_of, reads, comes, resumed, with_item}
use Rattle.rst_block_state.specs.machine.NextLine.{IsText}
use Rattle.rst_block_state.specs.Numbered.{Numbered, then_read, ◌>>=◌, just, before}
use Rattle.rst_block_state.specs.machine.OpenBlocks.{joined_at, begun_at, IsMoved, HasRun, IsClosed, with_infos}
use Rattle.rst_block_state.specs.machine.Rest.{ListSoFar, OpenRun, open_list, joining_with, joined_run, begun_run, with_items, rest, rest_with}
use Rattle.rst_block_state.specs.machine.RestLaws.{found_as}
use Rattle.rst_block_state.specs.Texts.{lines_in, termed, texted}
use Rattle.rst_block_state.specs.Titles.{Item}
use Rattle.rst_block_state.specs.Within.{Within, hanging, item_part, indented_part}
use Rattle.rst_block_state.specs.declared.open_block.OpenBlock.{OpenBlock}
use Rattle.rst_block_state.specs.declared.waits.Waits.{Waits}
use Rattle.rst_block_state.specs.declared.run.ListKind.{ListKind}
use Rattle.rst_block_state.specs.declared.run.Run.{Run}
use Rattle.rst_block_state.specs.declared.run.Run.TheVariants.{None as NoRun}
use Rattle.rst_block_state.specs.declared.step.Step.{Step}
use Rattle.rst_block_state.specs.declared.step.Step.TheVariants.{Open}
use Rattle.rst_block_state.proofs.Changes.{done_same, done_moved}
use Rattle.rst_block_state.proofs.MeaningLemmas.{waiting_means}
use Rattle.rst_block_body.specs.Items.{HasList, IsNextItem, item_comes}
use Rattle.rst_block_state.proofs.NextConstructs.{next_of, next_of_form, next_some, span_to, next_reads, run_of, closed_reads, close_refused}
use Rattle.rst_block_state.proofs.NumberedLemmas.{before_then, same_before}
use Rattle.rst_block_state.proofs.RestLemmas.{item_joins, item_begins}

-- ---- where an item ends

-- a hanging block ends where its construct does
pub hanging_to : (i : ℕ) {part : Part} (m : Marker) (X : Block) → part ≡ hanging i m X → part.to ≡ i + hanging_size X
unfolding hanging_part
hanging_to i m X e = ap (λ (p : Part). p.to) e ∙ by m.bare
  where
    by : (b : Bool) → (hanging_part i m.cut b X).to ≡ i + hanging_size X
    by true = refl
    by false = refl

-- the block of an item ends where the item does
pub item_to : (i : ℕ) {part : Part} (m : Marker) (X : Block) → part ≡ item_part i m X → part.to ≡ i + item_size m X
unfolding hanging_part hanging_size least_below
item_to i m X e = ap (λ (p : Part). p.to) e ∙ by m.bare refl
  where
    by : (b : Bool) → m.bare ≡ b → (item_part i m X).to ≡ i + item_size m X
    by true e = rw e refl
    by false e = rw e refl

-- the block below a term ends where the definition does
pub below_to : (i : ℕ) (B : Block) {part : Part} → part ≡ indented_part (i + 1) (drop 1 (drop i B)) → part.to ≡ i + hanging_size (drop i B)
unfolding hanging_size
below_to i B e = omega (arith, ap (λ (p : Part). p.to) e)

-- an item of a bullet list has as many lines as its marker determines
bullet_sized : (X : Block) (mark : ℕ) (marker : Marker) → IsBegun X (begun.Bullet mark marker) → bullet_size X ≡ item_size marker X
unfolding bullet_size
bullet_sized X mark marker h = ap (λ o. option_map_or (λ m. item_size m X) o 1) h.mark.1

-- an enumerator of an item is the enumerator of its line
listed_is : (o : Option Enumerator) (next : List ℕ) (e : Enumerator) → if_listed o next ≡ Some e → o ≡ Some e
listed_is None next e h = h
listed_is (Some f) next e h = (chosen (is_loose next || begins_next f next) (Some f) e h).1

-- an item of an enumerated list has as many lines as its marker determines
enumerator_sized : (X : Block) (e : Enumerator) → IsBegun X (begun.Enumerator e) → enumerator_size X ≡ item_size e.marker X
unfolding enumerator_size item_enumerator
enumerator_sized X e h = ap (λ o. option_map_or (λ (f : Enumerator). item_size f.marker X) o 1) (listed_is (enumerator_of (first_text X)) (next_text X) e h.mark)

-- ---- an item comes next

-- the place after its lines is after its first line
pub item_end_later : {l : OpenBlock} {B : Block} {mark : ItemMark} {part : Part} → IsNextItem l B mark part → l.at < length B → l.at < part.to
item_end_later h inside = omega (arith, h.end, next_some h.next inside)

pub next_bullet : (l : OpenBlock) (B : Block) {c : ℕ} {m : Marker} {part : Part} → IsBegun (drop l.at B) (begun.Bullet c m) → part ≡ item_part l.at m (drop l.at B) → IsNextItem l B (bullet_item c m) part
next_bullet l B {c} {m} h e = record {
  lines = bullet_size (drop l.at B);
  next = next_of (begun.Bullet c m) l B h tt;
  is = e;
  end = item_to l.at m (drop l.at B) e ∙ ap (λ size. l.at + size) (sym (bullet_sized (drop l.at B) c m h));
}

pub next_enumerated : (l : OpenBlock) (B : Block) {mark : Enumerator} {part : Part} → IsBegun (drop l.at B) (begun.Enumerator mark) → part ≡ item_part l.at mark.marker (drop l.at B)
    → IsNextItem l B (enumerated_item mark) part
next_enumerated l B {mark} h e = record {
  lines = enumerator_size (drop l.at B);
  next = next_of (begun.Enumerator mark) l B h tt;
  is = e;
  end = item_to l.at mark.marker (drop l.at B) e ∙ ap (λ size. l.at + size) (sym (enumerator_sized (drop l.at B) mark h));
}

pub next_field : (l : OpenBlock) (B : Block) {mark : FieldMark} {part : Part} → IsBegun (drop l.at B) (begun.Field mark) → part ≡ hanging l.at mark.marker (drop l.at B) → IsNextItem l B (field_item mark) part
next_field l B {mark} h e = record { lines = hanging_size (drop l.at B); next = next_of (begun.Field mark) l B h tt; is = e; end = hanging_to l.at mark.marker (drop l.at B) e }

pub next_option : (l : OpenBlock) (B : Block) {m : Marker} {part : Part} → IsBegun (drop l.at B) (begun.OptionItem m) → part ≡ hanging l.at m (drop l.at B) → IsNextItem l B (option_item m) part
next_option l B {m} h e = record { lines = hanging_size (drop l.at B); next = next_of (begun.OptionItem m) l B h tt; is = e; end = hanging_to l.at m (drop l.at B) e }

pub next_definition : (l : OpenBlock) (B : Block) (infos : List Node) {part : Part} → IsText l B infos → text_form (first_text (drop l.at B)) (next_text (drop l.at B)) ≡ forms.Definition
    → part ≡ indented_part (l.at + 1) (drop (l.at + 1) B) → IsNextItem l B (definition_item infos) part
next_definition l B infos {part} h f e =
    let is : part ≡ indented_part (l.at + 1) (drop 1 (drop l.at B)) = e ∙ ap (indented_part (l.at + 1)) (sym (drop-drop 1 l.at B)) in
    record { lines = hanging_size (drop l.at B); next = next_of_form infos h f; is = is; end = below_to l.at B is }

-- ---- which list it is in

-- the kind of the open list, if one is open, decides whether an item joins
pub joining_by_kind : (run : Run) (mark : ItemMark) (s : Span)
    → joining_with (open_run_of run) (found_as (item_of_list mark) s) ≡ option_and_then (λ (kind : ListKind). list_joining_after (joining_in kind) mark) (list_kind_in run)
joining_by_kind NoRun mark s = refl
joining_by_kind _ mark s = refl

-- an open list
pub record IsList (o : OpenRun) : Type 0 where
  pub list : ListSoFar
  pub is : o ≡ open_list list

-- an item joins nothing but a list
pub joined_is_list : (o : OpenRun) (B : Block) (mark : ItemMark) (j : Joining) (s : Span) → joining_with o (found_as (item_of_list mark) s) ≡ Some j
    → IsList (joined_run j o B (found_as (item_of_list mark) s))
joined_is_list (open_list l) B mark j s h = record { list = _; is = refl }
joined_is_list _ B mark j s h = absurd (cc)

-- the list after an item that joins it
pub after_joined : (j : Joining) (o : OpenRun) (B : Block) (mark : ItemMark) (s : Span) → joining_with o (found_as (item_of_list mark) s) ≡ Some j
    → with_infos (infos_of (item_of_list mark)) (joined_at j s.stop o) ≡ joined_run j o B (found_as (item_of_list mark) s)
after_joined j (open_list l) B mark s h = refl
after_joined j _ B mark s h = absurd (cc)

-- an open list with these messages after it; no other run has some
abbrev pub with_notes : List Node → OpenRun → OpenRun
with_notes notes (open_list l) = open_list (record l { notes_after = notes })
with_notes notes o = o

-- the list that an item begins
pub list_begun : (mark : ItemMark) (B X : Block) (s : Span) (kind : ListKind) {element : Node} {notes : List Node} → joining_in kind ≡ list_joining mark → element ≡ empty_list mark X → notes ≡ list_notes mark X
    → with_infos (infos_of (item_of_list mark)) (with_notes notes (begun_at (joining_in kind) s.stop element)) ≡ begun_run (item_of_list mark) B s X
list_begun mark B X s kind j e n = rw (j, e, n) refl

-- ---- what comes of it

-- some lines from the next one on, with this item
abbrev pub item_found : OpenBlock → ItemMark → ℕ → Found
item_found l mark stop = found_as (item_of_list mark) (span_to l.at stop)

-- an item at a place, in this list, and what comes after it
abbrev item_then : ℕ → Block → ℕ → ItemMark → ℕ → OpenRun → Numbered (List Item)
item_then depth B at mark stop o = item_by (within_at depth) B at mark (drop at B) >>= λ ns. rest (within_at depth) B stop (with_items ns o)

item_comes_as : (l : OpenBlock) (B : Block) (mark : ItemMark) (stop n : ℕ) {done : List Item} {depth at : ℕ} {o : OpenRun} → done_of l ≡ done → l.depth ≡ depth → l.at ≡ at → open_run_of l.run ≡ o
    → item_comes mark stop l B n ≡ before done (item_then depth B at mark stop o) n
item_comes_as l B mark stop n d e a r = rw (d, e, a, r) refl

-- what the block gives where an item comes next
item_reads : {l : OpenBlock} {B : Block} {mark : ItemMark} {part : Part} (n : ℕ) → IsNextItem l B mark part
    → reads l B n ≡ before (done_of l) (rest_with (within_at l.depth) B (open_run_of l.run) (item_found l mark part.to)) n
item_reads {l} {B} {mark} n h = next_reads n h.next ∙ ap (λ i. before (done_of l) (rest_with (within_at l.depth) B (open_run_of l.run) (item_found l mark i)) n) (sym h.end)

-- an item that joins the open list comes in it
pub item_in_list : {old mid : OpenBlock} {B : Block} {mark : ItemMark} {part : Part} (j : Joining) (n : ℕ) → IsNextItem old B mark part
    → joining_with (open_run_of old.run) (item_found old mark part.to) ≡ Some j → HasRun old mid (joined_run j (open_run_of old.run) B (item_found old mark part.to))
    → item_comes mark part.to mid B n ≡ reads old B n
item_in_list {old} {mid} {B} {mark} {part} j n next h run =
    item_comes_as mid B mark part.to n (done_same old mid run.nodes run.headings) run.depth run.at run.run
    ∙ sym (item_reads n next
    ∙ same_before (done_of old) (rest_with (within_at old.depth) B (open_run_of old.run) (item_found old mark part.to))
    (item_then old.depth B old.at mark part.to (joined_run j (open_run_of old.run) B (item_found old mark part.to))) n
    (item_joins (within_at old.depth) B (open_run_of old.run) mark (span_to old.at part.to) j n h))

-- the run that an item begins
abbrev begun_at_item : Block → ℕ → ItemMark → ℕ → OpenRun
begun_at_item B at mark stop = begun_run (item_of_list mark) B (span_to at stop) (drop at B)

-- what comes where the open run ends before an item
after_run : ℕ → Block → ℕ → ItemMark → ℕ → List Item → Numbered (List Item)
after_run depth B at mark stop done = do
  ns ← item_by (within_at depth) B at mark (drop at B)
  before done (rest (within_at depth) B stop (with_items ns (begun_at_item B at mark stop)))

-- where an item begins a list the open run ends, and then the item comes
run_then_item : {l : OpenBlock} {B : Block} {mark : ItemMark} {part : Part} (n : ℕ) → IsNextItem l B mark part → joining_with (open_run_of l.run) (item_found l mark part.to) ≡ None
    → reads l B n ≡ before (done_of l) (run_of l B >>= after_run l.depth B l.at mark part.to) n
unfolding after_run
run_then_item {l} {B} {mark} {part} n h none =
    item_reads n h
    ∙ same_before (done_of l) (rest_with (within_at l.depth) B (open_run_of l.run) (item_found l mark part.to)) (run_of l B >>= after_run l.depth B l.at mark part.to) n
    (item_begins (within_at l.depth) B (open_run_of l.run) mark (span_to l.at part.to) n none)

-- where the open run is nested too deeply, so is all
pub item_refused : {l : OpenBlock} {B : Block} {mark : ItemMark} {part : Part} {line : ℕ} (n : ℕ) → IsNextItem l B mark part → joining_with (open_run_of l.run) (item_found l mark part.to) ≡ None → run_of l B n ≡ Err line
    → reads l B n ≡ Err line
item_refused {l} {B} {mark} {part} {line} n h none e = run_then_item n h none ∙ close_refused l B n line (after_run l.depth B l.at mark part.to) e

-- an item that begins a list comes in this
pub item_of_new_list : {old mid : OpenBlock} {B : Block} {mark : ItemMark} {part : Part} (n k : ℕ) → IsNextItem old B mark part → joining_with (open_run_of old.run) (item_found old mark part.to) ≡ None
    → IsClosed (run_of old B n) old mid k (begun_run (item_of_list mark) B (span_to old.at part.to) (drop old.at B)) → item_comes mark part.to mid B k ≡ reads old B n
unfolding after_run
item_of_new_list {old} {mid} {B} {mark} {part} n k next none closed =
    let o : OpenRun = begun_at_item B old.at mark part.to in
    item_comes_as mid B mark part.to k refl closed.depth closed.at closed.run
    ∙ sym (run_then_item n next none
    ∙ closed_reads old mid B n k o (after_run old.depth B old.at mark part.to) (item_then old.depth B old.at mark part.to o) closed
    (λ done j. sym (before_then done (item_by (within_at old.depth) B old.at mark (drop old.at B)) (λ ns. rest (within_at old.depth) B part.to (with_items ns o)) j)))

-- what an item gives whose block is this part and becomes this node
abbrev pub IsMade : Block → ℕ → ItemMark → Part → (List Node → Node) → ℕ → ℕ → Type 0
IsMade B at mark part E k m = (c : Within) → item_by c B at mark (drop at B) k ≡ (c.inner (lines_in B part) >>= λ ns. just (E ns ∷ [])) m

-- the block that waits for the nodes of an item gives it in its list
pub item_opens : {old mid new : OpenBlock} (B : Block) (mark : ItemMark) {s : Step} {read : Result (List Item × ℕ) ℕ} (w : Waits) (part : Part) (E : List Node → Node) (k m : ℕ) → s ≡ Open w part None
    → HasList old mid → item_comes mark part.to mid B k ≡ read → IsMoved mid new → new.at ≡ part.to → ((ns : List Node) → resumed new B w ns ≡ with_item new B (E ns) (open_run_of new.run))
    → IsMade B old.at mark part E k m → comes new B s m ≡ read
item_opens {old} {mid} {new} B mark w part E k m e list comes_next moved at is made =
    let o : OpenRun = open_list list.list in
    let I : ℕ → Numbered (List Node) = λ d. (within_at d).inner (lines_in B part) >>= λ ns. just (E ns ∷ []) in
    let all : List Item → ℕ → ℕ → Result (List Item × ℕ) ℕ = λ done d i. before done (I d >>= λ ns. rest (within_at d) B i (with_items ns o)) m in
    ap (λ s. comes new B s m) e
    ∙ waiting_means new B w E part list.list m (ap open_run_of moved.run ∙ list.is) is
    ∙ ap (λ done. all done new.depth new.at) (done_moved moved)
    ∙ ap (λ d. all (done_of mid) d new.at) (moved.depth ∙ list.depth)
    ∙ ap (λ i. all (done_of mid) old.depth i) at
    ∙ ap (λ given. then_read (λ others. just (done_of mid ++ others)) (then_read (λ ns. rest (within_at old.depth) B part.to (with_items ns o)) given)) (sym (made (within_at old.depth)))
    ∙ sym (item_comes_as mid B mark part.to k refl list.depth list.at list.is)
    ∙ comes_next

-- ---- what an item is made of

-- an item with a body, which has heads before it
abbrev pub listed : Tag → Tag → ℕ → List Node → List Node → List Node → Node
listed item body line heads notes ns = element_of item [] (heads ++ element_of body [] (notes ++ ns) line ∷ []) line

-- a field is made of its name, whose text was read, and of its hanging block
pub field_made : (c : Within) (B : Block) (i : ℕ) (mark : FieldMark) (X : Block) {parts : Parts} {line : ℕ} {text : List ℕ} {part : Part} {element : Node} {notes heads : List Node} (k : ℕ) {m : ℕ}
    → parts ≡ first_parts X
    → line ≡ first_number X → text ≡ slice_range (first_text X) mark.name.from mark.name.to → part ≡ hanging i mark.marker X → heads ≡ element ∷ []
    → texted parts FieldName line text line k ≡ Ok ((element, notes), m)
    → item_by c B i (field_item mark) X k ≡ item_with c B FieldTag FieldBody line part heads notes m
field_made c B i mark X k asked l t p h read =
    rw (h, p, l) (ap (then_read (λ (made : Node × List Node). item_with c B FieldTag FieldBody (first_number X) (hanging i mark.marker X) (made.0 ∷ []) made.1)) (rw (t, l, asked) at read))

-- an item of an option list is made of its options and of its hanging block
pub option_made : (c : Within) (B : Block) (i : ℕ) (mark : Marker) (X : Block) {line : ℕ} {text : List ℕ} {part : Part} {group : Node} {notes heads : List Node} (k : ℕ)
    → line ≡ first_number X → text ≡ first_text X → part ≡ hanging i mark X → group ≡ option_group text line → heads ≡ group ∷ [] → notes ≡ []
    → item_by c B i (option_item mark) X k ≡ item_with c B OptionListItem Description line part heads notes k
option_made c B i mark X k l t p g h n = rw (h, n, g, p, l, t) refl

-- a definition is made of its term and classifiers, whose text was read, and of the indented block below
pub definition_made : (c : Within) (B : Block) (i : ℕ) (infos : List Node) (X : Block) {parts : Parts} {line : ℕ} {text : List ℕ} {part : Part} {heads notes : List Node} (k : ℕ) {m : ℕ}
    → parts ≡ first_parts X → line ≡ first_number X → text ≡ first_text X → part ≡ indented_part (i + 1) (drop 1 X) → termed parts text line k ≡ Ok ((heads, notes), m)
    → item_by c B i (definition_item infos) X k ≡ item_with c B DefinitionListItem DefinitionTag line part heads notes m
definition_made c B i infos X k asked l t p read =
    rw (p, l) (ap (then_read (λ (made : List Node × List Node). item_with c B DefinitionListItem DefinitionTag (first_number X) (indented_part (i + 1) (drop 1 X)) made.0 made.1)) (rw (t, l, asked) at read))
