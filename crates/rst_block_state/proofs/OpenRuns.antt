-- The run that is open, as a walk over the constructs keeps it: it gives what the runs of the definition give.
use Rattle.std.proofs.Common.{◌≡◌, ℕ, suc, Bool, true, false, List, [], ◌∷◌, ◌++◌, drop, map, Option, Some, None, Result, Ok, Err, refl, sym, ◌∙◌, ap, subst, append_assoc, append-nil}
use Rattle.std.specs.Prelude.{◌==◌}
use Rattle.std.specs.Option.{option_map_or}
use Rattle.std.proofs.lemmas.Grind.{flat_map-append}
use Rattle.std.proofs.lemmas.List.{map-append}
use Rattle.rst_text.proofs.Choices.{chosen, none_is, some_is}
use Rattle.rst_text.specs.Block.{Block}
use Rattle.rst_tree.specs.declared.node.Node.{Node}
use Rattle.rst_markup_lines.specs.Enumerator.{is_same_format, ordinal_in}
use Rattle.rst_markup_lines.specs.declared.enumerator.Format.{Format}
use Rattle.rst_markup_lines.specs.declared.enumerator.Ordinals.{Ordinals}
use Rattle.rst_markup_lines.specs.declared.enumerator.Ordinals.TheVariants.{Auto, Arabic, Letters}
use Rattle.rst_markup_lines.specs.declared.enumerator.Sequence.{Sequence}
use Rattle.rst_markup_blocks.specs.Partition.{Span, spans}
use Rattle.rst_block_nodes.specs.Sections.{filled}
use Rattle.rst_block_state.specs.Constructs.{Construct, item_of_list, bar_line, explicit_markup, ItemMark, bullet_item, enumerated_item, definition_item, field_item, option_item, Found, found_at}
use Rattle.rst_block_state.specs.Joins.{Joining, bullets, enumerators, definitions, fields, options, lines_from, explicits, none, list_joining, enumerators_by, is_next_after, list_joining_after, joining_of, joining_after, joined_ending, alone_ending}
use Rattle.rst_block_state.specs.LineRuns.{indented_line, indented_lines, indentation_of, line_block}
use Rattle.rst_block_state.specs.Lists.{empty_list, infos_of, list_notes}
use Rattle.rst_block_state.specs.Nodes.{node_if, nodes_among, infos_among, piece_of, ending_notes, ended, run_items, block_items}
use Rattle.rst_block_state.specs.Numbered.{Numbered, then_read, ◌>>=◌, just, flat_each, before}
use Rattle.rst_block_state.specs.machine.Rest.{OpenRun, no_run, open_list, open_lines, open_markup, joining_of_run, closed_run, last_indent, joined_run, begun_run, run_after, with_items, closed_before, at_once, given_at_once, walk, rest}
use Rattle.rst_block_state.specs.Runs.{Run, alone, joined_by, run_members, last_of, runs}
use Rattle.rst_block_state.specs.Titles.{Item, plain}
use Rattle.rst_block_state.specs.Within.{Within}
use Rattle.rst_block_state.proofs.NumberedLemmas.{same_after, after_after, before_before, before_then, flat_each-push}
use Rattle.rst_block_state.proofs.Walks.{walk_from, walk_is}

-- ---- the run of some constructs

-- a run, by its first construct
abbrev pub run_with : Construct → Span → List Found → Run Found
run_with what s fs = record { first = record { what = what; span = s }; others = fs }

-- the place where a run ends
abbrev pub stop_of : Run Found → ℕ
stop_of run = (last_of run.first run.others).span.stop

-- the open run of some constructs that gave these items
abbrev pub open_with : Construct → Block → Joining → Run Found → List Item → OpenRun
open_with (item_of_list mark) B j run items =
    open_list (record { joining = j; end = stop_of run; notes_before = infos_among run; element = empty_list mark (drop run.first.span.start B); items = nodes_among items; notes_after = list_notes mark (drop run.first.span.start B) })
open_with (bar_line m) B j run items = open_lines (stop_of run) (indented_lines B 0 (run_members run))
open_with explicit_markup B j run items = open_markup (stop_of run)
open_with _ B j run items = no_run

-- of these items, those that don't wait for the end of the run
abbrev pub early : Construct → Block → Run Found → List Item → List Item
early what B run items = at_once what items ++ map plain (ending_notes (alone_ending what) (drop (stop_of run) B))

-- ---- what joins a run

abbrev pub is_list : Joining → Bool
is_list (bullets c) = true
is_list (enumerators f q last) = true
is_list definitions = true
is_list fields = true
is_list options = true
is_list _ = false

-- this joins a run that begins with a construct and ends at a place
abbrev pub Fits : Construct → ℕ → Joining → Type 0
Fits (item_of_list mark) end j = (is_list j ≡ true) × (joined_ending j ≡ joined_ending (list_joining mark))
Fits (bar_line m) end j = j ≡ lines_from end
Fits explicit_markup end j = j ≡ explicits
Fits _ end j = j ≡ none

fits_first : (what : Construct) (s : Span) → Fits what s.stop (joining_of what s)
fits_first (item_of_list (bullet_item c m)) s = (refl, refl)
fits_first (item_of_list (enumerated_item e)) s = (refl, refl)
fits_first (item_of_list (definition_item infos)) s = (refl, refl)
fits_first (item_of_list (field_item m)) s = (refl, refl)
fits_first (item_of_list (option_item m)) s = (refl, refl)
fits_first _ s = refl

-- what joins the open run of some constructs is what joins the constructs
joining_is : (what : Construct) (B : Block) (j : Joining) (run : Run Found) (items : List Item) → Fits what (stop_of run) j → joining_of_run (open_with what B j run items) ≡ j
joining_is (item_of_list mark) B j run items h = refl
joining_is _ B j run items h = sym h

-- nothing joins a construct that is alone
none_joins : (what : Construct) (s : Span) → joining_after none what s ≡ None
none_joins (item_of_list (bullet_item c m)) s = refl
none_joins _ s = refl

-- ---- a construct that joins

not_both : false ≡ true → ⊥
not_both e = cc

-- after an item a list is open that is still of its kind
abbrev pub GoesOn : Joining → Joining → Type 0
GoesOn j next = (is_list next ≡ true) × (joined_ending next ≡ joined_ending j)

number_goes_on : (f : Format) (q : Sequence) (last : Option ℕ) (ordinals : Ordinals) (next : Joining) → enumerators_by f q last ordinals ≡ Some next → GoesOn (enumerators f q last) next
number_goes_on f q last Auto next e = subst (GoesOn (enumerators f q last)) (some_is e) (refl, refl)
number_goes_on f q None (Arabic n) next e = absurd (none_is e)
number_goes_on f q None (Letters k a r) next e = absurd (none_is e)
number_goes_on f q (Some last) (Arabic n) next e =
    subst (GoesOn (enumerators f q (Some last))) (some_is (chosen (is_next_after last (ordinal_in q (Arabic n))) (Some (enumerators f q (Some (suc last)))) next e).1) (refl, refl)
number_goes_on f q (Some last) (Letters k a r) next e =
    subst (GoesOn (enumerators f q (Some last))) (some_is (chosen (is_next_after last (ordinal_in q (Letters k a r))) (Some (enumerators f q (Some (suc last)))) next e).1) (refl, refl)

list_goes_on : (j : Joining) (mark : ItemMark) (next : Joining) → list_joining_after j mark ≡ Some next → GoesOn j next
list_goes_on (bullets c) (bullet_item d m) next e = subst (GoesOn (bullets c)) (some_is (chosen (c == d) (Some (bullets c)) next e).1) (refl, refl)
list_goes_on (enumerators f q last) (enumerated_item i) next e = number_goes_on f q last i.written.ordinals next (chosen (is_same_format f i.format) (enumerators_by f q last i.written.ordinals) next e).1
list_goes_on definitions (definition_item infos) next e = subst (GoesOn definitions) (some_is e) (refl, refl)
list_goes_on fields (field_item m) next e = subst (GoesOn fields) (some_is e) (refl, refl)
list_goes_on options (option_item m) next e = subst (GoesOn options) (some_is e) (refl, refl)
list_goes_on j mark next e = absurd (none_is e)

-- what joins a list is an item, which waits for the list's end
joins_list : (j : Joining) (what : Construct) (s : Span) (next : Joining) (more : List Item) → is_list j ≡ true → joining_after j what s ≡ Some next
    → (at_once what more ≡ []) × (alone_ending what ≡ None) × GoesOn j next
joins_list (lines_from end) what s next more h e = absurd (not_both h)
joins_list explicits what s next more h e = absurd (not_both h)
joins_list none what s next more h e = absurd (not_both h)
joins_list (bullets c) (item_of_list mark) s next more h e = (refl, refl, list_goes_on (bullets c) mark next e)
joins_list (enumerators f q last) (item_of_list mark) s next more h e = (refl, refl, list_goes_on (enumerators f q last) mark next e)
joins_list definitions (item_of_list mark) s next more h e = (refl, refl, list_goes_on definitions mark next e)
joins_list fields (item_of_list mark) s next more h e = (refl, refl, list_goes_on fields mark next e)
joins_list options (item_of_list mark) s next more h e = (refl, refl, list_goes_on options mark next e)
joins_list j what s next more h e = absurd (none_is e)

lines_join_none : (end : ℕ) (mark : ItemMark) → list_joining_after (lines_from end) mark ≡ None
lines_join_none end (bullet_item c m) = refl
lines_join_none end _ = refl

explicits_join_none : (mark : ItemMark) → list_joining_after explicits mark ≡ None
explicits_join_none (bullet_item c m) = refl
explicits_join_none _ = refl

-- what joins a line block is a line
joins_lines : (end : ℕ) (what : Construct) (s : Span) (next : Joining) (more : List Item) → joining_after (lines_from end) what s ≡ Some next
    → (at_once what more ≡ []) × (alone_ending what ≡ None) × (next ≡ lines_from s.stop)
joins_lines end (item_of_list mark) s next more e = absurd (none_is (sym (lines_join_none end mark) ∙ e))
joins_lines end (bar_line m) s next more e = (refl, refl, sym (some_is (chosen (s.start == end) (Some (lines_from s.stop)) next e).1))
joins_lines end what s next more e = absurd (none_is e)

-- what joins explicit markup is explicit markup
joins_markup : (what : Construct) (s : Span) (next : Joining) (more : List Item) → joining_after explicits what s ≡ Some next
    → (at_once what more ≡ more) × (alone_ending what ≡ None) × (next ≡ explicits)
joins_markup (item_of_list mark) s next more e = absurd (none_is (sym (explicits_join_none mark) ∙ e))
joins_markup explicit_markup s next more e = (refl, refl, sym (some_is e))
joins_markup what s next more e = absurd (none_is e)

-- nothing joins a construct by itself
joins_none : {A : Type 0} (j : Joining) (x : Found) (next : Joining) → j ≡ none → joining_after j x.what x.span ≡ Some next → A
joins_none j x next h e = absurd (none_is (sym (none_joins x.what x.span) ∙ ap (λ i. joining_after i x.what x.span) (sym h) ∙ e))

joins_as : (j i : Joining) (x : Found) (next : Joining) → j ≡ i → joining_after j x.what x.span ≡ Some next → joining_after i x.what x.span ≡ Some next
joins_as j i x next h e = ap (λ i. joining_after i x.what x.span) (sym h) ∙ e

last_push : (y : Found) (ys : List Found) (x : Found) → last_of y (ys ++ x ∷ []) ≡ x
last_push y [] x = refl
last_push y (z ∷ zs) x = last_push z zs x

stop_push : (what : Construct) (s : Span) (fs : List Found) (x : Found) → stop_of (run_with what s (fs ++ x ∷ [])) ≡ x.span.stop
stop_push what s fs x = ap (λ (f : Found). f.span.stop) (last_push (record { what = what; span = s }) fs x)

-- the run that one more joins
fits_joined : (what : Construct) (s : Span) (fs : List Found) (j : Joining) (x : Found) (next : Joining) → Fits what (stop_of (run_with what s fs)) j
    → joining_after j x.what x.span ≡ Some next → Fits what (stop_of (run_with what s (fs ++ x ∷ []))) next
fits_joined (item_of_list mark) s fs j x next h e = let k = joins_list j x.what x.span next [] h.0 e in (k.2.0, k.2.1 ∙ h.1)
fits_joined (bar_line m) s fs j x next h e =
    (joins_lines (stop_of (run_with (bar_line m) s fs)) x.what x.span next [] (joins_as j (lines_from (stop_of (run_with (bar_line m) s fs))) x next h e)).2
    ∙ ap lines_from (sym (stop_push (bar_line m) s fs x))
fits_joined explicit_markup s fs j x next h e = (joins_markup x.what x.span next [] (joins_as j explicits x next h e)).2
fits_joined _ s fs j x next h e = joins_none j x next h e

-- the lines of a line block with one more
line_then : (B : Block) (last : ℕ) (fs : List Found) (x : Found) (what : Construct) (s : Span)
    → ((last : ℕ) → indented_lines B last (fs ++ x ∷ []) ≡ indented_lines B last fs ++ indented_lines B (last_indent last (indented_lines B last fs)) (x ∷ []))
    → indented_lines B last (record { what = what; span = s } ∷ (fs ++ x ∷ []))
    ≡ indented_lines B last (record { what = what; span = s } ∷ fs) ++ indented_lines B (last_indent last (indented_lines B last (record { what = what; span = s } ∷ fs))) (x ∷ [])
line_then B last fs x (bar_line m) s h = ap (λ ls. indented_line (indentation_of last m) B m s ∷ ls) (h (indentation_of last m))
line_then B last fs x _ s h = h last

lines_push : (B : Block) (last : ℕ) (fs : List Found) (x : Found)
    → indented_lines B last (fs ++ x ∷ []) ≡ indented_lines B last fs ++ indented_lines B (last_indent last (indented_lines B last fs)) (x ∷ [])
lines_push B last [] x = refl
lines_push B last (f ∷ fs) x = line_then B last fs x f.what f.span (λ last. lines_push B last fs x)

list_with : Joining → ℕ → List Node → Node → List Node → List Node → OpenRun
list_with j end notes element items after =
    open_list (record { joining = j; end = end; notes_before = notes; element = element; items = items; notes_after = after })

infos_push : (run : Run Found) (x : Found) → infos_among (joined_by run x) ≡ infos_among run ++ infos_of x.what
infos_push run x =
    flat_map-append (λ (f : Found). infos_of f.what) (run_members run) (x ∷ [])
    ∙ ap (λ (infos : List Node). infos_among run ++ infos) (append-nil (infos_of x.what))

open_joined : (what : Construct) (s : Span) (fs : List Found) (B : Block) (j : Joining) (items more : List Item) (x : Found) (next : Joining) → Fits what (stop_of (run_with what s fs)) j
    → joining_after j x.what x.span ≡ Some next
    → open_with what B next (run_with what s (fs ++ x ∷ [])) (items ++ more) ≡ with_items (nodes_among more) (joined_run next (open_with what B j (run_with what s fs) items) B x)
unfolding list_with
open_joined (item_of_list mark) s fs B j items more x next h e =
    let run : Run Found = run_with (item_of_list mark) s fs in
    let element : Node = empty_list mark (drop s.start B) in
    let after : List Node = list_notes mark (drop s.start B) in
    ap (λ end. list_with next end (infos_among (joined_by run x)) element (nodes_among (items ++ more)) after) (stop_push (item_of_list mark) s fs x)
    ∙ ap (λ notes. list_with next x.span.stop notes element (nodes_among (items ++ more)) after) (infos_push run x)
    ∙ ap (λ nodes. list_with next x.span.stop (infos_among run ++ infos_of x.what) element nodes after) (flat_map-append node_if items more)
open_joined (bar_line m) s fs B j items more x next h e =
    ap (λ end. open_lines end (indented_lines B 0 (run_members (run_with (bar_line m) s (fs ++ x ∷ []))))) (stop_push (bar_line m) s fs x)
    ∙ ap (open_lines x.span.stop) (lines_push B 0 (run_members (run_with (bar_line m) s fs)) x)
open_joined explicit_markup s fs B j items more x next h e = ap open_markup (stop_push explicit_markup s fs x)
open_joined _ s fs B j items more x next h e = refl

-- what a construct gives at once that joins a run
given_is : (B : Block) (x : Found) (more some : List Item) → at_once x.what more ≡ some → alone_ending x.what ≡ None → given_at_once B x more ≡ some
given_is B x more some h k =
    ap (λ once. once ++ map plain (ending_notes (alone_ending x.what) (drop x.span.stop B))) h
    ∙ ap (λ t. some ++ map plain (ending_notes t (drop x.span.stop B))) k
    ∙ append-nil some

early_joined : (what : Construct) (s : Span) (fs : List Found) (B : Block) (j : Joining) (items more : List Item) (x : Found) (next : Joining) → Fits what (stop_of (run_with what s fs)) j
    → joining_after j x.what x.span ≡ Some next
    → early what B (run_with what s (fs ++ x ∷ [])) (items ++ more) ≡ early what B (run_with what s fs) items ++ given_at_once B x more
early_joined (item_of_list mark) s fs B j items more x next h e = let k = joins_list j x.what x.span next more h.0 e in sym (given_is B x more [] k.0 k.1)
early_joined (bar_line m) s fs B j items more x next h e =
    let k = joins_lines (stop_of (run_with (bar_line m) s fs)) x.what x.span next more (joins_as j (lines_from (stop_of (run_with (bar_line m) s fs))) x next h e) in
    sym (given_is B x more [] k.0 k.1)
early_joined explicit_markup s fs B j items more x next h e =
    let k = joins_markup x.what x.span next more (joins_as j explicits x next h e) in
    append-nil (items ++ more)
    ∙ ap (λ once. once ++ more) (sym (append-nil items))
    ∙ ap (λ given. (items ++ []) ++ given) (sym (given_is B x more more k.0 k.1))
early_joined _ s fs B j items more x next h e = joins_none j x next h e

-- ---- a construct that begins a run

open_begun : (what : Construct) (s : Span) (B : Block) (more : List Item)
    → open_with what B (joining_of what s) (run_with what s []) more ≡ with_items (nodes_among more) (begun_run what B s (drop s.start B))
unfolding list_with
open_begun (item_of_list mark) s B more =
    ap (λ notes. list_with (list_joining mark) s.stop notes (empty_list mark (drop s.start B)) (nodes_among more) (list_notes mark (drop s.start B))) (append-nil (infos_of (item_of_list mark)))
open_begun _ s B more = refl

-- ---- the end of a run

ended_lines : (r : Result ((Node × List Node) × ℕ) ℕ) (notes : List Node)
    → then_read (λ whole. just (whole ++ map plain notes)) (then_read (λ nodes. just (map plain nodes)) (then_read (λ (made : Node × List Node). just (made.0 ∷ made.1)) r))
    ≡ then_read (λ others. just ([] ++ others)) (then_read (λ nodes. just (map plain (nodes ++ notes))) (then_read (λ (made : Node × List Node). just (made.0 ∷ made.1)) r))
ended_lines (Ok (made, k)) notes = ap (λ (items : List Item). Ok (items, k)) (sym (map-append plain (made.0 ∷ made.1) notes))
ended_lines (Err line) notes = refl

abbrev gave : List Item → ℕ → Result (List Item × ℕ) ℕ
gave items n = Ok (items, n)

alone_is : (items : List Item) (notes : List Node) (n : ℕ) → gave (items ++ map plain notes) n ≡ gave ((items ++ map plain notes) ++ []) n
alone_is items notes n = ap (λ made. gave made n) (sym (append-nil (items ++ map plain notes)))

ended_is : (what : Construct) (s : Span) (fs : List Found) (c : Within) (B : Block) (j : Joining) (items : List Item) (n : ℕ) → Fits what (stop_of (run_with what s fs)) j
    → ended c B (run_with what s fs) items n
    ≡ before (early what B (run_with what s fs) items) (closed_run c.levels B (open_with what B j (run_with what s fs) items)) n
ended_is (item_of_list mark) s fs c B j items n h =
    let run : Run Found = run_with (item_of_list mark) s fs in
    let nodes : List Node = infos_among run ++ filled (empty_list mark (drop s.start B)) (nodes_among items) ∷ list_notes mark (drop s.start B) in
    ap (λ (made : List Item). Ok (made, n))
    (sym (map-append plain nodes (ending_notes (joined_ending (list_joining mark)) (drop (stop_of run) B)))
    ∙ ap (λ t. map plain (nodes ++ ending_notes t (drop (stop_of run) B))) (sym h.1))
ended_is (bar_line m) s fs c B j items n h = ended_lines (line_block c.levels (indented_lines B 0 (run_members run)) n) (ending_notes (joined_ending (lines_from s.stop)) (drop (stop_of run) B))
  where
    run : Run Found
    run = run_with (bar_line m) s fs
ended_is explicit_markup s fs c B j items n h =
    ap (λ (some : List Item). Ok (some ++ map plain (ending_notes (joined_ending explicits) (drop (stop_of (run_with explicit_markup s fs)) B)), n)) (sym (append-nil items))
ended_is what s fs c B j items n h = alone_is items (ending_notes (alone_ending what) (drop (stop_of (run_with what s fs)) B)) n

-- ---- the walk

joining_at : Found → Joining
joining_at f = joining_of f.what f.span

joins_at : Joining → Found → Option Joining
joins_at j f = joining_after j f.what f.span

-- a construct after an open run, and what is still to come
goes_to : Within → Block → OpenRun → Found → List Found → Option Joining → Numbered (List Item)
goes_to c B o x xs next = do
  done ← closed_before next c.levels B o
  items ← piece_of c B x
  before (done ++ given_at_once B x items) (walk c B (with_items (nodes_among items) (run_after next o B x)) xs)

-- the walk is that over runs for these constructs
Agrees : Within → Block → List Found → Type 0
Agrees c B xs = (what : Construct) (s : Span) (fs : List Found) (j : Joining) (items : List Item) (n : ℕ) → Fits what (stop_of (run_with what s fs)) j
    → walk_from joining_at joins_at (piece_of c B) (ended c B) j (run_with what s fs) items xs n
    ≡ before (early what B (run_with what s fs) items) (walk c B (open_with what B j (run_with what s fs) items) xs) n

one_agrees : (c : Within) (B : Block) (x : Found) (xs : List Found) (what : Construct) (s : Span) (fs : List Found) (j : Joining) (items : List Item) (n : ℕ) → Fits what (stop_of (run_with what s fs)) j
    → Agrees c B xs → (o : Option Joining) → joins_at j x ≡ o
    → option_map_or
    (λ next. piece_of c B x >>= λ more. walk_from joining_at joins_at (piece_of c B) (ended c B) next (joined_by (run_with what s fs) x) (items ++ more) xs) o
    (ended c B (run_with what s fs) items >>= λ whole. piece_of c B x >>= λ more. before whole (walk_from joining_at joins_at (piece_of c B) (ended c B) (joining_at x) (alone x) more xs)) n
    ≡ before (early what B (run_with what s fs) items) (goes_to c B (open_with what B j (run_with what s fs) items) x xs o) n
unfolding Agrees goes_to joins_at joining_at
one_agrees c B x xs what s fs j items n h ih (Some next) e =
    let E : List Item = early what B (run_with what s fs) items in
    let O : OpenRun = open_with what B j (run_with what s fs) items in
    let W : List Item → Numbered (List Item) = λ more. walk c B (with_items (nodes_among more) (joined_run next O B x)) xs in
    same_after (piece_of c B x n)
    (λ more. walk_from joining_at joins_at (piece_of c B) (ended c B) next (joined_by (run_with what s fs) x) (items ++ more) xs)
    (λ more. before E (before (given_at_once B x more) (W more)))
    (λ more k.
    ih what s (fs ++ x ∷ []) next (items ++ more) k (fits_joined what s fs j x next h e)
    ∙ ap (λ some. before some (walk c B (open_with what B next (run_with what s (fs ++ x ∷ [])) (items ++ more)) xs) k) (early_joined what s fs B j items more x next h e)
    ∙ ap (λ o. before (E ++ given_at_once B x more) (walk c B o xs) k) (open_joined what s fs B j items more x next h e)
    ∙ sym (before_before E (given_at_once B x more) (W more) k))
    ∙ sym (before_then E (piece_of c B x) (λ more. before (given_at_once B x more) (W more)) n)
one_agrees c B x xs what s fs j items n h ih None e =
    let E : List Item = early what B (run_with what s fs) items in
    let O : OpenRun = open_with what B j (run_with what s fs) items in
    let W : List Item → Numbered (List Item) = λ more. walk c B (with_items (nodes_among more) (begun_run x.what B x.span (drop x.span.start B))) xs in
    let V : List Item → Numbered (List Item) = λ more. walk_from joining_at joins_at (piece_of c B) (ended c B) (joining_at x) (alone x) more xs in
    let F : List Item → Numbered (List Item) = λ done. piece_of c B x >>= λ more. before (done ++ given_at_once B x more) (W more) in
    let K : List Item → Numbered (List Item) = λ whole. piece_of c B x >>= λ more. before whole (V more) in
    ap (then_read K) (ended_is what s fs c B j items n h)
    ∙ after_after (closed_run c.levels B O n) (λ done. just (E ++ done)) K
    ∙ same_after (closed_run c.levels B O n) (λ done. K (E ++ done)) (λ done. before E (F done)) (λ done k.
    same_after (piece_of c B x k) (λ more. before (E ++ done) (V more)) (λ more. before E (before (done ++ given_at_once B x more) (W more))) (λ more m.
    ap (then_read (λ others. just ((E ++ done) ++ others)))
    (ih x.what x.span [] (joining_of x.what x.span) more m (fits_first x.what x.span)
    ∙ ap (λ o. before (given_at_once B x more) (walk c B o xs) m) (open_begun x.what x.span B more))
    ∙ before_before (E ++ done) (given_at_once B x more) (W more) m
    ∙ ap (λ some. before some (W more) m) (append_assoc E done (given_at_once B x more))
    ∙ sym (before_before E (done ++ given_at_once B x more) (W more) m))
    ∙ sym (before_then E (piece_of c B x) (λ more. before (done ++ given_at_once B x more) (W more)) k))
    ∙ sym (before_then E (closed_run c.levels B O) F n)

all_agree : (c : Within) (B : Block) (xs : List Found) → Agrees c B xs
unfolding Agrees walk goes_to joins_at joining_at
all_agree c B [] what s fs j items n h = ended_is what s fs c B j items n h
all_agree c B (x ∷ xs) what s fs j items n h =
    one_agrees c B x xs what s fs j items n h (all_agree c B xs) (joins_at j x) refl
    ∙ ap (λ i. before (early what B (run_with what s fs) items) (goes_to c B (open_with what B j (run_with what s fs) items) x xs (joins_at i x)) n)
    (sym (joining_is what B j (run_with what s fs) items h))

-- the walk from the first construct on gives what the runs give
walk_is_all : (c : Within) (B : Block) (fs : List Found) (n : ℕ)
    → walk c B no_run fs n ≡ flat_each (run_items c B) (runs (λ (f : Found). joining_of f.what f.span) (λ joining (f : Found). joining_after joining f.what f.span) fs) n
unfolding Agrees walk goes_to joins_at joining_at
walk_is_all c B [] n = refl
walk_is_all c B (x ∷ xs) n =
    let V : List Item → Numbered (List Item) = λ more. walk_from joining_at joins_at (piece_of c B) (ended c B) (joining_at x) (alone x) more xs in
    let W : List Item → Numbered (List Item) = λ more. before (given_at_once B x more) (walk c B (with_items (nodes_among more) (begun_run x.what B x.span (drop x.span.start B))) xs) in
    ap (λ o. goes_to c B no_run x xs o n) (none_joins x.what x.span)
    ∙ same_after (piece_of c B x n) W V (λ more k.
    sym (all_agree c B xs x.what x.span [] (joining_of x.what x.span) more k (fits_first x.what x.span)
    ∙ ap (λ o. before (given_at_once B x more) (walk c B o xs) k) (open_begun x.what x.span B more)))
    ∙ sym (flat_each-push (piece_of c B) [] x V n)
    ∙ walk_is joining_at joins_at (piece_of c B) (ended c B) (joining_at x) (alone x) xs n

pub rest_is_all : (c : Within) (B : Block) (n : ℕ) → rest c B 0 no_run n ≡ block_items c B n
rest_is_all c B n = walk_is_all c B (map (found_at c.titles B) (spans c.titles B)) n
