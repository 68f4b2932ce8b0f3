-- The list of messages, one message after another.
use Rattle.std.proofs.Common.{◌≡◌, ℕ, List, [], ◌∷◌, ◌++◌, length, Bool, true, false, append_assoc, arith, refl, ap, sym, ◌∙◌, ⊎_elim, IfOk}
use Rattle.std.specs.Prelude.{◌&&◌, ◌||◌, if◌then◌else◌, slice_get, Option, Some, None, Result}
use Rattle.std.specs.List.{list_any}
use Rattle.std.proofs.lemmas.Bool.{cases_Bool}
use Rattle.std.proofs.lemmas.List.{append-nil, map-append}
use Rattle.std.proofs.lemmas.List.Folds.{list_any-append}
use mathlib.Core.Bool.{or-false, or_assoc}
use Rattle.rst_settings.specs.declared.Threshold.{Threshold}
use Rattle.rst_settings.specs.Threshold.{is_reached}
use Rattle.rst_tree.specs.declared.attrs.Attr.{Attr}
use Rattle.rst_tree.specs.declared.node.Node.{Node}
use Rattle.rst_tree.specs.declared.node.Node.TheVariants.{Element, Text}
use Rattle.rst_tree.specs.declared.note.Note.{Note}
use Rattle.rst_tree.specs.declared.tag.Tag.{Tag}
use Rattle.std.specs.declared.alloc.AllocError.{AllocError}
use Rattle.rst_tree.specs.Forest.{Forest, bare, element, words}
use Rattle.rst_tree.specs.LevelNames.{level_number}
use Rattle.rst_tree.specs.Nodes.{nodes_of}
use Rattle.rst_tree.specs.Read.{AreRead}
use Rattle.rst_tree.specs.Walk.{item, items}
use Rattle.rst_tree.specs.Tree.{text_all, text_in}
use Rattle.rst_tree_index.specs.Kinds.{is_message}
use Rattle.rst_transform_messages.specs.declared.messages.Messages.{Messages}
use Rattle.rst_transform_messages.specs.Early.{is_early}
use Rattle.rst_transform_messages.specs.Listed.{Adds, KeepsMessages, KeepsLevels, Lists, TakesMessage, element_message}
use Rattle.rst_transform_messages.specs.Messages.{halts, has_halt, has_number, is_number_reported, is_reported_as, is_number_marked, unnumbered_notes, until_halt, NumberedNote}
use Rattle.rst_transform_messages.specs.MessagesIn.{message_in, messages_among}

-- whether a run halts follows from the messages up to the halt
halts_until : (halt : Threshold) (notes : List Note) → has_halt halt (until_halt halt notes) ≡ has_halt halt notes
halts_until halt [] = refl
halts_until halt (note ∷ more) = ⊎_elim (λ t. rw t refl) (λ f. rw f (halts_until halt more)) (cases_Bool (halts halt note))

-- a message after a halt isn't in the list
until_past : (halt : Threshold) (notes : List Note) (note : Note) → has_halt halt notes ≡ true → until_halt halt (notes ++ note ∷ []) ≡ until_halt halt notes
until_past halt [] note halted = cc
until_past halt (first ∷ more) note halted =
    ⊎_elim (λ t. rw t refl) (λ f. rw f (ap (λ notes. first ∷ notes) (until_past halt more note (rw f at halted)))) (cases_Bool (halts halt first))

-- one before it is the last of the list
until_more : (halt : Threshold) (notes : List Note) (note : Note) → has_halt halt notes ≡ false → until_halt halt (notes ++ note ∷ []) ≡ until_halt halt notes ++ note ∷ []
until_more halt [] note runs = ⊎_elim (λ t. rw t refl) (λ f. rw f refl) (cases_Bool (halts halt note))
until_more halt (first ∷ more) note runs = ⊎_elim
    (λ t. let halted = rw t at runs in absurd (cc))
    (λ f. rw f (ap (λ notes. first ∷ notes) (until_more halt more note (rw f at runs)))) (cases_Bool (halts halt first))

-- the numbers of printed messages with one message more
reported_more : (report : Threshold) (all : List NumberedNote) (note : Note) (number : Option ℕ) (n : ℕ)
    → is_number_reported report (all ++ (note, number) ∷ []) n ≡ (is_number_reported report all n || (is_reached report (level_number note.level) && has_number n number))
reported_more report all note number n =
    list_any-append (is_reported_as report n) all ((note, number) ∷ []) ∙ ap (λ b. list_any (is_reported_as report n) all || b) (or-false (is_reached report (level_number note.level) && has_number n number))

-- the marks with those of one message more
abbrev pub Marks : Messages → Messages → Note → Option ℕ → Type 0
Marks old new note number = (n : ℕ) → is_number_marked new.reported.items n ≡ (is_number_marked old.reported.items n || (is_reached old.report (level_number note.level) && has_number n number))

marks_more : (all : List NumberedNote) (old new : Messages) (note : Note) (number : Option ℕ) → Lists all old → KeepsLevels old new → Marks old new note number
    → (n : ℕ) → is_number_marked new.reported.items n ≡ is_number_reported new.report (all ++ (note, number) ∷ []) n
marks_more all old new note number lists keeps marks n =
    marks n ∙ ap (λ b. b || (is_reached old.report (level_number note.level) && has_number n number)) (lists.reported n) ∙ sym (reported_more old.report all note number n)
    ∙ ap (λ report. is_number_reported report (all ++ (note, number) ∷ []) n) (sym keeps.1)

notes_more : (all : List NumberedNote) (note : Note) (number : Option ℕ) → unnumbered_notes (all ++ (note, number) ∷ []) ≡ unnumbered_notes all ++ note ∷ []
notes_more all note number = map-append (λ one. one.0) all ((note, number) ∷ [])

-- a message that comes after a halt
pub adds_none : (old new : Messages) (note : Note) (number : Option ℕ) → KeepsLevels old new → Marks old new note number → new.notes.items ≡ old.notes.items → has_halt old.halt old.notes.items ≡ true
    → Adds ((note, number) ∷ []) old new
adds_none old new note number keeps marks same halted all lists =
    let past : has_halt old.halt (unnumbered_notes all) ≡ true = sym (halts_until old.halt (unnumbered_notes all)) ∙ ap (has_halt old.halt) (sym lists.notes) ∙ halted in
    record {
      notes = same ∙ lists.notes ∙ sym (until_past old.halt (unnumbered_notes all) note past) ∙ ap (until_halt old.halt) (sym (notes_more all note number)) ∙ ap (λ halt. until_halt halt (unnumbered_notes (all ++ (note, number) ∷ []))) (sym keeps.0);
      reported = marks_more all old new note number lists keeps marks;
    }

-- one that comes before it, or is it
pub adds_one : (old new : Messages) (note : Note) (number : Option ℕ) → KeepsLevels old new → Marks old new note number → new.notes.items ≡ old.notes.items ++ note ∷ [] → has_halt old.halt old.notes.items ≡ false
    → Adds ((note, number) ∷ []) old new
adds_one old new note number keeps marks more runs all lists =
    let before : has_halt old.halt (unnumbered_notes all) ≡ false = sym (halts_until old.halt (unnumbered_notes all)) ∙ ap (has_halt old.halt) (sym lists.notes) ∙ runs in
    record {
      notes = more ∙ ap (λ notes. notes ++ note ∷ []) lists.notes ∙ sym (until_more old.halt (unnumbered_notes all) note before) ∙ ap (until_halt old.halt) (sym (notes_more all note number))
          ∙ ap (λ halt. until_halt halt (unnumbered_notes (all ++ (note, number) ∷ []))) (sym keeps.0);
      reported = marks_more all old new note number lists keeps marks;
    }

-- no message more
pub Adds-none : (list : Messages) → Adds [] list list
Adds-none list all lists = rw (append-nil all) lists

-- messages, and then others
pub Adds-more : (first more : List NumberedNote) (old now new : Messages) → Adds first old now → Adds more now new → Adds (first ++ more) old new
Adds-more first more old now new one two all lists = rw (← append_assoc all first more) (two (all ++ first) (one all lists))

-- the messages among nodes that are in no message, or in one
abbrev among : Option ℕ → Forest → List NumberedNote
among None f = messages_among f
among (Some within) f = []

none_more : (level : Option ℕ) (list : Messages) → Adds (among level bare) list list
none_more None list = Adds-none list
none_more (Some within) list = Adds-none list

past_text : (level : Option ℕ) (t : List ℕ) (r : Forest) → among level r ≡ among level (words t r)
past_text None t r = refl
past_text (Some within) t r = refl

past_element : (level : Option ℕ) (t : Tag) (a : List Attr) (c : Forest) (l : ℕ) (r : Forest)
    → element_message level t a c l ++ (among (if is_message t then Some 0 else level) c ++ among level r) ≡ among level (element t a c l r)
past_element None t a c l r = ⊎_elim (λ b. rw b refl) (λ b. rw b refl) (cases_Bool (is_message t))
past_element (Some within) t a c l r = ⊎_elim (λ b. rw b refl) (λ b. rw b refl) (cases_Bool (is_message t))

-- what was read of nodes
pub record AreListed (level : Option ℕ) (f : Forest) (old new : Messages) : Type 0 where
  pub levels : KeepsLevels old new
  pub adds : Adds (among level f) old new
  pub early : new.early ≡ (old.early || list_any is_early (items f))

pub messages_read : (level : Option ℕ) (f : Forest) (old new : Messages) → AreRead TakesMessage level f old new → AreListed level f old new
messages_read level bare old new read = rw read (record { levels = (refl, refl); adds = none_more level old; early = sym (or-false old.early) })
messages_read level (words t r) old new read =
    let rest = messages_read level r old new read in
    record { levels = rest.levels; adds = rw (← past_text level t r) rest.adds; early = rest.early }
messages_read level (element t a c l r) old new read =
    let inside = messages_read read.1 c read.0 read.2 read.4 in
    let following = messages_read level r read.2 new read.5 in
    let own : List NumberedNote = element_message level t a c l in
    let its : Adds (among (if is_message t then Some 0 else level) c) read.0 read.2 = rw (read.3.3) at inside.adds in
    record {
      levels = (following.levels.0 ∙ inside.levels.0 ∙ read.3.0.0, following.levels.1 ∙ inside.levels.1 ∙ read.3.0.1);
      adds = rw (← past_element level t a c l r) (Adds-more own (among (if is_message t then Some 0 else level) c ++ among level r) old read.0 new read.3.1
          (Adds-more (among (if is_message t then Some 0 else level) c) (among level r) read.0 read.2 new its following.adds));
      early = rw (following.early, inside.early, read.3.2, list_any-append is_early (items c) (items r)) (or_assoc (old.early || is_early (item t a l)) (list_any is_early (items c)) _ ∙ or_assoc old.early (is_early (item t a l)) _);
    }

same_lists : (all : List NumberedNote) (old now : Messages) → now.notes ≡ old.notes → now.halt ≡ old.halt → now.report ≡ old.report → now.reported ≡ old.reported → Lists all old → Lists all now
same_lists all old now notes halt report reported lists = record { notes = rw (notes, halt) lists.notes; reported = λ n. rw (reported, report) (lists.reported n) }

-- a message in no other one was read
pub takes_message_in : (old now new : Messages) (n : Node) (t : Tag) (a : List Attr) (c : Forest) (l : ℕ) → n ≡ Element t a c l → is_message t ≡ true → now.early ≡ (old.early || is_early (item t a l)) → now.notes ≡ old.notes → now.halt ≡ old.halt
    → now.report ≡ old.report → now.reported ≡ old.reported → KeepsMessages now new → Adds (message_in a c l ∷ []) now new → TakesMessage old None n new (Some 0)
takes_message_in old now new n t a c l is here early notes halt report reported keeps adds =
    rw is ((keeps.0.0 ∙ halt, keeps.0.1 ∙ report), (λ all lists. rw here (adds all (same_lists all old now notes halt report reported lists))), keeps.1 ∙ early, rw here refl)

-- a text alone in an element is all of its text
pub lone_text : (c : Forest) (t : List ℕ) → length (nodes_of c) ≡ 1 → slice_get (nodes_of c) 0 ≡ Some (Text t) → t ≡ text_all c
lone_text bare t one first = absurd (omega arith)
lone_text (element tag a c l r) t one first = cc
lone_text (words x bare) t one first = let e : x ≡ t = cc in sym e ∙ sym (append-nil x)
lone_text (words x (words y r)) t one first = absurd (omega arith)
lone_text (words x (element tag a c l r)) t one first = absurd (omega arith)

-- a copy of the lone text in an element
pub gives_lone : (node : Node) (t : Tag) (a : List Attr) (c : Forest) (l : ℕ) (text : List ℕ) (copy : Result (List ℕ) AllocError) → node ≡ Element t a c l → length (nodes_of c) ≡ 1 → slice_get (nodes_of c) 0 ≡ Some (Text text)
    → IfOk copy (λ own. own ≡ text) → IfOk copy (λ own. own ≡ text_in node)
gives_lone node t a c l text copy is one first copied = rw (is, ← lone_text c text one first) copied
