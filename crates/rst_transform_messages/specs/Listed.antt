-- What the list of messages holds (Configuration, `halt_level` and `report_level`).
use Rattle.std.specs.Prelude.{◌≡◌, ℕ, List, [], ◌∷◌, ◌++◌, ◌||◌, if◌then◌else◌, Option, Some, None}
use Rattle.rst_tree.specs.declared.attrs.Attr.{Attr}
use Rattle.rst_tree.specs.declared.node.Node.{Node}
use Rattle.rst_tree.specs.declared.node.Node.TheVariants.{Element, Text}
use Rattle.rst_tree.specs.declared.tag.Tag.{Tag}
use Rattle.rst_tree.specs.Forest.{Forest}
use Rattle.rst_tree.specs.Walk.{item}
use Rattle.rst_tree_index.specs.Kinds.{is_message}
use Rattle.rst_transform_messages.specs.Early.{is_early}
use Rattle.rst_transform_messages.specs.MessagesIn.{message_in}
use Rattle.rst_transform_messages.specs.declared.messages.Messages.{Messages}
use Rattle.rst_transform_work.specs.declared.report.Report.{Report}
use Rattle.rst_transform_messages.specs.Messages.{is_number_reported, is_number_marked, unnumbered_notes, until_halt, NumberedNote}
use Rattle.rst_transform_work.specs.Reports.{report_note}

-- the list has these messages, up to the first that halts, and knows which numbers are those of messages that are printed
pub record Lists (all : List NumberedNote) (list : Messages) : Type 0 where
  pub notes : list.notes.items ≡ until_halt list.halt (unnumbered_notes all)
  pub reported : (n : ℕ) → is_number_marked list.reported.items n ≡ is_number_reported list.report all n

-- the list has more messages, after those that it had
abbrev pub Adds : List NumberedNote → Messages → Messages → Type 0
Adds more old new = (all : List NumberedNote) → Lists all old → Lists (all ++ more) new

-- the levels from which on messages halt and are printed stay
abbrev pub KeepsLevels : Messages → Messages → Type 0
KeepsLevels old new = (new.halt ≡ old.halt) × (new.report ≡ old.report)

-- these stay, and what is known of the elements that were read
abbrev pub KeepsMessages : Messages → Messages → Type 0
KeepsMessages old new = KeepsLevels old new × (new.early ≡ old.early)

-- a message of a transform, with its number
abbrev pub numbered_report : Report → NumberedNote
numbered_report report = (report_note report, Some report.number)

-- what an element adds, which is in no message, or in one
abbrev pub element_message : Option ℕ → Tag → List Attr → Forest → ℕ → List NumberedNote
element_message None t a c l = if is_message t then message_in a c l ∷ [] else []
element_message (Some within) t a c l = []

-- the messages that were read, and one more element
abbrev pub TakesMessage : Messages → Option ℕ → Node → Messages → Option ℕ → Type 0
TakesMessage old level (Text t) new inner = Unit {0}
TakesMessage old level (Element t a c l) new inner =
    KeepsLevels old new × Adds (element_message level t a c l) old new × (new.early ≡ (old.early || is_early (item t a l))) × (inner ≡ (if is_message t then Some 0 else level))
