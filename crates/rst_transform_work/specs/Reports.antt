-- The messages of the transforms as elements (Document Tree, 'system_message').
use Rattle.std.specs.Prelude.{◌≡◌, ℕ, ◌+◌, ◌-◌, ◌^◌, min, Bool, List, [], ◌∷◌, ◌++◌, length, Option, Some, None}
use Rattle.rst_tree.specs.declared.attrs.Attr.{Attr}
use Rattle.rst_tree.specs.declared.attrs.Value.TheVariants.{Number, List as Listed}
use Rattle.rst_tree.specs.declared.key.Key.TheVariants.{Backrefs, Ids as IdsKey, Level as LevelKey, Message}
use Rattle.rst_tree.specs.declared.node.Node.{Node}
use Rattle.rst_tree.specs.declared.note.Level.{Level}
use Rattle.rst_tree.specs.declared.note.Note.{Note}
use Rattle.rst_tree.specs.Attributes.{attr}
use Rattle.rst_tree.specs.LevelNames.{level_number}
use Rattle.rst_tree.specs.Messages.{message_with}
use Rattle.rst_transform_work.specs.declared.report.Report.{Report}
use Rattle.rst_transform_work.specs.declared.context.Context.{Context}
use Rattle.rst_transform_work.specs.Known.{Known}

-- the message as a note, for the list of messages
abbrev pub report_note : Report → Note
report_note r = record { level = r.level; line = r.line; text = r.text; block = None }

-- the id of an element, if it has one
abbrev pub id_attrs : Option (List ℕ) → List Attr
id_attrs (Some id) = attr IdsKey (Listed (id ∷ [])) ∷ []
id_attrs None = []

-- the attributes of the message: the ids of its problematics, its own, its level and its number
abbrev pub report_attrs : Report → List Attr
report_attrs r = attr Backrefs (Listed r.backrefs) ∷ id_attrs r.id ++ (attr LevelKey (Number (level_number r.level)) ∷ attr Message (Number r.number) ∷ [])

-- the message as a `system_message`
abbrev pub report_node : Report → Node
report_node r = message_with (report_attrs r) (report_note r)

-- the message once its id and those of its problematics have moved elsewhere
abbrev pub without_ids : Report → Report
without_ids r = record r { id = None; backrefs = [] }

-- The message that comes next after these, without problematics. The first has the first number, each other the next one, up to the largest `u64`.
abbrev pub next_report : ℕ → List Report → Level → ℕ → List ℕ → Bool → Report
next_report first reports level line text own =
    record { level = level; line = line; text = text; number = min (first + length reports) (2 ^ 64 - 1); id = None; backrefs = []; own = own }

-- the same after those that are known
abbrev pub report_in : Context → Level → ℕ → List ℕ → Bool → Report
report_in context level line text own = next_report context.first_number context.reports.items level line text own

-- one more message is known
abbrev pub reported : Level → ℕ → List ℕ → Bool → Known → Known
reported level line text own known = record known { reports = known.reports ++ next_report known.first_number known.reports level line text own ∷ [] }

-- one more message is known, after the others
abbrev pub IsReported : Report → Context → Context → Type 0
IsReported next before after = after.reports.items ≡ before.reports.items ++ next ∷ []

-- all but the messages is as it was
abbrev pub KeepsRest : Context → Context → Type 0
KeepsRest old new = new ≡ record old { reports = new.reports }
