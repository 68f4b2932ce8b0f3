-- Problematics and the messages that they belong to (Document Tree, 'problematic', 'system_message').
use Rattle.std.specs.Prelude.{ℕ, List, [], ◌∷◌, ◌++◌, slice_get, slice_set, unwrap_or, Option, Some, None}
use Rattle.rst_tree.specs.declared.attrs.Attr.{Attr}
use Rattle.rst_tree.specs.declared.attrs.Value.TheVariants.{Text as Words, Number, List as Listed}
use Rattle.rst_tree.specs.declared.key.Key.TheVariants.{Ids as IdsKey, Message, Refid}
use Rattle.rst_tree.specs.declared.node.Node.{Node}
use Rattle.rst_tree.specs.declared.node.Node.TheVariants.{Element}
use Rattle.rst_tree.specs.declared.tag.Tag.TheVariants.{Problematic, SystemMessage}
use Rattle.rst_tree.specs.Attributes.{attr}
use Rattle.rst_tree.specs.Forest.{bare, words}
use Rattle.rst_transform_names.specs.Ids.{kind_id}
use Rattle.rst_transform_work.specs.declared.report.Report.{Report}
use Rattle.rst_transform_work.specs.Known.{Known}

-- the id of a message: its own, or a new one if it has none; and the ids that are taken then
abbrev pub own_id : Option (List ℕ) → List (List ℕ) → List ℕ
own_id own taken = unwrap_or own (kind_id taken SystemMessage)

abbrev pub with_own_id : Option (List ℕ) → List (List ℕ) → List (List ℕ)
with_own_id (Some own) taken = taken
with_own_id None taken = kind_id taken SystemMessage ∷ taken

-- a message with its own id and with one more problematic
abbrev pub referring_report : List ℕ → List ℕ → Report → Report
referring_report own problematic r = record r { id = Some own; backrefs = r.backrefs ++ problematic ∷ [] }

-- the number and the id of a message, if there is one
abbrev pub message_attrs : Option (ℕ × List ℕ) → List Attr
message_attrs (Some message) = attr Message (Number message.0) ∷ attr Refid (Words message.1) ∷ []
message_attrs None = []

-- the attributes of a problematic: its id, and those
abbrev pub problematic_attrs : List ℕ → Option (ℕ × List ℕ) → List Attr
problematic_attrs id message = attr IdsKey (Listed (id ∷ [])) ∷ message_attrs message

-- The next problematic of a message, if there is one, which is at a place among the messages. It gets its id before the message gets one.
abbrev pub problematic_of : Option Report → ℕ → Known → List Attr × Known
problematic_of None place known =
    let id : List ℕ = kind_id known.ids Problematic in (problematic_attrs id None, record known { ids = id ∷ known.ids })
problematic_of (Some r) place known =
    let id : List ℕ = kind_id known.ids Problematic in
    let own : List ℕ = own_id r.id (id ∷ known.ids) in (
      problematic_attrs id (Some (r.number, own)),
      record known { ids = with_own_id r.id (id ∷ known.ids); reports = slice_set known.reports place (referring_report own id r) },
    )

-- the next problematic of the message at a place, if there is one there
abbrev pub problematic : ℕ → Known → List Attr × Known
problematic place known = problematic_of (slice_get known.reports place) place known

-- the same as a node, with a source text, on a line
abbrev pub reported_problematic : ℕ → List ℕ → ℕ → Known → Node × Known
reported_problematic place source line known = let done = problematic place known in (Element Problematic done.0 (words source bare) line, done.1)
