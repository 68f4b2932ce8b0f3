-- The fields of a document's bibliography, one after another (reStructuredText Markup Specification, 'Bibliographic Fields'; Document Tree,
-- 'docinfo').
use Rattle.std.specs.Prelude.{ℕ, Bool, true, false, ◌&&◌, List, [], ◌∷◌, ◌++◌, Option, Some, None, if◌then◌else◌}
use Rattle.std.specs.Option.{option_to_list}
use Rattle.rst_settings.specs.declared.Parts.{Parts}
use Rattle.rst_text.specs.Names.{name_in}
use Rattle.rst_tree.specs.declared.node.Node.{Node}
use Rattle.rst_tree.specs.declared.node.Node.TheVariants.{Element}
use Rattle.rst_tree.specs.declared.tag.Tag.TheVariants.{Docinfo}
use Rattle.rst_tree.specs.Nodes.{forest_of}
use Rattle.rst_transform_docinfo.specs.declared.bibliography.Bibliography.{Bibliography}
use Rattle.rst_transform_docinfo.specs.declared.bibliography.Row.{Row}
use Rattle.rst_transform_docinfo.specs.declared.bibliography.Row.TheVariants.{Address, Generic, Simple, Topic}
use Rattle.rst_transform_docinfo.specs.declared.bibliography.TopicKind.TheVariants.{Dedication, Abstract}
use Rattle.rst_transform_docinfo.specs.declared.field.Field.{Field}
use Rattle.rst_transform_work.specs.declared.report.Report.{Report}
use Rattle.rst_transform_docinfo.specs.Bibliography.{fault_node, fault_report, made, bibliography_row, generic_field}
use Rattle.rst_transform_docinfo.specs.Fields.{field_in, field_read, name_text}

-- What the fields became so far: the elements of the `docinfo`, and the topics, and whether there was a field for each; and the messages so far.
-- `parts` are the parts of the wider profile that hold.
pub record Gathered : Type 0 where
  pub info : List Node
  pub had_dedication : Bool
  pub dedication : Option Node
  pub had_abstract : Bool
  pub abstract : Option Node
  pub reports : List Report
  pub parts : Parts

abbrev pub so_far : Bibliography → List Report → Gathered
so_far b reports =
    record { info = b.info.items; had_dedication = b.has_dedication; dedication = b.dedication; had_abstract = b.has_abstract; abstract = b.abstract_; reports = reports; parts = b.parts }

-- no field yet
abbrev pub none_yet : Parts → List Report → Gathered
none_yet parts reports =
    record { info = []; had_dedication = false; dedication = None; had_abstract = false; abstract = None; reports = reports; parts = parts }

-- whether there was a field of this row before, where only the first may become a topic
abbrev pub is_further : Row → Gathered → Bool
is_further (Topic Dedication) g = g.had_dedication
is_further (Topic Abstract) g = g.had_abstract
is_further _ g = false

-- now there was one
abbrev pub with_seen : Row → Gathered → Gathered
with_seen (Topic Dedication) g = record g { had_dedication = true }
with_seen (Topic Abstract) g = record g { had_abstract = true }
with_seen _ g = g

-- one more node in the `docinfo`
abbrev pub with_info : Node → Gathered → Gathered
with_info n g = record g { info = g.info ++ n ∷ [] }

-- what a field of a row became, at its place
abbrev pub with_docinfo_element : Row → Node → Gathered → Gathered
with_docinfo_element (Topic Dedication) n g = record g { dedication = Some n }
with_docinfo_element (Topic Abstract) n g = record g { abstract = Some n }
with_docinfo_element _ n g = with_info n g

-- what a field of a row became, if it is in its form; one that stays a field; or one that isn't in its form, with the next message on it
abbrev pub gathered_by_form : ℕ → Row → List ℕ → Field → Option Node → Gathered → Gathered
gathered_by_form first row name f (Some n) g = with_docinfo_element row n g
gathered_by_form first Generic name f None g = with_info (generic_field name f) g
gathered_by_form first row name f None g =
    let next = fault_report first g.reports name f.line in record g { info = g.info ++ fault_node name next f ∷ []; reports = g.reports ++ next ∷ [] }

-- in a field of this row values take the place of keywords: not in one of names or topics
abbrev pub has_keywords : Row → Bool
has_keywords (Simple t) = true
has_keywords Address = true
has_keywords Generic = true
has_keywords _ = false

-- one more field of a row, as it is read
abbrev pub with_field_of : ℕ → Row → List ℕ → Field → Gathered → Gathered
with_field_of first row name f g = gathered_by_form first row name f (if is_further row g then None else made g.parts.unmarked row name f) (with_seen row g)

-- one more field, whose name determines what it is for
abbrev pub with_field : ℕ → Field → Gathered → Gathered
with_field first f g =
    let name = name_in (name_text g.parts.unmarked f.name) in
    let row = bibliography_row name in with_field_of first row name (field_read (g.parts.keywords && has_keywords row) f) g

-- one more node of the field list, which is a field or stays as it is
abbrev pub if_field : ℕ → Node → Option Field → Gathered → Gathered
if_field first n (Some f) g = with_field first f g
if_field first n None g = with_info n g

abbrev pub with_field_node : ℕ → Node → Gathered → Gathered
with_field_node first n g = if_field first n (field_in n) g

-- all of them
abbrev pub gathered : ℕ → Gathered → List Node → Gathered
gathered first g [] = g
gathered first g (n ∷ more) = gathered first (with_field_node first n g) more

-- the `docinfo`, if there are elements for it
abbrev pub info_nodes : ℕ → List Node → List Node
info_nodes line [] = []
info_nodes line (n ∷ ns) = Element Docinfo [] (forest_of (n ∷ ns)) line ∷ []

-- the `docinfo`, the dedication and the abstract, as far as they are there
abbrev pub docinfo_nodes : ℕ → Gathered → List Node
docinfo_nodes line g = (info_nodes line g.info ++ option_to_list g.dedication) ++ option_to_list g.abstract
