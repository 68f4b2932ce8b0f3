-- What is left of a document where it is printed (Configuration, `report_level`).
use Rattle.std.specs.Prelude.{ℕ, Bool, false, not, if◌then◌else◌, option_map, unwrap_or}
use Rattle.rst_settings.specs.declared.Threshold.{Threshold}
use Rattle.rst_tree.specs.declared.key.Key.TheVariants.{Message}
use Rattle.rst_tree.specs.declared.node.Node.{Node}
use Rattle.rst_tree.specs.declared.node.Node.TheVariants.{Element}
use Rattle.rst_tree.specs.declared.tag.Tag.TheVariants.{Problematic}
use Rattle.rst_tree.specs.Attributes.{as_number, value_of}
use Rattle.rst_tree.specs.Forest.{Forest, bare, element, words}
use Rattle.rst_tree.specs.Tree.{text_all}
use Rattle.rst_transform_messages.specs.Reported.{is_below}
use Rattle.rst_transform_work.specs.declared.document.Document.{Document}

-- whether a node is a problematic whose message isn't printed; where it has no number, there is no message
abbrev pub is_unexplained : (ℕ → Bool) → Node → Bool
is_unexplained reported (Element Problematic a c l) = not (unwrap_or (option_map reported (as_number (value_of Message a))) false)
is_unexplained reported _ = false

-- The nodes without the messages below the report level, and with its text in place of each problematic whose message isn't printed. `reported` has
-- for each message's number whether the message is printed.
abbrev pub filtered : Threshold → (ℕ → Bool) → Forest → Forest
filtered report reported bare = bare
filtered report reported (words t r) = words t (filtered report reported r)
filtered report reported (element t a c l r) =
    if is_below report t a then filtered report reported r
    else (if is_unexplained reported (Element t a c l) then words (text_all c) (filtered report reported r) else element t a (filtered report reported c) l (filtered report reported r))

-- the document with what is in it filtered
abbrev pub with_filtered : Threshold → (ℕ → Bool) → Document → Document
with_filtered report reported document = record document { children = filtered report reported document.children }
