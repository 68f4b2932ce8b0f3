-- The texts of the messages on directives, in bytes (Document Tree, 'system_message').
use Rattle.std.specs.Prelude.{ℕ, List, ◌++◌, codes, encode_utf8_all}
use Rattle.rst_tree.specs.declared.note.Level.{Level}
use Rattle.rst_tree.specs.declared.note.Level.TheVariants.{Warning, Error}
use Rattle.rst_markup_directives.specs.Wrong.{Wrong, option_block, unknown, duplicate, invalid, no_argument, many_arguments, content_not_permitted, not_one_paragraph, Fault, not_in_substitution, unknown_directive, inside, no_content, no_rows, no_table, topic_not_here, sidebar_not_here, lone_subtitle, replace_not_here, disabled, invalid_classes}

-- the second line of the message on a directive in which something is wrong
abbrev pub wrong_text : Wrong → List ℕ
wrong_text option_block = codes "invalid option block."
wrong_text (unknown option) = codes "unknown option: \"" ++ encode_utf8_all option ++ codes "\"."
wrong_text (duplicate option) = codes "duplicate option \"" ++ encode_utf8_all option ++ codes "\"."
wrong_text (invalid option) = codes "invalid value of option \"" ++ encode_utf8_all option ++ codes "\"."
wrong_text no_argument = codes "1 argument(s) required, 0 supplied."
wrong_text many_arguments = codes "at most 1 argument permitted."
wrong_text content_not_permitted = codes "no content permitted."
wrong_text not_one_paragraph = codes "may contain a single paragraph only."

-- the text of the message on a content that is missing
abbrev pub missing_text : List ℕ → List ℕ
missing_text name = codes "Content block expected for the \"" ++ name ++ codes "\" directive; none found."

-- the text of the message on class names of which one is wrong
abbrev pub classes_text : List ℕ → List ℕ → List ℕ
classes_text classes name = codes "Invalid class attribute value for \"" ++ (name ++ (codes "\" directive: \"" ++ (classes ++ codes "\".")))

-- the text of the message on a wrong directive of this name; where a substitution definition may not hold it, the name is that of the definition
abbrev pub fault_text : Fault → List ℕ → List ℕ
fault_text not_in_substitution name = codes "Substitution definition \"" ++ name ++ codes "\" may hold only image or replace."
fault_text unknown_directive name = codes "Unknown directive type \"" ++ name ++ codes "\"."
fault_text (inside wrong) name = codes "Error in \"" ++ name ++ codes "\" directive:\n" ++ wrong_text wrong
fault_text no_content name = missing_text name
fault_text no_table name = missing_text name
fault_text no_rows name = codes "The \"" ++ name ++ codes "\" directive is empty; content required."
fault_text topic_not_here name = codes "The \"topic\" directive may not be used within topics or body elements."
fault_text sidebar_not_here name = codes "The \"" ++ name ++ codes "\" directive may not be used within topics or body elements."
fault_text lone_subtitle name = codes "The \"subtitle\" option may not be used without a title."
fault_text replace_not_here name = codes "Invalid context: the \"replace\" directive can only be used within a substitution definition."
fault_text disabled name = codes "\"" ++ name ++ codes "\" directive disabled."
fault_text (invalid_classes text) name = classes_text (encode_utf8_all text) name

-- the level of that message
abbrev pub fault_level : Fault → Level
fault_level disabled = Warning
fault_level no_table = Warning
fault_level _ = Error
