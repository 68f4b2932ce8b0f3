-- Which neighbouring constructs are one run (Markup Specification, 'Bullet Lists', 'Enumerated Lists', 'Definition Lists', 'Field
-- Lists', 'Option Lists', 'Line Blocks', 'Explicit Markup Blocks'), and the WARNING where no blank line follows a run.
use Rattle.std.specs.Prelude.{ℕ, suc, Bool, false, ◌==◌, List, map, codes, Option, Some, None, if◌then◌else◌}
use Rattle.std.specs.Option.{option_map_or, option_or}
use Rattle.rst_text.specs.Block.{Block}
use Rattle.rst_markup_lines.specs.Enumerator.{first_reading, is_same_format, ordinal_in}
use Rattle.rst_markup_lines.specs.declared.enumerator.Format.{Format}
use Rattle.rst_markup_lines.specs.declared.enumerator.Ordinals.{Ordinals}
use Rattle.rst_markup_lines.specs.declared.enumerator.Ordinals.TheVariants.{Auto}
use Rattle.rst_markup_lines.specs.declared.enumerator.Sequence.{Sequence}
use Rattle.rst_markup_blocks.specs.Partition.{Span, spans}
use Rattle.rst_block_state.specs.Constructs.{ItemMark, bullet_item, enumerated_item, definition_item, field_item, option_item, Construct, block_quote, item_of_list, bar_line, grid, simple, explicit_markup, Found, found_at}
use Rattle.rst_block_state.specs.Runs.{Run, runs}

-- What joins a run: an item with this bullet; an item whose enumerator has this format and, in this sequence, follows this ordinal, or, after `#`,
-- one with `#` alone; an item of the same kind of list; a line of a line block that begins at the place where the run ends; explicit markup,
-- anonymous targets included; or nothing.
pub data Joining : Type 0 where
  bullets : ℕ → Joining
  enumerators : Format → Sequence → Option ℕ → Joining
  definitions : Joining
  fields : Joining
  options : Joining
  lines_from : ℕ → Joining
  explicits : Joining
  none : Joining

-- ---- lists

-- the ordinal of a list's first item, unless it is `#`
abbrev pub ordinal_of : Ordinals → Option ℕ
ordinal_of Auto = None
ordinal_of ordinals = Some (first_reading ordinals).ordinal

-- what joins a list that begins with an item; the sequence of an enumerated list is that of its first enumerator's first reading
abbrev pub list_joining : ItemMark → Joining
list_joining (bullet_item c m) = bullets c
list_joining (enumerated_item e) = enumerators e.format (first_reading e.written.ordinals).sequence (ordinal_of e.written.ordinals)
list_joining (definition_item infos) = definitions
list_joining (field_item m) = fields
list_joining (option_item m) = options

-- the ordinal is the next after the last one
abbrev pub is_next_after : ℕ → Option ℕ → Bool
is_next_after last ordinal = option_map_or (λ n. n == suc last) ordinal false

-- What joins a list next after an enumerator of its format, if that joins it: `#` always does, and after it only `#`; after an ordinal so does the
-- next one in the list's sequence.
abbrev pub enumerators_by : Format → Sequence → Option ℕ → Ordinals → Option Joining
enumerators_by f q last Auto = Some (enumerators f q None)
enumerators_by f q None ordinals = None
enumerators_by f q (Some last) ordinals =
    if is_next_after last (ordinal_in q ordinals) then Some (enumerators f q (Some (suc last))) else None

-- what joins a list next after an item, if that joins it
abbrev pub list_joining_after : Joining → ItemMark → Option Joining
list_joining_after (bullets c) (bullet_item d m) = if c == d then Some (bullets c) else None
list_joining_after (enumerators f q last) (enumerated_item e) =
    if is_same_format f e.format then enumerators_by f q last e.written.ordinals else None
list_joining_after definitions (definition_item infos) = Some definitions
list_joining_after fields (field_item m) = Some fields
list_joining_after options (option_item m) = Some options
list_joining_after _ _ = None

-- ---- all runs

-- what joins a run that begins with the construct of some lines; constructs other than items, lines of line blocks and explicit markup are alone
abbrev pub joining_of : Construct → Span → Joining
joining_of (item_of_list mark) s = list_joining mark
joining_of (bar_line m) s = lines_from s.stop
joining_of explicit_markup s = explicits
joining_of _ s = none

-- what joins a run next after the construct of some lines, if that joins it; a line joins a line block only if no blank line is between them
abbrev pub joining_after : Joining → Construct → Span → Option Joining
joining_after joining (item_of_list mark) s = list_joining_after joining mark
joining_after (lines_from end) (bar_line m) s = if s.start == end then Some (lines_from s.stop) else None
joining_after explicits explicit_markup s = Some explicits
joining_after _ _ s = None

-- the constructs of a block, in runs
abbrev pub runs_of : Bool → Block → List (Run Found)
runs_of titles B =
    runs (λ f. joining_of f.what f.span) (λ joining f. joining_after joining f.what f.span) (map (found_at titles B) (spans titles B))

-- ---- where no blank line follows

-- the text of the WARNING where no blank line follows a run that this joins; a run that nothing joins has none
abbrev pub joined_ending : Joining → Option (List ℕ)
joined_ending (bullets c) = Some (codes "Bullet list ends without a blank line; unexpected unindent.")
joined_ending (enumerators f q last) = Some (codes "Enumerated list ends without a blank line; unexpected unindent.")
joined_ending definitions = Some (codes "Definition list ends without a blank line; unexpected unindent.")
joined_ending fields = Some (codes "Field list ends without a blank line; unexpected unindent.")
joined_ending options = Some (codes "Option list ends without a blank line; unexpected unindent.")
joined_ending (lines_from end) = Some (codes "Line block ends without a blank line.")
joined_ending explicits = Some (codes "Explicit markup ends without a blank line; unexpected unindent.")
joined_ending none = None

-- The text of the WARNING where no blank line follows a construct that nothing joins. Paragraphs, titles, transitions, misplaced lines and doctest
-- blocks have none.
abbrev pub alone_ending : Construct → Option (List ℕ)
alone_ending block_quote = Some (codes "Block quote ends without a blank line; unexpected unindent.")
alone_ending grid = Some (codes "Blank line required after table.")
alone_ending simple = Some (codes "Blank line required after table.")
alone_ending _ = None

-- the text of the WARNING where no blank line follows a run that begins with the construct of some lines
abbrev pub ending_of : Construct → Span → Option (List ℕ)
ending_of what s = option_or (alone_ending what) (joined_ending (joining_of what s))
