-- The names of attributes, in the order of the names (Document Tree, 'Attribute Reference').
use Rattle.std.specs.Prelude.{ℕ, ◌==◌, Bool, true, false, List, codes}
use Rattle.rst_tree.specs.declared.key.Key.{Key}
use Rattle.rst_tree.specs.declared.key.Key.TheVariants.{Align, Alt, Anonymous, Auto, Backlinks, Backrefs, Bullet, Classes, Cols, Colwidth, Delimiter, Depth, Dupnames, Enumtype, Format, Height, Ids, Inline, Kind, Level, Line, Local, Mark, Message, Morecols, Morerows, Name, Names, OwnName, Prefix, Rawsource, Refid, Refname, Refuri, Scale, Serial, Source, Start, Stub, Suffix, TextMessages, Title, Type_, Uri, Width, XmlSpace}

-- the name that is printed
unfoldable pub key_name : Key → List ℕ
key_name Align = codes "align"
key_name Alt = codes "alt"
key_name Anonymous = codes "anonymous"
key_name Auto = codes "auto"
key_name Backlinks = codes "backlinks"
key_name Backrefs = codes "backrefs"
key_name Bullet = codes "bullet"
key_name Classes = codes "classes"
key_name Cols = codes "cols"
key_name Colwidth = codes "colwidth"
key_name Delimiter = codes "delimiter"
key_name Depth = codes "depth"
key_name Dupnames = codes "dupnames"
key_name Enumtype = codes "enumtype"
key_name Format = codes "format"
key_name Height = codes "height"
key_name Ids = codes "ids"
key_name Inline = codes "inline"
key_name Kind = codes "kind"
key_name Level = codes "level"
key_name Line = codes "line"
key_name Local = codes "local"
key_name Mark = codes "mark"
key_name Message = codes "message"
key_name Morecols = codes "morecols"
key_name Morerows = codes "morerows"
key_name Name = codes "name"
key_name Names = codes "names"
key_name OwnName = codes "own_name"
key_name Prefix = codes "prefix"
key_name Rawsource = codes "rawsource"
key_name Refid = codes "refid"
key_name Refname = codes "refname"
key_name Refuri = codes "refuri"
key_name Scale = codes "scale"
key_name Serial = codes "serial"
key_name Source = codes "source"
key_name Start = codes "start"
key_name Stub = codes "stub"
key_name Suffix = codes "suffix"
key_name TextMessages = codes "text_messages"
key_name Title = codes "title"
key_name Type_ = codes "type"
key_name Uri = codes "uri"
key_name Width = codes "width"
key_name XmlSpace = codes "xml:space"

-- the place of a name in the order of the names
abbrev pub key_code : Key → ℕ
key_code Align = 0
key_code Alt = 1
key_code Anonymous = 2
key_code Auto = 3
key_code Backlinks = 4
key_code Backrefs = 5
key_code Bullet = 6
key_code Classes = 7
key_code Cols = 8
key_code Colwidth = 9
key_code Delimiter = 10
key_code Depth = 11
key_code Dupnames = 12
key_code Enumtype = 13
key_code Format = 14
key_code Height = 15
key_code Ids = 16
key_code Inline = 17
key_code Kind = 18
key_code Level = 19
key_code Line = 20
key_code Local = 21
key_code Mark = 22
key_code Message = 23
key_code Morecols = 24
key_code Morerows = 25
key_code Name = 26
key_code Names = 27
key_code OwnName = 28
key_code Prefix = 29
key_code Rawsource = 30
key_code Refid = 31
key_code Refname = 32
key_code Refuri = 33
key_code Scale = 34
key_code Serial = 35
key_code Source = 36
key_code Start = 37
key_code Stub = 38
key_code Suffix = 39
key_code TextMessages = 40
key_code Title = 41
key_code Type_ = 42
key_code Uri = 43
key_code Width = 44
key_code XmlSpace = 45

-- two attributes have one name
abbrev pub is_same : Key → Key → Bool
is_same k j = key_code k == key_code j

-- what the transforms alone need, which Document Tree doesn't show: they take these off, for the printer prints whatever is
-- in a tree
abbrev pub is_hidden : Key → Bool
is_hidden Inline = true
is_hidden Mark = true
is_hidden Message = true
is_hidden OwnName = true
is_hidden Rawsource = true
is_hidden Refname = true
is_hidden Serial = true
is_hidden TextMessages = true
is_hidden _ = false
