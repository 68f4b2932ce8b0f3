-- The URIs of e-mail addresses (Markup Specification, 'Standalone Hyperlinks').
use Rattle.std.specs.Prelude.{Bool, true, false, ◌++◌, Option, Some, None, unwrap_or, codes, if◌then◌else◌}
use Rattle.rst_text.specs.Characters.{Text}
use Rattle.rst_inline_scan.specs.Mail.{is_address}

-- the URI of an address
abbrev pub uri_of_address : Text → Text
uri_of_address address = codes "mailto:" ++ address

-- the URI of a text that is an address as a whole
abbrev pub mailto : Text → Option Text
mailto t = if is_address t then Some (uri_of_address t) else None

-- A URI as it is kept. Where addresses are asked for, one that is an address gets its scheme.
abbrev pub mailed : Bool → Text → Text
mailed false uri = uri
mailed true uri = unwrap_or (mailto uri) uri
