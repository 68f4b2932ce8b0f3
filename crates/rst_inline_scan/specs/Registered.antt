-- Standalone URIs of registered schemes, by the wider profile (Markup Specification, 'Standalone Hyperlinks'; RFC 3986, 3).
use Rattle.std.specs.Prelude.{ℕ, ◌+◌, ◌-◌, Bool, not, ◌&&◌, ◌||◌, ◌==◌, List, [], ◌∷◌, Option, slice_index, length, find, unwrap_or, option_map, option_and_then, codes, if◌then◌else◌}
use Rattle.std.specs.List.{list_any}
use Rattle.std.specs.Char.{is_ascii_alphanumeric}
use Rattle.rst_text.specs.Characters.{Text, has, is_among}
use Rattle.rst_text.specs.Places.{first_from, last_from}
use Rattle.rst_inline_scan.specs.Characters.{is_free_after}
use Rattle.rst_inline_scan.specs.Uri.{has_any_case, is_uri_char, uri_piece}
use Rattle.rst_inline_scan.specs.declared.piece.Piece.{Piece}

-- ---- the scheme

-- the registered schemes, each with its colon
abbrev pub registered : List Text
registered =
    codes "about:" ∷ codes "acap:" ∷ codes "addbook:" ∷ codes "afp:" ∷ codes "afs:" ∷ codes "aim:" ∷ codes "callto:" ∷ codes "castanet:" ∷
    codes "chttp:" ∷ codes "cid:" ∷ codes "crid:" ∷ codes "data:" ∷ codes "dav:" ∷ codes "dict:" ∷ codes "dns:" ∷ codes "eid:" ∷ codes "fax:" ∷
    codes "feed:" ∷ codes "file:" ∷ codes "finger:" ∷ codes "freenet:" ∷ codes "ftp:" ∷ codes "go:" ∷ codes "gopher:" ∷ codes "gsm-sms:" ∷ codes "h323:" ∷
    codes "h324:" ∷ codes "hdl:" ∷ codes "hnews:" ∷ codes "http:" ∷ codes "https:" ∷ codes "hydra:" ∷ codes "iioploc:" ∷ codes "ilu:" ∷ codes "im:" ∷
    codes "imap:" ∷ codes "info:" ∷ codes "ior:" ∷ codes "ipp:" ∷ codes "irc:" ∷ codes "iris.beep:" ∷ codes "iseek:" ∷ codes "jar:" ∷
    codes "javascript:" ∷ codes "jdbc:" ∷ codes "ldap:" ∷ codes "lifn:" ∷ codes "livescript:" ∷ codes "lrq:" ∷ codes "mailbox:" ∷ codes "mailserver:" ∷
    codes "mailto:" ∷ codes "md5:" ∷ codes "mid:" ∷ codes "mocha:" ∷ codes "modem:" ∷ codes "mtqp:" ∷ codes "mupdate:" ∷ codes "news:" ∷ codes "nfs:" ∷
    codes "nntp:" ∷ codes "opaquelocktoken:" ∷ codes "phone:" ∷ codes "pop:" ∷ codes "pop3:" ∷ codes "pres:" ∷ codes "printer:" ∷ codes "prospero:" ∷
    codes "rdar:" ∷ codes "res:" ∷ codes "rtsp:" ∷ codes "rvp:" ∷ codes "rwhois:" ∷ codes "rx:" ∷ codes "sdp:" ∷ codes "service:" ∷ codes "shttp:" ∷
    codes "sip:" ∷ codes "sips:" ∷ codes "smb:" ∷ codes "snews:" ∷ codes "snmp:" ∷ codes "soap.beep:" ∷ codes "soap.beeps:" ∷ codes "ssh:" ∷
    codes "t120:" ∷ codes "tag:" ∷ codes "tcp:" ∷ codes "tel:" ∷ codes "telephone:" ∷ codes "telnet:" ∷ codes "tftp:" ∷ codes "tip:" ∷ codes "tn3270:" ∷
    codes "tv:" ∷ codes "urn:" ∷ codes "uuid:" ∷ codes "vemmi:" ∷ codes "videotex:" ∷ codes "view-source:" ∷ codes "wais:" ∷ codes "whodp:" ∷
    codes "whois++:" ∷ codes "x-man-page:" ∷ codes "xmlrpc.beep:" ∷ codes "xmlrpc.beeps:" ∷ codes "z39.50r:" ∷ codes "z39.50s:" ∷ []

-- the place after the registered scheme and its colon that begin at the place
unfoldable pub registered_end : Text → ℕ → Option ℕ
registered_end t i = option_map (λ scheme. i + length scheme) (find (has_any_case t i) registered)

-- a word that ends at the place may begin a scheme: one of :-.+ follows it
abbrev pub may_name_scheme : Text → ℕ → Bool
may_name_scheme t e = has t e 58 || (has t e 45 || (has t e 46 || has t e 43))

-- a colon stands in a text or in its bytes
abbrev pub holds_colon : List ℕ → Bool
holds_colon t = list_any (λ c. c == 58) t

-- ---- the hierarchical part, the query and the fragment

-- a character of a URI, but for ? and #
unfoldable pub is_uric : ℕ → Bool
is_uric c = is_uri_char c && not (is_among (63 ∷ 35 ∷ []) c)

-- such a character is at the place, or a backslash that is no part of an escaped backslash
abbrev pub is_uric_at : Text → ℕ → Bool
is_uric_at t k = is_uric (slice_index t k) || (has t k 92 && not (has t (k + 1) 92))

-- the least place from the place on that holds none, or the text's end
unfoldable pub uric_stop : Text → ℕ → ℕ
uric_stop t i = unwrap_or (first_from (λ k. not (is_uric_at t k)) i (length t - i)) (length t)

-- an ASCII letter or digit, or one of _~*/=+ which may end a URI or an e-mail address
unfoldable pub is_link_last : ℕ → Bool
is_link_last c = is_ascii_alphanumeric c || is_among (95 ∷ 126 ∷ 42 ∷ 47 ∷ 61 ∷ 43 ∷ []) c

-- A URI or an e-mail address may end before the place: its last character fits, as any does before >, and so does what follows it.
unfoldable pub ends_link : Text → ℕ → Bool
ends_link t e = (is_link_last (slice_index t (e - 1)) || (has t e 62 && is_uric_at t (e - 1))) && is_free_after t e

-- where the part goes that the mark begins, if it is at the place and the part before it may end there
unfoldable pub part_stop : ℕ → Text → ℕ → ℕ
part_stop mark t k = if has t k mark && is_link_last (slice_index t (k - 1)) then uric_stop t (k + 1) else k

-- the greatest place up to which a URI may go: its hierarchical part from the place on, a query after ?, and a fragment after #
abbrev pub uri_limit : Text → ℕ → ℕ
uri_limit t i = part_stop 35 t (part_stop 63 t (uric_stop t i))

-- the greatest end of a URI, by the place after its scheme
abbrev pub last_end : Text → ℕ → Option ℕ
last_end t i = last_from (ends_link t) (i + 1) (uri_limit t i - i)

-- ---- the whole

-- the URI of a registered scheme that begins at the place, if one does
unfoldable pub registered_uri : Text → ℕ → Option Piece
registered_uri t i = option_map (uri_piece i) (option_and_then (last_end t) (registered_end t i))
