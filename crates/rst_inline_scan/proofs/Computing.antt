-- `unfolding rst_inline_scan` lets `refl` compute what the definitions give for a text that is written out. scripts/computing.py writes this file.

unfoldable pub rst_inline_scan : Unit {0}
unfolding
    lib.Utf8.encode Rattle.std.specs.Fmt.digits Rattle.rst_text.proofs.Computing.rst_text Rattle.ucd_category.proofs.Computing.ucd_category
    Rattle.rst_inline_scan.specs.Characters.may_precede_start Rattle.rst_inline_scan.specs.Characters.may_follow
    Rattle.rst_inline_scan.specs.Characters.is_pair Rattle.rst_inline_scan.specs.Footnotes.label_stop Rattle.rst_inline_scan.specs.Footnotes.label
    Rattle.rst_inline_scan.specs.Mail.is_address_char Rattle.rst_inline_scan.specs.Mail.user_stop Rattle.rst_inline_scan.specs.Mail.host_stop
    Rattle.rst_inline_scan.specs.Mail.host_end Rattle.rst_inline_scan.specs.Mail.address_end Rattle.rst_inline_scan.specs.Mail.address
    Rattle.rst_inline_scan.specs.Mail.is_address Rattle.rst_inline_scan.specs.Marked.markup_of Rattle.rst_inline_scan.specs.Marked.start_of
    Rattle.rst_inline_scan.specs.Marked.starts Rattle.rst_inline_scan.specs.Marked.tail_of Rattle.rst_inline_scan.specs.Marked.ends
    Rattle.rst_inline_scan.specs.Marked.markup_end Rattle.rst_inline_scan.specs.Marked.marked Rattle.rst_inline_scan.specs.Names.role_end
    Rattle.rst_inline_scan.specs.Names.ends_name Rattle.rst_inline_scan.specs.Names.is_reference Rattle.rst_inline_scan.specs.Names.name_end
    Rattle.rst_inline_scan.specs.Names.reference Rattle.rst_inline_scan.specs.Pieces.unlinked_at Rattle.rst_inline_scan.specs.Pieces.markup_at
    Rattle.rst_inline_scan.specs.Pieces.is_free Rattle.rst_inline_scan.specs.Pieces.is_free_link
    Rattle.rst_inline_scan.specs.Pieces.marked_or_registered Rattle.rst_inline_scan.specs.Pieces.piece_at
    Rattle.rst_inline_scan.specs.Reading.pieces_of Rattle.rst_inline_scan.specs.Registered.registered_end
    Rattle.rst_inline_scan.specs.Registered.is_uric Rattle.rst_inline_scan.specs.Registered.uric_stop
    Rattle.rst_inline_scan.specs.Registered.is_link_last Rattle.rst_inline_scan.specs.Registered.ends_link
    Rattle.rst_inline_scan.specs.Registered.part_stop Rattle.rst_inline_scan.specs.Registered.registered_uri
    Rattle.rst_inline_scan.specs.Tails.name_tail Rattle.rst_inline_scan.specs.Uri.scheme_end Rattle.rst_inline_scan.specs.Uri.is_uri_char
    Rattle.rst_inline_scan.specs.Uri.is_uri_trail Rattle.rst_inline_scan.specs.Uri.uri_stop Rattle.rst_inline_scan.specs.Uri.uri_close
    Rattle.rst_inline_scan.specs.Uri.uri_end Rattle.rst_inline_scan.specs.Uri.uri Rattle.rst_inline_scan.specs.Words.goes_on
rst_inline_scan = tt
