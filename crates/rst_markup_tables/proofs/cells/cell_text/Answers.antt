use Rattle.std.proofs.Common.{◌≡◌, ◌++◌, ℕ, List, length, take, sym, ap, ◌∙◌, subst, arith, chars, string_bytes, append-nil}
use Rattle.std.specs.Str.{encode_utf8_all, trim_end, drop_trailing_whitespace}
use Rattle.std.proofs.lemmas.List.{at_drop_all}
use Rattle.std.specs.String.Boundary.{IsSplitPoint}
use Rattle.rst_text.specs.Lines.{is_line_text}
use Rattle.rst_markup_tables.specs.Cells.{characters, cut_places}
use Rattle.rst_markup_tables.specs.declared.places.Place.{Place}
use Rattle.rst_markup_tables.proofs.CellLemmas.{read_text, trimmed-cut}
use Rattle.rst_markup_tables.proofs.cells.cell_text.Goals as goal

pub truncate-requires : goal.truncate-requires
truncate-requires c inside =
    let trimmed = c.trim_end-len.result.now in
    subst (λ (bytes : List ℕ). IsSplitPoint bytes (length trimmed)) c.deref.ensures (trimmed-cut c.deref.result.now trimmed c.deref.utf8 c.trim_end-len.utf8 c.trim_end-len.ensures.value).0

pub returns : goal.returns
returns c =
    let all = at_drop_all (λ ps. string_bytes c.loop-place.text ++ encode_utf8_all (characters ps)) c.cut_places-places.result.now c.loop-place.place-index (omega arith) in
    let bytes = sym (append-nil (string_bytes c.loop-place.text)) ∙ sym all ∙ c.loop-place.invariant in
    let trimmed = c.trim_end-len.result.now in
    let read = read_text c.args.left c.args.right _ _ (string_bytes c.loop-place.text) trimmed c.cut_places-places.ensures c.row_at.ensures.of_line bytes c.trim_end-len.utf8 (c.trim_end-len.ensures.trim ∙ ap trim_end c.deref.ensures) in
    let is = c.truncate.ensures.bytes ∙ ap (take (length trimmed)) (sym c.deref.ensures) ∙ (trimmed-cut c.deref.result.now trimmed c.deref.utf8 c.trim_end-len.utf8 c.trim_end-len.ensures.value).1 in
    (ap chars is ∙ read.0 ∙ ap (λ (r : List Place). drop_trailing_whitespace (characters (cut_places c.args.left c.args.right r))) c.row_at.ensures.value, ap (λ (bytes : List ℕ). is_line_text (chars bytes)) is ∙ read.1)
