use Rattle.std.proofs.Common.{◌≡◌, string_bytes, None, Some, refl, sym, ap, ◌∙◌, arith}
use Rattle.std.proofs.lemmas.Bool.{lt-leb}
use Rattle.rst_transform_names.specs.Ids.{id_number, last_number, taken_by}
use Rattle.rst_transform_names.proofs.IdLemmas.{added, was_there, took_named, took_hindering}
use Rattle.rst_transform_names.proofs.ids.Ids.take.Goals as goal

pub returns-in_ok-insert-in-None : goal.returns-in_ok-insert-in-None
returns-in_ok-insert-in-None c =
    let old = c.args.self.now in
    let id = string_bytes c.args.id in
    let none : id_number id ≡ None = ap id_number (sym c.as_str.ensures.value) ∙ c.in-None.ensures in
    let was = was_there _ _ c.in_ok-insert-in-None.ensures.added in
    (ap (taken_by old id) none ∙ was, took_named old _ id none (added old.named c.insert.new.self id c.in_ok-insert-in-None.ensures.updates) refl refl)

pub returns-in_ok-insert-in-Some : goal.returns-in_ok-insert-in-Some
returns-in_ok-insert-in-Some c =
    let old = c.args.self.now in
    let id = string_bytes c.args.id in
    let read : id_number id ≡ Some (c.in-Some.base.now, c.in-Some.number) = ap id_number (sym c.as_str.ensures.value) ∙ c.in-Some.ensures in
    let was = was_there _ _ c.in_ok-insert-in-Some.ensures.added in
    let is_later = lt-leb c.in-Some.number (last_number old c.in-Some.base.now) (omega (arith, c.last_number.ensures, c.if-number-from.false)) in
    (ap (taken_by old id) read ∙ rw is_later was, took_hindering old _ id c.in-Some.base.now c.in-Some.number read (added old.hindering c.insert-in-Some.new.self id c.in_ok-insert-in-Some.ensures.updates) refl refl)
