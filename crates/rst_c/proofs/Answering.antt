-- What a text means to the program and to the library, and what is made of it.
use Rattle.std.proofs.Common.{◌≡◌, ◌≤◌, ◌∙◌, ℕ, List, [], ◌++◌, Option, Some, None, Result, Ok, Err, true, false, length, refl, sym, ap, inl, inr, subst}
use Rattle.std.proofs.lemmas.Bool.{le-ltb, false_from_ne_true}
use Rattle.std.proofs.lemmas.Str.{IsUtf8-from_is_utf8, is_utf8-from_IsUtf8}
use Rattle.std.specs.Prelude.{nat_lt, if◌then◌else◌}
use Rattle.std.specs.Result.{IsErrAnd}
use Rattle.std.specs.Str.{IsUtf8, is_utf8}
use Rattle.rst_c.specs.Answers.{left_of, left_of_read, left_of_text, made_by, made_of, needs_memory, print_wanted, wanted_of, Finds, MakesWanted}
use Rattle.rst_c.specs.declared.answer.Made.{Made}
use Rattle.rst_c.specs.declared.answer.Refusal.{Refusal}
use Rattle.rst_c.specs.declared.answer.Refusal.TheVariants.{Source, Text}
use Rattle.rst_settings.specs.Profile.{profile_of}
use Rattle.rst_settings.specs.declared.Settings.{Settings}
use Rattle.rst_text.specs.Text.{text_of}
use Rattle.rst_tree.specs.declared.node.Node.{Node}
use Rattle.rst_tree.specs.declared.note.Note.{Note}
use Rattle.rst2pseudoxml_options.specs.declared.format.Format.TheVariants.{PseudoXml}
use Rattle.rst_transform.specs.declared.finishing.Finished.{Finished}
use Rattle.rst_transform.specs.Finishing.{leaves}
use Rattle.rst2pseudoxml_run.specs.Reading.{held, lines_under, read_of, IsReadOf, Reads}
use Rattle.rst2pseudoxml_run.specs.RunResult.{Parts, parts_of, result_of, result_of_read, result_of_text}
use Rattle.rst2pseudoxml_run.specs.declared.end.End.{End}
use Rattle.rst2pseudoxml_run.specs.declared.end.End.TheVariants.{Done, Read, TooLong, NotUtf8, TooDeep, NoMemory, WriteErr, WriteOut}

-- memory is needed where a text isn't too long
module _ (makes : Node × List Note → Parts) (settings : Settings) (bytes : List ℕ) where
  read_needs : (read : Result (Node × ℕ) ℕ) → needs_memory (made_by makes (left_of_read settings read)) ≡ true
  read_needs (Ok read) = refl
  read_needs (Err line) = refl

  text_needs : (text : Option (List ℕ)) → needs_memory (made_by makes (left_of_text settings bytes text)) ≡ true
  text_needs None = refl
  text_needs (Some text) = read_needs (read_of (profile_of settings) (lines_under settings text))

module _ (makes : Node × List Note → Parts) (settings : Settings) (bytes : List ℕ) where
  short_needs : length bytes ≤ 16777216 → needs_memory (made_by makes (left_of settings bytes)) ≡ true
  short_needs short = rw (le-ltb 16777216 (length bytes) short) (text_needs makes (held settings (text_of bytes)) bytes (text_of bytes))

  -- a call makes nothing of a text of which no document was found
  pub nothing_made : (end : End) → Finds settings bytes (Err end) → MakesWanted (made_by makes (left_of settings bytes)) (Err (Text end))
  nothing_made NoMemory short = inr (refl, short_needs short)
  nothing_made TooLong is = inl (sym (ap (made_by makes) is))
  nothing_made (NotUtf8 at) is = inl (sym (ap (made_by makes) is))
  nothing_made (TooDeep line) is = inl (sym (ap (made_by makes) is))
  nothing_made Read is = inl (sym (ap (made_by makes) is))
  nothing_made (Done status) is = inl (sym (ap (made_by makes) is))
  nothing_made (WriteErr done) is = inl (sym (ap (made_by makes) is))
  nothing_made (WriteOut done) is = inl (sym (ap (made_by makes) is))

-- the program prints what is left of a text
module _ (settings : Settings) (source bytes : List ℕ) where
  abbrev pub shows : Node × List Note → Parts
  shows left = parts_of PseudoXml settings source left.0 left.1

  read_wanted : (read : Result (Node × ℕ) ℕ) → wanted_of (result_of_read PseudoXml (profile_of settings) settings source read) ≡ made_by shows (left_of_read settings read)
  read_wanted (Ok read) = refl
  read_wanted (Err line) = refl

  text_wanted : (text : Option (List ℕ)) → wanted_of (result_of_text PseudoXml (profile_of settings) settings source bytes text) ≡ made_by shows (left_of_text settings bytes text)
  text_wanted None = refl
  text_wanted (Some text) = read_wanted (read_of (profile_of settings) (lines_under settings text))

module _ (settings : Settings) (source bytes : List ℕ) where
  left_wanted : wanted_of (result_of PseudoXml (profile_of settings) settings source bytes) ≡ made_by (shows settings source bytes) (left_of settings bytes)
  left_wanted =
      elim (nat_lt 16777216 (length bytes)) as (λ b. wanted_of (if b then Err TooLong else result_of_text PseudoXml (profile_of settings) (held settings (text_of bytes)) source bytes (text_of bytes))
      ≡ made_by (shows settings source bytes) (if b then Err TooLong else left_of_text (held settings (text_of bytes)) bytes (text_of bytes))) [ true ↦ refl | false ↦ text_wanted (held settings (text_of bytes)) source bytes (text_of bytes) ]

  -- what is wanted of a print, where the source is UTF-8 and where it isn't
  wanted_of_text : IsUtf8 source → print_wanted (Some settings) source bytes ≡ made_by (shows settings source bytes) (left_of settings bytes)
  wanted_of_text utf8 = rw (is_utf8-from_IsUtf8 source utf8) left_wanted

  pub source_refused : (IsUtf8 source → ⊥) → MakesWanted (print_wanted (Some settings) source bytes) (Err Source)
  source_refused refuted = inl (rw (false_from_ne_true (is_utf8 source) (λ is. refuted (IsUtf8-from_is_utf8 source is))) refl)

  pub text_refused : (end : End) → IsUtf8 source → Finds settings bytes (Err end) → MakesWanted (print_wanted (Some settings) source bytes) (Err (Text end))
  text_refused end utf8 finds = subst (λ w. MakesWanted w (Err (Text end))) (sym (wanted_of_text utf8)) (nothing_made (shows settings source bytes) settings bytes end finds)

  made_of_left : (document : Node) (notes : List Note) → IsUtf8 source → left_of settings bytes ≡ Ok (document, notes) → print_wanted (Some settings) source bytes ≡ Ok (parts_of PseudoXml settings source document notes)
  made_of_left document notes utf8 left = wanted_of_text utf8 ∙ ap (made_by (shows settings source bytes)) left

  pub text_printed : (document : Node) (notes : List Note) (same_source old_out old_err out err : List ℕ) (status : ℕ) → IsUtf8 source → left_of settings bytes ≡ Ok (document, notes)
      → same_source ≡ source → old_out ≡ [] → old_err ≡ []
      → out ≡ old_out ++ (parts_of PseudoXml settings same_source document notes).out → err ≡ old_err ++ (parts_of PseudoXml settings same_source document notes).err
      → status ≡ (parts_of PseudoXml settings same_source document notes).status → MakesWanted (print_wanted (Some settings) source bytes) (Ok (record { out = out; err = err; status = status }))
  text_printed document notes same_source old_out old_err out err status utf8 left same no_out no_err out_is err_is status_is =
      inl (sym (made_of_left document notes utf8 left ∙ rw (out_is, err_is, status_is, no_out, no_err, same) refl))

  pub memory_gone : (document : Node) (notes : List Note) → IsUtf8 source → left_of settings bytes ≡ Ok (document, notes) → MakesWanted (print_wanted (Some settings) source bytes) (Err (Text NoMemory))
  memory_gone document notes utf8 left = inr (refl, ap needs_memory (made_of_left document notes utf8 left))

-- what a fault that is passed on makes
pub passed_on : (result : Result Made Refusal) (end : End) → IsErrAnd result (λ refusal. refusal ≡ Text end) → made_of result ≡ Err (Text end)
passed_on (Ok made) end is = absurd is
passed_on (Err refusal) end is = ap Err is

-- what is left of the document that is read of a text
left_found : (settings : Settings) (bytes : List ℕ) (text : Option (List ℕ)) (read : Node × ℕ) (left : Node × List Note)
    → IsReadOf (profile_of settings) settings text (Ok read) → leaves read.1 (profile_of settings) settings read.0 ≡ left → left_of_text settings bytes text ≡ Ok left
left_found settings bytes None read left none same = absurd none
left_found settings bytes (Some text) read left is same = ap (left_of_read settings) is ∙ ap Ok same

-- the line at which blocks are nested too deeply in a text
deep_found : (settings : Settings) (bytes : List ℕ) (text : Option (List ℕ)) (line : ℕ) → IsReadOf (profile_of settings) settings text (Err line)
    → left_of_text settings bytes text ≡ Err (TooDeep line)
deep_found settings bytes None line none = absurd none
deep_found settings bytes (Some text) line is = ap (left_of_read settings) is

-- what was made of a text that isn't too long, or why nothing was
pub found : (settings : Settings) (bytes : List ℕ) (result : Result Finished End) → length bytes ≤ 16777216 → Reads (profile_of settings) settings bytes result → Finds settings bytes result
found settings bytes (Ok finished) short ((read, is, same), highest, few) =
    let left = left_found (held settings (text_of bytes)) bytes (text_of bytes) read (finished.tree, finished.notes.items) is same in
    (rw (le-ltb 16777216 (length bytes) short) left, highest, few)
found settings bytes (Err NoMemory) short h = short
found settings bytes (Err (NotUtf8 at)) short (none, is) =
    let left = ap (left_of_text (held settings (text_of bytes)) bytes) none ∙ ap (λ (n : ℕ). Err (NotUtf8 n)) (sym is) in rw (le-ltb 16777216 (length bytes) short) left
found settings bytes (Err (TooDeep line)) short h =
    let left = deep_found (held settings (text_of bytes)) bytes (text_of bytes) line h in rw (le-ltb 16777216 (length bytes) short) left
found settings bytes (Err TooLong) short h = absurd h
found settings bytes (Err Read) short h = absurd h
found settings bytes (Err (Done status)) short h = absurd h
found settings bytes (Err (WriteErr done)) short h = absurd h
found settings bytes (Err (WriteOut done)) short h = absurd h
