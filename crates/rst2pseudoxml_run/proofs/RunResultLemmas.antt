-- Lemmas on what is printed of a finished document.
use Rattle.std.proofs.Common.{◌≡◌, ◌∙◌, ℕ, ◌<◌, ◌≤◌, List, length, Ok, Err, Result, Option, Some, None, ⊎_elim, sym, ap, subst, Vec}
use Rattle.std.proofs.lemmas.Bool.{cases_lt, cond-true, cond-false, le-ltb, lt-ltb}
use Rattle.rst2pseudoxml_options.specs.declared.format.Format.{Format}
use Rattle.rst_settings.specs.Profile.{Profile}
use Rattle.rst_settings.specs.declared.Settings.{Settings}
use Rattle.rst_text.specs.Counted.{HandsOut, IsReadOut, Stream, Untouched}
use Rattle.rst_text.specs.Text.{text_of}
use Rattle.rst_tree.specs.declared.node.Node.{Node}
use Rattle.rst_transform.specs.declared.finishing.Finished.{Finished}
use Rattle.rst2pseudoxml_run.specs.declared.end.End.{End}
use Rattle.rst2pseudoxml_run.specs.declared.end.End.TheVariants.{Done, Read, TooLong, NotUtf8, NoMemory, WriteErr, WriteOut, TooDeep}
use Rattle.rst2pseudoxml_run.specs.Headline.{Headline, Ends, IsUnread, Shows, TakesInput}
use Rattle.rst2pseudoxml_run.specs.Reading.{held, lines_under, read_of, IsMade, IsReadOf, Reads, Refuses}
use Rattle.rst2pseudoxml_run.specs.RunResult.{parts_of, result_of, result_of_read, result_of_text, Parts}

-- the result of a text, by the settings that hold in it
module _ (format : Format) (profile : Profile) (settings : Settings) (source bytes : List ℕ) where
  not_long_read : (read : Result (Node × ℕ) ℕ) → result_of_read format profile settings source read ≡ Err TooLong → ⊥
  not_long_read (Ok read) is = absurd (cc)
  not_long_read (Err line) is = absurd (cc)

  not_long_text : (text : Option (List ℕ)) → result_of_text format profile settings source bytes text ≡ Err TooLong → ⊥
  not_long_text None is = absurd (cc)
  not_long_text (Some text) is = not_long_read (read_of profile (lines_under settings text)) is

  read_result : (text : Option (List ℕ)) (read : Result (Node × ℕ) ℕ) → IsReadOf profile settings text read → result_of_text format profile settings source bytes text ≡ result_of_read format profile settings source read
  read_result None read is = absurd is
  read_result (Some text) read is = ap (result_of_read format profile settings source) is

module _ (format : Format) (profile : Profile) (settings : Settings) (source bytes : List ℕ) where
  abbrev Given : Result Parts End
  Given = result_of format profile settings source bytes

  -- the settings that hold in their text
  abbrev Held : Settings
  Held = held settings (text_of bytes)

  pub long_result : 16777216 < length bytes → Given ≡ Err TooLong
  long_result long = cond-true _ _ _ (lt-ltb 16777216 (length bytes) long)

  pub short_result : length bytes ≤ 16777216 → Given ≡ result_of_text format profile Held source bytes (text_of bytes)
  short_result short = cond-false _ _ _ (le-ltb 16777216 (length bytes) short)

  pub too_long : Given ≡ Err TooLong → 16777216 < length bytes
  too_long is =
      ⊎_elim (λ long. long) (λ short. absurd (not_long_text format profile Held source bytes (text_of bytes) (sym (short_result short) ∙ is))) (cases_lt 16777216 (length bytes))

  made_result : (finished : Finished) → length bytes ≤ 16777216 → IsMade profile Held (text_of bytes) finished → Given ≡ Ok (parts_of format settings source finished.tree finished.notes.items)
  made_result finished short made =
      short_result short ∙ read_result format profile Held source bytes (text_of bytes) (Ok made.0.0) made.0.1 ∙ ap (λ left. Ok (parts_of format settings source left.0 left.1)) made.0.2

  -- the end of a run over bytes that were refused
  refused : (input out err : Stream) (end : End) → IsReadOut input → length bytes ≤ 16777216 → Refuses profile settings bytes end → Untouched out → Untouched err → Ends Given input out err end
  refused input out err (NotUtf8 at) read short refuses no_out no_err =
      (read, short_result short ∙ ap (λ text. result_of_text format profile (held settings text) source bytes text) refuses.0 ∙ ap (λ n. Err (NotUtf8 n)) (sym refuses.1), no_out, no_err)
  refused input out err (TooDeep line) read short refuses no_out no_err =
      (read, short_result short ∙ read_result format profile Held source bytes (text_of bytes) (Err line) refuses, no_out, no_err)
  refused input out err NoMemory read short refuses no_out no_err = (no_out, no_err)
  refused input out err _ read short refuses no_out no_err = absurd refuses

  -- the end of a run whose bytes weren't all read
  unread : (input out err : Stream) (end : End) → IsUnread input bytes end → Untouched out → Untouched err → Ends Given input out err end
  unread input out err TooLong long no_out no_err = (long_result long, no_out, no_err)
  unread input out err Read failed no_out no_err = (failed, no_out, no_err)
  unread input out err NoMemory ground no_out no_err = (no_out, no_err)
  unread input out err _ ground no_out no_err = absurd ground

-- the end of a run over bytes whose result is some parts
ends_written : (result : Result Parts End) (parts : Parts) (input out err : Stream) (end : End)
    → IsReadOut input → result ≡ Ok parts → Shows parts out err end → Ends result input out err end
ends_written result parts input out err (Done status) read is shows = (read, parts, is, shows)
ends_written result parts input out err (WriteErr done) read is shows = (read, parts, is, shows)
ends_written result parts input out err (WriteOut done) read is shows = (read, parts, is, shows)
ends_written result parts input out err NoMemory read is shows = shows
ends_written result parts input out err _ read is shows = absurd shows

module _ (format : Format) (profile : Profile) (settings : Settings) (source : List ℕ) (input out err : Stream) where
  -- a run over bytes of which a document was made
  pub ends_read : {A : Type 0} (finished : Finished) (taken : Vec ℕ A) (end : End)
      → ((bytes : List ℕ) × HandsOut input bytes × TakesInput input bytes (Ok taken)) → Reads profile settings taken.items (Ok finished)
      → Shows (parts_of format settings source finished.tree finished.notes.items) out err end → Headline (result_of format profile settings source) input out err end
  ends_read finished taken end (bytes, handed, (read, same, short)) reads shows =
      let made : Reads profile settings bytes (Ok finished) = subst (λ l. Reads profile settings l (Ok finished)) same reads in
      (bytes, handed, ends_written _ _ input out err end read (made_result format profile settings source bytes finished short made) shows)

  -- one over bytes that were refused
  pub ends_refused : {A : Type 0} (taken : Vec ℕ A) (end : End) → ((bytes : List ℕ) × HandsOut input bytes × TakesInput input bytes (Ok taken)) → Refuses profile settings taken.items end
      → Untouched out → Untouched err → Headline (result_of format profile settings source) input out err end
  ends_refused taken end (bytes, handed, (read, same, short)) refuses no_out no_err =
      (bytes, handed, refused format profile settings source bytes input out err end read short (subst (λ l. Refuses profile settings l end) same refuses) no_out no_err)

  -- one whose bytes weren't all read
  pub ends_unread : (end : End) → ((bytes : List ℕ) × HandsOut input bytes × IsUnread input bytes end) → Untouched out → Untouched err
      → Headline (result_of format profile settings source) input out err end
  ends_unread end (bytes, handed, ground) no_out no_err = (bytes, handed, unread format profile settings source bytes input out err end ground no_out no_err)
