-- Runs that read the same bytes have one end.
use Rattle.std.proofs.Common.{◌≡◌, ◌∙◌, ℕ, ◌<◌, ◌++◌, true, List, [], length, refl, sym, ap, subst, arith}
use Rattle.std.specs.Prelude.{Option, Some, None, Result, Ok, Err}
use Rattle.std.specs.Io.KnownBytes.{Appends, Consumes, IsAtEnd, Keeps}
use Rattle.std.proofs.lemmas.List.{append-nil, length-append}
use Rattle.rst2pseudoxml_options.specs.declared.format.Format.{Format}
use Rattle.rst_settings.specs.Profile.{Profile}
use Rattle.rst_settings.specs.declared.Settings.{Settings}
use Rattle.rst_text.specs.Counted.{Stream, Gains}
use Rattle.rst2pseudoxml_run.specs.declared.end.End.{End}
use Rattle.rst2pseudoxml_run.specs.declared.end.End.TheVariants.{Done, TooLong, NotUtf8, TooDeep}
use Rattle.rst2pseudoxml_run.specs.OneEnd.{is_own, Comes, EndAlike}
use Rattle.rst2pseudoxml_run.specs.Headline.{Ends}
use Rattle.rst2pseudoxml_run.specs.RunResult.{result_of, Parts}
use Rattle.rst2pseudoxml_run.proofs.RunResultLemmas.{long_result, too_long}

-- what was handed out of known bytes is a prefix of them
handed : (before after : Option (List ℕ)) (text bytes : List ℕ) → before ≡ Some text → Consumes before after bytes → (rest : List ℕ) × (text ≡ bytes ++ rest) × (IsAtEnd after → rest ≡ [])
handed None after text bytes e h = absurd (cc)
handed (Some xs) None text bytes e h = absurd h
handed (Some xs) (Some ys) text bytes e h = let same : xs ≡ text = cc in (ys, sym same ∙ h, λ ends. ends)

-- all of them, where the reader is at its end
all_handed : (before after : Option (List ℕ)) (text bytes : List ℕ) → before ≡ Some text → Consumes before after bytes → IsAtEnd after → bytes ≡ text
all_handed before after text bytes e h ends =
    let prefix = handed before after text bytes e h in
    sym (append-nil bytes) ∙ ap (λ rest. bytes ++ rest) (sym (prefix.2 ends)) ∙ sym prefix.1

-- a writer that nothing was written to
gains_nothing : (before after : Option (List ℕ)) → Keeps before after → Appends before after []
gains_nothing None after h = tt
gains_nothing (Some xs) None h = h
gains_nothing (Some xs) (Some ys) h = h ∙ sym (append-nil xs)

-- what is written of a result
abbrev Shows : Result Parts End → Stream → Stream → End → Type 0
Shows (Ok parts) out err end = (end ≡ Done parts.status) × Gains out parts.out × Gains err parts.err
Shows (Err refusal) out err end = (end ≡ refusal) × Gains out [] × Gains err []

module _ (format : Format) (profile : Profile) (settings : Settings) (source text : List ℕ) where
  abbrev RunResult : Stream → Stream → End → Type 0
  RunResult out err end = Shows (result_of format profile settings source text) out err end

  -- what is written where the bytes that were handed out are all
  of_all : (bytes : List ℕ) (result : Result Parts End) (out err : Stream) (end : End) → bytes ≡ text → result_of format profile settings source bytes ≡ result → Shows result out err end → RunResult out err end
  of_all bytes result out err end same is shows = subst (λ r. Shows r out err end) (sym is ∙ ap (result_of format profile settings source) same) shows

  written : (input out err : Stream) (bytes : List ℕ) (end : End) → input.before ≡ Some text → Consumes input.before input.after bytes → is_own end ≡ true → Ends (result_of format profile settings source bytes) input out err end → RunResult out err end
  written input out err bytes (Done status) e h own ends =
      of_all bytes (Ok ends.1) out err (Done status) (all_handed input.before input.after text bytes e h ends.0.0) ends.2 (ap Done ends.3.0, ends.3.2.0, ends.3.1.0)
  written input out err bytes (NotUtf8 at) e h own ends =
      of_all bytes (Err (NotUtf8 at)) out err (NotUtf8 at) (all_handed input.before input.after text bytes e h ends.0.0) ends.1 (refl, gains_nothing out.before out.after ends.2, gains_nothing err.before err.after ends.3)
  written input out err bytes (TooDeep line) e h own ends =
      of_all bytes (Err (TooDeep line)) out err (TooDeep line) (all_handed input.before input.after text bytes e h ends.0.0) ends.1 (refl, gains_nothing out.before out.after ends.2, gains_nothing err.before err.after ends.3)
  written input out err bytes TooLong e h own ends =
      let prefix = handed input.before input.after text bytes e h in
      let all : 16777216 < length text = omega (arith, too_long format profile settings source bytes ends.0, ap length prefix.1, length-append bytes prefix.0) in
      of_all text (Err TooLong) out err TooLong refl (long_result format profile settings source text all) (refl, gains_nothing out.before out.after ends.1, gains_nothing err.before err.after ends.2)
  written input out err bytes _ e h own ends = absurd (cc)

  alike : (result : Result Parts End) (out err also_out also_err : Stream) (end also : End) → Shows result out err end → Shows result also_out also_err also → EndAlike out err also_out also_err end also
  alike (Ok parts) out err also_out also_err end also f g =
      record { same = f.0 ∙ sym g.0; written = parts.out; reported = parts.err; out_gains = f.1; err_gains = f.2; also_out_gains = g.1; also_err_gains = g.2 }
  alike (Err refusal) out err also_out also_err end also f g =
      record { same = f.0 ∙ sym g.0; written = []; reported = []; out_gains = f.1; err_gains = f.2; also_out_gains = g.1; also_err_gains = g.2 }

  pub one_end : (input out err also_input also_out also_err : Stream) (end also : End) → Comes format profile settings source text input out err end → Comes format profile settings source text also_input also_out also_err also
      → EndAlike out err also_out also_err end also
  one_end input out err also_input also_out also_err end also f g =
      alike (result_of format profile settings source text) out err also_out also_err end also (written input out err f.headline.0 end f.holds f.headline.1 f.own f.headline.2)
      (written also_input also_out also_err g.headline.0 also g.holds g.headline.1 g.own g.headline.2)
