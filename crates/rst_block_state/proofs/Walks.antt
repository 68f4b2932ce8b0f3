-- Runs from left to right: a walk that keeps one run open gives what the runs give. It holds for any things and any rule of joining.
use Rattle.std.proofs.Common.{◌≡◌, ℕ, List, [], ◌∷◌, ◌++◌, Option, Some, None, sym, ◌∙◌, ap, append-nil}
use Rattle.std.specs.Option.{option_map_or}
use Rattle.rst_block_state.specs.Numbered.{Numbered, then_read, ◌>>=◌, just, flat_each, before}
use Rattle.rst_block_state.specs.Runs.{Run, alone, joined_by, run_members, runs_from}
use Rattle.rst_block_state.proofs.NumberedLemmas.{same_after, after_after, then_just, flat_each-push}

-- a run: what each of its members gives, and then what they are together
abbrev pub run_by : {A I : Type 0} → (A → Numbered (List I)) → (Run A → List I → Numbered (List I)) → Run A → Numbered (List I)
run_by piece ended run = do
  items ← flat_each piece (run_members run)
  ended run items

-- what is still to come of some things after an open run whose members gave these items, where `joining` decides what joins it
abbrev pub walk_from : {A G I : Type 0} → (A → G) → (G → A → Option G) → (A → Numbered (List I)) → (Run A → List I → Numbered (List I))
    → G → Run A → List I → List A → Numbered (List I)
walk_from begins joins piece ended joining run items [] = ended run items
walk_from begins joins piece ended joining run items (x ∷ xs) = option_map_or
    (λ next. piece x >>= λ more. walk_from begins joins piece ended next (joined_by run x) (items ++ more) xs)
    (joins joining x)
    (ended run items >>= λ whole. piece x >>= λ more. before whole (walk_from begins joins piece ended (begins x) (alone x) more xs))

pub walk_is : {A G I : Type 0} (begins : A → G) (joins : G → A → Option G) (piece : A → Numbered (List I)) (ended : Run A → List I → Numbered (List I))
    (joining : G) (run : Run A) (xs : List A) (n : ℕ)
    → (flat_each piece (run_members run) >>= λ items. walk_from begins joins piece ended joining run items xs) n ≡ flat_each (run_by piece ended) (runs_from begins joins joining run xs) n
walk_is begins joins piece ended joining run [] n =
    same_after (flat_each piece (run_members run) n) (λ items. ended run items) (λ items. ended run items >>= λ whole. just (whole ++ []))
    (λ items k. sym (same_after (ended run items k) (λ whole. just (whole ++ [])) just (λ whole j. ap (λ items. just items j) (append-nil whole)) ∙ then_just (ended run items k)))
    ∙ sym (after_after (flat_each piece (run_members run) n) (λ items. ended run items) (λ whole. flat_each (run_by piece ended) [] >>= λ others. just (whole ++ others)))
walk_is begins joins piece ended joining run (x ∷ xs) n =
    elim (joins joining x) as (λ o.
    (flat_each piece (run_members run) >>= λ items. option_map_or
    (λ next. piece x >>= λ more. walk_from begins joins piece ended next (joined_by run x) (items ++ more) xs) o
    (ended run items >>= λ whole. piece x >>= λ more. before whole (walk_from begins joins piece ended (begins x) (alone x) more xs))) n
    ≡ flat_each (run_by piece ended) (option_map_or (λ next. runs_from begins joins next (joined_by run x) xs) o (run ∷ runs_from begins joins (begins x) (alone x) xs)) n) [
      | Some next ↦
          sym (flat_each-push piece (run_members run) x (λ items. walk_from begins joins piece ended next (joined_by run x) items xs) n)
          ∙ walk_is begins joins piece ended next (joined_by run x) xs n
      | None ↦
          same_after (flat_each piece (run_members run) n)
          (λ items. ended run items >>= λ whole. piece x >>= λ more. before whole (walk_from begins joins piece ended (begins x) (alone x) more xs))
          (λ items. ended run items >>= λ whole. flat_each (run_by piece ended) (runs_from begins joins (begins x) (alone x) xs) >>= λ others. just (whole ++ others))
          (λ items k. same_after (ended run items k)
          (λ whole. piece x >>= λ more. before whole (walk_from begins joins piece ended (begins x) (alone x) more xs))
          (λ whole. flat_each (run_by piece ended) (runs_from begins joins (begins x) (alone x) xs) >>= λ others. just (whole ++ others))
          (λ whole j.
          sym (after_after (piece x j) (λ more. walk_from begins joins piece ended (begins x) (alone x) more xs) (λ others. just (whole ++ others)))
          ∙ ap (then_read (λ others. just (whole ++ others)))
          (sym (flat_each-push piece [] x (λ more. walk_from begins joins piece ended (begins x) (alone x) more xs) j)
          ∙ walk_is begins joins piece ended (begins x) (alone x) xs j)))
          ∙ sym (after_after (flat_each piece (run_members run) n) (λ items. ended run items)
          (λ whole. flat_each (run_by piece ended) (runs_from begins joins (begins x) (alone x) xs) >>= λ others. just (whole ++ others)))
    ]
