-- What holds of the members of a run: something of each, given the first.
use Rattle.std.proofs.Common.{◌≡◌, List, [], ◌∷◌, Option, None, Some, refl}
use Rattle.std.specs.List.{AllByRecursion}
use Rattle.std.specs.Option.{option_map_or}
use Rattle.rst_tree_laws.proofs.Lists.{all_append}
use Rattle.rst_block_state.specs.Runs.{Run, alone, joined_by, run_members, runs_from, runs}

module _ {A G : Type 0} (begins : A → G) (joins : G → A → Option G) (P : A → Type 0) (Q : A → A → Type 0) (begun : (x : A) → P x → Q x x) (joined : (first x : A) (g next : G) → joins g x ≡ Some next → P x → Q first x) where
  abbrev pub OfRun : Run A → Type 0
  OfRun run = AllByRecursion (Q run.first) (run_members run)

  from_low : (g : G) (run : Run A) (xs : List A) → OfRun run → AllByRecursion P xs → AllByRecursion OfRun (runs_from begins joins g run xs)
  from_low g run [] h k = (h, tt)
  from_low g run (x ∷ xs) h k =
      by (joins g x) refl (λ next q. from_low next (joined_by run x) xs (h.0, all_append (Q run.first) run.others (x ∷ []) h.1 (q, tt)) k.1) (from_low (begins x) (alone x) xs (begun x k.0, tt) k.1)
    where
      by : (o : Option G) → joins g x ≡ o → ((next : G) → Q run.first x → AllByRecursion OfRun (runs_from begins joins next (joined_by run x) xs)) → AllByRecursion OfRun (runs_from begins joins (begins x) (alone x) xs)
          → AllByRecursion OfRun (option_map_or (λ next. runs_from begins joins next (joined_by run x) xs) o (run ∷ runs_from begins joins (begins x) (alone x) xs))
      by None e goes starts = (h, starts)
      by (Some next) e goes starts = goes next (joined run.first x g next e k.0)

  pub runs_low : (xs : List A) → AllByRecursion P xs → AllByRecursion OfRun (runs begins joins xs)
  runs_low [] h = tt
  runs_low (x ∷ xs) h = from_low (begins x) (alone x) xs (begun x h.0, tt) h.1
