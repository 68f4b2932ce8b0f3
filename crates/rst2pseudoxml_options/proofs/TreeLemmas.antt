-- The command of `rst-tree` is one of which `clap` states all, and what each way out of `tree_options` implies for the words.
use Rattle.std.proofs.Common.{◌≡◌, ◌∙◌, inl, inr, Bool, true, ◌||◌, List, [], ◌∷◌, map, Option, option_map, Result, Ok, Err, refl, ap, string_bytes, subst, sym}
use Rattle.std.specs.Borrow.{Bor}
use Rattle.std.specs.List.{list_any}
use Rattle.std.specs.Result.{IsErrAnd}
use Rattle.std.specs.Str.{bytes_eq}
use Rattle.std.specs.declared.string.String.{String}
use Rattle.clap.specs.Values.{kind_of}
use Rattle.clap.specs.Words.{App, HasKind, HasMatchesOf, Kinds, Row, Text, fault_of as faults_of, found_of, is_simple, is_simple_and_free, matches_of, rows_of}
use Rattle.clap.specs.declared.error.Error.{Error}
use Rattle.clap.specs.declared.error.kind.ErrorKind.TheVariants.{OutOfMemory}
use Rattle.clap.specs.declared.builder.value_parser.ValueParser.TheVariants.{Names}
use Rattle.clap.specs.declared.parser.matches.ArgMatches.{ArgMatches}
use Rattle.clap.proofs.OnLiterals.{clap_on_literals}
use Rattle.rst_settings.specs.declared.Parts.{Parts}
use Rattle.rst_settings.specs.declared.Settings.{Settings}
use Rattle.rst2pseudoxml_options.specs.Options.{choice_by, choice_of}
use Rattle.rst2pseudoxml_options.specs.TreeCommand.{format_names, level_names, profile_names, tree_command, AreTests, TakesJust, Tests}
use Rattle.rst2pseudoxml_options.specs.Tree.{chosen_if, chosen_with, file_of, format_of, parts_of_profile, refusal_of, tree_options_of, Chosen, ChoosesTree, Refuses}
use Rattle.rst2pseudoxml_options.specs.Written.{placed, written_tests}
use Rattle.rst2pseudoxml_options.specs.declared.fault.OptionFault.{OptionFault}
use Rattle.rst2pseudoxml_options.specs.declared.format.Format.{Format}

-- ---- tests

any_of_all : (test : Text → Bool) (names : List (Bor Text)) → list_any (λ name. test name.now) names ≡ list_any test (map (λ name. name.now) names)
any_of_all test [] = refl
any_of_all test (name ∷ names) = ap (λ rest. test name.now || rest) (any_of_all test names)

-- a test by names
pub takes_just : (names : Bor (List (Bor Text))) → TakesJust (map (λ name. name.now) names.now) (Names names)
takes_just names text = any_of_all (λ name. bytes_eq name text) names.now

-- there are some, where memory ran out before the program made any
are_tests : AreTests written_tests
are_tests = record {
  levels = takes_just (placed (map placed level_names));
  profiles = takes_just (placed (map placed profile_names));
  formats = takes_just (placed (map placed format_names));
}

-- ---- the command

tree-simple_and_free : (tests : Tests) → is_simple_and_free (tree_command tests) ≡ true
unfolding clap_on_literals tree_command
tree-simple_and_free tests = refl

tree-simple : (tests : Tests) → is_simple (tree_command tests) ≡ true
unfolding clap_on_literals tree_command
tree-simple tests = refl

module _ (tests : Tests) (words : List Text) where
  abbrev Faults : Kinds
  Faults = faults_of (tree_command tests) words

  abbrev Rows : List Row
  Rows = matches_of (tree_command tests) words

  -- a command of this shape fails just as is described, and finds what is described
  pub tree_fails_by : (a : App) (P : Kinds → Type 0) → a ≡ tree_command tests → (is_simple_and_free a ≡ true → P (faults_of a words)) → P Faults
  tree_fails_by a P e h = subst (λ (b : App). P (faults_of b words)) e (h (ap is_simple_and_free e ∙ tree-simple_and_free tests))

  pub tree_rows_are : (a : App) (m : ArgMatches) → a ≡ tree_command tests → HasMatchesOf a words m → rows_of (found_of m) ≡ Rows
  tree_rows_are a m e h = (h (ap is_simple e ∙ tree-simple tests)).0 ∙ ap (λ (b : App). matches_of b words) e

-- ---- the ways out

module _ (words : List Text) (error : Error) where
  -- the words are refused by an error
  abbrev pub Refused : Type 0
  Refused = (tests : Tests) × AreTests tests × Refuses (tree_options_of tests words) error

  out_of_memory : (wanted : Result Chosen Kinds) → kind_of error ≡ OutOfMemory → Refuses wanted error
  out_of_memory (Ok chosen) e = inl e
  out_of_memory (Err kinds) e = inl e

  refused_by : (faults : Kinds) (rows : List Row) → HasKind faults error → Refuses (chosen_if faults rows) error
  refused_by [] rows (inl e) = out_of_memory (chosen_if [] rows) e
  refused_by [] rows (inr h) = absurd h
  refused_by (kind ∷ kinds) rows h = h

  -- memory ran out before there was a command
  pub chooses_without_memory : kind_of error ≡ OutOfMemory → Refused
  chooses_without_memory e = (written_tests, are_tests, out_of_memory (tree_options_of written_tests words) e)

  module _ (tests : Tests) (are : AreTests tests) where
    -- it ran out later
    pub chooses_out_of_memory : kind_of error ≡ OutOfMemory → Refused
    chooses_out_of_memory e = (tests, are, out_of_memory (tree_options_of tests words) e)

    -- `clap` refuses the words, or gives help or the version
    pub chooses_refused : HasKind (faults_of (tree_command tests) words) error → Refused
    unfolding tree_options_of
    chooses_refused h = (tests, are, refused_by (faults_of (tree_command tests) words) (matches_of (tree_command tests) words) h)

    -- the values have a fault
    pub chooses_faulty : (fault : OptionFault) → faults_of (tree_command tests) words ≡ [] → choice_of (matches_of (tree_command tests) words) ≡ Err fault
        → kind_of error ≡ refusal_of fault → Refused
    unfolding tree_options_of
    chooses_faulty fault none is e = (tests, are, rw (none, is) (inr (inl e)))

-- the words choose
pub chooses_all : {A : Type 0} (tests : Tests) (words : List Text) (rows : List Row) (settings : Settings) (parts : Parts) (format : Format) (source : Option (String A))
    → AreTests tests → faults_of (tree_command tests) words ≡ [] → rows ≡ matches_of (tree_command tests) words → choice_of rows ≡ Ok (choice_by settings)
    → parts ≡ parts_of_profile rows → format ≡ format_of rows → option_map string_bytes source ≡ file_of rows
    → ChoosesTree words (Ok (record settings { parts = parts }, format, source))
unfolding tree_options_of
chooses_all tests words rows settings parts format source are none same choice p f s =
    let answer : chosen_with rows (Ok (choice_by settings)) ≡ Ok (record (choice_by settings) { parts = parts }, format, option_map string_bytes source) =
    λ i. Ok (record (choice_by settings) { parts = sym p i }, sym f i, sym s i) in
    let chosen : chosen_with (matches_of (tree_command tests) words) (choice_of (matches_of (tree_command tests) words))
    ≡ Ok (record (choice_by settings) { parts = parts }, format, option_map string_bytes source) =
    ap (λ (rows : List Row). chosen_with rows (choice_of rows)) (sym same) ∙ ap (chosen_with rows) choice ∙ answer in
    (tests, are, rw none chosen)

-- an error that `?` passes on
pub of_error : {A : Type 0} (words : List Text) (P : Error → Type 0) (r : Result (Settings × Format × Option (String A)) Error) → IsErrAnd r P
    → ((error : Error) → P error → Refused words error) → ChoosesTree words r
of_error words P (Ok answer) h f = absurd h
of_error words P (Err error) h f = f error h
