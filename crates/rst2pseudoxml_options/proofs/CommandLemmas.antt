-- The command is one of which `clap` states all.
use Rattle.std.proofs.Common.{◌≡◌, ◌≢◌, ◌∙◌, true, List, [], Result, Ok, Err, IfOk, refl, ap, subst}
use Rattle.clap.specs.Words.{App, Text, FailsBy, HasMatchesOf, IsAmong, Kinds, fault_of as faults_of, found_of, is_simple, is_simple_and_free, matches_of, rows_of}
use Rattle.clap.specs.declared.error.Error.{Error}
use Rattle.clap.specs.declared.error.kind.ErrorKind.{ErrorKind}
use Rattle.clap.specs.declared.parser.matches.ArgMatches.{ArgMatches}
use Rattle.clap.proofs.OnLiterals.{clap_on_literals}
use Rattle.rst2pseudoxml_options.specs.Command.{program, faults_at, rows_at, Finds}

program-simple_and_free : is_simple_and_free program ≡ true
unfolding clap_on_literals program
program-simple_and_free = refl

program-simple : is_simple program ≡ true
unfolding clap_on_literals program
program-simple = refl

-- a command of this shape fails just as `faults_at` describes
pub fails_by : (a : App) (words : List Text) (r : Result ArgMatches Error) → a ≡ program → (is_simple_and_free a ≡ true → FailsBy (faults_of a words) r) → FailsBy (faults_at words) r
unfolding faults_at
fails_by a words r e h = subst (λ (b : App). FailsBy (faults_of b words) r) e (h (ap is_simple_and_free e ∙ program-simple_and_free))

-- and finds what `rows_at` describes
pub rows_are : (a : App) (words : List Text) (m : ArgMatches) → a ≡ program → HasMatchesOf a words m → rows_of (found_of m) ≡ rows_at words
unfolding rows_at
rows_are a words m e h = (h (ap is_simple e ∙ program-simple)).0 ∙ ap (λ (b : App). matches_of b words) e

-- a kind among these kinds: there are some
pub some_kind : (k : ErrorKind) (kinds : Kinds) → IsAmong k kinds → kinds ≢ []
some_kind k kinds h e = subst (IsAmong k) e h

-- what it answers for the words is what `Finds` describes
pub finds : (a : App) (words : List Text) (r : Result ArgMatches Error) → a ≡ program → (is_simple_and_free a ≡ true → FailsBy (faults_of a words) r) → IfOk r (HasMatchesOf a words) → Finds words r
finds a words (Ok matches) e kinds found = (fails_by a words (Ok matches) e kinds, rows_are a words matches e found)
finds a words (Err error) e kinds found = fails_by a words (Err error) e kinds
