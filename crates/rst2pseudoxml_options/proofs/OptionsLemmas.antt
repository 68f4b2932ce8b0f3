-- What each way out of `options` implies for the words.
use Rattle.std.proofs.Common.{◌≡◌, ◌≢◌, ◌⊎◌, inl, inr, Bool, true, false, List, [], ◌∷◌, Option, Result, Ok, Err, IsErrAnd, refl, ap, ◌∙◌, subst, sym, ◌||◌, codes}
use Rattle.std.specs.declared.string.String.{String}
use Rattle.clap.specs.Words.{IsAmong, Kinds, Text, first_of}
use Rattle.clap.specs.declared.error.kind.ErrorKind.{ErrorKind}
use Rattle.clap.specs.declared.error.kind.ErrorKind.TheVariants.{OutOfMemory}
use Rattle.rst_settings.specs.declared.Settings.{Settings}
use Rattle.rst2pseudoxml_options.specs.declared.fault.OptionFault.{OptionFault}
use Rattle.rst2pseudoxml_options.specs.declared.fault.OptionFault.TheVariants.{Usage, NoMemory}
use Rattle.rst2pseudoxml_options.specs.Command.{fault_of, faults_at, rows_at}
use Rattle.rst2pseudoxml_options.specs.Options.{Chooses, choice_of, is_dashed, options_of, refuses, with_source_operand}
use Rattle.rst2pseudoxml_options.proofs.CommandLemmas.{some_kind}

refused-by : (kinds : Kinds) (words : List Text) → kinds ≢ [] → faults_at words ≡ kinds → options_of words ≡ Err Usage
unfolding options_of
refused-by [] words h e = absurd (h refl)
refused-by (k ∷ ks) words h e = rw e refl

or-true : (b : Bool) → (b || true) ≡ true
or-true true = refl
or-true false = refl

-- words that `clap` refuses are misused
pub refused : (words : List Text) → faults_at words ≢ [] → options_of words ≡ Err Usage
refused words h = refused-by (faults_at words) words h refl

-- and those with a SOURCE that begins with a hyphen
pub dashed : (words : List Text) → is_dashed (first_of (codes "source") (rows_at words)) ≡ true → options_of words ≡ Err Usage
unfolding options_of
dashed words h = rw (h, or-true (refuses (faults_at words)))

-- all others choose what their values do
pub taken : (words : List Text) → faults_at words ≡ [] → is_dashed (first_of (codes "source") (rows_at words)) ≡ false → options_of words ≡ with_source_operand (first_of (codes "source") (rows_at words)) (choice_of (rows_at words))
unfolding options_of
taken words none plain = rw (none, plain)

-- an error that `?` passes on, of `clap`
pub chooses-misused : {A : Type 0} (words : List Text) (k : ErrorKind) (r : Result (Settings × Option (String A)) OptionFault) → IsErrAnd r (λ fault. fault ≡ fault_of k) → (k ≡ OutOfMemory) ⊎ IsAmong k (faults_at words) → Chooses words r
chooses-misused words k (Ok answer) same h = absurd same
chooses-misused {A} words k (Err fault) same (inl memory) = subst (λ (f : OptionFault). Chooses {A = A} words (Err f)) (sym (same ∙ ap fault_of memory)) tt
chooses-misused {A} words OutOfMemory (Err fault) same (inr h) = subst (λ (f : OptionFault). Chooses {A = A} words (Err f)) (sym same) tt
chooses-misused {A} words _ (Err fault) same (inr h) = subst (λ (f : OptionFault). Chooses {A = A} words (Err f)) (sym same) (refused words (some_kind _ (faults_at words) h))

-- and of the values
pub chooses-fault : {A : Type 0} (words : List Text) (fault : OptionFault) (r : Result (Settings × Option (String A)) OptionFault) → IsErrAnd r (λ e. e ≡ fault) → options_of words ≡ Err fault → Chooses words r
chooses-fault words fault (Ok answer) same h = absurd same
chooses-fault words fault (Err NoMemory) same h = tt
chooses-fault words fault (Err _) same h = h ∙ ap Err (sym same)
