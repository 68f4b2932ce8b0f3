-- What is known beside the document between two transforms. No rule of markup: what transforms do is a function of this and of the document.
use Rattle.std.specs.Prelude.{◌≡◌, ℕ, List, Option}
use Rattle.rst_transform_names.specs.declared.names.NameEntry.{NameEntry}
use Rattle.rst_transform_names.specs.Ids.{AreTaken}
use Rattle.rst_transform_names.specs.Names.{AreRegistered}
use Rattle.rst_transform_work.specs.declared.context.Context.{Context}
use Rattle.rst_transform_work.specs.declared.report.Report.{Report}

-- the ids that are taken, what is known of each name, the messages of the transforms so far, the number of the first of these, and how many elements
-- were registered
pub record Known : Type 0 where
  pub ids : List (List ℕ)
  pub names : List ℕ → Option NameEntry
  pub reports : List Report
  pub first_number : ℕ
  pub serials : ℕ

-- a context holds what is known
pub record Holds (context : Context) (known : Known) : Type 0 where
  pub ids : AreTaken context.ids known.ids
  pub names : AreRegistered context.names known.names
  pub reports : context.reports.items ≡ known.reports
  pub first_number : context.first_number ≡ known.first_number
  pub serials : context.serials ≡ known.serials

-- what a call returns is what a function makes of what is known before it, and afterwards its context holds what is known then
abbrev pub Makes : {A : Type 0} → (Known → A × Known) → Context → Context → A → Type 0
Makes made before after result =
    (known : Known) → Holds before known → let done = made known in (result ≡ done.0) × Holds after done.1
