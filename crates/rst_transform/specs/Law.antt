-- Laws, which a reader of the definitions may pass over. No rule of markup: they follow from the definitions.
use Rattle.std.specs.Prelude.{◌≡◌, ℕ, true}
use Rattle.rst_settings.specs.Profile.{Profile}
use Rattle.rst_settings.specs.declared.Settings.{Settings}
use Rattle.rst_tree.specs.declared.node.Node.{Node}
use Rattle.rst_transform_messages.specs.Messages.{EndsAtHalt}
use Rattle.rst_transform_messages.specs.Reported.{are_all_reported_in}
use Rattle.rst_transform.specs.Finishing.{leaves}

-- no message in what is left of a document is below the report level, and no message but the last halts the run
abbrev pub ShowsWhatIsAsked : Type 0
ShowsWhatIsAsked =
    (messages : ℕ) (profile : Profile) (settings : Settings) (document : Node)
    → let left = leaves messages profile settings document in (are_all_reported_in settings.report left.0 ≡ true) × EndsAtHalt settings.halt left.1
