-- The profile that the program ran under at first, and the documents that are the same under the present one. No rule of markup: it is
-- what the law on that is about.
use Rattle.std.specs.Prelude.{◌≡◌, ◌⊎◌, ℕ, false, List, Option, None, Some, Ok, Err}
use Rattle.rst2pseudoxml_options.specs.declared.format.Format.{Format}
use Rattle.rst_settings.specs.Profile.{Profile, profile_of}
use Rattle.rst_settings.specs.declared.Settings.{Settings}
use Rattle.rst_text.specs.Text.{text_of}
use Rattle.rst_tree.specs.Nodes.{nodes_of}
use Rattle.rst_tree.specs.declared.node.Node.{Node}
use Rattle.rst_transform_docinfo.specs.Docinfo.{leading_list}
use Rattle.rst_transform_names.specs.Registering.{registration}
use Rattle.rst_transform_work.specs.declared.document.Document.{Document}
use Rattle.rst_transform.specs.Finishing.{document_at_first, known_at_first, titled_first}
use Rattle.rst2pseudoxml_run.specs.CodeCalls.{IsWithoutCode}
use Rattle.rst2pseudoxml_run.specs.declared.end.End.TheVariants.{TooDeep}
use Rattle.rst2pseudoxml_run.specs.Reading.{held, lines_under, IsReadOf}
use Rattle.rst2pseudoxml_run.specs.RunResult.{result_of}

-- the profile that the program ran under at first
abbrev pub first_profile : Profile
first_profile = record { nesting = 100; line_limit = 10000; code = false; docinfo = false }

-- The first profile is the present one where lines may have 10,000 characters and bibliographic fields aren't looked for, but blocks nest 100
-- levels, and `code` is no directive.
abbrev pub IsFirstProfile : Type 0
IsFirstProfile =
    (settings : Settings) → settings.limit ≡ 10000 → settings.info ≡ false
    → first_profile ≡ record (profile_of settings) { nesting = 100; code = false }

-- no line of a text calls program code
abbrev pub CallsNoCode : Settings → Option (List ℕ) → Type 0
CallsNoCode settings None = Unit {0}
CallsNoCode settings (Some text) = IsWithoutCode (lines_under settings text)

-- what a parsed document, whose messages were given `messages` numbers, has become after the transform of its title
abbrev pub titled_of : ℕ → Settings → Node → Document
titled_of messages settings document =
    let registered = registration messages document in (titled_first settings (document_at_first settings registered) (known_at_first messages registered)).0

-- the field list of a document that would become its bibliography, if there is one
abbrev pub leading_field_list : Document → Option Node
leading_field_list document = leading_list (nodes_of document.children)

-- there is none in the document that is read of a text, after its title
abbrev pub HasNoList : Profile → Settings → Option (List ℕ) → Type 0
HasNoList profile settings text =
    (read : Node × ℕ) → IsReadOf profile settings text (Ok read) → leading_field_list (titled_of read.1 settings read.0) ≡ None

-- no block is nested too deeply: that isn't the result under a profile
abbrev pub NestsWithin : Format → Profile → Settings → List ℕ → List ℕ → Type 0
NestsWithin format profile settings source bytes = (line : ℕ) → result_of format profile settings source bytes ≡ Err (TooDeep line) → ⊥

-- The first profile and the present one have the same result where lines may have 10,000 characters, no line calls program code, no block
-- is nested too deeply for the first one, and bibliographic fields aren't looked for or no field list leads the document.
abbrev pub ProfilesAgree : Type 0
ProfilesAgree =
    (format : Format) (settings : Settings) (source bytes : List ℕ)
    → settings.limit ≡ 10000
    → CallsNoCode (held settings (text_of bytes)) (text_of bytes)
    → NestsWithin format first_profile settings source bytes
    → (settings.info ≡ false) ⊎ HasNoList first_profile (held settings (text_of bytes)) (text_of bytes)
    → result_of format first_profile settings source bytes ≡ result_of format (profile_of settings) settings source bytes
