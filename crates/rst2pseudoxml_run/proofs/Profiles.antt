-- The first profile and the present one have the same result.
use Rattle.std.proofs.Common.{◌≡◌, ◌∙◌, ◌⊎◌, inl, inr, ℕ, false, List, length, refl, sym, ap, arith, ⊎_elim}
use Rattle.std.proofs.lemmas.Bool.{cases_lt}
use Rattle.std.specs.Prelude.{Option, Some, None, Result, Ok, Err}
use Rattle.rst_block_state.specs.Documents.{document}
use Rattle.rst2pseudoxml_options.specs.declared.format.Format.{Format}
use Rattle.rst_settings.specs.Profile.{profile_of}
use Rattle.rst_settings.specs.declared.Settings.{Settings}
use Rattle.rst_text.specs.Block.{Block}
use Rattle.rst_text.specs.Lines.{first_longer}
use Rattle.rst_text.specs.Text.{text_of}
use Rattle.rst_tree.specs.declared.node.Node.{Node}
use Rattle.rst_transform.specs.Finishing.{leaves}
use Rattle.rst2pseudoxml_run.specs.CodeCalls.{IsWithoutCode}
use Rattle.rst2pseudoxml_run.specs.declared.end.End.TheVariants.{TooDeep}
use Rattle.rst2pseudoxml_run.specs.Profiles.{first_profile, leading_field_list, titled_of, CallsNoCode, HasNoList, ProfilesAgree}
use Rattle.rst2pseudoxml_run.specs.Reading.{held, lines_under, read_by, read_of}
use Rattle.rst2pseudoxml_run.specs.RunResult.{parts_of, result_of_read, result_of_text}
use Rattle.rst2pseudoxml_run.proofs.ProfilesCalls.{calls_agree}
use Rattle.rst2pseudoxml_run.proofs.ProfilesCuts.{cells_keep, opened_keep}
use Rattle.rst2pseudoxml_run.proofs.ProfilesLevels.{documents_follow}
use Rattle.rst2pseudoxml_run.proofs.ProfilesDocinfo.{left_alike, left_without_list}
use Rattle.rst2pseudoxml_run.proofs.RunResultLemmas.{long_result, short_result}

-- what is read is a document, or is refused
read_or_refused : {A B R : Type 0} (read : Result A B) → ((one : A) → read ≡ Ok one → R) → ((line : B) → read ≡ Err line → R) → R
read_or_refused (Ok one) f g = f one refl
read_or_refused (Err line) f g = g line refl

module _ (settings : Settings) where
  -- a document without calls of program code that is read under the first profile is read alike under the present one
  document_follows : (B : Block) (r : Node × ℕ) → IsWithoutCode B → document first_profile B 0 ≡ Ok r → document (profile_of settings) B 0 ≡ Ok r
  document_follows B r free is =
      documents_follow IsWithoutCode calls_agree opened_keep cells_keep first_profile (profile_of settings) (omega arith) refl refl B 0 r free is

  -- so is the message on a line that is too long
  read_follows : (long : Option ℕ) (B : Block) (r : Node × ℕ) → IsWithoutCode B → read_by long first_profile B ≡ Ok r → read_by long (profile_of settings) B ≡ Ok r
  read_follows None B r free is = document_follows B r free is
  read_follows (Some line) B r free is = is

  -- what is read of lines of at most 10,000 characters
  lines_follow : (lines : Block) (r : Node × ℕ) → settings.limit ≡ 10000 → IsWithoutCode lines → read_of first_profile lines ≡ Ok r → read_of (profile_of settings) lines ≡ Ok r
  lines_follow lines r limit free is =
      ap (λ n. read_by (first_longer n lines) (profile_of settings) lines) limit ∙ read_follows (first_longer 10000 lines) lines r free is

  -- what is left of a document
  left : (read : Node × ℕ) → (settings.info ≡ false) ⊎ (leading_field_list (titled_of read.1 settings read.0) ≡ None)
      → leaves read.1 first_profile settings read.0 ≡ leaves read.1 (profile_of settings) settings read.0
  left read (inl off) = left_alike settings read.1 read.0 first_profile (profile_of settings) (sym off)
  left read (inr none) = left_without_list settings read.1 read.0 first_profile (profile_of settings) none

  module _ (format : Format) (source bytes : List ℕ) (limit : settings.limit ≡ 10000) where
    -- the result of lines, where they aren't refused under the first profile
    lines_alike : (lines : Block) → IsWithoutCode lines → ((line : ℕ) → read_of first_profile lines ≡ Err line → ⊥)
        → ((read : Node × ℕ) → read_of first_profile lines ≡ Ok read → (settings.info ≡ false) ⊎ (leading_field_list (titled_of read.1 settings read.0) ≡ None))
        → result_of_read format first_profile settings source (read_of first_profile lines) ≡ result_of_read format (profile_of settings) settings source (read_of (profile_of settings) lines)
    lines_alike lines free nests apart = read_or_refused (read_of first_profile lines)
        (λ read is.
        ap (result_of_read format first_profile settings source) is
        ∙ ap (λ left. Ok (parts_of format settings source left.0 left.1)) (left read (apart read is))
        ∙ sym (ap (result_of_read format (profile_of settings) settings source) (lines_follow lines read limit free is)))
        (λ line is. absurd (nests line is))

    text_alike : (text : Option (List ℕ)) → CallsNoCode settings text → ((line : ℕ) → result_of_text format first_profile settings source bytes text ≡ Err (TooDeep line) → ⊥)
        → (settings.info ≡ false) ⊎ HasNoList first_profile settings text → result_of_text format first_profile settings source bytes text ≡ result_of_text format (profile_of settings) settings source bytes text
    text_alike None free nests apart = refl
    text_alike (Some text) free nests apart = lines_alike (lines_under settings text) free
        (λ line is. nests line (ap (result_of_read format first_profile settings source) is))
        (λ read is. elim apart [ inl off ↦ inl off | inr none ↦ inr (none read is) ])

pub profiles_agree : ProfilesAgree
profiles_agree format settings source bytes limit free nests apart = ⊎_elim
    (λ long. long_result format first_profile settings source bytes long ∙ sym (long_result format (profile_of settings) settings source bytes long))
    (λ short.
    let first = short_result format first_profile settings source bytes short in
    first ∙ text_alike (held settings (text_of bytes)) format source bytes limit (text_of bytes) free (λ line is. nests line (first ∙ is)) apart ∙ sym (short_result format (profile_of settings) settings source bytes short))
    (cases_lt 16777216 (length bytes))
