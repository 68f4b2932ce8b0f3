-- What is left of a document: nothing below the report level, and no message after one that halts.
use Rattle.std.proofs.Common.{◌≡◌, ◌∙◌, ◌-◌, ◌||◌, Bool, true, false, List, [], ◌∷◌, length, suc, take, refl, ap, arith}
use Rattle.std.specs.Prelude.{if◌then◌else◌}
use Rattle.rst_settings.specs.declared.Threshold.{Threshold}
use Rattle.rst_tree.specs.declared.note.Note.{Note}
use Rattle.rst_transform_messages.specs.Messages.{halts, has_halt, is_number_reported, unnumbered_notes, until_halt, EndsAtHalt}
use Rattle.rst_transform_messages.proofs.Showing.{filtered_reported}
use Rattle.rst_transform_names.specs.Registering.{registration}
use Rattle.rst_transform.specs.Finishing.{all_messages, sectioned}
use Rattle.rst_transform.specs.Law.{ShowsWhatIsAsked}

length-less : {A : Type 0} (more : List A) → suc (suc (length more)) - 1 ≡ suc (suc (length more) - 1)
length-less more = omega arith

-- messages that end at a halt, after one that doesn't halt
one_more : (halt : Threshold) (note : Note) (rest : List Note) → halts halt note ≡ false → EndsAtHalt halt rest → EndsAtHalt halt (note ∷ rest)
one_more halt note [] runs ends = refl
one_more halt note (next ∷ more) runs ends = ap (λ n. has_halt halt (take n (note ∷ next ∷ more))) (length-less more) ∙ ap (λ b. b || has_halt halt (take (length (next ∷ more) - 1) (next ∷ more))) runs ∙ ends

ends_at_halt : (halt : Threshold) (notes : List Note) → EndsAtHalt halt (until_halt halt notes)
ends_at_halt halt [] = refl
ends_at_halt halt (note ∷ more) = by (halts halt note) refl (ends_at_halt halt more)
  where
    by : (b : Bool) → halts halt note ≡ b → EndsAtHalt halt (until_halt halt more) → EndsAtHalt halt (note ∷ (if b then [] else until_halt halt more))
    by true is ends = refl
    by false is ends = one_more halt note (until_halt halt more) is ends

pub reported_messages : ShowsWhatIsAsked
reported_messages messages profile settings document =
    let done = sectioned messages profile settings (registration messages document) in
    let all = all_messages settings (registration messages document) done.1.reports in
    (filtered_reported settings.report (is_number_reported settings.report all) done.0.children, ends_at_halt settings.halt (unnumbered_notes all))
