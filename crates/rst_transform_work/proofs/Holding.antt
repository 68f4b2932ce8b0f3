-- What is known stays where a call changes the messages or the names alone.
use Rattle.std.proofs.Common.{◌≡◌, ◌∙◌, ℕ, Bool, List, [], ◌∷◌, ◌++◌, Option, Some, Ok, slice_get, slice_set, sym, ap, ap₂, subst, subst₂}
use Rattle.rst_tree.specs.TagNames.{hyphenated, tag_name}
use Rattle.rst_tree.specs.declared.attrs.Attr.{Attr}
use Rattle.rst_tree.specs.declared.note.Level.{Level}
use Rattle.rst_tree.specs.declared.tag.Tag.TheVariants.{Problematic}
use Rattle.rst_transform_names.specs.declared.ids.Ids.{Ids}
use Rattle.rst_transform_names.specs.declared.names.NameEntry.{NameEntry}
use Rattle.rst_transform_names.specs.Ids.{kind_id, AreTaken, GivesNumbered}
use Rattle.rst_transform_names.specs.Names.{AreRegistered}
use Rattle.rst_transform_work.specs.declared.context.Context.{Context}
use Rattle.rst_transform_work.specs.declared.report.Report.{Report}
use Rattle.rst_transform_work.specs.Known.{Holds, Known, Makes}
use Rattle.rst_transform_work.specs.Problematics.{own_id, problematic, problematic_attrs, problematic_of, referring_report, with_own_id}
use Rattle.rst_transform_work.specs.Reports.{next_report, report_in, reported, IsReported, KeepsRest}

-- the messages alone
pub holds_reports : (old new : Context) (known : Known) (reports : List Report) → Holds old known → KeepsRest old new → new.reports.items ≡ reports
    → Holds new (record known { reports = reports })
holds_reports old new known reports h rest is =
    let back : Holds (record old { reports = new.reports }) (record known { reports = reports }) =
    record { ids = h.ids; names = h.names; reports = is; first_number = h.first_number; serials = h.serials } in
    subst (λ c. Holds c (record known { reports = reports })) (sym rest) back

-- one more message
pub holds_reported : (level : Level) (line : ℕ) (text : List ℕ) (own : Bool) (old new : Context) (known : Known) → Holds old known → KeepsRest old new → IsReported (report_in old level line text own) old new
    → Holds new (reported level line text own known)
holds_reported level line text own old new known h rest is =
    holds_reports old new known _ h rest (is ∙ ap₂ (λ first reports. reports ++ next_report first reports level line text own ∷ []) h.first_number h.reports)

-- the names alone
pub holds_names : (old new : Context) (known : Known) (names : List ℕ → Option NameEntry) → Holds old known → new ≡ record old { names = new.names } → AreRegistered new.names names
    → Holds new (record known { names = names })
holds_names old new known names h rest are =
    let back : Holds (record old { names = new.names }) (record known { names = names }) =
    record { ids = h.ids; names = are; reports = h.reports; first_number = h.first_number; serials = h.serials } in
    subst (λ c. Holds c (record known { names = names })) (sym rest) back

-- what a call makes that changes the messages alone, by the first number and the messages
pub makes_reports : {A : Type 0} (made : ℕ → List Report → A × List Report) (old new : Context) (result : A) → result ≡ (made old.first_number old.reports.items).0
    → new.reports.items ≡ (made old.first_number old.reports.items).1 → KeepsRest old new
    → Makes (λ known. ((made known.first_number known.reports).0, record known { reports = (made known.first_number known.reports).1 })) old new result
makes_reports made old new result is reports rest known h =
    let same : made old.first_number old.reports.items ≡ made known.first_number known.reports = ap₂ made h.first_number h.reports in
    (is ∙ ap (λ done. done.0) same, holds_reports old new known (made known.first_number known.reports).1 h rest (reports ∙ ap (λ done. done.1) same))

-- and one that changes the names alone
pub makes_names : {A : Type 0} (made : A) (pass : (List ℕ → Option NameEntry) → List ℕ → Option NameEntry) (old new : Context) (result : A) → result ≡ made
    → ((entries : List ℕ → Option NameEntry) → AreRegistered old.names entries → AreRegistered new.names (pass entries)) → new ≡ record old { names = new.names }
    → Makes (λ known. (made, record known { names = pass known.names })) old new result
makes_names made pass old new result is passes rest known h = (is, holds_names old new known (pass known.names) h rest (passes known.names h.names))

module _ (place : ℕ) (old : Context) (id : List ℕ) (ids : Ids) (gives : GivesNumbered (hyphenated (tag_name Problematic)) old.ids ids (Ok id)) where
  abbrev Is : Context → List Attr → Known → Option Report → Type 0
  Is new attrs known r = (attrs ≡ (problematic_of r place known).0) × Holds new (problematic_of r place known).1

  -- the next one of a message
  pub makes_next : (new : Context) (r : Report) (own : List ℕ) (later : Ids) → new ≡ record old { ids = later; reports = new.reports } → slice_get old.reports.items place ≡ Some r
      → new.reports.items ≡ slice_set old.reports.items place (referring_report own id r) → ((taken : List (List ℕ)) → AreTaken ids taken → (own ≡ own_id r.id taken) × AreTaken later (with_own_id r.id taken))
      → Makes (problematic place) old new (problematic_attrs id (Some (r.number, own)))
  makes_next new r own later is some reports refers known h =
      let given = gives known.ids h.ids in
      let more : (own ≡ own_id r.id (kind_id known.ids Problematic ∷ known.ids)) × AreTaken later (with_own_id r.id (kind_id known.ids Problematic ∷ known.ids)) =
      subst (λ i. (own ≡ own_id r.id (i ∷ known.ids)) × AreTaken later (with_own_id r.id (i ∷ known.ids))) given.0 (refers (id ∷ known.ids) given.1) in
      let back : Is (record old { ids = later; reports = new.reports }) (problematic_attrs id (Some (r.number, own))) known (Some r) = (
        ap₂ (λ i o. problematic_attrs i (Some (r.number, o))) given.0 more.0,
        record { ids = more.1; names = h.names; reports = reports ∙ ap₂ (λ o i. slice_set old.reports.items place (referring_report o i r)) more.0 given.0 ∙ ap (λ l. slice_set l place (referring_report (own_id r.id (kind_id known.ids Problematic ∷ known.ids)) (kind_id known.ids Problematic) r)) h.reports; first_number = h.first_number; serials = h.serials },
      ) in
      subst₂ (λ c o. Is c (problematic_attrs id (Some (r.number, own))) known o) (sym is) (sym (ap (λ l. slice_get l place) (sym h.reports) ∙ some)) back
