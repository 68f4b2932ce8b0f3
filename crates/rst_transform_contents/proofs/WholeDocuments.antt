-- The whole document with its tables.
use Rattle.std.proofs.Common.{◌≡◌, ◌∙◌, true, false, List, None, replicate, refl, ap, ap₂, subst, sym}
use Rattle.rst_tree.specs.declared.node.Node.{Node}
use Rattle.rst_tree.specs.Nodes.{forest_of}
use Rattle.rst_transform_names.specs.Ids.{AreTaken}
use Rattle.rst_transform_work.specs.declared.context.Context.{Context}
use Rattle.rst_transform_work.specs.declared.document.Document.{Document}
use Rattle.rst_transform_work.specs.Known.{Known, Makes}
use Rattle.rst_transform_work.specs.Known as known
use Rattle.rst_transform_contents.specs.declared.entries.Tables.{Tables}
use Rattle.rst_transform_contents.specs.Contents.{holds_table, led_titles, no_leads, placed, with_contents, with_tables}
use Rattle.rst_transform_contents.specs.Entries.{most_levels, Gives, Holds, Left}
use Rattle.rst_transform_contents.specs.Outline.{outline}

pub without_tables : (document : Document) (context : Context) → holds_table document.children ≡ false → Makes (with_contents document) context context document
without_tables document context none seen h = rw none (refl, h)

pub with_some : (document result : Document) (old new : Context) (before after : Tables) (sections nodes : List Node) → holds_table document.children ≡ true → sections ≡ outline most_levels document.children
    → before.ids ≡ old.ids → before.leads.items ≡ replicate old.serials None → Gives (placed (forest_of sections) (forest_of sections) (forest_of sections) document.children) before after nodes
    → new ≡ record old { ids = after.ids } → result ≡ record document { children = led_titles after.leads.items (forest_of nodes) } → Makes (with_contents document) old new result
with_some document result old new before after sections nodes some outlined ids leads gives is made seen h =
    let left : Left = no_leads seen in
    let start : Holds before left = record { ids = subst (λ i. AreTaken i seen.ids) (sym ids) h.ids; leads = leads ∙ ap (λ n. replicate n None) h.serials } in
    let whole : Gives (λ q. let o = forest_of (outline most_levels document.children) in placed o o o document.children q) before after nodes = subst (λ ns. Gives (placed (forest_of ns) (forest_of ns) (forest_of ns) document.children) before after nodes) outlined gives in
    let done = whole left start in
    let back : known.Holds (record old { ids = after.ids }) (record seen { ids = (with_tables document.children seen).1.ids }) = record { ids = done.1.ids; names = h.names; reports = h.reports; first_number = h.first_number; serials = h.serials } in
    rw some (
      made ∙ ap₂ (λ ls ns. record document { children = led_titles ls (forest_of ns) }) done.1.leads done.0,
      subst (λ c. known.Holds c (record seen { ids = (with_tables document.children seen).1.ids })) (sym is) back,
    )
