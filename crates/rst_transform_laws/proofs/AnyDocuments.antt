-- What holds of any texts holds of each document between transforms, so that laws on levels need nothing of its texts.
use Rattle.std.proofs.Common.{arith}
use Rattle.rst_tree.specs.Forest.{height}
use Rattle.rst_transform_work.specs.declared.document.Document.{Document}
use Rattle.rst_transform_work.specs.declared.report.Report.{Report}
use Rattle.rst_transform_work.specs.Known.{Known}
use Rattle.rst_tree_laws.proofs.AnyTexts.{Anything, attrs_any, texts_any}
use Rattle.rst_tree_laws.proofs.Lists.{all_each}
use Rattle.rst_transform_laws.proofs.Held.{DocumentHeld, KnownHas}

pub document_any : (document : Document) → DocumentHeld Anything (height document.children) document
document_any document = ((omega arith, texts_any document.children), attrs_any document.attrs)

pub known_any : (known : Known) → KnownHas Anything known
known_any known = all_each (λ (r : Report). Anything r.text) known.reports (λ r. tt)
