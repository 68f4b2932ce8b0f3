use Rattle.std.proofs.Common.{refl}
use Rattle.rst2pseudoxml_run.proofs.Computing.{rst2pseudoxml_run}
use Rattle.rst2pseudoxml_run.proofs.rows.docinfo.bibliographic_fields.Goals as goal

pub returns : goal.returns
unfolding rst2pseudoxml_run
returns c = record {
  without_a_title = refl;
  after_the_title = refl;
  authors_and_abstract = refl;
  topics = refl;
  empty_field = refl;
  two_paragraphs = refl;
}
