use Rattle.rst_block_laws.proofs.ParsedDocuments.{document_parsed}
use Rattle.rst_block_laws.proofs.laws.documents_are_parsed.Goals as goal

pub returns : goal.returns
returns c = document_parsed
