use Rattle.rst_transform_substitutions.proofs.Replacing.{document_expanded}
use Rattle.rst_transform_substitutions.proofs.expand.expand.Goals as goal

pub returns : goal.returns
returns c =
    document_expanded c.args.document c.args.context.now c.expand_in.new.context c.in_ok-definitions.definitions c.expand_in.new.nodes c.in_ok-definitions.ensures.known c.in_ok-expand_in.ensures
