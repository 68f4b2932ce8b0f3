use Rattle.std.proofs.Common.{refl}
use Rattle.rst_block_state.proofs.Calls.{gives_map}
use Rattle.rst_block_state.proofs.Changes.{more_as, more_more}
use Rattle.rst_block_body.proofs.QuoteSteps.{quote_made}
use Rattle.rst_block.proofs.resume.put_quote.Goals as goal

pub returns-in_ok-push_marked-in-Some-clause-more : goal.returns-in_ok-push_marked-in-Some-clause-more
returns-in_ok-push_marked-in-Some-clause-more c =
    let made =
    quote_made c.args.line c.args.nodes c.push_new.new.self c.args.attribution c.in-Some.attribution c.into_inner-element.result _ c.into_inner-element.result.element c.in_ok-into_element-in-Some.field-0
    c.in-Some.is c.into_inner-element.ensures c.new-attrs.ensures refl c.in_ok-push_new-in-Some.ensures c.in_ok-into_element-in-Some.ensures in
    gives_map _ _ c.append.result c.append.ensures.more (λ _ h. more_as made refl (more_more c.in_ok-push_marked-in-Some.ensures.more h))
