use Rattle.std.proofs.Common.{◌∙◌, ap}
use Rattle.std.proofs.lemmas.Grind.{flat_map-append}
use Rattle.std.specs.List.{flat_map}
use Rattle.qrp.proofs.Cited.{sent_fails, sent_part}
use Rattle.dimacs_syntax.specs.Texts.{literal_text}
use Rattle.qrp.proofs.writing.put_lits.Goals as goal

pub fours-preserved : goal.fours-preserved
fours-preserved g c = record {
  sent = sent_part _ c.fours.invariant.sent (ap (λ lits. flat_map literal_text lits) c.in-Some.ensures.some ∙ flat_map-append literal_text c.in-Some.four _)
      c.in_ok-put.ensures;
}

pub returns-in_err-put : goal.returns-in_err-put
returns-in_err-put g c =
    sent_fails _ _ c.fours.invariant.sent (ap (λ lits. flat_map literal_text lits) c.in-Some.ensures.some ∙ flat_map-append literal_text c.in-Some.four _)
    c.from_residual.ensures.1 c.in_err-put.ensures

pub literals-preserved : goal.literals-preserved
literals-preserved g c = record { sent = sent_part _ c.literals.invariant.sent (ap (λ lits. flat_map literal_text lits) c.in-Some-next.ensures.some) c.in_ok-put-2.ensures }

pub returns-in_err-put-2 : goal.returns-in_err-put-2
returns-in_err-put-2 g c =
    sent_fails _ _ c.literals.invariant.sent (ap (λ lits. flat_map literal_text lits) c.in-Some-next.ensures.some)
    c.from_residual-in_err-put-2.ensures.1 c.in_err-put-2.ensures
