use Rattle.qbf_tokens.proofs.Cited.{rules, refl}
use Rattle.qbf_text.proofs.Cited.{decimal}
use Rattle.qbf_text.proofs.SentParts.{put_then}
use Rattle.qbf_text.proofs.spelling.put_minus.Goals as goal

pub returns-in_err-put_byte : goal.returns-in_err-put_byte
returns-in_err-put_byte g c = search rules

pub returns : goal.returns
returns g c = put_then (decimal c.args.n) refl c.in_ok-put_byte.ensures.put c.put_number.ensures
