use Rattle.qbf_text.proofs.Cited.{decimal, err_from_is_err_and}
use Rattle.qbf_text.proofs.SentParts.{put_fails}
use Rattle.qbf_text.proofs.sink.Sink.push_spaced.Goals as goal

pub returns-in_err-push_all : goal.returns-in_err-push_all
returns-in_err-push_all g c =
    let p = err_from_is_err_and c.from_residual.result c.from_residual.ensures.1 in record {
      put = put_fails (decimal c.args.n) (c.front_of.ensures c.args.n) p.1 c.in_err-push_all.ensures.put;
    }
