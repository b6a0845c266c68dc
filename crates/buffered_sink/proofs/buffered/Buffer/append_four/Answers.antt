use Rattle.std.proofs.Common.{◌∙◌, ◌≤◌, ◌++◌, List, ℕ, length, ap, arith}
use Rattle.std.specs.List.{flat_map}
use Rattle.qbf_text.specs.Written.{spaced_text}
use Rattle.buffered_sink.proofs.BufferPart.{part, part_put}
use Rattle.buffered_sink.proofs.buffered.Buffer.append_four.Goals as goal

pub returns-clause-all : goal.returns-clause-all
returns-clause-all c = λ _.
    let s = c.self.inside in
    let text : List ℕ = flat_map spaced_text c.args.four in
    let inside : s.end ≤ length s.bytes = omega (arith, c.self.invariant.1, c.self.told) in
    let put = c.put_four-end.ensures.put in
    ap (part c.put_four-end.new.bytes s.start) put.end_is
    ∙ part_put s.bytes c.put_four-end.new.bytes text _ s.start s.end c.self.invariant.0 inside put.before put.written
    ∙ ap (λ (p : List ℕ). p ++ text) c.self.view_is
