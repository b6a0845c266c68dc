use Rattle.qdimacs.proofs.Cited.{arith, heading, pairs, map}
use Rattle.window_numbers.specs.Values.{numbers_of}
use Rattle.std.specs.Prelude.{slice_range}
use Rattle.qbf_core.specs.WrittenLiterals.{literal_of}
use Rattle.qbf_tokens.proofs.CanonicalTokens.{all_appended}
use Rattle.qdimacs.proofs.WholeClauses.{clause_bound, literals_lead}
use Rattle.qdimacs.proofs.buffered_numbers.put_literals.Goals as goal

pub returns-clause-leads : goal.returns-clause-leads
returns-clause-leads c =
    let p = c.args.parts.now in
    let put = c.if-not-branch.false in
    let written = c.in_ok-extend_literals.ensures in
    let full = c.requires.here.1.0.full c.if-not-parts.false in
    rw (written.extended put) (literals_lead (heading p) (pairs p.prefix) p.clauses.whole full (numbers_of c.args.values) c.args.from c.min-to.result
    p.clauses.unfinished (omega (arith, c.if-from-to.false)) (omega (arith, c.min-to.ensures)) (written.written put))

pub returns-clause-sound : goal.returns-clause-sound
returns-clause-sound c =
    let p = c.args.parts.now in
    let here = c.requires.here.1 in
    let m = here.0 in
    let put = c.if-not-branch.false in
    let written = c.in_ok-extend_literals.ensures in
    let xs = slice_range (numbers_of c.args.values) c.args.from c.min-to.result in
    let bound = clause_bound p.max_var p.prefix (m.full c.if-not-parts.false) xs (written.written put) in
    rw (written.extended put) (
      record {
        counted = record { max_var = m.counted.max_var; count = m.counted.count; top = m.counted.top };
        prefix = m.prefix;
        full = m.full;
        closed = m.closed;
        few = m.few;
      },
      all_appended _ p.clauses.unfinished (map literal_of xs) here.1 bound,
      here.2,
    )
