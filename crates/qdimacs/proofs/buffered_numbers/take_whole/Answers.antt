use Rattle.qdimacs.proofs.Cited.{◌≡◌, ◌++◌, ◌∷◌, [], map, refl, arith, common_steps, length-append}
use Rattle.window_numbers.specs.Values.{numbers_of}
use Rattle.qdimacs.proofs.Cited.{AllByRecursion-push, AreBound, pairs, heading}
use Rattle.std.specs.Prelude.{slice_range, IsTrue}
use Rattle.qbf_core.specs.WrittenLiterals.{literal_of}
use Rattle.qdimacs.proofs.WholeClauses.{clause_bound, clause_leads, more_clauses}
use Rattle.qdimacs.proofs.buffered_numbers.take_whole.Goals as goal

pub returns-in-Ok-clause-leads : goal.returns-in-Ok-clause-leads
returns-in-Ok-clause-leads c = grind (arith, common_steps, literal_of, slice_range, clause_leads, heading, pairs, more_clauses)

pub returns-in-Ok-clause-sound : goal.returns-in-Ok-clause-sound
returns-in-Ok-clause-sound c =
    let p = c.args.parts.now in
    let m = c.requires.sound.0 in
    let put : IsTrue c.in_ok-extend_literals.field-0 = grind (arith, common_steps) in
    let written = c.in_ok-extend_literals.ensures in
    let ls = map literal_of (slice_range (numbers_of c.args.values) c.args.from c.args.zero) in
    let whole : c.close.new.self.whole ≡ p.clauses.whole ++ ls ∷ []
    = rw (c.in-Ok.ensures.closed, written.extended put, c.requires.sound.1) refl in
    let bound = clause_bound p.max_var p.prefix (m.full (c.if-not-takes_any.ensures.full refl))
    (slice_range (numbers_of c.args.values) c.args.from c.args.zero) (written.written put) in
    let less = c.if-not-takes_any.ensures.more refl in (
      record {
        counted = record { max_var = m.counted.max_var; count = m.counted.count; top = m.counted.top };
        prefix = m.prefix;
        full = m.full;
        closed = rw whole (AllByRecursion-push (AreBound p.prefix) p.clauses.whole ls m.closed bound);
        few = rw (whole, length-append) (omega (arith, less));
      },
      rw c.in-Ok.ensures.closed refl,
    )
