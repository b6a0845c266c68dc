use Rattle.qrp.proofs.Cited.{arith, rules}
use Rattle.qrp.proofs.KeptItems.{result_given, result_stops, fault_given}
use Rattle.qrp.proofs.whole_trace.read_parts.Goals as goal

pub returns-clause-reads : goal.returns-clause-reads
returns-clause-reads g c =
    let s = c.new-scanner.ensures in
    record {
      exact = result_given c.new-scanner.result c.read_by.new.scanner s.left s.pending s.next c.read_by.new.grammar
          (g.S.Source.remaining c.args.source.now) (g.S.Source.remaining c.read_by.new.source) _
          c.into_parts.ensures.made (rw c.new-grammar.ensures at c.in_default.ensures.reads);
      stops = result_stops c.new-scanner.result c.read_by.new.scanner s.left s.pending s.next c.read_by.new.grammar
          (g.S.Source.remaining c.args.source.now) (g.S.Source.remaining c.read_by.new.source) _
          c.into_parts.ensures.made (rw c.new-grammar.ensures at c.in_default.ensures.stops);
      devices = record {
        source = tt;
        kept = tt;
        works = c.in_default.ensures.counts;
        failed = let same = c.in_default.ensures.counts in λ less. absurd (omega (arith, less, same));
        source_line = tt;
        memory_line = tt;
      };
    }

pub returns-in-Err-clause-reads : goal.returns-in-Err-clause-reads
returns-in-Err-clause-reads g c =
    let s = c.new-scanner.ensures in
    record {
      exact = rw c.trace_fault.ensures (fault_given c.new-scanner.result c.read_by.new.scanner s.left s.pending s.next c.read_by.new.grammar
          (g.S.Source.remaining c.args.source.now) (g.S.Source.remaining c.read_by.new.source) c.in-Err.error
          c.new-grammar.result c.new-grammar.ensures c.in-Err.ensures.reads);
      stops = tt;
      devices = record {
        source = search rules;
        kept = search rules;
        works = tt;
        failed = search rules;
        source_line = search rules;
        memory_line = search rules;
      };
    }
