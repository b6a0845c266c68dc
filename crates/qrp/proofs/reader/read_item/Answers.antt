use Rattle.qrp.proofs.Cited.{◌≤◌, length, left, ahead, tokens_next}
use Rattle.qrp.proofs.RowsReadTheItem.{item_given, fault_given}
use Rattle.qrp.proofs.ItemStops.{item_stops}
use Rattle.qrp.proofs.reader.read_item.Goals as goal

pub returns-in-Ok-give-clause-reads : goal.returns-in-Ok-give-clause-reads
returns-in-Ok-give-clause-reads g c = record {
  gives = item_given _ _ _ _ c.in-Ok-give.item _ c.in-Ok.ensures.reads
      (rw (← c.in-Ok-give.ensures.gives.numbers) at c.in-Ok-give.ensures.gives.item);
  stops = item_stops _ _ (tokens_next c.args.scanner.now) (tokens_next c.read_by.new.scanner)
      (ahead c.args.scanner.now.pending (g.S.Source.remaining c.args.source.now))
      (ahead c.read_by.new.scanner.pending (g.S.Source.remaining c.read_by.new.source)) (length c.read_by.new.scanner.pending ≤ 4096)
      c.in-Ok.ensures.stops c.in-Ok-give.item _ c.in-Ok-give.ensures.gives.item;
}

pub returns-in-Err-clause-reads : goal.returns-in-Err-clause-reads
returns-in-Err-clause-reads g c = record {
  gives = rw c.trace_fault.ensures
      (fault_given c.args.grammar.now.state (left c.args.scanner.now (g.S.Source.remaining c.args.source.now)) c.read_by.new.grammar.state
      (left c.read_by.new.scanner (g.S.Source.remaining c.read_by.new.source)) c.in-Err.error c.in-Err.ensures.reads);
  stops = tt;
}
