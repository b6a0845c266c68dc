-- A trace with no sets.
use Rattle.std.specs.Prelude.{List, [], length}
use Rattle.trace_items.specs.Derivations.{Derivation}
use Rattle.trace_items.specs.Inferences.{Inference}
use Rattle.qrp.specs.declared.writing.Frame.{Frame}

-- the trace with these steps, which its header counts, and with what the frame has
abbrev pub framed : Frame → List Inference → Derivation
framed frame steps = record { header = record { vars = frame.vars; steps = length steps }; sets = []; steps = steps; result = frame.result }
