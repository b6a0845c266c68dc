use Rattle.std.proofs.Common.{inl, refl}
use Rattle.qrp_program.proofs.ProgramReport.{of_both, of_formula, on_files, on_formula}
use Rattle.qrp_program.specs.declared.start.Start.TheVariants.{Usage}
use Rattle.qrp_program.specs.declared.stream.Stream.TheVariants.{Errors}
use Rattle.qrp_program.specs.Program.{start_report}
use Rattle.qrp_program.proofs.answering.program.Goals as goal

pub returns-in_default-clause-words : goal.returns-in_default-clause-words
returns-in_default-clause-words g c =
    rw (c.in-Ok.is, ← c.as_slice-texts.ensures.value) (start_report Errors Usage, inl (c.in_default.ensures.none, refl), (c.stop-in_default.ensures, refl))

pub returns-in-Some-trace-clause-words : goal.returns-in-Some-trace-clause-words
returns-in-Some-trace-clause-words g c =
    let q = c.in-Some in
    let files = c.open_both-opened in
    let done = c.run_opened.ensures in
    rw (c.in-Ok.is, ← c.as_slice-texts.ensures.value) (
      done.0,
      of_both g.J.Jobs g.F.File.Source (g.F.Open.opens c.args.files.now) _ c.as_slice-texts.result.now _ _ _ _ _ _ _ _ _ q.ensures.row q.ensures.within
          c.in-Some-trace.is c.index-texts-formula.is c.as_str-formula.ensures.value c.index-texts-trace.is c.as_str.ensures.value
          (on_files g.J.Jobs g.F.File.Source (g.F.Open.opens c.args.files.now) c.as_str-formula.result.now c.as_str.result.now _
          files.result _ done.0 files.ensures.opened files.ensures.refused done.1),
      done.2,
    )

pub returns-clause-words : goal.returns-clause-words
returns-clause-words g c =
    let q = c.in-Some in
    let files = c.open_formula-opened in
    let done = c.run_opened-in-None.ensures in
    rw (c.in-Ok.is, ← c.as_slice-texts.ensures.value) (
      done.0,
      of_formula g.J.Jobs g.F.File.Source (g.F.Open.opens c.args.files.now) _ c.as_slice-texts.result.now _ _ _ _ _ _ q.ensures.row q.ensures.within
          c.in-None.is c.index-texts-formula.is c.as_str-formula.ensures.value
          (on_formula g.J.Jobs g.F.File.Source (g.F.Open.opens c.args.files.now) c.as_str-formula.result.now _
          files.result _ done.0 files.ensures.opened files.ensures.no_trace files.ensures.refused done.1),
      done.2,
    )
