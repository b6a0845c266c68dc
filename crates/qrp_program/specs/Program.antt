-- The report of a whole program on the words after its name, whatever its jobs are.
use Rattle.std.specs.Prelude.{◌≡◌, ℕ, List, [], ◌⊎◌, Option, Some, None, Result, Ok, Err, get_or, length}
use Rattle.qbf_text.specs.declared.source.Source as source
use Rattle.qrp_check.specs.Checked.{call_of}
use Rattle.qrp_program.specs.Lines.{start_line, start_status}
use Rattle.qrp_program.specs.Output.{Report}
use Rattle.qrp_program.specs.Words.{Request}
use Rattle.qrp_program.specs.declared.jobs.Jobs as jobs
use Rattle.qrp_program.specs.declared.open_fault.OpenFault.{OpenFault}
use Rattle.qrp_program.specs.declared.open_fault.OpenFault.TheVariants.{NoFile, NoMemory}
use Rattle.qrp_program.specs.declared.sources.Sources.{Sources}
use Rattle.qrp_program.specs.declared.start.Start.{Start}
use Rattle.qrp_program.specs.declared.start.Start.TheVariants as start
use Rattle.qrp_program.specs.declared.stream.Stream.{Stream}
use Rattle.qrp_program.specs.declared.stream.Stream.TheVariants.{Errors}

-- a line that ends the program before its job begins; the status stays if the line does not go out
abbrev pub start_report : Stream → Start → Report
start_report stream s = record { stream = stream; text = start_line s; status = start_status s; failed = start_status s }

-- how the program ends if a file is not opened
abbrev pub start_without_file : Start → OpenFault → Start
start_without_file no_file NoFile = no_file
start_without_file no_file NoMemory = start.NoMemory

-- the results that opening a path may have: the bytes of the file, if they are known, or why it is not opened
abbrev pub Opens : Type 1
Opens = List ℕ → Result (Option (List ℕ)) OpenFault → Type 0

-- The report on a file: a line to this stream that ends the program, if it is not opened, or what is said of the opened file, which has
-- not failed.
abbrev pub IsOnFile : {F : Type 0} → source.Ghosts F → Opens → Stream → Start → List ℕ → (F → Type 0) → Report → Type 0
IsOnFile {F = F} files opens stream no_file path says r =
    ((e : OpenFault) × opens path (Err e) × (r ≡ start_report stream (start_without_file no_file e)))
    ⊎ ((f : F) × opens path (Ok (files.remaining f)) × (files.failures f ≡ 0) × says f)

-- a source without bytes, which stands for a trace if a job asks for none
abbrev pub no_trace : source.Ghosts (List ℕ)
no_trace = record { remaining = λ s. Some s; bound = λ s. length s; failures = λ s. 0 }

-- the report of a job that asks for no trace on an opened formula, which is in some state after the run
abbrev pub IsOnFormula : {J F : Type 0} → jobs.Ghosts J → source.Ghosts F → J → F → Report → Type 0
IsOnFormula {F = F} program formula j f r =
    (f2 : F) × (left : List ℕ) × program.is_output j (call_of formula f f2) (call_of no_trace [] left) r

-- The report of a job on an opened formula and an opened trace, each of which is in some state after the run: so a failure that is reported
-- is one of an opened file.
abbrev pub IsOnBoth : {J F T : Type 0} → jobs.Ghosts J → source.Ghosts F → source.Ghosts T → J → F → T → Report → Type 0
IsOnBoth {F = F} {T = T} program formula trace j f t r =
    (f2 : F) × (t2 : T) × program.is_output j (call_of formula f f2) (call_of trace t t2) r

-- The report of a job on an opened formula and an opened trace, each as it was before and as it is left, or on why they are not opened.
abbrev pub IsOnOpened : {J F T : Type 0} → jobs.Ghosts J → source.Ghosts F → source.Ghosts T → J → Result (Sources F T) Start
    → Result (Sources F T) Start → Report → Type 0
IsOnOpened program formula trace j (Ok f) (Ok g) r = program.is_output j (call_of formula f.formula g.formula) (call_of trace f.trace g.trace) r
IsOnOpened program formula trace j (Ok f) (Err start) r = ⊥
IsOnOpened program formula trace j (Err start) left r = r ≡ start_report (program.refusals j) start

-- The report on a request: the formula is opened, then the trace, if the job asks for one, and both before anything is read.
abbrev pub IsOnFiles : {J F : Type 0} → jobs.Ghosts J → source.Ghosts F → Opens → J → List ℕ → Option (List ℕ) → Report → Type 0
IsOnFiles program files opens j formula None r =
    IsOnFile files opens (program.refusals j) start.NoFormula formula (λ f. IsOnFormula program files j f r) r
IsOnFiles program files opens j formula (Some trace) r =
    IsOnFile files opens (program.refusals j) start.NoFormula formula (λ f.
    IsOnFile files opens (program.refusals j) start.NoTrace trace (λ t. IsOnBoth program files files j f t r) r) r

-- the word at a place
abbrev pub word : List (List ℕ) → ℕ → List ℕ
word words i = get_or words i []

-- the word at a place, if there is one
abbrev pub word_at : List (List ℕ) → Option ℕ → Option (List ℕ)
word_at words None = None
word_at words (Some i) = Some (word words i)

-- The report of the program: USAGE if the words are not a row of the usage, or the report on the files that they name.
abbrev pub IsProgram : {J F : Type 0} → jobs.Ghosts J → source.Ghosts F → Opens → List (List ℕ) → Report → Type 0
IsProgram {J = J} program files opens words r =
    (((q : Request J) → program.is_row words q → ⊥) × (r ≡ start_report Errors start.Usage))
    ⊎ ((q : Request J) × program.is_row words q
    × IsOnFiles program files opens q.job (word words q.formula) (word_at words q.trace) r)
