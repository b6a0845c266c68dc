-- From a run over opened files to the report of the program.
use Rattle.std.proofs.Common.{◌≡◌, ◌∙◌, ◌<◌, ℕ, List, [], Option, Some, None, IfSome, inr, sym, ap, map, length, get_or}
use Rattle.std.proofs.Common.{Result, Ok, Err, IfOk, IfErr}
use Rattle.std.proofs.lemmas.List.{get_or-map}
use Rattle.qbf_text.specs.declared.source.Source as source
use Rattle.qrp_program.specs.Output.{Report}
use Rattle.qrp_program.specs.Program.{start_report, word, IsOnBoth, IsOnFormula, IsOnFiles, IsOnOpened, IsProgram, Opens, no_trace}
use Rattle.qrp_program.specs.Words.{Request}
use Rattle.qrp_program.specs.declared.jobs.Jobs as jobs
use Rattle.qrp_program.specs.declared.sources.Sources.{Sources}
use Rattle.qrp_program.specs.declared.start.Start.{Start}

-- the word at a place, as it stands in a list of texts
word_is : {A : Type 0} (f : A → List ℕ) (xs : List A) (i : ℕ) (x : A) (text : List ℕ) → i < length xs → x ≡ get_or xs i x → text ≡ f x
    → word (map f xs) i ≡ text
word_is f xs i x text below is same = get_or-map f xs i x [] below ∙ ap f (sym is) ∙ sym same

-- the report on the files that the words of a row name
module _ {J A F : Type 0} (program : jobs.Ghosts J) (files : source.Ghosts F) (opens : Opens) (bytes : A → List ℕ) (xs : List A) (r : Report) where
  pub of_both : (j : J) (i k : ℕ) (trace : Option ℕ) (x y : A) (first second : List ℕ)
      → program.is_row (map bytes xs) (record { job = j; formula = i; trace = trace })
      → (i < length xs) × IfSome trace (λ t. t < length xs) → trace ≡ Some k
      → x ≡ get_or xs i x → first ≡ bytes x → y ≡ get_or xs k y → second ≡ bytes y
      → IsOnFiles program files opens j first (Some second) r → IsProgram program files opens (map bytes xs) r
  of_both j i k trace x y first second row within is is_x same_x is_y same_y on =
      let inside = rw is at within in
      inr (
        record { job = j; formula = i; trace = Some k },
        rw is at row,
        rw (word_is bytes xs i x first inside.0 is_x same_x, word_is bytes xs k y second inside.1 is_y same_y) on,
      )

  pub of_formula : (j : J) (i : ℕ) (trace : Option ℕ) (x : A) (first : List ℕ)
      → program.is_row (map bytes xs) (record { job = j; formula = i; trace = trace })
      → (i < length xs) × IfSome trace (λ t. t < length xs) → trace ≡ None → x ≡ get_or xs i x → first ≡ bytes x
      → IsOnFiles program files opens j first None r → IsProgram program files opens (map bytes xs) r
  of_formula j i trace x first row within is is_x same_x on =
      inr (
        record { job = j; formula = i; trace = None },
        rw is at row,
        rw (word_is bytes xs i x first within.0 is_x same_x) on,
      )

-- the report on what was opened is the one on the files
pub on_files : {J F : Type 0} (program : jobs.Ghosts J) (files : source.Ghosts F) (opens : Opens) (first second : List ℕ) (j : J)
    (opened left : Result (Sources F F) Start) (r : Report)
    → IfOk opened (λ f. (r : Report) → IsOnBoth program files files j f.formula f.trace r → IsOnFiles program files opens j first (Some second) r)
    → IfErr opened (λ start. IsOnFiles program files opens j first (Some second) (start_report (program.refusals j) start))
    → IsOnOpened program files files j opened left r → IsOnFiles program files opens j first (Some second) r
on_files program files opens first second j (Ok f) (Ok g) r ok err on = ok r (g.formula, g.trace, on)
on_files program files opens first second j (Ok f) (Err start) r ok err on = absurd on
on_files program files opens first second j (Err start) left r ok err on = rw on err

-- the same of a job that asks for no trace
pub on_formula : {J F : Type 0} (program : jobs.Ghosts J) (files : source.Ghosts F) (opens : Opens) (first : List ℕ) (j : J)
    (opened left : Result (Sources F (List ℕ)) Start) (r : Report)
    → IfOk opened (λ f. (r : Report) → IsOnFormula program files j f.formula r → IsOnFiles program files opens j first None r)
    → IfOk opened (λ f. f.trace ≡ [])
    → IfErr opened (λ start. IsOnFiles program files opens j first None (start_report (program.refusals j) start))
    → IsOnOpened program files no_trace j opened left r → IsOnFiles program files opens j first None r
on_formula program files opens first j (Ok f) (Ok g) r ok none err on = ok r (g.formula, g.trace, rw none at on)
on_formula program files opens first j (Ok f) (Err start) r ok none err on = absurd on
on_formula program files opens first j (Err start) left r ok none err on = rw on err
