-- The result for a caller in C of the check of a proof that was handed over.
use Rattle.std.specs.Prelude.{◌≡◌, ◌≢◌, ◌↔◌, ◌⊎◌, ℕ, Bool, IsTrue, List, []}
use Rattle.qbf_core.specs.Qbf.{Qbf}
use Rattle.qbf_core.specs.Truth.{IsTrueFormula}
use Rattle.trace_items.specs.Derivations.{steps_at}
use Rattle.qrp.specs.Grammar.{text}
use Rattle.trace_items.specs.Inferences.{Inference, numbers}
use Rattle.qrp_rules.specs.declared.rules.Rules.{Rules}
use Rattle.trace_check.specs.declared.fault.CheckFault.{CheckFault}
use Rattle.trace_check.specs.declared.fault.CheckFault.TheVariants.{C5}
use Rattle.qrp_check.specs.declared.verdict.Fault.TheVariants.{Check}
use Rattle.core_walk.specs.Core.{ListsCore}
use Rattle.trace_check.specs.Proof.{Proves, IsFirstFault}
use Rattle.trace_check.specs.Trim.{trimmed_trace}
use Rattle.qrp_bytes.specs.Buffers.{IsListed, IsWritten}
use Rattle.qrp_bytes.specs.declared.verdict.QrpVerdict.{QrpVerdict}
use Rattle.qrp_bytes.specs.Encoding.{encoded_truth, encoded_fault}
use Rattle.qrp_bytes.specs.Texts.{encoded_nothing}
use Rattle.qrp_handle.specs.Checks.{outcome_of}
use Rattle.qrp_handle.specs.Texts.{trace_written}

-- the steps prove that f is true, or false, as `sat` says, and it is
pub record IsVerified (rules : Rules) (f : Qbf) (steps : List Inference) (sat : Bool) (out : QrpVerdict) : Type 0 where
  pub encoded : out ≡ encoded_truth sat
  pub proves : Proves rules f [] steps (outcome_of sat)
  pub truth : IsTrue sat ↔ IsTrueFormula f

-- the proof is refused with a fault, which stands unless it is that of a failed allocation
pub record IsRefused (rules : Rules) (f : Qbf) (steps : List Inference) (sat : Bool) (out : QrpVerdict) : Type 0 where
  pub fault : CheckFault
  pub encoded : out ≡ encoded_fault (Check fault)
  pub stands : fault ≢ C5 → IsFirstFault rules f [] steps (outcome_of sat) fault

-- the struct says that the proof is verified, and the list holds the numbers of the steps that it needs
pub record IsCoreListed (rules : Rules) (f : Qbf) (steps : List Inference) (sat : Bool) (old new : List ℕ) (out : QrpVerdict) (count : ℕ)
    : Type 0 where
  pub verified : IsVerified rules f steps sat out
  pub core : List ℕ
  pub lists : ListsCore steps core
  pub listed : IsListed (numbers (steps_at steps core)) old new count

-- the struct says that the proof is verified, with the core; or that it is refused, and nothing is listed
abbrev pub IsCoreOf : Rules → Qbf → List Inference → Bool → List ℕ → List ℕ → QrpVerdict → ℕ → Type 0
IsCoreOf rules f steps sat old new out count =
    IsCoreListed rules f steps sat old new out count ⊎ (IsRefused rules f steps sat out × IsListed [] old new count)

-- the struct is zeros, and the buffer has the text; or an allocation failed, and the text is empty
abbrev pub IsTextGiven : List ℕ → List ℕ → List ℕ → QrpVerdict → ℕ → Type 0
IsTextGiven text old new out count =
    ((out ≡ encoded_nothing) × IsWritten text old new count) ⊎ ((out ≡ encoded_fault (Check C5)) × IsWritten [] old new count)

-- the struct says that the proof is verified, and the buffer has the text of its trace with only the steps that it needs
pub record IsTrimmedWritten (rules : Rules) (f : Qbf) (steps : List Inference) (sat : Bool) (old new : List ℕ) (out : QrpVerdict) (count : ℕ)
    : Type 0 where
  pub verified : IsVerified rules f steps sat out
  pub core : List ℕ
  pub lists : ListsCore steps core
  pub written : IsWritten (text (trimmed_trace (trace_written f steps (outcome_of sat)) core)) old new count

-- the struct says that the proof is verified, with the trimmed trace; or that it is refused, and the text is empty
abbrev pub IsTrimmedOf : Rules → Qbf → List Inference → Bool → List ℕ → List ℕ → QrpVerdict → ℕ → Type 0
IsTrimmedOf rules f steps sat old new out count =
    IsTrimmedWritten rules f steps sat old new out count ⊎ (IsRefused rules f steps sat out × IsWritten [] old new count)

-- the struct says that the proof is verified, or that it is refused
abbrev pub IsVerdictOf : Rules → Qbf → List Inference → Bool → QrpVerdict → Type 0
IsVerdictOf rules f steps sat out = IsVerified rules f steps sat out ⊎ IsRefused rules f steps sat out
