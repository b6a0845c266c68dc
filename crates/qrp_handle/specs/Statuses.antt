-- The statuses that a caller in C gets for the parts that it adds.
use Rattle.std.specs.Prelude.{◌≡◌, ◌≢◌, ℕ, ℤ, pos, Option, None, IsSomeAnd}
use Rattle.qrp_handle.specs.declared.fault.AddFault.{AddFault}
use Rattle.qrp_handle.specs.declared.fault.AddFault.TheVariants.{NoMemory, Range, Bound, Unbound, Full, Used, Many}

-- the status of a fault
abbrev pub code_of : AddFault → ℕ
code_of NoMemory = 4
code_of Range = 5
code_of Bound = 6
code_of Unbound = 7
code_of Full = 8
code_of Used = 9
code_of Many = 10

-- the effect of a call on the proof that the struct held: `added` says what it is after status 0, and `faulty` which faults stand
pub record CallReturns {P : Type 0} (added : P → P → Type 0) (faulty : P → AddFault → Type 0) (old new : Option P) (status : ℤ) : Type 0 where
  -- status 0: the part is added
  pub done : status ≡ pos 0 → IsSomeAnd old (λ p. IsSomeAnd new (added p))
  -- another status: nothing is changed
  pub kept : status ≢ pos 0 → new ≡ old
  -- the status of a fault: the fault stands
  pub refused : (e : AddFault) → status ≡ pos (code_of e) → IsSomeAnd old (λ p. faulty p e)
  -- status 11: there was no proof
  pub nothing : status ≡ pos 11 → old ≡ None
