-- What a command line asks for.
use Rattle.std.specs.Prelude.{ℕ, true, false, Option}
use Rattle.qrp_rules.specs.declared.rules.Rules.{Rules}

-- a job, and the places of its formula and its trace among the words
pub record Request (J : Type 0) : Type 0 where
  pub job : J
  pub formula : ℕ
  pub trace : Option ℕ

-- Q-resolution and term resolution, with no flag
abbrev pub plain : Rules
plain = record { any_pivot = false }

-- pivots of either quantifier, with the flag --qu
abbrev pub any_pivot : Rules
any_pivot = record { any_pivot = true }
