-- What stands in front of a line, and what it reads as.
use Rattle.std.proofs.Common.{◌≡◌, List, [], ◌∷◌, refl, sym, subst}
use Rattle.qcir_tokens.specs.declared.mark.Mark.TheVariants.{Close, Minus}
use Rattle.qcir_tokens.specs.Tokens.{BeginsWithNoWord, BeginsWithout, Sign, Token, Word}
use Rattle.qcir.specs.Lines.{BeginsWithNoName, IsNoEnd}

pub no_name : (ts : List Token) → BeginsWithout Minus ts → BeginsWithNoWord ts → BeginsWithNoName ts
no_name (Word w ∷ ts) without none = none
no_name (Sign Minus ∷ ts) without none = absurd (without refl)
no_name ts without none = tt

pub no_name_after : (ts us : List Token) → ts ≡ Sign Minus ∷ us → BeginsWithNoWord us → BeginsWithNoName ts
no_name_after ts us is none = subst BeginsWithNoName (sym is) (minus us none)
  where
    minus : (us : List Token) → BeginsWithNoWord us → BeginsWithNoName (Sign Minus ∷ us)
    minus (Word w ∷ us) none = none
    minus us none = tt

pub no_end : (ts : List Token) → BeginsWithout Close ts → IsNoEnd ts
no_end (Sign Close ∷ ts) without = absurd (without refl)
no_end ts without = tt

pub no_end_after : (ts us : List Token) → ts ≡ Sign Close ∷ us → (us ≡ [] → ⊥) → IsNoEnd ts
no_end_after ts us is more = subst IsNoEnd (sym is) (close us more)
  where
    close : (us : List Token) → (us ≡ [] → ⊥) → IsNoEnd (Sign Close ∷ us)
    close [] more = absurd (more refl)
    close (u ∷ us) more = tt
