-- Literals in bytes: those of a list take one byte each, two or four, as the first byte says; or the bytes are the place of a long list.
use Rattle.std.specs.Prelude.{◌≡◌, ℕ, zero, suc, ◌<◌, Bool, true, false, List, [], ◌∷◌, get_or, map}
use Rattle.std.specs.List.{AllByRecursion, flat_map}
use Rattle.std.specs.Int.{w8, w16, w32, Width, from_le_bytes, to_le_bytes, cast_signed, cast_unsigned}
use Rattle.qbf_core.specs.Blocks.{IsVariable}
use Rattle.qbf_core.specs.Literal.{Literal, signed}
use Rattle.qbf_core.specs.WrittenLiterals.{literal_of}

-- the literal that these bytes are, the lowest first
abbrev pub literal_in : Width → List ℕ → Literal
literal_in w bytes = literal_of (cast_signed w (from_le_bytes w bytes))

-- the literals of one byte each, of two, and of four
abbrev pub ones : List ℕ → List Literal
ones bytes = map (λ a. literal_in w8 (a ∷ [])) bytes

abbrev pub twos : List ℕ → List Literal
twos (a ∷ b ∷ bytes) = literal_in w16 (a ∷ b ∷ []) ∷ twos bytes
twos bytes = []

abbrev pub fours : List ℕ → List Literal
fours (a ∷ b ∷ c ∷ d ∷ bytes) = literal_in w32 (a ∷ b ∷ c ∷ d ∷ []) ∷ fours bytes
fours bytes = []

-- the literals of a list of bytes, of which the first says how many each of them takes
abbrev pub unpacked : List ℕ → List Literal
unpacked [] = []
unpacked (suc zero ∷ bytes) = ones bytes
unpacked (suc (suc zero) ∷ bytes) = twos bytes
unpacked (width ∷ bytes) = fours bytes

-- the bytes of literals that take so many each
abbrev pub packed : Width → List Literal → List ℕ
packed w lits = flat_map (λ l. to_le_bytes w (cast_unsigned w (signed l))) lits

-- each is a literal of a variable
abbrev pub AreLiterals : List Literal → Type 0
AreLiterals lits = AllByRecursion (λ l. IsVariable l.var) lits

-- whether the bytes are the place of a long list: then the first is 0
abbrev pub is_place : List ℕ → Bool
is_place (zero ∷ bytes) = true
is_place bytes = false

-- the bytes are these literals, packed
abbrev pub Packs : List Literal → List ℕ → Type 0
Packs lits bytes = (is_place bytes ≡ false) × (unpacked bytes ≡ lits)

-- the literals of a list, which are packed, or those of the long list at a place
abbrev pub kept_in : List (List Literal) → List ℕ → List Literal
kept_in long (zero ∷ a ∷ b ∷ c ∷ d ∷ []) = get_or long (from_le_bytes w32 (a ∷ b ∷ c ∷ d ∷ [])) []
kept_in long (zero ∷ bytes) = []
kept_in long bytes = unpacked bytes

-- there are so many long lists that one stands at the place; or the bytes are literals of variables
abbrev pub IsKept : ℕ → List ℕ → Type 0
IsKept count (zero ∷ a ∷ b ∷ c ∷ d ∷ []) = from_le_bytes w32 (a ∷ b ∷ c ∷ d ∷ []) < count
IsKept count (zero ∷ bytes) = Unit {0}
IsKept count bytes = AreLiterals (unpacked bytes)
