-- Numbers in two parts: those of 32 bits, and beside them the values of the long ones.
use Rattle.std.specs.Prelude.{ℕ, if◌then◌else◌, nat_eq, List, [], ◌∷◌, ℤ, pos, negsuc}
use Rattle.window_numbers.specs.declared.numbers.Numbers.{Numbers}
use Rattle.window_numbers.specs.declared.tails.Parted.{Parted}
use Rattle.window_numbers.specs.declared.values.Values.{Values}

-- a number: the short one, or the long one if -2^31 stands in the place of the short one
abbrev pub value_of : ℤ → ℕ → ℤ
value_of (pos d) long = pos d
value_of (negsuc d) long = if nat_eq d 2147483647 then pos long else negsuc d

-- the value of a number in two parts
abbrev pub value : Parted → ℤ
value p = value_of p.short p.long

-- the numbers whose parts stand in two lists, as many as there are in the first
unfoldable pub parted : List ℤ → List ℕ → List ℤ
parted [] ls = []
parted (s ∷ ss) [] = value_of s 0 ∷ parted ss []
parted (s ∷ ss) (l ∷ ls) = value_of s l ∷ parted ss ls

-- the numbers that are handed to a grammar
abbrev pub numbers_of : Values → List ℤ
numbers_of v = parted v.short.now v.long.now

-- the numbers of a window
abbrev pub held : Numbers → List ℤ
held n = parted n.values n.longs
