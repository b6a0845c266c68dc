-- The words of QCIR-14 (Jordan, Klieber, Seidl 2016).
use Rattle.std.specs.Prelude.{ℕ, List, bytes_eq, codes, if◌then◌else◌}
use Rattle.qcir.specs.declared.keyword.Keyword.{Keyword}
use Rattle.qcir.specs.declared.keyword.Keyword.TheVariants as words

abbrev pub keyword_of : List ℕ → Keyword
keyword_of w =
    if bytes_eq w (codes "and") then words.And
    else (if bytes_eq w (codes "or") then words.Or
    else (if bytes_eq w (codes "xor") then words.Xor
    else (if bytes_eq w (codes "ite") then words.Ite
    else (if bytes_eq w (codes "exists") then words.Exists
    else (if bytes_eq w (codes "forall") then words.Forall
    else (if bytes_eq w (codes "output") then words.Output
    else (if bytes_eq w (codes "free") then words.Free
    else words.Other)))))))
