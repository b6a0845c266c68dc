-- Worked rows of the tokens.
use Rattle.qbf_tokens.proofs.Cited.{Number, End, tokens}
use Rattle.std.specs.Prelude.{◌≡◌, true, false, [], ◌∷◌, ◌++◌, codes, replicate, refl}
use Rattle.qbf_tokens.specs.declared.token.Comments.TheVariants.{Qdimacs, Qrp}
use Rattle.qbf_tokens.specs.declared.token.Token.TheVariants.{Word, Big, Bad}
use Rattle.qbf_tokens.specs.declared.token.Word.TheVariants as words

nothing : tokens Qdimacs [] ≡ (End, 1) ∷ []
nothing = refl

line_end : tokens Qdimacs (10 ∷ []) ≡ (End, 2) ∷ []
line_end = refl

numbers : tokens Qdimacs (codes "1 -2 0") ≡ (Number false 1, 1) ∷ (Number true 2, 1) ∷ (Number false 0, 1) ∷ (End, 1) ∷ []
numbers = refl

comment : tokens Qdimacs (codes "1" ++ 13 ∷ 10 ∷ codes "c 2" ++ 10 ∷ codes "3") ≡ (Number false 1, 1) ∷ (Number false 3, 3) ∷ (End, 3) ∷ []
comment = refl

hash : tokens Qdimacs (codes "# x" ++ 10 ∷ codes "4") ≡ (Bad, 1) ∷ (Bad, 1) ∷ (Number false 4, 2) ∷ (End, 2) ∷ []
hash = refl

hash_in_trace : tokens Qrp (codes "# x" ++ 10 ∷ codes "4") ≡ (Number false 4, 2) ∷ (End, 2) ∷ []
hash_in_trace = refl

limits : tokens Qdimacs (codes "18446744073709551615 18446744073709551616")
    ≡ (Number false 18446744073709551615, 1) ∷ (Big, 1) ∷ (End, 1) ∷ []
limits = refl

signs : tokens Qdimacs (codes "-0 0 +3 007") ≡ (Bad, 1) ∷ (Number false 0, 1) ∷ (Bad, 1) ∷ (Number false 7, 1) ∷ (End, 1) ∷ []
signs = refl

words_in_any_case : tokens Qrp (codes "r UnSat") ≡ (Word words.R, 1) ∷ (Word words.Unsat, 1) ∷ (End, 1) ∷ []
words_in_any_case = refl

words_in_lower_case : tokens Qrp (codes "p cnf qrp a e r P") ≡ (Word words.P, 1) ∷ (Word words.Cnf, 1) ∷ (Word words.Qrp, 1)
    ∷ (Word words.A, 1) ∷ (Word words.E, 1) ∷ (Word words.R, 1) ∷ (Bad, 1) ∷ (End, 1) ∷ []
words_in_lower_case = refl

leading_zeros : tokens Qdimacs (codes "00 -00 -01 -") ≡ (Number false 0, 1) ∷ (Bad, 1) ∷ (Number true 1, 1) ∷ (Bad, 1) ∷ (End, 1) ∷ []
leading_zeros = refl

comment_after_a_token : tokens Qdimacs (codes "1 0 c") ≡ (Number false 1, 1) ∷ (Number false 0, 1) ∷ (Bad, 1) ∷ (End, 1) ∷ []
comment_after_a_token = refl

comment_line : tokens Qdimacs (codes "cnfcnf cnf") ≡ (End, 1) ∷ []
comment_line = refl

comment_byte_within_a_line : tokens Qdimacs (codes " 1 cnfcnf cnf") ≡ (Number false 1, 1) ∷ (Bad, 1) ∷ (Word words.Cnf, 1) ∷ (End, 1) ∷ []
comment_byte_within_a_line = refl

long_number : tokens Qdimacs (replicate 5000 48 ++ codes "7") ≡ (Number false 7, 1) ∷ (End, 1) ∷ []
long_number = refl

long_minus_zero : tokens Qdimacs (45 ∷ replicate 5000 48) ≡ (Bad, 1) ∷ (End, 1) ∷ []
long_minus_zero = refl

long_big : tokens Qdimacs (49 ∷ replicate 5000 48) ≡ (Big, 1) ∷ (End, 1) ∷ []
long_big = refl
