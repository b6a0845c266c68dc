-- The laws of reading, and the canonical text that is read again.
use Rattle.qrp.proofs.Cited.{common_steps, rules, append-nil, ◌≡◌, ◌<◌, ◌^◌, List, [], ◌∷◌, ◌++◌, map, ◌∙◌, arith, append_assoc, ℕ, Option}
use Rattle.qrp.proofs.Cited.{IfSome, Result, flat_map-append, map-append, flat_map-map, AllByRecursion, IsVariable, Qrp, tokens, number}
use Rattle.qrp.proofs.Cited.{literal, set, IsPlain, IsLine, joined, tokens-lines_text, all_appended, all_mapped, closed_plain}
use Rattle.qrp.proofs.Cited.{Inference, IsInference, numbers, Derivation, IsWellFormed, literals_plain, set_written, step, result, lists}
use Rattle.qrp.proofs.Cited.{lines, text, IsTrace, ReadsText, ItemsOfTrace, bytes_read_as, tokens-EndsOnce, IsReadAs, Gives, reads_bytes}
use Rattle.qrp.proofs.Cited.{is_outside, BytesRead, Ok}
use Rattle.dimacs_syntax.proofs.Cited.token
use Rattle.qrp.proofs.SpelledIsRead.{spelled_is_read, spelled_items, read_once, fault_items}
use Rattle.qrp.specs.Faults.{IsFault, Reads}
use Rattle.qrp.specs.Framed.{framed}
use Rattle.qrp.specs.Reading.{Fault, read, read_trace}
use Rattle.qrp.specs.declared.writing.Frame.{Frame}
use Rattle.qrp.proofs.ReadIsSpelled.{read_explained}

steps_lines : (steps : List Inference) → AllByRecursion IsInference steps → AllByRecursion (λ n. n < 2 ^ 64) (numbers steps)
    → AllByRecursion (λ s. AllByRecursion (λ n. n < 2 ^ 64) s.ants) steps → AllByRecursion IsLine (map step steps)
steps_lines [] h small ants = tt
steps_lines (s ∷ steps) h small ants = (
  (
    tt,
    (
      small.0,
      all_appended IsPlain (map literal s.lits) (number 0 ∷ (map number s.ants ++ number 0 ∷ []))
          (literals_plain s.lits h.0.lits)
          (omega arith, closed_plain (map number s.ants) (all_mapped (λ n. n < 2 ^ 64) IsPlain number (λ n is. is) s.ants ants.0)),
    ),
  ),
  steps_lines steps h.1 small.1 ants.1,
)

lines_written : (d : Derivation) → IsWellFormed d → AllByRecursion IsLine (lines d)
lines_written d w = (
  (tt, (tt, (tt, (w.fits.vars, (w.fits.steps, tt))))),
  all_appended IsLine (map set d.sets ++ map step d.steps) (result d.result ∷ [])
      (all_appended IsLine (map set d.sets) (map step d.steps)
      (all_mapped (λ s. AllByRecursion IsVariable s.vars) IsLine set set_written d.sets w.grammatical.variables)
      (steps_lines d.steps w.grammatical.inferences w.fits.numbers_fit w.fits.ants_fit))
      (search rules, tt),
)

joined_lines : (d : Derivation) → joined (lines d) ++ token.End ∷ [] ≡ lists d.header d.sets d.steps ++ result d.result ++ token.End ∷ []
joined_lines d = grind (arith, common_steps, append-nil, flat_map-append, flat_map-map, append_assoc)

-- A trace that is written is read again.
pub text_is_read : ReadsText
text_is_read d w =
    spelled_is_read (tokens Qrp (text d)) d (record {
      rest = token.End ∷ [];
      spelled = tokens-lines_text Qrp (lines d) (lines_written d w) ∙ joined_lines d;
      grammatical = w.grammatical;
    })

-- So is one with other numbers in its header, another result and no sets.
pub framed_is_read : (frame : Frame) (d : Derivation) → IsWellFormed d → frame.vars < 2 ^ 64
    → read_trace (text (framed frame d.steps)) ≡ Ok (framed frame d.steps)
framed_is_read frame d w small =
    text_is_read (framed frame d.steps) (record {
      grammatical = record { variables = tt; inferences = w.grammatical.inferences; distinct = w.grammatical.distinct };
      fits = record { vars = small; steps = w.fits.count; numbers_fit = w.fits.numbers_fit; ants_fit = w.fits.ants_fit; count = w.fits.count };
    })

-- The items of a trace are its parts in order.
pub trace_items : ItemsOfTrace
trace_items ts d is = grind (arith, common_steps, spelled_items, map-append)

pub bytes_read : BytesRead Reads read Qrp
bytes_read bytes = read_explained (tokens Qrp bytes) (tokens-EndsOnce Qrp bytes)

-- the result of a call that gives what is read
pub given_results : (remaining : Option (List ℕ)) (result : Result Derivation Fault) → Gives result (reads_bytes remaining)
    → IfSome remaining (λ bytes. IsReadAs (tokens Qrp bytes) result)
given_results = bytes_read_as is_outside IsTrace IsFault Qrp read read_explained

pub ruleset trace_laws = (read_explained, read_once, bytes_read, text_is_read)

pub ruleset item_laws = (trace_items, fault_items)
