-- The names that the proofs cite most, passed on from one place. Declares nothing.
pub use Rattle.qbf_core.proofs.BlockLaws.{Alternates-blocks_of, blocks_of-pairs, pairs-blocks_of}
pub use Rattle.lists.proofs.DistinctNumbers.{front_all, front_distinct, middle, new_number, push_distinct}
pub use Rattle.qbf_core.specs.Blocks.{AreBound, IsPrefix, pairs_of_block, with_pair}
pub use Rattle.qbf_core.specs.Qbf.{IsWellFormed}
pub use Rattle.dimacs_syntax.proofs.CanonicalLines.{literals_plain, set_written}
pub use Rattle.dimacs_syntax.proofs.Cited.{AllByRecursion, AllByRecursion-push, Block, Ends, IsSent, IsVariable, Lined, Literal, Qbf}
pub use Rattle.dimacs_syntax.proofs.Cited.{Qdimacs, Quantifier, Token, blocks_of, flat_map, flat_map-append, flat_map-map, is_bound}
pub use Rattle.dimacs_syntax.proofs.Cited.{length-append, letter, literal, map-append, number, pairs, read-one, sent_fails, sent_part, set}
pub use Rattle.dimacs_syntax.proofs.Cited.{tokens, without_lines, variables}
pub use Rattle.dimacs_syntax.proofs.Worked.{all, exists}
pub use Rattle.dimacs_syntax.proofs.WrittenParts.{closed_literals, set_line}
pub use Rattle.dimacs_syntax.specs.Decode.{decode_member}
pub use Rattle.dimacs_syntax.specs.Texts.{closing, literal_text}
pub use Rattle.qbf_text.proofs.AcceptedTokens.{Leads, Stays, flat_map-push, leads_reads, leads_then, split_at}
pub use Rattle.qbf_text.proofs.ReadTexts.{ResultsAreRead, bytes_read_as, explained, whole_given}
pub use Rattle.qbf_tokens.proofs.CanonicalTokens.{all_appended, all_both, all_mapped, all_of, closed_plain, joined, tokens-lines_text}
pub use Rattle.qbf_text.proofs.OneToken.{after}
pub use Rattle.qbf_text.proofs.LeadingNumbers.{leads_further, leads_more, leads_none}
pub use Rattle.qbf_text.proofs.SentParts.{drop_at, sent_last, zero_decimal}
pub use Rattle.qbf_tokens.proofs.TokensEndOnce.{tokens-EndsOnce}
pub use Rattle.qbf_text.specs.WholeTexts.{BytesRead, ReadsAsRead, ReadsOnce}
pub use Rattle.qbf_tokens.specs.Canonical.{IsLine, IsPlain, line_text, spaced_number, token_text}
pub use Rattle.qbf_tokens.specs.Left.{is_end}
pub use Rattle.qbf_text.specs.Rows.{Fails, Goes}
pub use Rattle.qdimacs.specs.Faults.{IsReadAs, AreGood, IsFault, Reads, Spells}
pub use Rattle.qdimacs.specs.Grammar.{IsFormula, clause, header, lines, spelling, text}
pub use Rattle.qdimacs.specs.Laws.{ReadsText}
pub use Rattle.qdimacs.specs.States.{IsMade, IsSound, heading, formula_of, row_to, state_at}
pub use Rattle.qdimacs.specs.Reading.{ReadResult, AreFrom, AtP, Between, Clauses, Gives, Heading, InClause, InHeader, InSet, IsFull, IsWhole}
pub use Rattle.qdimacs.specs.Reading.{Pairs, State, Row, Whole, result_of, between_row, faults}
pub use Rattle.qdimacs.specs.Reading.{is_outside, read, read_formula, reads_bytes, row, set_row}
pub use Rattle.qdimacs.specs.Texts.{blocks_rest, clauses_text, opening, sets_text}
pub use Rattle.qdimacs.specs.declared.fault.FormulaFault.{FormulaFault}
pub use Rattle.qdimacs.specs.declared.fault.FormulaFault.TheVariants.{F2, F3, F4, F5, F6, F7, F8}
pub use Rattle.qdimacs.specs.declared.states.Parts.{Parts}
pub use Rattle.std.proofs.Common.{Bool, Err, IfSome, List, None, Ok, Option, Result, Some, [], ap, append_assoc, arith, drop, eqb, false}
pub use Rattle.std.proofs.Common.{inl, inr, length, map, refl, rules, slice_get, subst, sym, true, ℕ, ◌++◌, ◌+◌, ◌-◌, ◌<◌, ◌||◌, ◌∙◌, ◌∷◌}
pub use Rattle.std.proofs.Common.{◌≡◌, ◌≢◌, ◌≤◌, ◌⊎◌}
pub use Rattle.std.proofs.lemmas.Grind.{common_steps}
pub use Rattle.std.proofs.lemmas.List.{append-nil, drop_all, length-map}
pub use Rattle.std.proofs.lemmas.Map.Keys.{IsDistinct-cons}
pub use Rattle.std.proofs.lemmas.Map.Steps.{length-le_from_distinct_below}
pub use Rattle.std.specs.List.{list_any}
