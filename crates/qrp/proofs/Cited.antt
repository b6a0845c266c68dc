-- The names that the proofs cite most, passed on from one place. Declares nothing.
pub use Rattle.lists.proofs.DistinctNumbers.{new_number, push_distinct}
pub use Rattle.dimacs_syntax.proofs.CanonicalLines.{literals_plain, set_written}
pub use Rattle.dimacs_syntax.proofs.Cited.{AllByRecursion, AllByRecursion-push, Block, IsSent, IsVariable, Lined, Literal, Qrp, Quantifier}
pub use Rattle.dimacs_syntax.proofs.Cited.{Read, Token, ahead, flat_map, flat_map-append, flat_map-map, left, length-append, letter, literal}
pub use Rattle.dimacs_syntax.proofs.Cited.{map-append, number, read-one, sent_fails, sent_part, set, tokens, tokens_next, without_lines}
pub use Rattle.dimacs_syntax.proofs.Worked.{all, exists}
pub use Rattle.dimacs_syntax.proofs.WrittenParts.{closed_numbers, set_line}
pub use Rattle.dimacs_syntax.specs.Texts.{set_text}
pub use Rattle.qbf_text.proofs.AcceptedTokens.{flat_map-push, split_at}
pub use Rattle.qbf_text.proofs.ReadTexts.{bytes_read_as, explained}
pub use Rattle.qbf_tokens.proofs.CanonicalTokens.{all_appended, all_mapped, closed_plain, joined, tokens-lines_text}
pub use Rattle.qbf_text.proofs.LeadingNumbers.{leads_further, leads_more, leads_none}
pub use Rattle.qbf_text.proofs.SentParts.{line_rest-map, part_at_next, part_next, zero_rest}
pub use Rattle.qbf_tokens.proofs.TokensEndOnce.{tokens-EndsOnce}
pub use Rattle.qbf_text.specs.WholeTexts.{BytesRead, ReadsAsRead, ReadsOnce, fault_of}
pub use Rattle.qbf_tokens.specs.Canonical.{IsLine, IsPlain, line_text}
pub use Rattle.qbf_tokens.specs.Lined.{EndsOnce, Known}
pub use Rattle.qbf_text.specs.Reading.{Reading}
pub use Rattle.qbf_text.specs.Rows.{Cut, reads_from}
pub use Rattle.qbf_text.specs.Stopping.{IfKnown, Stops}
pub use Rattle.qbf_text.specs.Taking.{Leaves, ReadsWhole}
pub use Rattle.qbf_text.specs.declared.grammar.ReadError.{ReadError}
pub use Rattle.qrp.specs.Returns.{IsReadAs, Gives, StopsAfterResult, is_outside, reads_bytes}
pub use Rattle.trace_items.specs.Derivations.{AreGrammatical, Derivation, IsWellFormed, items_of_lists, steps_at, with_steps_at}
pub use Rattle.trace_items.specs.Flat.{IsFlat, kept_of, with_item}
pub use Rattle.qrp.specs.NextItem.{GivesNextItem, GivesUnless, StopsAfterPart, known_items, left_after, state_next, stage_after}
pub use Rattle.qrp.specs.Grammar.{IsTrace, header, lines, lists, result, result_word, step, text}
pub use Rattle.trace_items.specs.Inferences.{Inference, IsInference, IsLiteral, IsNumber, numbers}
pub use Rattle.qrp.specs.Items.{ItemsRead, Stands}
pub use Rattle.qrp.specs.Laws.{ItemsOfTrace, ReadsText}
pub use Rattle.qrp.specs.States.{IsSound, state_at}
pub use Rattle.trace_items.specs.Parts.{Stays}
pub use Rattle.qrp.specs.Texts.{step_text, steps_text}
pub use Rattle.qrp.specs.declared.fault.TraceFault.{TraceFault}
pub use Rattle.qrp.specs.declared.fault.TraceFault.TheVariants.{P1, P2, P3, P4, P5, P6, P7, P8, P9}
pub use Rattle.trace_items.specs.declared.item.Header.{Header}
pub use Rattle.trace_items.specs.declared.item.Item.{Item}
pub use Rattle.trace_items.specs.declared.item.Outcome.{Outcome}
pub use Rattle.trace_items.specs.declared.item.Outcome.TheVariants.{Sat, Unsat}
pub use Rattle.qrp.specs.declared.reader.Stage.{Stage}
pub use Rattle.qrp.specs.declared.reader.Stage.TheVariants.{AtHeader, AtLists}
pub use Rattle.std.proofs.Common.{Err, IfSome, List, Ok, Option, Result, Some, [], ap, append-nil, append_assoc, arith, drop}
pub use Rattle.std.proofs.Common.{◌-◌, false, inl, inr, length, map, nat_eq, refl, rules, suc, sym, zero, ℕ, ◌++◌, ◌+◌, ◌<◌}
pub use Rattle.std.proofs.Common.{◌^◌, ◌∙◌, ◌∷◌, ◌≡◌, ◌≤◌, ◌⊎◌}
pub use Rattle.std.proofs.lemmas.Grind.{common_steps}
pub use Rattle.step_index.specs.Numbers.{is_used}
