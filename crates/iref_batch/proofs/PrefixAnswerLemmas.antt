-- Answers to lines of prefix tables.
use Rattle.std.proofs.{Common.{arith, ◌≡◌, true, false, List, Option, Result, option_map}, lemmas.Grind.{common_steps}}
use Rattle.std.specs.Str.{is_utf8}
use Rattle.iref.specs.{Characters.{iri_chars, iri_above_ascii}, Grammar.{IsUri}, Rules.{InUtf8, Text}}
use Rattle.iref.specs.PrefixTable.{PrefixEntry, CompactValue, compacted, compact_text, ExpandRefusal, expanded}
use Rattle.iref.proofs.ReferenceRuleLemmas.{Decides-is_uri}
use Rattle.iref_batch.specs.Lines.{Compact, Expand, Answered, InvalidText, answer_if_valid, answer_to, are_valid_entries, expanded_answer, is_valid, part_field}
use Rattle.iref_batch.specs.{Requests.{asked_of}, declared.request.TableVerb.{TableVerb}}
use Rattle.iref_batch.proofs.PrefixFieldLemmas.{valid_table}

pub unfit_entries : (verb : TableVerb) (text : Text) (es : List PrefixEntry) → are_valid_entries iri_chars es ≡ false → is_valid iri_chars (asked_of verb text es) ≡ false
unfolding is_valid
unfit_entries verb text es h = grind (arith, common_steps)

module _ (es : List PrefixEntry) (v : are_valid_entries iri_chars es ≡ true) where
  pub compact_answer : (text same : Text) (found : Option CompactValue) → InUtf8 (IsUri iri_chars) text → same ≡ text → found ≡ compacted same es → answer_if_valid iri_chars (Compact text es) ≡ Answered (part_field (option_map compact_text found))
  unfolding is_valid answer_to
  compact_answer text same found h s f = grind (arith, Decides-is_uri iri_chars iri_above_ascii text, valid_table)

  pub expand_answer : (text : Text) (outcome : Result Text ExpandRefusal) → is_utf8 text ≡ true → expanded text es ≡ outcome → answer_if_valid iri_chars (Expand text es) ≡ expanded_answer outcome
  unfolding is_valid answer_to
  expand_answer text outcome h f = grind (arith, valid_table)

pub no_compact_answer : (es : List PrefixEntry) (text : Text) → ¬ (InUtf8 (IsUri iri_chars) text) → answer_if_valid iri_chars (Compact text es) ≡ InvalidText
unfolding is_valid
no_compact_answer es text h = grind (arith, Decides-is_uri iri_chars iri_above_ascii text)

pub no_expand_answer : (es : List PrefixEntry) (text : Text) → is_utf8 text ≡ false → answer_if_valid iri_chars (Expand text es) ≡ InvalidText
unfolding is_valid
no_expand_answer es text h = grind arith
