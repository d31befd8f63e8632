-- Laws of the answers to lines.
use Rattle.std.proofs.Common.{◌≡◌, ◌≢◌, true, ◌&&◌, List, [], ◌∷◌, refl, sym, ◌∙◌, ap, subst, arith, true≢false}
use Rattle.std.proofs.{lemmas.Grind.{common_steps}, lemmas.Bool.{and_parts}, lemmas.Option.{same_Some}}
use Rattle.std.specs.{Prelude.{Option, Some, None, option_map, unwrap_or, is_some}, List.{list_all}}
use Rattle.iref.specs.Characters.{CharTests, AreAboveAscii, uri_chars, iri_chars, iri_above_ascii}
use Rattle.iref.specs.{Rules.{Text, InUtf8}, Grammar.{IsUriReference}, Reference.{read_reference, is_uri}}
use Rattle.iref.specs.{Key.{key, are_alike}, Mapping.{mapped}, declared.compact.label.Labels.TheVariants.{Ascii}}
use Rattle.iref.specs.PrefixTable.{PrefixEntry, PrefixesValue, IsPrefixTable, ascii_table, inserted_all, CompactValue, compacted, compact_text, expanded}
use Rattle.iref_grammar.proofs.ReferenceRuleLemmas.{Decides-is_uri_reference}
use Rattle.iref_grammar.proofs.KeyLemmas.{Decides-are_alike}
use Rattle.iref_grammar.proofs.MappedReferenceLemmas.{reference_is_uri_reference, key-mapped_text}
use Rattle.iref.proofs.PrefixLemmas.{table-nil, table-all, expanded-compacted}
use Rattle.iref_batch.specs.Lines.{Request, ToUri, Compact, Expand, Answered, InvalidText, Verbs, equals_sign, is_valid, part_field, expanded_answer, answer_to, answer_if_valid, answer}
use Rattle.iref_batch.proofs.WiderLineLemmas.{valid}

module _ (set : CharTests) (above : AreAboveAscii set) where
  same_if_valid : (request : Request) → answer_if_valid uri_chars request ≢ InvalidText → answer_if_valid set request ≡ answer_if_valid uri_chars request
  same_if_valid request other = grind (arith, common_steps, valid)

  pub answered_equally : (verbs : Verbs) (line : Text) → answer uri_chars verbs line ≢ InvalidText → answer set verbs line ≡ answer uri_chars verbs line
  unfolding answer
  answered_equally verbs line = grind (arith, common_steps, same_if_valid)

-- ---- `to-uri`

to_uri_text : (r text : Text) → answer_to (ToUri r) ≡ Answered text → mapped r ≡ text
unfolding answer_to
to_uri_text r text h = cc

in_rule : (r : Text) → is_valid iri_chars (ToUri r) ≡ true → InUtf8 (IsUriReference iri_chars) r
unfolding is_valid
in_rule r h = (Decides-is_uri_reference iri_chars iri_above_ascii r).0 h

pub to_uri_rule : (r text : Text) → is_valid iri_chars (ToUri r) ≡ true → answer_to (ToUri r) ≡ Answered text → InUtf8 (IsUriReference uri_chars) text
to_uri_rule r text h k = subst (InUtf8 (IsUriReference uri_chars)) (to_uri_text r text k) (reference_is_uri_reference iri_chars iri_above_ascii r (in_rule r h))

pub to_uri_equal : (r text : Text) → is_valid iri_chars (ToUri r) ≡ true → answer_to (ToUri r) ≡ Answered text → are_alike (read_reference r) (read_reference text) ≡ true
to_uri_equal r text h k =
    (Decides-are_alike (read_reference r) (read_reference text)).1
    (sym (key-mapped_text iri_chars iri_above_ascii r (in_rule r h)) ∙ ap (λ t. key (read_reference t)) (to_uri_text r text k))

-- ---- `compact` and `expand`

-- the field of a part that is there
part_there : (o : Option Text) (text : Text) → part_field o ≡ equals_sign ∷ text → o ≡ Some text
part_there None text h = absurd (let same : 45 ≡ equals_sign = cc in omega arith)
part_there (Some part) text h = let same : part ≡ text = cc in ap (λ t. Some t) same

module _ (iri text : Text) (entries : List PrefixEntry) where
  pub expand_compact : is_valid iri_chars (Compact iri entries) ≡ true → answer_to (Compact iri entries) ≡ Answered (equals_sign ∷ text) → answer_to (Expand text entries) ≡ Answered iri
  unfolding is_valid answer_to
  expand_compact h k =
      let valid_texts = and_parts (is_uri iri_chars iri) (list_all (λ (e : PrefixEntry). is_uri iri_chars e.iri) entries && is_some (inserted_all entries (ascii_table []))) h in
      let valid_entries = and_parts (list_all (λ (e : PrefixEntry). is_uri iri_chars e.iri) entries) (is_some (inserted_all entries (ascii_table []))) valid_texts.1 in
      by (inserted_all entries (ascii_table [])) refl valid_entries.1 k valid_texts.0 valid_entries.0
    where
      answered : (table : PrefixesValue) → IsPrefixTable table → is_uri iri_chars iri ≡ true → (o : Option CompactValue) → compacted iri table.entries ≡ o
          → option_map compact_text o ≡ Some text → expanded_answer (expanded text table.entries) ≡ Answered iri
      answered table t full None e f = absurd (cc f)
      answered table t full (Some c) e f = ap (λ x. expanded_answer (expanded x table.entries)) (sym (same_Some (compact_text c) text f)) ∙ ap expanded_answer (expanded-compacted iri table c t full e)

      by : (o : Option PrefixesValue) → inserted_all entries (ascii_table []) ≡ o → is_some o ≡ true → Answered (part_field (option_map compact_text (compacted iri (unwrap_or o (ascii_table [])).entries))) ≡ Answered (equals_sign ∷ text)
          → is_uri iri_chars iri ≡ true → list_all (λ (e : PrefixEntry). is_uri iri_chars e.iri) entries ≡ true → expanded_answer (expanded text (unwrap_or o (ascii_table [])).entries) ≡ Answered iri
      by None e s f full irises = absurd (true≢false (sym s))
      by (Some table) e s f full irises =
          let field : part_field (option_map compact_text (compacted iri table.entries)) ≡ equals_sign ∷ text = cc in
          answered table (table-all entries (ascii_table []) table (table-nil Ascii) irises e) full (compacted iri table.entries) refl (part_there (option_map compact_text (compacted iri table.entries)) text field)
