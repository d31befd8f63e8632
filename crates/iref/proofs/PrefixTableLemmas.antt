-- What the calls of prefix tables answer, case by case.
use Rattle.std.proofs.Common.{arith, ◌≡◌, ◌≢◌, true, false, [], ◌∷◌, ◌++◌, length, map, drop, sym, ap, subst, ◌∙◌, Option, Some, None, Ok, Err, IsOk, option_map, is_some}
use Rattle.std.specs.List.{find}
use Rattle.iref_grammar.specs.{Characters.{iri_chars, iri_above_ascii}, Reference.{is_uri}, Rules.{Text, InUtf8}}
use Rattle.iref_grammar.specs.{Grammar.{colon, IsUri}, Texts.{before, after, begins_with}}
use Rattle.iref_grammar.proofs.ReferenceRuleLemmas.{Decides-is_uri}
use Rattle.iref.specs.PrefixLabels.{is_label}
use Rattle.iref.specs.PrefixTable.{PrefixEntry, PrefixTable, PrefixesValue, has_label, get, BadLabel, Taken, inserted, is_taken, with_iri, replaced, longest_fit, IsPrefixTable, compacted, compact_text, NoColon, UnknownLabel, NotAnIri, if_iri, expanded}
use Rattle.iref.proofs.PrefixPlaceLemmas.{changed_none}
use Rattle.iref.proofs.PrefixLemmas.{is_taken-get, longest_fit-is, table-new, table-replaced, is_taken_changed, replaced-taken, expanded-compacted}

-- ---- inserts

pub no_label : (label iri : Text) (table : PrefixesValue) → is_label table.labels label ≡ false → inserted label iri table ≡ Err BadLabel
unfolding inserted
no_label label iri table h = grind arith

pub taken : (label iri : Text) (table : PrefixesValue) → is_label table.labels label ≡ true → is_some (find (has_label label) table.entries) ≡ true → inserted label iri table ≡ Err Taken
unfolding inserted get
taken label iri table h k = grind (arith, is_taken-get)

pub fresh : (label iri : Text) (table : PrefixesValue) → is_label table.labels label ≡ true → is_some (find (has_label label) table.entries) ≡ false
    → inserted label iri table ≡ Ok (record table { entries = table.entries ++ record { label = label; iri = iri } ∷ [] })
unfolding inserted get
fresh label iri table h k = grind (arith, is_taken-get)

pub free : (label : Text) (table : PrefixTable) → is_some (find (has_label label) table) ≡ false → is_taken label table ≡ false
unfolding get
free label table h = grind (arith, is_taken-get)

pub stays_table : (label iri : Text) (table : PrefixesValue) → IsPrefixTable table → is_uri iri_chars iri ≡ true → is_label table.labels label ≡ true → is_some (find (has_label label) table.entries) ≡ false
    → IsPrefixTable (record table { entries = table.entries ++ record { label = label; iri = iri } ∷ [] })
stays_table label iri table t full h k = table-new label iri table (record table { entries = table.entries ++ record { label = label; iri = iri } ∷ [] }) t full (fresh label iri table h k)

-- ---- replacements

pub not_replaced : (label iri : Text) (table : PrefixesValue) → is_label table.labels label ≡ false → replaced label iri table ≡ Err BadLabel
unfolding replaced
not_replaced label iri table h = grind arith

pub replaced_new : (label iri : Text) (table : PrefixesValue) → is_label table.labels label ≡ true → is_taken label table.entries ≡ false
    → replaced label iri table ≡ Ok (record table { entries = table.entries ++ record { label = label; iri = iri } ∷ [] })
unfolding replaced
replaced_new label iri table h free = grind arith

-- a label in the rule is not refused
pub may_replace : (label iri : Text) (table : PrefixesValue) → is_label table.labels label ≡ true → IsOk (replaced label iri table)
unfolding replaced
may_replace label iri table h = grind arith

-- where the label has no entry, the replacement changes none, and the insert adds one
pub stays_replaced : (label iri text : Text) (table : PrefixesValue) (entries : PrefixTable) → IsPrefixTable table → is_uri iri_chars iri ≡ true → is_label table.labels label ≡ true → is_taken label table.entries ≡ false
    → entries ≡ map (with_iri label text) table.entries ++ record { label = label; iri = iri } ∷ [] → IsPrefixTable (record table { entries = entries })
stays_replaced label iri text table entries t full h free is =
    let e : PrefixEntry = record { label = label; iri = iri } in
    let new : PrefixesValue = record table { entries = table.entries ++ e ∷ [] } in
    subst (λ es. IsPrefixTable (record table { entries = es })) (sym (is ∙ ap (λ es. es ++ e ∷ []) (changed_none label text table.entries free)))
    (table-replaced label iri table new t full (replaced_new label iri table h free))

-- ---- shortened

pub longest_begins : (iri : Text) (table : PrefixTable) (e : PrefixEntry) → longest_fit iri table ≡ Some e → begins_with e.iri iri ≡ true
longest_begins iri table e h = grind (arith, longest_fit-is iri table)

pub compacted_by : (iri : Text) (table : PrefixTable) (o : Option PrefixEntry) → longest_fit iri table ≡ o
    → compacted iri table ≡ option_map (λ (e : PrefixEntry). record { label = e.label; rest = drop (length e.iri) iri }) o
unfolding compacted
compacted_by iri table o h = grind arith

pub expands : (iri : Text) (table : PrefixesValue) (e : PrefixEntry) → IsPrefixTable table → is_uri iri_chars iri ≡ true → longest_fit iri table.entries ≡ Some e
    → expanded (compact_text (record { label = e.label; rest = drop (length e.iri) iri })) table.entries ≡ Ok iri
expands iri table e t full h = expanded-compacted iri table (record { label = e.label; rest = drop (length e.iri) iri }) t full (compacted_by iri table.entries (Some e) h)

-- ---- expanded

pub no_colon : (text : Text) (table : PrefixTable) → after colon text ≡ None → expanded text table ≡ Err NoColon
unfolding expanded
no_colon text table h = grind arith

pub unknown_label : (text rest : Text) (table : PrefixTable) → after colon text ≡ Some rest → get (before (colon ∷ []) text) table ≡ None → expanded text table ≡ Err UnknownLabel
unfolding expanded
unknown_label text rest table h k = grind arith

pub known_label : (text rest iri : Text) (table : PrefixTable) → after colon text ≡ Some rest → get (before (colon ∷ []) text) table ≡ Some iri → expanded text table ≡ if_iri (iri ++ rest)
unfolding expanded
known_label text rest iri table h k = grind arith

pub has_colon : (text rest iri : Text) (table : PrefixTable) → after colon text ≡ Some rest → get (before (colon ∷ []) text) table ≡ Some iri → expanded text table ≢ Err NoColon
has_colon text rest iri table h k e = grind (arith, known_label text rest iri table)

pub has_known_label : (text rest iri : Text) (table : PrefixTable) → after colon text ≡ Some rest → get (before (colon ∷ []) text) table ≡ Some iri → expanded text table ≢ Err UnknownLabel
has_known_label text rest iri table h k e = grind (arith, known_label text rest iri table)

pub iri_text : (text : Text) → InUtf8 (IsUri iri_chars) text → if_iri text ≡ Ok text
iri_text text h = grind (arith, Decides-is_uri iri_chars iri_above_ascii text)

pub no_iri : (text : Text) → (InUtf8 (IsUri iri_chars) text → ⊥) → if_iri text ≡ Err NotAnIri
no_iri text h = grind (arith, Decides-is_uri iri_chars iri_above_ascii text)

-- ---- what each call takes

pub ruleset inserts = (no_label, taken, free, fresh)

pub ruleset replaces = (not_replaced, replaced-taken, replaced_new, may_replace, is_taken_changed, changed_none)

pub ruleset compacts = (longest_begins, compacted_by, expands)

pub ruleset expanding = (no_colon, unknown_label, known_label, has_colon, has_known_label)

pub ruleset iris = (iri_text, no_iri)
