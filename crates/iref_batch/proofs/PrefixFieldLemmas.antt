-- Entries of a prefix table, read from fields.
use Rattle.std.proofs.Common.{◌≡◌, ◌<◌, ℕ, Bool, true, false, List, [], ◌∷◌, ◌++◌, Option, Some, Ok, Err, refl, append_assoc, sym, ap, ◌∙◌, option_map, option_and_then, arith}
use Rattle.std.proofs.{lemmas.Grind.{common_steps}, lemmas.Bool.Decides.{nat_tests}}
use Rattle.std.proofs.{lemmas.List.Sums.{AllPass-from_list_all}, lemmas.Str.{IsUtf8-from_ascii}}
use Rattle.std.proofs.{lemmas.Str.Ascii.{IsAscii-from_all}, lemmas.List.Folds.{list_all-append}}
use Rattle.std.specs.{List.{list_all}, Str.{IsUtf8}}
use Rattle.iref.specs.{Characters.{iri_chars, iri_above_ascii}, Grammar.{IsUri}, Texts.{after, before}}
use Rattle.iref.specs.{Reference.{is_uri}, Rules.{InUtf8, Text}}
use Rattle.iref.specs.PrefixTable.{PrefixEntry, PrefixesValue, InsertRefusal, ascii_table, inserted, unless_refused, inserted_all}
use Rattle.iref.specs.{PrefixLabels.{is_ascii_label, is_label_char}, declared.compact.label.Labels.TheVariants.{Ascii}}
use Rattle.iref.proofs.{ReferenceRuleLemmas.{Decides-is_uri}, PrefixLemmas.{inserted-ok, inserted-bad_label}}
use Rattle.iref_batch.specs.Lines.{equals_sign, are_valid_entries, read_entry, table_of}
use Rattle.iref_batch.specs.PrefixFields.{can_insert, entries_read, HasTaken}
use Rattle.iref_batch.proofs.FieldListLemmas.{next_read}

abbrev full : PrefixEntry → Bool
full e = is_uri iri_chars e.iri

inserted_all-append : (es more : List PrefixEntry) (table : PrefixesValue) → inserted_all (es ++ more) table ≡ option_and_then (inserted_all more) (inserted_all es table)
unfolding inserted_all
inserted_all-append [] more table = refl
inserted_all-append (e ∷ es) more table = grind (arith, λ (t : PrefixesValue). inserted_all-append es more t)

-- the table holds what was inserted
inserted_all-is : (es : List PrefixEntry) (table new : PrefixesValue) → inserted_all es table ≡ Some new → new.entries ≡ table.entries ++ es
unfolding inserted_all
inserted_all-is [] table new h = grind (arith, common_steps)
inserted_all-is (e ∷ es) table new h = grind (arith, common_steps, inserted-ok, λ (t : PrefixesValue). inserted_all-is es t new)

pub valid_table : (es : List PrefixEntry) → are_valid_entries iri_chars es ≡ true → table_of es ≡ es
valid_table es h = grind (arith, inserted_all-is)

-- an entry that cannot be inserted, whatever follows
refused_from : (es more : List PrefixEntry) (e : PrefixEntry) → inserted_all es (ascii_table []) ≡ Some (ascii_table es) → can_insert (ascii_table es) e ≡ false → are_valid_entries iri_chars (es ++ e ∷ more) ≡ false
unfolding inserted_all
refused_from es more e h k = grind (arith, common_steps, inserted_all-append, list_all-append)

-- ---- labels are ASCII

label_byte : (c : ℕ) → is_label_char c ≡ true → c < 128
label_byte c h = grind (arith, nat_tests)

label_bytes : (label : Text) → is_ascii_label label ≡ true → list_all is_label_char label ≡ true
unfolding is_ascii_label
label_bytes [] h = refl
label_bytes (c ∷ cs) h = grind (arith, nat_tests)

label_utf8 : (label : Text) → is_ascii_label label ≡ true → IsUtf8 label
label_utf8 label h = IsUtf8-from_ascii label (IsAscii-from_all label (λ k d l. label_byte _ (AllPass-from_list_all is_label_char label (label_bytes label h) k d l)))

-- no table takes an entry whose label is no text, or whose IRI is not one
pub no_text_no_label : (table : PrefixesValue) (e : PrefixEntry) → table.labels ≡ Ascii → ¬ (IsUtf8 e.label) → can_insert table e ≡ false
no_text_no_label table e ascii h = grind (arith, inserted-bad_label, label_utf8)

pub no_iri_no_entry : (table : PrefixesValue) (e : PrefixEntry) → ¬ (InUtf8 (IsUri iri_chars) e.iri) → can_insert table e ≡ false
no_iri_no_entry table e h = grind (arith, Decides-is_uri iri_chars iri_above_ascii e.iri)

pub refused_entry : (table : PrefixesValue) (e : PrefixEntry) (refusal : InsertRefusal) → inserted e.label e.iri table ≡ Err refusal → can_insert table e ≡ false
refused_entry table e refusal h = grind arith

pub iri_accepted : (iri : Text) → InUtf8 (IsUri iri_chars) iri → is_uri iri_chars iri ≡ true
iri_accepted iri h = (Decides-is_uri iri_chars iri_above_ascii iri).1 h

-- a field is read as its label and its IRI
pub field_read : (field label iri : Text) (value : Option Text) → label ≡ before (equals_sign ∷ []) field → value ≡ after equals_sign field → value ≡ Some iri → read_entry field ≡ Some (record { label = label; iri = iri })
field_read field label iri value l v e = grind arith

-- ---- one field after the other

-- the fields before the ones that are left were read as entries
pub record Reading (all left : List Text) (table : PrefixesValue) (valid : Bool) : Type 0 where
  pub entries : List PrefixEntry
  pub labels : table.labels ≡ Ascii
  pub read : entries_read all ≡ option_map (λ more. entries ++ more) (entries_read left)
  pub table_is : valid ≡ true → table.entries ≡ entries
  pub all_full : valid ≡ true → list_all full entries ≡ true
  pub all_in : valid ≡ true → inserted_all entries (ascii_table []) ≡ Some (ascii_table entries)
  pub refused : valid ≡ false → (more : List PrefixEntry) → are_valid_entries iri_chars (entries ++ more) ≡ false

pub reading_begun : (all : List Text) → Reading all all (ascii_table []) true
unfolding inserted_all
reading_begun all = grind arith

inserted_one : (es : List PrefixEntry) (e : PrefixEntry) → inserted_all es (ascii_table []) ≡ Some (ascii_table es) → inserted e.label e.iri (ascii_table es) ≡ Ok (ascii_table (es ++ e ∷ [])) → inserted_all (es ++ e ∷ []) (ascii_table []) ≡ Some (ascii_table (es ++ e ∷ []))
unfolding inserted_all
inserted_one es e h k = inserted_all-append es (e ∷ []) (ascii_table []) ∙ ap (option_and_then (inserted_all (e ∷ []))) h ∙ ap (unless_refused (inserted_all [])) k

pub reading_more : (all left rest : List Text) (field : Text) (table new : PrefixesValue) (valid : Bool) → left ≡ field ∷ rest → HasTaken (read_entry field) table new → Reading all left table valid → Reading all rest new valid
unfolding inserted_all
reading_more all left rest field table new valid l t r =
    let e = t.0 in
    let ok = inserted-ok e.label e.iri table new t.3 in
    let is : valid ≡ true → table ≡ ascii_table r.entries = λ h i. record { labels = r.labels i; entries = r.table_is h i } in
    let labels : new.labels ≡ Ascii = sym ok.labels ∙ r.labels in
    let grown : valid ≡ true → new.entries ≡ r.entries ++ e ∷ [] = λ h. sym ok.stands ∙ ap (λ es. es ++ e ∷ []) (r.table_is h) in
    let new_is : valid ≡ true → new ≡ ascii_table (r.entries ++ e ∷ []) = λ h i. record { labels = labels i; entries = grown h i } in
    let taken : valid ≡ true → inserted e.label e.iri (ascii_table r.entries) ≡ Ok (ascii_table (r.entries ++ e ∷ [])) = λ h. ap (inserted e.label e.iri) (sym (is h)) ∙ t.3 ∙ ap (λ x. Ok x) (new_is h) in record {
      entries = r.entries ++ e ∷ [];
      labels = labels;
      read = next_read read_entry all left rest field r.entries e l t.1 r.read;
      table_is = grown;
      all_full = λ h. grind (arith, common_steps);
      all_in = λ h. inserted_one r.entries e (r.all_in h) (taken h);
      refused = λ h more. grind (arith, append_assoc, r.refused h (e ∷ more));
    }

refused_there : (es more : List PrefixEntry) (e : PrefixEntry) (table : PrefixesValue) → table.labels ≡ Ascii → can_insert table e ≡ false → table.entries ≡ es → inserted_all es (ascii_table []) ≡ Some (ascii_table es) → are_valid_entries iri_chars (es ++ e ∷ more) ≡ false
refused_there es more e table ascii bad is h =
    let same : ascii_table es ≡ table = λ i. record { labels = sym ascii i; entries = sym is i } in
    refused_from es more e h (ap (λ t. can_insert t e) same ∙ bad)

pub reading_invalid : (all left rest : List Text) (field : Text) (table : PrefixesValue) (valid : Bool) → left ≡ field ∷ rest → ((e : PrefixEntry) × (read_entry field ≡ Some e) × (can_insert table e ≡ false)) → Reading all left table valid → Reading all rest table false
reading_invalid all left rest field table valid l bad r = record {
  entries = r.entries ++ bad.0 ∷ [];
  labels = r.labels;
  read = next_read read_entry all left rest field r.entries bad.0 l bad.1 r.read;
  table_is = λ h. absurd (cc);
  all_full = λ h. absurd (cc);
  all_in = λ h. absurd (cc);
  refused = λ h more. grind (arith, append_assoc, refused_there r.entries more bad.0 table r.labels bad.2, r.table_is, r.all_in, λ (f : valid ≡ false). r.refused f (bad.0 ∷ more));
}
