-- What a map over canonical texts has, once a value is put.
use Rattle.std.proofs.{Common.{cond, refl, sym, ◌∙◌, ap, subst, inl, inr, ◌≡◌, List, [], ◌∷◌, map, IsSome, Some, String, string_bytes}, lemmas.Bool.{cases_Bool, cond-false}}
use Rattle.std.proofs.{lemmas.Slice.Eq.{bytes_eq-Decides}, lemmas.Map.Text.{hash_map_updates_text}}
use Rattle.std.specs.{HashMap.{HashMap, Updates, get_by_text}, Map.{lookup}, Str.{bytes_eq}, String.{string_eq}}
use Rattle.iref.specs.{Canonical.{canonical_text}, CanonicalTexts.{IsCanonicalTextOf}}
use Rattle.iref.specs.{Characters.{uri_above_ascii, uri_chars}, Key.{key}, Reference.{ReferenceValue, read_reference}}
use Rattle.iref.specs.Rules.{Text}
use Rattle.iref_canonical.proofs.CanonicalTextLemmas.{canonical_text-read, key_kept}
use Rattle.iref_reference.proofs.CanonicalLemmas.{tied_by_texts}
use Rattle.iref_examples.specs.Caches.{HasCanonicalKeys, HasPut, entries_of, found}

-- a text that is copied from a canonical one is canonical
pub copy_canonical : (text copied : Text) (k : ReferenceValue) → text ≡ copied → copied ≡ canonical_text k → key (read_reference copied) ≡ k → IsCanonicalTextOf k text
copy_canonical text copied k same is reads = (same ∙ is, ap (λ t. key (read_reference t)) same ∙ reads)

lookup-texts : {A V : Type 0} (text : Text) (entries : List (String A × V)) → lookup (bytes_eq text) (map (λ e. (string_bytes e.0, e.1)) entries) ≡ lookup (λ k. bytes_eq text (string_bytes k)) entries
lookup-texts text [] = refl
lookup-texts text (e ∷ entries) = ap (cond (bytes_eq text (string_bytes e.0)) (Some e.1)) (lookup-texts text entries)

module _ {A V S : Type 0} (values : HashMap (String A) V S) (cache : List (Text × V)) (seen : entries_of values ≡ cache) where
  -- a URI finds what the map has under its canonical text
  pub found-canonical : (text : Text) (uri : ReferenceValue) → text ≡ canonical_text (key uri) → get_by_text values text ≡ found cache uri
  found-canonical text uri is = sym (lookup-texts text values.entries) ∙ ap (lookup (bytes_eq text)) seen ∙ ap (λ t. lookup (bytes_eq t) cache) is

  -- what a text finds by itself, each spelling of its URI finds
  pub found-key : (text : Text) (value : V) → HasCanonicalKeys (entries_of values) → Some value ≡ get_by_text values text → Some value ≡ found cache (read_reference text)
  found-key text value canonical has =
      has ∙ found-canonical text (read_reference text) (canonical text (subst IsSome (has ∙ sym (lookup-texts text values.entries)) refl))

module _ {A V S : Type 0} (old new : HashMap (String A) V S) (text : String A) (uri : ReferenceValue) (put : V) (is : IsCanonicalTextOf (key uri) (string_bytes text))
    (updates : Updates string_eq old new text (Some put)) where
  -- the text has what was put, and any other text what it had before
  text_put : (other : Text) → lookup (bytes_eq other) (entries_of new) ≡ cond (bytes_eq (string_bytes text) other) (Some put) (lookup (bytes_eq other) (entries_of old))
  text_put other =
      lookup-texts other new.entries ∙ hash_map_updates_text (string_bytes text) old new (Some put) updates other
      ∙ ap (cond (bytes_eq (string_bytes text) other) (Some put)) (sym (lookup-texts other old.entries))

  -- each spelling of the URI finds what stands under its canonical text
  pub put_by_text : HasPut (entries_of old) (entries_of new) uri put
  put_by_text other readable =
      let kept = ap key (canonical_text-read uri_chars uri_above_ascii other readable) ∙ key_kept uri_chars uri_above_ascii other readable in
      text_put (canonical_text (key other))
      ∙ ap (λ b. cond b (Some put) (found (entries_of old) other)) (sym (tied_by_texts (key uri) (key other) (string_bytes text) (canonical_text (key other)) is (refl, kept)))

  -- each key stays a canonical text
  pub keys_canonical : HasCanonicalKeys (entries_of old) → HasCanonicalKeys (entries_of new)
  keys_canonical canonical other has =
      elim (cases_Bool (bytes_eq (string_bytes text) other)) [
        | inl same ↦
            let equal = (bytes_eq-Decides (string_bytes text) other).0 same in
            sym equal ∙ is.0 ∙ ap canonical_text (sym is.1) ∙ ap (λ t. canonical_text (key (read_reference t))) equal
        | inr apart ↦ canonical other (subst IsSome (text_put other ∙ cond-false _ _ _ apart) has)
      ]
