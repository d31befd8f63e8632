-- How long the components of a reference are, and where they stand then.
use Rattle.std.specs.Prelude.{◌≡◌, Bool, true, not, nat_eq, nat_lt, if◌then◌else◌, ℕ, zero, suc, ◌+◌, length}
use Rattle.std.specs.{Prelude.{Option, Some, None, option_map}, declared.ops.Range.{Range}}
use Rattle.iref_grammar.specs.{declared.context.PathContext.{PathContext}, declared.offsets.Offsets.{Offsets}}
use Rattle.iref_grammar.specs.{Rules.{Text}, Authority.{spell_authority}, ComponentTexts.{ComponentTexts}}
use Rattle.iref_grammar.specs.{PathValue.{spell_path}, Reference.{ReferenceValue, read_reference}}
use Rattle.iref_reference_text.specs.declared.lengths.Lengths.{Lengths}
pub use Rattle.iref_splice.specs.Changes.{with_mark}

-- of the components of a reference, each with its delimiter
abbrev pub lengths_of : ReferenceValue → Lengths
lengths_of r = record {
  scheme = with_mark 1 r.scheme;
  authority = with_mark 2 (option_map spell_authority r.authority);
  path = length (spell_path r.path);
  query = with_mark 1 r.query;
  fragment = with_mark 1 r.fragment;
}

-- of texts of components
abbrev pub lengths_of_texts : ComponentTexts → Lengths
lengths_of_texts t = record {
  scheme = with_mark 1 t.scheme;
  authority = with_mark 2 t.authority;
  path = length t.path;
  query = with_mark 1 t.query;
  fragment = with_mark 1 t.fragment;
}

-- these, with a path of this length, and the query and the fragment of texts of components
abbrev pub lengths_before : Lengths → ℕ → ComponentTexts → Lengths
lengths_before l path t = record l { path = path; query = with_mark 1 t.query; fragment = with_mark 1 t.fragment }

-- what stands before the path
abbrev pub context_by : Lengths → PathContext
context_by l = record { has_scheme = not (nat_eq l.scheme 0); has_authority = not (nat_eq l.authority 0) }

-- the scheme, where it and its delimiter are this long
abbrev pub range_before : ℕ → Option (Range ℕ)
range_before zero = None
range_before (suc n) = Some (record { start = 0; end = n })

-- a part after a delimiter that stands at start, where the two are this long
abbrev pub range_after : ℕ → ℕ → ℕ → Option (Range ℕ)
range_after start mark len = if nat_lt len mark then None else Some (record { start = start + mark; end = start + len })

abbrev pub path_after : Lengths → ℕ
path_after l = l.scheme + l.authority

abbrev pub query_after : Lengths → ℕ
query_after l = path_after l + l.path

abbrev pub fragment_after : Lengths → ℕ
fragment_after l = query_after l + l.query

-- the offsets of components of these lengths
abbrev pub placed : Lengths → Offsets
placed l = record {
  scheme = range_before l.scheme;
  authority = range_after l.scheme 2 l.authority;
  path = record { start = path_after l; end = query_after l };
  query = range_after (query_after l) 1 l.query;
  fragment = range_after (fragment_after l) 1 l.fragment;
}

-- of the whole text
abbrev pub total_length : Lengths → ℕ
total_length l = fragment_after l + l.fragment

-- the text is in the rule, and its components are this long
pub record HasLengths (test : Text → Bool) (l : Lengths) (text : Text) : Type 0 where
  pub in_rule : test text ≡ true
  pub lengths : l ≡ lengths_of (read_reference text)
