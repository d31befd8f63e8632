-- Each component of a reference stands in its range of the spelling.
use Rattle.std.proofs.Common.{◌≡◌, ℕ, ◌+◌, ◌≤◌, [], ◌++◌, length, refl, sym, ◌∙◌, ap, subst, arith, append_assoc, Option, Some, None, IfSome, option_map}
use Rattle.std.proofs.{lemmas.Grind.{common_steps}, lemmas.List.{append-nil, length-append}}
use Rattle.std.specs.declared.ops.Range.{Range}
use Rattle.iref_grammar.specs.{Rules.{Text}, Texts.{then_part}, Authority.{spell_authority}, PathValue.{spell_path}}
use Rattle.iref_grammar.specs.Reference.{ReferenceValue, spell, read_reference}
use Rattle.iref_grammar.specs.ComponentOffsets.{range_from, offsets_in, offsets_of, text_at}
use Rattle.iref_grammar.proofs.ReferenceCutLemmas.{read_reference-spelled}

-- what stands between two parts of a text stands in its range
text_between : (text before part behind : Text) (start : ℕ) → before ++ (part ++ behind) ≡ text → start ≡ length before → text_at text (range_from start part) ≡ part
text_between text before part behind start spelled at = grind (arith, common_steps)

-- a delimiter and the part after it, if there is one
part_after : (before mark : Text) (o : Option Text) (behind : Text)
    → option_map (text_at (before ++ (then_part mark o ++ behind))) (option_map (range_from (length before + length mark)) o) ≡ o
part_after before mark None behind = refl
part_after before mark (Some part) behind = ap (λ t. Some t)
    (text_between (before ++ ((mark ++ part) ++ behind)) (before ++ mark) part behind (length before + length mark)
    (append_assoc before mark (part ++ behind) ∙ ap (λ t. before ++ t) (sym (append_assoc mark part behind))) (sym (length-append before mark)))

-- a range is within a text
abbrev pub IsInside : Text → Range ℕ → Type 0
IsInside text range = (range.start ≤ range.end) × (range.end ≤ length text)

-- the five parts of a spelling, grouped round the last
around_fragment : (s a p q f : Text) → s ++ a ++ p ++ q ++ f ≡ (s ++ a ++ p ++ q) ++ (f ++ [])
around_fragment s a p q f = simp (append_assoc, append-nil)

module _ (r : ReferenceValue) where
  scheme_stands : option_map (text_at (spell r)) (offsets_in r).scheme ≡ r.scheme
  unfolding spell offsets_in
  scheme_stands = grind (arith, common_steps)

  authority_stands : option_map (text_at (spell r)) (offsets_in r).authority ≡ option_map spell_authority r.authority
  unfolding spell offsets_in
  authority_stands = grind (arith, common_steps, part_after)

  path_stands : text_at (spell r) (offsets_in r).path ≡ spell_path r.path
  unfolding spell offsets_in
  path_stands = grind (arith, common_steps)

  path_inside_spelling : IsInside (spell r) (offsets_in r).path
  unfolding spell offsets_in
  path_inside_spelling = (omega arith, simp length-append (omega arith))

  authority_inside_spelling : IfSome (offsets_in r).authority (IsInside (spell r))
  unfolding spell offsets_in
  authority_inside_spelling = grind (arith, common_steps)

  query_stands : option_map (text_at (spell r)) (offsets_in r).query ≡ r.query
  unfolding spell offsets_in
  query_stands = grind (arith, common_steps, part_after)

  fragment_stands : option_map (text_at (spell r)) (offsets_in r).fragment ≡ r.fragment
  unfolding spell offsets_in
  fragment_stands = grind (arith, common_steps, around_fragment, part_after)

-- the components that are read from a text stand in it at their offsets
module _ (text : Text) where
  pub scheme_range : option_map (text_at text) (offsets_of text).scheme ≡ (read_reference text).scheme
  unfolding offsets_of
  scheme_range = ap (λ t. option_map (text_at t) (offsets_of text).scheme) (sym (read_reference-spelled text)) ∙ scheme_stands (read_reference text)

  pub authority_range : option_map (text_at text) (offsets_of text).authority ≡ option_map spell_authority (read_reference text).authority
  unfolding offsets_of
  authority_range = ap (λ t. option_map (text_at t) (offsets_of text).authority) (sym (read_reference-spelled text)) ∙ authority_stands (read_reference text)

  pub path_range : text_at text (offsets_of text).path ≡ spell_path (read_reference text).path
  unfolding offsets_of
  path_range = ap (λ t. text_at t (offsets_of text).path) (sym (read_reference-spelled text)) ∙ path_stands (read_reference text)

  pub query_range : option_map (text_at text) (offsets_of text).query ≡ (read_reference text).query
  unfolding offsets_of
  query_range = ap (λ t. option_map (text_at t) (offsets_of text).query) (sym (read_reference-spelled text)) ∙ query_stands (read_reference text)

  pub fragment_range : option_map (text_at text) (offsets_of text).fragment ≡ (read_reference text).fragment
  unfolding offsets_of
  fragment_range = ap (λ t. option_map (text_at t) (offsets_of text).fragment) (sym (read_reference-spelled text)) ∙ fragment_stands (read_reference text)

  pub path_inside : IsInside text (offsets_of text).path
  unfolding offsets_of
  path_inside = subst (λ t. IsInside t (offsets_of text).path) (read_reference-spelled text) (path_inside_spelling (read_reference text))

  pub authority_inside : IfSome (offsets_of text).authority (IsInside text)
  unfolding offsets_of
  authority_inside = subst (λ t. IfSome (offsets_of text).authority (IsInside t)) (read_reference-spelled text) (authority_inside_spelling (read_reference text))
