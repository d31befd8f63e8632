-- The conditions of a readable reference, one by one.
use Rattle.std.proofs.{Common.{arith, ◌≡◌, true}, lemmas.Bool.{and_parts}}
use Rattle.std.specs.List.{list_all}
use Rattle.iref_grammar.specs.{Characters.{CharTests}, Tests.{is_scheme, is_segment, is_query, is_fragment, none_or}}
use Rattle.iref_grammar.specs.{Authority.{has_authority_parts}, Contexts.{follows_authority, reads_as_path}}
use Rattle.iref_grammar.specs.Reference.{ReferenceValue, context_of, is_readable}

pub record HasReadableParts (set : CharTests) (r : ReferenceValue) : Type 0 where
  pub scheme : none_or is_scheme r.scheme ≡ true
  pub authority : none_or (has_authority_parts set) r.authority ≡ true
  pub segments : list_all (is_segment set) r.path.segments ≡ true
  pub query : none_or (is_query set) r.query ≡ true
  pub fragment : none_or (is_fragment set) r.fragment ≡ true
  pub follows : follows_authority (context_of r) r.path ≡ true
  pub reads : reads_as_path (context_of r) r.path ≡ true

pub readable_parts : (set : CharTests) (r : ReferenceValue) → is_readable set r ≡ true → HasReadableParts set r
unfolding is_readable
readable_parts set r h = grind (arith, and_parts)

pub readable_from : (set : CharTests) (r : ReferenceValue) → HasReadableParts set r → is_readable set r ≡ true
unfolding is_readable
readable_from set r parts = grind arith
