-- What is written before the path where an authority or a scheme comes or goes.
use Rattle.std.proofs.Common.{◌≡◌, ◌≤◌, Bool, true, false, not, ◌&&◌, ◌||◌, ◌++◌, length, ap, arith, length-append, Option, is_some, option_map, codes}
use Rattle.std.proofs.{lemmas.Bool.{and_from}, lemmas.List.{append-nil}}
use Rattle.iref_grammar.specs.{declared.context.PathContext.{PathContext}, Characters.{CharTests}, Rules.{Text}}
use Rattle.iref_grammar.specs.{Tests.{is_scheme}, Texts.{then_part}, Authority.{AuthorityValue, spell_authority}}
use Rattle.iref_grammar.specs.{PathValue.{PathValue, spell_path}, Contexts.{fits}}
use Rattle.iref_grammar.specs.Reference.{ReferenceValue, context_of, is_readable}
use Rattle.iref_grammar.proofs.ReadablePartsLemmas.{readable_parts}
use Rattle.iref_grammar.specs.{Guard.{guarded}, ComponentSteps.{with_authority, with_scheme}}
use Rattle.iref_reference_text.specs.ComponentLengths.{with_mark}
use Rattle.iref_reference_text.proofs.LengthLemmas.{context-lengths}
use Rattle.iref_path.proofs.GuardTextLemmas.{guarded-same, rooted}

pub readable-fits : (set : CharTests) (r : ReferenceValue) → is_readable set r ≡ true → fits (context_of r) r.path ≡ true
readable-fits set r h = let parts = readable_parts set r h in and_from _ _ parts.follows parts.reads

abbrev context_with : Bool → Bool → PathContext
context_with has_scheme has_authority = record { has_scheme = has_scheme; has_authority = has_authority }

-- ---- the authority

-- one comes to stand where none did
abbrev pub comes : Option AuthorityValue → Option AuthorityValue → Bool
comes new old = is_some new && not (is_some old)

pub authority_rooted : (set : CharTests) (new : Option AuthorityValue) (r : ReferenceValue) → is_readable set r ≡ true → comes new r.authority ≡ true
    → record r.path { absolute = true } ≡ (with_authority new r).path
unfolding with_authority
authority_rooted set new r h k = grind (arith, rooted, readable-fits set r h)

pub authority_kept : (new : Option AuthorityValue) (r : ReferenceValue) → comes new r.authority ≡ false
    → guarded (context_with (is_some r.scheme) (is_some new)) r.path ≡ (with_authority new r).path
unfolding with_authority
authority_kept new r k = grind arith

-- what is no longer than what goes
no_longer : (guard : Text) (p q : PathValue) → guard ++ spell_path p ≡ spell_path q → q ≡ p → length guard ≡ 0
no_longer guard p q e same = omega (arith, length-append guard (spell_path p), ap length e, ap (λ x. length (spell_path x)) same)

pub authority_short : (set : CharTests) (r : ReferenceValue) (guard : Text) → is_readable set r ≡ true
    → guard ++ spell_path r.path ≡ spell_path (guarded (context_with (is_some r.scheme) false) r.path) → length guard ≤ 2
    → length guard ≤ with_mark 2 (option_map spell_authority r.authority)
authority_short set r guard h e short = grind (arith, no_longer guard r.path _ e, guarded-same (context_with (is_some r.scheme) false) r.path, readable-fits set r h)

-- ---- the scheme

pub scheme_kept : (set : CharTests) (new : Option Text) (r : ReferenceValue) → is_readable set r ≡ true → (is_some new || is_some r.authority) ≡ true → r.path ≡ (with_scheme new r).path
unfolding with_scheme
scheme_kept set new r h k = grind (arith, guarded-same (context_with false true) r.path, readable-fits set r h)

pub scheme_dropped : (new : Option Text) (r : ReferenceValue) (guard : Text) → (is_some new || is_some r.authority) ≡ false
    → guard ++ spell_path r.path ≡ spell_path (guarded (context_with (is_some new) (is_some r.authority)) r.path)
    → guard ++ then_part (codes "//") (option_map spell_authority r.authority) ++ spell_path r.path ≡ then_part (codes "//") (option_map spell_authority r.authority) ++ spell_path (with_scheme new r).path
unfolding with_scheme
scheme_dropped new r guard k e = grind (arith, append-nil)

some_scheme : (s : Text) → is_scheme s ≡ true → 1 ≤ length s
unfolding is_scheme
some_scheme s h = grind arith

pub scheme_short : (set : CharTests) (r : ReferenceValue) (guard : Text) → is_readable set r ≡ true
    → guard ++ spell_path r.path ≡ spell_path (guarded (context_with false (is_some r.authority)) r.path) → length guard ≤ 2
    → length guard ≤ with_mark 1 r.scheme
scheme_short set r guard h e short = grind (arith, no_longer guard r.path _ e, guarded-same (context_with false (is_some r.authority)) r.path, readable_parts set r h, readable-fits set r h, some_scheme)

pub ruleset authority_guards = (context-lengths, authority_rooted, authority_kept, authority_short)

pub ruleset scheme_guards = (context-lengths, scheme_kept, scheme_dropped, scheme_short)
