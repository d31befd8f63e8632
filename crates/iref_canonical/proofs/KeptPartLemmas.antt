-- Each component of a text without escapes, whose bytes stand in sort keys as they are, is such a text.
use Rattle.std.proofs.Common.{arith, ◌≡◌, ◌+◌, Bool, true, ◌++◌, ◌∷◌, [], List, length, refl, sym, ◌∙◌, ap, Option, Some, None, length-append, codes, option_map}
use Rattle.std.proofs.{lemmas.Bool.{and_from, and_parts}, lemmas.List.Folds.{list_all-append}}
use Rattle.iref_grammar.specs.Authority.{AuthorityValue, spell_authority}
use Rattle.iref_grammar.specs.{Grammar.{colon, at_sign, question_mark, hash_sign}, PathValue.{spell_path}}
use Rattle.iref_grammar.specs.{Reference.{ReferenceValue, spell, read_reference}, Rules.{Text}, Tests.{none_or}}
use Rattle.iref_grammar.specs.Texts.{part_then, then_part}
use Rattle.iref_grammar.proofs.ReferenceCutLemmas.{read_reference-spelled}
use Rattle.iref_canonical.specs.SortBytes.{is_kept_byte, is_kept, are_kept_parts}
use Rattle.iref_canonical.specs.SortKey.{sort_key, sort_authority, sort_list, sort_item, sort_option, sort_path, sort_text}

pub both_kept : (front back : Text) → is_kept (front ++ back) ≡ true → (is_kept front ≡ true) × (is_kept back ≡ true)
both_kept front back h = and_parts (is_kept front) (is_kept back) (sym (list_all-append is_kept_byte front back) ∙ h)

part_kept : (mark : Text) (part : Option Text) → is_kept (part_then mark part) ≡ true → none_or is_kept part ≡ true
part_kept mark None h = refl
part_kept mark (Some part) h = (both_kept part mark h).0

then_kept : (mark : Text) (part : Option Text) → is_kept (then_part mark part) ≡ true → none_or is_kept part ≡ true
then_kept mark None h = refl
then_kept mark (Some part) h = (both_kept mark part h).1

pub record HasKeptParts (r : ReferenceValue) : Type 0 where
  pub scheme : none_or is_kept r.scheme ≡ true
  pub authority : none_or is_kept (option_map spell_authority r.authority) ≡ true
  pub path : is_kept (spell_path r.path) ≡ true
  pub query : none_or is_kept r.query ≡ true
  pub fragment : none_or is_kept r.fragment ≡ true

spelled_kept : (r : ReferenceValue) → is_kept (spell r) ≡ true → HasKeptParts r
unfolding spell
spelled_kept r h =
    let scheme = part_then (colon ∷ []) r.scheme in
    let authority = then_part (codes "//") (option_map spell_authority r.authority) in
    let path = spell_path r.path in
    let query = then_part (question_mark ∷ []) r.query in
    let fragment = then_part (hash_sign ∷ []) r.fragment in
    let one = both_kept (scheme ++ authority ++ path ++ query) fragment h in
    let two = both_kept (scheme ++ authority ++ path) query one.0 in
    let three = both_kept (scheme ++ authority) path two.0 in
    let four = both_kept scheme authority three.0 in
    record {
      scheme = part_kept (colon ∷ []) r.scheme four.0;
      authority = then_kept (codes "//") (option_map spell_authority r.authority) four.1;
      path = three.1;
      query = then_kept (question_mark ∷ []) r.query two.1;
      fragment = then_kept (hash_sign ∷ []) r.fragment one.1;
    }

pub text_kept : (text : Text) → is_kept text ≡ true → HasKeptParts (read_reference text)
text_kept text h = spelled_kept (read_reference text) (ap is_kept (read_reference-spelled text) ∙ h)

parts_kept : (a : AuthorityValue) → is_kept (spell_authority a) ≡ true → are_kept_parts a ≡ true
unfolding spell_authority
parts_kept a h =
    let user = part_then (at_sign ∷ []) a.user_info in
    let port = then_part (colon ∷ []) a.port in
    let one = both_kept (user ++ a.host) port h in
    let two = both_kept user a.host one.0 in
    and_from _ _ (and_from _ _ (part_kept (at_sign ∷ []) a.user_info two.0) two.1) (then_kept (colon ∷ []) a.port one.1)

pub parts_kept_in : (a : Option AuthorityValue) → none_or is_kept (option_map spell_authority a) ≡ true → none_or are_kept_parts a ≡ true
parts_kept_in None h = refl
parts_kept_in (Some a) h = parts_kept a h

length-sort_path : (absolute : Bool) (items : List Text) → length (sort_path (record { absolute = absolute; segments = items })) ≡ 1 + length (sort_list sort_item items)
unfolding sort_path
length-sort_path absolute items = grind (arith, length-append)

pub length-sort_key : (k : ReferenceValue)
    → length (sort_key k)
    ≡ length (sort_option sort_text k.scheme) + length (sort_option sort_authority k.authority) + (1 + length (sort_list sort_item k.path.segments))
    + length (sort_option sort_text k.query)
    + length (sort_option sort_text k.fragment)
unfolding sort_key
length-sort_key k = grind (arith, length-append, length-sort_path k.path.absolute k.path.segments)
