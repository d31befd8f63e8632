-- Reading a reference and spelling it gives the text.
use Rattle.std.proofs.Common.{arith, ◌≡◌, [], ◌∷◌, ◌++◌, refl, sym, ◌∙◌, ap, append_assoc, Option, Some, None, option_map, codes}
use Rattle.std.proofs.lemmas.Grind.{common_steps}
use Rattle.iref_grammar.specs.{Rules.{Text}, Grammar.{hash_sign, colon, question_mark}}
use Rattle.iref_grammar.specs.{Texts.{before, after, part_then, then_part}, Authority.{spell_authority, read_authority}}
use Rattle.iref_grammar.specs.Reference.{spell, scheme_of, split_scheme, split_authority, hierarchy, read_reference}
use Rattle.iref_grammar.proofs.{PathLemmas.{read_path-reads}, CutLemmas.{cut}, AuthorityLemmas.{read_authority-spelled}}

scheme-cut : (front : Text) (rest : Option Text) (text : Text) → front ++ then_part (colon ∷ []) rest ≡ text → let s = scheme_of front rest text in part_then (colon ∷ []) s.0 ++ s.1 ≡ text
scheme-cut front None text e = refl
scheme-cut front (Some rest) text e = grind (arith, common_steps)

pub split_scheme-joins : (text : Text) → part_then (colon ∷ []) (split_scheme text).0 ++ (split_scheme text).1 ≡ text
split_scheme-joins text = scheme-cut (before (colon ∷ []) text) (after colon text) text (cut colon text)

pub split_authority-joins : (text : Text) → then_part (codes "//") (split_authority text).0 ++ (split_authority text).1 ≡ text
split_authority-joins text = grind (arith, common_steps)

authority-spelled : (o : Option Text) → then_part (codes "//") (option_map spell_authority (option_map read_authority o)) ≡ then_part (codes "//") o
authority-spelled None = refl
authority-spelled (Some text) = ap (λ t. codes "//" ++ t) (read_authority-spelled text)

hierarchy-joins : (text : Text) → hierarchy text ++ (then_part (question_mark ∷ []) (after question_mark (before (hash_sign ∷ []) text)) ++ then_part (hash_sign ∷ []) (after hash_sign text)) ≡ text
hierarchy-joins text =
    sym (append_assoc (hierarchy text) _ _) ∙ ap (λ t. t ++ then_part (hash_sign ∷ []) (after hash_sign text)) (cut question_mark (before (hash_sign ∷ []) text)) ∙ cut hash_sign text

pub regroup : (a b c d e : Text) → a ++ b ++ c ++ d ++ e ≡ (a ++ (b ++ c)) ++ (d ++ e)
regroup a b c d e = append_assoc (a ++ b ++ c) d e ∙ ap (λ t. t ++ (d ++ e)) (append_assoc a b c)

-- every text is spelled by the reference that is read from it
pub read_reference-spelled : (text : Text) → spell (read_reference text) ≡ text
unfolding spell read_reference
read_reference-spelled text =
    let front = split_scheme (hierarchy text) in
    let middle = split_authority front.1 in
    let query = then_part (question_mark ∷ []) (after question_mark (before (hash_sign ∷ []) text)) in
    let fragment = then_part (hash_sign ∷ []) (after hash_sign text) in
    (λ i. part_then (colon ∷ []) front.0 ++ authority-spelled middle.0 i ++ (read_path-reads middle.1).spelled i ++ query ++ fragment)
    ∙ regroup (part_then (colon ∷ []) front.0) (then_part (codes "//") middle.0) middle.1 query fragment
    ∙ ap (λ t. (part_then (colon ∷ []) front.0 ++ t) ++ (query ++ fragment)) (split_authority-joins front.1)
    ∙ ap (λ t. t ++ (query ++ fragment)) (split_scheme-joins (hierarchy text)) ∙ hierarchy-joins text
