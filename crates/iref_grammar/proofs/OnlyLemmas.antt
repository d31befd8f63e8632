-- No two references spell one text, where each part lacks the delimiters that end it.
use Rattle.std.proofs.Common.{arith, ◌≡◌, Bool, true, false, not, cond, ◌&&◌, ◌||◌, List, [], ◌∷◌, ◌++◌, drop, refl, sym, ◌∙◌, ap, append_assoc, ◌==◌, Option, Some, None, option_map, codes, is_some, IfSome, true≢false}
use Rattle.std.proofs.{lemmas.Grind.{common_steps}, lemmas.Bool.{not-true}}
use Rattle.std.specs.{Char.{char_set_contains}, List.{list_all, join_with_byte}}
use Rattle.iref_grammar.specs.{Rules.{Text}, Grammar.{hash_sign, slash, colon, question_mark}}
use Rattle.iref_grammar.specs.Texts.{before, from_first, after, after_first_char, begins_with, part_then, then_part, is_empty}
use Rattle.iref_grammar.specs.Authority.{AuthorityValue, spell_authority, read_authority}
use Rattle.iref_grammar.specs.Reference.{spell, scheme_of, split_scheme, split_authority, read_reference, ReferenceValue, context_of}
use Rattle.iref_grammar.specs.PathValue.{PathValue, spell_path, read_path, shows_its_list, begins_empty, is_one_empty}
use Rattle.iref_grammar.specs.Contexts.{follows_authority, is_no_authority, is_no_scheme, begins_with_colon_segment}
use Rattle.iref_grammar.proofs.{PathLemmas.{read-spelled}, TextLemmas.{lacks, first_of_both}}
use Rattle.iref_grammar.proofs.CutLemmas.{before-no, first_lacks, rest_lacks, no_mark, before-lacking, from_first-lacking, before-mark, before-part, after-part}
use Rattle.iref_grammar.proofs.ReferenceCutLemmas.{regroup}
use Rattle.iref_grammar.proofs.AuthorityLemmas.{IsDelimitedAuthority, read_authority-back}

-- ---- the scheme

pub scheme-back : (s rest : Text) → lacks colon s ≡ true → lacks slash s ≡ true → split_scheme (s ++ colon ∷ rest) ≡ (Some s, rest)
scheme-back s rest h k =
    (λ i. scheme_of (before-part colon s (Some rest) h i) (after-part colon s (Some rest) h i) (s ++ colon ∷ rest)) ∙ ap (λ b. cond b (None, s ++ colon ∷ rest) (Some s, rest)) (held k)
  where
    held : not (char_set_contains s slash) ≡ true → char_set_contains s slash ≡ false
    held e = not-true (char_set_contains s slash) e

hidden : (front : Text) (o : Option Text) (text : Text) → char_set_contains front slash ≡ true → scheme_of front o text ≡ (None, text)
hidden front None text h = refl
hidden front (Some rest) text h = ap (λ b. cond b (None, text) (Some front, rest)) h

pub no_colon : (text : Text) → lacks colon text ≡ true → split_scheme text ≡ (None, text)
no_colon text h = ap (λ o. scheme_of (before (colon ∷ []) text) o text) (ap after_first_char (from_first-lacking colon text h))

slash_holds : (s rest : Text) → lacks colon s ≡ true → char_set_contains (before (colon ∷ []) (s ++ slash ∷ rest)) slash ≡ true
slash_holds [] rest h = ap (λ t. char_set_contains t slash) (before-no (colon ∷ []) slash rest refl)
slash_holds (c ∷ cs) rest h =
    ap (λ t. char_set_contains t slash) (before-no (colon ∷ []) c (cs ++ slash ∷ rest) (no_mark colon c cs h)) ∙ by (c == slash) (slash_holds cs rest (rest_lacks colon c cs h))
  where
    by : (b : Bool) → char_set_contains (before (colon ∷ []) (cs ++ slash ∷ rest)) slash ≡ true → (b || char_set_contains (before (colon ∷ []) (cs ++ slash ∷ rest)) slash) ≡ true
    by true e = refl
    by false e = e

pub no_scheme : (s rest : Text) → lacks colon s ≡ true → split_scheme (s ++ slash ∷ rest) ≡ (None, s ++ slash ∷ rest)
no_scheme s rest h = hidden (before (colon ∷ []) (s ++ slash ∷ rest)) (after colon (s ++ slash ∷ rest)) (s ++ slash ∷ rest) (slash_holds s rest h)

-- a path with no scheme before it
path_no_scheme : (absolute : Bool) (segments : List Text) → let p : PathValue = record { absolute = absolute; segments = segments } in (absolute || not (begins_with_colon_segment segments)) ≡ true → split_scheme (spell_path p) ≡ (None, spell_path p)
unfolding spell_path
path_no_scheme true segments h = no_scheme [] (join_with_byte slash segments) refl
path_no_scheme false [] h = refl
path_no_scheme false (s ∷ []) h = no_colon s h
path_no_scheme false (s ∷ t ∷ ss) h = no_scheme s (join_with_byte slash (t ∷ ss)) h

-- ---- the authority

-- the text is empty or begins with `/`
abbrev ends_authority : Text → Bool
ends_authority [] = true
ends_authority (c ∷ cs) = c == slash

authority-back : (a text : Text) → lacks slash a ≡ true → ends_authority text ≡ true → split_authority (slash ∷ slash ∷ (a ++ text)) ≡ (Some a, text)
authority-back a [] h k = grind (arith, common_steps, before-lacking)
authority-back a (c ∷ cs) h k = grind (arith, common_steps, before-mark)

no_slashes : (text : Text) → begins_with (codes "//") text ≡ false → split_authority text ≡ (None, text)
no_slashes text h = ap (λ b. cond b (Some (before (slash ∷ []) (drop 2 text)), from_first (slash ∷ []) (drop 2 text)) (None, text)) h

-- a path that is read as one begins with no authority, or may follow one
path_no_slashes : (absolute : Bool) (segments : List Text) → list_all (lacks slash) segments ≡ true → not (begins_empty segments) ≡ true → begins_with (codes "//") (spell_path (record { absolute = absolute; segments = segments })) ≡ false
unfolding spell_path
path_no_slashes true [] h k = refl
path_no_slashes true ([] ∷ ss) h k = absurd (true≢false (sym k))
path_no_slashes true ((c ∷ s) ∷ []) h k = λ i. first_lacks slash c s (first_of_both (lacks slash (c ∷ s)) true h) i && true
path_no_slashes true ((c ∷ s) ∷ t ∷ ss) h k = grind arith
path_no_slashes false [] h k = refl
path_no_slashes false ([] ∷ ss) h k = absurd (true≢false (sym k))
path_no_slashes false ((c ∷ s) ∷ []) h k = grind arith
path_no_slashes false ((c ∷ s) ∷ t ∷ ss) h k = grind arith

path_ends_authority : (absolute : Bool) (segments : List Text) → (absolute || is_empty segments) ≡ true → ends_authority (spell_path (record { absolute = absolute; segments = segments })) ≡ true
unfolding spell_path
path_ends_authority true segments h = refl
path_ends_authority false [] h = refl
path_ends_authority false (s ∷ ss) h = absurd (true≢false (sym h))

-- ---- the whole

-- what stands before the query
abbrev pub front_of : ReferenceValue → Text
front_of r = part_then (colon ∷ []) r.scheme ++ (then_part (codes "//") (option_map spell_authority r.authority) ++ spell_path r.path)

-- each component lacks the delimiters that end it, and the path shows where it stands
pub record IsDelimited (r : ReferenceValue) : Type 0 where
  pub scheme : IfSome r.scheme (λ s. (lacks colon s ≡ true) × (lacks slash s ≡ true))
  pub authority : IfSome r.authority (λ a. IsDelimitedAuthority a × (lacks slash (spell_authority a) ≡ true))
  pub segments : list_all (lacks slash) r.path.segments ≡ true
  pub before_query : lacks question_mark (front_of r) ≡ true
  pub before_fragment : lacks hash_sign (front_of r ++ then_part (question_mark ∷ []) r.query) ≡ true
  pub shown : shows_its_list r.path ≡ true
  pub follows_authority : follows_authority (context_of r) r.path ≡ true
  pub is_no_authority : is_no_authority (context_of r) r.path ≡ true
  pub is_no_scheme : is_no_scheme (context_of r) r.path ≡ true

scheme_read : (s a : Option Text) (absolute : Bool) (segments : List Text) → IfSome s (λ t. (lacks colon t ≡ true) × (lacks slash t ≡ true))
    → (((is_some s || is_some a) || absolute) || not (begins_with_colon_segment segments)) ≡ true
    → let p : Text = spell_path (record { absolute = absolute; segments = segments }) in split_scheme (part_then (colon ∷ []) s ++ (then_part (codes "//") a ++ p)) ≡ (s, then_part (codes "//") a ++ p)
scheme_read (Some s) a absolute segments h k = grind (arith, common_steps, scheme-back)
scheme_read None (Some a) absolute segments h k = no_scheme [] (slash ∷ (a ++ spell_path (record { absolute = absolute; segments = segments }))) refl
scheme_read None None absolute segments h k = path_no_scheme absolute segments k

authority_read : (o : Option Text) (absolute : Bool) (segments : List Text) → IfSome o (λ a. lacks slash a ≡ true) → list_all (lacks slash) segments ≡ true
    → (absolute ≡ false → not (begins_empty segments) ≡ true) → ((not (is_some o) || absolute) || is_empty segments) ≡ true → ((is_some o || not absolute) || not (begins_empty segments)) ≡ true
    → let p : Text = spell_path (record { absolute = absolute; segments = segments }) in split_authority (then_part (codes "//") o ++ p) ≡ (o, p)
authority_read (Some a) absolute segments h l s f n = grind (arith, authority-back, path_ends_authority)
authority_read None true segments h l s f n = no_slashes _ (path_no_slashes true segments l n)
authority_read None false segments h l s f n = no_slashes _ (path_no_slashes false segments l (s refl))

relative_start : (p : PathValue) → shows_its_list p ≡ true → p.absolute ≡ false → not (begins_empty p.segments) ≡ true
relative_start p h e = (λ i. cond (sym e i) (not (is_one_empty p.segments)) (not (begins_empty p.segments))) ∙ h

authority_lacks : (o : Option AuthorityValue) → IfSome o (λ a. IsDelimitedAuthority a × (lacks slash (spell_authority a) ≡ true)) → IfSome (option_map spell_authority o) (λ t. lacks slash t ≡ true)
authority_lacks None h = h
authority_lacks (Some a) h = h.1

some_spelled : (o : Option AuthorityValue) → is_some (option_map spell_authority o) ≡ is_some o
some_spelled None = refl
some_spelled (Some a) = refl

authority_back : (o : Option AuthorityValue) → IfSome o (λ a. IsDelimitedAuthority a × (lacks slash (spell_authority a) ≡ true)) → option_map read_authority (option_map spell_authority o) ≡ o
authority_back None h = refl
authority_back (Some a) h = ap (λ b. Some b) (read_authority-back a h.0)

-- the reference with a front that is read as these parts
assembled : (f : Option Text × Text) → (query fragment : Option Text) → ReferenceValue
assembled f query fragment =
    let middle = split_authority f.1 in
    record { scheme = f.0; authority = option_map read_authority middle.0; path = read_path middle.1; query = query; fragment = fragment }

assembled-middle : Option Text → (m : Option Text × Text) → Option Text → Option Text → ReferenceValue
assembled-middle scheme m query fragment = record { scheme = scheme; authority = option_map read_authority m.0; path = read_path m.1; query = query; fragment = fragment }

-- the reference that is spelled is the one that is read
pub read_reference-back : (r : ReferenceValue) → IsDelimited r → read_reference (spell r) ≡ r
unfolding assembled assembled-middle spell read_reference
read_reference-back r d =
    let query = then_part (question_mark ∷ []) r.query in
    let whole : spell r ≡ (front_of r ++ query) ++ then_part (hash_sign ∷ []) r.fragment =
    regroup (part_then (colon ∷ []) r.scheme) (then_part (codes "//") (option_map spell_authority r.authority)) (spell_path r.path) query (then_part (hash_sign ∷ []) r.fragment)
    ∙ sym (append_assoc (front_of r) query (then_part (hash_sign ∷ []) r.fragment)) in
    let texts = option_map spell_authority r.authority in
    let scheme_part = scheme_read r.scheme texts r.path.absolute r.path.segments d.scheme
    (ap (λ b. ((is_some r.scheme || b) || r.path.absolute) || not (begins_with_colon_segment r.path.segments)) (some_spelled r.authority) ∙ d.is_no_scheme) in
    let authority_part = authority_read texts r.path.absolute r.path.segments (authority_lacks r.authority d.authority) d.segments (relative_start r.path d.shown)
    (ap (λ b. (not b || r.path.absolute) || is_empty r.path.segments) (some_spelled r.authority) ∙ d.follows_authority)
    (ap (λ b. (b || not r.path.absolute) || not (begins_empty r.path.segments)) (some_spelled r.authority) ∙ d.is_no_authority) in
    ap read_reference whole
    ∙ (λ i. assembled (split_scheme (before (question_mark ∷ []) (before-part hash_sign (front_of r ++ query) r.fragment d.before_fragment i)))
    (after question_mark (before-part hash_sign (front_of r ++ query) r.fragment d.before_fragment i)) (after-part hash_sign (front_of r ++ query) r.fragment d.before_fragment i))
    ∙ (λ i. assembled (split_scheme (before-part question_mark (front_of r) r.query d.before_query i)) (after-part question_mark (front_of r) r.query d.before_query i) r.fragment)
    ∙ (λ i. assembled (scheme_part i) r.query r.fragment)
    ∙ (λ i. assembled-middle r.scheme (authority_part i) r.query r.fragment)
    ∙ (λ i. record { scheme = r.scheme; authority = authority_back r.authority d.authority i; path = read-spelled r.path.absolute r.path.segments d.segments d.shown i; query = r.query; fragment = r.fragment })
