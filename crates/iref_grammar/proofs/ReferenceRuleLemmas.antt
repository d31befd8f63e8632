-- References: the test, by its one reading, decides the rule.
use Rattle.std.proofs.Common.{arith, ◌≡◌, ℕ, Bool, true, false, ◌&&◌, [], ◌∷◌, ◌++◌, refl, sym, ◌∙◌, ap, subst, append_assoc, inl, inr, codes, Option, Some, None, option_map, IfSome, IsSome, is_some, true≢false}
use Rattle.std.proofs.{Math.Logic.{◌↔◌}, lemmas.Bool.Decides.{Decides-like, Decides-and}, lemmas.Bool.{and_from}}
use Rattle.std.specs.{Bool.{Decides}, List.{list_all}}
use Rattle.iref_grammar.specs.Characters.{CharTests, AreAboveAscii}
use Rattle.iref_grammar.specs.Rules.{Text, Rule, Mark, ◌⨾◌, ◌or◌, Optional, InUtf8}
use Rattle.iref_grammar.specs.Grammar.{hash_sign, slash, colon, question_mark, IsScheme, IsAuthority, IsSegment, IsAbEmptyPath, IsQuery, IsFragment, IsNetPath, IsHierPart, IsRelativePart, IsQueryAndFragment, IsUri, IsUriReference}
use Rattle.iref_grammar.specs.Tests.{none_or, is_scheme, is_segment, is_query, is_fragment}
use Rattle.iref_grammar.specs.Authority.{AuthorityValue, spell_authority, HasAuthorityParts, has_authority_parts}
use Rattle.iref_grammar.specs.{Texts.{part_then, then_part}, PathValue.{PathValue, spell_path}}
use Rattle.iref_grammar.specs.Contexts.{follows_authority, reads_as_path}
use Rattle.iref_grammar.specs.Reference.{ReferenceValue, context_of, spell, IsReadable, IsReadAsReference, is_readable, read_reference, is_reference, is_uri}
use Rattle.iref_grammar.proofs.TextLemmas.{first_of_both, second_of_both}
use Rattle.iref_grammar.proofs.ReferenceCutLemmas.{regroup, read_reference-spelled}
use Rattle.iref_grammar.proofs.LeafLemmas.{Decides-is_segment, Decides-is_query, Decides-is_fragment}
use Rattle.iref_grammar.proofs.ReadableLemmas.{readable_read}
use Rattle.iref_grammar.proofs.Utf8RuleLemmas.{in_utf8-joined, in_utf8-or, in_utf8-mark, in_utf8-then_part}
use Rattle.iref_grammar.proofs.PartRuleLemmas.{Decides-none_or, Decides-all, Decides-is_scheme_bytes}
use Rattle.iref_grammar.proofs.AuthorityRuleLemmas.{Decides-has_authority_parts, in_utf8-authority}
use Rattle.iref_grammar.proofs.PathRuleLemmas.{AreSegments, IsAlonePath, in_utf8-after_authority, in_utf8-alone}

-- a scheme, an authority and a path, the path in its context
pub record IsFront (set : CharTests) (has_scheme : Bool) (bytes : Text) : Type 0 where
  pub authority : Option AuthorityValue
  pub path : PathValue
  pub parts : IfSome authority (HasAuthorityParts set)
  pub segments : AreSegments set path.segments
  pub follows : follows_authority (record { has_scheme = has_scheme; has_authority = is_some authority }) path ≡ true
  pub reads : reads_as_path (record { has_scheme = has_scheme; has_authority = is_some authority }) path ≡ true
  pub spelled : then_part (codes "//") (option_map spell_authority authority) ++ spell_path path ≡ bytes

-- a query and a fragment
pub record IsTail (set : CharTests) (bytes : Text) : Type 0 where
  pub query : Option Text
  pub fragment : Option Text
  pub in_query : IfSome query (InUtf8 (IsQuery set))
  pub in_fragment : IfSome fragment (InUtf8 (IsFragment set))
  pub spelled : then_part (question_mark ∷ []) query ++ then_part (hash_sign ∷ []) fragment ≡ bytes

-- bytes that a readable reference spells, with a scheme or without one
pub record IsSpelledReference (set : CharTests) (has_scheme : Bool) (bytes : Text) : Type 0 where
  pub reference : ReferenceValue
  pub readable : IsReadable set reference
  pub scheme : is_some reference.scheme ≡ has_scheme
  pub spelled : spell reference ≡ bytes

Decides-itself : (b : Bool) → Decides b (b ≡ true)
Decides-itself b = (λ h. h, λ h. h)

-- two delimiters, and two texts
two_marks : (m n l r x y front rest text : Text) (c d : ℕ) → m ≡ c ∷ [] → n ≡ d ∷ [] → x ≡ l → y ≡ r → l ++ r ≡ front → n ++ front ≡ rest → m ++ rest ≡ text → c ∷ d ∷ (x ++ y) ≡ text
two_marks m n l r x y front rest text c d e f p q g h k = grind arith

module _ (set : CharTests) (above : AreAboveAscii set) where
  -- ---- the test of the value

  pub Decides-is_readable : (r : ReferenceValue) → Decides (is_readable set r) (IsReadable set r)
  unfolding is_readable
  Decides-is_readable r =
      let s = none_or is_scheme r.scheme in
      let a = none_or (has_authority_parts set) r.authority in
      let p = list_all (is_segment set) r.path.segments in
      let q = none_or (is_query set) r.query in
      let f = none_or (is_fragment set) r.fragment in
      let fa = follows_authority (context_of r) r.path in
      let rp = reads_as_path (context_of r) r.path in
      Decides-like (is_readable set r)
      (λ z. record { scheme = z.0.0.0.0.0.0; authority = z.0.0.0.0.0.1; segments = z.0.0.0.0.1; query = z.0.0.0.1; fragment = z.0.0.1; follows_authority = z.0.1; reads_as_path = z.1 })
      (λ v. ((((((v.scheme, v.authority), v.segments), v.query), v.fragment), v.follows_authority), v.reads_as_path))
      (Decides-and (((((s && a) && p) && q) && f) && fa) rp
      (Decides-and ((((s && a) && p) && q) && f) fa
      (Decides-and (((s && a) && p) && q) f
      (Decides-and ((s && a) && p) q
      (Decides-and (s && a) p (Decides-and s a (Decides-none_or is_scheme (InUtf8 IsScheme) Decides-is_scheme_bytes r.scheme) (Decides-none_or (has_authority_parts set) (HasAuthorityParts set) (Decides-has_authority_parts set above) r.authority))
      (Decides-all (is_segment set) (InUtf8 (IsSegment set)) (Decides-is_segment set above) r.path.segments))
      (Decides-none_or (is_query set) (InUtf8 (IsQuery set)) (Decides-is_query set above) r.query))
      (Decides-none_or (is_fragment set) (InUtf8 (IsFragment set)) (Decides-is_fragment set above) r.fragment)) (Decides-itself fa)) (Decides-itself rp))

  -- so a readable reference is the one that is read from its text, and no two spell one text
  pub reference_read : (r : ReferenceValue) → IsReadable set r → read_reference (spell r) ≡ r
  reference_read r v = readable_read set above r ((Decides-is_readable r).1 v)

  pub one_spelling : (r s : ReferenceValue) → IsReadable set r → IsReadable set s → spell r ≡ spell s → r ≡ s
  one_spelling r s v w e = sym (reference_read r v) ∙ ap read_reference e ∙ reference_read s w

  -- what a text is read as
  pub reading : (text : Text) (r : ReferenceValue) → IsReadAsReference set text r ↔ ((is_reference set text ≡ true) × (read_reference text ≡ r))
  unfolding is_reference is_readable
  reading text r = grind (arith, reference_read, Decides-is_readable, read_reference-spelled)

  -- ---- the query and the fragment

  in_utf8-tail : (bytes : Text) → InUtf8 (IsQueryAndFragment set) bytes ↔ IsTail set bytes
  in_utf8-tail bytes = (there, back)
    where
      there : InUtf8 (IsQueryAndFragment set) bytes → IsTail set bytes
      there z =
          let j = (in_utf8-joined (Optional (Mark question_mark ⨾ IsQuery set)) (Optional (Mark hash_sign ⨾ IsFragment set)) bytes).0 z in
          let q = (in_utf8-then_part question_mark refl (IsQuery set) j.0).0 j.2 in
          let f = (in_utf8-then_part hash_sign refl (IsFragment set) j.1).0 j.3 in
          record { query = q.0; fragment = f.0; in_query = q.1; in_fragment = f.1; spelled = (λ i. q.2 i ++ f.2 i) ∙ j.4 }

      back : IsTail set bytes → InUtf8 (IsQueryAndFragment set) bytes
      back t =
          let q = then_part (question_mark ∷ []) t.query in
          let f = then_part (hash_sign ∷ []) t.fragment in
          (in_utf8-joined (Optional (Mark question_mark ⨾ IsQuery set)) (Optional (Mark hash_sign ⨾ IsFragment set)) bytes).1
          (q, f, (in_utf8-then_part question_mark refl (IsQuery set) q).1 (t.query, t.in_query, refl), (in_utf8-then_part hash_sign refl (IsFragment set) f).1 (t.fragment, t.in_fragment, refl), t.spelled)

  -- ---- the authority and the path

  in_utf8-net : (b : Bool) (bytes : Text) → InUtf8 (IsNetPath set) bytes → IsFront set b bytes
  in_utf8-net b bytes z =
      let j = (in_utf8-joined (Mark slash) (Mark slash ⨾ IsAuthority set ⨾ IsAbEmptyPath set) bytes).0 z in
      let k = (in_utf8-joined (Mark slash) (IsAuthority set ⨾ IsAbEmptyPath set) j.1).0 j.3 in
      let l = (in_utf8-joined (IsAuthority set) (IsAbEmptyPath set) k.1).0 k.3 in
      let a = (in_utf8-authority set above l.0).0 l.2 in
      let p = (in_utf8-after_authority set above b l.1).0 l.3 in
      record {
        authority = Some a.0;
        path = p.path;
        parts = a.1;
        segments = p.segments;
        follows = p.follows;
        reads = p.reads;
        spelled =
            two_marks j.0 k.0 l.0 l.1 (spell_authority a.0) (spell_path p.path) k.1 j.1 bytes slash slash ((in_utf8-mark slash refl j.0).0 j.2) ((in_utf8-mark slash refl k.0).0 k.2) a.2 p.spelled l.4 k.4 j.4;
      }

  net_back : (b : Bool) (a : AuthorityValue) (p : PathValue) → HasAuthorityParts set a → AreSegments set p.segments → follows_authority (record { has_scheme = b; has_authority = true }) p ≡ true
      → reads_as_path (record { has_scheme = b; has_authority = true }) p ≡ true → InUtf8 (IsNetPath set) (codes "//" ++ spell_authority a ++ spell_path p)
  net_back b a p parts segments follows reads =
      let text = spell_authority a ++ spell_path p in
      let rest = (in_utf8-joined (IsAuthority set) (IsAbEmptyPath set) text).1
      (spell_authority a, spell_path p, (in_utf8-authority set above (spell_authority a)).1 (a, parts, refl), (in_utf8-after_authority set above b (spell_path p)).1 (record { path = p; segments = segments; follows = follows; reads = reads; spelled = refl }), refl) in
      let one = (in_utf8-joined (Mark slash) (IsAuthority set ⨾ IsAbEmptyPath set) (slash ∷ text)).1 (slash ∷ [], text, (in_utf8-mark slash refl (slash ∷ [])).1 refl, rest, refl) in
      (in_utf8-joined (Mark slash) (Mark slash ⨾ IsAuthority set ⨾ IsAbEmptyPath set) (slash ∷ slash ∷ text)).1 (slash ∷ [], slash ∷ text, (in_utf8-mark slash refl (slash ∷ [])).1 refl, one, refl)

  -- `IsHierPart` with a scheme, and `IsRelativePart` without one
  abbrev IsPart : Bool → Rule
  IsPart b = IsNetPath set or IsAlonePath set above b

  in_utf8-front : (b : Bool) (bytes : Text) → InUtf8 (IsPart b) bytes ↔ IsFront set b bytes
  in_utf8-front b bytes = (λ z. there ((in_utf8-or (IsNetPath set) (IsAlonePath set above b) bytes).0 z), λ f. (in_utf8-or (IsNetPath set) (IsAlonePath set above b) bytes).1 (back f.authority f.path f.parts f.segments f.follows f.reads f.spelled))
    where
      there : (InUtf8 (IsNetPath set) or InUtf8 (IsAlonePath set above b)) bytes → IsFront set b bytes
      there (inl z) = in_utf8-net b bytes z
      there (inr z) =
          let p = (in_utf8-alone set above b bytes).0 z in
          record { authority = None; path = p.path; parts = tt; segments = p.segments; follows = p.follows; reads = p.reads; spelled = p.spelled }

      back : (o : Option AuthorityValue) (p : PathValue) → IfSome o (HasAuthorityParts set) → AreSegments set p.segments → follows_authority (record { has_scheme = b; has_authority = is_some o }) p ≡ true
          → reads_as_path (record { has_scheme = b; has_authority = is_some o }) p ≡ true → then_part (codes "//") (option_map spell_authority o) ++ spell_path p ≡ bytes → (InUtf8 (IsNetPath set) or InUtf8 (IsAlonePath set above b)) bytes
      back None p parts segments follows reads e = inr ((in_utf8-alone set above b bytes).1 (record { path = p; segments = segments; follows = follows; reads = reads; spelled = e }))
      back (Some a) p parts segments follows reads e = inl (subst (InUtf8 (IsNetPath set)) e (net_back b a p parts segments follows reads))

  -- ---- the whole

  -- what follows the scheme
  front_of_value : (r : ReferenceValue) (b : Bool) → IsReadable set r → is_some r.scheme ≡ b → IsFront set b (then_part (codes "//") (option_map spell_authority r.authority) ++ spell_path r.path)
  front_of_value r b v e = grind arith

  tail_of_value : (r : ReferenceValue) → IsReadable set r → IsTail set (then_part (question_mark ∷ []) r.query ++ then_part (hash_sign ∷ []) r.fragment)
  tail_of_value r v = record { query = r.query; fragment = r.fragment; in_query = v.query; in_fragment = v.fragment; spelled = refl }

  -- a reference from its components
  assembled : (scheme : Option Text) → IfSome scheme (InUtf8 IsScheme) → (front tail bytes : Text) → IsFront set (is_some scheme) front → IsTail set tail → part_then (colon ∷ []) scheme ++ (front ++ tail) ≡ bytes → IsSpelledReference set (is_some scheme) bytes
  unfolding spell
  assembled scheme s front tail bytes f t e = record {
    reference = record { scheme = scheme; authority = f.authority; path = f.path; query = t.query; fragment = t.fragment };
    readable = record { scheme = s; authority = f.parts; segments = f.segments; query = t.in_query; fragment = t.in_fragment; follows_authority = f.follows; reads_as_path = f.reads };
    scheme = refl;
    spelled =
        regroup (part_then (colon ∷ []) scheme) (then_part (codes "//") (option_map spell_authority f.authority)) (spell_path f.path) (then_part (question_mark ∷ []) t.query) (then_part (hash_sign ∷ []) t.fragment)
        ∙ (λ i. (part_then (colon ∷ []) scheme ++ f.spelled i) ++ t.spelled i) ∙ append_assoc (part_then (colon ∷ []) scheme) front tail ∙ e;
  }

  pub in_utf8-uri : (bytes : Text) → InUtf8 (IsUri set) bytes ↔ IsSpelledReference set true bytes
  unfolding spell
  in_utf8-uri bytes = (there, λ z. back z.reference z.reference.scheme refl z.readable z.scheme z.spelled)
    where
      there : InUtf8 (IsUri set) bytes → IsSpelledReference set true bytes
      there z =
          let j = (in_utf8-joined IsScheme (Mark colon ⨾ IsHierPart set ⨾ IsQueryAndFragment set) bytes).0 z in
          let k = (in_utf8-joined (Mark colon) (IsHierPart set ⨾ IsQueryAndFragment set) j.1).0 j.3 in
          let l = (in_utf8-joined (IsHierPart set) (IsQueryAndFragment set) k.1).0 k.3 in
          assembled (Some j.0) j.2 l.0 l.1 bytes ((in_utf8-front true l.0).0 l.2) ((in_utf8-tail l.1).0 l.3)
          (append_assoc j.0 (colon ∷ []) (l.0 ++ l.1) ∙ (λ i. j.0 ++ (sym ((in_utf8-mark colon refl k.0).0 k.2) i ++ l.4 i)) ∙ ap (λ t. j.0 ++ t) k.4 ∙ j.4)

      back : (r : ReferenceValue) (o : Option Text) → r.scheme ≡ o → IsReadable set r → is_some r.scheme ≡ true → spell r ≡ bytes → InUtf8 (IsUri set) bytes
      back r None e v h w = absurd (true≢false (sym h ∙ ap is_some e))
      back r (Some s) e v h w =
          let front = then_part (codes "//") (option_map spell_authority r.authority) ++ spell_path r.path in
          let tail = then_part (question_mark ∷ []) r.query ++ then_part (hash_sign ∷ []) r.fragment in
          let scheme : InUtf8 IsScheme s = subst (λ o. IfSome o (InUtf8 IsScheme)) e v.scheme in
          let later = (in_utf8-joined (IsHierPart set) (IsQueryAndFragment set) (front ++ tail)).1 (front, tail, (in_utf8-front true front).1 (front_of_value r true v h), (in_utf8-tail tail).1 (tail_of_value r v), refl) in
          let marked = (in_utf8-joined (Mark colon) (IsHierPart set ⨾ IsQueryAndFragment set) (colon ∷ (front ++ tail))).1 (colon ∷ [], front ++ tail, (in_utf8-mark colon refl (colon ∷ [])).1 refl, later, refl) in
          let spelled : s ++ colon ∷ (front ++ tail) ≡ bytes =
          sym (append_assoc s (colon ∷ []) (front ++ tail)) ∙ ap (λ o. part_then (colon ∷ []) o ++ (front ++ tail)) (sym e) ∙ sym (append_assoc (part_then (colon ∷ []) r.scheme) front tail)
          ∙ sym (regroup (part_then (colon ∷ []) r.scheme) (then_part (codes "//") (option_map spell_authority r.authority)) (spell_path r.path) (then_part (question_mark ∷ []) r.query) (then_part (hash_sign ∷ []) r.fragment)) ∙ w in
          (in_utf8-joined IsScheme (Mark colon ⨾ IsHierPart set ⨾ IsQueryAndFragment set) bytes).1 (s, colon ∷ (front ++ tail), scheme, marked, spelled)

  pub in_utf8-relative : (bytes : Text) → InUtf8 (IsRelativePart set ⨾ IsQueryAndFragment set) bytes ↔ IsSpelledReference set false bytes
  unfolding spell
  in_utf8-relative bytes = (there, λ z. back z.reference z.reference.scheme refl z.readable z.scheme z.spelled)
    where
      there : InUtf8 (IsRelativePart set ⨾ IsQueryAndFragment set) bytes → IsSpelledReference set false bytes
      there z =
          let l = (in_utf8-joined (IsRelativePart set) (IsQueryAndFragment set) bytes).0 z in
          assembled None tt l.0 l.1 bytes ((in_utf8-front false l.0).0 l.2) ((in_utf8-tail l.1).0 l.3) l.4

      back : (r : ReferenceValue) (o : Option Text) → r.scheme ≡ o → IsReadable set r → is_some r.scheme ≡ false → spell r ≡ bytes → InUtf8 (IsRelativePart set ⨾ IsQueryAndFragment set) bytes
      back r (Some s) e v h w = absurd (true≢false (ap is_some (sym e) ∙ h))
      back r None e v h w =
          let front = then_part (codes "//") (option_map spell_authority r.authority) ++ spell_path r.path in
          let tail = then_part (question_mark ∷ []) r.query ++ then_part (hash_sign ∷ []) r.fragment in
          let spelled : front ++ tail ≡ bytes =
          ap (λ o. part_then (colon ∷ []) o ++ (front ++ tail)) (sym e) ∙ sym (append_assoc (part_then (colon ∷ []) r.scheme) front tail)
          ∙ sym (regroup (part_then (colon ∷ []) r.scheme) (then_part (codes "//") (option_map spell_authority r.authority)) (spell_path r.path) (then_part (question_mark ∷ []) r.query) (then_part (hash_sign ∷ []) r.fragment)) ∙ w in
          (in_utf8-joined (IsRelativePart set) (IsQueryAndFragment set) bytes).1 (front, tail, (in_utf8-front false front).1 (front_of_value r false v h), (in_utf8-tail tail).1 (tail_of_value r v), spelled)

  -- a text that a readable reference spells is taken
  spelled_taken : (r : ReferenceValue) (bytes : Text) → IsReadable set r → spell r ≡ bytes → is_reference set bytes ≡ true
  unfolding is_reference is_readable
  spelled_taken r bytes v e = grind (arith, reference_read, Decides-is_readable)

  pub Decides-is_uri_reference : (bytes : Text) → Decides (is_reference set bytes) (InUtf8 (IsUriReference set) bytes)
  unfolding is_readable is_reference
  Decides-is_uri_reference bytes = (there, λ z. back ((in_utf8-or (IsUri set) (IsRelativePart set ⨾ IsQueryAndFragment set) bytes).0 z))
    where
      by : (r : ReferenceValue) → IsReadable set r → spell r ≡ bytes → (b : Bool) → is_some r.scheme ≡ b → (InUtf8 (IsUri set) or InUtf8 (IsRelativePart set ⨾ IsQueryAndFragment set)) bytes
      by r v e true h = inl ((in_utf8-uri bytes).1 (record { reference = r; readable = v; scheme = h; spelled = e }))
      by r v e false h = inr ((in_utf8-relative bytes).1 (record { reference = r; readable = v; scheme = h; spelled = e }))

      there : is_reference set bytes ≡ true → InUtf8 (IsUriReference set) bytes
      there h =
          let r = read_reference bytes in
          (in_utf8-or (IsUri set) (IsRelativePart set ⨾ IsQueryAndFragment set) bytes).1 (by r ((Decides-is_readable r).0 h) (read_reference-spelled bytes) (is_some r.scheme) refl)

      back : (InUtf8 (IsUri set) or InUtf8 (IsRelativePart set ⨾ IsQueryAndFragment set)) bytes → is_reference set bytes ≡ true
      back (inl z) = let s = (in_utf8-uri bytes).0 z in spelled_taken s.reference bytes s.readable s.spelled
      back (inr z) = let s = (in_utf8-relative bytes).0 z in spelled_taken s.reference bytes s.readable s.spelled

  -- the rule is the spelling of readable references
  pub in_utf8-reference : (bytes : Text) → InUtf8 (IsUriReference set) bytes ↔ ((r : ReferenceValue) × IsReadable set r × (spell r ≡ bytes))
  unfolding is_readable is_reference
  in_utf8-reference bytes = (
    λ z. let r = read_reference bytes in (r, (Decides-is_readable r).0 ((Decides-is_uri_reference bytes).1 z), read_reference-spelled bytes),
    λ z. (Decides-is_uri_reference bytes).0 (spelled_taken z.0 bytes z.1 z.2),
  )

  -- and the rule `URI` that of those with a scheme
  pub in_utf8-full : (bytes : Text) → InUtf8 (IsUri set) bytes ↔ ((r : ReferenceValue) × IsReadable set r × IsSome r.scheme × (spell r ≡ bytes))
  in_utf8-full bytes = (
    λ z. let s = (in_utf8-uri bytes).0 z in (s.reference, s.readable, s.scheme, s.spelled),
    λ z. (in_utf8-uri bytes).1 (record { reference = z.0; readable = z.1; scheme = z.2; spelled = z.3 }),
  )

  pub Decides-is_uri : (bytes : Text) → Decides (is_uri set bytes) (InUtf8 (IsUri set) bytes)
  unfolding read_reference is_uri is_readable is_reference
  Decides-is_uri bytes = (there, back)
    where
      there : is_uri set bytes ≡ true → InUtf8 (IsUri set) bytes
      there h =
          let r = read_reference bytes in
          (in_utf8-uri bytes).1 (record {
            reference = r;
            readable = (Decides-is_readable r).0 (second_of_both (is_some r.scheme) (is_reference set bytes) h);
            scheme = first_of_both (is_some r.scheme) (is_reference set bytes) h;
            spelled = read_reference-spelled bytes;
          })

      back : InUtf8 (IsUri set) bytes → is_uri set bytes ≡ true
      back z =
          let s = (in_utf8-uri bytes).0 z in
          let read : read_reference bytes ≡ s.reference = ap read_reference (sym s.spelled) ∙ reference_read s.reference s.readable in
          and_from (is_some (read_reference bytes).scheme) (is_reference set bytes) (ap (λ (r : ReferenceValue). is_some r.scheme) read ∙ s.scheme) (spelled_taken s.reference bytes s.readable s.spelled)
