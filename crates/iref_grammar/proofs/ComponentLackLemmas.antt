-- What the components of a text lack: the delimiters that end them.
use Rattle.std.proofs.Common.{arith, ◌≡◌, ℕ, Bool, true, false, cond, ◌&&◌, ◌||◌, List, [], ◌∷◌, ◌++◌, refl, sym, ◌<◌, lit<, ◌==◌, Option, Some, None, codes, IfSome, true≢false}
use Rattle.std.proofs.{lemmas.Grind.{common_steps}, lemmas.Option.{same_Some}}
use Rattle.std.specs.Char.{char_set_contains, is_ascii_alphanumeric, is_ascii_alphabetic, is_ascii_digit}
use Rattle.std.specs.List.{list_all}
use Rattle.iref_grammar.specs.Rules.{Text}
use Rattle.iref_grammar.specs.Grammar.{hash_sign, slash, colon, question_mark, at_sign, left_bracket, right_bracket, percent_sign, is_sub_delim, is_scheme_char, is_reg_name_char, is_user_info_char, is_path_char, is_fragment_char, is_query_char}
use Rattle.iref_grammar.specs.{Texts.{before, after, part_then, then_part}, Characters.{CharTests, AreAboveAscii}}
use Rattle.iref_grammar.specs.Tests.{in_brackets, is_ip_literal, is_ip_address, some_and, none_or, ends_here, is_host, is_reg_name, is_user_info, is_port, is_scheme, is_segment, is_query}
use Rattle.iref_grammar.proofs.{TextLemmas.{lacks}, CutLemmas.{cut}}
use Rattle.iref_grammar.proofs.LackLemmas.{lacks_more, lacks-append, all_lacks, IsRefused, in_utf8_lacks}
use Rattle.iref_grammar.proofs.HostLemmas.{IsOutside, address_lacks, before_lacks}

-- a delimiter that ends a part of an authority
pub record IsCut (mark : ℕ) : Type 0 where
  pub ascii : mark < 128
  pub letters : (is_ascii_alphanumeric mark || char_set_contains (codes "-._~") mark) ≡ false
  pub delims : is_sub_delim mark ≡ false
  pub no_colon : (mark == colon) ≡ false
  pub colon_not : (colon == mark) ≡ false
  pub percent : (mark == percent_sign) ≡ false
  pub outside : IsOutside mark
  pub version : char_set_contains (codes "vV") mark ≡ false
  pub not_left : (left_bracket == mark) ≡ false
  pub not_right : (right_bracket == mark) ≡ false
  pub digit : is_ascii_digit mark ≡ false

pub slash_cuts : IsCut slash
slash_cuts = grind arith

pub question_cuts : IsCut question_mark
question_cuts = grind arith

pub hash_cuts : IsCut hash_sign
hash_cuts = grind arith

module _ (set : CharTests) (above : AreAboveAscii set) where
  pub reg_name_refuses : (mark : ℕ) → mark < 128 → (is_ascii_alphanumeric mark || char_set_contains (codes "-._~") mark) ≡ false → is_sub_delim mark ≡ false → is_reg_name_char set mark ≡ false
  unfolding is_reg_name_char
  reg_name_refuses mark a l d = λ i. (l i || above.extra mark a i) || d i

  user_info_refuses : (mark : ℕ) → IsCut mark → is_user_info_char set mark ≡ false
  unfolding is_user_info_char
  user_info_refuses mark m = λ i. reg_name_refuses mark m.ascii m.letters m.delims i || m.no_colon i

  path_refuses : (mark : ℕ) → IsCut mark → (mark == at_sign) ≡ false → is_path_char set mark ≡ false
  unfolding is_path_char
  path_refuses mark m a = λ i. user_info_refuses mark m i || a i

  query_refuses : is_query_char set hash_sign ≡ false
  unfolding is_query_char is_fragment_char
  query_refuses = λ i. ((path_refuses hash_sign hash_cuts refl i || false) || false) || above.private hash_sign (lit< tt) i

  pub user_info_lacks : (mark : ℕ) → IsCut mark → (u : Text) → is_user_info set u ≡ true → lacks mark u ≡ true
  unfolding is_user_info
  user_info_lacks mark m u h = grind (arith, in_utf8_lacks, user_info_refuses)

  segment_lacks : (mark : ℕ) → IsCut mark → (mark == at_sign) ≡ false → (s : Text) → is_segment set s ≡ true → lacks mark s ≡ true
  unfolding is_segment
  segment_lacks mark m a s h = grind (arith, in_utf8_lacks, path_refuses)

  pub segments_lack : (mark : ℕ) → IsCut mark → (mark == at_sign) ≡ false → (ss : List Text) → list_all (is_segment set) ss ≡ true → list_all (lacks mark) ss ≡ true
  segments_lack mark m a [] h = refl
  segments_lack mark m a (s ∷ ss) h = grind (arith, segment_lacks, segments_lack mark m a ss)

  pub query_lacks : (q : Text) → is_query set q ≡ true → lacks hash_sign q ≡ true
  unfolding is_query
  query_lacks q h = in_utf8_lacks (is_query_char set) hash_sign (record { ascii = lit< tt; alone = query_refuses; percent = refl; digit = refl }) q h

  -- a reg-name also lacks `:` and `[`
  pub reg_name_lacks : (mark : ℕ) → IsRefused (is_reg_name_char set) mark → (h : Text) → is_reg_name set h ≡ true → lacks mark h ≡ true
  unfolding is_reg_name
  reg_name_lacks mark r h k = in_utf8_lacks (is_reg_name_char set) mark r h k

-- brackets with what stands between
pub bracket_parts : (text inside : Text) → in_brackets text ≡ Some inside → (lacks right_bracket inside ≡ true) × (left_bracket ∷ inside ++ right_bracket ∷ [] ≡ text)
bracket_parts [] inside h = cc
bracket_parts (c ∷ cs) inside h = by (c == left_bracket) refl (after right_bracket cs) (cut right_bracket cs) h
  where
    by : (b : Bool) → (c == left_bracket) ≡ b → (o : Option Text) → before (right_bracket ∷ []) cs ++ then_part (right_bracket ∷ []) o ≡ cs
        → cond (b && ends_here o) (Some (before (right_bracket ∷ []) cs)) None ≡ Some inside → (lacks right_bracket inside ≡ true) × (left_bracket ∷ inside ++ right_bracket ∷ [] ≡ c ∷ cs)
    by false e o f k = cc
    by true e None f k = cc
    by true e (Some (d ∷ rest)) f k = cc
    by true e (Some []) f k = grind (arith, common_steps, same_Some, before_lacks)

pub literal_parts : (h : Text) → is_ip_literal h ≡ true → (inside : Text) × (is_ip_address inside ≡ true) × (lacks right_bracket inside ≡ true) × (left_bracket ∷ inside ++ right_bracket ∷ [] ≡ h)
unfolding is_ip_literal
literal_parts h k = by (in_brackets h) refl k
  where
    by : (o : Option Text) → in_brackets h ≡ o → some_and is_ip_address o ≡ true → (inside : Text) × (is_ip_address inside ≡ true) × (lacks right_bracket inside ≡ true) × (left_bracket ∷ inside ++ right_bracket ∷ [] ≡ h)
    by None e l = absurd (true≢false (sym l))
    by (Some inside) e l = let b = bracket_parts h inside e in (inside, l, b.0, b.1)

pub literal_lacks : (mark : ℕ) → IsCut mark → (h : Text) → is_ip_literal h ≡ true → lacks mark h ≡ true
literal_lacks mark m h k = grind (arith, literal_parts, lacks-append, address_lacks)

pub port_lacks : (mark : ℕ) → IsCut mark → (p : Text) → is_port p ≡ true → lacks mark p ≡ true
unfolding is_port
port_lacks mark m p h = all_lacks is_ascii_digit mark m.digit p h

-- an option's part, with a delimiter after it or before it
pub part_then_lacks : (mark sep : ℕ) → (sep == mark) ≡ false → (o : Option Text) → IfSome o (λ t. lacks mark t ≡ true) → lacks mark (part_then (sep ∷ []) o) ≡ true
part_then_lacks mark sep h None k = refl
part_then_lacks mark sep h (Some t) k = lacks-append mark t (sep ∷ []) k (lacks_more mark sep [] h refl)

pub then_part_lacks : (mark sep : ℕ) → (sep == mark) ≡ false → (o : Option Text) → IfSome o (λ t. lacks mark t ≡ true) → lacks mark (then_part (sep ∷ []) o) ≡ true
then_part_lacks mark sep h None k = refl
then_part_lacks mark sep h (Some t) k = lacks_more mark sep t h k

pub option_lacks : (mark : ℕ) (test : Text → Bool) → ((t : Text) → test t ≡ true → lacks mark t ≡ true) → (o : Option Text) → none_or test o ≡ true → IfSome o (λ t. lacks mark t ≡ true)
option_lacks mark test f None h = tt
option_lacks mark test f (Some t) h = f t h

pub scheme_lacks : (mark : ℕ) → is_ascii_alphabetic mark ≡ false → is_scheme_char mark ≡ false → (s : Text) → is_scheme s ≡ true → lacks mark s ≡ true
unfolding is_scheme
scheme_lacks mark a b [] h = refl
scheme_lacks mark a b (c ∷ cs) h = grind (arith, all_lacks)

module _ (set : CharTests) (above : AreAboveAscii set) where
  pub host_lacks : (mark : ℕ) → IsCut mark → (h : Text) → is_host set h ≡ true → lacks mark h ≡ true
  unfolding is_ip_literal is_host
  host_lacks mark m h k = grind (arith, literal_lacks, reg_name_lacks, reg_name_refuses)
