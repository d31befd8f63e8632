-- What stays before a path, and before a reference, where no segment begins with a dot.
use Rattle.std.proofs.Common.{arith, ◌≡◌, ◌+◌, ◌≤◌, true, false, ◌||◌, List, [], ◌∷◌, ◌++◌, ℕ, drop, length, take, refl, ap, append_assoc, ◌≢◌, codes, is_some}
use Rattle.std.proofs.{lemmas.Grind.{common_steps}, lemmas.List.{append-nil, drop_at}}
use Rattle.std.specs.List.{join_with_byte, list_all}
use Rattle.iref_grammar.specs.{declared.context.PathContext.{PathContext}, Rules.{Text}}
use Rattle.iref_grammar.specs.Grammar.{colon, hash_sign, question_mark, slash}
use Rattle.iref_grammar.specs.Texts.{all_but_last, lacks, part_then, pieces_at, then_part}
use Rattle.iref_grammar.specs.PathValue.{PathValue, read_path, segments_of, spell_path}
use Rattle.iref_grammar.specs.{ComponentTexts.{ComponentTexts, read_components, spell_components}, Reference.{spell}}
use Rattle.iref_grammar.proofs.ComponentLemmas.{authority_spelled, spell_components-read}
use Rattle.iref_grammar.proofs.{PathLemmas.{lacks-segments_of, read_path-reads}, TextLemmas.{pieces_at-front}}
use Rattle.iref_grammar.specs.{NormalList.{closed, normal}, PathFunctions.{directory}, PathSteps.{normalized}}
use Rattle.iref_grammar.specs.{ReferenceParts.{base_of}, Resolution.{resolved}}
use Rattle.iref_grammar.proofs.PieceLemmas.{some_piece}
use Rattle.iref_parse.specs.Dots.{has_dotted_segment, is_some_dotted}
use Rattle.iref_path.specs.MergedPaths.{path_after}
use Rattle.iref_path.proofs.DotlessLemmas.{both_dotted, dotless-spelled, normal_segments-dotless}
use Rattle.iref_path.proofs.SlashLemmas.{read-absolute}
use Rattle.iref_reference_text.specs.ComponentLengths.{lengths_of_texts, path_after as lengths_before, with_mark}
use Rattle.iref_reference_text.specs.Fronts.{IsAround, IsSpelled, StaysBefore, resolved_path}
use Rattle.iref_reference_text.specs.MeasuredReferences.{spell_texts}
use Rattle.iref_reference_text.proofs.{LengthLemmas.{path_after-texts}, MeasuredLemmas.{after_resolved, spelled_texts}}

-- ---- an absolute list after an authority

-- where no segment begins with a dot, its text spells the normalized path
rooted : (context : PathContext) (text : Text) → context.has_authority ≡ true → has_dotted_segment text ≡ false
    → slash ∷ text ≡ spell_path (normalized context (record { absolute = true; segments = pieces_at slash text }))
rooted context text h k =
    let some = some_piece slash text in
    grind (arith, dotless-spelled context true text some.0 some.1 some.2 k)

-- ---- an absolute path

same_normal : (text : Text) → normal (record { absolute = true; segments = pieces_at slash text }) ≡ normal (record { absolute = true; segments = segments_of text })
same_normal [] = grind (arith, normal_segments-dotless)
same_normal (c ∷ cs) = refl

-- the text of an absolute path, after its root
absolute_text : (path : Text) → (read_path path).absolute ≡ true → path ≡ slash ∷ join_with_byte slash (read_path path).segments
unfolding spell_path
absolute_text path e = grind (arith, read_path-reads path)

absolute-stays : (context : PathContext) (base path : Text) → context.has_authority ≡ true → (read_path path).absolute ≡ true → has_dotted_segment path ≡ false
    → path ≡ spell_path (normalized context (path_after true (read_path base) (read_path path)))
absolute-stays context base path k e h =
    let rest = join_with_byte slash (read_path path).segments in
    grind (arith, absolute_text path e, read-absolute path rest (segments_of rest), rooted context rest, both_dotted [] rest, same_normal rest)

-- ---- a relative path

relative_pieces : (path : Text) → path ≢ [] → (read_path path).absolute ≡ false → pieces_at slash path ≡ (read_path path).segments
unfolding read_path
relative_pieces [] some e = absurd (some refl)
relative_pieces (c ∷ cs) some e = grind arith

-- of a list, the segments before the last one, each with a `/` after it
abbrev front_text : List Text → Text
front_text list = join_with_byte slash (closed (all_but_last list))

front_pieces : (list : List Text) (path : Text) → list_all (lacks slash) list ≡ true → pieces_at slash (front_text list ++ path) ≡ all_but_last list ++ pieces_at slash path
front_pieces [] path h = refl
front_pieces (s ∷ rest) path h = grind (arith, common_steps, pieces_at-front, front_pieces rest path)

front_dotless : (list more : List Text) → is_some_dotted list ≡ false → is_some_dotted more ≡ false → is_some_dotted (all_but_last list ++ more) ≡ false
front_dotless [] more h k = k
front_dotless (s ∷ rest) more h k = grind (arith, front_dotless rest more)

after_segments : (list : List Text) (p : PathValue) → p.absolute ≡ false → record { absolute = true; segments = all_but_last list ++ p.segments } ≡ path_after true (record { absolute = true; segments = list }) p
after_segments list p e = grind arith

none_dotted : (text : Text) → has_dotted_segment text ≡ false → is_some_dotted (segments_of text) ≡ false
none_dotted text h = grind arith

-- the directory of an absolute base stays before it
relative-stays : (context : PathContext) (base path : Text) → context.has_authority ≡ true → (read_path base).absolute ≡ true → has_dotted_segment base ≡ false
    → path ≢ [] → (read_path path).absolute ≡ false → has_dotted_segment path ≡ false
    → spell_path (directory (read_path base)) ++ path ≡ spell_path (normalized context (path_after true (read_path base) (read_path path)))
unfolding directory spell_path
relative-stays context base path has absolute h some relative k =
    let below = join_with_byte slash (read_path base).segments in
    let list = segments_of below in
    let pieces = front_pieces list path (lacks-segments_of below) in
    let none = front_dotless list (pieces_at slash path) in
    grind (arith, absolute_text base absolute, read-absolute base below list, pieces, none, none_dotted below, both_dotted [] below, rooted context (front_text list ++ path), relative_pieces, after_segments)

-- ---- the text before a path

taken : (s a p q f : Text) → take (length s + length a) (s ++ a ++ p ++ q ++ f) ≡ s ++ a
taken s a p q f = grind (arith, common_steps)

pub before_path : (t : ComponentTexts) → take (lengths_before (lengths_of_texts t)) (spell (read_components t)) ≡ part_then (colon ∷ []) t.scheme ++ then_part (codes "//") t.authority
unfolding spell
before_path t = grind (arith, common_steps, path_after-texts t, authority_spelled, taken)

module _ (t : ComponentTexts) (authority : is_some t.authority ≡ true) (path : Text) (dotless : has_dotted_segment path ≡ false) where
  abbrev context : PathContext
  context = record { has_scheme = is_some t.scheme; has_authority = is_some t.authority }

  abbrev s : Text
  s = part_then (colon ∷ []) t.scheme

  abbrev a : Text
  a = then_part (codes "//") t.authority

  -- it ends where the base's path begins
  pub before_absolute : (read_path path).absolute ≡ true → StaysBefore t path (take (lengths_before (lengths_of_texts t)) (spell (read_components t)))
  before_absolute e = grind (arith, common_steps, before_path t, absolute-stays context t.path path authority e dotless)

  -- or where its directory ends
  pub before_relative : (read_path t.path).absolute ≡ true → has_dotted_segment t.path ≡ false → path ≢ [] → (read_path path).absolute ≡ false → StaysBefore t path (spell (base_of (read_components t)))
  unfolding spell base_of
  before_relative absolute h some relative = grind (arith, common_steps, authority_spelled, append_assoc, append-nil, relative-stays context t.path path authority absolute h some relative dotless)

-- ---- the texts of two references

put_behind : (s a p front path q f : Text) → front ++ path ≡ s ++ a ++ p → front ++ (path ++ q ++ f) ≡ s ++ a ++ p ++ q ++ f
put_behind s a p front path q f e = rw (← e) (simp append_assoc)

-- how long the path is then
pub front_length : (b : ComponentTexts) (path front : Text) → StaysBefore b path front → length front + length path ≡ lengths_before (lengths_of_texts b) + length (resolved_path b path)
front_length b path front stays = grind (arith, common_steps, ap length stays, path_after-texts b)

-- of a base, and of a reference with neither scheme nor authority
module _ (b t : ComponentTexts) (none : (is_some t.scheme || is_some t.authority) ≡ false) (some : t.path ≢ []) (front : Text) (stays : StaysBefore b t.path front) where
  abbrev joined : ComponentTexts
  joined = record { scheme = b.scheme; authority = b.authority; path = resolved_path b t.path; query = t.query; fragment = t.fragment }

  -- the components of what the reference resolves to
  pub front_components : joined ≡ spell_components (resolved (read_components b) (read_components t))
  front_components = after_resolved b t none some (resolved_path b t.path) refl

  -- its text
  pub front_spells : front ++ spell (read_components t) ≡ spell (resolved (read_components b) (read_components t))
  unfolding spell_texts
  front_spells =
      grind (arith, none, stays, put_behind, spelled_texts t (read_components t) (spell_components-read t), spelled_texts joined (resolved (read_components b) (read_components t)) front_components)

-- ---- a path between what stands before the base's and what stands behind the reference's

-- what stands behind the path, where nothing stands before it
pub path_first : (t : ComponentTexts) → (is_some t.scheme || is_some t.authority) ≡ false → length t.path ≤ length (spell (read_components t))
unfolding spell
path_first t none = grind (arith, common_steps, read_path-reads t.path)

pub behind_path : (t : ComponentTexts) → (is_some t.scheme || is_some t.authority) ≡ false
    → drop (length t.path) (spell (read_components t)) ≡ then_part (question_mark ∷ []) t.query ++ then_part (hash_sign ∷ []) t.fragment
unfolding spell
behind_path t none = grind (arith, common_steps, authority_spelled, read_path-reads t.path, append_assoc, drop_at)

-- of a base with an authority, and of a reference with neither a scheme nor an authority
module _ (b t : ComponentTexts) (authority : is_some b.authority ≡ true) (none : (is_some t.scheme || is_some t.authority) ≡ false) (some : t.path ≢ []) where
  abbrev whole : ComponentTexts
  whole = record { scheme = b.scheme; authority = b.authority; path = resolved_path b t.path; query = t.query; fragment = t.fragment }

  whole_components : whole ≡ spell_components (resolved (read_components b) (read_components t))
  whole_components = after_resolved b t none some (resolved_path b t.path) refl

  pub around_spelled : (front behind text : Text) (len : ℕ) → front ≡ part_then (colon ∷ []) b.scheme ++ then_part (codes "//") b.authority
      → behind ≡ then_part (question_mark ∷ []) t.query ++ then_part (hash_sign ∷ []) t.fragment → IsAround front b.path t.path behind text len
      → IsSpelled (resolved (read_components b) (read_components t)) text (record (lengths_of_texts b) { path = len; query = with_mark 1 t.query; fragment = with_mark 1 t.fragment })
  unfolding spell_texts
  around_spelled front behind text len f g around =
      let context : PathContext = record { has_scheme = is_some b.scheme; has_authority = is_some b.authority } in
      let put = around context authority in
      let here : resolved_path b t.path ≡ spell_path (normalized context (path_after true (read_path b.path) (read_path t.path))) = ap (λ a. spell_path (normalized context (path_after a (read_path b.path) (read_path t.path)))) authority in
      let spelled = spelled_texts whole (resolved (read_components b) (read_components t)) whole_components in
      record {
        text = grind (arith, append_assoc);
        lengths = grind (arith, ap lengths_of_texts whole_components);
      }
