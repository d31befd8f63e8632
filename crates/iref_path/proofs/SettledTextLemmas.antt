-- A path's text that is compared with the text of its normalized path.
use Rattle.std.proofs.Common.{◌≡◌, true, false, List, [], ◌∷◌, refl, sym, ◌∙◌, ap, arith, bytes_eq}
use Rattle.std.proofs.lemmas.Slice.Eq.{bytes_eq-Decides}
use Rattle.iref_grammar.specs.{declared.context.PathContext.{PathContext}, Rules.{Text}}
use Rattle.iref_grammar.specs.{Contexts.{fits}, PathValue.{read_path, segments_of, spell_path}}
use Rattle.iref_grammar.proofs.PathLemmas.{read_path-reads}
use Rattle.iref_grammar.specs.{Guard.{guarded}, NormalList.{normal, normal_segments}, PathSteps.{normalized}}
use Rattle.iref_parse.specs.Dots.{has_dotted_segment, is_some_dotted}
use Rattle.iref_grammar.proofs.AddedLemmas.{guarded-same}
use Rattle.iref_path.proofs.DotlessLemmas.{normal_segments-dotless}

-- two texts, in either order
pub bytes_same : (a b : Text) → bytes_eq a b ≡ bytes_eq b a
bytes_same a b = grind (arith, bytes_eq-Decides)

-- ---- a path of which no segment begins with a dot

none_dotted : (text : Text) → has_dotted_segment text ≡ false → is_some_dotted (segments_of text) ≡ false
none_dotted [] h = refl
none_dotted (c ∷ cs) h = h

read_dotless : (path : Text) → has_dotted_segment path ≡ false → is_some_dotted (read_path path).segments ≡ false
unfolding read_path
read_dotless [] h = refl
read_dotless (c ∷ cs) h = grind (arith, none_dotted cs)

-- it is its own normal path, and needs no guard where it may stand
pub dotless_settled : (context : PathContext) (path : Text) → fits context (read_path path) ≡ true → has_dotted_segment path ≡ false → true ≡ bytes_eq (spell_path (normalized context (read_path path))) path
dotless_settled context path fit h =
    let p = read_path path in
    let list : normal_segments p ≡ p.segments = grind (arith, normal_segments-dotless p (read_dotless path h)) in
    let own : normal p ≡ p = ap (λ (l : List Text). record p { segments = l }) list in
    let text : spell_path (normalized context p) ≡ path = ap (λ q. spell_path (guarded context q)) own ∙ ap spell_path (guarded-same context p fit) ∙ (read_path-reads path).spelled in
    sym ((bytes_eq-Decides (spell_path (normalized context p)) path).1 text)

pub ruleset settled = (dotless_settled, bytes_same)
