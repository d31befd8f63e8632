-- Texts of path characters and `/`: the test decides the rule.
use Rattle.std.proofs.{Common.{arith, ℕ, Bool, false, ◌||◌, inl, inr, ◌==◌}, lemmas.Bool.Decides.{Decides-like}}
use Rattle.std.proofs.Math.Bool.{or-true}
use Rattle.std.specs.Bool.{Decides}
use Rattle.iref_grammar.specs.{Characters.{CharTests, AreAboveAscii}, Rules.{Text, Rule, Mark, ◌or◌, InUtf8}}
use Rattle.iref_grammar.specs.{Grammar.{slash, is_path_char, IsPathChar, IsPath}, Tests.{is_encoded, is_path}}
use Rattle.iref_grammar.proofs.{RuleLemmas.{more_like}, EncodedLemmas.{Piece, Decides-is_encoded}}
use Rattle.iref_grammar.proofs.LeafLemmas.{path_refuses, Decides-in_utf8}

abbrev pub path_or_slash : CharTests → ℕ → Bool
path_or_slash set c = is_path_char set c || c == slash

abbrev pub PathPiece : CharTests → Rule
PathPiece set = IsPathChar set or Mark slash

pub to_path_piece : (set : CharTests) (p : Text) → Piece (path_or_slash set) p → PathPiece set p
to_path_piece set p (inr esc) = inl (inr esc)
to_path_piece set p (inl one) = grind arith

pub from_path_piece : (set : CharTests) (p : Text) → PathPiece set p → Piece (path_or_slash set) p
from_path_piece set p (inl (inl one)) = inl (one.0, (λ i. one.1 i || one.0 == slash), one.2)
from_path_piece set p (inl (inr esc)) = inr esc
from_path_piece set p (inr mark) = inl (slash, or-true (is_path_char set slash), mark)

module _ (set : CharTests) (above : AreAboveAscii set) where
  pub Decides-is_path : (bytes : Text) → Decides (is_path set bytes) (InUtf8 (IsPath set) bytes)
  unfolding is_path
  Decides-is_path bytes = Decides-in_utf8 (is_encoded (path_or_slash set)) (IsPath set) of_text bytes
    where
      of_text : (text : Text) → Decides (is_encoded (path_or_slash set) text) (IsPath set text)
      of_text text =
          Decides-like (is_encoded (path_or_slash set) text) (more_like (Piece (path_or_slash set)) (PathPiece set) (to_path_piece set) text) (more_like (PathPiece set) (Piece (path_or_slash set)) (from_path_piece set) text)
          (Decides-is_encoded (path_or_slash set) (λ i. path_refuses set above i || false) text)
