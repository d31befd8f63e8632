use Rattle.std.proofs.{Common.{◌≡◌, ℕ, ◌<◌, true, sym, subst, arith}, lemmas.Bool.Decides.{nat_tests}}
use Rattle.std.proofs.{lemmas.List.Sums.{AllPass-from_list_all}, lemmas.Str.{IsUtf8-from_ascii}}
use Rattle.std.proofs.lemmas.Str.Ascii.{IsAscii-from_all}
use Rattle.std.specs.{Char.{is_ascii}, Str.{IsUtf8}}
use Rattle.iref_grammar.specs.Rules.{Text}
use Rattle.iref_grammar.specs.Mapping.{mapped}
use Rattle.iref_grammar.proofs.MappedLemmas.{ascii-mapped}
use Rattle.iref_reference_text.proofs.mapped_bytes.mapped.Goals as goal

below_128 : (b : ℕ) → is_ascii b ≡ true → b < 128
below_128 b h = grind (arith, nat_tests)

-- a mapping is ASCII
utf8-mapped : (text : Text) → IsUtf8 (mapped text)
utf8-mapped text = IsUtf8-from_ascii (mapped text) (IsAscii-from_all (mapped text) (λ k d l. below_128 _ (AllPass-from_list_all is_ascii (mapped text) (ascii-mapped text) k d l)))

pub from_utf8_unchecked-requires : goal.from_utf8_unchecked-requires
from_utf8_unchecked-requires c = subst IsUtf8 (sym c.in_ok-map_in_place.ensures.ok) (utf8-mapped _)
