use Rattle.std.proofs.{Common.{◌∷◌, [], not, arith}, lemmas.List.Sums.{prefix_len-le-length}}
use Rattle.std.specs.Char.{char_set_contains}
use Rattle.iref_parse.proofs.cut.cut_bytes.Goals as goal

pub split_at-requires : goal.split_at-requires
split_at-requires c = omega (arith, c.position_of.ensures, prefix_len-le-length (λ b. not (char_set_contains (c.args.mark ∷ []) b)) c.args.text.now)
