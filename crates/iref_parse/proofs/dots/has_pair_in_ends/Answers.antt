use Rattle.std.proofs.Common.{◌+◌, cond, eqb, get_or, bit_and, ap, ◌∙◌, arith}
use Rattle.iref_parse.proofs.PairLemmas.{pairs_found, Seen-pairs_of_ends}
use Rattle.iref_parse.proofs.dots.has_pair_in_ends.Goals as goal

pub returns : goal.returns
returns c =
    let path = c.args.path.now in
    let first = c.args.first in
    let second = c.args.second in
    let firsts = c.equal_to-firsts.ensures in
    let seconds = c.equal_to-seconds.ensures in
    let seen = Seen-pairs_of_ends path c.requires.least first second c.both.result c.requires.most
    (record {
      long = c.both.ensures.long;
      each = λ k l.
          let one = firsts.each k l ∙ ap (λ x. cond (eqb x first) 255 0) (c.load.ensures.each k l ∙ ap (λ t. get_or t (0 + k) 0) c.ends_of.ensures) in
          let other = seconds.each k l ∙ ap (λ x. cond (eqb x second) 255 0) (c.load-2.ensures.each k l ∙ ap (λ t. get_or t (0 + k) 0) c.ends_of-2.ensures) in
          c.both.ensures.each k l ∙ (λ i. bit_and (one i) (other i));
    }) in
    pairs_found first second path c.both.result 0 (omega arith) seen c.is_clear.result c.is_clear.ensures
