use Rattle.std.proofs.{Common.{ap, sym, ◌∙◌, ◌++◌, rules}, lemmas.List.{append_assoc}}
use Rattle.std.specs.Cmp.Rules.{comparing}
use Rattle.percent_encoding.specs.Percent.{percent_decode}
use Rattle.iref_component.specs.Components.{text_of}
use Rattle.iref_grammar.proofs.TieLemmas.{texts_tie, options_tie_by, options_tie_through, both_tie_by, feeds_by, feeds_through}
use Rattle.iref_canonical.specs.HashedParts.{fed_part}
use Rattle.iref_canonical.proofs.HashedPartLemmas.{authority-delimits}
use Rattle.iref_component.proofs.authority_parts.authority_parts_compare_by_key.Goals as goal

pub returns : goal.returns
returns g c = (
  (λ a b.
      let user_info = options_tie_through _ text_of percent_decode (λ x y. texts_tie (percent_decode (text_of x)) (percent_decode (text_of y))) a.user_info b.user_info in
      let host = texts_tie (percent_decode (text_of a.host)) (percent_decode (text_of b.host)) in
      let port = options_tie_by _ text_of (λ x y. texts_tie (text_of x) (text_of y)) a.port b.port in
      let parts = both_tie_by _ _ user_info (both_tie_by _ _ host port) in (
        λ e. let same = parts.0 e in λ i. record { user_info = same.0 i; host = same.1.0 i; port = same.1.1 i },
        λ e. parts.1 (ap (λ k. k.user_info) e, (ap (λ k. k.host) e, ap (λ k. k.port) e)),
      )),
  (λ a b. search (comparing, rules)),
  (λ v.
      let host = fed_part (percent_decode (text_of v.host)) in
      let user_info = feeds_through fed_part text_of percent_decode v.user_info in
      let port = feeds_by fed_part text_of v.port in
      (λ i. user_info i ++ (host ++ port i)) ∙ sym (append_assoc _ host _)),
  authority-delimits,
)
