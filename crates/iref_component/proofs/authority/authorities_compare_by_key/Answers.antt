use Rattle.std.proofs.Common.{refl}
use Rattle.iref_grammar.specs.Authority.{read_authority}
use Rattle.iref_grammar.specs.AuthorityKey.{authority_key}
use Rattle.iref_grammar.proofs.TieLemmas.{authorities_tie}
use Rattle.iref_canonical.proofs.HashedPartLemmas.{authority-delimits}
use Rattle.iref_component.specs.Components.{text_of}
use Rattle.iref_component.proofs.authority.authorities_compare_by_key.Goals as goal

pub returns : goal.returns
returns g c = ((λ a b. authorities_tie (authority_key (read_authority (text_of a))) (authority_key (read_authority (text_of b)))), (λ a b. refl), (λ v. refl), authority-delimits)
