use Rattle.iref.proofs.PrefixLemmas.{get-replaced, get-replaced_others, replaced-order, replaced-free, replaced-bad_label}
use Rattle.iref.proofs.prefix_laws.replacing_keeps_the_order_of_labels.Goals as goal

pub returns : goal.returns
returns c = record {
  new = get-replaced;
  others = λ label iri other table new h. get-replaced_others label iri table new h other;
  order = replaced-order;
  absent = replaced-free;
  bad_label = replaced-bad_label;
}
