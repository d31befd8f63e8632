use Rattle.std.proofs.{Common.{rules, arith, ◌≡◌, false, ap, sym, subst, ◌∙◌, None, IfNone}, lemmas.List.{length-map}}
use Rattle.iref.specs.{PrefixTable.{PrefixEntry, is_taken}, PrefixPlaces.{table_of}}
use Rattle.iref.specs.PrefixTree.{all_of, key_of, keys_of, leads_of, places_of, IsAbsent, IsFirstOf}
use Rattle.iref.specs.declared.compact.entry.Key.TheVariants.{Label, Iri}
use Rattle.iref.proofs.PrefixFindLemmas.{entry_key, led_none, led_to, lead_within}
use Rattle.iref.proofs.PrefixBookLemmas.{label_absent, label_placeless}
use Rattle.iref.proofs.compact.table.Table.held.Goals as goal

pub returns-in_err-label-clause-none : goal.returns-in_err-label-clause-none
returns-in_err-label-clause-none c =
    let self = c.args.self.now in
    let none : c.from_residual.result ≡ None = search rules in
    subst (λ o. IfNone o (is_taken c.args.label.now (table_of self.entries) ≡ false)) (sym none)
    (label_absent (all_of self.entries) (places_of self.entries) (leads_of Label self.entries) (leads_of Iri self.entries) self.len self.labels self.iris self.shared c.requires c.args.label.now (subst (IsAbsent (keys_of Label (all_of self.entries))) c.as_bytes-texts.ensures.value c.in_err-label.ensures))

pub returns-in_err-lead-clause-none : goal.returns-in_err-lead-clause-none
returns-in_err-lead-clause-none c =
    let self = c.args.self.now in
    let texts = keys_of Label (all_of self.entries) in
    let first = subst (λ t. IsFirstOf texts t c.in_ok-label.label) c.as_bytes-texts.ensures.value c.in_ok-label.ensures in
    let none : c.from_residual-in_err-lead.result ≡ None = search rules in
    subst (λ o. IfNone o (is_taken c.args.label.now (table_of self.entries) ≡ false)) (sym none)
    (label_placeless (all_of self.entries) (places_of self.entries) (leads_of Label self.entries) (leads_of Iri self.entries) self.len self.labels self.iris self.shared c.requires c.args.label.now
    (led_none texts (places_of self.entries) (leads_of Label self.entries) c.args.label.now c.in_ok-label.label c.requires.labels_led first (sym c.lead.ensures ∙ c.in_err-lead.was)))

pub returns-in_err-iri-clause-none : goal.returns-in_err-iri-clause-none
returns-in_err-iri-clause-none c =
    let self = c.args.self.now in
    let all = all_of self.entries in
    let texts = keys_of Label all in
    let first = subst (λ t. IsFirstOf texts t c.in_ok-label.label) c.as_bytes-texts.ensures.value c.in_ok-label.ensures in
    let led = led_to texts (places_of self.entries) (leads_of Label self.entries) c.args.label.now c.in_ok-label.label c.in_ok-lead.lead c.requires.labels_led first (sym c.lead.ensures ∙ c.in_ok-lead.was) in
    let inside = lead_within Label all c.in_ok-lead.lead led in
    absurd (c.in_err-iri.ensures c.in_ok-lead.lead.number (omega (arith, inside, length-map all (key_of Iri)))
    (sym (entry_key Iri all c.in_ok-lead.lead.number) ∙ ap (λ (e : PrefixEntry). e.iri) (sym c.entry.ensures) ∙ sym c.text-text.ensures ∙ sym c.as_bytes.ensures.value))
