use Rattle.std.proofs.{Common.{arith, ◌-◌, length, ap, sym, subst, ◌∙◌, None}, Math.ListN.{set}}
use Rattle.iref.specs.PrefixPlaces.{entries_at, lead_to, stands_there, table_of, ArePlaces}
use Rattle.iref.specs.PrefixTree.{all_of, keys_of, leads_of, place_at, places_of, text_at}
use Rattle.iref.specs.declared.compact.entry.Key.TheVariants.{Label, Iri}
use Rattle.iref.proofs.{PrefixFindLemmas.{rows_all, rows_texts}, PrefixPlaceLemmas.{removed_none}}
use Rattle.iref.proofs.PrefixBookLemmas.{book_is, book_removed, held_inside, inside_rows, label_taken, removed_entries, removed_inside, rows_places, some_entry}
use Rattle.iref.proofs.compact.table.Table.remove.Goals as goal

pub returns-in_default-clause-left : goal.returns-in_default-clause-left
returns-in_default-clause-left c = sym (removed_none c.args.label.now (table_of c.args.self.now.entries) c.in_default.ensures.none)

pub first_place-first-requires : goal.first_place-first-requires
first_place-first-requires c = let l = c.in-Some.ensures.some.iri.0.within in omega (arith, rows_texts Iri c.args.self.now.entries)

pub remove-first-requires : goal.remove-first-requires
remove-first-requires c = let l = c.in-Some.ensures.some.iri.0.within in omega (arith, rows_texts Iri c.args.self.now.entries)

pub set_place-requires-clause-place : goal.set_place-requires-clause-place
set_place-requires-clause-place c =
    let self = c.args.self.now in
    let es = self.entries in
    let held = c.in-Some.held in
    let is = c.in-Some.ensures.some in
    omega (arith, held_inside (all_of es) (places_of es) (leads_of Label es) (leads_of Iri es) self.len self.labels self.iris self.shared c.requires.table c.args.label.now held.lead.place held.lead.number held.label held.iri is.stands is.is is.label is.iri, rows_places es)

pub set_place-requires-clause-label : goal.set_place-requires-clause-label
set_place-requires-clause-label c = let l = c.in-Some.ensures.some.label.0.within in omega (arith, rows_texts Label c.args.self.now.entries)

pub set_first-requires-clause-iri : goal.set_first-requires-clause-iri
set_first-requires-clause-iri c =
    let l = c.in-Some.ensures.some.iri.0.within in
    omega (arith, rows_texts Iri c.args.self.now.entries, rows_all c.args.self.now.entries, rows_all c.set_place.new.self, ap length c.set_place.ensures.all)

pub set_first-requires-clause-place : goal.set_first-requires-clause-place
set_first-requires-clause-place c =
    let self = c.args.self.now in
    let es = self.entries in
    let held = c.in-Some.held in
    let is = c.in-Some.ensures.some in
    let texts = keys_of Iri (all_of es) in
    let made = c.remove-first.ensures.left (λ q. stands_there texts (text_at texts held.iri) (place_at (places_of es) q))
    (subst (λ o. ArePlaces self.shared held.iri o (λ q. stands_there texts (text_at texts held.iri) (place_at (places_of es) q))) (sym c.first_place-first.ensures) (c.requires.table.shared.first held.iri is.iri.0)) in
    inside_rows c.set_place.new.self _ c.remove-first.result c.set_place.ensures.places (removed_inside (all_of es) (places_of es) (leads_of Label es) (leads_of Iri es) self.len self.labels self.iris self.shared c.requires.table c.args.label.now held.lead.place held.lead.number held.label held.iri is.stands is.is is.label is.iri c.remove-first.new.self c.remove-first.result made)

pub overflow_sub-self : goal.overflow_sub-self
overflow_sub-self c =
    let self = c.args.self.now in
    let es = self.entries in
    let held = c.in-Some.held in
    let is = c.in-Some.ensures.some in
    omega (arith, some_entry (all_of es) (places_of es) (leads_of Label es) (leads_of Iri es) self.len self.labels self.iris self.shared c.requires.table c.args.label.now held.lead.place held.lead.number held.label held.iri is.stands is.is is.label is.iri)

pub returns-clause-table : goal.returns-clause-table
returns-clause-table c =
    let self = c.args.self.now in
    let es = self.entries in
    let held = c.in-Some.held in
    let is = c.in-Some.ensures.some in
    let texts = keys_of Iri (all_of es) in
    let made = c.remove-first.ensures.left (λ q. stands_there texts (text_at texts held.iri) (place_at (places_of es) q))
    (subst (λ o. ArePlaces self.shared held.iri o (λ q. stands_there texts (text_at texts held.iri) (place_at (places_of es) q))) (sym c.first_place-first.ensures) (c.requires.table.shared.first held.iri is.iri.0)) in
    book_is (all_of es) _ (set (places_of es) held.lead.place None) _ (set (leads_of Label es) held.label None) _ (set (leads_of Iri es) held.iri (lead_to (set (places_of es) held.lead.place None) c.remove-first.result)) _
    (self.len - 1) self.labels self.iris c.remove-first.new.self
    (c.set_first.ensures.all ∙ c.set_place.ensures.all) (c.set_first.ensures.places ∙ c.set_place.ensures.places) (c.set_first.ensures.labels ∙ c.set_place.ensures.labels)
    (c.set_first.ensures.iris ∙ (λ i. set (c.set_place.ensures.iris i) held.iri (lead_to (c.set_place.ensures.places i) c.remove-first.result)))
    (book_removed (all_of es) (places_of es) (leads_of Label es) (leads_of Iri es) self.len self.labels self.iris self.shared c.requires.table c.args.label.now held.lead.place held.lead.number held.label held.iri is.stands is.is is.label is.iri c.remove-first.new.self c.remove-first.result made (λ n q. c.remove-first.ensures.others n q))

pub returns-clause-was : goal.returns-clause-was
returns-clause-was c =
    let self = c.args.self.now in
    let es = self.entries in
    let held = c.in-Some.held in
    let is = c.in-Some.ensures.some in
    sym (label_taken (all_of es) (places_of es) (leads_of Label es) (leads_of Iri es) self.len self.labels self.iris self.shared c.requires.table c.args.label.now held.lead.place held.lead.number is.stands is.is)

pub returns-clause-left : goal.returns-clause-left
returns-clause-left c =
    let self = c.args.self.now in
    let es = self.entries in
    let held = c.in-Some.held in
    let is = c.in-Some.ensures.some in
    (λ i. entries_at ((c.set_first.ensures.all ∙ c.set_place.ensures.all) i) ((c.set_first.ensures.places ∙ c.set_place.ensures.places) i)) ∙ removed_entries (all_of es) (places_of es) (leads_of Label es) (leads_of Iri es) self.len self.labels self.iris self.shared c.requires.table c.args.label.now held.lead.place held.lead.number held.label held.iri is.stands is.is is.label is.iri
