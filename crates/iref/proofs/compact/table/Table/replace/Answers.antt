use Rattle.std.proofs.{Common.{arith, ◌≡◌, ◌≢◌, length, map, ap, sym, subst, ◌∙◌, Some}, lemmas.Bool.{both_ways}}
use Rattle.std.proofs.Math.ListN.{set}
use Rattle.std.specs.Cmp.Lexicographic.{bytes_decides}
use Rattle.iref.specs.PrefixTable.{PrefixEntry, with_iri}
use Rattle.iref.specs.PrefixPlaces.{entries_at, lead_to, stands_there, table_of, ArePlaces}
use Rattle.iref.specs.PrefixTree.{all_of, keys_of, leads_of, place_at, places_of, text_at}
use Rattle.iref.specs.declared.compact.entry.Key.TheVariants.{Label, Iri}
use Rattle.iref.proofs.PrefixFindLemmas.{entry_key, rows_all, rows_texts}
use Rattle.iref.proofs.PrefixPlaceLemmas.{changed_none, entries_kept}
use Rattle.iref.proofs.PrefixBookLemmas.{added_entry, between_places, book_is, book_replaced, held_again, held_inside, inside_rows, iri_again, label_alone, label_taken, new_inside, old_inside, other_place, replaced_entries, rows_places, same_iri}
use Rattle.iref.proofs.compact.table.Table.replace.Goals as goal

pub returns-in_default-clause-ok : goal.returns-in_default-clause-ok
returns-in_default-clause-ok c = sym (changed_none c.args.label.now c.args.iri.now (table_of c.args.self.now.entries) c.in_default.ensures.none)

pub returns-then-eq-clause-was : goal.returns-then-eq-clause-was
returns-then-eq-clause-was c =
    let self = c.args.self.now in
    let es = self.entries in
    let held = c.in-Some.held in
    let is = c.in-Some.ensures.some in
    sym (label_taken (all_of es) (places_of es) (leads_of Label es) (leads_of Iri es) self.len self.labels self.iris self.shared c.requires.table c.args.label.now held.lead.place held.lead.number is.stands is.is)

pub returns-then-eq-clause-ok : goal.returns-then-eq-clause-ok
returns-then-eq-clause-ok c =
    let self = c.args.self.now in
    let es = self.entries in
    let held = c.in-Some.held in
    let is = c.in-Some.ensures.some in
    let same : c.text.result.now ≡ c.args.iri.now = (bytes_decides c.text.result.now c.args.iri.now).0 (sym c.eq.ensures ∙ c.if-eq.true) in
    sym (entries_kept (all_of es) (places_of es) c.args.label.now c.args.iri.now held.lead.place held.lead.number is.stands
    (same_iri (all_of es) held.lead.number c.args.label.now c.args.iri.now is.is (sym (entry_key Iri (all_of es) held.lead.number) ∙ ap (λ (d : PrefixEntry). d.iri) (sym c.entry.ensures) ∙ sym c.text.ensures ∙ same))
    (label_alone (all_of es) (places_of es) (leads_of Label es) (leads_of Iri es) self.len self.labels self.iris self.shared c.requires.table c.args.label.now held.lead.place held.lead.number is.stands is.is))

pub entry-requires : goal.entry-requires
entry-requires c = let is = c.in-Some.ensures.some in omega (arith, c.requires.table.within c.in-Some.held.lead.place c.in-Some.held.lead.number is.stands, rows_all c.args.self.now.entries)

pub first_place-new-requires : goal.first_place-new-requires
first_place-new-requires c = let l = c.in_ok-added.ensures.ok.iri.0.within in omega (arith, rows_texts Iri c.add.new.self.entries)

pub first_place-old-requires : goal.first_place-old-requires
first_place-old-requires c =
    let old = c.args.self.now in
    let self = c.add.new.self in
    let es = self.entries in
    let held = c.in-Some.held in
    let added = c.in_ok-added.added in
    let new = c.in_ok-added.ensures.ok in
    let e : PrefixEntry = record { label = c.args.label.now; iri = c.args.iri.now } in
    let read = added_entry old.entries es e added new in
    let is = held_again old.entries es c.args.label.now held e c.requires.table.within new.all new.places c.in-Some.ensures.some in
    let l = is.iri.0.within in omega (arith, rows_texts Iri es)

pub remove-old-requires : goal.remove-old-requires
remove-old-requires c =
    let old = c.args.self.now in
    let self = c.add.new.self in
    let es = self.entries in
    let held = c.in-Some.held in
    let added = c.in_ok-added.added in
    let new = c.in_ok-added.ensures.ok in
    let e : PrefixEntry = record { label = c.args.label.now; iri = c.args.iri.now } in
    let read = added_entry old.entries es e added new in
    let is = held_again old.entries es c.args.label.now held e c.requires.table.within new.all new.places c.in-Some.ensures.some in
    let l = is.iri.0.within in omega (arith, rows_texts Iri es)

pub set_place-requires-clause-place : goal.set_place-requires-clause-place
set_place-requires-clause-place c =
    let old = c.args.self.now in
    let self = c.add.new.self in
    let es = self.entries in
    let held = c.in-Some.held in
    let added = c.in_ok-added.added in
    let new = c.in_ok-added.ensures.ok in
    let e : PrefixEntry = record { label = c.args.label.now; iri = c.args.iri.now } in
    let read = added_entry old.entries es e added new in
    let is = held_again old.entries es c.args.label.now held e c.requires.table.within new.all new.places c.in-Some.ensures.some in
    omega (arith, held_inside (all_of es) (places_of es) (leads_of Label es) (leads_of Iri es) self.len self.labels self.iris self.shared c.add.ensures.table c.args.label.now held.lead.place held.lead.number held.label held.iri is.stands is.is is.label is.iri, rows_places es)

pub set_place-requires-clause-label : goal.set_place-requires-clause-label
set_place-requires-clause-label c =
    let old = c.args.self.now in
    let self = c.add.new.self in
    let es = self.entries in
    let held = c.in-Some.held in
    let added = c.in_ok-added.added in
    let new = c.in_ok-added.ensures.ok in
    let e : PrefixEntry = record { label = c.args.label.now; iri = c.args.iri.now } in
    let read = added_entry old.entries es e added new in
    let is = held_again old.entries es c.args.label.now held e c.requires.table.within new.all new.places c.in-Some.ensures.some in
    let l = is.label.0.within in omega (arith, rows_texts Label es)

pub set_first-requires-clause-iri : goal.set_first-requires-clause-iri
set_first-requires-clause-iri c =
    let old = c.args.self.now in
    let self = c.add.new.self in
    let es = self.entries in
    let held = c.in-Some.held in
    let added = c.in_ok-added.added in
    let new = c.in_ok-added.ensures.ok in
    let e : PrefixEntry = record { label = c.args.label.now; iri = c.args.iri.now } in
    let read = added_entry old.entries es e added new in
    let is = held_again old.entries es c.args.label.now held e c.requires.table.within new.all new.places c.in-Some.ensures.some in
    let l = is.iri.0.within in omega (arith, rows_texts Iri es, rows_all es, rows_all c.set_place.new.self, ap length c.set_place.ensures.all)

pub set_first-requires-clause-place : goal.set_first-requires-clause-place
set_first-requires-clause-place c =
    let old = c.args.self.now in
    let self = c.add.new.self in
    let es = self.entries in
    let held = c.in-Some.held in
    let added = c.in_ok-added.added in
    let new = c.in_ok-added.ensures.ok in
    let e : PrefixEntry = record { label = c.args.label.now; iri = c.args.iri.now } in
    let read = added_entry old.entries es e added new in
    let is = held_again old.entries es c.args.label.now held e c.requires.table.within new.all new.places c.in-Some.ensures.some in
    let stays = iri_again old.entries es held.lead.number e (c.requires.table.within held.lead.place held.lead.number c.in-Some.ensures.some.stands) new.all in
    let apart : text_at (keys_of Iri (all_of es)) held.lead.number ≢ c.args.iri.now = λ same.
    both_ways _ (sym c.eq.ensures ∙ c.if-eq.false)
    ((bytes_decides c.text.result.now c.args.iri.now).1 (c.text.ensures ∙ ap (λ (d : PrefixEntry). d.iri) c.entry.ensures ∙ entry_key Iri (all_of old.entries) held.lead.number ∙ sym stays ∙ same)) in
    let texts = keys_of Iri (all_of es) in
    let more = c.in_ok-new.ensures.ok (λ q. stands_there texts (text_at texts added.iri) (place_at (places_of es) q)) (other_place (all_of es) (places_of es) (leads_of Label es) (leads_of Iri es) self.len self.labels self.iris self.shared c.add.ensures.table c.args.label.now held.lead.place held.lead.number held.label held.iri is.stands is.is is.label is.iri c.args.iri.now added.number added.iri read.0 read.1 new.iri apart)
    (subst (λ o. ArePlaces self.shared added.iri o (λ q. stands_there texts (text_at texts added.iri) (place_at (places_of es) q))) (sym c.first_place-new.ensures) (c.add.ensures.table.shared.first added.iri new.iri.0)) in
    let between = between_places (all_of es) (places_of es) (leads_of Label es) (leads_of Iri es) self.len self.labels self.iris self.shared c.add.ensures.table c.args.label.now held.lead.place held.lead.number held.label held.iri is.stands is.is is.label is.iri c.args.iri.now added.number added.iri read.0 read.1 new.iri apart c.insert.new.self c.remove-old.new.self c.remove-old.result (Some c.in_ok-new.new) more (λ n q. c.insert.ensures.others n q) (λ n q. c.remove-old.ensures.others n q) in
    let less = c.remove-old.ensures.left (λ q. stands_there texts (text_at texts held.iri) (place_at (places_of es) q))
    (subst (λ o. ArePlaces c.insert.new.self held.iri o (λ q. stands_there texts (text_at texts held.iri) (place_at (places_of es) q))) (sym c.first_place-old.ensures) between) in
    inside_rows c.set_place.new.self _ c.remove-old.result c.set_place.ensures.places (old_inside (all_of es) (places_of es) (leads_of Label es) (leads_of Iri es) self.len self.labels self.iris self.shared c.add.ensures.table c.args.label.now held.lead.place held.lead.number held.label held.iri is.stands is.is is.label is.iri c.args.iri.now added.number added.iri read.0 read.1 new.iri apart c.insert.new.self c.remove-old.new.self c.remove-old.result (Some c.in_ok-new.new) more (λ n q. c.insert.ensures.others n q) (λ n q. c.remove-old.ensures.others n q) less)

pub set_first-requires-2-clause-iri : goal.set_first-requires-2-clause-iri
set_first-requires-2-clause-iri c =
    let l = c.in_ok-added.ensures.ok.iri.0.within in
    let es = c.add.new.self.entries in
    omega (arith, rows_texts Iri es, rows_all es, rows_all c.set_first.new.self, ap length (c.set_first.ensures.all ∙ c.set_place.ensures.all))

pub set_first-requires-2-clause-place : goal.set_first-requires-2-clause-place
set_first-requires-2-clause-place c =
    let old = c.args.self.now in
    let self = c.add.new.self in
    let es = self.entries in
    let held = c.in-Some.held in
    let added = c.in_ok-added.added in
    let new = c.in_ok-added.ensures.ok in
    let e : PrefixEntry = record { label = c.args.label.now; iri = c.args.iri.now } in
    let read = added_entry old.entries es e added new in
    let is = held_again old.entries es c.args.label.now held e c.requires.table.within new.all new.places c.in-Some.ensures.some in
    let stays = iri_again old.entries es held.lead.number e (c.requires.table.within held.lead.place held.lead.number c.in-Some.ensures.some.stands) new.all in
    let apart : text_at (keys_of Iri (all_of es)) held.lead.number ≢ c.args.iri.now = λ same.
    both_ways _ (sym c.eq.ensures ∙ c.if-eq.false)
    ((bytes_decides c.text.result.now c.args.iri.now).1 (c.text.ensures ∙ ap (λ (d : PrefixEntry). d.iri) c.entry.ensures ∙ entry_key Iri (all_of old.entries) held.lead.number ∙ sym stays ∙ same)) in
    let texts = keys_of Iri (all_of es) in
    let more = c.in_ok-new.ensures.ok (λ q. stands_there texts (text_at texts added.iri) (place_at (places_of es) q)) (other_place (all_of es) (places_of es) (leads_of Label es) (leads_of Iri es) self.len self.labels self.iris self.shared c.add.ensures.table c.args.label.now held.lead.place held.lead.number held.label held.iri is.stands is.is is.label is.iri c.args.iri.now added.number added.iri read.0 read.1 new.iri apart)
    (subst (λ o. ArePlaces self.shared added.iri o (λ q. stands_there texts (text_at texts added.iri) (place_at (places_of es) q))) (sym c.first_place-new.ensures) (c.add.ensures.table.shared.first added.iri new.iri.0)) in
    let between = between_places (all_of es) (places_of es) (leads_of Label es) (leads_of Iri es) self.len self.labels self.iris self.shared c.add.ensures.table c.args.label.now held.lead.place held.lead.number held.label held.iri is.stands is.is is.label is.iri c.args.iri.now added.number added.iri read.0 read.1 new.iri apart c.insert.new.self c.remove-old.new.self c.remove-old.result (Some c.in_ok-new.new) more (λ n q. c.insert.ensures.others n q) (λ n q. c.remove-old.ensures.others n q) in
    let less = c.remove-old.ensures.left (λ q. stands_there texts (text_at texts held.iri) (place_at (places_of es) q))
    (subst (λ o. ArePlaces c.insert.new.self held.iri o (λ q. stands_there texts (text_at texts held.iri) (place_at (places_of es) q))) (sym c.first_place-old.ensures) between) in
    inside_rows c.set_first.new.self _ (Some c.in_ok-new.new) (c.set_first.ensures.places ∙ c.set_place.ensures.places) (new_inside (all_of es) (places_of es) (leads_of Label es) (leads_of Iri es) self.len self.labels self.iris self.shared c.add.ensures.table c.args.label.now held.lead.place held.lead.number held.label held.iri is.stands is.is is.label is.iri c.args.iri.now added.number added.iri read.0 read.1 new.iri apart c.insert.new.self c.remove-old.new.self c.remove-old.result (Some c.in_ok-new.new) more (λ n q. c.insert.ensures.others n q) (λ n q. c.remove-old.ensures.others n q) less)

pub returns-clause-table : goal.returns-clause-table
returns-clause-table c =
    let old = c.args.self.now in
    let self = c.add.new.self in
    let es = self.entries in
    let held = c.in-Some.held in
    let added = c.in_ok-added.added in
    let new = c.in_ok-added.ensures.ok in
    let e : PrefixEntry = record { label = c.args.label.now; iri = c.args.iri.now } in
    let read = added_entry old.entries es e added new in
    let is = held_again old.entries es c.args.label.now held e c.requires.table.within new.all new.places c.in-Some.ensures.some in
    let stays = iri_again old.entries es held.lead.number e (c.requires.table.within held.lead.place held.lead.number c.in-Some.ensures.some.stands) new.all in
    let apart : text_at (keys_of Iri (all_of es)) held.lead.number ≢ c.args.iri.now = λ same.
    both_ways _ (sym c.eq.ensures ∙ c.if-eq.false)
    ((bytes_decides c.text.result.now c.args.iri.now).1 (c.text.ensures ∙ ap (λ (d : PrefixEntry). d.iri) c.entry.ensures ∙ entry_key Iri (all_of old.entries) held.lead.number ∙ sym stays ∙ same)) in
    let texts = keys_of Iri (all_of es) in
    let more = c.in_ok-new.ensures.ok (λ q. stands_there texts (text_at texts added.iri) (place_at (places_of es) q)) (other_place (all_of es) (places_of es) (leads_of Label es) (leads_of Iri es) self.len self.labels self.iris self.shared c.add.ensures.table c.args.label.now held.lead.place held.lead.number held.label held.iri is.stands is.is is.label is.iri c.args.iri.now added.number added.iri read.0 read.1 new.iri apart)
    (subst (λ o. ArePlaces self.shared added.iri o (λ q. stands_there texts (text_at texts added.iri) (place_at (places_of es) q))) (sym c.first_place-new.ensures) (c.add.ensures.table.shared.first added.iri new.iri.0)) in
    let between = between_places (all_of es) (places_of es) (leads_of Label es) (leads_of Iri es) self.len self.labels self.iris self.shared c.add.ensures.table c.args.label.now held.lead.place held.lead.number held.label held.iri is.stands is.is is.label is.iri c.args.iri.now added.number added.iri read.0 read.1 new.iri apart c.insert.new.self c.remove-old.new.self c.remove-old.result (Some c.in_ok-new.new) more (λ n q. c.insert.ensures.others n q) (λ n q. c.remove-old.ensures.others n q) in
    let less = c.remove-old.ensures.left (λ q. stands_there texts (text_at texts held.iri) (place_at (places_of es) q))
    (subst (λ o. ArePlaces c.insert.new.self held.iri o (λ q. stands_there texts (text_at texts held.iri) (place_at (places_of es) q))) (sym c.first_place-old.ensures) between) in
    let put = set (places_of es) held.lead.place (Some added.number) in
    let places_is = c.set_first.ensures.places ∙ c.set_place.ensures.places in
    book_is (all_of es) _ put _ (set (leads_of Label es) held.label (Some (record { place = held.lead.place; number = added.number }))) _
    (set (set (leads_of Iri es) held.iri (lead_to put c.remove-old.result)) added.iri (lead_to put (Some c.in_ok-new.new))) _ self.len self.labels self.iris c.remove-old.new.self
    (c.set_first-2.ensures.all ∙ c.set_first.ensures.all ∙ c.set_place.ensures.all) (c.set_first-2.ensures.places ∙ places_is) (c.set_first-2.ensures.labels ∙ c.set_first.ensures.labels ∙ c.set_place.ensures.labels)
    (c.set_first-2.ensures.iris ∙ (λ i. set (c.set_first.ensures.iris i) added.iri (lead_to (places_is i) (Some c.in_ok-new.new)))
    ∙ (λ i. set (set (c.set_place.ensures.iris i) held.iri (lead_to (c.set_place.ensures.places i) c.remove-old.result)) added.iri (lead_to put (Some c.in_ok-new.new))))
    (book_replaced (all_of es) (places_of es) (leads_of Label es) (leads_of Iri es) self.len self.labels self.iris self.shared c.add.ensures.table c.args.label.now held.lead.place held.lead.number held.label held.iri is.stands is.is is.label is.iri c.args.iri.now added.number added.iri read.0 read.1 new.iri apart c.insert.new.self c.remove-old.new.self c.remove-old.result (Some c.in_ok-new.new) more (λ n q. c.insert.ensures.others n q) (λ n q. c.remove-old.ensures.others n q) less)

pub returns-clause-was : goal.returns-clause-was
returns-clause-was c =
    let self = c.args.self.now in
    let es = self.entries in
    let held = c.in-Some.held in
    let is = c.in-Some.ensures.some in
    sym (label_taken (all_of es) (places_of es) (leads_of Label es) (leads_of Iri es) self.len self.labels self.iris self.shared c.requires.table c.args.label.now held.lead.place held.lead.number is.stands is.is)

pub returns-clause-ok : goal.returns-clause-ok
returns-clause-ok c =
    let old = c.args.self.now in
    let self = c.add.new.self in
    let es = self.entries in
    let held = c.in-Some.held in
    let added = c.in_ok-added.added in
    let new = c.in_ok-added.ensures.ok in
    let e : PrefixEntry = record { label = c.args.label.now; iri = c.args.iri.now } in
    let read = added_entry old.entries es e added new in
    let is = held_again old.entries es c.args.label.now held e c.requires.table.within new.all new.places c.in-Some.ensures.some in
    let stays = iri_again old.entries es held.lead.number e (c.requires.table.within held.lead.place held.lead.number c.in-Some.ensures.some.stands) new.all in
    let apart : text_at (keys_of Iri (all_of es)) held.lead.number ≢ c.args.iri.now = λ same.
    both_ways _ (sym c.eq.ensures ∙ c.if-eq.false)
    ((bytes_decides c.text.result.now c.args.iri.now).1 (c.text.ensures ∙ ap (λ (d : PrefixEntry). d.iri) c.entry.ensures ∙ entry_key Iri (all_of old.entries) held.lead.number ∙ sym stays ∙ same)) in
    (λ i. entries_at ((c.set_first-2.ensures.all ∙ c.set_first.ensures.all ∙ c.set_place.ensures.all) i) ((c.set_first-2.ensures.places ∙ c.set_first.ensures.places ∙ c.set_place.ensures.places) i))
    ∙ replaced_entries (all_of es) (places_of es) (leads_of Label es) (leads_of Iri es) self.len self.labels self.iris self.shared c.add.ensures.table c.args.label.now held.lead.place held.lead.number held.label held.iri is.stands is.is is.label is.iri c.args.iri.now added.number added.iri read.0 read.1 new.iri apart ∙ ap (map (with_iri c.args.label.now c.args.iri.now)) c.add.ensures.same
