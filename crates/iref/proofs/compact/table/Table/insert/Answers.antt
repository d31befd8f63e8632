use Rattle.std.proofs.Common.{arith, ◌≡◌, false, [], ◌∷◌, ◌++◌, ◌+◌, length, ap, sym, subst, ◌∙◌, Some}
use Rattle.std.proofs.Math.ListN.{set}
use Rattle.iref.specs.PrefixTable.{PrefixEntry, is_taken}
use Rattle.iref.specs.PrefixPlaces.{entries_at, lead_to, stands_there, table_of, ArePlaces}
use Rattle.iref.specs.PrefixTree.{all_of, keys_of, leads_of, place_at, places_of, text_at}
use Rattle.iref.specs.declared.compact.entry.Key.TheVariants.{Label, Iri}
use Rattle.iref.proofs.{PrefixFindLemmas.{rows_all, rows_texts}, PrefixPlaceLemmas.{length_at_most}}
use Rattle.iref.proofs.PrefixBookLemmas.{added_entry, added_last, added_place, book_inserted, book_is, free_place, inserted_inside, inside_rows, rows_places}
use Rattle.iref.proofs.compact.table.Table.insert.Goals as goal

pub first_place-first-requires : goal.first_place-first-requires
first_place-first-requires c = let l = c.in_ok-added.ensures.ok.iri.0.within in omega (arith, rows_texts Iri c.add.new.self.entries)

pub set_place-requires-clause-place : goal.set_place-requires-clause-place
set_place-requires-clause-place c =
    let self = c.add.new.self in
    let es = self.entries in
    let added = c.in_ok-added.added in
    let is = c.in_ok-added.ensures.ok in
    let e : PrefixEntry = record { label = c.args.label.now; iri = c.args.iri.now } in
    let read = added_entry c.args.self.now.entries es e added is in
    let at = added_place c.args.self.now.entries es e added is in
    omega (arith, read.1, rows_all es)

pub set_place-requires-clause-label : goal.set_place-requires-clause-label
set_place-requires-clause-label c = let l = c.in_ok-added.ensures.ok.label.0.within in omega (arith, rows_texts Label c.add.new.self.entries)

pub set_first-requires-clause-iri : goal.set_first-requires-clause-iri
set_first-requires-clause-iri c =
    let l = c.in_ok-added.ensures.ok.iri.0.within in
    omega (arith, rows_texts Iri c.add.new.self.entries, rows_all c.add.new.self.entries, rows_all c.set_place.new.self, ap length c.set_place.ensures.all)

pub set_first-requires-clause-place : goal.set_first-requires-clause-place
set_first-requires-clause-place c =
    let self = c.add.new.self in
    let es = self.entries in
    let added = c.in_ok-added.added in
    let is = c.in_ok-added.ensures.ok in
    let e : PrefixEntry = record { label = c.args.label.now; iri = c.args.iri.now } in
    let read = added_entry c.args.self.now.entries es e added is in
    let at = added_place c.args.self.now.entries es e added is in
    let free : is_taken e.label (table_of es) ≡ false = ap (is_taken e.label) c.add.ensures.same ∙ c.requires.free in
    let texts = keys_of Iri (all_of es) in
    let made = c.in_ok-first.ensures.ok (λ q. stands_there texts (text_at texts added.iri) (place_at (places_of es) q)) (free_place (all_of es) (places_of es) (leads_of Label es) (leads_of Iri es) self.len self.labels self.iris self.shared c.add.ensures.table e added.number added.label added.iri read.0 read.1 is.label is.iri free at.0 at.1)
    (subst (λ o. ArePlaces self.shared added.iri o (λ q. stands_there texts (text_at texts added.iri) (place_at (places_of es) q))) (sym c.first_place-first.ensures) (c.add.ensures.table.shared.first added.iri is.iri.0)) in
    inside_rows c.set_place.new.self _ (Some c.in_ok-first.first) c.set_place.ensures.places (inserted_inside (all_of es) (places_of es) (leads_of Label es) (leads_of Iri es) self.len self.labels self.iris self.shared c.add.ensures.table e added.number added.label added.iri read.0 read.1 is.label is.iri free at.0 at.1 c.insert.new.self (Some c.in_ok-first.first) made)

pub overflow_add-self : goal.overflow_add-self
overflow_add-self c =
    let self = c.add.new.self in
    omega (arith, c.add.ensures.table.counted, length_at_most (all_of self.entries) (places_of self.entries), rows_places self.entries)

pub returns-clause-table : goal.returns-clause-table
returns-clause-table c =
    let self = c.add.new.self in
    let es = self.entries in
    let added = c.in_ok-added.added in
    let is = c.in_ok-added.ensures.ok in
    let e : PrefixEntry = record { label = c.args.label.now; iri = c.args.iri.now } in
    let read = added_entry c.args.self.now.entries es e added is in
    let at = added_place c.args.self.now.entries es e added is in
    let free : is_taken e.label (table_of es) ≡ false = ap (is_taken e.label) c.add.ensures.same ∙ c.requires.free in
    let texts = keys_of Iri (all_of es) in
    let made = c.in_ok-first.ensures.ok (λ q. stands_there texts (text_at texts added.iri) (place_at (places_of es) q)) (free_place (all_of es) (places_of es) (leads_of Label es) (leads_of Iri es) self.len self.labels self.iris self.shared c.add.ensures.table e added.number added.label added.iri read.0 read.1 is.label is.iri free at.0 at.1)
    (subst (λ o. ArePlaces self.shared added.iri o (λ q. stands_there texts (text_at texts added.iri) (place_at (places_of es) q))) (sym c.first_place-first.ensures) (c.add.ensures.table.shared.first added.iri is.iri.0)) in
    book_is (all_of es) _ (set (places_of es) added.number (Some added.number)) _ (set (leads_of Label es) added.label (Some (record { place = added.number; number = added.number }))) _
    (set (leads_of Iri es) added.iri (lead_to (set (places_of es) added.number (Some added.number)) (Some c.in_ok-first.first))) _ (self.len + 1) self.labels self.iris c.insert.new.self
    (c.set_first.ensures.all ∙ c.set_place.ensures.all) (c.set_first.ensures.places ∙ c.set_place.ensures.places) (c.set_first.ensures.labels ∙ c.set_place.ensures.labels)
    (c.set_first.ensures.iris ∙ (λ i. set (c.set_place.ensures.iris i) added.iri (lead_to (c.set_place.ensures.places i) (Some c.in_ok-first.first))))
    (book_inserted (all_of es) (places_of es) (leads_of Label es) (leads_of Iri es) self.len self.labels self.iris self.shared c.add.ensures.table e added.number added.label added.iri read.0 read.1 is.label is.iri free at.0 at.1 c.insert.new.self (Some c.in_ok-first.first) made (added_last c.args.self.now.entries es e added is) (λ n q. c.insert.ensures.others n q))

pub returns-clause-ok : goal.returns-clause-ok
returns-clause-ok c =
    let self = c.add.new.self in
    let es = self.entries in
    let added = c.in_ok-added.added in
    let is = c.in_ok-added.ensures.ok in
    let e : PrefixEntry = record { label = c.args.label.now; iri = c.args.iri.now } in
    let read = added_entry c.args.self.now.entries es e added is in
    let at = added_place c.args.self.now.entries es e added is in
    (λ i. entries_at ((c.set_first.ensures.all ∙ c.set_place.ensures.all) i) ((c.set_first.ensures.places ∙ c.set_place.ensures.places) i))
    ∙ added_last c.args.self.now.entries es e added is ∙ ap (λ t. t ++ e ∷ []) c.add.ensures.same
