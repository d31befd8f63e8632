use Rattle.std.proofs.Common.{arith, ◌≡◌, [], ◌∷◌, ◌++◌, length, ap, map, sym, subst, ◌∙◌, None}
use Rattle.iref.specs.{PrefixTable.{PrefixEntry}, PrefixPlaces.{entries_at}}
use Rattle.iref.specs.PrefixTree.{all_of, keys_of, leads_of, places_of, IsFirstOf, IsTree}
use Rattle.iref.specs.{declared.compact.entry.Key.TheVariants.{Label, Iri}, declared.compact.entry.Row.{Row}}
use Rattle.iref.proofs.{PrefixBookLemmas.{book_is}, PrefixChangeLemmas.{book_more, keys_more}}
use Rattle.iref.proofs.{PrefixFindLemmas.{rows_all}, PrefixPlaceLemmas.{entries_of_more, entries_spared}}
use Rattle.iref.proofs.compact.table.Table.add.Goals as goal

pub returns-clause-table : goal.returns-clause-table
returns-clause-table c =
    let self = c.reserve.new.self in
    let old = self.entries in
    let new = c.push.new.self in
    let e : PrefixEntry = record { label = c.args.label.now; iri = c.args.iri.now } in
    let pushed : all_of new ≡ all_of old ++ e ∷ [] = c.push.ensures.all ∙ ap (λ d. all_of old ++ d ∷ []) c.in_ok-entry.ensures in
    let by_label = subst (λ t. IsTree (keys_of Label (all_of old) ++ t ∷ []) c.add-label.new.self) c.as_bytes-texts.ensures.value c.add-label.ensures.tree in
    let by_iri = subst (λ t. IsTree (keys_of Iri (all_of old) ++ t ∷ []) c.add-iri.new.self) c.as_bytes-texts-2.ensures.value c.add-iri.ensures.tree in
    book_is (all_of old ++ e ∷ []) (all_of new) (places_of old ++ None ∷ []) (places_of new) (leads_of Label old ++ None ∷ []) (leads_of Label new) (leads_of Iri old ++ None ∷ []) (leads_of Iri new)
    self.len c.add-label.new.self c.add-iri.new.self self.shared pushed c.push.ensures.places c.push.ensures.labels c.push.ensures.iris
    (book_more (all_of old) e (places_of old) (leads_of Label old) (leads_of Iri old) self.len self.labels self.iris c.add-label.new.self c.add-iri.new.self self.shared c.reserve.ensures.table by_label by_iri)

pub returns-clause-same : goal.returns-clause-same
returns-clause-same c =
    let old = c.reserve.new.self.entries in
    let e : PrefixEntry = record { label = c.args.label.now; iri = c.args.iri.now } in
    let pushed : all_of c.push.new.self ≡ all_of old ++ e ∷ [] = c.push.ensures.all ∙ ap (λ d. all_of old ++ d ∷ []) c.in_ok-entry.ensures in
    (λ i. entries_at (pushed i) (c.push.ensures.places i)) ∙ entries_spared (all_of old ++ e ∷ []) (places_of old) ∙ entries_of_more (all_of old) e (places_of old) c.reserve.ensures.table.within
    ∙ ap (λ rows. entries_at (map (λ (row : Row). row.entry) rows) (map (λ (row : Row). row.here) rows)) c.reserve.ensures.rows

pub returns-clause-ok : goal.returns-clause-ok
returns-clause-ok c =
    let first = c.args.self.now.entries in
    let old = c.reserve.new.self.entries in
    let new = c.push.new.self in
    let e : PrefixEntry = record { label = c.args.label.now; iri = c.args.iri.now } in
    let pushed : all_of new ≡ all_of old ++ e ∷ [] = c.push.ensures.all ∙ ap (λ d. all_of old ++ d ∷ []) c.in_ok-entry.ensures in
    let rows = c.reserve.ensures.rows in
    record {
      all = pushed ∙ ap (λ rows. map (λ (row : Row). row.entry) rows ++ e ∷ []) rows;
      places = c.push.ensures.places ∙ ap (λ rows. map (λ (row : Row). row.here) rows ++ None ∷ []) rows;
      number = omega (arith, c.len-number.ensures, rows_all first, ap length rows);
      label = subst (λ texts. IsFirstOf texts e.label c.add-label.result) (sym (ap (keys_of Label) pushed ∙ keys_more Label (all_of old) e))
          (subst (λ t. IsFirstOf (keys_of Label (all_of old) ++ t ∷ []) t c.add-label.result) c.as_bytes-texts.ensures.value c.add-label.ensures.first);
      iri = subst (λ texts. IsFirstOf texts e.iri c.add-iri.result) (sym (ap (keys_of Iri) pushed ∙ keys_more Iri (all_of old) e))
          (subst (λ t. IsFirstOf (keys_of Iri (all_of old) ++ t ∷ []) t c.add-iri.result) c.as_bytes-texts-2.ensures.value c.add-iri.ensures.first);
    }
