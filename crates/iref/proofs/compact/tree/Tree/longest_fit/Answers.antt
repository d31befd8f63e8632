use Rattle.std.proofs.Common.{rules, arith, ◌≡◌, ◌<◌, length, ap, sym, ◌∙◌, None, Some}
use Rattle.std.specs.Option.{option_copied}
use Rattle.iref.specs.declared.compact.entry.Key.TheVariants.{Iri}
use Rattle.iref.specs.PrefixTree.{all_of, keys_of, leads_of, places_of, text_at}
use Rattle.iref.proofs.PrefixFindLemmas.{none_longest, near_longest, nothing_ended, ended_within, ended_longest, last_none, last_within, last_longest, whole_apart, whole_led, entry_key, lead_within, rows_all, rows_texts}
use Rattle.iref.proofs.compact.tree.Tree.longest_fit.Goals as goal

pub returns-then-not-may_fit : goal.returns-then-not-may_fit
returns-then-not-may_fit c = sym (none_longest c.args.text.now (all_of c.args.entries.now) (places_of c.args.entries.now) c.requires.within (λ n fit has. c.may_fit.ensures c.if-not-may_fit.true (keys_of Iri (all_of c.args.entries.now)) c.requires.tree n fit))

pub returns-in_err-near : goal.returns-in_err-near
returns-in_err-near c =
    let none : option_copied c.from_residual.result ≡ None = search rules in
    none ∙ sym (none_longest c.args.text.now (all_of c.args.entries.now) (places_of c.args.entries.now) c.requires.within (λ n fit has. (let l = fit.0 in omega (arith, ap length c.in_err-near.ensures))))

pub lead_of_whole-requires : goal.lead_of_whole-requires
lead_of_whole-requires c = let l = c.in_ok-near.ensures.first.within in omega (arith, rows_texts Iri c.args.entries.now)

pub entry-requires : goal.entry-requires
entry-requires c =
    let led = whole_led c.args.text.now (all_of c.args.entries.now) (places_of c.args.entries.now) c.requires.within (λ k. omega (arith, c.type_inv.text k)) c.requires.tree.bytes c.in_ok-near.near c.common_front-common.result c.in_ok-near.ensures c.common_front-common.ensures
    (leads_of Iri c.args.entries.now) c.lead_of_whole.result c.requires.led c.lead_of_whole.ensures.whole c.lead_of_whole.ensures.part c.in-Some.lead c.in-Some.is in
    omega (arith, lead_within Iri (all_of c.args.entries.now) c.in-Some.lead led.0, rows_all c.args.entries.now)

pub returns-in-Some : goal.returns-in-Some
returns-in-Some c =
    let all = (all_of c.args.entries.now) in
    let led = whole_led c.args.text.now (all_of c.args.entries.now) (places_of c.args.entries.now) c.requires.within (λ k. omega (arith, c.type_inv.text k)) c.requires.tree.bytes c.in_ok-near.near c.common_front-common.result c.in_ok-near.ensures c.common_front-common.ensures
    (leads_of Iri c.args.entries.now) c.lead_of_whole.result c.requires.led c.lead_of_whole.ensures.whole c.lead_of_whole.ensures.part c.in-Some.lead c.in-Some.is in
    ap (λ e. Some e) c.entry.ensures
    ∙ sym (near_longest c.args.text.now (all_of c.args.entries.now) (places_of c.args.entries.now) c.requires.within (λ k. omega (arith, c.type_inv.text k)) c.requires.tree.bytes c.in_ok-near.near c.common_front-common.result c.in_ok-near.ensures c.common_front-common.ensures
    c.in-Some.lead led.0 led.1)

pub returns-in_err-ended : goal.returns-in_err-ended
returns-in_err-ended c =
    let none : option_copied c.from_residual-in_err-ended.result ≡ None = search rules in
    let apart = whole_apart c.args.text.now (all_of c.args.entries.now) (places_of c.args.entries.now) c.requires.within (λ k. omega (arith, c.type_inv.text k)) c.requires.tree.bytes c.in_ok-near.near c.common_front-common.result c.in_ok-near.ensures c.common_front-common.ensures
    (leads_of Iri c.args.entries.now) c.lead_of_whole.result c.requires.led c.lead_of_whole.ensures.whole c.lead_of_whole.ensures.part c.in_default.is in
    none ∙ sym (nothing_ended c.args.text.now (all_of c.args.entries.now) (places_of c.args.entries.now) c.requires.within (λ k. omega (arith, c.type_inv.text k)) c.requires.tree.bytes c.in_ok-near.near c.common_front-common.result c.in_ok-near.ensures c.common_front-common.ensures
    apart c.in_err-ended.was)

pub entry-entry-requires : goal.entry-entry-requires
entry-entry-requires c = omega (arith, ended_within c.args.text.now (all_of c.args.entries.now) (places_of c.args.entries.now) c.requires.within (λ k. omega (arith, c.type_inv.text k)) c.requires.tree.bytes c.in_ok-near.near c.common_front-common.result c.in_ok-near.ensures c.common_front-common.ensures c.in_ok-ended.ended c.in_ok-ended.was, rows_all c.args.entries.now)

pub returns-then-text-common : goal.returns-then-text-common
returns-then-text-common c =
    let all = (all_of c.args.entries.now) in
    let ended = c.in_ok-ended.ended in
    let read = c.entry-entry.ensures in
    let key = entry_key Iri all ended.number in
    let apart = whole_apart c.args.text.now (all_of c.args.entries.now) (places_of c.args.entries.now) c.requires.within (λ k. omega (arith, c.type_inv.text k)) c.requires.tree.bytes c.in_ok-near.near c.common_front-common.result c.in_ok-near.ensures c.common_front-common.ensures
    (leads_of Iri c.args.entries.now) c.lead_of_whole.result c.requires.led c.lead_of_whole.ensures.whole c.lead_of_whole.ensures.part c.in_default.is in
    ap (λ e. Some e) read ∙ sym (ended_longest c.args.text.now (all_of c.args.entries.now) (places_of c.args.entries.now) c.requires.within (λ k. omega (arith, c.type_inv.text k)) c.requires.tree.bytes c.in_ok-near.near c.common_front-common.result c.in_ok-near.ensures c.common_front-common.ensures ended c.in_ok-ended.was
    apart (omega (arith, ap length key, ap (λ e. length e.iri) read, ap length c.text.ensures, c.if-text-common.true)))

pub returns-in_err-last : goal.returns-in_err-last
returns-in_err-last c =
    let l = c.in_ok-near.ensures.first.within in
    absurd (omega (arith, ap length c.in_err-last.ensures))

pub returns-in_err-ended-2 : goal.returns-in_err-ended-2
returns-in_err-ended-2 c =
    let all = (all_of c.args.entries.now) in
    let ended = c.in_ok-ended.ended in
    let read = c.entry-entry.ensures in
    let key = entry_key Iri all ended.number in
    let far = c.if-text-common.false in
    let none : option_copied c.from_residual-in_err-ended-2.result ≡ None = search rules in
    none ∙ sym (last_none c.args.text.now (all_of c.args.entries.now) (places_of c.args.entries.now) c.requires.within (λ k. omega (arith, c.type_inv.text k)) c.requires.tree.bytes c.in_ok-near.near c.common_front-common.result c.in_ok-near.ensures c.common_front-common.ensures ended c.in_ok-ended.was
    (omega (arith, ap length key, ap (λ e. length e.iri) read, ap length c.text.ensures)) c.in_ok-last.last c.in_ok-last.ensures c.in_err-ended-2.was)

pub entry-requires-2 : goal.entry-requires-2
entry-requires-2 c =
    let all = (all_of c.args.entries.now) in
    let ended = c.in_ok-ended.ended in
    let read = c.entry-entry.ensures in
    let key = entry_key Iri all ended.number in
    let far = c.if-text-common.false in
    omega (
      arith,
      last_within c.args.text.now (all_of c.args.entries.now) (places_of c.args.entries.now) c.requires.within (λ k. omega (arith, c.type_inv.text k)) c.requires.tree.bytes c.in_ok-near.near c.common_front-common.result c.in_ok-near.ensures c.common_front-common.ensures ended c.in_ok-ended.was
          (omega (arith, ap length key, ap (λ e. length e.iri) read, ap length c.text.ensures)) c.in_ok-last.last c.in_ok-last.ensures c.in_ok-ended-2.ended c.in_ok-ended-2.was,
      rows_all c.args.entries.now,
    )

pub returns : goal.returns
returns c =
    let all = (all_of c.args.entries.now) in
    let ended = c.in_ok-ended.ended in
    let read = c.entry-entry.ensures in
    let key = entry_key Iri all ended.number in
    let far = c.if-text-common.false in
    let upto : c.common_front-common.result < length (text_at (keys_of Iri all) ended.number) = omega (arith, ap length key, ap (λ e. length e.iri) read, ap length c.text.ensures) in
    ap (λ e. Some e) c.entry-2.ensures
    ∙ sym (last_longest c.args.text.now (all_of c.args.entries.now) (places_of c.args.entries.now) c.requires.within (λ k. omega (arith, c.type_inv.text k)) c.requires.tree.bytes c.in_ok-near.near c.common_front-common.result c.in_ok-near.ensures c.common_front-common.ensures ended c.in_ok-ended.was
    upto c.in_ok-last.last c.in_ok-last.ensures c.in_ok-ended-2.ended c.in_ok-ended-2.was)
