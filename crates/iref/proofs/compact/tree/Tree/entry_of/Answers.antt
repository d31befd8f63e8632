use Rattle.std.proofs.Common.{rules, arith, ◌≡◌, ap, sym, ◌∙◌, None, Some}
use Rattle.std.specs.Option.{option_copied}
use Rattle.iref.specs.PrefixTree.{all_of, keys_of, leads_of, places_of}
use Rattle.iref.proofs.PrefixFindLemmas.{absent_placed, none_placed, first_placed, rows_texts, led_to, led_none}
use Rattle.iref.proofs.compact.tree.Tree.entry_of.Goals as goal

pub returns-in_err-number : goal.returns-in_err-number
returns-in_err-number c =
    let none : option_copied c.from_residual.result ≡ None = search rules in
    none ∙ sym (absent_placed c.args.key (all_of c.args.entries.now) (places_of c.args.entries.now) c.args.text.now c.requires.within c.in_err-number.ensures)

pub lead-requires : goal.lead-requires
lead-requires c = let l = c.in_ok-number.ensures.0.within in omega (arith, rows_texts c.args.key c.args.entries.now)

pub returns-in_err-lead : goal.returns-in_err-lead
returns-in_err-lead c =
    let none : option_copied c.from_residual-in_err-lead.result ≡ None = search rules in
    none ∙ sym (none_placed c.args.key (all_of c.args.entries.now) (places_of c.args.entries.now) c.args.text.now
    (led_none (keys_of c.args.key (all_of c.args.entries.now)) (places_of c.args.entries.now) (leads_of c.args.key c.args.entries.now) c.args.text.now c.in_ok-number.number c.requires.led c.in_ok-number.ensures (sym c.lead.ensures ∙ c.in_err-lead.was)))

pub entry-requires : goal.entry-requires
entry-requires c =
    let led = led_to (keys_of c.args.key (all_of c.args.entries.now)) (places_of c.args.entries.now) (leads_of c.args.key c.args.entries.now) c.args.text.now c.in_ok-number.number c.in_ok-lead.lead c.requires.led c.in_ok-number.ensures (sym c.lead.ensures ∙ c.in_ok-lead.was) in
    omega (arith, led.within, rows_texts c.args.key c.args.entries.now)

pub returns : goal.returns
returns c =
    let led = led_to (keys_of c.args.key (all_of c.args.entries.now)) (places_of c.args.entries.now) (leads_of c.args.key c.args.entries.now) c.args.text.now c.in_ok-number.number c.in_ok-lead.lead c.requires.led c.in_ok-number.ensures (sym c.lead.ensures ∙ c.in_ok-lead.was) in
    ap (λ e. Some e) c.entry.ensures ∙ sym (first_placed c.args.key (all_of c.args.entries.now) (places_of c.args.entries.now) c.args.text.now c.in_ok-lead.lead led)
