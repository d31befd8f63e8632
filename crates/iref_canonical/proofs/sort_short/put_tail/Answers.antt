use Rattle.std.proofs.Common.{arith, ◌∙◌, ap, drop}
use Rattle.std.specs.Option.{option_copied}
use Rattle.iref_canonical.specs.Padded.{text_in}
use Rattle.iref_canonical.proofs.{PaddedLemmas.{marked_rest, marked_size}, SortCutLemmas.{fragment_begins, query_begins}}
use Rattle.iref_canonical.proofs.SortPutLemmas.{length_in}
use Rattle.iref_canonical.proofs.sort_short.put_tail.Goals as goal

pub skip-rest-requires-clause-within : goal.skip-rest-requires-clause-within
skip-rest-requires-clause-within c =
    let begins = query_begins c.args.slices (text_in c.args.text) c.requires.spelled in
    omega (arith, marked_size 1 (option_copied c.args.slices.query) (text_in c.args.text) begins, length_in c.args.text c.requires.padded)

pub put_option-requires-clause-begins : goal.put_option-requires-clause-begins
put_option-requires-clause-begins c =
    let begins = query_begins c.args.slices (text_in c.args.text) c.requires.spelled in
    let rest = ap (λ n. drop n (text_in c.args.text)) c.marked_len.ensures ∙ marked_rest 1 (option_copied c.args.slices.query) (text_in c.args.text) begins in
    fragment_begins c.args.slices (text_in c.skip-rest.result) (c.skip-rest.ensures.text ∙ rest)
