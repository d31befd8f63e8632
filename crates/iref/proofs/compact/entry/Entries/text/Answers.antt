use Rattle.std.proofs.Common.{ap, ◌∙◌}
use Rattle.iref.specs.PrefixTree.{all_of, key_of}
use Rattle.iref.proofs.PrefixFindLemmas.{entry_key}
use Rattle.iref.proofs.compact.entry.Entries.text.Goals as goal

pub returns : goal.returns
returns c = c.as_bytes.ensures.value ∙ c.key.ensures ∙ ap (key_of c.args.key) c.entry.ensures ∙ entry_key c.args.key (all_of c.args.self.now) c.args.number
