-- The lemmas that are laws of paths, for the check of `path_call_laws`.
use Rattle.iref_grammar.proofs.{DirectoryLemmas.{directory-spelled, directory-read}, GuardLemmas.{guarded-fits, guarded_list-shows}}
use Rattle.iref_grammar.proofs.{NormalLemmas.{stays_before-is, excess-is}, SettledLemmas.{normal_again}}
use Rattle.iref_grammar.proofs.NormalPathLemmas.{normal-normalized, normalized-normalized, path_key-normalized_alone}
use Rattle.iref_grammar.proofs.BothEndsLemmas.{whole_rest-is, first_left-gives, last_left-gives}
use Rattle.iref_grammar.proofs.ReadableStepLemmas.{lazy_pushed-readable, pushed-readable, popped-readable, appended-readable}
use Rattle.iref_grammar.proofs.ReadableStepLemmas.{lazy_appended-readable, joined-readable, guarded-readable}
use Rattle.iref_grammar.proofs.ReadableStepLemmas.{normalized-readable, cleared-readable}
use Rattle.iref_grammar.proofs.CountedLemmas.{counted_answer, Decides-paths_compared}

pub ruleset steps = (lazy_pushed-readable, pushed-readable, appended-readable, lazy_appended-readable, joined-readable)

pub ruleset guards = (guarded-fits, guarded_list-shows, guarded-readable, normalized-readable, popped-readable, cleared-readable)

pub ruleset normal_paths = (normal_again, normal-normalized, normalized-normalized, path_key-normalized_alone)

pub ruleset readings = (stays_before-is, excess-is, whole_rest-is, first_left-gives, last_left-gives, counted_answer)

pub ruleset laws = (steps, guards, normal_paths, readings, Decides-paths_compared, directory-spelled, directory-read)
