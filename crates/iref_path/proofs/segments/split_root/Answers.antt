use Rattle.std.proofs.Common.{◌≡◌, arith, refl}
use Rattle.iref_grammar.specs.{segments_of, read_path}
use Rattle.iref_path.proofs.{SlashLemmas.{read-absolute, read-relative}, segments.split_root.Goals.{in-Some, in-None}}
use Rattle.iref_path.proofs.segments.split_root.Goals as goal

pub returns-then-is_empty-clause-path : goal.returns-then-is_empty-clause-path
returns-then-is_empty-clause-path c =
    let read : read_path c.args.path.now ≡ record { absolute = c.match-strip_mark.absolute.0; segments = segments_of c.match-strip_mark.absolute.1.now } =
    elim c.match-strip_mark.branch [ in-Some w ↦ rw w.absolute-is (read-absolute _ w.in-Some.text.now _ w.in-Some.ensures refl) | in-None w ↦ rw w.absolute-is (read-relative _ _ w.in-None.ensures refl) ] in
    grind (arith, read)

pub returns-else-is_empty-clause-path : goal.returns-else-is_empty-clause-path
returns-else-is_empty-clause-path c =
    let read : read_path c.args.path.now ≡ record { absolute = c.match-strip_mark.absolute.0; segments = segments_of c.match-strip_mark.absolute.1.now } =
    elim c.match-strip_mark.branch [ in-Some w ↦ rw w.absolute-is (read-absolute _ w.in-Some.text.now _ w.in-Some.ensures refl) | in-None w ↦ rw w.absolute-is (read-relative _ _ w.in-None.ensures refl) ] in
    grind (arith, read)
