use Rattle.iref_path.proofs.DirectoryLemmas.{common_size}
use Rattle.iref_path.proofs.segments.behind_directory.Goals as goal

pub slice_bounds-last_slash-end : goal.slice_bounds-last_slash-end
slice_bounds-last_slash-end c =
    common_size c.args.left.now c.args.right.now c.as_bytes.result.now c.as_bytes-2.result.now c.as_bytes-3.result.now c.common_front-common.result
    c.as_bytes.ensures.value c.as_bytes-2.ensures.value c.as_bytes-3.ensures.value c.common_front-common.ensures
