-- `vectors::main`: the buffer's length is that of its zeros, by the law and not by counting; the read gives no more than that.
use Rattle.std.proofs.Common.{ℕ, sym}
use lib.ListN.{length-replicate}
use Rattle.vectors.proofs.main.Goals as goal

pub slice_bounds-read_full-end : goal.slice_bounds-read_full-end
slice_bounds-read_full-end c =
    sym (length-replicate {0} {A = ℕ} 4194304 0)

pub slice_bounds-input-end : goal.slice_bounds-input-end
slice_bounds-input-end c =
    c.read_full-n.ensures.0

pub slice_bounds-frames-end : goal.slice_bounds-frames-end
slice_bounds-frames-end c =
    c.read_full-n.ensures.1
