-- `catalogue_cue::past_no_lf`: each piece is as many steps as it has octets, and what is still to come starts at the place.
use mathlib.Core.Path.{◌≡◌, sym, ap, ◌∙◌}
use mathlib.Core.Bool.{false}
use mathlib.Core.List.{◌++◌}
use Prim.Native.Nat.{ℕ, ◌+◌, ◌<◌}
use native.Mathlib.Omega.{arith}
use borrow.Author.Tests.{not-true}
use borrow.Author.Rules.{rules}
use lib.ListN.{length, get_or, drop}
use Rattle.std.specs.Slice.Iter.{chunks_exact_rest}
use Rattle.ground.proofs.Bounded.{all_at}
use Rattle.catalogue_cue.specs.Scan.{is_lf}
use Rattle.catalogue_cue.proofs.Ahead.{ahead_past, passes_more, piece_within, piece_at, piece_behind}
use Rattle.catalogue_cue.proofs.past_no_lf.Goals as goal

pub loop-piece-preserved : goal.loop-piece-preserved
loop-piece-preserved c =
    let s = c.args.sheet.now in
    let i = c.loop-piece.i in
    let n = c.args.width in
    let l = c.loop-piece.invariant in
    let piece = c.in-Some.piece.now in
    let rest = chunks_exact_rest c.next.new.self in
    let splits : drop i s ≡ piece ++ rest = sym l.rest ∙ c.in-Some.ensures.steps.1.0 in
    let long : length piece ≡ n = c.in-Some.ensures.steps.1.1 ∙ l.width in
    let within = piece_within s piece rest i n splits long l.passes.high in
    let none : (j : ℕ) → j < n → is_lf (get_or s (i + j) 0) ≡ false = λ j k.
    ap is_lf (piece_at s piece rest i n splits long j k) ∙ not-true _ (all_at _ _ (sym c.no_lf.ensures ∙ c.if-not-no_lf.false) j (rw long k)) in
    record {
      can_next = search rules;
      is_finite = search rules;
      width = search rules;
      rest = piece_behind s piece rest i n splits long;
      passes = passes_more is_lf s c.args.at i (i + n) l.passes (record { low = omega arith; high = within; same = ahead_past is_lf n s i within none });
    }
