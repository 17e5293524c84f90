-- `desk_notices::words_differ`: the octets of a word tell it.
use borrow.Author.Rules.{rules}
use mathlib.Core.Path.{sym, ap}
use mathlib.Core.Bool.{not}
use Rattle.desk_notices.proofs.Differing.{same_word}
use Rattle.desk_notices.proofs.words_differ.Goals as goal

pub returns : goal.returns
returns c =
    ap not (sym (same_word c.args.a c.args.b (search rules) (search rules)))
