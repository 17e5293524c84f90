-- `desk_notices::objects_differ`: the octets of an object tell it.
use mathlib.Core.Path.{sym, ap}
use mathlib.Core.Bool.{not}
use Rattle.desk_notices.proofs.Differing.{same_object}
use Rattle.desk_notices.proofs.objects_differ.Goals as goal

pub returns : goal.returns
returns c =
    ap not (sym (same_object c.args.a c.args.b c.requires.0 c.requires.1))
