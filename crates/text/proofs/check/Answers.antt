-- `text::check`: the scan says it; of a long text, octets that are all below 0x80 are characters of one octet each.
use mathlib.Core.Path.{sym, ap}
use Rattle.text.specs.Utf8.{said_of, text_said}
use Rattle.text.proofs.Run.{ascii_is_text}
use Rattle.text.proofs.check.Goals as goal

pub returns-then-s-lt32 : goal.returns-then-s-lt32
unfolding text_said
returns-then-s-lt32 c =
    ap said_of c.scan.ensures

pub returns-then-is_plain : goal.returns-then-is_plain
unfolding text_said
returns-then-is_plain c =
    ap said_of (sym (ascii_is_text _ (c.is_plain.ensures c.if-is_plain.true)))

pub returns : goal.returns
unfolding text_said
returns c =
    ap said_of c.scan-2.ensures
