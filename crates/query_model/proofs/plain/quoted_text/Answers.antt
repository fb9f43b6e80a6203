use Rattle.query_model.proofs.TextLaws.{quoted-more, quoted-whole}
use Rattle.query_model.proofs.plain.quoted_text.Goals as goal

pub loop-byte-preserved : goal.loop-byte-preserved
loop-byte-preserved c =
    quoted-more c.args.bytes.now c.loop-byte.text.items c.push_quoted.new.text.items
    c.loop-byte.byte-index 0 c.loop-byte.invariant c.loop-byte-test.true
    c.in_ok-push_quoted.ensures

pub returns : goal.returns
returns c = quoted-whole c.args.bytes.now c.loop-byte.text.items c.push-2.new.self.items
    c.loop-byte.byte-index c.loop-byte.invariant c.loop-byte-test.false c.in_ok-push-2.ensures.items
