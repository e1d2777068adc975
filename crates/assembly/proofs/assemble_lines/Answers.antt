-- Line by line all requests and messages are written.
use Rattle.std.proofs.Common.{arith}
use Rattle.assembly.proofs.Assembled.{assembled_more, all_requests, all_messages, all_done}
use Rattle.assembly.proofs.assemble_lines.Goals as goal

pub loop-text-preserved : goal.loop-text-preserved
loop-text-preserved c =
    let first = rw (c.in-Some.text-is, c.in-Some.more-is) at c.in-Some.ensures.bytes in
    let r = c.put_request-requests.ensures in
    let m = c.put-messages.ensures in
    assembled_more c.loop-text.invariant first c.read-read.ensures r.within r.put m.within m.put

pub returns : goal.returns
returns c =
    let p = c.loop-text.invariant in
    let none = c.in_default.ensures.bytes in
    record {
      turn = (all_done p none, p.within);
      in_bounds = (omega arith, omega arith);
      out_after = (all_requests p none).bytes;
      errors_after = (all_messages p none).bytes;
    }
